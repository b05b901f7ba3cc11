use borrow.Author.Rules.{rules}
use Rattle.reassembly.specs.Slots.{same_node, same_source, same_key, is_key}
use Rattle.reassembly.proofs.slot.Slot.has_key.Goals as goal

pub returns-then-self-eq1 : goal.returns-then-self-eq1
unfolding is_key same_key same_source same_node
returns-then-self-eq1 c = search rules

pub returns-else-self-eq1 : goal.returns-else-self-eq1
unfolding is_key same_key same_source same_node
returns-else-self-eq1 c = search rules
