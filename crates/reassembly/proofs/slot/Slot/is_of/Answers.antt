use borrow.Author.Rules.{rules}
use Rattle.reassembly.specs.Slots.{same_node, same_source, is_of}
use Rattle.reassembly.proofs.slot.Slot.is_of.Goals as goal

pub returns-then-self-eq1 : goal.returns-then-self-eq1
unfolding is_of same_source same_node
returns-then-self-eq1 c = search rules

pub returns-else-self-eq1 : goal.returns-else-self-eq1
unfolding is_of same_source same_node
returns-else-self-eq1 c = search rules
