use mathlib.Core.Path.{refl}
use Rattle.reassembly.specs.Slots.{no_node, no_source, no_key, free_slot}
use Rattle.reassembly.proofs.slot.Slot.free.Goals as goal

pub returns : goal.returns
unfolding free_slot no_key no_source no_node
returns c = refl
