use Rattle.words.proofs.Numbers.{Held, table-slot, slot-back, no_slot, slot-words}
use mathlib.Core.Path.{ap, ◌∙◌}
use native.Mathlib.Omega.{arith}
use Rattle.words.specs.Words.{table_in, with_slot, slot_words}
use Rattle.words.proofs.Numbers.{Held, table-slot, slot-back, no_slot}
use Rattle.words.proofs.write.put_slot.Goals as goal

pub returns-then-i-lt-SLOTS : goal.returns-then-i-lt-SLOTS
returns-then-i-lt-SLOTS c = let s = c.args.s in
    let g = c.well_formed.1.1.0.1.1 in
    let held : Held s = record { size = omega arith; tag = omega arith; ip = omega arith; udp = omega arith; covered = g.1.1.0.1.0.1; starts = g.1.1.1.0.1.0.1 } in
    ap table_in c.put_words.ensures ∙ table-slot c.args.t.now c.told-t (slot_words s) (slot-words s) c.args.i c.if-i-lt-SLOTS.true ∙ ap (with_slot (table_in c.args.t.now) c.args.i) (slot-back s held)

pub returns-else-i-lt-SLOTS : goal.returns-else-i-lt-SLOTS
returns-else-i-lt-SLOTS c = no_slot c.args.t.now c.args.i c.args.s c.if-i-lt-SLOTS.false
