use mathlib.Core.Path.{sym, ◌∙◌}
use native.Mathlib.Omega.{arith}
use lib.ListN.{get_or-eq_default}
use Rattle.reassembly.specs.Slots.{free_slot}
use Rattle.words.specs.Words.{table_in}
use Rattle.words.proofs.Numbers.{slot_is, slots-eight}
use Rattle.words.proofs.read.slot_at.Goals as goal

pub returns-then-i-lt-SLOTS : goal.returns-then-i-lt-SLOTS
returns-then-i-lt-SLOTS c = c.slot_from.ensures ∙ sym (slot_is c.args.t.now c.args.i free_slot c.if-i-lt-SLOTS.true)

pub returns-else-i-lt-SLOTS : goal.returns-else-i-lt-SLOTS
returns-else-i-lt-SLOTS c = c.free.ensures ∙ sym (get_or-eq_default (table_in c.args.t.now).slots free_slot (omega (arith, slots-eight c.args.t.now)))
