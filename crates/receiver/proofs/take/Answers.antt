use Rattle.reassembly.specs.Parts.{with_bytes}
use Rattle.words.specs.Words.{table_in}
use Rattle.receiver.proofs.Turns.{takes}
use Rattle.receiver.proofs.take.Goals as goal

pub returns : goal.returns
returns c = let a = c.args in
    takes (table_in a.t.now) a.time (with_bytes a.part a.bytes.now) _ c.slot_for-index.ensures a.mem.now a.out.now _ c.slot_at-slot.ensures c.take_at-d.result _ _ c.take_at-d.ensures _ c.put_slot.ensures
