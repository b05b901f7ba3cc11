use mathlib.Core.Path.{◌≡◌, sym, ap, ◌∙◌}
use native.Mathlib.Omega.{arith}
use Prim.Native.Nat.{◌*◌}
use lib.ListN.{length}
use Rattle.octets.specs.Write.{put}
use Rattle.expand.proofs.CopyLaws.{length-put}
use Rattle.expand.proofs.ExpandLaws.{rest-told}
use Rattle.reassembly.specs.Parts.{with_bytes, taken_in}
use Rattle.reassembly.proofs.Parts.{does-full, does-kept}
use Rattle.reassembly.proofs.part.place_part.Goals as goal

pub is_full-requires : goal.is_full-requires
unfolding taken_in
is_full-requires c = rw c.with_part-slot.ensures c.requires.small

pub hand_out-requires : goal.hand_out-requires
unfolding taken_in
hand_out-requires c =
    let a = c.args in
    let g = c.requires in
    let z : c.with_part-slot.result.key.size ≡ a.s.key.size = rw c.with_part-slot.ensures in
    let l : length c.put_slice.new.buf ≡ length a.room.now = ap length c.put_slice.ensures ∙ length-put c.bytes.result _ a.room.now in
    (omega (arith, g.small), omega (arith, g.small, g.room), omega (arith, g.small, g.output))

pub shape_of-room-then-is_full : goal.shape_of-room-then-is_full
shape_of-room-then-is_full c = ap length c.put_slice.ensures ∙ length-put c.bytes.result _ c.args.room.now

pub returns-then-is_full : goal.returns-then-is_full
returns-then-is_full c =
    let a = c.args in
    let eb : c.put_slice.new.buf ≡ put (a.part.offset.0 * 8) a.bytes.now a.room.now = rw c.bytes.ensures at (rest-told a.bytes.now a.room.now _ c.bytes.result 0 c.put_slice.ensures) in
    does-full a.s a.room.now (with_bytes a.part a.bytes.now) c.hand_out.result c.with_part-slot.result c.free.result c.put_slice.new.buf a.out.now _ eb c.with_part-slot.ensures (sym c.is_full.ensures ∙ c.if-is_full.true) c.free.ensures c.hand_out.ensures

pub returns : goal.returns
returns c =
    let a = c.args in
    let eb : c.put_slice.new.buf ≡ put (a.part.offset.0 * 8) a.bytes.now a.room.now = rw c.bytes.ensures at (rest-told a.bytes.now a.room.now _ c.bytes.result 0 c.put_slice.ensures) in
    does-kept a.s a.room.now (with_bytes a.part a.bytes.now) c.with_part-slot.result c.put_slice.new.buf a.out.now eb c.with_part-slot.ensures (sym c.is_full.ensures ∙ c.if-is_full.false)
