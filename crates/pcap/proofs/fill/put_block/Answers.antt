use Rattle.pcap.proofs.Filling.{block-put, frames-length, each_at}
use Rattle.pcap.specs.Placing.{frames_at}
use Rattle.capture.specs.Made.{Bytes}
use lib.ListN.{length}
use Prim.Native.Nat.{◌≤◌}
use native.Mathlib.Omega.{arith}
use Rattle.pcap.proofs.fill.put_block.Goals as goal

pub returns : goal.returns
returns c = let s = c.args.s.now in
    let b : Bytes s = λ i. omega (arith, c.type_inv.s i) in
    let fs = frames_at c.args.n s c.args.at in
    let e = frames-length c.args.n s c.args.at in
    let p = c.requires.0 in
    let few : length fs ≤ 3 = omega arith in
    (c.put_places-next.ensures.0, block-put c.args.number c.args.n fs few (each_at c.args.n s c.args.at b c.requires.1.0) e _ _ _ _ _ _ _ c.requires.1.1 c.put_front.ensures c.put_places-next.ensures.1 c.put_zeros.ensures c.fcs-check.ensures c.put_le16.ensures)
