use Rattle.pcap.proofs.Filling.{frame-short, place_read, place-refused, place-unused}
use Rattle.capture.specs.Made.{Bytes}
use native.Mathlib.Omega.{arith}
use Rattle.pcap.proofs.fill.put_place.Goals as goal

pub put_used-requires : goal.put_used-requires
put_used-requires c =
    let s = c.args.s.now in
    let b : Bytes s = λ i. omega (arith, c.type_inv.s i) in
    (frame-short s _ _ c.frame.ensures _ c.in-Ok.is b c.requires.0, c.requires.1)

pub returns-in-Ok : goal.returns-in-Ok
returns-in-Ok c = place_read _ _ _ c.frame.ensures _ _ _ _ c.in-Ok.is c.put_used.ensures _ c.if-used.true

pub returns-in-Err : goal.returns-in-Err
returns-in-Err c = place-refused _ _ _ c.frame.ensures _ _ _ _ c.in-Err.is c.put_zeros.ensures _ c.if-used.true

pub returns : goal.returns
returns c = place-unused _ _ _ _ _ c.put_zeros-2.ensures _ c.if-used.false
