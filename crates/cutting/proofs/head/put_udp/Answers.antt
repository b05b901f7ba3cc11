use Prim.Native.Nat.{◌+◌}
use native.Mathlib.Omega.{arith}
use mathlib.Core.Path.{ap}
use Rattle.sixlowpan.proofs.NhcPuts.{length-udp}
use Rattle.octets.proofs.Puts.{put-nil}
use Rattle.cutting.specs.Head.{udp_size}
use Rattle.cutting.proofs.HeadLaws.{put-emitted}
use Rattle.cutting.proofs.head.put_udp.Goals as goal

pub overflow_add-end : goal.overflow_add-end
overflow_add-end c = let k = ap udp_size c.in-Some.is in omega arith

pub slice_bounds-emit-end : goal.slice_bounds-emit-end
slice_bounds-emit-end c = let k = ap udp_size c.in-Some.is in omega arith

pub returns-in-Some : goal.returns-in-Some
returns-in-Some c = let k = ap udp_size c.in-Some.is in
    rw c.in-Some.is (put-emitted _ _ _ _ _ _ (length-udp c.in-Some.h) (ap (λ z. c.args.at + z) c.buffer_len.ensures) (omega arith) c.emit.ensures.1)

pub returns-in-None : goal.returns-in-None
returns-in-None c = rw c.in-None.is (put-nil _ _)
