use native.Mathlib.Omega.{arith}
use mathlib.Core.Path.{ap}
use Prim.Native.Nat.{◌+◌}
use Rattle.sixlowpan.proofs.FragPuts.{length-bytes}
use Rattle.cutting.proofs.HeadLaws.{put-emitted}
use Rattle.cutting.proofs.write.put_frag.Goals as goal

pub returns : goal.returns
returns c = put-emitted _ _ _ _ _ _ (length-bytes c.args.h) (ap (λ z. c.args.at + z) c.buffer_len.ensures) (omega arith) c.emit.ensures.1
