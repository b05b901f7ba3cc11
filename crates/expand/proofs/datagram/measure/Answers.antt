use Rattle.expand.proofs.Datagrams.{room-enough}
use lib.ListN.{replicate, length-replicate}
use mathlib.Core.Path.{◌∙◌}
use native.Mathlib.Omega.{arith}
use Prim.Native.Nat.{ℕ}
use Rattle.expand.proofs.datagram.measure.Goals as goal

pub returns : goal.returns
returns c = c.expand_from.ensures.0 ∙ room-enough c.args.contexts.now c.args.ll.src c.args.ll.dst c.args.size c.args.frame.now c.args.c.at (replicate 455 0) (omega (arith, length-replicate {A = ℕ} 455 0))
