use native.Mathlib.Omega.{arith}
use Prim.Native.Nat.{◌<◌}
use Rattle.capture.proofs.BlockSteps.{count_small, count-whole}
use Rattle.capture.specs.Block.{count_of}
use Rattle.capture.proofs.block.frame.Goals as goal

pub slice_bounds-result-end : goal.slice_bounds-result-end
slice_bounds-result-end c = let h : c.args.k < count_of c.args.block.now = omega arith in omega (arith, count_small c.args.block.now, count-whole c.args.block.now c.args.k (h))
