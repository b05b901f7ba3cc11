use native.Mathlib.Omega.{arith}
use Rattle.capture.proofs.BlockSteps.{count_small, count-whole}
use Rattle.capture.proofs.block.frame_len.Goals as goal

pub bounds-block-k : goal.bounds-block-k
bounds-block-k c = omega (arith, count_small c.args.block.now, count-whole c.args.block.now c.args.k c.requires)
