use native.Mathlib.Omega.{arith}
use lib.Pow.{pow_pos}
use mathlib.Core.Path.{◌≡◌}
use Prim.Native.Nat.{◌<◌, ◌^◌}
use Rattle.marks.proofs.below.Goals as goal

pub overflow_sub-result : goal.overflow_sub-result
overflow_sub-result c =
    let p : 0 < 2 ^ c.args.h = pow_pos c.args.h in
    rw c.bit.ensures p

pub returns-then-h-lt64 : goal.returns-then-h-lt64
returns-then-h-lt64 c = rw c.bit.ensures

pub returns : goal.returns
returns c =
    let e : c.args.h ≡ 64 = omega arith in
    rw e
