use Rattle.std.proofs.lemmas.Result.{err_from_is_err_and}
use Rattle.expand.proofs.WalkLaws.{ends-unknown, ends-udp, ends-udp-no}
use native.Mathlib.Omega.{arith}
use lib.ListN.{length-drop}
use Rattle.expand.proofs.chain.end_udp.Goals as goal

pub returns-then-is_unknown : goal.returns-then-is_unknown
returns-then-is_unknown c = ends-unknown c.args.size c.args.w c.args.h c.args.frame.now c.args.out.now c.args.c.at _ c.is_unknown.ensures c.if-is_unknown.true

pub overflow_cast-len : goal.overflow_cast-len
overflow_cast-len c = omega (arith, c.left.ensures, length-drop c.args.c.at c.args.frame.now, c.requires.1)

pub overflow_add-len-2 : goal.overflow_add-len-2
overflow_add-len-2 c = omega (arith, c.left.ensures, length-drop c.args.c.at c.args.frame.now, c.requires.0, c.requires.1)

pub returns-in_err-total : goal.returns-in_err-total
returns-in_err-total c = let p = err_from_is_err_and c.from_residual.result c.from_residual.ensures.1 in
    rw (p.1, p.2) (ends-udp-no c.args.size c.args.w c.args.h c.args.frame.now c.args.out.now c.args.c.at _ _ c.is_unknown.ensures c.if-is_unknown.false c.left.ensures _ c.in_err-total.ensures)

pub returns : goal.returns
returns c = ends-udp c.args.size c.args.w c.args.h c.args.frame.now c.args.out.now c.args.c.at _ _ c.is_unknown.ensures c.if-is_unknown.false c.left.ensures _ _ _ _ _ c.in_ok-total.ensures c.saturating_sub.ensures c.put_udp.ensures c.put_slice.ensures c.sum_for-sum.ensures
