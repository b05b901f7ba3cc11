use Rattle.std.proofs.lemmas.Result.{err_from_is_err_and}
use Rattle.expand.proofs.WalkLaws.{ends-rest, ends-rest-no}
use native.Mathlib.Omega.{arith}
use lib.ListN.{length-drop}
use Rattle.expand.proofs.chain.end_rest.Goals as goal

pub overflow_cast-len : goal.overflow_cast-len
overflow_cast-len c = omega (arith, c.left.ensures, length-drop c.args.c.at c.args.frame.now, c.requires.1)

pub overflow_add-len : goal.overflow_add-len
overflow_add-len c = omega (arith, c.left.ensures, length-drop c.args.c.at c.args.frame.now, c.requires.0, c.requires.1)

pub returns-in_err-total_in : goal.returns-in_err-total_in
returns-in_err-total_in c = let p = err_from_is_err_and c.from_residual.result c.from_residual.ensures.1 in
    rw (p.1, p.2) (ends-rest-no c.args.size c.args.w c.args.frame.now c.args.out.now c.args.c.at _ c.left.ensures _ c.in_err-total_in.ensures)

pub returns : goal.returns
returns c = ends-rest c.args.size c.args.w c.args.frame.now c.args.out.now c.args.c.at _ c.left.ensures _ _ c.in_ok-total_in.ensures c.put_slice.ensures
