-- What is counted so far, with what remains, is the whole.
use native.Mathlib.Omega.{arith}
use Rattle.cutting.proofs.PieceLaws.{count-start, count-more, count-end}
use Rattle.cutting.proofs.piece.count_later.Goals as goal

pub overflow_mul-u : goal.overflow_mul-u
overflow_mul-u c = omega arith

pub loop-from-init : goal.loop-from-init
loop-from-init c = (omega arith, omega arith, count-start c.args.room c.args.size c.args.at)

pub overflow_sub-size : goal.overflow_sub-size
overflow_sub-size c = omega arith

pub overflow_add-from : goal.overflow_add-from
overflow_add-from c = omega arith

pub overflow_add-n : goal.overflow_add-n
overflow_add-n c = omega arith

pub loop-from-smaller : goal.loop-from-smaller
loop-from-smaller c = omega arith

pub loop-from-preserved : goal.loop-from-preserved
loop-from-preserved c =
    let l = c.loop-from in (
      omega arith,
      omega arith,
      count-more _ _ _ l.from l.n (omega arith) l.invariant.0 c.loop-from-test.true l.invariant.2,
    )

pub returns : goal.returns
returns c =
    let l = c.loop-from in
    (count-end _ _ _ l.from l.n l.invariant.0 c.loop-from-test.false l.invariant.2, omega arith)
