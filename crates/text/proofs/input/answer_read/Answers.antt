use Rattle.std.proofs.Common.{arith}
use Rattle.text.proofs.Lines.{nothing_left}
use Rattle.text.proofs.input.answer_read.Goals as goal
use Rattle.text.proofs.input.answer_read.Goals.{else-loop-test, then-loop-test+in_default}

pub returns : goal.returns
returns g c =
    elim c.loop-test.branch [
      | else-loop-test w ↦ rw w.input-is (nothing_left 10 c.loop.input (omega (arith, c.len-end.ensures, c.loop.invariant, w.loop-test.false)))
      | then-loop-test+in_default w ↦ rw (w.input-is, w.in_default.ensures.same) w.in_default.ensures.none
    ]
