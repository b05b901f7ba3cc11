use native.Mathlib.Omega.{arith}
use Rattle.marks.specs.Marks.{within}
use Rattle.marks.proofs.Words.{within-le, within-mono, word-true, word-false}
use Rattle.marks.proofs.word_has.Goals as goal
use Rattle.marks.proofs.word_has.Goals.{then-b, else-b}

pub returns : goal.returns
returns c =
    let a = c.args in
    let m = within-mono a.base a.u a.e c.requires in
    let l = within-le a.base a.e in
    elim c.if-b.branch [
      | then-b w ↦ rw (w.if-b.true, w.x-is, c.mask.ensures) (word-true a.w (within a.base a.u) (within a.base a.e) m l (omega arith))
      | else-b w ↦ rw (w.if-b.false, w.x-is, c.mask.ensures) (word-false a.w (within a.base a.u) (within a.base a.e) m l (omega arith))
    ]
