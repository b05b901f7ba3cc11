use mathlib.Core.Path.{sym, ap, ◌∙◌}
use native.Mathlib.Omega.{arith}
use Rattle.marks.specs.Marks.{unpack, pack}
use Rattle.marks.proofs.Words.{mark-one-is, past-fill, length-unpack, pack-unpack, words-fit}
use Rattle.marks.proofs.mark_one.Goals as goal

pub returns-then-u-ge256 : goal.returns-then-u-ge256
returns-then-u-ge256 c =
    let b = c in
    let a = b.args in
    let n = length-unpack a.m in
    sym (ap pack (past-fill (unpack a.m) a.u (omega (arith, b.well_formed.0.1.0.1))) ∙ pack-unpack a.m b.well_formed.0.1.0.1 (words-fit a.m b.well_formed.0.0 b.well_formed.0.1.1))

pub returns : goal.returns
returns c =
    let b = c in
    let a = b.args in
    rw c.bit.ensures (mark-one-is a.m a.u b.well_formed.0.1.0.1 c.if-u-ge256.false (words-fit a.m b.well_formed.0.0 b.well_formed.0.1.1))
