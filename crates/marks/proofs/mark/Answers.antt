use Prim.Native.Nat.{◌≤◌}
use mathlib.Core.Path.{sym, ap, ◌∙◌}
use native.Mathlib.Omega.{arith}
use Rattle.marks.specs.Marks.{pack}
use Rattle.marks.proofs.Words.{mark-is, mark-four, words-fit, pack-unpack, empty-fill}
use Rattle.marks.proofs.mark.Goals as goal

pub returns-then-e-u : goal.returns-then-e-u
returns-then-e-u c =
    let b = c in
    let a = b.args in
    sym (ap pack (empty-fill _ a.u a.e c.if-e-u.true) ∙ pack-unpack a.m b.well_formed.0.1.0.1 (words-fit a.m b.well_formed.0.0 b.well_formed.0.1.1))

pub returns : goal.returns
returns c =
    let b = c in
    let a = b.args in
    let h : a.u ≤ a.e = omega arith in
    rw (c.mask.ensures, c.mask-2.ensures, c.mask-3.ensures, c.mask-4.ensures)
    (sym (mark-four a.m a.u a.e b.well_formed.0.1.0.1) ∙ mark-is a.m a.u a.e b.well_formed.0.1.0.1 (words-fit a.m b.well_formed.0.0 b.well_formed.0.1.1) h)
