use native.Mathlib.Omega.{arith}
use mathlib.Core.Path.{sym, ap, ◌∙◌}
use lib.Dec.{leb}
use borrow.Author.Tests.{le-leb}
use Rattle.reassembly.specs.Lists.{count}
use Rattle.reassembly.specs.Fresh.{unfit}
use Rattle.reassembly.proofs.Lists.{count-hit, count-miss, count-end}
use Rattle.reassembly.proofs.table.has_unfit.Goals as goal

pub returns-then-is_unfit : goal.returns-then-is_unfit
returns-then-is_unfit c =
    let l = c.args.seats.now in
    let k = count-hit (unfit l) l c.loop-i.i _ c.loop-i-test.true (sym c.is_unfit.ensures ∙ c.if-is_unfit.true) in
    sym (le-leb 1 (count (unfit l) l) (omega (arith, c.loop-i.invariant)))

pub loop-i-preserved : goal.loop-i-preserved
loop-i-preserved c =
    let l = c.args.seats.now in
    let k = count-miss (unfit l) l c.loop-i.i _ c.loop-i-test.true (sym c.is_unfit.ensures ∙ c.if-is_unfit.false) in
    omega (arith, c.loop-i.invariant)

pub returns : goal.returns
returns c =
    let l = c.args.seats.now in
    sym (ap (leb 1) (c.loop-i.invariant ∙ count-end (unfit l) l c.loop-i.i (omega arith)))
