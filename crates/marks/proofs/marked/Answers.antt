use mathlib.Core.Path.{sym}
use native.Mathlib.Omega.{arith}
use Rattle.marks.specs.Marks.{unpack}
use Rattle.marks.proofs.Words.{marked-is, words-fit, past-none, length-unpack}
use Rattle.marks.proofs.marked.Goals as goal

pub returns-then-u-ge256 : goal.returns-then-u-ge256
returns-then-u-ge256 c =
    let b = c in
    let n = length-unpack b.args.m in
    sym (past-none (unpack b.args.m) b.args.u (omega (arith, b.well_formed.0.1.0.1)))

pub returns : goal.returns
returns c =
    let b = c in
    rw c.bit.ensures (marked-is b.args.m b.args.u b.well_formed.0.1.0.1 (words-fit b.args.m b.well_formed.0.0 b.well_formed.0.1.1) c.if-u-ge256.false)
