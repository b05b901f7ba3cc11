use Rattle.std.proofs.Common.{sym, ◌∙◌, arith}
use Rattle.text.proofs.Lines.{found, passed, none_left}
use Rattle.text.proofs.line.find.Goals as goal

pub loop-i-init : goal.loop-i-init
loop-i-init c = c.near-i.ensures

pub returns-then-s-i : goal.returns-then-s-i
returns-then-s-i c =
    let a = c.args in
    let l = c.loop-i in
    sym (found a.b a.s.now l.i (omega arith) c.if-s-i.true) ∙ l.invariant

pub loop-i-preserved : goal.loop-i-preserved
loop-i-preserved c =
    let a = c.args in
    let l = c.loop-i in
    sym (passed a.b a.s.now l.i (omega arith) c.if-s-i.false) ∙ l.invariant

pub returns : goal.returns
returns c =
    let a = c.args in
    let l = c.loop-i in
    sym (none_left a.b a.s.now l.i (omega arith)) ∙ l.invariant
