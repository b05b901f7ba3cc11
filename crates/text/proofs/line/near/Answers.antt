use Rattle.std.proofs.Common.{◌≡◌, ◌+◌, ◌-◌, refl, ◌∙◌, arith}
use Rattle.text.proofs.Lines.{goes_on}
use Rattle.text.proofs.line.near.Goals as goal

pub loop-i-init : goal.loop-i-init
loop-i-init c = refl

pub returns-then-s-i-lt16 : goal.returns-then-s-i-lt16
returns-then-s-i-lt16 c = c.loop-i.invariant

pub returns-then-holds : goal.returns-then-holds
returns-then-holds c = c.loop-i.invariant

pub loop-i-preserved : goal.loop-i-preserved
loop-i-preserved c =
    let a = c.args in
    let l = c.loop-i in
    let n : l.i + 16 - l.i ≡ 16 = omega arith in
    goes_on a.b l.i 16 a.s.now (omega arith) (rw n at (c.holds.ensures c.if-holds.false)) ∙ l.invariant

pub returns : goal.returns
returns c = c.loop-i.invariant
