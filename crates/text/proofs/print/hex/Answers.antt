use Rattle.std.proofs.Common.{◌+◌, sym, refl, ap, ◌∙◌, arith, length-set}
use Rattle.io.specs.Digits.{last_digits}
use Rattle.text.proofs.Printing.{printed-all, printed-none, hex-step, hex-done, length_digits}
use Rattle.text.proofs.print.hex.Goals as goal

pub returns-then-out-n : goal.returns-then-out-n
returns-then-out-n c =
    let a = c.args in
    printed-none a.at (last_digits 16 a.n a.x) a.out.now (omega (arith, length_digits 16 a.n a.x))

pub returns-then-out-n-2 : goal.returns-then-out-n-2
returns-then-out-n-2 c =
    let a = c.args in
    printed-none a.at (last_digits 16 a.n a.x) a.out.now (omega (arith, length_digits 16 a.n a.x))

pub loop-i-init : goal.loop-i-init
loop-i-init c = (refl, omega arith, omega arith, refl)

pub glyph-requires : goal.glyph-requires
glyph-requires c = omega arith

pub loop-i-preserved : goal.loop-i-preserved
loop-i-preserved c =
    let a = c.args in
    let l = c.loop-i in (
      simp length-set l.invariant.0,
      omega arith,
      omega arith,
      hex-step a.at l.i l.rest l.out c.glyph.result (omega arith) c.glyph.ensures ∙ l.invariant.3,
    )

pub returns : goal.returns
returns c =
    let a = c.args in
    let l = c.loop-i in
    let e = length_digits 16 a.n a.x in
    printed-all a.at (last_digits 16 a.n a.x) a.out.now l.out _ (omega arith) (hex-done a.at l.i l.rest l.out (omega arith) ∙ l.invariant.3) (ap (λ k. a.at + k) (sym e))
