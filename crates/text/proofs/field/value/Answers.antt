use Rattle.std.proofs.Common.{◌+◌, eqb, get_or, drop, refl, ap, ◌∙◌, arith}
use Rattle.text.specs.Fields.{strays}
use Rattle.text.proofs.Fields.{nibble-small, uncounted, joins, counted, some_left, hex-step, stray-step, hex-done, stray-done, all_digits, some-stray}
use Rattle.text.proofs.field.value.Goals as goal

pub loop-b-init : goal.loop-b-init
loop-b-init c = (refl, refl)

pub loop-b-preserved : goal.loop-b-preserved
loop-b-preserved c =
    let a = c.args in
    let l = c.loop-b in
    let d = c.nibble-d.result in
    let e = c.nibble-d.ensures in (
      hex-step l.value l.b-index d a.s.now (omega arith) e ∙ l.invariant.0,
      joins l.worst d (strays (drop (l.b-index + 1) a.s.now)) (omega (arith, nibble-small (get_or a.s.now l.b-index 0), e))
          ∙ ap (λ k. eqb (uncounted l.worst k) 0) (stray-step l.b-index d a.s.now (omega arith) e)
          ∙ l.invariant.1,
    )

pub returns-then-worst-lt16 : goal.returns-then-worst-lt16
returns-then-worst-lt16 c =
    let a = c.args in
    let l = c.loop-b in
    all_digits a.s.now l.value a.end (hex-done l.value l.b-index a.s.now (omega arith) ∙ l.invariant.0) (counted l.worst (strays a.s.now) (ap (λ k. eqb (uncounted l.worst k) 0) (stray-done l.b-index a.s.now (omega arith)) ∙ l.invariant.1) (omega arith))

pub returns : goal.returns
returns c =
    let a = c.args in
    let l = c.loop-b in
    some-stray a.s.now a.end (some_left l.worst (strays a.s.now) (ap (λ k. eqb (uncounted l.worst k) 0) (stray-done l.b-index a.s.now (omega arith)) ∙ l.invariant.1) (omega arith))
