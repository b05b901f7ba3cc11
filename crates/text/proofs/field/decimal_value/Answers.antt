use Rattle.std.proofs.Common.{◌≡◌, ℕ, ◌+◌, ◌*◌, ◌%◌, get_or, drop, ap, ◌∙◌, arith}
use Rattle.std.specs.Prelude.{None}
use Rattle.text.specs.Fields.{decimal_of}
use Rattle.text.proofs.Fields.{decimal_step, decimal-large, decimal-stray, decimal-done}
use Rattle.text.proofs.field.decimal_value.Goals as goal

pub returns-then-d-gt9 : goal.returns-then-d-gt9
returns-then-d-gt9 c =
    let a = c.args in
    let l = c.loop-b in
    let r = c.type_inv.s l.b-index in
    let d : ℕ = (get_or a.s.now l.b-index 0 + 208) % 256 in
    decimal-stray l.value l.b-index d a.end a.s.now (omega arith) (omega arith) (omega arith) (omega arith) ∙ l.invariant

pub returns-in_err-checked_mul : goal.returns-in_err-checked_mul
returns-in_err-checked_mul c =
    let a = c.args in
    let l = c.loop-b in
    let r = c.type_inv.s l.b-index in
    let d : ℕ = (get_or a.s.now l.b-index 0 + 208) % 256 in
    let e : None ≡ decimal_of 0 a.s.now a.end = decimal-large l.value l.b-index d a.end a.s.now (omega arith) (omega arith) (omega arith) (omega arith) ∙ l.invariant in
    cc

pub returns-in_err-value : goal.returns-in_err-value
returns-in_err-value c =
    let a = c.args in
    let l = c.loop-b in
    let r = c.type_inv.s l.b-index in
    let d : ℕ = (get_or a.s.now l.b-index 0 + 208) % 256 in
    let e : None ≡ decimal_of 0 a.s.now a.end = decimal-large l.value l.b-index d a.end a.s.now (omega arith) (omega arith) (omega arith) (omega arith) ∙ l.invariant in
    cc

pub loop-b-preserved : goal.loop-b-preserved
loop-b-preserved c =
    let a = c.args in
    let l = c.loop-b in
    let r = c.type_inv.s l.b-index in
    let d : ℕ = (get_or a.s.now l.b-index 0 + 208) % 256 in
    let v : c.in_ok-value.value ≡ l.value * 10 + d = omega arith in
    ap (λ w. decimal_of w (drop (l.b-index + 1) a.s.now) a.end) v ∙ decimal_step l.value l.b-index d a.end a.s.now (omega arith) (omega arith) (omega arith) (omega arith) ∙ l.invariant

pub returns : goal.returns
returns c =
    let a = c.args in
    let l = c.loop-b in
    decimal-done l.value l.b-index a.end a.s.now (omega arith) ∙ l.invariant
