use Rattle.std.proofs.Common.{◌≡◌, ◌+◌, false, get_or, drop, sym, ◌∙◌, arith}
use Rattle.text.specs.Bytes.{index_of}
use Rattle.text.proofs.Lines.{passed, none_left}
use Rattle.text.proofs.line.holds.Goals as goal
use Rattle.text.proofs.line.holds.Goals.{then-x-b, else-x-b}

pub loop-x-init : goal.loop-x-init
loop-x-init c = (omega arith, λ e. omega arith)

pub loop-x-preserved : goal.loop-x-preserved
loop-x-preserved c =
    let a = c.args in
    let l = c.loop-x in
    let on : (l.found ≡ false) → (get_or a.s.now l.x-index 0 ≡ a.b → ⊥) → index_of a.b a.s.now ≡ l.x-index + 1 + index_of a.b (drop (l.x-index + 1) a.s.now) =
    λ e h. l.invariant.1 e ∙ passed a.b a.s.now l.x-index (omega arith) h in
    (omega arith, λ e. elim c.if-x-b.branch [ then-x-b w ↦ cc (w.found-is, e) | else-x-b w ↦ on (sym w.found-is ∙ e) w.if-x-b.false ])

pub returns : goal.returns
returns c =
    let a = c.args in
    let l = c.loop-x in
    λ e. l.invariant.1 e ∙ none_left a.b a.s.now l.x-index (omega arith) ∙ omega arith
