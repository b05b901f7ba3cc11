use mathlib.Core.Path.{◌≡◌, refl, sym, ap, ◌∙◌}
use Rattle.std.specs.Prelude.{None}
use native.Mathlib.Omega.{arith}
use Rattle.reassembly.specs.Slots.{gates_of}
use Rattle.reassembly.proofs.Slots.{opening-first, opening-more, opening-short, opening-full}
use Rattle.words.specs.Words.{found, table_in}
use Rattle.words.proofs.Numbers.{slots-eight}
use Rattle.words.proofs.search.to_open.Goals as goal

none_found : None ≡ found 8
unfolding found
none_found = refl

pub returns-then-h-eq0 : goal.returns-then-h-eq0
returns-then-h-eq0 c = c.lowest_free.ensures ∙ ap found (opening-first c.args.g (gates_of (table_in c.args.t.now)) (table_in c.args.t.now).slots (sym c.count_held-h.ensures ∙ c.if-h-eq0.true) (slots-eight c.args.t.now))

pub returns-then-count_idle_others-count_free : goal.returns-then-count_idle_others-count_free
returns-then-count_idle_others-count_free c = let e = c.count_held-h.ensures in
    c.lowest_free-then-count_idle_others-count_free.ensures ∙ ap found (opening-more c.args.g (gates_of (table_in c.args.t.now)) (table_in c.args.t.now).slots (λ z. c.if-h-eq0.false (e ∙ z)) (omega (arith, e, c.if-h-lt3.true)) (omega (arith, c.count_idle_others.ensures, c.count_free.ensures, c.if-count_idle_others-count_free.true)))

pub returns-else-count_idle_others-count_free : goal.returns-else-count_idle_others-count_free
returns-else-count_idle_others-count_free c = let e = c.count_held-h.ensures in
    none_found ∙ ap found (opening-short c.args.g (gates_of (table_in c.args.t.now)) (table_in c.args.t.now).slots (λ z. c.if-h-eq0.false (e ∙ z)) (omega (arith, c.count_idle_others.ensures, c.count_free.ensures, c.if-count_idle_others-count_free.false)))

pub returns-else-h-lt3 : goal.returns-else-h-lt3
returns-else-h-lt3 c = let e = c.count_held-h.ensures in
    none_found ∙ ap found (opening-full c.args.g (gates_of (table_in c.args.t.now)) (table_in c.args.t.now).slots (λ z. c.if-h-eq0.false (e ∙ z)) (omega (arith, e, c.if-h-lt3.false)))
