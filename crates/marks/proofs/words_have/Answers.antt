use mathlib.Core.Path.{sym, ◌∙◌}
use Rattle.marks.proofs.Words.{has-four, or_no}
use Rattle.marks.proofs.words_have.Goals as goal

pub returns-then-word_has : goal.returns-then-word_has
returns-then-word_has c =
    let a = c.args in
    rw (c.if-word_has.true) (sym (has-four a.b a.m a.u a.e c.well_formed.0.1.0.1 c.requires.1 ∙ rw (sym c.word_has.ensures ∙ c.if-word_has.true)))

pub returns-then-word_has-2 : goal.returns-then-word_has-2
returns-then-word_has-2 c =
    let a = c.args in
    let e0 = sym c.word_has.ensures ∙ c.if-word_has.false in
    rw (c.if-word_has-2.true) (sym (has-four a.b a.m a.u a.e c.well_formed.0.1.0.1 c.requires.1 ∙ rw (e0, sym c.word_has-else-word_has.ensures ∙ c.if-word_has-2.true)))

pub returns-then-word_has-3 : goal.returns-then-word_has-3
returns-then-word_has-3 c =
    let a = c.args in
    let e0 = sym c.word_has.ensures ∙ c.if-word_has.false in
    let e1 = sym c.word_has-else-word_has.ensures ∙ c.if-word_has-2.false in
    rw (c.if-word_has-3.true) (sym (has-four a.b a.m a.u a.e c.well_formed.0.1.0.1 c.requires.1 ∙ rw (e0, e1, sym c.word_has-else-word_has-2.ensures ∙ c.if-word_has-3.true)))

pub returns-else-word_has-3 : goal.returns-else-word_has-3
returns-else-word_has-3 c =
    let a = c.args in
    let e0 = sym c.word_has.ensures ∙ c.if-word_has.false in
    let e1 = sym c.word_has-else-word_has.ensures ∙ c.if-word_has-2.false in
    let e2 = sym c.word_has-else-word_has-2.ensures ∙ c.if-word_has-3.false in
    sym (has-four a.b a.m a.u a.e c.well_formed.0.1.0.1 c.requires.1 ∙ rw (e0, e1, e2, ← c.word_has-else-word_has-3.ensures) (or_no c.word_has-else-word_has-3.result))
