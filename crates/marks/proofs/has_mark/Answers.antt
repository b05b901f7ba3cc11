use mathlib.Core.Path.{◌≡◌, sym, ◌∙◌}
use mathlib.Core.Bool.{true, false}
use lib.ListN.{length}
use borrow.Author.Tests.{le-ltb}
use native.Mathlib.Omega.{arith}
use Rattle.marks.specs.Marks.{unpack}
use Rattle.marks.proofs.Words.{length-unpack, empty-range, has-past, has_within}
use Rattle.marks.proofs.has_mark.Goals as goal

pub returns-then-e-u : goal.returns-then-e-u
returns-then-e-u c = sym (empty-range _ _ _ _ c.if-e-u.true)

pub returns-then-not-b : goal.returns-then-not-b
returns-then-not-b c =
    let a = c.args in
    let n : length (unpack a.m) ≡ 256 = length-unpack a.m ∙ omega (arith, c.well_formed.0.1.0.1) in
    let t : a.b ≡ false = c.if-not-b.true in
    rw t (sym (has-past (unpack a.m) a.u a.e (omega arith) (omega arith)))

pub returns-then-u-lt256 : goal.returns-then-u-lt256
returns-then-u-lt256 c =
    let a = c.args in
    let n : length (unpack a.m) ≡ 256 = length-unpack a.m ∙ omega (arith, c.well_formed.0.1.0.1) in
    let t : a.b ≡ true = c.if-not-b.false in
    rw t (c.words_have-then-u-lt256.ensures ∙ sym (has_within (unpack a.m) a.u a.e 256 n (omega arith)))

pub returns-else-u-lt256 : goal.returns-else-u-lt256
returns-else-u-lt256 c =
    let a = c.args in
    let n : length (unpack a.m) ≡ 256 = length-unpack a.m ∙ omega (arith, c.well_formed.0.1.0.1) in
    let t : a.b ≡ true = c.if-not-b.false in
    rw (t, le-ltb a.u 256 c.if-u-lt256.false) (sym (has_within (unpack a.m) a.u a.e 256 n (omega arith) ∙ empty-range true (unpack a.m) a.u 256 c.if-u-lt256.false))
