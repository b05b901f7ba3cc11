-- Tests: by cases, and what a test that was made says of a test of the specification. `search tests` proves from these a `returns`
-- of a function that makes the specification's tests in its order.
use Prim.Native.Nat.{ℕ, ◌≤◌, ◌<◌}
use native.Mathlib.Nat.{lt_of_not-le}
use native.Mathlib.Decide.{dec_le}
use mathlib.Core.Path.{◌≡◌, refl, sym, ◌∙◌}
use mathlib.Core.Logic.{◌⊎◌, inl, inr}
use mathlib.Core.Bool.{Bool, true, false, not, ◌&&◌, ◌||◌, true≢false, false≢true}
use lib.Dec.{leb, ltb, eqb}
use borrow.Author.Tests.{le-leb, lt-leb, lt-ltb, le-ltb, eq-eqb, ne_eqb}

pub no_both : {X : Type 0} (b : Bool) → b ≡ true → b ≡ false → X
no_both b p q = absurd (true≢false (sym p ∙ q))

-- by the value of a test, with the equation
pub by-test : {X : Type 0} (b : Bool) → (b ≡ true → X) → (b ≡ false → X) → X
by-test true f g = f refl
by-test false f g = g refl

pub by_order : {X : Type 0} (a b : ℕ) → (a ≤ b → X) → (b < a → X) → X
by_order a b f g = elim (dec_le a b) [ yes h ↦ f h | no h ↦ g (lt_of_not-le h) ]

pub not-true-false : (b : Bool) → (b ≡ true → ⊥) → b ≡ false
not-true-false true h = absurd (h refl)
not-true-false false h = refl

pub and_left : (a b : Bool) → (a && b) ≡ true → a ≡ true
and_left true b e = refl
and_left false b e = e

pub and_right : (a b : Bool) → (a && b) ≡ true → b ≡ true
and_right true b e = e
and_right false b e = absurd (false≢true e)

pub and_both : (a b : Bool) → a ≡ true → b ≡ true → (a && b) ≡ true
and_both a b p q = rw (p, q)

pub or_cases : (a b : Bool) → (a || b) ≡ true → (a ≡ true) ⊎ (b ≡ true)
or_cases true b e = inl refl
or_cases false b e = inr e

pub or_left : (a b : Bool) → a ≡ true → (a || b) ≡ true
or_left a b p = rw p

pub or_right : (a b : Bool) → b ≡ true → (a || b) ≡ true
or_right true b p = refl
or_right false b p = p

-- ---- a test that a call made, b, and what follows it
pub and-told : {r b : Bool} (t u : Bool) → b ≡ t → b ≡ true → r ≡ u → r ≡ (t && u)
and-told t u p h e = rw (← p, h) e

pub and-told-not : {b : Bool} (t u : Bool) → b ≡ t → b ≡ false → false ≡ (t && u)
and-told-not t u p h = rw (← p, h) refl

pub not-told : {r b : Bool} (t u : Bool) → b ≡ t → b ≡ false → r ≡ u → r ≡ (not t && u)
not-told t u p h e = rw (← p, h) e

pub not-told-not : {b : Bool} (t u : Bool) → b ≡ t → b ≡ true → false ≡ (not t && u)
not-told-not t u p h = rw (← p, h) refl

pub or-told : {b : Bool} (t u : Bool) → b ≡ t → b ≡ false → true ≡ (not t || u)
or-told t u p h = rw (← p, h) refl

pub or-told-not : {r b : Bool} (t u : Bool) → b ≡ t → b ≡ true → r ≡ u → r ≡ (not t || u)
or-told-not t u p h e = rw (← p, h) e

-- ---- a test of numbers, and what follows it
pub and-le : {r : Bool} (a b : ℕ) (u : Bool) → a ≤ b → r ≡ u → r ≡ (leb a b && u)
and-le a b u h e = rw (le-leb a b h) e

pub and-gt : (a b : ℕ) (u : Bool) → b < a → false ≡ (leb a b && u)
and-gt a b u h = rw (lt-leb a b h) refl

pub and_same : {r : Bool} (a b : ℕ) (u : Bool) → a ≡ b → r ≡ u → r ≡ (eqb a b && u)
and_same a b u h e = rw (eq-eqb a b h) e

pub or_same : (a b : ℕ) (u : Bool) → a ≡ b → true ≡ (eqb a b || u)
or_same a b u h = rw (eq-eqb a b h) refl

pub or-other : {r : Bool} (a b : ℕ) (u : Bool) → (a ≡ b → ⊥) → r ≡ u → r ≡ (eqb a b || u)
or-other a b u h e = rw (ne_eqb a b h) e

pub or-ge : {r : Bool} (a b : ℕ) (u : Bool) → b ≤ a → r ≡ u → r ≡ (ltb a b || u)
or-ge a b u h e = rw (le-ltb a b h) e

-- ---- `a && b` and `a || b` as they stand: the first test is the answer, where it decides
pub and-stops : {b : Bool} (t u : Bool) → b ≡ t → b ≡ false → b ≡ (t && u)
and-stops t u p h = rw (← p, h) refl

pub not-stops : {b : Bool} (t u : Bool) → b ≡ t → not b ≡ false → not b ≡ (not t && u)
not-stops t u p h = rw (← p, h) refl

pub or-not-stops : {b : Bool} (t u : Bool) → b ≡ t → not b ≡ true → not b ≡ (not t || u)
or-not-stops t u p h = rw (← p, h) refl

pub and-differs : (a b : ℕ) (u : Bool) → (a ≡ b → ⊥) → eqb a b ≡ (eqb a b && u)
and-differs a b u h = rw (ne_eqb a b h) refl

pub or-stops : (a b : ℕ) (u : Bool) → a < b → ltb a b ≡ (ltb a b || u)
or-stops a b u h = rw (lt-ltb a b h) refl

pub both-greater : (a b c d : ℕ) → b < a → d < c → leb a b ≡ leb c d
both-greater a b c d h g = rw (lt-leb a b h, lt-leb c d g) refl

pub ruleset tests = (and-told, and-told-not, not-told, not-told-not, or-told, or-told-not, and-le, and-gt, and_same, or_same, or-other, or-ge, and-stops, and-differs, or-stops, both-greater)
