-- What a read that was taken apart, and a test that was made, say of the specification's next step. `search steps` proves from
-- these a `returns` of a function that reads step by step as its specification does.
use Prim.Native.Nat.{ℕ, ◌≤◌, ◌<◌}
use lib.Dec.{leb, ltb, eqb}
use borrow.Author.Tests.{le-leb, lt-leb, lt-ltb, le-ltb, eq-eqb, ne_eqb}
use mathlib.Core.Path.{◌≡◌, refl, sym, ap, ◌∙◌}
use mathlib.Core.Bool.{Bool, true, false, ◌&&◌}
use Rattle.octets.specs.Read.{Answer, is, refused, Placed, Read, got, and_then, choose}
use Rattle.octets.specs.Refusal.{number_of}
use Rattle.octets.specs.Answers.{of_read, of_skip}
use Rattle.std.specs.Result.{result_from_control_flow}
use Rattle.std.specs.declared.ops.ControlFlow.{ControlFlow}
use Rattle.std.proofs.Common.{Continue, Break}
use Rattle.std.specs.Prelude.{Result, Ok, Err, IsErr, IsErrAnd}
use Rattle.octets.specs.declared.refusal.Refusal.{Refusal}
use Rattle.octets.specs.declared.cursor.Cursor.{Cursor}

-- a function by cases, at the case that a match found
pub case : {X A : Type 0} (f : X → A) (y x : X) (r : A) → y ≡ x → r ≡ f x → r ≡ f y
case f y x r q e = e ∙ ap f (sym q)

-- a test of the specification, from the fact
pub if-le : {A : Type 0} {r : A} (a b : ℕ) (x y : A) → a ≤ b → r ≡ x → r ≡ choose (leb a b) x y
if-le a b x y h e = rw (le-leb a b h) e

pub if-gt : {A : Type 0} {r : A} (a b : ℕ) (x y : A) → b < a → r ≡ y → r ≡ choose (leb a b) x y
if-gt a b x y h e = rw (lt-leb a b h) e

pub if-lt : {A : Type 0} {r : A} (a b : ℕ) (x y : A) → a < b → r ≡ x → r ≡ choose (ltb a b) x y
if-lt a b x y h e = rw (lt-ltb a b h) e

pub if-ge : {A : Type 0} {r : A} (a b : ℕ) (x y : A) → b ≤ a → r ≡ y → r ≡ choose (ltb a b) x y
if-ge a b x y h e = rw (le-ltb a b h) e

pub if-eq : {A : Type 0} {r : A} (a b : ℕ) (x y : A) → a ≡ b → r ≡ x → r ≡ choose (eqb a b) x y
if-eq a b x y h e = rw (eq-eqb a b h) e

pub if-ne : {A : Type 0} {r : A} (a b : ℕ) (x y : A) → (a ≡ b → ⊥) → r ≡ y → r ≡ choose (eqb a b) x y
if-ne a b x y h e = rw (ne_eqb a b h) e

pub if-true : {A : Type 0} {r : A} (t : Bool) (x y : A) → t ≡ true → r ≡ x → r ≡ choose t x y
if-true t x y h e = rw h e

pub if-false : {A : Type 0} {r : A} (t : Bool) (x y : A) → t ≡ false → r ≡ y → r ≡ choose t x y
if-false t x y h e = rw h e

-- a test whose outcome a call gave
pub if-told : {A : Type 0} {r : A} {b : Bool} (t : Bool) (x y : A) → b ≡ t → b ≡ true → r ≡ x → r ≡ choose t x y
if-told t x y p h e = rw (← p, h) e

pub if-told-not : {A : Type 0} {r : A} {b : Bool} (t : Bool) (x y : A) → b ≡ t → b ≡ false → r ≡ y → r ≡ choose t x y
if-told-not t x y p h e = rw (← p, h) e

-- two tests, one after the other
pub and-eq : {r : Bool} (a b : ℕ) (t : Bool) → a ≡ b → r ≡ t → r ≡ (eqb a b && t)
and-eq a b t h e = rw (eq-eqb a b h) e

pub and-ne : (a b : ℕ) (t : Bool) → (a ≡ b → ⊥) → false ≡ (eqb a b && t)
and-ne a b t h = rw (ne_eqb a b h) refl

pub and-true : (a b : Bool) → (a && b) ≡ true → (a ≡ true) × (b ≡ true)
and-true true b h = (refl, h)
and-true false b h = (cc, cc)

-- a value that a call gave, in what is given
pub give-told : {A : Type 0} (x y : A) (at : ℕ) → x ≡ y → got x at ≡ got y at
give-told x y at p = ap (λ z. got z at) p

-- what holds at a value that a call gave holds at what it is
pub by_value : {X A : Type 0} (f : X → A) (k x : X) (r : A) → k ≡ x → r ≡ f k → r ≡ f x
by_value f k x r p e = e ∙ ap f p

pub ruleset flags = (if-true, if-false, if-told, if-told-not)

pub ruleset ands = (and-eq, and-ne)

pub ruleset steps = (if-le, if-gt, if-lt, if-ge, if-eq, if-ne)
