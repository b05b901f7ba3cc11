-- What a step that gave a value says of the steps that it is made of.
use Prim.Native.Nat.{ℕ}
use mathlib.Core.Path.{◌≡◌, refl, ap}
use Rattle.octets.specs.Read.{Answer, is, refused, Read, got, and_then, value_or}
use Rattle.octets.proofs.Spans.{not-refused}

-- ---- a value that two steps gave, the second on that of the first
pub record Inverted {A B : Type 0} (m : Answer A) (k : A → Answer B) (b : B) : Type 0 where
  pub value : A
  pub first : m ≡ is value
  pub second : k value ≡ is b

pub invert : {A B : Type 0} (m : Answer A) (k : A → Answer B) (b : B) → and_then m k ≡ is b → Inverted m k b
invert (is a) k b e = record { value = a; first = refl; second = e }
invert (refused n) k b e = not-refused _ n e

abbrev next_or : {A : Type 0} → Read A → ℕ
next_or (is p) = p.next
next_or (refused n) = 0

pub got-value : {A : Type 0} (a b : A) (n k : ℕ) → got a n ≡ got b k → a ≡ b
got-value a b n k e = ap (value_or a) e

pub got-next : {A : Type 0} (a b : A) (n k : ℕ) → got a n ≡ got b k → n ≡ k
got-next a b n k e = ap next_or e

abbrev answer_or : {A : Type 0} → A → Answer A → A
answer_or d (is a) = a
answer_or d (refused n) = d

pub value-is : {A : Type 0} (a b : A) → ◌≡◌ {A = Answer A} (is a) (is b) → a ≡ b
value-is a b e = ap (answer_or a) e
