-- Any two answers that meet the contracts are equal.
use Prim.Native.Nat.{ℕ}
use mathlib.Core.List.{List}
use mathlib.Core.Path.{◌≡◌, refl, sym, ap, ◌∙◌}
use Rattle.std.specs.Prelude.{Result, Ok, Err}
use Rattle.octets.specs.Read.{Answer}
use Rattle.octets.specs.declared.refusal.Refusal.{Refusal}
use Rattle.octets.proofs.Unique.{Injective, back, one, unique, refusal-back}
use Rattle.expand.specs.Expand.{Expansion, of_expanded, answered, written, filled}
use Rattle.expand.specs.Chain.{Measure}
use Rattle.expand.specs.declared.datagram.Expanded.{Expanded}

pub expanded-one : Injective of_expanded
expanded-one = one of_expanded (λ (m : Measure). Ok (record { len = m.len; sum = m.sum })) Err inv
  where
    inv : (y : Result Expanded Refusal) → back (λ (m : Measure). Ok (record { len = m.len; sum = m.sum })) Err (of_expanded y) ≡ y
    inv (Ok x) = refl
    inv (Err e) = ap Err (refusal-back e)

-- as for the contracts of `expand` and of `fill`: the answer, and what was lent afterwards; f: what is written of it
both_one : (f : Answer Expansion → List ℕ → List ℕ) (m : Answer Expansion) (room : List ℕ) (y z : Result Expanded Refusal) (k l : List ℕ) → (of_expanded y ≡ answered m room) × (k ≡ f m room) → (of_expanded z ≡ answered m room) × (l ≡ f m room) → (y ≡ z) × (k ≡ l)
both_one f m room y z k l p q = (unique of_expanded expanded-one (answered m room) y z p.0 q.0, p.1 ∙ sym q.1)

pub expand-one : (m : Answer Expansion) (room : List ℕ) (y z : Result Expanded Refusal) (k l : List ℕ) → (of_expanded y ≡ answered m room) × (k ≡ written m room) → (of_expanded z ≡ answered m room) × (l ≡ written m room) → (y ≡ z) × (k ≡ l)
expand-one = both_one written

pub fill_one : (m : Answer Expansion) (room : List ℕ) (y z : Result Expanded Refusal) (k l : List ℕ) → (of_expanded y ≡ answered m room) × (k ≡ filled m room) → (of_expanded z ≡ answered m room) × (l ≡ filled m room) → (y ≡ z) × (k ≡ l)
fill_one = both_one filled
