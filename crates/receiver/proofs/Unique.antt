-- Any two answers that meet the contract of `judge` are equal, and any two of `hand_over`; and any two runs of `receive` leave the same.
use Rattle.std.specs.Prelude as Prelude
use Rattle.octets.specs.Answers.{of_answer}
use Rattle.octets.specs.declared.refusal.Refusal.{Refusal}
use Prim.Native.Nat.{ℕ, ◌<◌, ◌^◌}
use mathlib.Core.Path.{◌≡◌, refl, sym, ap, ◌∙◌}
use mathlib.Core.List.{List}
use lib.ListN.{length, get_or}
use Rattle.octets.proofs.Unique.{answer-one}
use Rattle.reassembly.specs.Parts.{Reply, Answered, Hands}
use Rattle.reassembly.specs.Table.{Result, Received, Gives}
use Rattle.reassembly.proofs.Promises.{outcome-one, received-one}
use Rattle.words.specs.Words.{table_in}
use Rattle.words.proofs.Unique.{table-one}

pub judge-one : (y z : Prelude.Result (Unit {0}) Refusal) → of_answer y ≡ of_answer z → y ≡ z
judge-one = answer-one

pub told-one : (a : Reply (List ℕ)) (o₀ : List ℕ) (y z : Answered) (o o' : List ℕ) → Hands y o₀ o a → Hands z o₀ o' a → (y ≡ z) × (o ≡ o')
told-one a o₀ y z o o' A B = (outcome-one y z (A.answer ∙ sym B.answer), A.output ∙ sym B.output)

-- what every table is, by its type: 149 numbers of 64 bits
abbrev pub Is149 : List ℕ → Type 0
Is149 t = (length t ≡ 149) × ((k : ℕ) → k < 149 → get_or t k 0 < 2 ^ 64)

-- two answers y and z to one call q: the numbers of the table after it, the lent memory and the output are the same, too
pub receive-one : (q : Result) (o₀ : List ℕ) (y z : Answered) (t u m m' o o' : List ℕ) → Is149 t → Is149 u → Gives (record { answer = y; table = table_in t }) m o₀ o q → Gives (record { answer = z; table = table_in u }) m' o₀ o' q
    → (y ≡ z) × (t ≡ u) × (m ≡ m') × (o ≡ o')
receive-one q o₀ y z t u m m' o o' a b A B =
    let e = received-one q o₀ _ _ m m' o o' A B in
    (ap (λ (r : Received). r.answer) e.0, table-one t u a.0 b.0 a.1 b.1 (ap (λ (r : Received). r.table) e.0), e.1, e.2)
