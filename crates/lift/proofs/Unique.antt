-- Any two answers of `lift_receive` to one call are equal, and so are the table, the lent memory and the output after it.
use Prim.Native.Nat.{ℕ}
use mathlib.Core.List.{List}
use mathlib.Core.Path.{◌≡◌, sym, ◌∙◌}
use Rattle.reassembly.specs.Table.{Result}
use Rattle.words.specs.Words.{table_in}
use Rattle.words.proofs.Unique.{table-one}
use Rattle.receiver.proofs.Unique.{Is149}
use Rattle.lift.specs.Face.{Answers}

pub lift-one : (q : Result) (o₀ : List ℕ) (r s : ℕ) (t u m m' o o' : List ℕ) → Is149 t → Is149 u → Answers r (table_in t) m o₀ o q → Answers s (table_in u) m' o₀ o' q → (r ≡ s) × (t ≡ u) × (m ≡ m') × (o ≡ o')
lift-one q o₀ r s t u m m' o o' a b A B =
    (A.answer ∙ sym B.answer, table-one t u a.0 b.0 a.1 b.1 (A.table ∙ sym B.table), A.memory ∙ sym B.memory, A.output ∙ sym B.output)
