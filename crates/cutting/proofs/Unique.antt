-- Any two answers that meet a contract are equal: the answer, and the room afterwards.
use Rattle.octets.specs.Answers.{of_answer}
use Rattle.std.specs.Prelude.{Result}
use Rattle.octets.specs.declared.refusal.Refusal.{Refusal}
use Prim.Native.Nat.{ℕ}
use mathlib.Core.List.{List}
use mathlib.Core.Path.{◌≡◌, sym, ◌∙◌}
use Rattle.octets.proofs.Unique.{unique, answer-one}
use Rattle.cutting.specs.Cut.{cut_frame, cut_count, answered, written}
use Rattle.cutting.specs.declared.link.Link.{Link}

-- as for the contract of `frames`
pub frames-one : (l : Link) (d : List ℕ) (y z : Result ℕ Refusal) → of_answer y ≡ cut_count l d → of_answer z ≡ cut_count l d → y ≡ z
frames-one l d y z p q = unique of_answer answer-one (cut_count l d) y z p q

-- as for the contract of `frame`
module _ (l : Link) (d : List ℕ) (k : ℕ) (room : List ℕ) where
  abbrev Meets : Result ℕ Refusal → List ℕ → Type 0
  Meets y r = (of_answer y ≡ answered (cut_frame l d k) room) × (r ≡ written (cut_frame l d k) room)

  pub frame-one : (y z : Result ℕ Refusal) (r s : List ℕ) → Meets y r → Meets z s → (y ≡ z) × (r ≡ s)
  frame-one y z r s p q = (unique of_answer answer-one (answered (cut_frame l d k) room) y z p.0 q.0, p.1 ∙ sym q.1)
