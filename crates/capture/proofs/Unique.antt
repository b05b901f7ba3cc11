-- Any two answers that meet a contract are equal: the meaning of `judge`'s answer takes no two answers to one. The other contracts are
-- equations of the answer itself. And what an answer of `judge` says of the block.
use Rattle.std.specs.Prelude.{Result, Ok, Err}
use Prim.Native.Nat.{ℕ}
use mathlib.Core.Path.{◌≡◌, refl, sym, ap, ◌∙◌}
use mathlib.Core.Bool.{Bool, true, false}
use mathlib.Core.List.{List}
use Rattle.octets.specs.Read.{Answer, is, refused, choose}
use Rattle.octets.specs.Refusal.{number_of}
use Rattle.octets.specs.declared.refusal.Refusal.{Refusal}
use Rattle.octets.proofs.Unique.{Injective, answer-one}
use Rattle.capture.specs.Block.{count_of, good_block, judged}
use Rattle.octets.specs.Answers.{of_answer}

pub judged-one : Injective (of_answer {A = ℕ})
judged-one = answer-one

-- ---- what it says
good-go : (t : Bool) (n k : ℕ) → ◌≡◌ {A = Answer ℕ} (is n) (choose t (is k) (refused 15)) → (t ≡ true) × (n ≡ k)
good-go true n k e = (refl, cc)
good-go false n k e = (cc, cc)

bad-go : (t : Bool) (n k : ℕ) → ◌≡◌ {A = Answer ℕ} (refused n) (choose t (is k) (refused 15)) → t ≡ false
bad-go true n k e = cc
bad-go false n k e = refl

module _ (j : Result ℕ Refusal) (b : ℕ) (s : List ℕ) (p : of_answer j ≡ judged b s) where
  pub told-good : (n : ℕ) → j ≡ Ok n → (good_block b s ≡ true) × (n ≡ count_of s)
  unfolding judged
  told-good n q = good-go (good_block b s) n (count_of s) (sym (ap of_answer q) ∙ p)

  pub told-bad : (e : Refusal) → j ≡ Err e → good_block b s ≡ false
  unfolding judged
  told-bad e q = bad-go (good_block b s) (number_of e) (count_of s) (sym (ap of_answer q) ∙ p)
