-- The answers of the code: each is that of what was read.
use Rattle.std.specs.Prelude.{Result, Ok, Err}
use Prim.Native.Nat.{ℕ, ◌+◌, ◌^◌, ◌≤◌, ◌<◌}
use native.Mathlib.Omega.{arith}
use mathlib.Core.Bool.{true, false}
use mathlib.Core.List.{List, [], ◌∷◌, ◌++◌, append-nil}
use mathlib.Core.Path.{◌≡◌, sym, ap, ap₂, ◌∙◌}
use lib.ListN.{length, take, drop, length-drop}
use lib.Seq.{take-add, drop-drop}
use Rattle.capture.specs.Block.{good_block, judged}
use Rattle.octets.specs.Answers.{of_answer}
use Rattle.capture.specs.Made.{Bytes}
use Rattle.capture.proofs.Exact.{good-holds}
use Rattle.capture.proofs.Parts.{bytes_take}
use Rattle.capture.proofs.Unique.{told-good, told-bad}
use Rattle.octets.specs.declared.refusal.Refusal.{Refusal}
use Rattle.capture.specs.File.{joined}
use Rattle.feed.specs.Reading.{behind, read_on}
use Rattle.feed.specs.Feed.{going_on, stopped, answer_of}
use Rattle.feed.proofs.Blocks.{read_short, read-good, read-bad}

-- ---- a block as it was judged
pub is-good : {j : Result ℕ Refusal} {n : ℕ} (b : ℕ) (s : List ℕ) → of_answer j ≡ judged b s → j ≡ Ok n → good_block b s ≡ true
is-good {j} {n} b s p q = (told-good j b s p n q).0

pub is-bad : {j : Result ℕ Refusal} {e : Refusal} (b : ℕ) (s : List ℕ) → of_answer j ≡ judged b s → j ≡ Err e → good_block b s ≡ false
is-bad {j} {e} b s p q = told-bad j b s p e q

-- good only at a number of 32 bits, so that the next number fits
pub small : {j : Result ℕ Refusal} {n : ℕ} (b : ℕ) (s : List ℕ) → Bytes s → of_answer j ≡ judged b (take 512 s) → j ≡ Ok n → b < 2 ^ 32
small b s y p q = (good-holds b (take 512 s) (bytes_take 512 s y) (is-good b (take 512 s) p q)).number

-- ---- the blocks at the front
module _ (b : ℕ) (s : List ℕ) where
  pub sort-short : length s < 512 → going_on [] 0 b s ≡ answer_of (read_on b s)
  unfolding answer_of joined
  sort-short h = sym (ap answer_of (read_short b s h))

  pub sort-bad : 512 ≤ length s → good_block b (take 512 s) ≡ false → stopped [] 0 b ≡ answer_of (read_on b s)
  unfolding answer_of joined
  sort-bad h g = sym (ap answer_of (read-bad b s h g))

  module _ (h : 512 ≤ length s) (g : good_block b (take 512 s) ≡ true) where
    pub sort-one : length s < 1024 → going_on (take 512 s) 1 (b + 1) (drop 512 s) ≡ answer_of (read_on b s)
    unfolding answer_of joined
    sort-one k =
        let d : length (drop 512 s) < 512 = omega (arith, length-drop 512 s) in
        ap (λ x. going_on x 1 (b + 1) (drop 512 s)) (sym (append-nil (take 512 s)))
        ∙ sym (ap answer_of (read-good b s h g ∙ ap (behind (take 512 s ∷ [])) (read_short (b + 1) (drop 512 s) d)))

    module _ (k : 1024 ≤ length s) where
      pub sort-one-bad : good_block (b + 1) (take 512 (drop 512 s)) ≡ false → stopped (take 512 s) 1 (b + 1) ≡ answer_of (read_on b s)
      unfolding answer_of joined
      sort-one-bad f =
          let d : 512 ≤ length (drop 512 s) = omega (arith, length-drop 512 s) in
          ap (λ x. stopped x 1 (b + 1)) (sym (append-nil (take 512 s)))
          ∙ sym (ap answer_of (read-good b s h g ∙ ap (behind (take 512 s ∷ [])) (read-bad (b + 1) (drop 512 s) d f)))

      pub sort-two : length s < 1536 → good_block (b + 1) (take 512 (drop 512 s)) ≡ true → going_on (take 1024 s) 2 (b + 2) (drop 1024 s) ≡ answer_of (read_on b s)
      unfolding answer_of joined
      sort-two l f =
          let d : 512 ≤ length (drop 512 s) = omega (arith, length-drop 512 s) in
          let i : length (drop 512 (drop 512 s)) < 512 = omega (arith, length-drop 512 s, length-drop 512 (drop 512 s)) in
          let n : b + 2 ≡ b + 1 + 1 = omega arith in
          let x : take 1024 s ≡ take 512 s ++ (take 512 (drop 512 s) ++ []) = take-add 512 512 s ∙ ap (λ y. take 512 s ++ y) (sym (append-nil (take 512 (drop 512 s)))) in
          ap₂ (λ y m. going_on y 2 m (drop 1024 s)) x n
          ∙ ap (going_on (take 512 s ++ (take 512 (drop 512 s) ++ [])) 2 (b + 1 + 1)) (sym (drop-drop 512 512 s))
          ∙ sym (ap answer_of (read-good b s h g ∙ ap (behind (take 512 s ∷ [])) (read-good (b + 1) (drop 512 s) d f ∙ ap (behind (take 512 (drop 512 s) ∷ [])) (read_short (b + 1 + 1) (drop 512 (drop 512 s)) i))))
