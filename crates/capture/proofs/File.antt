-- A file's first block, and the blocks behind it.
use Prim.Native.Nat.{ℕ, suc, ◌+◌, ◌/◌, ◌≤◌, ◌<◌, min}
use native.Mathlib.Omega.{arith, min_cases}
use mathlib.Core.List.{List, [], ◌∷◌, ◌++◌, append-nil}
use mathlib.Core.Path.{◌≡◌, sym, ap, ◌∙◌}
use lib.ListN.{length, take, drop, length-drop, drop_of_length-le}
use lib.Seq.{take_all, take_at, drop_at}
use Rattle.capture.specs.File.{pieces, blocks_of}

pub cut : (s : List ℕ) → 0 < length s → blocks_of s ≡ take 512 s ∷ blocks_of (drop 512 s)
unfolding pieces
cut s h =
    let e : (length s + 511) / 512 ≡ suc ((length (drop 512 s) + 511) / 512) = omega (arith, length-drop 512 s) in
    ap (λ n. pieces n s) e

-- a chunk u of at most 512 bytes at the front of s, and v behind it
module _ (s u v : List ℕ) (a : s ≡ u ++ v) (l : length u ≡ min 512 (length s)) where
  pub chunk-front : u ≡ take 512 s
  chunk-front =
      min_cases 512 (length s) (u ≡ take 512 s)
      (λ p q. sym (ap (take 512) a ∙ take_at u v 512 (l ∙ q)))
      (λ p q.
      let k : length s ≤ length s = omega arith in
      let e : v ≡ [] = sym (drop_at u v (length s) (l ∙ q)) ∙ ap (drop (length s)) (sym a) ∙ drop_of_length-le s k in
      sym (take_all 512 s p ∙ a ∙ ap (λ x. u ++ x) e ∙ append-nil u))

  pub chunk-back : v ≡ drop 512 s
  chunk-back =
      min_cases 512 (length s) (v ≡ drop 512 s)
      (λ p q. sym (ap (drop 512) a ∙ drop_at u v 512 (l ∙ q)))
      (λ p q.
      let k : length s ≤ length s = omega arith in
      sym (drop_at u v (length s) (l ∙ q)) ∙ ap (drop (length s)) (sym a) ∙ drop_of_length-le s k ∙ sym (drop_of_length-le s p))
