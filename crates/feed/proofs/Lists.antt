-- Lists: zeros behind bytes, and pieces of 512.
use Prim.Native.Nat.{ℕ, zero, suc, ◌+◌, ◌-◌, ◌≤◌, min}
use native.Mathlib.Omega.{arith, min_cases}
use mathlib.Core.List.{List, ◌++◌, append_assoc}
use mathlib.Core.Path.{◌≡◌, sym, ap, ap₂, ◌∙◌}
use lib.ListN.{length, take, drop, replicate, length-append, length-drop}
use lib.Seq.{take_all, take_at, take-append_seam}
use borrow.Rule.Slice.PartMut.{post_of, put_mid}
use Rattle.feed.specs.Feed.{padded}

pub drop-zeros : (k n : ℕ) → drop k (replicate {A = ℕ} n 0) ≡ replicate (n - k) 0
drop-zeros zero n = let e : n ≡ n - 0 = omega arith in ap (λ m. replicate m 0) e
drop-zeros (suc k) zero = let e : 0 ≡ 0 - suc k = omega arith in ap (λ m. replicate m 0) e
drop-zeros (suc k) (suc n) = let e : n - k ≡ suc n - suc k = omega arith in drop-zeros k n ∙ ap (λ m. replicate m 0) e

pub take-pad : (n : ℕ) (s : List ℕ) → take (length s) (padded n s) ≡ s
unfolding padded
take-pad n s = take-append_seam s (replicate (n - length s) 0)

-- as many as there are
pub take_min : (n m : ℕ) (s : List ℕ) → length s ≡ m → take (min n m) s ≡ take n s
take_min n m s e =
    min_cases n m (take (min n m) s ≡ take n s)
    (λ p q. ap (λ k. take k s) q)
    (λ p q. let h : length s ≤ min n m = omega arith in let k : length s ≤ n = omega arith in take_all (min n m) s h ∙ sym (take_all n s k))

-- all that is behind a place
pub tail_all : (k : ℕ) (s : List ℕ) → take (length s - k) (drop k s) ≡ drop k s
tail_all k s = let h : length (drop k s) ≤ length s - k = omega (arith, length-drop k s) in take_all (length s - k) (drop k s) h

-- x at the front of a pool, and s copied behind it
pub pool-is : (x r s q : List ℕ) (n k : ℕ) → length x ≡ n → q ≡ s → k ≡ n + length s → take k (put_mid n (n + length s - n) (x ++ r) q) ≡ x ++ s
pool-is x r s q n k l e m =
    let z = post_of n (n + length s - n) (x ++ r) in
    let j : length (x ++ s) ≡ k = omega (arith, length-append x s) in
    ap₂ (λ u v. take k (u ++ (v ++ z))) (take_at x r n l) e
    ∙ ap (take k) (sym (append_assoc x s z))
    ∙ take_at (x ++ s) z k j
