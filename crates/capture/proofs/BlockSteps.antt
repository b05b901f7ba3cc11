-- What a call and a test in the code say of a block's definitions.
use Prim.Native.Nat.{ℕ, ◌+◌, ◌-◌, ◌≤◌, ◌<◌, min}
use native.Mathlib.Nat.{not-suc-le-zero}
use native.Mathlib.Omega.{arith}
use mathlib.Core.Path.{◌≡◌, refl, sym, ap, ◌∙◌}
use mathlib.Core.List.{List, [], ◌∷◌}
use Rattle.std.specs.List.{list_all}
use Rattle.std.proofs.lemmas.List.{drop-take}
use mathlib.Core.Bool.{Bool, true, false, ◌&&◌}
use lib.Dec.{eqb}
use lib.ListN.{length, get_or, take, drop}
use borrow.Author.Tests.{eqb-true}
use Rattle.octets.specs.Read.{choose}
use Rattle.capture.specs.Block.{count_of, all_zero, zero_in}

small-go : (t : Bool) (x : ℕ) → choose t (min 3 x) 0 ≤ 3
small-go true x = omega arith
small-go false x = omega arith

pub count_small : (s : List ℕ) → count_of s ≤ 3
unfolding count_of
count_small s = small-go (eqb (length s) 512) (get_or s 4 0)

whole-go : (t : Bool) (k l x : ℕ) → eqb l 512 ≡ t → k < choose t (min 3 x) 0 → l ≡ 512
whole-go true k l x e h = eqb-true l 512 e
whole-go false k l x e h = absurd (not-suc-le-zero h)

-- what holds a frame is 512 bytes long
pub count-whole : (s : List ℕ) (k : ℕ) → k < count_of s → length s ≡ 512
unfolding count_of
count-whole s k h = whole-go (eqb (length s) 512) k (length s) (get_or s 4 0) refl h

pub ruleset counted = (count_small, count-whole)

-- ---- the library's `all`
pub all_zero-is : (s : List ℕ) → all_zero s ≡ list_all (λ b. eqb b 0) s
unfolding all_zero
all_zero-is [] = refl
all_zero-is (b ∷ bs) = ap (λ t. eqb b 0 && t) (all_zero-is bs)

pub zero_in-is : (f t : ℕ) (s : List ℕ) → f ≤ t → list_all (λ b. eqb b 0) (take (t - f) (drop f s)) ≡ zero_in f t s
zero_in-is f t s h =
    let e : f + (t - f) ≡ t = omega arith in
    sym (all_zero-is (take (t - f) (drop f s)))
    ∙ ap all_zero (sym (drop-take f (t - f) s) ∙ ap (λ n. drop f (take n s)) e)
