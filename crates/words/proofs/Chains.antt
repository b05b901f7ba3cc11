-- What std's `find` and `any` over the places of a list come to, in the words of reassembly's specs/Lists.antt; and what a loop that
-- counts knows after a turn.
use Prim.Native.Nat.{ℕ, zero, suc, ◌+◌, ◌≤◌, ◌<◌, zero-le}
use native.Mathlib.Nat.{add-zero, zero-add}
use native.Mathlib.Omega.{arith}
use mathlib.Core.Path.{◌≡◌, refl, sym, ap, ◌∙◌}
use mathlib.Core.Bool.{Bool, true, false}
use mathlib.Core.List.{List, [], ◌∷◌}
use lib.ListN.{length, get_or, drop}
use lib.Dec.{leb}
use borrow.Author.Tests.{le-leb, lt-ltb}
use Rattle.std.specs.Bool.{MatchBool}
use Rattle.std.specs.Prelude.{Option, Some, None}
use Rattle.std.specs.Option.{MatchOption}
use Rattle.std.specs.List.{range_with_len, slice_index_or, HoldsAt, AllWithin}
use Rattle.reassembly.specs.Lists.{count, first_at}
use Rattle.reassembly.proofs.Lists.{count-hit, count-miss, count-end}
use Rattle.words.specs.Words.{found}

module _ {A : Type 0} (f : A → Bool) (d : A) where
  none-first : (l : List A) → ((k : ℕ) → k < length l → f (get_or l k d) ≡ false) → first_at f l ≡ length l
  unfolding first_at
  none-first [] h = refl
  none-first (x ∷ xs) h = let e : f x ≡ false = h zero (omega arith) in rw (e, none-first xs (λ k j. h (suc k) (omega arith)))

  here-first : (l : List A) (i : ℕ) → i < length l → f (get_or l i d) ≡ true → ((k : ℕ) → k < i → f (get_or l k d) ≡ false) → first_at f l ≡ i
  unfolding first_at
  here-first [] i b t h = absurd (omega arith)
  here-first (x ∷ xs) zero b t h = rw t
  here-first (x ∷ xs) (suc i) b t h = let e : f x ≡ false = h zero (omega arith) in rw (e, here-first xs i (omega arith) t (λ k j. h (suc k) (omega arith)))

  pub find-first : (l : List A) → length l ≡ 8 → (r : Option ℕ)
      → MatchOption r ((k : ℕ) → 0 ≤ k → k < 8 → f (get_or l k d) ≡ false) (λ i. (0 ≤ i) × (i < 8) × (f (get_or l i d) ≡ true) × ((k : ℕ) → 0 ≤ k → k < i → f (get_or l k d) ≡ false))
      → r ≡ found (first_at f l)
  unfolding found
  find-first l n None h = rw (none-first l (λ k j. h k (omega arith) (omega arith)), n)
  find-first l n (Some i) h = rw (here-first l i (omega (arith, h.1)) h.2 (λ k j. h.3 k (omega arith) j), lt-ltb i 8 h.1)

  count-from : (all l : List A) (a : ℕ) → ((k : ℕ) → get_or all (a + k) d ≡ get_or l k d) → count (λ i. f (get_or all i d)) (range_with_len a (length l)) ≡ count f l
  unfolding count
  count-from all [] a h = refl
  count-from all (x ∷ xs) a h =
      let e : get_or all a d ≡ x = ap (λ (k : ℕ). get_or all k d) (sym (add-zero a)) ∙ h zero in
      let g : (k : ℕ) → get_or all (a + 1 + k) d ≡ get_or xs k d = λ k. (let z : a + 1 + k ≡ a + suc k = omega arith in ap (λ (j : ℕ). get_or all j d) z ∙ h (suc k)) in
      rw (e, count-from all xs (a + 1) g)

  -- a test of the places of a list of n, counted
  pub count-places : (l : List A) (n : ℕ) → length l ≡ n → count (λ i. f (get_or l i d)) (range_with_len 0 n) ≡ count f l
  count-places l n e = rw (← e) (count-from l l 0 (λ k. ap (λ (j : ℕ). get_or l j d) (zero-add k)))

-- `any` over a list
module _ {A : Type 0} (f : A → Bool) where
  some-counted : (l : List A) (k : ℕ) → k < length l → HoldsAt (λ x. f x ≡ true) l k → 1 ≤ count f l
  unfolding count
  some-counted [] k b h = absurd (omega arith)
  some-counted (x ∷ xs) zero b h = let e : f x ≡ true = h x in rw e (omega arith)
  some-counted (x ∷ xs) (suc k) b h = let r = some-counted xs k (omega arith) (λ d. h d) in omega arith

  none-counted : (l : List A) → ((k : ℕ) (d : A) → k < length l → f (slice_index_or l k d) ≡ false) → count f l ≡ 0
  unfolding count
  none-counted [] h = refl
  none-counted (x ∷ xs) h = let e : f x ≡ false = h zero x (omega arith) in rw (e, none-counted xs (λ k d b. h (suc k) d (omega arith)))

  pub any-counted : (l : List A) (r : Bool)
      → MatchBool r ((k : ℕ) × (k < length l) × HoldsAt (λ x. f x ≡ true) l k) (AllWithin (λ x. f x ≡ false) l 0 (length l))
      → r ≡ leb 1 (count f l)
  any-counted l true h = sym (le-leb 1 (count f l) (some-counted l h.0 h.1 h.2))
  any-counted l false h = rw (none-counted l (λ k d b. h k d zero-le b))

-- a loop that counts has passed i of n elements and found m
module _ {A : Type 0} (f : A → Bool) (l : List A) (d : A) (n i : ℕ) (all : length l ≡ n) (m : ℕ) (inv : count f l ≡ m + count f (drop i l)) where
  pub one_more : i < n → f (get_or l i d) ≡ true → count f l ≡ m + 1 + count f (drop (i + 1) l)
  one_more h e = omega (arith, count-hit f l i d (omega arith) e)

  pub no_more : i < n → f (get_or l i d) ≡ false → count f l ≡ m + count f (drop (i + 1) l)
  no_more h e = omega (arith, count-miss f l i d (omega arith) e)

  pub counted : i ≡ n → m ≡ count f l
  counted h = let e : length l ≡ i = omega arith in omega (arith, count-end f l i e)
