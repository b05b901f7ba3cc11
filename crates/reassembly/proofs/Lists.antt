-- Laws of counts, of first places, of runs of stores and of equal lists; and what a loop over a list knows after a turn.
use Prim.Native.Nat.{ℕ, zero, suc, ◌+◌, ◌-◌, ◌≤◌, ◌<◌}
use native.Mathlib.Nat.{not-suc-le-zero, le_of_suc-le-suc}
use native.Mathlib.Numerals.{add-one}
use native.Mathlib.Omega.{arith}
use mathlib.Core.Path.{◌≡◌, refl, sym, ap, ◌∙◌}
use mathlib.Core.Logic.{◌⊎◌}
use mathlib.Core.Bool.{Bool, true, false, ◌&&◌, false≢true}
use mathlib.Core.List.{List, [], ◌∷◌, map, append_assoc}
use lib.ListN.{length, get_or, set, take, drop, replicate, length-set, length-map}
use lib.Seq.{get_or-set_same, get_or-set_other, sets, sets-eq, drop-cons, drop-length}
use lib.Dec.{eqb}
use borrow.Author.Tests.{eqb-true, eq-eqb, ne_eqb}
use Rattle.octets.specs.Read.{choose}
use Rattle.octets.specs.Write.{put}
use Rattle.expand.proofs.CopyLaws.{put-inside}
use Rattle.reassembly.specs.Lists.{bit, count, first_at, those, same_list}
use Rattle.reassembly.proofs.Tests.{by-test, by_order, and_left, and_right, and_both}

-- membership, by cases
abbrev pub In : {A : Type 0} → A → List A → Type 0
In a [] = ⊥
In a (x ∷ xs) = (a ≡ x) ⊎ In a xs

-- what owning an array tells of its list is said of the list mapped to what the logic holds
pub unmapped : {A B : Type 0} (l : List A) (f : A → B) {n : ℕ} → length (map f l) ≡ n → length l ≡ n
unmapped l f e = sym (length-map l f) ∙ e

pub drop-end : {A : Type 0} (l : List A) (i : ℕ) → length l ≡ i → drop i l ≡ []
drop-end l i h = rw (← h) (drop-length l)

-- within the list the default does not matter
pub get_or-any : {A : Type 0} (l : List A) (i : ℕ) (d e : A) → i < length l → get_or l i d ≡ get_or l i e
get_or-any [] i d e h = absurd (not-suc-le-zero h)
get_or-any (a ∷ l) zero d e h = refl
get_or-any (a ∷ l) (suc i) d e h = get_or-any l i d e (le_of_suc-le-suc h)

-- ---- a run of stores, element by element

module _ {A : Type 0} where
  pub get_or-sets-before : (vs l : List A) (i x : ℕ) (d : A) → x < i → get_or (sets l i vs) x d ≡ get_or l x d
  get_or-sets-before [] l i x d h = refl
  get_or-sets-before (a ∷ vs) l i x d h =
      get_or-sets-before vs (set l i a) (suc i) x d (omega arith) ∙ get_or-set_other l i x a d (omega arith)

  pub get_or-sets-after : (vs l : List A) (i x : ℕ) (d : A) → i + length vs ≤ x → get_or (sets l i vs) x d ≡ get_or l x d
  get_or-sets-after [] l i x d h = refl
  get_or-sets-after (a ∷ vs) l i x d h =
      get_or-sets-after vs (set l i a) (suc i) x d (omega arith) ∙ get_or-set_other l i x a d (omega arith)

  pub get_or-sets-in : (vs l : List A) (i x : ℕ) (d : A) → i ≤ x → x < i + length vs → x < length l
      → get_or (sets l i vs) x d ≡ get_or vs (x - i) d
  get_or-sets-in [] l i x d h k m = absurd (omega arith)
  get_or-sets-in (a ∷ vs) l i x d h k m = by_order x i
      (λ e. let xi : x ≡ i = omega arith in
      let z : x - i ≡ 0 = omega arith in
      get_or-sets-before vs (set l i a) (suc i) x d (omega arith)
      ∙ rw (z, xi) (get_or-set_same l i a d (omega arith)))
      (λ e. let z : x - i ≡ suc (x - suc i) = omega arith in
      get_or-sets-in vs (set l i a) (suc i) x d (omega arith) (omega arith) (omega (arith, length-set l i a))
      ∙ rw z refl)

-- bytes put inside the room are such a run
pub put-sets : (at : ℕ) (bs l : List ℕ) → at + length bs ≤ length l → put at bs l ≡ sets l at bs
put-sets at bs l h = put-inside at bs l h ∙ sym (append_assoc (take at l) bs (drop (at + length bs) l)) ∙ sym (sets-eq bs l at h)

-- ---- equal lists

pub same_list-refl : (l : List ℕ) → same_list l l ≡ true
unfolding same_list
same_list-refl [] = refl
same_list-refl (x ∷ xs) = and_both (eqb x x) (same_list xs xs) (eq-eqb x x refl) (same_list-refl xs)

pub same_list-eq : (a b : List ℕ) → same_list a b ≡ true → a ≡ b
unfolding same_list
same_list-eq [] [] e = refl
same_list-eq [] (y ∷ ys) e = absurd (false≢true e)
same_list-eq (x ∷ xs) [] e = absurd (false≢true e)
same_list-eq (x ∷ xs) (y ∷ ys) e =
    let p = eqb-true x y (and_left (eqb x y) (same_list xs ys) e) in
    let q = same_list-eq xs ys (and_right (eqb x y) (same_list xs ys) e) in
    cc

pub same_length : (a b : List ℕ) → (length a ≡ length b → ⊥) → same_list a b ≡ false
same_length a b h = by-test (same_list a b) (λ e. absurd (h (ap length (same_list-eq a b e)))) (λ e. e)

module _ (a b : List ℕ) (i : ℕ) where
  pub same-differ : i < length a → i < length b → (get_or a i 0 ≡ get_or b i 0 → ⊥) → same_list (drop i a) (drop i b) ≡ false
  unfolding same_list
  same-differ ha hb n = rw (drop-cons a i 0 ha, drop-cons b i 0 hb, ne_eqb _ _ n)

  pub same-agree : i < length a → i < length b → get_or a i 0 ≡ get_or b i 0 → same_list (drop i a) (drop i b) ≡ same_list (drop (i + 1) a) (drop (i + 1) b)
  unfolding same_list
  same-agree ha hb e = rw (add-one, drop-cons a i 0 ha, drop-cons b i 0 hb, eq-eqb _ _ e)

  pub same_end : length a ≡ i → length b ≡ i → same_list (drop i a) (drop i b) ≡ true
  unfolding same_list
  same_end ha hb = rw (drop-end a i ha, drop-end b i hb)

-- ---- counts

module _ {A : Type 0} where
  pub count_set : (f : A → Bool) (l : List A) (i : ℕ) (x d : A) → i < length l
      → count f (set l i x) + bit (f (get_or l i d)) ≡ count f l + bit (f x)
  unfolding count
  count_set f [] i x d h = absurd (not-suc-le-zero h)
  count_set f (y ∷ ys) zero x d h = omega arith
  count_set f (y ∷ ys) (suc i) x d h = let r = count_set f ys i x d (le_of_suc-le-suc h) in omega arith

  pub count_at : (f : A → Bool) (l : List A) (i : ℕ) (d : A) → i < length l → f (get_or l i d) ≡ true → 1 ≤ count f l
  unfolding count
  count_at f [] i d h e = absurd (not-suc-le-zero h)
  count_at f (y ∷ ys) zero d h e = rw e (omega arith)
  count_at f (y ∷ ys) (suc i) d h e = let r = count_at f ys i d (le_of_suc-le-suc h) e in omega arith

  pub count-le : (f : A → Bool) (l : List A) → count f l ≤ length l
  unfolding count
  count-le f [] = omega arith
  count-le f (y ∷ ys) = let r = count-le f ys in by-test (f y) (λ e. rw e (omega arith)) (λ e. rw e (omega arith))

  pub count_none : (f : A → Bool) (l : List A) → ((x : A) → f x ≡ false) → count f l ≡ 0
  unfolding count
  count_none f [] h = refl
  count_none f (y ∷ ys) h = let r = count_none f ys h in rw (h y) (omega arith)

  pub count-replicate : (f : A → Bool) (x : A) (n : ℕ) → f x ≡ false → count f (replicate n x) ≡ 0
  unfolding count
  count-replicate f x zero e = refl
  count-replicate f x (suc n) e = let r = count-replicate f x n e in rw e (omega arith)

  -- of those that pass a test, how many pass another
  pub count-those : (f p : A → Bool) (l : List A) → count f (those p l) ≡ count (λ x. p x && f x) l
  unfolding count those
  count-those f p [] = refl
  count-those f p (x ∷ l) = let r = count-those f p l in by-test (p x) (λ e. rw e (omega arith)) (λ e. rw e (omega arith))

  -- ---- a loop that counts, after i turns
  pub count-hit : (f : A → Bool) (l : List A) (i : ℕ) (d : A) → i < length l → f (get_or l i d) ≡ true → count f (drop i l) ≡ 1 + count f (drop (i + 1) l)
  unfolding count
  count-hit f l i d h e = rw (add-one, drop-cons l i d h, e)

  pub count-miss : (f : A → Bool) (l : List A) (i : ℕ) (d : A) → i < length l → f (get_or l i d) ≡ false → count f (drop i l) ≡ 0 + count f (drop (i + 1) l)
  unfolding count
  count-miss f l i d h e = rw (add-one, drop-cons l i d h, e)

  pub count-end : (f : A → Bool) (l : List A) (i : ℕ) → length l ≡ i → count f (drop i l) ≡ 0
  unfolding count
  count-end f l i h = rw (drop-end l i h)

  -- ---- the first place where a test holds; the length where there is none

  pub first_at-holds : (f : A → Bool) (l : List A) (d : A) → first_at f l < length l → f (get_or l (first_at f l) d) ≡ true
  unfolding first_at
  first_at-holds f [] d h = absurd (not-suc-le-zero h)
  first_at-holds f (y ∷ ys) d h = go (f y) refl (first_at-holds f ys d) h
    where
      go : (b : Bool) → f y ≡ b → (first_at f ys < length ys → f (get_or ys (first_at f ys) d) ≡ true)
          → choose b 0 (suc (first_at f ys)) < suc (length ys) → f (get_or (y ∷ ys) (choose b 0 (suc (first_at f ys))) d) ≡ true
      go true e ih h' = e
      go false e ih h' = ih (le_of_suc-le-suc h')

  -- where something is counted, there is a first place
  pub first_at-found : (f : A → Bool) (l : List A) → 1 ≤ count f l → first_at f l < length l
  unfolding first_at count
  first_at-found f [] h = absurd (omega arith)
  first_at-found f (y ∷ ys) h = go (f y) refl (first_at-found f ys) h
    where
      go : (b : Bool) → f y ≡ b → (1 ≤ count f ys → first_at f ys < length ys) → 1 ≤ bit b + count f ys
          → choose b 0 (suc (first_at f ys)) < suc (length ys)
      go true e ih h' = omega arith
      go false e ih h' = let r = ih (omega arith) in omega arith

  -- where nothing is counted, there is none
  pub first_at-most : (f : A → Bool) (l : List A) → first_at f l ≤ length l
  unfolding first_at
  first_at-most f [] = omega arith
  first_at-most f (y ∷ ys) = let h = first_at-most f ys in by-test (f y) (λ e. rw e (omega arith)) (λ e. rw e (omega arith))

  pub first_at-none : (f : A → Bool) (l : List A) → count f l ≡ 0 → first_at f l ≡ length l
  unfolding first_at count
  first_at-none f [] h = refl
  first_at-none f (y ∷ ys) h = go (f y) refl (first_at-none f ys) h
    where
      go : (b : Bool) → f y ≡ b → (count f ys ≡ 0 → first_at f ys ≡ length ys) → bit b + count f ys ≡ 0
          → choose b 0 (suc (first_at f ys)) ≡ suc (length ys)
      go true e ih h' = absurd (omega arith)
      go false e ih h' = ap suc (ih (omega arith))

  -- where one only is counted, it is the first
  pub first_at-only : (f : A → Bool) (l : List A) (i : ℕ) (d : A) → i < length l → f (get_or l i d) ≡ true → count f l ≤ 1 → first_at f l ≡ i
  unfolding first_at count
  first_at-only f [] i d h e c = absurd (not-suc-le-zero h)
  first_at-only f (y ∷ ys) zero d h e c = rw e
  first_at-only f (y ∷ ys) (suc i) d h e c = go (f y) refl (λ c'. first_at-only f ys i d (le_of_suc-le-suc h) e c') c
    where
      go : (b : Bool) → f y ≡ b → (count f ys ≤ 1 → first_at f ys ≡ i) → bit b + count f ys ≤ 1 → choose b 0 (suc (first_at f ys)) ≡ suc i
      go true q ih c' = absurd (omega (arith, count_at f ys i d (le_of_suc-le-suc h) e))
      go false q ih c' = ap suc (ih (omega arith))

  -- ---- a search that has passed i elements: what is left to find lies in the rest
  pub first-hit : (f : A → Bool) (l : List A) (i : ℕ) (d : A) → i < length l → f (get_or l i d) ≡ true → first_at f (drop i l) ≡ 0
  unfolding first_at
  first-hit f l i d h e = rw (drop-cons l i d h, e)

  pub first-miss : (f : A → Bool) (l : List A) (i : ℕ) (d : A) → i < length l → f (get_or l i d) ≡ false → first_at f (drop i l) ≡ suc (first_at f (drop (i + 1) l))
  unfolding first_at
  first-miss f l i d h e = rw (add-one, drop-cons l i d h, e)

  pub first-end : (f : A → Bool) (l : List A) (i : ℕ) → length l ≡ i → first_at f (drop i l) ≡ 0
  unfolding first_at
  first-end f l i h = rw (drop-end l i h)
