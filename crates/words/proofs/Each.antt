-- Lists of the values of a function: their length, their elements, and one that is changed at a place.
use Prim.Native.Nat.{ℕ, zero, suc, ◌+◌, ◌<◌}
use native.Mathlib.Nat.{not-suc-le-zero, le_of_suc-le-suc, add-zero, zero-add}
use native.Mathlib.Omega.{arith}
use mathlib.Core.Path.{◌≡◌, refl, sym, ap, ◌∙◌}
use mathlib.Core.List.{List}
use lib.ListN.{length, get_or, set, length-set}
use lib.Seq.{ext_get_or, get_or-set_same, get_or-set_other}
use lib.Dec.{eqb}
use borrow.Author.Tests.{eqb-true, eqb-false}
use Rattle.reassembly.proofs.Tests.{by-test}
use Rattle.words.specs.Words.{each}

module _ {A : Type 0} where
  pub length-each : (n i : ℕ) (f : ℕ → A) → length (each n i f) ≡ n
  unfolding each
  length-each zero i f = refl
  length-each (suc n) i f = ap suc (length-each n (suc i) f)

  get_or-from : (n i j : ℕ) (f : ℕ → A) (d : A) → j < n → get_or (each n i f) j d ≡ f (i + j)
  unfolding each
  get_or-from zero i j f d h = absurd (not-suc-le-zero h)
  get_or-from (suc n) i zero f d h = ap f (sym (add-zero i))
  get_or-from (suc n) i (suc j) f d h =
      let e : suc i + j ≡ i + suc j = omega arith in
      get_or-from n (suc i) j f d (le_of_suc-le-suc h) ∙ ap f e

  pub get_or-each : (n j : ℕ) (f : ℕ → A) (d : A) → j < n → get_or (each n 0 f) j d ≡ f j
  get_or-each n j f d h = get_or-from n 0 j f d h ∙ ap f (zero-add j)

  -- a list whose elements are those values
  pub each-is : (d : A) (l : List A) (n : ℕ) (f : ℕ → A) → length l ≡ n → ((j : ℕ) → j < n → get_or l j d ≡ f j) → l ≡ each n 0 f
  each-is d l n f e h = ext_get_or d l (each n 0 f) (e ∙ sym (length-each n 0 f))
      (λ j k. let b : j < n = omega arith in h j b ∙ sym (get_or-each n j f d b))

  pub each_same : (d : A) (n : ℕ) (f g : ℕ → A) → ((j : ℕ) → j < n → f j ≡ g j) → each n 0 f ≡ each n 0 g
  each_same d n f g h = each-is d (each n 0 f) n g (length-each n 0 f) (λ j k. get_or-each n j f d k ∙ h j k)

  -- changed at i: the values of a function that differs at i only
  pub each_set : (n i : ℕ) (a : A) (f g : ℕ → A) → i < n → a ≡ g i → ((j : ℕ) → j < n → (j ≡ i → ⊥) → f j ≡ g j)
      → set (each n 0 f) i a ≡ each n 0 g
  each_set n i a f g h e o = each-is a (set (each n 0 f) i a) n g (length-set (each n 0 f) i a ∙ length-each n 0 f)
      (λ j k. by-test (eqb j i)
      (λ q. let p : j ≡ i = eqb-true j i q in rw p (get_or-set_same (each n 0 f) i a a (omega (arith, length-each n 0 f)) ∙ e))
      (λ q. get_or-set_other (each n 0 f) i j a a (eqb-false j i q) ∙ get_or-each n j f a k ∙ o j k (eqb-false j i q)))
