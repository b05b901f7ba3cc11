-- Ranges of marks, unit by unit: a mark that is found, a range without a gap, a range that is filled.
use Prim.Native.Nat.{ℕ, zero, suc, ◌+◌, ◌-◌, ◌≤◌, ◌<◌}
use native.Mathlib.Omega.{arith}
use mathlib.Core.Path.{◌≡◌, refl, ap, sym, ◌∙◌}
use mathlib.Core.Bool.{Bool, true, false, true≢false}
use mathlib.Core.List.{List}
use lib.ListN.{length, get_or, replicate, length-replicate, get_or-replicate}
use lib.Dec.{ltb}
use borrow.Author.Tests.{ltb-true, ltb-false}
use Rattle.octets.specs.Read.{choose}
use Rattle.marks.specs.Marks.{same, has_in, fill, bits, unpack}
use Rattle.marks.proofs.Digits.{in_r, in-yes, in-before, in_after}
use Rattle.marks.proofs.Words.{has-none, none_has, fill-at, length-fill, past-none}

-- a mark that a range has stands at a unit of it
pub has-unit : (l : List Bool) (u n : ℕ) → has_in true l u n ≡ true → (i : ℕ) × (u ≤ i) × (i < u + n) × (get_or l i false ≡ true)
unfolding has_in
has-unit l u zero e = absurd (true≢false (sym e))
has-unit l u (suc n) e = go (get_or l u false) refl (has-unit l (suc u) n) e
  where
    go : (b : Bool) → get_or l u false ≡ b → (has_in true l (suc u) n ≡ true → (i : ℕ) × (suc u ≤ i) × (i < suc u + n) × (get_or l i false ≡ true))
        → choose (same b true) true (has_in true l (suc u) n) ≡ true → (i : ℕ) × (u ≤ i) × (i < u + suc n) × (get_or l i false ≡ true)
    go true q ih e' = (u, omega arith, omega arith, q)
    go false q ih e' = let r = ih e' in (r.0, omega (arith, r.1), omega (arith, r.2), r.3)

pub unit-has : (l : List Bool) (u n i : ℕ) → u ≤ i → i < u + n → get_or l i false ≡ true → has_in true l u n ≡ true
unit-has l u n i h k e = go (has_in true l u n) refl
  where
    go : (b : Bool) → has_in true l u n ≡ b → has_in true l u n ≡ true
    go true q = q
    go false q =
        let z : u + (i - u) ≡ i = omega arith in
        let w : same (get_or l i false) true ≡ false = ap (λ (x : ℕ). same (get_or l x false) true) (sym z) ∙ has-none true l u n q (i - u) (omega arith) in
        let y : true ≡ false = rw e at w in
        absurd (true≢false y)

-- in a range without a gap every unit is marked
pub whole-unit : (l : List Bool) (u n i : ℕ) → has_in false l u n ≡ false → u ≤ i → i < u + n → get_or l i false ≡ true
whole-unit l u n i e h k =
    let z : u + (i - u) ≡ i = omega arith in
    let w : same (get_or l i false) false ≡ false = ap (λ (x : ℕ). same (get_or l x false) false) (sym z) ∙ has-none false l u n e (i - u) (omega arith) in
    go (get_or l i false) w
  where
    go : (b : Bool) → same b false ≡ false → b ≡ true
    go true q = refl
    go false q = absurd (true≢false q)

pub unit-whole : (l : List Bool) (u n : ℕ) → ((i : ℕ) → u ≤ i → i < u + n → get_or l i false ≡ true) → has_in false l u n ≡ false
unit-whole l u n f = none_has false l u n (λ d h. ap (λ (x : Bool). same x false) (f (u + d) (omega arith) (omega arith)))

-- a unit of a range that is filled, and a unit outside it
pub fill-in : (u n : ℕ) (l : List Bool) (i : ℕ) → u ≤ i → i < u + n → i < length l → get_or (fill u n l) i false ≡ true
fill-in u n l i h k m = fill-at u n l i m ∙ ap (λ (x : Bool). choose x true (get_or l i false)) (in-yes u (u + n) i h k)

module _ (u n : ℕ) (l : List Bool) (i : ℕ) where
  fill-past : length l ≤ i → get_or (fill u n l) i false ≡ get_or l i false
  fill-past h = past-none (fill u n l) i (omega (arith, length-fill u n l)) ∙ sym (past-none l i h)

  fill-not : in_r u (u + n) i ≡ false → get_or (fill u n l) i false ≡ get_or l i false
  fill-not e = go (ltb i (length l)) refl
    where
      go : (b : Bool) → ltb i (length l) ≡ b → get_or (fill u n l) i false ≡ get_or l i false
      go true q = fill-at u n l i (ltb-true i (length l) q) ∙ ap (λ (x : Bool). choose x true (get_or l i false)) e
      go false q = fill-past (ltb-false i (length l) q)

  pub fill-before : i < u → get_or (fill u n l) i false ≡ get_or l i false
  fill-before h = fill-not (in-before u (u + n) i h)

  pub fill-after : u + n ≤ i → get_or (fill u n l) i false ≡ get_or l i false
  fill-after h = fill-not (in_after u (u + n) i h)

-- words of zero have no mark
pub no-marks : unpack (replicate 4 0) ≡ replicate 256 false
unfolding unpack bits
no-marks = refl

pub none-marked : (i : ℕ) → get_or (unpack (replicate 4 0)) i false ≡ false
none-marked i = ap (λ (l : List Bool). get_or l i false) no-marks ∙ go (ltb i 256) refl
  where
    go : (b : Bool) → ltb i 256 ≡ b → get_or (replicate 256 false) i false ≡ false
    go true q = get_or-replicate 256 i false false (ltb-true i 256 q)
    go false q = past-none (replicate 256 false) i (let z = ltb-false i 256 q in omega (arith, length-replicate {A = Bool} 256 false))
