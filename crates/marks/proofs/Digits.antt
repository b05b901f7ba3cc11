-- The digits of a word: of two words joined, of a mask and of a word turned round.
use Prim.Native.Nat.{ℕ, zero, suc, ◌+◌, ◌-◌, ◌*◌, ◌/◌, ◌%◌, ◌^◌, ◌≤◌, ◌<◌, zero-le, suc-le-suc, min, max}
use native.Mathlib.Nat.{le_of_suc-le-suc, not-suc-le-zero, pow-suc}
use native.Mathlib.Omega.{arith}
use mathlib.Core.Path.{◌≡◌, refl, ap, sym, ◌∙◌}
use mathlib.Core.Bool.{Bool, true, false, not, true≢false}
use lib.ListN.{length, get_or}
use lib.Dec.{eqb, leb, ltb}
use lib.Bits.{bit_and, bit_or, and_step, or_step}
use lib.Pow.{pow_pos, shr-shr}
use borrow.Author.Tests.{lt-ltb, le-ltb, le-leb, lt-leb, eqb-false, ltb-true, leb-true}
use Rattle.octets.specs.Read.{choose}
use Rattle.marks.specs.Marks.{bits}

-- ---- tests
pub choose-same : {A : Type 0} {a : A} (b : Bool) → choose b a a ≡ a
choose-same true = refl
choose-same false = refl

pub choose_no : (b x : Bool) → choose b true x ≡ false → (b ≡ false) × (x ≡ false)
choose_no true x e = absurd (true≢false e)
choose_no false x e = (refl, e)

unfoldable pub digit : ℕ → ℕ → Bool
digit w zero = eqb (w % 2) 1
digit w (suc j) = digit (w / 2) j

-- two Bools that are true together
pub both : (x y : Bool) → (x ≡ true → y ≡ true) → (y ≡ true → x ≡ true) → x ≡ y
both true true f g = refl
both true false f g = sym (f refl)
both false true f g = g refl
both false false f g = refl

pub both-no : (x y : Bool) → (x ≡ false → y ≡ false) → (y ≡ false → x ≡ false) → x ≡ y
both-no true true f g = refl
both-no true false f g = g refl
both-no false true f g = sym (f refl)
both-no false false f g = refl

pub choose-swap : (x y : Bool) → choose x true y ≡ choose y true x
choose-swap true true = refl
choose-swap true false = refl
choose-swap false true = refl
choose-swap false false = refl

-- ---- digits

pub length-bits : (k w : ℕ) → length (bits k w) ≡ k
unfolding bits
length-bits zero w = refl
length-bits (suc k) w = ap suc (length-bits k (w / 2))

pub get_or-bits : (k w j : ℕ) → j < k → get_or (bits k w) j false ≡ digit w j
unfolding bits digit
get_or-bits zero w j h = absurd (not-suc-le-zero h)
get_or-bits (suc k) w zero h = refl
get_or-bits (suc k) w (suc j) h = get_or-bits k (w / 2) j (le_of_suc-le-suc h)

pub digit-zero : (j : ℕ) → digit 0 j ≡ false
unfolding digit
digit-zero zero = refl
digit-zero (suc j) = digit-zero j

pub digit_shift : (w j : ℕ) → digit w j ≡ eqb (w / 2 ^ j % 2) 1
unfolding digit
digit_shift w zero =
    let e : w / 1 ≡ w = omega arith in
    ap (λ (x : ℕ). eqb (x % 2) 1) (sym e)
digit_shift w (suc j) =
    let n : 1 + j ≡ suc j = omega arith in
    digit_shift (w / 2) j ∙ ap (λ (x : ℕ). eqb (x % 2) 1) (shr-shr w 1 j ∙ ap (λ (x : ℕ). w / 2 ^ x) n)

-- a number by its lowest digit and the rest
pub low_digit : (w q r : ℕ) → w ≡ q * 2 + r → r < 2 → (w % 2 ≡ r) × (w / 2 ≡ q)
low_digit w q r e h = (omega arith, omega arith)

or-low : (x y : ℕ) → x < 2 → y < 2 → eqb (max x y) 1 ≡ choose (eqb x 1) true (eqb y 1)
or-low zero zero hx hy = refl
or-low zero (suc zero) hx hy = refl
or-low (suc zero) zero hx hy = refl
or-low (suc zero) (suc zero) hx hy = refl
or-low (suc (suc x)) y hx hy = absurd (omega arith)
or-low zero (suc (suc y)) hx hy = absurd (omega arith)
or-low (suc zero) (suc (suc y)) hx hy = absurd (omega arith)

and_low : (x y : ℕ) → x < 2 → y < 2 → eqb (min x y) 1 ≡ choose (eqb x 1) (eqb y 1) false
and_low zero zero hx hy = refl
and_low zero (suc zero) hx hy = refl
and_low (suc zero) zero hx hy = refl
and_low (suc zero) (suc zero) hx hy = refl
and_low (suc (suc x)) y hx hy = absurd (omega arith)
and_low zero (suc (suc y)) hx hy = absurd (omega arith)
and_low (suc zero) (suc (suc y)) hx hy = absurd (omega arith)

max-lt : (x y : ℕ) → x < 2 → y < 2 → max x y < 2
max-lt zero zero hx hy = omega arith
max-lt zero (suc zero) hx hy = omega arith
max-lt (suc zero) zero hx hy = omega arith
max-lt (suc zero) (suc zero) hx hy = omega arith
max-lt (suc (suc x)) y hx hy = absurd (omega arith)
max-lt zero (suc (suc y)) hx hy = absurd (omega arith)
max-lt (suc zero) (suc (suc y)) hx hy = absurd (omega arith)

min-lt : (x y : ℕ) → x < 2 → y < 2 → min x y < 2
min-lt zero zero hx hy = omega arith
min-lt zero (suc zero) hx hy = omega arith
min-lt (suc zero) zero hx hy = omega arith
min-lt (suc zero) (suc zero) hx hy = omega arith
min-lt (suc (suc x)) y hx hy = absurd (omega arith)
min-lt zero (suc (suc y)) hx hy = absurd (omega arith)
min-lt (suc zero) (suc (suc y)) hx hy = absurd (omega arith)

pub digit_or : (a b j : ℕ) → digit (bit_or a b) j ≡ choose (digit a j) true (digit b j)
unfolding digit
digit_or a b zero =
    let ha : a % 2 < 2 = omega arith in
    let hb : b % 2 < 2 = omega arith in
    ap (λ (x : ℕ). eqb x 1) (low_digit (bit_or a b) _ _ (or_step a b) (max-lt (a % 2) (b % 2) ha hb)).0 ∙ or-low (a % 2) (b % 2) ha hb
digit_or a b (suc j) =
    let ha : a % 2 < 2 = omega arith in
    let hb : b % 2 < 2 = omega arith in
    ap (λ (x : ℕ). digit x j) (low_digit (bit_or a b) _ _ (or_step a b) (max-lt (a % 2) (b % 2) ha hb)).1 ∙ digit_or (a / 2) (b / 2) j

pub digit_and : (a b j : ℕ) → digit (bit_and a b) j ≡ choose (digit a j) (digit b j) false
unfolding digit
digit_and a b zero =
    let ha : a % 2 < 2 = omega arith in
    let hb : b % 2 < 2 = omega arith in
    ap (λ (x : ℕ). eqb x 1) (low_digit (bit_and a b) _ _ (and_step a b) (min-lt (a % 2) (b % 2) ha hb)).0 ∙ and_low (a % 2) (b % 2) ha hb
digit_and a b (suc j) =
    let ha : a % 2 < 2 = omega arith in
    let hb : b % 2 < 2 = omega arith in
    ap (λ (x : ℕ). digit x j) (low_digit (bit_and a b) _ _ (and_step a b) (min-lt (a % 2) (b % 2) ha hb)).1 ∙ digit_and (a / 2) (b / 2) j

-- whether lo ≤ j < hi
unfoldable pub in_r : ℕ → ℕ → ℕ → Bool
in_r lo hi j = choose (leb lo j) (ltb j hi) false

pub in-yes : (lo hi j : ℕ) → lo ≤ j → j < hi → in_r lo hi j ≡ true
unfolding in_r
in-yes lo hi j a b = rw (le-leb lo j a, lt-ltb j hi b)

pub in-before : (lo hi j : ℕ) → j < lo → in_r lo hi j ≡ false
unfolding in_r
in-before lo hi j a = rw (lt-leb lo j a)

pub in_after : (lo hi j : ℕ) → hi ≤ j → in_r lo hi j ≡ false
unfolding in_r
in_after lo hi j a = rw (le-ltb j hi a) (choose-same (leb lo j))

pub in-of : (lo hi j : ℕ) → in_r lo hi j ≡ true → (lo ≤ j) × (j < hi)
unfolding in_r
in-of lo hi j e = go (leb lo j) (ltb j hi) refl refl e
  where
    go : (x y : Bool) → leb lo j ≡ x → ltb j hi ≡ y → choose x y false ≡ true → (lo ≤ j) × (j < hi)
    go true true p q e = (leb-true lo j p, ltb-true j hi q)
    go true false p q e = absurd (true≢false (sym e))
    go false y p q e = absurd (true≢false (sym e))

pub in-cong : (lo hi j lo' hi' j' : ℕ) → (lo ≤ j → j < hi → (lo' ≤ j') × (j' < hi')) → (lo' ≤ j' → j' < hi' → (lo ≤ j) × (j < hi)) → in_r lo hi j ≡ in_r lo' hi' j'
in-cong lo hi j lo' hi' j' f g =
    both (in_r lo hi j) (in_r lo' hi' j')
    (λ e. let p = in-of lo hi j e in let q = f p.0 p.1 in in-yes lo' hi' j' q.0 q.1)
    (λ e. let p = in-of lo' hi' j' e in let q = g p.0 p.1 in in-yes lo hi j q.0 q.1)

pub digit_mask : (hi lo j : ℕ) → lo ≤ hi → digit (2 ^ hi - 2 ^ lo) j ≡ in_r lo hi j
unfolding digit
digit_mask zero zero j h = digit-zero j ∙ sym (in_after 0 0 j zero-le)
digit_mask zero (suc lo) j h = absurd (not-suc-le-zero h)
digit_mask (suc hi) zero zero h =
    let p : 0 < 2 ^ hi = pow_pos hi in
    let e : 2 ^ suc hi - 1 ≡ (2 ^ hi - 1) * 2 + 1 = rw (pow-suc 2 hi) (omega arith) in
    ap (λ (x : ℕ). eqb x 1) (low_digit (2 ^ suc hi - 1) (2 ^ hi - 1) 1 e (omega arith)).0 ∙ sym (in-yes 0 (suc hi) 0 zero-le (suc-le-suc zero-le))
digit_mask (suc hi) zero (suc j) h =
    let p : 0 < 2 ^ hi = pow_pos hi in
    let e : 2 ^ suc hi - 1 ≡ (2 ^ hi - 1) * 2 + 1 = rw (pow-suc 2 hi) (omega arith) in
    ap (λ (x : ℕ). digit x j) (low_digit (2 ^ suc hi - 1) (2 ^ hi - 1) 1 e (omega arith)).1
    ∙ digit_mask hi zero j zero-le ∙ in-cong 0 hi j 0 (suc hi) (suc j) (λ a b. (omega arith, omega arith)) (λ a b. (omega arith, omega arith))
digit_mask (suc hi) (suc lo) zero h =
    let e : 2 ^ suc hi - 2 ^ suc lo ≡ (2 ^ hi - 2 ^ lo) * 2 + 0 = rw (pow-suc 2 hi, pow-suc 2 lo) (omega arith) in
    ap (λ (x : ℕ). eqb x 1) (low_digit (2 ^ suc hi - 2 ^ suc lo) (2 ^ hi - 2 ^ lo) 0 e (omega arith)).0 ∙ sym (in-before (suc lo) (suc hi) 0 (suc-le-suc zero-le))
digit_mask (suc hi) (suc lo) (suc j) h =
    let e : 2 ^ suc hi - 2 ^ suc lo ≡ (2 ^ hi - 2 ^ lo) * 2 + 0 = rw (pow-suc 2 hi, pow-suc 2 lo) (omega arith) in
    ap (λ (x : ℕ). digit x j) (low_digit (2 ^ suc hi - 2 ^ suc lo) (2 ^ hi - 2 ^ lo) 0 e (omega arith)).1
    ∙ digit_mask hi lo j (le_of_suc-le-suc h) ∙ in-cong lo hi j (suc lo) (suc hi) (suc j) (λ a b. (omega arith, omega arith)) (λ a b. (omega arith, omega arith))

flip_low : (x : ℕ) → x < 2 → eqb (1 - x) 1 ≡ not (eqb x 1)
flip_low zero h = refl
flip_low (suc zero) h = refl
flip_low (suc (suc x)) h = absurd (omega arith)

pub digit_not : (k w j : ℕ) → w < 2 ^ k → j < k → digit (2 ^ k - 1 - w) j ≡ not (digit w j)
unfolding digit
digit_not zero w j h hj = absurd (not-suc-le-zero hj)
digit_not (suc k) w zero h hj =
    let h2 : w < 2 ^ k * 2 = rw pow-suc at h in
    let p : 0 < 2 ^ k = pow_pos k in
    let e : 2 ^ suc k - 1 - w ≡ (2 ^ k - 1 - w / 2) * 2 + (1 - w % 2) = rw (pow-suc 2 k) (omega arith) in
    ap (λ (x : ℕ). eqb x 1) (low_digit (2 ^ suc k - 1 - w) (2 ^ k - 1 - w / 2) (1 - w % 2) e (omega arith)).0 ∙ flip_low (w % 2) (omega arith)
digit_not (suc k) w (suc j) h hj =
    let h2 : w < 2 ^ k * 2 = rw pow-suc at h in
    let p : 0 < 2 ^ k = pow_pos k in
    let e : 2 ^ suc k - 1 - w ≡ (2 ^ k - 1 - w / 2) * 2 + (1 - w % 2) = rw (pow-suc 2 k) (omega arith) in
    ap (λ (x : ℕ). digit x j) (low_digit (2 ^ suc k - 1 - w) (2 ^ k - 1 - w / 2) (1 - w % 2) e (omega arith)).1 ∙ digit_not k (w / 2) j (omega arith) (le_of_suc-le-suc hj)

-- a word with no digit set is 0
pub no-digits : (k w : ℕ) → w < 2 ^ k → ((j : ℕ) → j < k → digit w j ≡ false) → w ≡ 0
unfolding digit
no-digits zero w h f = omega arith
no-digits (suc k) w h f =
    let h2 : w < 2 ^ k * 2 = rw pow-suc at h in
    let a : w % 2 ≡ 1 → ⊥ = eqb-false (w % 2) 1 (f zero (suc-le-suc zero-le)) in
    let b : w / 2 ≡ 0 = no-digits k (w / 2) (omega arith) (λ j hj. f (suc j) (suc-le-suc hj)) in
    omega arith
