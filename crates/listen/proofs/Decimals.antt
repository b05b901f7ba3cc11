-- The text of a number: what `text` prints in decimal is it, and it has at most twenty characters.
use Rattle.std.proofs.Common.{◌≡◌, ℕ, zero, suc, ◌-◌, ◌/◌, ◌^◌, ◌<◌, ◌≤◌, Bool, true, false, ltb, List, length, refl, le_trans, lt_of_lt_of_le, lt_irrefl, arith, ltb-false, ltb-true}
use native.Mathlib.Nat.{pow-le-pow_right}
use Rattle.octets.specs.Read.{choose}
use Rattle.io.specs.Digits.{IsDigitCount}
use Rattle.text.specs.Text.{Printed, Decimal}
use Rattle.text.proofs.Printing.{length_digits}
use Rattle.listen.specs.Lines.{width_in, decimal}

-- ---- the width is the fewest digits that hold the number
one-digit : (n : ℕ) → n < 10 → IsDigitCount 10 1 n 1
one-digit n h = (omega arith, omega arith, λ (k : 1 < 1). absurd (lt_irrefl 1 k))

one_more : (n w : ℕ) → 10 ≤ n → IsDigitCount 10 1 (n / 10) w → IsDigitCount 10 1 n (suc w)
one_more n zero h f = absurd (omega (arith, f.0))
one_more n (suc zero) h f = (omega arith, omega (arith, f.1), λ (k : 1 < suc (suc zero)). h)
one_more n (suc (suc v)) h f =
    let least : 1 < suc (suc v) = omega arith in
    let p : suc (suc v) - 1 ≡ suc v = omega arith in
    let q : suc (suc (suc v)) - 1 ≡ suc (suc v) = omega arith in
    let low : 10 ^ suc v ≤ n / 10 = rw p at (f.2 least) in
    (omega arith, omega (arith, f.1), λ (k : 1 < suc (suc (suc v))). rw q (omega (arith, low)))

fewest-go : (k n : ℕ) → ((m : ℕ) → m < 10 ^ suc k → IsDigitCount 10 1 m (width_in k m)) → n < 10 ^ suc (suc k) → (t : Bool) → ltb n 10 ≡ t → IsDigitCount 10 1 n (choose t 1 (suc (width_in k (n / 10))))
fewest-go k n go h true e = one-digit n (ltb-true n 10 e)
fewest-go k n go h false e = one_more n (width_in k (n / 10)) (ltb-false n 10 e) (go (n / 10) (omega arith))

width-fewest : (k n : ℕ) → n < 10 ^ suc k → IsDigitCount 10 1 n (width_in k n)
unfolding width_in
width-fewest zero n h = one-digit n (omega arith)
width-fewest (suc k) n h = fewest-go k n (width-fewest k) h (ltb n 10) refl

-- ---- there is one such width
not-less : (n j k : ℕ) → IsDigitCount 10 1 n j → IsDigitCount 10 1 n k → j < k → ⊥
not-less n j k f g h =
    let ten : zero < 10 = omega arith in
    let up : 10 ^ j ≤ 10 ^ (k - 1) = pow-le-pow_right ten (omega arith) in
    let more : 1 < k = omega (arith, f.0) in
    lt_irrefl n (lt_of_lt_of_le f.1 (le_trans up (g.2 more)))

pub fewest-one : (n j k : ℕ) → IsDigitCount 10 1 n j → IsDigitCount 10 1 n k → j ≡ k
fewest-one n j k f g = omega (arith, not-less n j k f g, not-less n k j g f)

small-go : (t : Bool) (k w : ℕ) → w ≤ suc k → choose t 1 (suc w) ≤ suc (suc k)
small-go true k w h = omega arith
small-go false k w h = omega arith

width_small : (k n : ℕ) → width_in k n ≤ suc k
unfolding width_in
width_small zero n = omega arith
width_small (suc k) n = small-go (ltb n 10) k (width_in k (n / 10)) (width_small k (n / 10))

-- ---- what is printed
pub decimal-small : (n : ℕ) → length (decimal n) ≤ 20
unfolding decimal
decimal-small n = omega (arith, length_digits 10 (width_in 19 n) n, width_small 19 n)

pub decimal-printed : (at n : ℕ) (was room : List ℕ) (next : ℕ) → n < 2 ^ 64 → Decimal at n was room next → Printed at (decimal n) was room next
unfolding decimal
decimal-printed at n was room next h d =
    let e : d.count ≡ width_in 19 n = fewest-one n d.count (width_in 19 n) d.fewest (width-fewest 19 n (omega arith)) in
    rw e at d.printed
