-- The register by bytes: a byte that goes in is the register's high byte and what the table has for the low one.
use mathlib.Core.Path.{◌≡◌, refl, sym, ap, ap₂, ◌∙◌}
use mathlib.Core.List.{List, [], ◌∷◌}
use Prim.Native.Nat.{ℕ, zero, suc, ◌+◌, ◌*◌, ◌/◌, ◌%◌, ◌^◌, ◌<◌, ◌≤◌}
use native.Mathlib.Nat.{not-suc-le-zero, le_of_suc-le-suc, mod-lt, zero-lt-suc, div-add-mod', div-eq_of_lt, div-one, div-div-eq-div-mul, pow-succ'}
use native.Mathlib.Numerals.{add-one}
use native.Mathlib.Omega.{arith}
use lib.Arith.{bin_ind}
use lib.Bits.{bit_and, and_mask, bit_xor, differ, xor_step, xor_shr, xor_mod, xor_comm, xor_zero_r, xor_zero_l, xor_lt, block_half, block_odd}
use lib.ListN.{length, get_or, drop, drop_of_length-le}
use lib.Seq.{drop-cons}
use Rattle.capture.specs.Fcs.{generator, bit_in, bits_in, byte_in, fcs_from}

bit-elim : (P : ℕ → Type 0) → P 0 → P 1 → (x : ℕ) → x < 2 → P x
bit-elim P p q zero h = p
bit-elim P p q (suc zero) h = q
bit-elim P p q (suc (suc x)) h = absurd (not-suc-le-zero (le_of_suc-le-suc (le_of_suc-le-suc h)))

low : (x : ℕ) → x % 2 < 2
low x = mod-lt x (zero-lt-suc 1)

abbrev Assoc : ℕ → ℕ → ℕ → Type 0
Assoc x y z = differ (bit_xor x y) z ≡ differ x (bit_xor y z)

digit_assoc : (x y z : ℕ) → x < 2 → y < 2 → z < 2 → Assoc x y z
digit_assoc x y z hx hy hz =
    bit-elim (λ (x : ℕ). Assoc x y z)
    (bit-elim (λ (y : ℕ). Assoc 0 y z) (bit-elim (Assoc 0 0) refl refl z hz) (bit-elim (Assoc 0 1) refl refl z hz) y hy)
    (bit-elim (λ (y : ℕ). Assoc 1 y z) (bit-elim (Assoc 1 0) refl refl z hz) (bit-elim (Assoc 1 1) refl refl z hz) y hy) x hx

-- digit by digit
pub xor_assoc : (a b c : ℕ) → bit_xor (bit_xor a b) c ≡ bit_xor a (bit_xor b c)
xor_assoc = bin_ind (λ (n : ℕ). (b c : ℕ) → bit_xor (bit_xor n b) c ≡ bit_xor n (bit_xor b c)) (λ b c. refl) (λ n ih b c.
    xor_step (bit_xor n b) c
    ∙ ap₂ (λ (x y : ℕ). bit_xor x (c / 2) * 2 + differ y (c % 2)) (xor_shr n b 1) (xor_mod n b 1)
    ∙ ap₂ (λ (x y : ℕ). x * 2 + y) (ih (b / 2) (c / 2)) (digit_assoc (n % 2) (b % 2) (c % 2) (low n) (low b) (low c))
    ∙ sym (xor_step n (bit_xor b c) ∙ ap₂ (λ (x y : ℕ). bit_xor (n / 2) x * 2 + differ (n % 2) y) (xor_shr b c 1) (xor_mod b c 1)))

-- a bit may go in with its number: what is left of the number stays beside the register
enter : (r x : ℕ) → bit_in (bit_xor r x) 0 ≡ bit_xor (bit_in r (x % 2)) (x / 2)
enter r x =
    ap₂ (λ (y z : ℕ). bit_xor y (z * generator)) (xor_shr r x 1) (xor_zero_r (bit_xor r x % 2) ∙ xor_mod r x 1)
    ∙ xor_assoc (r / 2) (x / 2) (bit_xor (r % 2) (x % 2) * generator)
    ∙ ap (bit_xor (r / 2)) (xor_comm (x / 2) (bit_xor (r % 2) (x % 2) * generator))
    ∙ sym (xor_assoc (r / 2) (bit_xor (r % 2) (x % 2) * generator) (x / 2))

enters : (n r x : ℕ) → bits_in n (bit_xor r x) 0 ≡ bit_xor (bits_in n r x) (x / 2 ^ n)
unfolding bits_in
enters zero r x = ap (bit_xor r) (sym (div-one x))
enters (suc n) r x =
    ap (λ (y : ℕ). bits_in n y 0) (enter r x)
    ∙ enters n (bit_in r (x % 2)) (x / 2)
    ∙ ap (bit_xor (bits_in n (bit_in r (x % 2)) (x / 2))) (div-div-eq-div-mul x 2 (2 ^ n) ∙ ap (λ (y : ℕ). x / y) (sym (pow-succ' 2 n)))

-- only the low n bits go in
lows : (n r h x : ℕ) → bits_in n r (h * 2 ^ n + x) ≡ bits_in n r x
unfolding bits_in
lows zero r h x = refl
lows (suc n) r h x = ap₂ (λ (y z : ℕ). bits_in n (bit_in r y) z) (block_odd h n x) (block_half h n x) ∙ lows n (bit_in r (x % 2)) h (x / 2)

pub looked : (r b : ℕ) → b < 256 → bit_xor (r / 256) (byte_in 0 (bit_and (bit_xor r b) 255)) ≡ byte_in r b
looked r b h =
    xor_comm (r / 256) (byte_in 0 (bit_and (bit_xor r b) 255))
    ∙ ap₂ (λ (y z : ℕ). bit_xor (byte_in 0 y) z) (and_mask (bit_xor r b) 8) (sym (xor_shr r b 8 ∙ ap (bit_xor (r / 256)) (div-eq_of_lt h) ∙ xor_zero_r (r / 256)))
    ∙ ap (λ (y : ℕ). bit_xor y (bit_xor r b / 256)) (sym (lows 8 0 (bit_xor r b / 256) (bit_xor r b % 256)) ∙ ap (bits_in 8 0) (div-add-mod' (bit_xor r b) 256))
    ∙ sym (enters 8 0 (bit_xor r b))
    ∙ ap (λ (y : ℕ). bits_in 8 y 0) (xor_zero_l (bit_xor r b))
    ∙ enters 8 r b
    ∙ ap (bit_xor (byte_in r b)) (div-eq_of_lt h)
    ∙ xor_zero_r (byte_in r b)

-- ---- the check of a list, one byte at a time from the front
pub turn : (s : List ℕ) (i r : ℕ) → i < length s → fcs_from (byte_in r (get_or s i 0)) (drop (i + 1) s) ≡ fcs_from r (drop i s)
unfolding fcs_from
turn s i r h = sym (ap (fcs_from r) (drop-cons s i 0 h ∙ ap (λ (k : ℕ). get_or s i 0 ∷ drop k s) (sym (add-one i))))

pub end : (s : List ℕ) (i r : ℕ) → length s ≤ i → fcs_from r (drop i s) ≡ r
unfolding fcs_from
end s i r h = ap (fcs_from r) (drop_of_length-le s h)

-- ---- the register has 16 bits
bit-small : (r b : ℕ) → r < 2 ^ 16 → b < 2 → bit_in r b < 2 ^ 16
bit-small r b h k =
    let g : bit_xor (r % 2) b < 2 ^ 1 = xor_lt 1 (r % 2) b (low r) k in
    let p : bit_xor (r % 2) b * generator < 2 ^ 16 = omega arith in
    xor_lt 16 (r / 2) (bit_xor (r % 2) b * generator) (omega arith) p

bits_small : (n r x : ℕ) → r < 2 ^ 16 → bits_in n r x < 2 ^ 16
unfolding bits_in
bits_small zero r x h = h
bits_small (suc n) r x h = bits_small n (bit_in r (x % 2)) (x / 2) (bit-small r (x % 2) h (low x))

pub fcs-small : (s : List ℕ) (r : ℕ) → r < 2 ^ 16 → fcs_from r s < 2 ^ 16
unfolding fcs_from
fcs-small [] r h = h
fcs-small (b ∷ s) r h = fcs-small s (byte_in r b) (bits_small 8 r b h)
