-- The frame check sequence of IEEE 802.15.4 (IEEE 802.15.4-2006, 7.2.1.9). The bits of the message, in the order in which they are sent,
-- are the coefficients of M(x), the first at the highest power. The FCS is the remainder R(x) of M(x) x^16 by
-- G(x) = x^16 + x^12 + x^5 + 1, modulo 2. R(x) = r0 x^15 + r1 x^14 + .. + r15 is held as a number with r0, which is sent first, in its lowest bit.
use Rattle.std.specs.Prelude.{◌≡◌, ℕ, zero, suc, ◌+◌, ◌*◌, ◌/◌, ◌%◌, ◌^◌, ◌<◌, List, [], ◌∷◌, get_or}
use Rattle.std.specs.Int.Bits.{bit_xor}

-- what x^16 leaves, x^12 + x^5 + 1: r3, r10 and r15
abbrev pub generator : ℕ
generator = 2 ^ 3 + 2 ^ 10 + 2 ^ 15

-- one bit b more: R(x) x + b x^16, and where its coefficient of x^16, which is r0 + b, is 1, less G(x)
abbrev pub bit_in : ℕ → ℕ → ℕ
bit_in r b = bit_xor (r / 2) (bit_xor (r % 2) b * generator)

-- n bits of a number, the lowest first, as a byte is sent (7.2.1: the least significant bit first)
unfoldable pub bits_in : ℕ → ℕ → ℕ → ℕ
bits_in zero r x = r
bits_in (suc n) r x = bits_in n (bit_in r (x % 2)) (x / 2)

abbrev pub byte_in : ℕ → ℕ → ℕ
byte_in r b = bits_in 8 r b

-- the bytes one after the other
unfoldable pub fcs_from : ℕ → List ℕ → ℕ
fcs_from r [] = r
fcs_from r (b ∷ bs) = fcs_from (byte_in r b) bs

-- the remainder of no bits is 0
abbrev pub fcs_of : List ℕ → ℕ
fcs_of s = fcs_from 0 s

-- a table for a byte at a time: for each byte what it leaves in an empty register
unfoldable pub IsTable : List ℕ → Type 0
IsTable l = (n : ℕ) → n < 256 → get_or l n 0 ≡ byte_in 0 n
