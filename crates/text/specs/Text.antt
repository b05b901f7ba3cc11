-- What the contracts cite: where a text goes in lent room, and the text of bytes and numbers.
use Rattle.std.specs.Prelude.{◌≡◌, ℕ, ◌+◌, ◌/◌, ◌%◌, List, [], ◌∷◌, length, nat_le}
use Rattle.octets.specs.Read.{choose}
use Rattle.octets.specs.Write.{put}
use Rattle.io.specs.Digits.{last_digits, hex_digit_ascii, IsDigitCount}

-- a text put at a place of a room, and the place after it: all of it where there is room, and else nothing
pub record Printed (at : ℕ) (text was room : List ℕ) (next : ℕ) : Type 0 where
  pub filled : room ≡ choose (nat_le (at + length text) (length was)) (put at text was) was
  pub behind : next ≡ choose (nat_le (at + length text) (length was)) (at + length text) at

-- two hexadecimal digits for each byte
unfoldable pub hex_bytes : List ℕ → List ℕ
hex_bytes [] = []
hex_bytes (b ∷ s) = hex_digit_ascii (b / 16) ∷ hex_digit_ascii (b % 16) ∷ hex_bytes s

-- a number in decimal is put: its digits, as few as hold it and at least one
pub record Decimal (at x : ℕ) (was room : List ℕ) (next : ℕ) : Type 0 where
  pub count : ℕ
  pub fewest : IsDigitCount 10 1 x count
  pub printed : Printed at (last_digits 10 count x) was room next
