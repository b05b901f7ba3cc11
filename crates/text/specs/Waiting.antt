-- What the contracts of `out` cite: the bytes that wait, and those that a writer holds.
use Rattle.std.specs.Prelude.{◌≡◌, ℕ, ◌+◌, List, [], ◌∷◌, ◌++◌, length, nat_le, ⊤, None, Some}
use Rattle.std.specs.declared.option.Option.{Option}
use Rattle.std.specs.Io.KnownBytes.{Appends}
use Rattle.octets.specs.Read.{choose}
use Rattle.io.specs.Digits.{last_digits, IsDigitCount}
use Rattle.text.specs.Text.{hex_bytes}

-- what waits, with a text behind it: all of it where there is room, and else nothing
abbrev pub with_text : List ℕ → List ℕ → List ℕ
with_text was t = choose (nat_le (length was + length t) 65536) (was ++ t) was

-- with a number in decimal behind it: its digits, as few as hold it and at least one
pub record WithDecimal (x : ℕ) (was now : List ℕ) : Type 0 where
  pub count : ℕ
  pub fewest : IsDigitCount 10 1 x count
  pub grown : now ≡ with_text was (last_digits 10 count x)

-- bytes in hexadecimal, '-' for none
abbrev pub hex_or_dash : List ℕ → List ℕ
hex_or_dash [] = 45 ∷ []
hex_or_dash (b ∷ s) = hex_bytes (b ∷ s)

-- what a writer is known to hold, with what waits behind it, stays
abbrev pub Passes : Option (List ℕ) → List ℕ → Option (List ℕ) → List ℕ → Type 0
Passes None waited new waits = ⊤
Passes (Some xs) waited None waits = ⊥
Passes (Some xs) waited (Some ys) waits = ys ++ waits ≡ xs ++ waited

-- what a writer is known to hold stays, with some bytes behind it
abbrev pub Grows : Option (List ℕ) → Option (List ℕ) → Type 0
Grows old new = (t : List ℕ) × Appends old new t
