-- The lines that a capture is told in (the scope document, "Capture blocks and the program"): their text, and where it goes in lent room.
use Rattle.std.specs.Prelude.{ℕ, zero, suc, ◌+◌, ◌/◌, List, [], ◌∷◌, ◌++◌, length, nat_le, nat_lt}
use Rattle.octets.specs.Read.{choose}
use Rattle.octets.specs.Write.{put}
use Rattle.io.specs.Digits.{last_digits}
use Rattle.reassembly.specs.Parts.{Reply, kept, out, refused}

-- ---- numbers in decimal
-- how many digits a number has, k + 1 at most
unfoldable pub width_in : ℕ → ℕ → ℕ
width_in zero n = 1
width_in (suc k) n = choose (nat_lt n 10) 1 (suc (width_in k (n / 10)))

-- a number below 10^20, as every one of 64 bits is, without a zero in front
unfoldable pub decimal : ℕ → List ℕ
decimal n = last_digits 10 (width_in 19 n) n

-- ---- the words, as characters
abbrev pub newline : List ℕ
newline = 0x0a ∷ []

-- " out "
abbrev pub out_word : List ℕ
out_word = 0x20 ∷ 0x6f ∷ 0x75 ∷ 0x74 ∷ 0x20 ∷ []

-- " kept"
abbrev pub kept_word : List ℕ
kept_word = 0x20 ∷ 0x6b ∷ 0x65 ∷ 0x70 ∷ 0x74 ∷ []

-- " no "
abbrev pub no_word : List ℕ
no_word = 0x20 ∷ 0x6e ∷ 0x6f ∷ 0x20 ∷ []

-- "block "
abbrev pub block_word : List ℕ
block_word = 0x62 ∷ 0x6c ∷ 0x6f ∷ 0x63 ∷ 0x6b ∷ 0x20 ∷ []

-- "end "
abbrev pub end_word : List ℕ
end_word = 0x65 ∷ 0x6e ∷ 0x64 ∷ 0x20 ∷ []

-- ---- the lines
-- `n out L`, `n kept`, `n no R`: what frame n came to
abbrev pub frame_line : ℕ → Reply ℕ → List ℕ
frame_line n kept = decimal n ++ (kept_word ++ newline)
frame_line n (out l) = decimal n ++ (out_word ++ (decimal l ++ newline))
frame_line n (refused r) = decimal n ++ (no_word ++ (decimal r ++ newline))

-- `block b no 15`
abbrev pub bad_line : ℕ → List ℕ
bad_line b = block_word ++ (decimal b ++ (no_word ++ (decimal 15 ++ newline)))

-- `end n`
abbrev pub end_line : ℕ → List ℕ
end_line n = end_word ++ (decimal n ++ newline)

-- ---- lines in lent room
-- a room, and where in it the next line goes
pub record Page : Type 0 where
  pub room : List ℕ
  pub at : ℕ

-- a line is put where all of it has room; else nothing is put, and the place stays
unfoldable pub put_line : List ℕ → Page → Page
put_line t p = choose (nat_le (p.at + length t) (length p.room)) (record { room = put p.at t p.room; at = p.at + length t }) p

-- line after line
unfoldable pub put_lines : List (List ℕ) → Page → Page
put_lines [] p = p
put_lines (t ∷ ts) p = put_lines ts (put_line t p)
