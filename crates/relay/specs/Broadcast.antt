-- Broadcast headers (RFC 4944, 11.1).
use Rattle.std.specs.Prelude.{ℕ, List, [], ◌∷◌, Bool, eqb, Option, Some, None}
use Rattle.octets.specs.Read.{Reader, branch, refuse, byte, ◌>>=◌}

--                      1
--  0 1 2 3 4 5 6 7 8 9 0 1 2 3 4 5
-- +-+-+-+-+-+-+-+-+-+-+-+-+-+-+-+-+
-- |0 1 0 1 0 0 0 0|Sequence Number|
-- +-+-+-+-+-+-+-+-+-+-+-+-+-+-+-+-+
abbrev pub is_broadcast : ℕ → Bool
is_broadcast b = eqb b 0b01010000

unfoldable pub broadcast : Reader ℕ
broadcast = do
  b ← byte
  branch (is_broadcast b) byte (refuse 2)

-- the length and the bytes of a header that may be there
abbrev pub broadcast_length : Option ℕ → ℕ
broadcast_length None = 0
broadcast_length (Some x) = 2

abbrev pub broadcast_bytes : Option ℕ → List ℕ
broadcast_bytes None = []
broadcast_bytes (Some x) = 0b01010000 ∷ x ∷ []
