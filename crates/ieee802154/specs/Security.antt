-- The auxiliary security header (IEEE 802.15.4, 9.4): a security control byte, a frame counter of four bytes unless suppressed, and a key
-- identifier.
use Rattle.std.specs.Prelude.{ℕ, ◌+◌, ◌/◌, ◌%◌, Bool, eqb}
use Rattle.octets.specs.Read.{Reader, choose, branch, give, byte, skip, ◌>>=◌}

-- 9.4.2.4: bit 5, the frame counter is suppressed
unfoldable pub counter_length : ℕ → ℕ
counter_length b = choose (eqb (b / 32 % 2) 1) 0 4

-- 9.4.2.3: bits 3 and 4, the key identifier mode
unfoldable pub key_length : ℕ → ℕ
key_length b = choose (eqb (b / 8 % 4) 0) 0 (choose (eqb (b / 8 % 4) 1) 1 (choose (eqb (b / 8 % 4) 2) 5 9))

-- how many bytes follow the security control byte
abbrev pub auxiliary_length : ℕ → ℕ
auxiliary_length b = counter_length b + key_length b

-- there where security is enabled
unfoldable pub auxiliary : Bool → Reader (Unit {0})
auxiliary t =
    branch t
    (do
      b ← byte
      skip (auxiliary_length b))
    (give tt)
