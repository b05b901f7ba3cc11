-- What is read of a datagram that is sent: IPv6 (RFC 8200, 3) and UDP (RFC 768).
use Rattle.std.specs.Prelude.{ℕ, ◌+◌, ◌*◌, ◌^◌, List, Bool, ◌&&◌, eqb, leb, length}
use Rattle.octets.specs.Read.{is, refused, Read, byte, be16, be32, value_or}

-- 0 past the end
abbrev pub or_zero : Read ℕ → ℕ
or_zero r = value_or 0 r

-- version 6, traffic class 0 and flow label 0, in 32 bits; a payload length of the bytes that are present
unfoldable pub is_ours : List ℕ → Bool
is_ours d = eqb (or_zero (be32 d 0)) (6 * 2 ^ 28) && eqb (or_zero (be16 d 4) + 40) (length d)

-- 48 bytes or more, next header 17, a UDP length of the IPv6 payload's
unfoldable pub is_udp : List ℕ → Bool
is_udp d = leb 48 (length d) && (eqb (or_zero (byte d 6)) 17 && eqb (or_zero (be16 d 44) + 40) (length d))
