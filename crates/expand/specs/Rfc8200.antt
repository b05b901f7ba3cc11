-- RFC 8200's own rules for the headers of a datagram, judged from its bytes: not a word of compression, and nothing of how an expansion is made.
-- Every expansion passes: `reads-back` (proofs/Rfc8200Laws.antt).
use Rattle.std.specs.Prelude.{ℕ, ◌+◌, ◌-◌, ◌*◌, ◌/◌, List, [], ◌∷◌, Bool, true, false, ◌&&◌, ◌||◌, length, get_or, drop, eqb, leb}

-- b: the bytes from a header on; t: how many bytes the datagram has from there on. A whole datagram has just those of b, a first fragment's
-- bytes are fewer.
abbrev pub byte_at : List ℕ → ℕ → ℕ
byte_at b k = get_or b k 0

-- 16 bits, the high byte first
abbrev pub word_at : List ℕ → ℕ → ℕ
word_at b k = byte_at b k * 256 + byte_at b (k + 1)

-- ---- RFC 8200, 3
--  +-+-+-+-+-+-+-+-+-+-+-+-+-+-+-+-+-+-+-+-+-+-+-+-+-+-+-+-+-+-+-+-+
--  |Version| Traffic Class |           Flow Label                  |
--  +-+-+-+-+-+-+-+-+-+-+-+-+-+-+-+-+-+-+-+-+-+-+-+-+-+-+-+-+-+-+-+-+
--  |         Payload Length        |  Next Header  |   Hop Limit   |
--  +-+-+-+-+-+-+-+-+-+-+-+-+-+-+-+-+-+-+-+-+-+-+-+-+-+-+-+-+-+-+-+-+
--  |                                                               |
--  +                 Source Address, 16 octets                     +
--  |                                                               |
--  +-+-+-+-+-+-+-+-+-+-+-+-+-+-+-+-+-+-+-+-+-+-+-+-+-+-+-+-+-+-+-+-+
--  |                                                               |
--  +               Destination Address, 16 octets                  +
--  |                                                               |
--  +-+-+-+-+-+-+-+-+-+-+-+-+-+-+-+-+-+-+-+-+-+-+-+-+-+-+-+-+-+-+-+-+
-- 40 bytes; version 6; payload length: the rest of the datagram behind this header, extension headers among it
unfoldable pub is_ipv6 : ℕ → List ℕ → Bool
is_ipv6 t b = leb 40 (length b) && (eqb (byte_at b 0 / 16) 6 && eqb (word_at b 4) (t - 40))

-- ---- RFC 8200, 4.3, 4.4, 4.6; RFC 6275, 6.1.1
--  +-+-+-+-+-+-+-+-+-+-+-+-+-+-+-+-+-+-+-+-+-+-+-+-+-+-+-+-+-+-+-+-+
--  |  Next Header  |  Hdr Ext Len  |                               |
--  +-+-+-+-+-+-+-+-+-+-+-+-+-+-+-+-+                               +
--  .                            Options                            .
--  +-+-+-+-+-+-+-+-+-+-+-+-+-+-+-+-+-+-+-+-+-+-+-+-+-+-+-+-+-+-+-+-+
-- the headers of this form: hop-by-hop options 0, routing 43, destination options 60, mobility 135
abbrev pub is_extension : ℕ → Bool
is_extension n = eqb n 0 || (eqb n 43 || (eqb n 60 || eqb n 135))

-- Hdr Ext Len: the length in 8-octet units, not including the first 8 octets. So a multiple of eight
abbrev pub ext_size : List ℕ → ℕ
ext_size b = 8 * (byte_at b 1 + 1)

unfoldable pub has_extension : List ℕ → Bool
has_extension b = leb (ext_size b) (length b)

-- ---- RFC 8200, 4.2: padding, as one option: Pad1, a zero; or PadN, 1, the length of its data, and that many zeros
unfoldable pub is_zeros : List ℕ → Bool
is_zeros [] = true
is_zeros (x ∷ b) = eqb x 0 && is_zeros b

unfoldable pub is_padding : List ℕ → Bool
is_padding [] = true
is_padding (x ∷ []) = eqb x 0
is_padding (x ∷ n ∷ b) = eqb x 1 && (eqb n (length b) && is_zeros b)

-- ---- RFC 768
--  +--------+--------+--------+--------+
--  |   Source Port   | Destination Port|
--  +--------+--------+--------+--------+
--  |     Length      |    Checksum     |
--  +--------+--------+--------+--------+
-- 8 bytes; length: this header and the data, to the end of the datagram. Of its checksum, Sum.antt
unfoldable pub is_udp : ℕ → List ℕ → Bool
is_udp t b = leb 8 (length b) && eqb (word_at b 4) t

-- ---- the chain
-- what it ends with: UDP; or payload of the number n, whose bytes are not looked into
pub data Last : Type 0 where
  udp : Last
  payload : ℕ → Last

-- next: the number in the field in front (RFC 8200, 4: it identifies the header that follows)
unfoldable pub ends_in : Last → ℕ → ℕ → List ℕ → Bool
ends_in udp next t b = eqb next 17 && is_udp t b
ends_in (payload n) next t b = eqb next n

-- the headers of the numbers ns, one behind the other; IPv6 is 41. In any order: what the sender compressed is not sorted anew
unfoldable pub reads : List ℕ → Last → ℕ → ℕ → List ℕ → Bool
reads [] last next t b = ends_in last next t b
reads (n ∷ ns) last next t b =
    eqb next n
    && ((eqb n 41 && (is_ipv6 t b && reads ns last (byte_at b 6) (t - 40) (drop 40 b)))
    || (is_extension n && (has_extension b && reads ns last (byte_at b 0) (t - ext_size b) (drop (ext_size b) b))))

-- ---- a datagram of t bytes, of which b come first: an IPv6 header, and the chain
unfoldable pub is_datagram : List ℕ → Last → ℕ → List ℕ → Bool
is_datagram [] last t b = false
is_datagram (n ∷ ns) last t b = leb (length b) t && reads (n ∷ ns) last 41 t b
