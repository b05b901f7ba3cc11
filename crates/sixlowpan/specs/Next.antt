-- The next header field of a compressed header (RFC 6282, 3.1.1 and 4.2).
use Rattle.std.specs.Prelude.{ℕ, List, [], eqb}
use Rattle.octets.specs.Read.{Reader, choose, branch, give, byte, ◌>>=◌}
use Rattle.octets.specs.Write.{byte_bytes}
use Rattle.sixlowpan.specs.declared.protocol.NextHeader.{NextHeader}
use Rattle.sixlowpan.specs.declared.protocol.NextHeader.TheVariants.{Compressed, Uncompressed}

-- NH 0: the next header's 8 bits are carried inline; NH 1: they are elided, the next header is compressed too
unfoldable pub next_header : ℕ → Reader NextHeader
next_header nh =
    branch (eqb nh 0)
    (do
      p ← byte
      give (Uncompressed (record { 0 = p })))
    (give Compressed)

-- how many bytes carry it
abbrev pub next_width : ℕ → ℕ
next_width nh = choose (eqb nh 0) 1 0

-- the bit NH, and the bytes, that are written
abbrev pub next_bit : NextHeader → ℕ
next_bit (Uncompressed p) = 0
next_bit Compressed = 1

abbrev pub next_bytes : NextHeader → List ℕ
next_bytes (Uncompressed p) = byte_bytes p.0
next_bytes Compressed = []
