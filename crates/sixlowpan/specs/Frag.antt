-- Fragment headers (RFC 4944, 5.3).
use Rattle.std.specs.Prelude.{ℕ, ◌+◌, ◌*◌, ◌/◌, ◌%◌, List, ◌++◌, Bool, true, false, eqb}
use Rattle.octets.specs.Read.{Reader, choose, branch, give, refuse, byte, be16, ◌>>=◌}
use Rattle.octets.specs.Write.{byte_bytes, be16_bytes}
use Rattle.sixlowpan.specs.declared.frag.Units.{Units}
use Rattle.sixlowpan.specs.declared.frag.Repr.{Repr}
use Rattle.sixlowpan.specs.declared.frag.Repr.TheVariants.{FirstFragment, Fragment}

-- after the word and the tag: 11000, a first part; 11100, an offset in units of 8 octets follows; anything else is no fragment header
unfoldable pub frag_rest : ℕ → ℕ → Reader Repr
frag_rest word tag =
    branch (eqb (word / 2048) 0b11000)
    (give (FirstFragment (word % 2048) tag))
    (branch (eqb (word / 2048) 0b11100)
    (do
      o ← byte
      give (Fragment (word % 2048) tag (record { 0 = o })))
    (refuse 2))

-- how many bytes follow the tag
abbrev pub frag_width : ℕ → ℕ
frag_width word = choose (eqb (word / 2048) 0b11000) 0 1

-- a first part
--                      1                   2                   3
--  0 1 2 3 4 5 6 7 8 9 0 1 2 3 4 5 6 7 8 9 0 1 2 3 4 5 6 7 8 9 0 1
-- +-+-+-+-+-+-+-+-+-+-+-+-+-+-+-+-+-+-+-+-+-+-+-+-+-+-+-+-+-+-+-+-+
-- |1 1 0 0 0|    datagram_size    |         datagram_tag          |
-- +-+-+-+-+-+-+-+-+-+-+-+-+-+-+-+-+-+-+-+-+-+-+-+-+-+-+-+-+-+-+-+-+
-- and a later one
-- +-+-+-+-+-+-+-+-+-+-+-+-+-+-+-+-+-+-+-+-+-+-+-+-+-+-+-+-+-+-+-+-+
-- |1 1 1 0 0|    datagram_size    |         datagram_tag          |
-- +-+-+-+-+-+-+-+-+-+-+-+-+-+-+-+-+-+-+-+-+-+-+-+-+-+-+-+-+-+-+-+-+
-- |datagram_offset|
-- +-+-+-+-+-+-+-+-+
-- five bits of dispatch and 11 of size, 16 of tag
unfoldable pub frag : Reader Repr
frag = do
  word ← be16
  tag ← be16
  frag_rest word tag

abbrev pub size_of : Repr → ℕ
size_of (FirstFragment size tag) = size
size_of (Fragment size tag o) = size

abbrev pub tag_of : Repr → ℕ
tag_of (FirstFragment size tag) = tag
tag_of (Fragment size tag o) = tag

abbrev pub offset_of : Repr → Units
offset_of (FirstFragment size tag) = record { 0 = 0 }
offset_of (Fragment size tag o) = o

abbrev pub is_first : Repr → Bool
is_first (FirstFragment size tag) = true
is_first (Fragment size tag o) = false

-- the header's length and its bytes; a size is masked to 11 bits
abbrev pub length_of : Repr → ℕ
length_of (FirstFragment size tag) = 4
length_of (Fragment size tag o) = 5

abbrev pub bytes_of : Repr → List ℕ
bytes_of (FirstFragment size tag) = be16_bytes (0b11000 * 2048 + size % 2048) ++ be16_bytes tag
bytes_of (Fragment size tag o) = be16_bytes (0b11100 * 2048 + size % 2048) ++ (be16_bytes tag ++ byte_bytes o.0)

-- what reading back gives: the size masked
abbrev pub masked : Repr → Repr
masked (FirstFragment size tag) = FirstFragment (size % 2048) tag
masked (Fragment size tag o) = Fragment (size % 2048) tag o
