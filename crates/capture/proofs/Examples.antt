-- Worked examples of the check and of a block.
use Prim.Native.Nat.{ℕ}
use mathlib.Core.Path.{◌≡◌, refl}
use mathlib.Core.Bool.{true}
use mathlib.Core.List.{[], ◌∷◌}
use lib.ListN.{drop, replicate}
use Rattle.octets.specs.Read.{byte, le16, le32}
use Rattle.octets.specs.Write.{le16_bytes, le32_bytes}
use Rattle.capture.specs.Fcs.{bits_in, fcs_from, fcs_of}
use Rattle.capture.specs.Block.{Timed, count_of, all_zero, good_place, good_head, good_places, good_end, good_block}
use Rattle.capture.specs.Made.{place_of, place_in, body_of, block_of}

-- IEEE 802.15.4-2006, 7.2.1.9: an acknowledgment of the bits 0100 0000 0000 0000 0101 0110 has the FCS 0010 0111 1001 1110, the first bit
-- sent first: the bytes 02 00 6a, and e4 79
acknowledgment : le16_bytes (fcs_of (0x02 ∷ 0x00 ∷ 0x6a ∷ [])) ≡ 0xe4 ∷ 0x79 ∷ []
unfolding bits_in fcs_from le16_bytes
acknowledgment = refl

-- the check value that catalogues of CRCs give of this CRC, there CRC-16/KERMIT: that of the digits 123456789
digits : fcs_of (0x31 ∷ 0x32 ∷ 0x33 ∷ 0x34 ∷ 0x35 ∷ 0x36 ∷ 0x37 ∷ 0x38 ∷ 0x39 ∷ []) ≡ 0x2189
unfolding bits_in fcs_from
digits = refl

-- the block of the scope document's example, and its check as another implementation computes it
abbrev frame_from : ℕ → ℕ → Timed
frame_from lo hi = record {
  time = 0;
  frame = 0x41 ∷ 0x88 ∷ 0x05 ∷ 0xcd ∷ 0xab ∷ 0xff ∷ 0xff ∷ lo ∷ hi ∷ 0x7a ∷ 0x33 ∷ 0x3a ∷ 0x01 ∷ 0x02 ∷ 0x03 ∷ 0x04 ∷ [];
}

scope-example : drop 510 (block_of 0 (frame_from 0x01 0x00 ∷ frame_from 0x34 0x12 ∷ [])) ≡ 0x59 ∷ 0x49 ∷ []
unfolding bits_in fcs_from le16_bytes le32_bytes place_of place_in body_of block_of
scope-example = refl

-- 512 zeros are the block 0 with no frame: the check starts at 0
zeros-good : good_block 0 (replicate 512 0) ≡ true
unfolding good_block good_head good_places good_place good_end count_of all_zero bits_in fcs_from byte le16 le32
zeros-good = refl
