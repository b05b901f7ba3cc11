-- Capture blocks (the scope document, "Capture blocks and the program"): 512 bytes, little-endian. Bytes 0..3 are the block's number, 4 the
-- count of frames, 5 zero; then three places of 132 bytes, each a time, 4 bytes, a length, one byte, and 127 bytes of a frame; zeros to
-- 509; 510 and 511 the FCS of what stands before.
use Rattle.std.specs.Prelude.{ℕ, ◌+◌, ◌*◌, min, List, [], ◌∷◌, Bool, true, ◌&&◌, length, get_or, take, drop, eqb, leb, ltb}
use Rattle.std.proofs.Math.Seq.{slice}
use Rattle.octets.specs.Read.{Answer, is, refused, Read, Reader, choose, le16, le32, value_or}
use Rattle.capture.specs.Fcs.{fcs_of}

-- a frame and the time, in ms, at which it was heard
pub record Timed : Type 0 where
  pub time : ℕ
  pub frame : List ℕ

-- the field at a place; 0 where the bytes end before it does
abbrev pub value_of : Read ℕ → ℕ
value_of m = value_or 0 m

abbrev pub field : Reader ℕ → ℕ → List ℕ → ℕ
field m at s = value_of (m s at)

-- ---- what a block holds. All of this is said of every list of bytes: what is no whole block holds no frame, and neither does a place
-- behind the count
-- where place k begins, from 0
abbrev pub place_at : ℕ → ℕ
place_at k = 6 + 132 * k

unfoldable pub count_of : List ℕ → ℕ
count_of s = choose (eqb (length s) 512) (min 3 (get_or s 4 0)) 0

-- the length byte of place k
abbrev pub length_at : ℕ → List ℕ → ℕ
length_at k s = get_or s (place_at k + 4) 0

unfoldable pub time_of : ℕ → List ℕ → ℕ
time_of k s = choose (ltb k (count_of s)) (field le32 (place_at k) s) 0

unfoldable pub frame_of : ℕ → List ℕ → List ℕ
frame_of k s = choose (ltb k (count_of s)) (take (min 127 (length_at k s)) (drop (place_at k + 5) s)) []

abbrev pub timed_of : ℕ → List ℕ → Timed
timed_of k s = record { time = time_of k s; frame = frame_of k s }

-- the frames of a block, in order
unfoldable pub frames_of : List ℕ → List Timed
frames_of s = take (count_of s) (timed_of 0 s ∷ timed_of 1 s ∷ timed_of 2 s ∷ [])

-- ---- when a block is good
unfoldable pub all_zero : List ℕ → Bool
all_zero [] = true
all_zero (b ∷ bs) = eqb b 0 && all_zero bs

-- the bytes from place f up to before place t
abbrev pub zero_in : ℕ → ℕ → List ℕ → Bool
zero_in f t s = all_zero (slice f t s)

-- a place that holds a frame has a length of at most 127 and zeros behind the frame; any other is all zeros
unfoldable pub good_place : ℕ → List ℕ → Bool
good_place k s =
    choose (ltb k (count_of s)) (leb (length_at k s) 127 && zero_in (place_at k + 5 + length_at k s) (place_at k + 132) s)
    (zero_in (place_at k) (place_at k + 132) s)

-- bytes 0..5, of the block number b
unfoldable pub good_head : ℕ → List ℕ → Bool
good_head b s = eqb (field le32 0 s) b && (leb (get_or s 4 0) 3 && eqb (get_or s 5 0) 0)

unfoldable pub good_places : List ℕ → Bool
good_places s = good_place 0 s && (good_place 1 s && good_place 2 s)

-- bytes 402..511
unfoldable pub good_end : List ℕ → Bool
good_end s = zero_in 402 510 s && eqb (field le16 510 s) (fcs_of (take 510 s))

unfoldable pub good_block : ℕ → List ℕ → Bool
good_block b s = eqb (length s) 512 && (good_head b s && (good_places s && good_end s))

-- the count of a good block; anything else is refused, 15
unfoldable pub judged : ℕ → List ℕ → Answer ℕ
judged b s = choose (good_block b s) (is (count_of s)) (refused 15)
