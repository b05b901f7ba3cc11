-- One list of timed frames, as a capture of blocks and as pcap, each written and read.
use Rattle.std.specs.Prelude.{ℕ, zero, suc, ◌+◌, ◌*◌, ◌/◌, ◌%◌, ◌^◌, List, [], ◌∷◌, ◌++◌, Bool, ◌&&◌, length, take, drop, eqb, leb, ltb}
use Rattle.octets.specs.Read.{Answer, is, refused, Reader, Read, got, and_then, choose, branch, ◌>>=◌, give, refuse, le16, le32}
use Rattle.octets.specs.Write.{le16_bytes, le32_bytes}
use Rattle.capture.specs.Block.{Timed, frames_of, judged}
use Rattle.capture.specs.Made.{block_of}

-- ---- a capture of blocks
-- three frames to a block, numbered from b on; the last block has what is left
unfoldable pub blocks_from : ℕ → List Timed → List ℕ
blocks_from b [] = []
blocks_from b (x ∷ []) = block_of b (x ∷ [])
blocks_from b (x ∷ y ∷ []) = block_of b (x ∷ y ∷ [])
blocks_from b (x ∷ y ∷ z ∷ fs) = block_of b (x ∷ y ∷ z ∷ []) ++ blocks_from (b + 1) fs

abbrev pub blocks_of : List Timed → List ℕ
blocks_of fs = blocks_from 0 fs

-- how many pieces of 512 bytes, the last one of what is left
abbrev pub block_count : List ℕ → ℕ
block_count s = (length s + 511) / 512

-- the frames of n blocks, numbered from b on; a bad one is refused, 15
unfoldable pub frames_from : ℕ → ℕ → List ℕ → Answer (List Timed)
frames_from zero b s = is []
frames_from (suc n) b s = and_then (judged b (take 512 s)) (λ c. and_then (frames_from n (b + 1) (drop 512 s)) (λ fs. is (frames_of (take 512 s) ++ fs)))

abbrev pub frames_of_capture : List ℕ → Answer (List Timed)
frames_of_capture s = frames_from (block_count s) 0 s

-- ---- pcap, the low byte first. The file header:
--      magic (4), version 2.4 (2, 2), zone (4), accuracy (4), snap length (4), link type (4)
abbrev pub magic : ℕ
magic = 0xa1b2c3d4

-- the longest frame, which is the snap length
abbrev pub longest : ℕ
longest = 127

-- IEEE 802.15.4 without the FCS
abbrev pub link_type : ℕ
link_type = 230

unfoldable pub head_bytes : List ℕ
head_bytes = le32_bytes magic ++ (le16_bytes 2 ++ (le16_bytes 4 ++ (le32_bytes 0 ++ (le32_bytes 0 ++ (le32_bytes longest ++ le32_bytes link_type)))))

-- each frame: seconds (4), microseconds (4), the length captured (4), the length on the air (4), the frame
unfoldable pub time_bytes : ℕ → List ℕ
time_bytes t = le32_bytes (t / 1000) ++ le32_bytes (t % 1000 * 1000)

unfoldable pub length_bytes : ℕ → List ℕ
length_bytes n = le32_bytes n ++ le32_bytes n

unfoldable pub frame_bytes : Timed → List ℕ
frame_bytes f = time_bytes f.time ++ (length_bytes (length f.frame) ++ f.frame)

unfoldable pub frames_bytes : List Timed → List ℕ
frames_bytes [] = []
frames_bytes (f ∷ fs) = frame_bytes f ++ frames_bytes fs

unfoldable pub pcap_of : List Timed → List ℕ
pcap_of fs = head_bytes ++ frames_bytes fs

-- ---- pcap read: each field is read, 1, and then judged
-- a field that must be x; another is refused, n. The header from its first field on, then from its version, zone and limits on
abbrev pub expect : Reader ℕ → ℕ → ℕ → Reader (Unit {0})
expect m x n = do
  y ← m
  branch (eqb y x) (give tt) (refuse n)

unfoldable pub limits : Reader (Unit {0})
limits = do
  a ← expect le32 longest 3
  expect le32 link_type 3

unfoldable pub zone : Reader (Unit {0})
zone = do
  a ← expect le32 0 3
  b ← expect le32 0 3
  limits

unfoldable pub version : Reader (Unit {0})
version = do
  a ← expect le16 2 3
  b ← expect le16 4 3
  zone

unfoldable pub head : Reader (Unit {0})
head = do
  a ← expect le32 magic 2
  version

-- whole milliseconds below a second, and in all below 2^32
abbrev pub whole_time : ℕ → ℕ → Bool
whole_time sec micro = ltb micro 1000000 && (eqb (micro % 1000) 0 && ltb (sec * 1000 + micro / 1000) (2 ^ 32))

-- the time, in ms
unfoldable pub time_field : Reader ℕ
time_field = do
  sec ← le32
  micro ← le32
  branch (whole_time sec micro) (give (sec * 1000 + micro / 1000)) (refuse 18)

-- the length captured, which is that on the air
unfoldable pub same_field : ℕ → Reader ℕ
same_field n = do
  m ← le32
  branch (eqb m n) (give n) (refuse 4)

unfoldable pub length_field : Reader ℕ
length_field = do
  n ← le32
  branch (leb n longest) (same_field n) (refuse 4)

-- the next n bytes
unfoldable pub bytes_field : ℕ → Reader (List ℕ)
bytes_field n s at = choose (leb (at + n) (length s)) (got (take n (drop at s)) (at + n)) (refused 1)

unfoldable pub framed : ℕ → ℕ → Reader Timed
framed t n = do
  bs ← bytes_field n
  give (record { time = t; frame = bs })

unfoldable pub frame_field : Reader Timed
frame_field = do
  t ← time_field
  n ← length_field
  framed t n

-- a block holds three frames, and has a number of four bytes
abbrev pub most_frames : ℕ
most_frames = 3 * 2 ^ 32

-- frames up to the end of the bytes, k of them read before; n is at least how many bytes are left, so that it does not end the reading
unfoldable pub frames_field : ℕ → ℕ → Reader (List Timed)
frames_field zero k s at = got [] at
frames_field (suc n) k s at =
    choose (leb (length s) at) (got [] at)
    (and_then (frame_field s at)
    (λ p. choose (ltb k most_frames) (and_then (frames_field n (k + 1) s p.next) (λ q. got (p.value ∷ q.value) q.next)) (refused 18)))

abbrev pub value_only : {A : Type 0} → Read A → Answer A
value_only r = and_then r (λ p. is p.value)

unfoldable pub frames_of_pcap : List ℕ → Answer (List Timed)
frames_of_pcap s = and_then (head s 0) (λ p. value_only (frames_field (length s) 0 s p.next))
