-- The moves for files of any size, a block at a time: going, a block of the capture; back, the next three frames of pcap.
use Rattle.std.specs.Prelude.{ℕ, ◌+◌, ◌/◌, ◌≤◌, ◌≡◌, List, [], ◌∷◌, ◌++◌, length, take, drop, leb}
use Rattle.octets.specs.Read.{Answer, is, refused, and_then, choose}
use Rattle.capture.specs.Block.{judged}
use Rattle.capture.specs.File as file
use Rattle.pcap.specs.Frames.{blocks_from, head_bytes, head, frames_field}
use Rattle.pcap.specs.Moves.{block_bytes}

-- ---- going
-- what the block number b comes to
unfoldable pub go_block : ℕ → List ℕ → Answer (List ℕ)
go_block b s = and_then (judged b s) (λ c. is (block_bytes s))

-- the number that is due after an answer
abbrev pub due_after : ℕ → Answer ℕ → ℕ
due_after b (is n) = b + 1
due_after b (refused n) = b

-- block after block, from the number b on
unfoldable pub go_all : ℕ → List (List ℕ) → Answer (List ℕ)
go_all b [] = is []
go_all b (s ∷ ss) = and_then (go_block b s) (λ x. and_then (go_all (b + 1) ss) (λ y. is (x ++ y)))

-- the header, and then the blocks of a capture one after the other
abbrev pub stream_to : List ℕ → Answer (List ℕ)
stream_to s = and_then (go_all 0 (file.blocks_of s)) (λ bs. is (head_bytes ++ bs))

-- ---- back
-- a block, none where no frame is left; how many bytes of pcap it used; and how many frames were moved with it
pub record Made : Type 0 where
  pub bytes : List ℕ
  pub used : ℕ
  pub frames : ℕ

-- the next three frames, where k were moved before
unfoldable pub come_block : ℕ → List ℕ → Answer Made
come_block k s = and_then (frames_field 3 k s 0) (λ p. is (record { bytes = blocks_from (k / 3) p.value; used = p.next; frames = k + length p.value }))

-- into lent room, which is too small last of all
abbrev pub room_for : Answer Made → List ℕ → Answer Made
room_for a room = and_then a (λ m. choose (leb (length m.bytes) (length room)) (is m) (refused 7))

abbrev pub length_in : Answer Made → Answer ℕ
length_in a = and_then a (λ m. is (length m.bytes))

abbrev pub used_in : Answer Made → ℕ
used_in (is m) = m.used
used_in (refused n) = 0

abbrev pub frames_in : ℕ → Answer Made → ℕ
frames_in k (is m) = m.frames
frames_in k (refused n) = k

abbrev pub placed_in : Answer Made → List ℕ → List ℕ
placed_in (is m) room = m.bytes ++ drop (length m.bytes) room
placed_in (refused n) room = room

-- what the contract says, where k frames were moved before, of pcap s and the room: the answer a, the bytes u used, the frames d moved
-- and the room after it
abbrev pub Comes : ℕ → List ℕ → List ℕ → Answer ℕ → ℕ → ℕ → List ℕ → Type 0
Comes k s room a u d out =
    (a ≡ length_in (room_for (come_block k s) room)) ×
    ((u ≡ used_in (room_for (come_block k s) room)) ×
    ((d ≡ frames_in k (room_for (come_block k s) room)) ×
    (out ≡ placed_in (room_for (come_block k s) room) room)))

-- the most bytes that three frames take
abbrev pub three_frames : ℕ
three_frames = 429

-- block after block, each from a window onto what is left: the next w bytes of it, or all where they are fewer
unfoldable pub come_all : List ℕ → ℕ → List ℕ → Answer (List ℕ)
come_all [] k s = is []
come_all (w ∷ ws) k s =
    choose (leb (length s) 0) (is [])
    (and_then (come_block k (take w s)) (λ m. and_then (come_all ws m.frames (drop m.used s)) (λ bs. is (m.bytes ++ bs))))

-- the header, and then block after block
abbrev pub stream_from : ℕ → List ℕ → List ℕ → Answer (List ℕ)
stream_from w ws s = and_then (head (take w s) 0) (λ p. come_all ws 0 (drop p.next s))

-- each window is wide enough
unfoldable pub Wide : List ℕ → Type 0
Wide [] = Unit {0}
Wide (w ∷ ws) = (three_frames ≤ w) × Wide ws
