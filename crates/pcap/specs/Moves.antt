-- The two moves, and what they keep.
use Rattle.std.specs.Prelude.{ℕ, zero, suc, ◌+◌, ◌-◌, ◌<◌, ◌≤◌, ◌≡◌, List, [], ◌++◌, ltb, length, get_or, take, drop}
use Rattle.octets.specs.Read.{Answer, is, refused, and_then, choose}
use Rattle.octets.specs.Write.{wrote, over}
use Rattle.capture.specs.Block.{Timed, count_of, timed_of}
use Rattle.capture.specs.Made.{no_frame, Fits}
use Rattle.pcap.specs.Frames.{blocks_of, block_count, frames_of_capture, frame_bytes, pcap_of, frames_field, frames_of_pcap, most_frames}

unfoldable pub to_pcap : List ℕ → Answer (List ℕ)
to_pcap s = and_then (frames_of_capture s) (λ fs. is (pcap_of fs))

unfoldable pub from_pcap : List ℕ → Answer (List ℕ)
from_pcap s = and_then (frames_of_pcap s) (λ fs. is (blocks_of fs))

-- ---- into lent room: what the move refuses, and last of all, 7, a room that is too small
abbrev pub sized : Answer (List ℕ) → List ℕ → Answer ℕ
sized a room = and_then a (λ bs. wrote (length bs) room)

abbrev pub placed : Answer (List ℕ) → List ℕ → List ℕ
placed (is bs) room = over (length bs) bs room
placed (refused n) room = room

abbrev pub lengthed : Answer (List ℕ) → Answer ℕ
lengthed a = and_then a (λ bs. is (length bs))

-- what place k of a block comes to in pcap, and n blocks do, good or not
unfoldable pub place_bytes : ℕ → List ℕ → List ℕ
place_bytes k s = choose (ltb k (count_of s)) (frame_bytes (timed_of k s)) []

unfoldable pub block_bytes : List ℕ → List ℕ
block_bytes s = place_bytes 0 s ++ (place_bytes 1 s ++ place_bytes 2 s)

unfoldable pub carried : ℕ → List ℕ → List ℕ
carried zero s = []
carried (suc n) s = block_bytes (take 512 s) ++ carried n (drop 512 s)

abbrev pub carried_all : List ℕ → List ℕ
carried_all s = carried (block_count s) s

-- how many frames there are in pcap from a place on, at most n, where k were read before; j of them are counted already
abbrev pub counted : ℕ → ℕ → List ℕ → ℕ → ℕ → Answer ℕ
counted n k s j at = and_then (frames_field (n - j) (k + j) s at) (λ p. is (j + length p.value))

-- ---- what both forms can hold
pub record Holdable (fs : List Timed) : Type 0 where
  pub each : (k : ℕ) → k < length fs → Fits (get_or fs k no_frame)
  pub few : length fs ≤ most_frames

-- every one of n blocks but the last holds three frames, and the last at least one
unfoldable pub FullFrom : ℕ → List ℕ → Type 0
FullFrom zero s = Unit {0}
FullFrom (suc zero) s = 1 ≤ count_of (take 512 s)
FullFrom (suc (suc n)) s = (count_of (take 512 s) ≡ 3) × FullFrom (suc n) (drop 512 s)

abbrev pub Full : List ℕ → Type 0
Full s = FullFrom (block_count s) s
