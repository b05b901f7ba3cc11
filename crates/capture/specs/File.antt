-- A capture file (the scope document, "Capture blocks and the program"): its blocks in order from number 0, and what they tell up to
-- the first bad one.
use Rattle.std.specs.Prelude.{ℕ, zero, suc, ◌+◌, ◌/◌, List, [], ◌∷◌, ◌++◌, length, take, drop}
use Rattle.octets.specs.Read.{choose}
use Rattle.capture.specs.Block.{Timed, frames_of, good_block}

-- ---- its blocks
-- n pieces of 512 bytes, the last one of what is left
unfoldable pub pieces : ℕ → List ℕ → List (List ℕ)
pieces zero s = []
pieces (suc n) s = take 512 s ∷ pieces n (drop 512 s)

abbrev pub blocks_of : List ℕ → List (List ℕ)
blocks_of s = pieces ((length s + 511) / 512) s

unfoldable pub joined : List (List ℕ) → List ℕ
joined [] = []
joined (t ∷ ts) = t ++ joined ts

-- ---- what they tell
-- the first thing that went wrong: nothing, a bad block of this number, or a refusal of this number
pub data First : Type 0 where
  none : First
  bad_at : ℕ → First
  refusal : ℕ → First

-- its frames with their times, and the first bad block
pub record FramesTold : Type 0 where
  pub frames : List Timed
  pub first : First

-- the blocks from number b on: the frames of each good one, up to the first bad one. A piece that is no whole block is bad.
unfoldable pub tell : ℕ → List (List ℕ) → FramesTold
tell b [] = record { frames = []; first = none }
tell b (p ∷ ps) =
    choose (good_block b p)
    (record { frames = frames_of p ++ (tell (b + 1) ps).frames; first = (tell (b + 1) ps).first })
    (record { frames = []; first = bad_at b })

unfoldable pub whole_file : List ℕ → FramesTold
whole_file s = tell 0 (blocks_of s)
