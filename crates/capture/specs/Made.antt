-- The block that a writer makes of a number and at most three frames with their times.
use Rattle.std.specs.Prelude.{ℕ, ◌-◌, ◌^◌, ◌<◌, ◌≤◌, List, [], ◌∷◌, ◌++◌, length, get_or, replicate, ltb}
use Rattle.octets.specs.Read.{choose}
use Rattle.octets.specs.Write.{le16_bytes, le32_bytes}
use Rattle.capture.specs.Fcs.{fcs_of}
use Rattle.capture.specs.Block.{Timed}

abbrev pub no_frame : Timed
no_frame = record { time = 0; frame = [] }

-- the time, the length, the frame, and zeros
unfoldable pub place_of : Timed → List ℕ
place_of f = le32_bytes f.time ++ (length f.frame ∷ (f.frame ++ replicate (127 - length f.frame) 0))

-- place k, from 0, where the frames are fs
unfoldable pub place_in : ℕ → List Timed → List ℕ
place_in k fs = choose (ltb k (length fs)) (place_of (get_or fs k no_frame)) (replicate 132 0)

-- bytes 0..509
unfoldable pub body_of : ℕ → List Timed → List ℕ
body_of b fs = le32_bytes b ++ (length fs ∷ 0 ∷ (place_in 0 fs ++ (place_in 1 fs ++ (place_in 2 fs ++ replicate 108 0))))

unfoldable pub block_of : ℕ → List Timed → List ℕ
block_of b fs = body_of b fs ++ le16_bytes (fcs_of (body_of b fs))

-- ---- what a block can hold
-- the numbers are bytes
abbrev pub Bytes : List ℕ → Type 0
Bytes s = (i : ℕ) → get_or s i 0 < 256

pub record Fits (f : Timed) : Type 0 where
  pub time : f.time < 2 ^ 32
  pub short : length f.frame ≤ 127
  pub bytes : Bytes f.frame

pub record Holds (b : ℕ) (fs : List Timed) : Type 0 where
  pub number : b < 2 ^ 32
  pub few : length fs ≤ 3
  pub each : (k : ℕ) → k < length fs → Fits (get_or fs k no_frame)
