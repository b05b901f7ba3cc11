-- Frames of pcap, one after the other from a place on, as they go into blocks.
use Rattle.std.specs.Prelude.{ℕ, zero, suc, List, [], ◌∷◌, ◌++◌}
use Rattle.octets.specs.Read.{is, refused, Read, value_or}
use Rattle.octets.specs.Write.{le32_bytes}
use Rattle.capture.specs.Block.{Timed}
use Rattle.capture.specs.Made.{no_frame, place_in}
use Rattle.pcap.specs.Frames.{frame_field}

abbrev pub next_or : {A : Type 0} → ℕ → Read A → ℕ
next_or at (is p) = p.next
next_or at (refused n) = at

-- the frame at a place, and the place after it
unfoldable pub frame_at : List ℕ → ℕ → Timed
frame_at s at = value_or no_frame (frame_field s at)

unfoldable pub after_at : List ℕ → ℕ → ℕ
after_at s at = next_or at (frame_field s at)

-- n frames from a place on, and the place after them
unfoldable pub frames_at : ℕ → List ℕ → ℕ → List Timed
frames_at zero s at = []
frames_at (suc n) s at = frame_at s at ∷ frames_at n s (after_at s at)

unfoldable pub behind_at : ℕ → List ℕ → ℕ → ℕ
behind_at zero s at = at
behind_at (suc n) s at = behind_at n s (after_at s at)

-- parts of a block
unfoldable pub front_bytes : ℕ → ℕ → List ℕ
front_bytes b n = le32_bytes b ++ (n ∷ 0 ∷ [])

unfoldable pub places_bytes : List Timed → List ℕ
places_bytes fs = place_in 0 fs ++ (place_in 1 fs ++ place_in 2 fs)
