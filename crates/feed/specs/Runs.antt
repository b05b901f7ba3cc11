-- What a run of calls comes to: the frames and times that the answers hold, the first thing that went wrong, and the
-- last reader.
use Rattle.std.specs.Prelude.{ℕ, ◌≤◌, Bool, true, false, List, [], ◌∷◌, ◌++◌, ◌≡◌, length, leb, Result, Ok, Err}
use Rattle.octets.specs.declared.refusal.Refusal.{Refusal}
use Rattle.octets.specs.Read.{choose}
use Rattle.octets.specs.Refusal.{number_of}
use Rattle.capture.specs.Block.{Timed, frames_of}
use Rattle.capture.specs.File.{First, none, bad_at, refusal, FramesTold, pieces}
use Rattle.feed.specs.Feed.{after_chunk, after_end}
use Rattle.feed.specs.declared.reader.Reader.{Reader}
use Rattle.feed.specs.declared.reader.Found.{Found}
use Rattle.feed.specs.declared.reader.Fed.{Fed}

-- ---- an answer
-- how many good blocks it holds
abbrev pub count_in : Result Found Refusal → ℕ
count_in (Ok (Found.Blocks n)) = n
count_in (Ok (Found.Bad n b)) = n
count_in (Err e) = 0

abbrev pub first_in : Result Found Refusal → First
first_in (Ok (Found.Blocks n)) = none
first_in (Ok (Found.Bad n b)) = bad_at b
first_in (Err e) = refusal (number_of e)

-- the frames of blocks, one after the other
unfoldable pub frames_all : List (List ℕ) → List Timed
frames_all [] = []
frames_all (b ∷ bs) = frames_of b ++ frames_all bs

-- the frames of its blocks of 512 bytes
unfoldable pub frames_in : Fed → List Timed
frames_in a = frames_all (pieces (count_in a.found) a.blocks)

abbrev pub told_in : Fed → FramesTold
told_in a = record { frames = frames_in a; first = first_in a.found }

-- ---- a run
-- the first of two, one after the other
abbrev pub first_of : First → First → First
first_of none y = y
first_of (bad_at b) y = bad_at b
first_of (refusal n) y = refusal n

abbrev pub and_told : FramesTold → FramesTold → FramesTold
and_told x y = record { frames = x.frames ++ y.frames; first = first_of x.first y.first }

pub record Run : Type 0 where
  pub told : FramesTold
  pub reader : Reader

-- chunk after chunk
unfoldable pub feed_all : Reader → List (List ℕ) → Run
feed_all f [] = record { told = record { frames = []; first = none }; reader = f }
feed_all f (s ∷ ss) = record {
  told = and_told (told_in (after_chunk f s)) (feed_all (after_chunk f s).reader ss).told;
  reader = (feed_all (after_chunk f s).reader ss).reader;
}

abbrev pub and_end : Run → Run
and_end q = record { told = and_told q.told (told_in (after_end q.reader)); reader = (after_end q.reader).reader }

-- and then the end
abbrev pub feed_file : Reader → List (List ℕ) → Run
feed_file f ss = and_end (feed_all f ss)

-- chunks that the cable may bring: each of 0 to 600 bytes
unfoldable pub Short : List (List ℕ) → Type 0
Short [] = Unit {0}
Short (s ∷ ss) = (length s ≤ 600) × Short ss

-- ---- any calls, in any order
pub data Call : Type 0 where
  piece : List ℕ → Call
  finish : Call

abbrev pub answered : Reader → Call → Fed
answered f (piece s) = after_chunk f s
answered f finish = after_end f

-- every answer, and the last reader
pub record Session : Type 0 where
  pub answers : List Fed
  pub reader : Reader

unfoldable pub call_all : Reader → List Call → Session
call_all f [] = record { answers = []; reader = f }
call_all f (c ∷ cs) = record {
  answers = answered f c ∷ (call_all (answered f c).reader cs).answers;
  reader = (call_all (answered f c).reader cs).reader;
}

abbrev pub is_refused : Result Found Refusal → Bool
is_refused (Ok (Found.Blocks n)) = false
is_refused (Ok (Found.Bad n b)) = false
is_refused (Err e) = true

-- the calls that are not refused, each where it comes
unfoldable pub accepted : Reader → List Call → List Call
accepted f [] = []
accepted f (c ∷ cs) =
    choose (is_refused (answered f c).found)
    (accepted (answered f c).reader cs)
    (c ∷ accepted (answered f c).reader cs)

-- the answers that are no refusals
unfoldable pub granted : List Fed → List Fed
granted [] = []
granted (a ∷ xs) = choose (is_refused a.found) (granted xs) (a ∷ granted xs)

abbrev pub without_refused : Session → Session
without_refused q = record { answers = granted q.answers; reader = q.reader }

-- ---- chunks of any length
-- those that the cable may bring
unfoldable pub short_ones : List (List ℕ) → List (List ℕ)
short_ones [] = []
short_ones (s ∷ ss) = choose (leb (length s) 600) (s ∷ short_ones ss) (short_ones ss)

-- the same frames with their times, and the same reader behind them
abbrev pub Alike : Run → Run → Type 0
Alike p q = (p.told.frames ≡ q.told.frames) × (p.reader ≡ q.reader)
