-- What the reader answers (the change request "Captures over the service cable"): on every reader and every chunk, the reader after
-- it, the blocks, and what was found.
use Rattle.std.specs.Prelude.{ℕ, ◌-◌, ◌<◌, ◌≡◌, List, [], ◌++◌, length, take, replicate, ltb, Ok, Err}
use Rattle.octets.specs.Read.{choose}
use Rattle.octets.specs.declared.refusal.Refusal.{Refusal}
use Rattle.octets.specs.declared.refusal.Refusal.TheVariants.{BadLength, BadBlock}
use Rattle.capture.specs.File.{joined}
use Rattle.feed.specs.Reading.{Reading, read_on}
use Rattle.feed.specs.declared.reader.Status.{Status}
use Rattle.feed.specs.declared.reader.Reader.{Reader}
use Rattle.feed.specs.declared.reader.Found.{Found}
use Rattle.feed.specs.declared.reader.Fed.{Fed}

-- the bytes, and zeros up to n
unfoldable pub padded : ℕ → List ℕ → List ℕ
padded n s = s ++ replicate (n - length s) 0

-- ---- readers
-- the bytes that are held: what stands behind them counts for nothing
abbrev pub held_by : Reader → List ℕ
held_by f = take f.len f.held

abbrev pub live : ℕ → List ℕ → Reader
live b s = record { held = padded 512 s; len = length s; block = b; status = Status.Live }

-- nothing is held
abbrev pub closed : ℕ → Status → Reader
closed b x = record { held = replicate 512 0; len = 0; block = b; status = x }

abbrev pub starting : Reader
starting = record { held = replicate 512 0; len = 0; block = 0; status = Status.Live }

-- one value for each state: less than a block is held, with zeros behind it, and nothing behind the end or a bad block
pub record Canonical (f : Reader) : Type 0 where
  pub zeros : f.held ≡ padded 512 (held_by f)
  pub short : f.len < 512
  pub empty : (f.status ≡ Status.Live → ⊥) → f.len ≡ 0

-- ---- answers
-- n good blocks, and reading goes on at the block number b, of which s is there
unfoldable pub going_on : List ℕ → ℕ → ℕ → List ℕ → Fed
going_on good n b s = record { reader = live b s; blocks = padded 1024 good; found = Ok (Found.Blocks n) }

-- n good blocks, and then the bad block number b
unfoldable pub stopped : List ℕ → ℕ → ℕ → Fed
stopped good n b = record { reader = closed b Status.Bad; blocks = padded 1024 good; found = Ok (Found.Bad n b) }

-- the end, behind a whole block
unfoldable pub complete : ℕ → Fed
complete b = record { reader = closed b Status.Ended; blocks = replicate 1024 0; found = Ok (Found.Blocks 0) }

-- the reader stays
unfoldable pub declined : Reader → Refusal → Fed
declined f e = record { reader = f; blocks = replicate 1024 0; found = Err e }

unfoldable pub answer_of : Reading → Fed
answer_of r =
    choose r.bad
    (stopped (joined r.blocks) (length r.blocks) r.due)
    (going_on (joined r.blocks) (length r.blocks) r.due r.rest)

-- ---- a chunk
-- what is held and the chunk, read on from the block that is due
unfoldable pub taken : Reader → List ℕ → Fed
taken f s = answer_of (read_on f.block (held_by f ++ s))

-- where more is to come, or where it is not
abbrev pub while_live : Status → Fed → Fed → Fed
while_live Status.Live a b = a
while_live Status.Ended a b = b
while_live Status.Bad a b = b

-- refused: 4 over 600 bytes; then 15 behind the end or a bad block
unfoldable pub after_chunk : Reader → List ℕ → Fed
after_chunk f s = choose (ltb 600 (length s)) (declined f BadLength) (while_live f.status (taken f s) (declined f BadBlock))

-- ---- the end
-- what is held is a bad block; where nothing is, the capture is whole
unfoldable pub finished : Reader → Fed
finished f = choose (ltb 0 f.len) (stopped [] 0 f.block) (complete f.block)

unfoldable pub after_end : Reader → Fed
after_end f = while_live f.status (finished f) (declined f BadBlock)
