-- What a capture says (the scope document, "Capture blocks and the program"): its blocks in order from number 0, the frames of each good one
-- given to the receiver at their times, a line for each frame, and a last line.
use Rattle.std.specs.Prelude.{◌≡◌, ℕ, ◌+◌, ◌%◌, ◌^◌, Bool, true, false, List, [], ◌∷◌, ◌++◌, replicate, Some}
use Rattle.octets.specs.Read.{choose}
use Rattle.ieee802154.specs.declared.addr.Address.TheVariants.{Short}
use Rattle.capture.specs.Block.{Timed, frames_of, good_block}
use Rattle.capture.specs.File.{blocks_of, joined}
use Rattle.reassembly.specs.Parts.{told, output_after}
use Rattle.reassembly.specs.Table.{Result, step}
use Rattle.reassembly.specs.Fresh.{gate_of, fresh}
use Rattle.reassembly.specs.declared.table.Gateway.{Gateway}
use Rattle.reassembly.specs.declared.table.Table.{Table}
use Rattle.words.specs.Words.{table_in}
use Rattle.receiver.specs.Receive.{call_of}
use Rattle.listen.specs.Lines.{frame_line, bad_line, end_line, Page, put_lines}
use Rattle.listen.specs.declared.ear.Ear.{Ear}
use Rattle.listen.specs.declared.ear.Heard.{Heard}

-- where a listener stands: the slot table, how many frames were frame_result, and the number of the block that is due
pub record Standing : Type 0 where
  pub table : Table
  pub frames : ℕ
  pub block : ℕ

-- that of an ear, whose table is in numbers
abbrev pub standing : Ear → Standing
standing e = record { table = table_in e.table; frames = e.frames; block = e.block }

-- who listens: where it stands, the lent memory, and the output
pub record Listener : Type 0 where
  pub ear : Standing
  pub mem : List ℕ
  pub out : List ℕ

-- one more, in 64 bits. No capture has so many blocks that a count comes to its end: block numbers have 32 bits.
abbrev pub next : ℕ → ℕ
next n = (n + 1) % 2 ^ 64

-- ---- a frame
-- what the receiver makes of it: there are no contexts
unfoldable pub frame_result : Listener → Timed → Result
frame_result x f =
    step (record { table = x.ear.table; mem = x.mem }) (call_of x.mem x.out [] f.time f.frame)

unfoldable pub after_frame : Listener → Timed → Listener
after_frame x f = record {
  ear = record { table = (frame_result x f).state.table; frames = next x.ear.frames; block = x.ear.block };
  mem = (frame_result x f).state.mem;
  out = output_after (frame_result x f).reply x.out;
}

-- the frames are numbered from 1 over the whole capture
unfoldable pub said_of : Listener → Timed → List ℕ
said_of x f = frame_line (next x.ear.frames) (told (frame_result x f).reply)

-- ---- frames, one after the other
unfoldable pub after_frames : Listener → List Timed → Listener
after_frames x [] = x
after_frames x (f ∷ fs) = after_frames (after_frame x f) fs

unfoldable pub said_of_all : Listener → List Timed → List (List ℕ)
said_of_all x [] = []
said_of_all x (f ∷ fs) = said_of x f ∷ said_of_all (after_frame x f) fs

-- ---- a block
-- who listens after it, its lines, and whether reading goes on
pub record Listened : Type 0 where
  pub after : Listener
  pub said : List (List ℕ)
  pub more : Bool

-- the frames of a block, without the count of blocks
abbrev pub hear_frames : Listener → List ℕ → Listened
hear_frames x s = record { after = after_frames x (frames_of s); said = said_of_all x (frames_of s); more = true }

abbrev pub block_on : Listener → Listener
block_on x = record { ear = record { table = x.ear.table; frames = x.ear.frames; block = next x.ear.block }; mem = x.mem; out = x.out }

-- a good block of the number that is due; at any other nothing is frame_result
unfoldable pub hear_block : Listener → List ℕ → Listened
hear_block x s =
    choose (good_block x.ear.block s)
    (record { after = block_on (after_frames x (frames_of s)); said = said_of_all x (frames_of s); more = true })
    (record { after = x; said = bad_line x.ear.block ∷ []; more = false })

-- ---- a capture
-- the gateways: short 0001 to 0004, under PAN abcd
abbrev pub listed_as : ℕ → Gateway
listed_as a = record { addr = Short a; pan = Some (record { 0 = 0xabcd }) }

abbrev pub gateways : List Gateway
gateways = listed_as 0x0001 ∷ listed_as 0x0002 ∷ listed_as 0x0003 ∷ listed_as 0x0004 ∷ []

-- at the beginning
unfoldable pub starting : Standing
starting = record { table = fresh (gate_of (listed_as 1) ∷ gate_of (listed_as 2) ∷ gate_of (listed_as 3) ∷ gate_of (listed_as 4) ∷ []); frames = 0; block = 0 }

-- what follows is heard where reading goes on
abbrev pub then_heard : Listened → Listened → Listened
then_heard a b = choose a.more (record { after = b.after; said = a.said ++ b.said; more = b.more }) a

-- block after block, up to the first bad one
unfoldable pub hear_blocks : Listener → List (List ℕ) → Listened
hear_blocks x [] = record { after = x; said = []; more = true }
hear_blocks x (s ∷ ss) = then_heard (hear_block x s) (hear_blocks (hear_block x s).after ss)

abbrev pub hear_all : Listener → List ℕ → Listened
hear_all x s = hear_blocks x (blocks_of s)

abbrev pub last_line : Listened → List ℕ
last_line q = end_line q.after.ear.frames

-- the memory and the output are zeros at first
unfoldable pub beginning : Listener
beginning = record { ear = starting; mem = replicate 16384 0; out = replicate 2047 0 }

-- what the program prints of the capture s: the lines of its frames, where a block is bad a line that says so, and the last line
unfoldable pub heard : List ℕ → List ℕ
heard s = joined (hear_all beginning s).said ++ last_line (hear_all beginning s)

-- ---- what the contract says
-- the answer r, the lent memory m, the output o and the text x, x₀ before from the place at, are as q says
pub record Hears (r : Heard) (m o x₀ x : List ℕ) (at : ℕ) (q : Listened) : Type 0 where
  pub ear : standing r.ear ≡ q.after.ear
  pub memory : m ≡ q.after.mem
  pub output : o ≡ q.after.out
  pub more : r.more ≡ q.more
  pub text : ◌≡◌ {A = Page} (record { room = x; at = r.next }) (put_lines q.said (record { room = x₀; at = at }))
