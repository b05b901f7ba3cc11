-- Demand 3 over frames: runs of the public call `receive` (crate receiver), what demand 3 supposes of a run and what it concludes, clause by
-- clause, with the customer's words in quotes.
use Rattle.std.specs.Prelude.{ℕ, ◌+◌, ◌≤◌, ◌<◌, ◌≡◌, true, List, [], ◌∷◌, ◌++◌, map, length, drop, Ok}
use Rattle.octets.specs.Read.{is}
use Rattle.reassembly.specs.Slots.{owner, is_gate}
use Rattle.reassembly.specs.Parts.{Part}
use Rattle.reassembly.specs.Table.{Received, Call, part, State, step, room_call, Gives, taken_since}
use Rattle.reassembly.specs.Fresh.{Gateways, begun}
use Rattle.reassembly.specs.declared.slot.Source.{Source}
use Rattle.reassembly.specs.declared.slot.Key.{Key}
use Rattle.reassembly.specs.declared.part.Outcome.{Outcome}
use Rattle.receiver.specs.Receive.{frame_call, call_of}
use Rattle.receiver.specs.Names.{named}
use Rattle.reassembly.specs.Cover.{In, Covers, MadeOf}
use Rattle.promises.specs.Cuttings.{Cutting}
use Rattle.promises.specs.Runs.{came}

-- ---- runs of `receive`

-- One call of `receive`: what it is given beside the table and the lent memory, and what it leaves: answer and table, memory, output.
pub record Turn : Type 0 where
  pub time : ℕ
  pub frame : List ℕ
  pub contexts : List ℕ
  pub before : List ℕ
  pub returned : Received
  pub memory : List ℕ
  pub output : List ℕ

-- the table and the memory that a call leaves
abbrev pub left : Turn → State
left h = record { table = h.returned.table; mem = h.memory }

-- what comes to the table and the memory σ
unfoldable pub call_in : State → Turn → Call
call_in σ h = call_of σ.mem h.before h.contexts h.time h.frame

-- The calls meet the contract of `receive`, each with the table and the memory as the one before left them, the first with σ: the memory is
-- lent, and only the calls write it. Any code that meets the contract has only such runs.
unfoldable pub Ran : State → List Turn → Type 0
Ran σ [] = Unit {0}
Ran σ (h ∷ hs) = Gives h.returned h.memory h.before h.output (step σ (call_in σ h)) × Ran (left h) hs

-- the table and the memory after them
unfoldable pub end_of : State → List Turn → State
end_of σ [] = σ
end_of σ (h ∷ hs) = end_of (left h) hs

-- how many slots they opened, and how many ended
unfoldable pub openings : State → List Turn → ℕ
openings σ [] = 0
openings σ (h ∷ hs) = (step σ (call_in σ h)).opens + openings (left h) hs

unfoldable pub endings : State → List Turn → ℕ
endings σ [] = 0
endings σ (h ∷ hs) = (step σ (call_in σ h)).ends + endings (left h) hs

-- from the time n on, the clock never goes back
unfoldable pub Forward : ℕ → List Turn → Type 0
Forward n [] = Unit {0}
Forward n (h ∷ hs) = (n ≤ h.time) × Forward h.time hs

-- ---- what comes under a key

-- what comes in a call, where enough memory is lent, whatever table it comes to
abbrev pub meant : Turn → Call
meant h = room_call h.before (frame_call h.contexts h.time h.frame)

-- the call brings the part p: it passes every check before 10, but for 9, which is the table's
abbrev pub MeansPart : Turn → Part → Type 0
MeansPart h p = meant h ≡ part h.time p

-- the parts that calls bring under k
unfoldable pub parts_of : Key → List Turn → List Part
parts_of k hs = came k (map meant hs)

-- those that a table of the gateways gs took under k since its slot was opened
unfoldable pub taken_of : List Source → List ℕ → Key → List Turn → List Part
taken_of gs m k hs = taken_since k (begun gs m) (map meant hs) []

-- ---- demand 3

-- What demand 3 supposes of what comes, and when. `past` is what came before the earliest part, `mid` what came from it on and before the
-- covering call, and c is the covering call. Two premises stand apart (proofs/Frames.antt): that the calls are a run, `Ran`, and "a gateway
-- holds no slot when the earliest part [..] comes".
pub record Supposed (gs : List Source) (m : List ℕ) (k : Key) (d : List ℕ) (C : Cutting k d) (past mid : List Turn) (c : Turn) : Type 0 where
  -- "From a fresh table with fixed gateways": a list that `Table::new` takes; no call changes it;
  pub gateways : Gateways gs
  -- "enough lent memory that only the calls write": m, handed from call to call as the call left it (`Ran`),
  pub enough : 16384 ≤ length m
  -- "and a clock that never goes back":
  pub forward : Forward 0 (past ++ (mid ++ (c ∷ [])))
  -- "if a gateway": the source of the key is one;
  pub gate : is_gate (owner k) gs ≡ true
  -- "the earliest part of a datagram" comes in the first of the calls from there on;
  pub first : Turn
  pub then : List Turn
  pub earliest : mid ++ (c ∷ []) ≡ first ∷ then
  pub earliest-named : named first.frame ≡ is k
  -- "all its parts are of one cutting in 01's sense, nothing else comes meanwhile under its source, destination, size and tag": what comes
  -- under the key brings a part of the cutting. (Less suffices, as Runs.antt has it: what is refused before check 11, so too for lack of room,
  -- changes nothing.)
  pub of-cutting : (h : Turn) → In h (mid ++ (c ∷ [])) → named h.frame ≡ is k → (p : Part) × In p C.parts × MeansPart h p
  -- "and they cover it": with the covering call, and not before it,
  pub cover : Covers k.size (parts_of k (mid ++ (c ∷ [])))
  pub not-before : Covers k.size (parts_of k mid) → ⊥
  -- "less than 60 seconds after that earliest part",
  pub soon : c.time < first.time + 60000

-- "then, of the calls for that key from that part on, the covering call and none before it hands it out exactly, whatever else this gateway or
-- the others send."
pub record Concluded (k : Key) (d : List ℕ) (mid : List Turn) (c : Turn) : Type 0 where
  -- none before it: each answers that the part is kept, and leaves the output;
  pub none_before : (h : Turn) → In h mid → named h.frame ≡ is k → (h.returned.answer ≡ Ok Outcome.Kept) × (h.output ≡ h.before)
  -- the covering call says the datagram's length, and its output starts with the datagram, the rest as it was.
  pub answer : c.returned.answer ≡ Ok (Outcome.Out (length d))
  pub output : c.output ≡ d ++ drop (length d) c.before

-- A datagram of n bytes that the call h handed out from a slot under k, after the calls hs: it stands at the output's start, and it is made of
-- the parts taken under k since the slot's opening.
pub record HandedOut (gs : List Source) (m : List ℕ) (k : Key) (hs : List Turn) (h : Turn) (n : ℕ) : Type 0 where
  pub datagram : List ℕ
  pub length-is : length datagram ≡ n
  pub output : h.output ≡ datagram ++ drop n h.before
  pub made : MadeOf k (taken_of gs m k (hs ++ (h ∷ []))) datagram
