-- Demand 3 for the library: runs of `lift_receive` (crate lift), on a table that the caller keeps. What comes, and when, is as over frames
-- (specs/Frames.antt): a call as a `Turn` has it, beside the answer, which is a number here (lift/specs/Face.antt).
use Rattle.std.specs.Prelude.{ℕ, ◌+◌, ◌≡◌, List, [], ◌∷◌, ◌++◌, length, drop, Ok}
use Rattle.octets.specs.Read.{is}
use Rattle.reassembly.specs.Table.{State}
use Rattle.reassembly.specs.Cover.{In}
use Rattle.reassembly.specs.declared.slot.Key.{Key}
use Rattle.reassembly.specs.declared.part.Outcome.{Outcome}
use Rattle.reassembly.specs.declared.table.Table.{Table}
use Rattle.receiver.specs.Names.{named}
use Rattle.lift.specs.Face.{Answers, received}
use Rattle.promises.specs.Frames.{Turn, left}

-- One call of `lift_receive`: what it is given beside the table and the lent memory, and what it leaves: answer, table, memory, output.
pub record LiftTurn : Type 0 where
  pub time : ℕ
  pub frame : List ℕ
  pub contexts : List ℕ
  pub before : List ℕ
  pub answer : ℕ
  pub table : Table
  pub memory : List ℕ
  pub output : List ℕ

-- The same as a turn of `receive`. Its answer stands for none: what is used of it here, `Supposed` first, looks at what comes and what is left.
abbrev pub as_turn : LiftTurn → Turn
as_turn h = record {
  time = h.time;
  frame = h.frame;
  contexts = h.contexts;
  before = h.before;
  returned = record { answer = Ok Outcome.Kept; table = h.table };
  memory = h.memory;
  output = h.output;
}

-- The calls meet the contract of `lift_receive`, each with the table and the memory as the one before left them, the first with σ: only the
-- calls write either.
unfoldable pub RanIn : State → List LiftTurn → Type 0
RanIn σ [] = Unit {0}
RanIn σ (h ∷ hs) =
    Answers h.answer h.table h.memory h.before h.output (received σ.table h.time h.frame h.contexts σ.mem h.before)
    × RanIn (left (as_turn h)) hs

-- "then, of the calls for that key from that part on, the covering call and none before it hands it out exactly, whatever else this gateway or
-- the others send."
pub record ConcludedIn (k : Key) (d : List ℕ) (mid : List LiftTurn) (c : LiftTurn) : Type 0 where
  -- none before it: each answers LIFT_KEPT, and leaves the output;
  pub none_before : (h : LiftTurn) → In h mid → named h.frame ≡ is k → (h.answer ≡ 0) × (h.output ≡ h.before)
  -- the covering call answers LIFT_OUT with the datagram's length, and its output starts with the datagram, the rest as it was.
  pub answer : c.answer ≡ 65536 + length d
  pub output : c.output ≡ d ++ drop (length d) c.before
