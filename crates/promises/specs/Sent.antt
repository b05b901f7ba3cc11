-- What the frames of a cutting that we send (crate cutting) are to a receiver.
use Rattle.std.specs.Prelude.{ℕ, ◌+◌, ◌/◌, ◌≤◌, ◌<◌, ◌≡◌, true, List, [], ◌∷◌, ◌++◌, length, take, drop, replicate, Some}
use Rattle.octets.specs.Read.{is}
use Rattle.reassembly.specs.Slots.{node_of, source_of, is_gate}
use Rattle.reassembly.specs.Cover.{In}
use Rattle.reassembly.specs.Fresh.{Gateways}
use Rattle.reassembly.specs.Parts.{Part, part_of, told, output_after}
use Rattle.reassembly.specs.Table as Table
use Rattle.reassembly.specs.Table.{Call, from, State, Result}
use Rattle.reassembly.specs.declared.slot.Key.{Key}
use Rattle.reassembly.specs.declared.slot.Source.{Source}
use Rattle.expand.specs.Sum.{no_sum, holds}
use Rattle.receiver.specs.Receive.{tested}
use Rattle.receiver.specs.Names.{named}
use Rattle.lift.specs.Face.{packed, received}
use Rattle.promises.specs.Frames.{Turn, Forward, left}
use Rattle.promises.specs.Library.{LiftTurn, as_turn}
use Rattle.cutting.specs.Head.{covers, sum_sent}
use Rattle.cutting.specs.declared.link.Link.{Link}
use Rattle.cutting.specs.declared.piece.Piece.{Piece}
use Rattle.cutting.specs.declared.piece.Piece.TheVariants.{Whole, First, Later}

-- who sends: the source under the PAN that the frames carry
abbrev pub sender : Link → Source
sender l = source_of l.src (Some l.pan)

abbrev pub key_for : Link → List ℕ → Key
key_for l d = record { src = sender l; dst = node_of l.dst; size = length d; tag = l.tag }

-- the part that a piece is: the first one in full, from byte 0; the checksum is carried
abbrev pub part_for : Link → List ℕ → Piece → Part
part_for l d Whole = part_of (key_for l d) 0 (sum_sent d) d
part_for l d (First n) = part_of (key_for l d) 0 (sum_sent d) (take (covers d + n) d)
part_for l d (Later at n) = part_of (key_for l d) (at / 8) no_sum (take n (drop at d))

-- what its frame brings: the datagram itself where one frame suffices
abbrev pub call_for : Link → List ℕ → ℕ → Piece → Call
call_for l d t Whole = from t (sender l) (tested (sum_sent d) d)
call_for l d t (First n) = Table.part t (part_for l d (First n))
call_for l d t (Later at n) = Table.part t (part_for l d (Later at n))

-- the change requests, item 7: a checksum that we carry, and the receiver tests, is right
abbrev pub SumRight : List ℕ → Type 0
SumRight d = holds (sum_sent d) d ≡ true

-- "These frames in any order, each at least once, fed as demand 3 asks to a table that lists the source with its PAN": fs are the frames of the
-- cutting; `past` is what came before the earliest of them, `mid` what came from it on and before the call c, and c brings the last.
pub record SentSupposed (gs : List Source) (m : List ℕ) (l : Link) (d : List ℕ) (fs : List (List ℕ)) (past mid : List Turn) (c : Turn) : Type 0 where
  -- a fresh table with fixed gateways, of which the source with its PAN is one; enough lent memory; a clock that never goes back
  pub gateways : Gateways gs
  pub lists : is_gate (sender l) gs ≡ true
  pub enough : 16384 ≤ length m
  pub forward : Forward 0 (past ++ (mid ++ (c ∷ [])))
  -- a checksum that is carried, and so tested, is right
  pub right : SumRight d
  -- the first of the calls from there on brings a frame of the cutting
  pub first : Turn
  pub then : List Turn
  pub earliest : mid ++ (c ∷ []) ≡ first ∷ then
  pub earliest-sent : In first.frame fs
  -- nothing else comes meanwhile under its source with PAN, destination, size and tag; each has room for the datagram
  pub only : (h : Turn) → In h (mid ++ (c ∷ [])) → named h.frame ≡ is (key_for l d) → In h.frame fs
  pub room : (h : Turn) → In h (mid ++ (c ∷ [])) → In h.frame fs → 2047 ≤ length h.before
  -- "each at least once"
  pub each : (f : List ℕ) → In f fs → (h : Turn) × In h (mid ++ (c ∷ [])) × (h.frame ≡ f)
  -- with the call c, and not before it
  pub last : In c.frame fs
  pub new : (h : Turn) → In h mid → h.frame ≡ c.frame → ⊥
  -- less than 60 seconds after the earliest
  pub soon : c.time < first.time + 60000

-- no two of them are equal
abbrev pub Distinct : {A : Type 0} → List A → Type 0
Distinct [] = Unit {0}
Distinct (x ∷ xs) = (In x xs → ⊥) × Distinct xs

-- ---- frames fed to the library, as its definitions have it: one after the other to a table and a memory, at the time 0, without contexts, with an
-- output of 2,047 zeros each
abbrev pub fed_result : State → List ℕ → Result
fed_result σ f = received σ.table 0 f [] σ.mem (replicate 2047 0)

abbrev pub fed_turn : State → List ℕ → LiftTurn
fed_turn σ f =
    record {
      time = 0;
      frame = f;
      contexts = [];
      before = replicate 2047 0;
      answer = packed (told (fed_result σ f).reply);
      table = (fed_result σ f).state.table;
      memory = (fed_result σ f).state.mem;
      output = output_after (fed_result σ f).reply (replicate 2047 0);
    }

unfoldable pub fed : State → List (List ℕ) → List LiftTurn
fed σ [] = []
fed σ (f ∷ fs) = fed_turn σ f ∷ fed (left (as_turn (fed_turn σ f))) fs
