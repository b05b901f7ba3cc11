-- Demand 3 and its companions, each in one piece: everything that is supposed, then what is concluded, with the customer's words in quotes. For
-- frames, runs of `receive`, and for the library, runs of `lift_receive`. The theorems of these types: proofs/Frames.antt, proofs/Library.antt.
use Rattle.std.specs.Prelude.{ℕ, ◌+◌, ◌≤◌, ◌<◌, ◌≡◌, List, [], ◌∷◌, ◌++◌, map, length, Ok}
use Rattle.reassembly.specs.Slots.{owner, held, free}
use Rattle.reassembly.specs.Parts.{Part}
use Rattle.reassembly.specs.Fresh.{Gateways, begun}
use Rattle.reassembly.specs.declared.slot.Source.{Source}
use Rattle.reassembly.specs.declared.slot.Key.{Key}
use Rattle.reassembly.specs.declared.part.Outcome.{Outcome}
use Rattle.promises.specs.Cuttings.{Cutting}
use Rattle.promises.specs.Frames.{Turn, Ran, end_of, openings, endings, MeansPart, Supposed, Concluded, HandedOut}
use Rattle.promises.specs.Library.{LiftTurn, as_turn, RanIn, ConcludedIn}

-- ---- for frames

-- "From a fresh table with fixed gateways, enough lent memory that only the calls write, and a clock that never goes back: if a gateway holds no
-- slot when the earliest part of a datagram comes, all its parts are of one cutting in 01's sense, nothing else comes meanwhile under its source,
-- destination, size and tag, and they cover it less than 60 seconds after that earliest part, then, of the calls for that key from that part
-- on, the covering call and none before it hands it out exactly, whatever else this gateway or the others send."
abbrev pub Demand3 : Type 0
Demand3 =
    (gs : List Source) (m : List ℕ) (k : Key) (d : List ℕ) (C : Cutting k d) (past mid : List Turn) (c : Turn)
    -- the table is fresh, the gateways are fixed, the memory is enough, the clock goes forward; the parts, what else comes under the key, the
    -- cover and its 60 seconds (specs/Frames.antt, clause by clause)
    → Supposed gs m k d C past mid c
    -- only the calls write table and memory
    → Ran (begun gs m) (past ++ (mid ++ (c ∷ [])))
    -- the gateway holds no slot when the earliest part comes
    → held (owner k) (end_of (begun gs m) past).table.slots ≡ 0
    → Concluded k d mid c

-- "No gateway ever holds over three slots": after every run from a fresh table, and so at every moment of it
abbrev pub AtMostThree : Type 0
AtMostThree =
    (gs : List Source) (m : List ℕ) → Gateways gs → 16384 ≤ length m → (hs : List Turn) → Ran (begun gs m) hs
    → (g : Source) → held g (end_of (begun gs m) hs).table.slots ≤ 3

-- 01: "At every moment openings so far less endings so far, plus free slots, is 8"
abbrev pub EightSlots : Type 0
EightSlots =
    (gs : List Source) (m : List ℕ) → Gateways gs → 16384 ≤ length m → (hs : List Turn) → Ran (begun gs m) hs
    → openings (begun gs m) hs + free (end_of (begun gs m) hs).table.slots ≡ 8 + endings (begun gs m) hs

-- "bytes of two such keys never meet in one datagram": whenever a call that brings the part p hands out n bytes, they are made of the parts taken
-- under p's key since the opening of its slot, p among them
abbrev pub NeverMeet : Type 0
NeverMeet =
    (gs : List Source) (m : List ℕ) → Gateways gs → 16384 ≤ length m → (hs : List Turn) (h : Turn) → Ran (begun gs m) (hs ++ (h ∷ []))
    → (p : Part) → MeansPart h p → (n : ℕ) → h.returned.answer ≡ Ok (Outcome.Out n) → HandedOut gs m p.key hs h n

-- ---- for the library: answers are numbers (lift/specs/Face.antt), and the caller keeps the table

abbrev pub LiftDemand3 : Type 0
LiftDemand3 =
    (gs : List Source) (m : List ℕ) (k : Key) (d : List ℕ) (C : Cutting k d) (past mid : List LiftTurn) (c : LiftTurn)
    → Supposed gs m k d C (map as_turn past) (map as_turn mid) (as_turn c)
    → RanIn (begun gs m) (past ++ (mid ++ (c ∷ [])))
    → held (owner k) (end_of (begun gs m) (map as_turn past)).table.slots ≡ 0
    → ConcludedIn k d mid c

abbrev pub LiftAtMostThree : Type 0
LiftAtMostThree =
    (gs : List Source) (m : List ℕ) → Gateways gs → 16384 ≤ length m → (hs : List LiftTurn) → RanIn (begun gs m) hs
    → (g : Source) → held g (end_of (begun gs m) (map as_turn hs)).table.slots ≤ 3

abbrev pub LiftEightSlots : Type 0
LiftEightSlots =
    (gs : List Source) (m : List ℕ) → Gateways gs → 16384 ≤ length m → (hs : List LiftTurn) → RanIn (begun gs m) hs
    → openings (begun gs m) (map as_turn hs) + free (end_of (begun gs m) (map as_turn hs)).table.slots ≡ 8 + endings (begun gs m) (map as_turn hs)

-- of an answer LIFT_OUT with the length n
abbrev pub LiftNeverMeet : Type 0
LiftNeverMeet =
    (gs : List Source) (m : List ℕ) → Gateways gs → 16384 ≤ length m → (hs : List LiftTurn) (h : LiftTurn) → RanIn (begun gs m) (hs ++ (h ∷ []))
    → (p : Part) → MeansPart (as_turn h) p → (n : ℕ) → h.answer ≡ 65536 + n → n < 65536 → HandedOut gs m p.key (map as_turn hs) (as_turn h) n
