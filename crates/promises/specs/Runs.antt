-- Demand 3 over runs of calls (reassembly's `step`): what it supposes of a run and what it concludes, clause by clause, with the customer's
-- words in quotes.
use Rattle.std.specs.Prelude.{ℕ, ◌+◌, ◌≤◌, ◌<◌, ◌≡◌, true, List, [], ◌∷◌, ◌++◌, length}
use Rattle.reassembly.specs.Slots.{owner, is_gate}
use Rattle.reassembly.specs.Parts.{Part, kept, out}
use Rattle.reassembly.specs.Table.{Call, part, State, step, after, comes, next, run}
use Rattle.reassembly.specs.Fresh.{Gateways}
use Rattle.reassembly.specs.declared.slot.Source.{Source}
use Rattle.reassembly.specs.declared.slot.Key.{Key}
use Rattle.reassembly.specs.Cover.{In, Covers}
use Rattle.promises.specs.Cuttings.{Cutting}

-- the parts that come under k in a run; one that fails check 10 is none
unfoldable pub came : Key → List Call → List Part
came k [] = []
came k (c ∷ cs) = comes k c ++ came k cs

-- from the time n on, no call brings an earlier time than one before it
unfoldable pub CallsForward : ℕ → List Call → Type 0
CallsForward n [] = Unit {0}
CallsForward n (c ∷ cs) = (n ≤ after n c) × CallsForward (after n c) cs

-- each call of a run from σ that brings a part under k answers that it was kept
unfoldable pub AllKept : Key → State → List Call → Type 0
AllKept k σ [] = Unit {0}
AllKept k σ (c ∷ cs) = ((p : Part) → comes k c ≡ p ∷ [] → (step σ c).reply ≡ kept) × AllKept k (next σ c) cs

-- What demand 3 supposes. `past` is what came before the earliest part, `mid` what came from it on and before the covering call, and the
-- covering call brings q at t. One premise stands apart (proofs/Runs.antt), "a gateway holds no slot when the earliest part [..] comes": less
-- suffices, `Ready` at the time of the earliest part.
pub record CallsSupposed (gs : List Source) (m : List ℕ) (k : Key) (d : List ℕ) (C : Cutting k d) (past mid : List Call) (t : ℕ) (q : Part) : Type 0 where
  -- "From a fresh table with fixed gateways": the run begins at `begun gs m`, and no call changes the gateways;
  pub gateways : Gateways gs
  -- "enough lent memory that only the calls write": m, handed from call to call as the call left it;
  pub enough : 16384 ≤ length m
  -- "and a clock that never goes back": from 0, over all the calls;
  pub forward : CallsForward 0 (past ++ (mid ++ (part t q ∷ [])))
  -- "if a gateway": the source of the key is one;
  pub gate : is_gate (owner k) gs ≡ true
  -- "the earliest part of a datagram": the first of the calls from there on brings a part of the cutting, at t₀;
  pub t₀ : ℕ
  pub p₀ : Part
  pub then : List Call
  pub earliest : mid ++ (part t q ∷ []) ≡ part t₀ p₀ ∷ then
  pub earliest-part : In p₀ C.parts
  -- "all its parts are of one cutting in 01's sense, nothing else comes meanwhile under its source, destination, size and tag": less again,
  -- as a part that fails check 10 is refused and changes nothing;
  pub of-cutting : (p : Part) → In p (came k (mid ++ (part t q ∷ []))) → In p C.parts
  -- "and they cover it": with the covering call, and not before it,
  pub cover : Covers k.size (came k (mid ++ (part t q ∷ [])))
  pub not-before : Covers k.size (came k mid) → ⊥
  -- "less than 60 seconds after that earliest part".
  pub soon : t < t₀ + 60000

-- "then, of the calls for that key from that part on, the covering call and none before it hands it out exactly, whatever else this gateway or
-- the others send": σ is the table and memory when the earliest part comes.
pub record CallsConcluded (σ : State) (k : Key) (d : List ℕ) (mid : List Call) (t : ℕ) (q : Part) : Type 0 where
  -- none before it: each answers `kept`;
  pub none_before : AllKept k σ mid
  -- the covering call hands out d.
  pub exactly : (step (run σ mid) (part t q)).reply ≡ out d
