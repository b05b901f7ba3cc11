-- The steps of a call, in the order of the scope document, "Expansion and the slot table": 7, 8 and the time; then who sends the frame, and what it
-- is; then its part goes to a slot. proofs/Turns.antt shows that one after the other they are reassembly's `step`.
use Rattle.std.specs.Prelude.{ℕ, ◌≤◌, ◌≡◌, true, false, ◌||◌, List, length, eqb, ltb}
use Rattle.octets.specs.Read.{Answer, is, choose}
use Rattle.octets.specs.Read as Read
use Rattle.reassembly.specs.Lists.{first_at}
use Rattle.incoming.specs.Incoming.{arrival}
use Rattle.incoming.specs.declared.arrival.Arrival.{Arrival}
use Rattle.reassembly.specs.Slots.{node_of, addressed, owner, is_key, gates_of, is_gate, opening}
use Rattle.reassembly.specs.Parts.{Part, Reply, Answered}
use Rattle.reassembly.specs.Table.{Result, from, part, step, Aged, Gives}
use Rattle.reassembly.specs.declared.slot.Source.{Source}
use Rattle.reassembly.specs.declared.slot.Key.{Key}
use Rattle.reassembly.specs.declared.table.Table.{Table}
use Rattle.receiver.specs.Receive.{sender_of, frame_call, call_of}

-- ---- the time
-- 7; 8: a call at the time t, the table's last one l, with m bytes of memory and o of output lent
unfoldable pub judged : ℕ → ℕ → ℕ → ℕ → Answer (Unit {0})
judged l t m o = choose (ltb m 16384 || ltb o 2047) (Read.refused 7) (choose (ltb t l) (Read.refused 8) (is tt))

-- x is tb once it has taken the time t, which is not earlier than its last, with enough lent, m and o
pub record Timed (tb x : Table) (t : ℕ) (m o : List ℕ) : Type 0 where
  pub aged : Aged tb x t
  pub last : x.last ≡ t
  pub enough : (ltb (length m) 16384 || ltb (length o) 2047) ≡ false
  pub late : tb.last ≤ t

-- ---- the frame
-- the frame s is not let in to a table of the gateways gs: the MAC header's refusals and 13; then 9, its sender is none of them; then 6, its
-- destination is absent
pub data TurnedAway (gs : List Source) (s : List ℕ) : ℕ → Type 0 where
  unread : (n : ℕ) → arrival s ≡ Read.refused n → TurnedAway gs s n
  stranger : (a : Arrival) → arrival s ≡ is a → is_gate (sender_of a) gs ≡ false → TurnedAway gs s 9
  nowhere : (a : Arrival) → arrival s ≡ is a → is_gate (sender_of a) gs ≡ true → addressed (node_of a.dst) ≡ false → TurnedAway gs s 6

-- who sends the frame to whom
abbrev pub Admits : List Source → List ℕ → Answer Arrival → Type 0
Admits gs s (is a) = (arrival s ≡ is a) × (is_gate (sender_of a) gs ≡ true) × (addressed (node_of a.dst) ≡ true)
Admits gs s (Read.refused n) = TurnedAway gs s n

-- at the time t it is one of a gateway, who is answered a; or one that brings the part p
abbrev pub GateSays : List Source → List ℕ → ℕ → List ℕ → Reply (List ℕ) → Type 0
GateSays gs ctx t s a = (g : Source) × (is_gate g gs ≡ true) × (frame_call ctx t s ≡ from t g a)

abbrev pub GateBrings : List Source → List ℕ → ℕ → List ℕ → Part → Type 0
GateBrings gs ctx t s p = (is_gate (owner p.key) gs ≡ true) × (frame_call ctx t s ≡ part t p)

-- what the call on the frame s comes to
abbrev pub called : Table → ℕ → List ℕ → List ℕ → List ℕ → List ℕ → Result
called tb t s ctx m o = step (record { table = tb; mem = m }) (call_of m o ctx t s)

-- a frame s to the table x, which has taken the time t: of every table tb that x was, the answer r, and afterwards the table x', the memory
-- m' and the output o', are what `step` says
abbrev pub ReceivesIn : Table → ℕ → List ℕ → List ℕ → Answered → Table → List ℕ → List ℕ → List ℕ → List ℕ → Type 0
ReceivesIn x t s ctx r x' m m' o o' = (tb : Table) → Timed tb x t m o → Gives (record { answer = r; table = x' }) m' o o' (called tb t s ctx m o)

-- ---- the part: the slot that is open under its key k, or 8; the one that it may open, or 8
abbrev pub open_slot : Table → Key → ℕ
open_slot x k = first_at (is_key k) x.slots

abbrev pub new_slot : Table → Key → ℕ
new_slot x k = opening (owner k) (gates_of x) x.slots

-- the one that it goes to, or 8
unfoldable pub slot_for : Table → Key → ℕ
slot_for x k = choose (eqb (open_slot x k) 8) (new_slot x k) (open_slot x k)

-- the part p to the table x: of every frame s of a gateway that brings it, as `ReceivesIn` says
abbrev pub TakesIn : Table → ℕ → Part → Answered → Table → List ℕ → List ℕ → List ℕ → List ℕ → Type 0
TakesIn x t p r x' m m' o o' = (s ctx : List ℕ) → GateBrings (gates_of x) ctx t s p → ReceivesIn x t s ctx r x' m m' o o'
