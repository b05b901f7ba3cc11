-- The slot table as a function on values: what one call does to the table, to the lent memory and to the output
-- (the scope document, "Expansion and the slot table").
use Rattle.std.specs.Prelude.{ℕ, ◌+◌, ◌*◌, ◌≡◌, Bool, true, false, ◌&&◌, ◌||◌, List, [], ◌∷◌, length, get_or, set, take, drop, ltb, eqb}
use Rattle.octets.specs.Read.{choose}
use Rattle.octets.specs.Write.{put}
use Rattle.reassembly.specs.Lists.{count, first_at}
use Rattle.reassembly.specs.Slots.{same_key, owner, free_slot, opened, is_free, is_key, expired, expire, gates_of, is_gate, may_open}
use Rattle.reassembly.specs.Parts.{Part, Reply, refused, told, Answered, of_outcome, output_after, fits, Put, place, offer}
use Rattle.reassembly.specs.declared.slot.Key.{Key}
use Rattle.reassembly.specs.declared.slot.Source.{Source}
use Rattle.reassembly.specs.declared.slot.Slot.{Slot}
use Rattle.reassembly.specs.declared.part.InSlot.{InSlot}
use Rattle.reassembly.specs.declared.table.Table.{Table}

-- What a call brings, whatever table it comes to. short: too little was lent (7). other: what is answered so whoever sends it (a refusal of the
-- MAC header, 13). from: anything else but a part, with its sender and what a gateway is answered (an unfragmented datagram handed out, or a
-- refusal). part: a fragment that passed every check before 10 but 9; its key has its sender.
pub data Call : Type 0 where
  short : Call
  other : ℕ → Reply (List ℕ) → Call
  from : ℕ → Source → Reply (List ℕ) → Call
  part : ℕ → Part → Call

-- the table, and the lent memory
pub record State : Type 0 where
  pub table : Table
  pub mem : List ℕ

-- what a call comes to; opens and ends count the slots that it opened and ended
pub record Result : Type 0 where
  pub reply : Reply (List ℕ)
  pub state : State
  pub opens : ℕ
  pub ends : ℕ
  pub took : Bool

-- ---- the lent memory: slot i begins at byte 2,048 * i
unfoldable pub chunk : ℕ → List ℕ → List ℕ
chunk i m = take 2048 (drop (i * 2048) m)

unfoldable pub splice : List ℕ → ℕ → List ℕ → List ℕ
splice m i b = put (i * 2048) b m

-- ---- the table
-- the table with these slots, its last time t
unfoldable pub with_slots : Table → ℕ → List Slot → Table
with_slots tb t l = record { slots = l; last = t; gateways = tb.gateways }

-- nothing is taken, not even the time
unfoldable pub untouched : State → ℕ → Result
untouched σ n = record { reply = refused n; state = σ; opens = 0; ends = 0; took = false }

-- the slots as the call at t finds them: those 60,000 ms or more past their opening are freed
unfoldable pub slots_at : ℕ → State → List Slot
slots_at t σ = expire t σ.table.slots

-- how many slots ended by age
unfoldable pub aged : ℕ → State → ℕ
aged t σ = count (expired t) σ.table.slots

-- the time is taken, old slots are freed, and nothing else
unfoldable pub pass : State → ℕ → Reply (List ℕ) → Result
pass σ t a = record { reply = a; state = record { table = with_slots σ.table t (slots_at t σ); mem = σ.mem }; opens = 0; ends = aged t σ; took = false }

-- slot i and its memory become what put says
unfoldable pub land : State → ℕ → ℕ → ℕ → Put → Result
land σ t i o r = record {
  reply = r.reply;
  state = record { table = with_slots σ.table t (set (slots_at t σ) i r.slot); mem = splice σ.mem i r.bytes };
  opens = o;
  ends = aged t σ + r.ended;
  took = r.took;
}

-- where the key is open; where it is not, the lowest free slot
unfoldable pub where_key : Key → ℕ → State → ℕ
where_key k t σ = first_at (is_key k) (slots_at t σ)

unfoldable pub where_free : ℕ → State → ℕ
where_free t σ = first_at is_free (slots_at t σ)

unfoldable pub offer_at : State → ℕ → Part → ℕ → Result
offer_at σ t p i = land σ t i 0 (offer (get_or (slots_at t σ) i free_slot) (chunk i σ.mem) p)

unfoldable pub open_at : State → ℕ → Part → ℕ → Result
open_at σ t p i = land σ t i 1 (place (opened p.key t) (chunk i σ.mem) p)

-- a slot that a refusal leaves as it was
unfoldable pub stays : Slot → ℕ → List ℕ → ℕ → Put
stays s i m n = record { reply = refused n; slot = s; bytes = chunk i m; ended = 0; took = false }

-- a part for slot i, whose record is s, at a time t at which s is not old: 7, 10, 12 where there is no slot i, then 11 or it is taken
unfoldable pub take_at : Slot → ℕ → ℕ → Part → List ℕ → List ℕ → Put
take_at s i t p m o =
    choose (ltb (length m) 16384 || ltb (length o) 2047) (stays s i m 7)
    (choose (fits p)
    (choose (ltb i 8)
    (choose (is_key p.key s) (offer s (chunk i m) p) (place (opened p.key t) (chunk i m) p))
    (stays s i m 12))
    (stays s i m 10))

-- 9: the sender g is none of the gateways gs
unfoldable pub from_gate : Source → List Source → Reply (List ℕ) → Reply (List ℕ)
from_gate g gs a = choose (is_gate g gs) a (refused 9)

-- 9, 10, then 11 or 12
unfoldable pub take_part : State → ℕ → Part → Result
take_part σ t p =
    choose (is_gate (owner p.key) (gates_of σ.table))
    (choose (fits p)
    (choose (ltb (where_key p.key t σ) 8)
    (offer_at σ t p (where_key p.key t σ))
    (choose (may_open (owner p.key) (gates_of σ.table) (slots_at t σ))
    (open_at σ t p (where_free t σ))
    (pass σ t (refused 12))))
    (pass σ t (refused 10)))
    (pass σ t (refused 9))

-- 8: the time t goes back
abbrev pub timely : State → ℕ → Result → Result
timely σ t r = choose (ltb t σ.table.last) (untouched σ 8) r

-- 7; 8; then the time is taken
unfoldable pub step : State → Call → Result
step σ short = untouched σ 7
step σ (other t a) = timely σ t (pass σ t a)
step σ (from t g a) = timely σ t (pass σ t (from_gate g (gates_of σ.table) a))
step σ (part t p) = timely σ t (take_part σ t p)

-- what comes with the output o, where enough memory is lent
unfoldable pub room_call : List ℕ → Call → Call
room_call o c = choose (ltb (length o) 2047) short c

-- with the lent memory m and the output o
unfoldable pub lent_call : List ℕ → List ℕ → Call → Call
lent_call m o c = choose (ltb (length m) 16384 || ltb (length o) 2047) short c

-- ---- what the contracts say
-- the answer r, the lent memory m and the output o, m₀ and o₀ before, are as q says of slot i
pub record Lands (r : InSlot) (i : ℕ) (m₀ m o₀ o : List ℕ) (q : Put) : Type 0 where
  pub answer : of_outcome r.outcome ≡ told q.reply
  pub slot : r.slot ≡ q.slot
  pub memory : m ≡ splice m₀ i q.bytes
  pub output : o ≡ output_after q.reply o₀

-- the answer of a call, and the table after it
pub record Received : Type 0 where
  pub answer : Answered
  pub table : Table

-- the answer r, the lent memory m and the output o, o₀ before, are as the result says
pub record Gives (r : Received) (m o₀ o : List ℕ) (q : Result) : Type 0 where
  pub answer : of_outcome r.answer ≡ told q.reply
  pub table : r.table ≡ q.state.table
  pub memory : m ≡ q.state.mem
  pub output : o ≡ output_after q.reply o₀

-- x has the slots of tb as a call at t finds them
pub record Aged (tb x : Table) (t : ℕ) : Type 0 where
  pub slots : x.slots ≡ expire t tb.slots
  pub gates : x.gateways ≡ tb.gateways
  pub eight : length x.slots ≡ 8

-- ---- runs
-- the time that a call brings, where it brings one
abbrev pub At : Call → ℕ → Type 0
At short t = ⊥
At (other u a) t = u ≡ t
At (from u g a) t = u ≡ t
At (part u p) t = u ≡ t

-- the clock after a call, where it was n
abbrev pub after : ℕ → Call → ℕ
after n short = n
after n (other t a) = t
after n (from t g a) = t
after n (part t p) = t

-- as a call at t finds the table, once it has freed the old slots, k is not open and its gateway may open a slot
pub record Ready (k : Key) (σ : State) (t : ℕ) : Type 0 where
  pub closed : count (is_key k) (slots_at t σ) ≡ 0
  pub may : may_open (owner k) (gates_of σ.table) (slots_at t σ) ≡ true

-- the acceptable part that a call brings under k, if any: what it is that "comes" under k
unfoldable pub comes : Key → Call → List Part
comes k short = []
comes k (other t a) = []
comes k (from t g a) = []
comes k (part t p) = choose (same_key p.key k && fits p) (p ∷ []) []

unfoldable pub next : State → Call → State
next σ c = (step σ c).state

unfoldable pub run : State → List Call → State
run σ [] = σ
run σ (c ∷ cs) = run (next σ c) cs

-- openings and endings so far
unfoldable pub opens_in : State → List Call → ℕ
opens_in σ [] = 0
opens_in σ (c ∷ cs) = (step σ c).opens + opens_in (next σ c) cs

unfoldable pub ends_in : State → List Call → ℕ
ends_in σ [] = 0
ends_in σ (c ∷ cs) = (step σ c).ends + ends_in (next σ c) cs

-- the parts taken under k since its slot was opened: after a call with the result r, where they were h before it
unfoldable pub note : Key → Call → Result → List Part → List Part
note k short r h = h
note k (other t a) r h = h
note k (from t g a) r h = h
note k (part t p) r h = choose (r.took && same_key p.key k) (choose (eqb r.opens 1) (p ∷ []) (p ∷ h)) h

unfoldable pub taken_since : Key → State → List Call → List Part → List Part
taken_since k σ [] h = h
taken_since k σ (c ∷ cs) h = taken_since k (next σ c) cs (note k c (step σ c) h)
