-- What one call can do, case by case, and what every run of calls keeps. Only this file looks into `step`.
use Prim.Native.Nat.{ℕ, zero, suc, ◌+◌, ◌-◌, ◌≤◌, ◌<◌}
use native.Mathlib.Omega.{arith}
use mathlib.Core.Path.{◌≡◌, refl, sym, ap, ◌∙◌}
use mathlib.Core.Logic.{◌≢◌, ◌⊎◌, inl, inr}
use mathlib.Core.Bool.{Bool, true, false, ◌&&◌}
use mathlib.Core.List.{List, [], ◌∷◌, ◌++◌, append-nil}
use lib.ListN.{length, get_or, set, replicate, length-replicate}
use lib.Seq.{get_or-set_same, get_or-set_other}
use lib.Dec.{ltb}
use borrow.Author.Tests.{ltb-true, ltb-false, lt-ltb, le-ltb}
use Rattle.reassembly.specs.Lists.{bit, count, first_at, those}
use Rattle.reassembly.specs.Slots.{no_node, addressed, no_source, present, same_key, owner, busy, free_slot, opened, is_free, is_key, is_of, gates_of, is_gate, held, free, may_open}
use Rattle.reassembly.specs.Parts.{Part, Reply, refused, fits, repeats, touches, taken_in, taken, full, Put, place, offer}
use Rattle.reassembly.specs.Table.{Call, short, other, from, part, State, Result, chunk, with_slots, untouched, slots_at, aged, pass, land, where_key, where_free, offer_at, open_at, from_gate, take_part, timely, step, At, comes, Ready, after, next, run, opens_in, ends_in}
use Rattle.reassembly.specs.Fresh.{seats, fresh, Gateways, begun}
use Rattle.reassembly.specs.declared.slot.Source.{Source}
use Rattle.reassembly.specs.declared.slot.Key.{Key}
use Rattle.reassembly.specs.declared.slot.Slot.{Slot}
use Rattle.reassembly.specs.declared.table.Table.{Table}
use Rattle.reassembly.proofs.Tests.{no_both, by-test, by_order, not-true-false, and_left, and_right}
use Rattle.reassembly.proofs.Lists.{count_set, count_at, count-replicate, first_at-holds, first_at-found, first_at-none, first_at-only}
use Rattle.reassembly.proofs.Slots.{same_key-eq, same_key-refl}
use Rattle.reassembly.proofs.Gateways.{is_key-busy, is_key-key, is_key-is_of, expire1-young, get_or-expire, count-expire, free_slot-free, free_slot-key, free_slot-of, free_slot-stray, young, busy-not-free, free-expire, stray, load, Sound, sound-expire, After, freed, stays, sound-land, may_open-rule, may_open-none, sound-open}
use Rattle.reassembly.proofs.Parts.{place-length, offer-length}
use Rattle.reassembly.proofs.Memory.{length-chunk, length-splice, chunk-same, chunk-other}

-- ---- what a part makes of a slot

pub place_after : (s : Slot) (b : List ℕ) (p : Part) → After (place s b p).slot s
unfolding place taken_in
place_after s b p = by-test (full (taken s p)) (λ e. rw e (freed refl)) (λ e. rw e (stays refl refl))

pub offer-after : (s : Slot) (b : List ℕ) (p : Part) → After (offer s b p).slot s
unfolding offer
offer-after s b p = by-test (repeats s b p)
    (λ e. rw e (stays refl refl))
    (λ e. by-test (touches s p) (λ c. rw (e, c) (freed refl)) (λ c. rw (e, c) (place_after s b p)))

-- a busy slot is free afterwards exactly when the part ended it
pub place-ends : (s : Slot) (b : List ℕ) (p : Part) → busy s ≡ true → bit (is_free (place s b p).slot) ≡ (place s b p).ended
unfolding place
place-ends s b p h = by-test (full (taken s p))
    (λ e. rw (e, free_slot-free))
    (λ e. rw (e, busy-not-free (taken s p) (unfold taken_in in h)))

pub offer-ends : (s : Slot) (b : List ℕ) (p : Part) → busy s ≡ true → bit (is_free (offer s b p).slot) ≡ (offer s b p).ended
unfolding offer
offer-ends s b p h = by-test (repeats s b p)
    (λ e. rw (e, busy-not-free s h))
    (λ e. by-test (touches s p) (λ c. rw (e, c, free_slot-free)) (λ c. rw (e, c) (place-ends s b p h)))

-- ---- what one call can do

pub record Good (σ : State) : Type 0 where
  pub sound : Sound (gates_of σ.table) σ.table.slots
  pub room : 16384 ≤ length σ.mem

pub good-at : (σ : State) (t : ℕ) → Good σ → Sound (gates_of σ.table) (slots_at t σ)
unfolding slots_at
good-at σ t G = sound-expire (gates_of σ.table) σ.table.slots t G.sound

-- the part's own key is open in slot i
pub record Offered (σ : State) (t : ℕ) (p : Part) (i : ℕ) : Type 0 where
  pub clock : σ.table.last ≤ t
  pub gate : is_gate (owner p.key) (gates_of σ.table) ≡ true
  pub fit : fits p ≡ true
  pub low : i < 8
  pub here : is_key p.key (get_or (slots_at t σ) i free_slot) ≡ true

-- its key is not open, and its gateway may open slot j, which is free
pub record Opens (σ : State) (t : ℕ) (p : Part) (j : ℕ) : Type 0 where
  pub clock : σ.table.last ≤ t
  pub gate : is_gate (owner p.key) (gates_of σ.table) ≡ true
  pub fit : fits p ≡ true
  pub closed : count (is_key p.key) (slots_at t σ) ≡ 0
  pub may : may_open (owner p.key) (gates_of σ.table) (slots_at t σ) ≡ true
  pub low : j < 8
  pub was_free : is_free (get_or (slots_at t σ) j free_slot) ≡ true

-- what a call answers that comes to no slot
abbrev pub Says : State → Call → Reply (List ℕ) → Type 0
Says σ short a = ⊥
Says σ (other u b) a = b ≡ a
Says σ (from u g b) a = from_gate g (gates_of σ.table) b ≡ a
Says σ (part u p) a = (n : ℕ) × (a ≡ refused n)

pub data Did (σ : State) : Call → Result → Type 0 where
  lacking : Did σ short (untouched σ 7)
  stale : {c : Call} (t : ℕ) → t < σ.table.last → At c t → Did σ c (untouched σ 8)
  passed : {c : Call} (t : ℕ) (a : Reply (List ℕ)) → σ.table.last ≤ t → At c t → Says σ c a → Did σ c (pass σ t a)
  offered : (t : ℕ) (p : Part) (i : ℕ) → Offered σ t p i → Did σ (part t p) (offer_at σ t p i)
  opens : (t : ℕ) (p : Part) (j : ℕ) → Opens σ t p j → Did σ (part t p) (open_at σ t p j)

-- a test that counts nothing before the place that it finds none
count-none-of : (f : Slot → Bool) (l : List Slot) → length l ≤ first_at f l → count f l ≡ 0
count-none-of f l h = by_order 1 (count f l) (λ e. absurd (omega (arith, first_at-found f l e))) (λ e. omega arith)

pub take_part-did : (σ : State) (t : ℕ) (p : Part) → Good σ → σ.table.last ≤ t → Did σ (part t p) (take_part σ t p)
unfolding take_part
take_part-did σ t p G c =
    let S = good-at σ t G in
    by-test (is_gate (owner p.key) (gates_of σ.table))
    (λ e1. by-test (fits p)
    (λ e2. by-test (ltb (where_key p.key t σ) 8)
    (λ e3.
    let low = ltb-true (where_key p.key t σ) 8 e3 in
    let here : is_key p.key (get_or (slots_at t σ) (where_key p.key t σ) free_slot) ≡ true =
    unfold where_key in (first_at-holds (is_key p.key) (slots_at t σ) free_slot (omega (arith, low, S.eight))) in
    rw (e1, e2, e3) (offered t p (where_key p.key t σ) (record { clock = c; gate = e1; fit = e2; low = low; here = here })))
    (λ e3.
    let high : 8 ≤ first_at (is_key p.key) (slots_at t σ) = unfold where_key in (ltb-false (where_key p.key t σ) 8 e3) in
    let closed = count-none-of (is_key p.key) (slots_at t σ) (omega (arith, S.eight)) in
    by-test (may_open (owner p.key) (gates_of σ.table) (slots_at t σ))
    (λ e4.
    let room : 1 ≤ count is_free (slots_at t σ) = unfold free in (may_open-rule (owner p.key) (gates_of σ.table) (slots_at t σ) e4).room in
    let found = first_at-found is_free (slots_at t σ) room in
    let low : where_free t σ < 8 = unfold where_free in (omega (arith, S.eight)) in
    let here : is_free (get_or (slots_at t σ) (where_free t σ) free_slot) ≡ true =
    unfold where_free in (first_at-holds is_free (slots_at t σ) free_slot found) in
    rw (e1, e2, e3, e4) (opens t p (where_free t σ)
    (record { clock = c; gate = e1; fit = e2; closed = closed; may = e4; low = low; was_free = here })))
    (λ e4. rw (e1, e2, e3, e4) (passed {c = part t p} t (refused 12) c refl (12, refl)))))
    (λ e2. rw (e1, e2) (passed {c = part t p} t (refused 10) c refl (10, refl))))
    (λ e1. rw e1 (passed {c = part t p} t (refused 9) c refl (9, refl)))

timely-did : (σ : State) (c : Call) (t : ℕ) (r : Result) → At c t → (σ.table.last ≤ t → Did σ c r) → Did σ c (timely σ t r)
timely-did σ c t r w f = by-test (ltb t σ.table.last)
    (λ e. rw e (stale t (ltb-true t σ.table.last e) w))
    (λ e. rw e (f (ltb-false t σ.table.last e)))

pub step-did : (σ : State) (c : Call) → Good σ → Did σ c (step σ c)
unfolding step
step-did σ short G = lacking
step-did σ (other t a) G = timely-did σ (other t a) t _ refl (λ h. passed t a h refl refl)
step-did σ (from t g a) G = timely-did σ (from t g a) t _ refl (λ h. passed t (from_gate g (gates_of σ.table) a) h refl refl)
step-did σ (part t p) G = timely-did σ (part t p) t _ refl (take_part-did σ t p G)

-- the slot that a part is offered to, or that is opened for it, as it stands then
pub len-at : (σ : State) (t : ℕ) → Good σ → length (slots_at t σ) ≡ 8
len-at σ t G = (good-at σ t G).eight

-- ---- the invariant holds on

gates-with : (tb : Table) (t : ℕ) (l : List Slot) → gates_of (with_slots tb t l) ≡ gates_of tb
unfolding gates_of with_slots
gates-with tb t l = refl

good-pass : (σ : State) (t : ℕ) (a : Reply (List ℕ)) → Good σ → Good (pass σ t a).state
unfolding pass with_slots gates_of
good-pass σ t a G = record { sound = unfold gates_of in (good-at σ t G); room = G.room }

good-land : (σ : State) (t i o : ℕ) (r : Put) → Good σ → Sound (gates_of σ.table) (set (slots_at t σ) i r.slot) → Good (land σ t i o r).state
unfolding land with_slots gates_of
good-land σ t i o r G S = record { sound = S; room = omega (arith, G.room, length-splice σ.mem i r.bytes) }

pub did-good : {c : Call} (σ : State) {r : Result} → Good σ → Did σ c r → Good r.state
unfolding untouched offer_at open_at
did-good σ G lacking = G
did-good σ G (stale t h w) = G
did-good σ G (passed t a h w v) = good-pass σ t a G
did-good σ G (offered t p i O) =
    let s = get_or (slots_at t σ) i free_slot in
    let b = chunk i σ.mem in
    good-land σ t i 0 (offer s b p) G
    (sound-land (gates_of σ.table) (slots_at t σ) i (offer s b p).slot (good-at σ t G) (omega (arith, O.low, len-at σ t G)) (offer-after s b p))
did-good σ G (opens t p j O) =
    let s = opened p.key t in
    let b = chunk j σ.mem in
    good-land σ t j 1 (place s b p) G
    (sound-open (gates_of σ.table) (slots_at t σ) j t p.key (place s b p).slot (good-at σ t G) (omega (arith, O.low, len-at σ t G))
    (place_after s b p) O.closed O.gate O.may)

-- the gateways stay
pub did-gates : {c : Call} (σ : State) {r : Result} → Did σ c r → gates_of r.state.table ≡ gates_of σ.table
unfolding untouched offer_at open_at pass land with_slots gates_of
did-gates σ lacking = refl
did-gates σ (stale t h w) = refl
did-gates σ (passed t a h w v) = refl
did-gates σ (offered t p i O) = refl
did-gates σ (opens t p j O) = refl

-- the lent memory keeps its length
pub did-length : {c : Call} (σ : State) {r : Result} → Did σ c r → length r.state.mem ≡ length σ.mem
unfolding untouched offer_at open_at pass land
did-length σ lacking = refl
did-length σ (stale t h w) = refl
did-length σ (passed t a h w v) = refl
did-length σ (offered t p i O) = length-splice σ.mem i _
did-length σ (opens t p j O) = length-splice σ.mem j _

-- ---- openings, endings and free slots

free-at : (σ : State) (t : ℕ) → free (slots_at t σ) ≡ free σ.table.slots + aged t σ
unfolding slots_at aged
free-at σ t = free-expire t σ.table.slots

free-set : (l : List Slot) (i : ℕ) (x : Slot) → i < length l → free (set l i x) + bit (is_free (get_or l i free_slot)) ≡ free l + bit (is_free x)
unfolding free
free-set l i x h = count_set is_free l i x free_slot h

pub did-count : {c : Call} (σ : State) {r : Result} → Good σ → Did σ c r
    → free r.state.table.slots + r.opens ≡ free σ.table.slots + r.ends
unfolding untouched offer_at open_at pass land with_slots
did-count σ G lacking = refl
did-count σ G (stale t h w) = refl
did-count σ G (passed t a h w v) = omega (arith, free-at σ t)
did-count σ G (offered t p i O) =
    let s = get_or (slots_at t σ) i free_slot in
    let b = chunk i σ.mem in
    let busy = is_key-busy p.key s O.here in
    let z : bit (is_free s) ≡ 0 = rw (busy-not-free s busy) in
    omega (arith, free-at σ t, z, offer-ends s b p busy, free-set (slots_at t σ) i (offer s b p).slot (omega (arith, O.low, len-at σ t G)))
did-count σ G (opens t p j O) =
    let s = opened p.key t in
    let b = chunk j σ.mem in
    let z : bit (is_free (get_or (slots_at t σ) j free_slot)) ≡ 1 = rw O.was_free in
    omega (arith, free-at σ t, z, place-ends s b p (unfold opened in refl), free-set (slots_at t σ) j (place s b p).slot (omega (arith, O.low, len-at σ t G)))

-- ---- one key's slot

-- k is open in slot i, with the record s and the memory b
pub record Holding (k : Key) (σ : State) (i : ℕ) (s : Slot) (b : List ℕ) : Type 0 where
  pub low : i < 8
  pub slot : get_or σ.table.slots i free_slot ≡ s
  pub mem : chunk i σ.mem ≡ b
  pub key : is_key k s ≡ true

pub held_at : (k : Key) (σ : State) (i : ℕ) (s : Slot) (b : List ℕ) (t : ℕ) → Good σ → Holding k σ i s b → t < s.since + 60000
    → get_or (slots_at t σ) i free_slot ≡ s
unfolding slots_at
held_at k σ i s b t G H y =
    get_or-expire t σ.table.slots i (omega (arith, H.low, G.sound.eight)) ∙ rw H.slot (expire1-young t s (young t s y))

comes-not : (k : Key) (t : ℕ) (p : Part) → comes k (part t p) ≡ [] → fits p ≡ true → same_key p.key k ≡ false
unfolding comes
comes-not k t p e f = not-true-false (same_key p.key k) (λ x.
    let z : (p ∷ []) ≡ [] = rw (x, f) at e in
    let w : ◌≡◌ {A = ℕ} 0 1 = cc in
    omega arith)

land-other : (k : Key) (σ : State) (i : ℕ) (s : Slot) (b : List ℕ) (t j o : ℕ) (r : Put) → Good σ → Holding k σ i s b → t < s.since + 60000
    → j < 8 → length r.bytes ≡ 2048 → i ≢ j → Holding k (land σ t j o r).state i s b
unfolding land with_slots
land-other k σ i s b t j o r G H y lj lb d = record {
  low = H.low;
  slot = get_or-set_other (slots_at t σ) j i r.slot free_slot d ∙ held_at k σ i s b t G H y;
  mem = chunk-other σ.mem j i r.bytes (omega (arith, lj, G.room)) (omega (arith, H.low, G.room)) lb (λ e. d (sym e)) ∙ H.mem;
  key = H.key;
}

pub chunk-len : (σ : State) (i : ℕ) → Good σ → i < 8 → length (chunk i σ.mem) ≡ 2048
chunk-len σ i G h = length-chunk i σ.mem (omega (arith, G.room))

-- LAW 1. A call that brings no acceptable part under k leaves k's slot and its memory, unless age ends it.
pub did-other : {c : Call} (k : Key) (σ : State) {r : Result} (i : ℕ) (s : Slot) (b : List ℕ) → Good σ → Did σ c r → Holding k σ i s b
    → comes k c ≡ [] → ((t : ℕ) → At c t → t < s.since + 60000) → Holding k r.state i s b
unfolding untouched offer_at open_at pass with_slots
did-other k σ i s b G lacking H no_part y = H
did-other k σ i s b G (stale t h w) H no_part y = H
did-other k σ i s b G (passed t a h w v) H no_part y = record { low = H.low; slot = held_at k σ i s b t G H (y t w); mem = H.mem; key = H.key }
did-other k σ i s b G (offered t p j O) H no_part y =
    land-other k σ i s b t j 0 (offer (get_or (slots_at t σ) j free_slot) (chunk j σ.mem) p) G H (y t refl) O.low
    (offer-length (get_or (slots_at t σ) j free_slot) (chunk j σ.mem) p ∙ chunk-len σ j G O.low)
    (λ e.
    let here : is_key p.key s ≡ true = rw (← e, held_at k σ i s b t G H (y t refl)) at O.here in
    let z : p.key ≡ k = sym (is_key-key p.key s here) ∙ is_key-key k s H.key in
    no_both (same_key p.key k) (rw z (same_key-refl k)) (comes-not k t p no_part O.fit))
did-other k σ i s b G (opens t p j O) H no_part y =
    land-other k σ i s b t j 1 (place (opened p.key t) (chunk j σ.mem) p) G H (y t refl) O.low
    (place-length (opened p.key t) (chunk j σ.mem) p ∙ chunk-len σ j G O.low)
    (λ e.
    let here : is_free s ≡ true = rw (← e, held_at k σ i s b t G H (y t refl)) at O.was_free in
    no_both (is_free s) here (busy-not-free s (is_key-busy k s H.key)))

-- what it takes for a part under k to come to the slots
pub record Comes (k : Key) (σ : State) (t : ℕ) (p : Part) : Type 0 where
  pub clock : σ.table.last ≤ t
  pub gate : is_gate (owner k) (gates_of σ.table) ≡ true
  pub key : p.key ≡ k
  pub fit : fits p ≡ true

step-open : (k : Key) (σ : State) (t : ℕ) (p : Part) (i : ℕ) → Comes k σ t p → i < 8 → where_key k t σ ≡ i → step σ (part t p) ≡ offer_at σ t p i
unfolding step take_part
step-open k σ t p i K low w =
    let g : is_gate (owner p.key) (gates_of σ.table) ≡ true = rw K.key K.gate in
    let w' : where_key p.key t σ ≡ i = rw K.key w in
    rw (le-ltb t σ.table.last K.clock, g, K.fit, w', lt-ltb i 8 low)

step-new : (k : Key) (σ : State) (t : ℕ) (p : Part) → Comes k σ t p → where_key k t σ ≡ 8 → may_open (owner k) (gates_of σ.table) (slots_at t σ) ≡ true
    → step σ (part t p) ≡ open_at σ t p (where_free t σ)
unfolding step take_part
step-new k σ t p K w m =
    let g : is_gate (owner p.key) (gates_of σ.table) ≡ true = rw K.key K.gate in
    let w' : where_key p.key t σ ≡ 8 = rw K.key w in
    let m' : may_open (owner p.key) (gates_of σ.table) (slots_at t σ) ≡ true = rw K.key m in
    rw (le-ltb t σ.table.last K.clock, g, K.fit, w', m')

land-reply : (σ : State) (t i o : ℕ) (r : Put) → (land σ t i o r).reply ≡ r.reply
unfolding land
land-reply σ t i o r = refl

land-own : (k : Key) (σ : State) (i : ℕ) (t o : ℕ) (r : Put) → Good σ → i < 8 → length r.bytes ≡ 2048 → is_key k r.slot ≡ true
    → Holding k (land σ t i o r).state i r.slot r.bytes
unfolding land with_slots
land-own k σ i t o r G low lb e = record {
  low = low;
  slot = get_or-set_same (slots_at t σ) i r.slot free_slot (omega (arith, low, len-at σ t G));
  mem = chunk-same σ.mem i r.bytes (omega (arith, low, G.room)) lb;
  key = e;
}

pub record Took (k : Key) (σ : State) (t : ℕ) (p : Part) (i : ℕ) (r : Put) : Type 0 where
  pub reply : (step σ (part t p)).reply ≡ r.reply
  pub holding : is_key k r.slot ≡ true → Holding k (step σ (part t p)).state i r.slot r.bytes

where_key-is : (k : Key) (t : ℕ) (σ : State) → where_key k t σ ≡ first_at (is_key k) (slots_at t σ)
unfolding where_key
where_key-is k t σ = refl

offer_at-is : (σ : State) (t : ℕ) (p : Part) (i : ℕ) → offer_at σ t p i ≡ land σ t i 0 (offer (get_or (slots_at t σ) i free_slot) (chunk i σ.mem) p)
unfolding offer_at
offer_at-is σ t p i = refl

-- LAW 2. An acceptable part under k, where k is open and young, is offered to k's slot, and to nothing else.
pub own-offered : (k : Key) (σ : State) (t : ℕ) (p : Part) (i : ℕ) (s : Slot) (b : List ℕ) → Good σ → Holding k σ i s b → Comes k σ t p
    → t < s.since + 60000 → Took k σ t p i (offer s b p)
own-offered k σ t p i s b G H K y =
    let at : get_or (slots_at t σ) i free_slot ≡ s = held_at k σ i s b t G H y in
    let S = good-at σ t G in
    let w : where_key k t σ ≡ i = where_key-is k t σ ∙ (first_at-only (is_key k) (slots_at t σ) i free_slot (omega (arith, H.low, S.eight)) (rw at H.key) (S.unique k)) in
    let e = step-open k σ t p i K H.low w in
    let f : offer_at σ t p i ≡ land σ t i 0 (offer s b p) = offer_at-is σ t p i ∙ rw (at, H.mem) in
    let lb : length (offer s b p).bytes ≡ 2048 = offer-length s b p ∙ rw (← H.mem) (chunk-len σ i G H.low) in
    record {
      reply = rw (e, f) (land-reply σ t i 0 (offer s b p));
      holding = λ q. rw (e, f) (land-own k σ i t 0 (offer s b p) G H.low lb q);
    }

-- a gateway that holds no slot, once the call has freed the old ones, is ready for every key
pub none-ready : (k : Key) (σ : State) (t : ℕ) → Good σ → is_gate (owner k) (gates_of σ.table) ≡ true → held (owner k) (slots_at t σ) ≡ 0 → Ready k σ t
none-ready k σ t G gate z = record {
  closed = by_order 1 (count (is_key k) (slots_at t σ))
      (λ h.
      let f = first_at-found (is_key k) (slots_at t σ) h in
      let o = is_key-is_of k _ (first_at-holds (is_key k) (slots_at t σ) free_slot f) in
      let z' : count (is_of (owner k)) (slots_at t σ) ≡ 0 = unfold held in z in
      absurd (omega (arith, count_at (is_of (owner k)) (slots_at t σ) (first_at (is_key k) (slots_at t σ)) free_slot f o)))
      (λ h. omega arith);
  may = may_open-none (owner k) (gates_of σ.table) (slots_at t σ) (good-at σ t G) gate z;
}

-- a gateway that holds no slot before the call holds none as the call finds the table
pub none_before : (g : Source) (σ : State) (t : ℕ) → held g σ.table.slots ≡ 0 → held g (slots_at t σ) ≡ 0
unfolding slots_at held
none_before g σ t z = omega (arith, count-expire (is_of g) t σ.table.slots (free_slot-of g))

-- LAW 3. An acceptable part under k, where k is not open and its gateway may open a slot, opens one.
pub own-opens : (k : Key) (σ : State) (t : ℕ) (p : Part) → Good σ → Comes k σ t p → Ready k σ t
    → (j : ℕ) × (b : List ℕ) × (length b ≡ 2048) × Took k σ t p j (place (opened k t) b p)
own-opens k σ t p G K R =
    let S = good-at σ t G in
    let m = R.may in
    let w : where_key k t σ ≡ 8 = where_key-is k t σ ∙ first_at-none (is_key k) (slots_at t σ) R.closed ∙ S.eight in
    let room : 1 ≤ count is_free (slots_at t σ) = unfold free in (may_open-rule (owner k) (gates_of σ.table) (slots_at t σ) m).room in
    let j = where_free t σ in
    let low : j < 8 = unfold where_free in (omega (arith, first_at-found is_free (slots_at t σ) room, S.eight)) in
    let b = chunk j σ.mem in
    let e = step-new k σ t p K w m in
    let f : open_at σ t p j ≡ land σ t j 1 (place (opened k t) b p) = unfold open_at in (ap (λ (z : Key). land σ t j 1 (place (opened z t) b p)) K.key) in
    let lb : length (place (opened k t) b p).bytes ≡ 2048 = place-length (opened k t) b p ∙ chunk-len σ j G low in (
      j,
      b,
      chunk-len σ j G low,
      record {
        reply = rw (e, f) (land-reply σ t j 1 (place (opened k t) b p));
        holding = λ q. rw (e, f) (land-own k σ j t 1 (place (opened k t) b p) G low lb q);
      },
    )

-- ---- the clock

pub at_after : (c : Call) (n t : ℕ) → At c t → after n c ≡ t
at_after short n t e = absurd e
at_after (other u a) n t e = e
at_after (from u g a) n t e = e
at_after (part u p) n t e = e

pub did-last : {c : Call} (σ : State) {r : Result} → Did σ c r → σ.table.last ≤ after σ.table.last c
    → r.state.table.last ≡ after σ.table.last c
unfolding untouched offer_at open_at pass land with_slots
did-last σ lacking h = refl
did-last {c} σ (stale t l w) h = absurd (omega (arith, at_after c σ.table.last t w))
did-last {c} σ (passed t a l w v) h = sym (at_after c σ.table.last t w)
did-last σ (offered t p i O) h = refl
did-last σ (opens t p j O) h = refl

-- ---- what comes

pub comes-one : (k : Key) (c : Call) → (comes k c ≡ []) ⊎ ((p : Part) × (comes k c ≡ p ∷ []))
unfolding comes
comes-one k short = inl refl
comes-one k (other t a) = inl refl
comes-one k (from t g a) = inl refl
comes-one k (part t p) = by-test (same_key p.key k && fits p)
    (λ e. inr (p, rw e))
    (λ e. inl (rw e))

pub record Brought (k : Key) (c : Call) (q : Part) : Type 0 where
  pub time : ℕ
  pub call : c ≡ part time q
  pub key : q.key ≡ k
  pub fit : fits q ≡ true

pub comes-brought : (k : Key) (c : Call) (q : Part) → comes k c ≡ q ∷ [] → Brought k c q
unfolding comes
comes-brought k short q e = let z : ◌≡◌ {A = ℕ} 0 1 = cc in absurd (omega arith)
comes-brought k (other t a) q e = let z : ◌≡◌ {A = ℕ} 0 1 = cc in absurd (omega arith)
comes-brought k (from t g a) q e = let z : ◌≡◌ {A = ℕ} 0 1 = cc in absurd (omega arith)
comes-brought k (part t p) q e = by-test (same_key p.key k && fits p)
    (λ x.
    let y : (p ∷ []) ≡ (q ∷ []) = rw x at e in
    let z : p ≡ q = cc in
    let w : (same_key q.key k && fits q) ≡ true = rw z at x in
    record {
      time = t;
      call = ap (part t) z;
      key = same_key-eq q.key k (and_left (same_key q.key k) (fits q) w);
      fit = and_right (same_key q.key k) (fits q) w;
    })
    (λ x.
    let y : [] ≡ (q ∷ []) = rw x at e in
    let z : ◌≡◌ {A = ℕ} 0 1 = cc in
    absurd (omega arith))

-- a part of a key that passes check 10 comes
pub comes-part : (k : Key) (t : ℕ) (q : Part) → q.key ≡ k → fits q ≡ true → comes k (part t q) ≡ q ∷ []
unfolding comes
comes-part k t q e f = let g : same_key q.key k ≡ true = rw e (same_key-refl k) in rw (g, f)

-- ---- a fresh table

load-none : (gs : List Source) (l : List Slot) → ((g : Source) → held g l ≡ 0) → load gs l ≡ length gs
unfolding load
load-none [] l f = refl
load-none (g ∷ gs) l f = let r = load-none gs l f in let z = f g in omega arith

those-append : (gs hs : List Source) → those present (gs ++ hs) ≡ those present gs ++ those present hs
unfolding those
those-append [] hs = refl
those-append (g ∷ gs) hs = by-test (present g) (λ e. rw (e, those-append gs hs)) (λ e. rw (e, those-append gs hs))

those-empty : (n : ℕ) → those present (replicate n no_source) ≡ []
unfolding those present no_source addressed no_node
those-empty zero = refl
those-empty (suc n) = those-empty n

pub gates-fresh : (gs : List Source) → Gateways gs → gates_of (fresh gs) ≡ gs
unfolding gates_of fresh seats
gates-fresh gs W = those-append gs (replicate (4 - length gs) no_source) ∙ rw (those-empty (4 - length gs), W.seated) (append-nil gs)

pub fresh-good : (gs : List Source) (m : List ℕ) → Gateways gs → 16384 ≤ length m → Good (begun gs m)
fresh-good gs m W h = record { sound = rw (gates-fresh gs W) sound'; room = h }
  where
    none : (g : Source) → held g (replicate 8 free_slot) ≡ 0
    none g = unfold held in (count-replicate (is_of g) free_slot 8 (free_slot-of g))

    sound' : Sound gs (fresh gs).slots
    sound' = unfold fresh in record {
      eight = length-replicate 8 free_slot;
      unique = λ k. omega (arith, count-replicate (is_key k) free_slot 8 (free_slot-key k));
      cap = λ g. omega (arith, none g);
      owned = count-replicate (stray gs) free_slot 8 (free_slot-stray gs);
      reserve = omega (arith, load-none gs (replicate 8 free_slot) none, W.four);
      distinct = W.distinct;
    }

pub fresh-free : (gs : List Source) → free (fresh gs).slots ≡ 8
unfolding fresh free is_free free_slot count
fresh-free gs = refl

-- ---- runs

pub run-good : (cs : List Call) (σ : State) → Good σ → Good (run σ cs)
unfolding run next
run-good [] σ G = G
run-good (c ∷ cs) σ G = run-good cs (next σ c) (did-good σ G (step-did σ c G))

pub run-count : (cs : List Call) (σ : State) → Good σ → free (run σ cs).table.slots + opens_in σ cs ≡ free σ.table.slots + ends_in σ cs
unfolding run next opens_in ends_in
run-count [] σ G = refl
run-count (c ∷ cs) σ G = omega (arith, did-count σ G (step-did σ c G), run-count cs (next σ c) (did-good σ G (step-did σ c G)))

pub run-gates : (cs : List Call) (σ : State) → Good σ → gates_of (run σ cs).table ≡ gates_of σ.table
unfolding run next
run-gates [] σ G = refl
run-gates (c ∷ cs) σ G = run-gates cs (next σ c) (did-good σ G (step-did σ c G)) ∙ did-gates σ (step-did σ c G)

pub run_length : (cs : List Call) (σ : State) → Good σ → length (run σ cs).mem ≡ length σ.mem
unfolding run next
run_length [] σ G = refl
run_length (c ∷ cs) σ G = run_length cs (next σ c) (did-good σ G (step-did σ c G)) ∙ did-length σ (step-did σ c G)
