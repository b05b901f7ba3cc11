-- The steps of a call, one after the other, are the slot table's `step`.
use Rattle.octets.specs.Answers.{of_answer}
use Rattle.std.specs.Prelude.{Err, Option, Some, None, unwrap_or}
use Rattle.std.specs.Prelude as Prelude
use Prim.Native.Nat.{ℕ, suc, ◌≤◌, ◌<◌}
use native.Mathlib.Omega.{arith}
use native.Mathlib.Nat.{le_of_suc-le-suc}
use mathlib.Core.Path.{◌≡◌, refl, sym, ap, ◌∙◌}
use mathlib.Core.Bool.{Bool, true, false, ◌||◌}
use mathlib.Core.List.{List}
use lib.ListN.{length, get_or, set}
use lib.Seq.{set-get_or}
use lib.Dec.{eqb, ltb}
use borrow.Author.Tests.{ltb-true, ltb-false, eqb-true, eqb-false, eq-eqb, ne_eqb}
use Rattle.octets.specs.Read.{Answer, is, choose}
use Rattle.octets.specs.Read as Read
use Rattle.octets.proofs.Spans.{not-refused}
use Rattle.reassembly.specs.Lists.{those}
use Rattle.octets.specs.declared.refusal.Refusal.{Refusal}
use Rattle.reassembly.specs.Slots.{owner, present, is_key, is_free, may_open, opening, free_slot, expire, gates_of, is_gate}
use Rattle.reassembly.specs.Parts.{Part, Reply, refused, told, Answered, of_outcome, output_after, fits, Put, Hands}
use Rattle.reassembly.specs.Table.{State, Result, other, part, splice, with_slots, stays, take_at, step, lent_call, Lands, Gives}
use Rattle.words.specs.Words.{with_slot, found}
use Rattle.words.proofs.Numbers.{slots-eight}
use Rattle.reassembly.specs.declared.part.InSlot.{InSlot}
use Rattle.reassembly.specs.declared.slot.Slot.{Slot}
use Rattle.reassembly.specs.declared.slot.Key.{Key}
use Rattle.incoming.specs.declared.arrival.Arrival.{Arrival}
use Rattle.reassembly.specs.declared.table.Table.{Table}
use Rattle.reassembly.proofs.Tests.{by-test, by_order, not-true-false}
use Rattle.reassembly.proofs.Lists.{first_at-holds, first_at-found, first_at-most, count_at}
use Rattle.reassembly.proofs.Answers.{enough-output, aged-is, aged-whole, gates-of, gates-same, Leaves, leaves-7, leaves-8, leaves-other, from-gate, lent_same, leaves-10, leaves-offer, leaves-open, leaves-12}
use Rattle.reassembly.proofs.AtSlot.{take_own, take-other, take-bad, take_none}
use Rattle.reassembly.proofs.Unwritten.{splice-back}
use Rattle.receiver.specs.Receive.{frame_call}
use Rattle.receiver.specs.Steps.{judged, TurnedAway, Admits, GateSays, GateBrings, Timed, called, ReceivesIn, open_slot, new_slot, slot_for, TakesIn}
use Rattle.receiver.proofs.Names.{call-of, frame_at}
use Rattle.receiver.proofs.Steps.{turned-away}

abbrev state : Table → List ℕ → State
state tb m = record { table = tb; mem = m }

-- the table x with the last time t
abbrev pub with_time : Table → ℕ → Table
with_time x t = record { slots = x.slots; last = t; gateways = x.gateways }

-- ---- the time
same_number : (n k : ℕ) → ◌≡◌ {A = Answer (Unit {0})} (Read.refused n) (Read.refused k) → n ≡ k
same_number n k e = cc

module _ (tb : Table) (t : ℕ) (s ctx m o : List ℕ) where
  -- 7 and 8
  pub not_taken : (n : ℕ) → Read.refused n ≡ judged tb.last t (length m) (length o) → Leaves (called tb t s ctx m o) (refused n) tb m
  unfolding judged
  not_taken n e = by-test (ltb (length m) 16384 || ltb (length o) 2047)
      (λ a.
      let q : n ≡ 7 = same_number n 7 (rw a at e) in
      rw (q, ← call-of m o ctx t s) (leaves-7 tb m o t (frame_call ctx t s) a))
      (λ a. by-test (ltb t tb.last)
      (λ b.
      let q : n ≡ 8 = same_number n 8 (rw (a, b) at e) in
      rw (q, ← call-of m o ctx t s) (leaves-8 tb m o t (frame_call ctx t s) a (frame_at ctx t s) (ltb-true t tb.last b)))
      (λ b. not-refused tt n (rw (a, b) at e)))

module _ (tb : Table) (t : ℕ) (m o : List ℕ) (e : is tt ≡ judged tb.last t (length m) (length o)) where
  -- neither 7 nor 8
  taken_in : ((ltb (length m) 16384 || ltb (length o) 2047) ≡ false) × (tb.last ≤ t)
  unfolding judged
  taken_in = by-test (ltb (length m) 16384 || ltb (length o) 2047)
      (λ a. not-refused tt 7 (sym (rw a at e)))
      (λ a. by-test (ltb t tb.last)
      (λ b. not-refused tt 8 (sym (rw (a, b) at e)))
      (λ b. (a, ltb-false t tb.last b)))

  pub room_for : 2047 ≤ length o
  room_for = enough-output m o taken_in.0

  -- old slots are freed, and the time is taken
  pub timed : length tb.slots ≡ 8 → (y : Table) → y ≡ with_slots tb t (expire t tb.slots) → Timed tb y t m o
  unfolding with_slots
  timed n y q = rw q record { aged = aged-whole tb _ t n refl; last = refl; enough = taken_in.0; late = taken_in.1 }

-- ---- the slot
slot_is : (x : Table) (k : Key) (z : Bool) → eqb (open_slot x k) 8 ≡ z → choose z (new_slot x k) (open_slot x k) ≡ slot_for x k
unfolding slot_for
slot_is x k z q = sym (ap (λ y. choose y (new_slot x k) (open_slot x k)) q)

found-some : (n i : ℕ) → found n ≡ Some i → (n ≡ i) × (n < 8)
unfolding found
found-some n i e = by-test (ltb n 8)
    (λ y. let q : Some n ≡ Some i = rw y at e in (cc, ltb-true n 8 y))
    (λ y. let q : None ≡ Some i = rw y at e in cc)

found-none : (n : ℕ) → found n ≡ None → 8 ≤ n
unfolding found
found-none n e = by-test (ltb n 8)
    (λ y. let q : Some n ≡ None = rw y at e in cc)
    (λ y. ltb-false n 8 y)

-- of a number that is 8 at most
found-or : (n : ℕ) → n ≤ 8 → unwrap_or (found n) 8 ≡ n
unfolding found
found-or n h = by-test (ltb n 8) (λ y. rw y refl) (λ y. let k : 8 ≤ n = ltb-false n 8 y in let e : 8 ≡ n = omega arith in rw y e)

new-most : (x : Table) (k : Key) → length x.slots ≡ 8 → new_slot x k ≤ 8
unfolding opening
new-most x k e = by-test (may_open (owner k) (gates_of x) x.slots)
    (λ y. rw y (omega (arith, e, first_at-most is_free x.slots)))
    (λ y. rw y (omega arith))

-- r is what is found under the key k, and s what k may open
module _ (x : Table) (k : Key) (eight : length x.slots ≡ 8) (r : Option ℕ) (f : r ≡ found (open_slot x k)) where
  pub by_key : (i : ℕ) → r ≡ Some i → i ≡ slot_for x k
  by_key i g =
      let a = found-some (open_slot x k) i (sym f ∙ g) in
      sym a.0 ∙ slot_is x k false (ne_eqb (open_slot x k) 8 (λ z. absurd (omega (arith, z, a.1))))

  pub by-opening : r ≡ None → (s : Option ℕ) → s ≡ found (new_slot x k) → unwrap_or s 8 ≡ slot_for x k
  by-opening g s h =
      let a = found-none (open_slot x k) (sym f ∙ g) in
      ap (λ z. unwrap_or z 8) h ∙ found-or (new_slot x k) (new-most x k eight)
      ∙ slot_is x k true (eq-eqb (open_slot x k) 8 (omega (arith, a, eight, first_at-most (is_key k) x.slots)))

pub ruleset slot_told = (by_key, by-opening, slots-eight)

-- ---- the frame s, to the table x, which was tb and has taken the time t
module _ (tb x : Table) (t : ℕ) (s ctx m o : List ℕ) (T : Timed tb x t m o) where
  -- x as the laws of a call write it
  timed-table : x ≡ with_time x t
  timed-table = rw (← T.last)

  -- and its gateways are those of tb
  gates-are : gates_of x ≡ gates_of tb
  gates-are = gates-of x ∙ gates-same tb x t T.aged

  -- it is a gateway's, and brings the part p
  module _ (p : Part) (F : GateBrings (gates_of x) ctx t s p) where
    as-part : (a : Reply (List ℕ)) (x' : Table) (m' : List ℕ) → Leaves (step (state tb m) (lent_call m o (part t p))) a x' m' → Leaves (called tb t s ctx m o) a x' m'
    as-part a x' m' L = rw (← call-of m o ctx t s, F.1) L

    known : is_gate (owner p.key) (those present x.gateways) ≡ true
    known = rw (gates-of x) at F.0

    module _ (i : ℕ) (e : i ≡ slot_for x p.key) where
      abbrev was : Slot
      was = get_or x.slots i free_slot

      opened-at : eqb (open_slot x p.key) 8 ≡ true → new_slot x p.key ≡ i
      opened-at h = slot_is x p.key true h ∙ sym e

      found_at : eqb (open_slot x p.key) 8 ≡ false → open_slot x p.key ≡ i
      found_at h = slot_is x p.key false h ∙ sym e

      -- what the call comes to, and what the slot does
      abbrev Ends : Put → Type 0
      Ends q = Leaves (step (state tb m) (lent_call m o (part t p))) q.reply (record { slots = set x.slots i q.slot; last = t; gateways = x.gateways }) (splice m i q.bytes)

      -- refused, the slot as it was
      ends-stays : (n : ℕ) → Leaves (step (state tb m) (lent_call m o (part t p))) (refused n) (record { slots = x.slots; last = t; gateways = x.gateways }) m → Ends (stays was i m n)
      unfolding stays
      ends-stays n L = rw (set-get_or x.slots i free_slot, splice-back m i) L

      module _ (good : fits p ≡ true) where
        ends-slot : i < 8 → Ends (take_at was i t p m o)
        ends-slot h =
            let G = T.aged in
            let q = take_at was i t p m o in
            by-test (eqb (open_slot x p.key) 8)
            (λ y.
            let none : 8 ≤ open_slot x p.key = omega (arith, eqb-true (open_slot x p.key) 8 y) in
            let free : is_key p.key was ≡ false = not-true-false (is_key p.key was) (λ k. absurd (omega (arith, none, G.eight, first_at-found (is_key p.key) x.slots (count_at (is_key p.key) x.slots i free_slot (omega (arith, h, G.eight)) k)))) in
            leaves-open tb m o t p T.enough T.late x G known good (open_slot x p.key) refl none i (rw (gates-of x) at (opened-at y)) h q (take-other was i t p m o T.enough good h free))
            (λ y.
            let f = found_at y in
            let k : is_key p.key was ≡ true = rw f at (first_at-holds (is_key p.key) x.slots free_slot (omega (arith, h, f, G.eight))) in
            leaves-offer tb m o t p T.enough T.late x G known good i f h free_slot q (take_own was i t p m o T.enough good h k))

        ends-none : 8 ≤ i → Ends (take_at was i t p m o)
        ends-none h =
            let G = T.aged in
            rw (take_none was i t p m o T.enough good h) (ends-stays 12 (by-test (eqb (open_slot x p.key) 8)
            (λ y.
            let none : 8 ≤ open_slot x p.key = omega (arith, eqb-true (open_slot x p.key) 8 y) in
            leaves-12 tb m o t p T.enough T.late x G known good (open_slot x p.key) refl none i (rw (gates-of x) at (opened-at y)) h)
            (λ y. absurd (eqb-false (open_slot x p.key) 8 y (omega (arith, h, found_at y, G.eight, first_at-most (is_key p.key) x.slots))))))

      ends-bad : fits p ≡ false → Ends (take_at was i t p m o)
      ends-bad bad = rw (take-bad was i t p m o T.enough bad) (ends-stays 10 (leaves-10 tb m o t p T.enough T.late x T.aged known bad))

      pub leaves-part : let q = take_at was i t p m o in Leaves (called tb t s ctx m o) q.reply (with_slot x i q.slot) (splice m i q.bytes)
      unfolding with_slot
      leaves-part =
          let L : Ends (take_at was i t p m o) = by-test (fits p) (λ good. by_order (suc i) 8 (λ h. ends-slot good h) (λ h. ends-none good (le_of_suc-le-suc h))) (λ bad. ends-bad bad) in
          rw T.last (as-part _ _ _ L)

  -- it is to the table what is answered so whoever sends it
  leaves-as : (a : Reply (List ℕ)) → step (state tb m) (frame_call ctx t s) ≡ step (state tb m) (other t a) → Leaves (called tb t s ctx m o) a x m
  leaves-as a q =
      rw (← call-of m o ctx t s, lent_same (state tb m) m o _ _ q) (leaves-other tb m o t T.enough T.late x (timed-table ∙ aged-is tb x t T.aged) a)

  -- it is a gateway's, and brings no part
  pub leaves-answer : (a : Reply (List ℕ)) → GateSays (gates_of x) ctx t s a → Leaves (called tb t s ctx m o) a x m
  leaves-answer a (g, k, F) = leaves-as a (rw F (from-gate (state tb m) t g a (rw gates-are at k)))

  -- it is not let in
  pub leaves-refused : (n : ℕ) → TurnedAway (gates_of x) s n → Leaves (called tb t s ctx m o) (refused n) x m
  leaves-refused n w = leaves-as (refused n) (turned-away (state tb m) ctx t s (rw gates-are at w))

-- ---- what a call leaves, as an answer
pub gives_of : (q : Result) (a : Reply (List ℕ)) (x : Table) (m o o' : List ℕ) → Leaves q a x m → (r : Answered) → of_outcome r ≡ told a → o' ≡ output_after a o → Gives (record { answer = r; table = x }) m o o' q
gives_of q a x m o o' L r e f = record {
  answer = e ∙ ap told (sym L.reply);
  table = L.table;
  memory = L.memory;
  output = f ∙ ap (λ z. output_after z o) (sym L.reply);
}

pub gives-slot : (q : Result) (p : Put) (x : Table) (i : ℕ) (m o : List ℕ) → Leaves q p.reply (with_slot x i p.slot) (splice m i p.bytes) → (r : InSlot) (m' o' : List ℕ) → Lands r i m m' o o' p
    → Gives (record { answer = r.outcome; table = with_slot x i r.slot }) m' o o' q
gives-slot q p x i m o L r m' o' D = rw (D.slot, D.memory) (gives_of q p.reply _ _ o o' L r.outcome D.answer D.output)

-- ---- the part p, taken at slot i, whose record is z; the frame s, answered at once
pub takes : (x : Table) (t : ℕ) (p : Part) (i : ℕ) → i ≡ slot_for x p.key → (m o : List ℕ) (z : Slot) → z ≡ get_or x.slots i free_slot → (r : InSlot) (m' o' : List ℕ) → Lands r i m m' o o' (take_at z i t p m o)
    → (y : Table) → y ≡ with_slot x i r.slot → TakesIn x t p r.outcome y m m' o o'
takes x t p i e m o z a r m' o' D y b s ctx F tb T = rw b (gives-slot _ _ x i m o (leaves-part tb x t s ctx m o T p F i e) r m' o' (rw a at D))

pub answers : (x : Table) (t : ℕ) (s ctx m o : List ℕ) (a : Reply (List ℕ)) → GateSays (gates_of x) ctx t s a → (r : Answered) (o' : List ℕ) → Hands r o o' a → ReceivesIn x t s ctx r x m m o o'
answers x t s ctx m o a F r o' A tb T = gives_of _ a x m o o' (leaves-answer tb x t s ctx m o T a F) r A.answer A.output

pub refuses : (x : Table) (t : ℕ) (s ctx m o : List ℕ) (y : Prelude.Result Arrival Refusal) → Admits (gates_of x) s (of_answer y) → (e : Refusal) → y ≡ Err e → ReceivesIn x t s ctx (Err e) x m m o o
refuses x t s ctx m o y p e q tb T = gives_of _ _ x m o o (leaves-refused tb x t s ctx m o T _ (rw q at p)) (Err e) refl refl
