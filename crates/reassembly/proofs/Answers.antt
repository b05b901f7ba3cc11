-- What a call is answered, answer by answer: over any table whose slots are the aged ones.
use Prim.Native.Nat.{ℕ, zero, suc, ◌+◌, ◌*◌, ◌≤◌, ◌<◌}
use native.Mathlib.Nat.{not-suc-le-zero, le_of_suc-le-suc}
use native.Mathlib.Numerals.{add-one}
use native.Mathlib.Omega.{arith}
use mathlib.Core.Path.{◌≡◌, refl, sym, ap, ◌∙◌}
use mathlib.Core.Bool.{Bool, true, false, ◌||◌, true≢false}
use mathlib.Core.List.{List, [], ◌∷◌}
use lib.ListN.{length, get_or, set}
use lib.Seq.{set-get_or}
use lib.Dec.{ltb, leb}
use borrow.Author.Tests.{ltb-false, lt-ltb, le-ltb, leb-true}
use Rattle.reassembly.specs.Lists.{count, first_at, those}
use Rattle.reassembly.specs.Slots.{present, owner, free_slot, opened, is_free, is_key, expired, expire1, expire, gates_of, is_gate, free, may_open, opening}
use Rattle.reassembly.specs.Parts.{Part, Reply, refused, fits_in, fits, Put, place, offer, Placeable}
use Rattle.reassembly.specs.Table.{Call, State, Result, other, from, part, short, chunk, splice, with_slots, untouched, slots_at, pass, land, where_key, where_free, offer_at, open_at, from_gate, take_part, step, lent_call, At, Aged}
use Rattle.reassembly.specs.declared.slot.Key.{Key}
use Rattle.reassembly.specs.declared.slot.Slot.{Slot}
use Rattle.reassembly.specs.declared.slot.Source.{Source}
use Rattle.reassembly.specs.declared.table.Table.{Table}
use Rattle.reassembly.proofs.Tests.{by-test, and_left, and_right}
use Rattle.reassembly.proofs.Lists.{get_or-any, first_at-holds, first_at-found}
use Rattle.reassembly.proofs.Gateways.{is_key-key, length-expire, expire1-young, may_open-rule}
use Rattle.reassembly.proofs.Memory.{length-chunk}

-- ---- the loop that frees in place

-- the first i slots aged, the others as they are
unfoldable pub aged_to : ℕ → ℕ → List Slot → List Slot
aged_to t zero l = l
aged_to t (suc i) [] = []
aged_to t (suc i) (s ∷ l) = expire1 t s ∷ aged_to t i l

pub aged-none : (t : ℕ) (l : List Slot) → l ≡ aged_to t 0 l
unfolding aged_to
aged-none t l = refl

length-aged : (t i : ℕ) (l : List Slot) → length (aged_to t i l) ≡ length l
unfolding aged_to
length-aged t zero l = refl
length-aged t (suc i) [] = refl
length-aged t (suc i) (s ∷ l) = ap suc (length-aged t i l)

aged-all : (t n : ℕ) (l : List Slot) → length l ≤ n → aged_to t n l ≡ expire t l
unfolding aged_to expire
aged-all t zero [] h = refl
aged-all t zero (s ∷ l) h = absurd (not-suc-le-zero h)
aged-all t (suc n) [] h = refl
aged-all t (suc n) (s ∷ l) h = ap (λ z. expire1 t s ∷ z) (aged-all t n l (le_of_suc-le-suc h))

aged-more : (t i : ℕ) (l : List Slot) (d : Slot) → i < length l → set (aged_to t i l) i (expire1 t (get_or (aged_to t i l) i d)) ≡ aged_to t (suc i) l
unfolding aged_to
aged-more t zero [] d h = absurd (not-suc-le-zero h)
aged-more t zero (s ∷ l) d h = refl
aged-more t (suc i) [] d h = refl
aged-more t (suc i) (s ∷ l) d h = ap (λ z. expire1 t s ∷ z) (aged-more t i l d (le_of_suc-le-suc h))

-- where none is old, nothing is freed
none_old : (t : ℕ) (l : List Slot) → count (expired t) l ≡ 0 → expire t l ≡ l
unfolding count expire
none_old t [] e = refl
none_old t (s ∷ l) e = by-test (expired t s)
    (λ h. let z : 1 + count (expired t) l ≡ 0 = rw h at e in absurd (omega arith))
    (λ h.
    let z : 0 + count (expired t) l ≡ 0 = rw h at e in
    rw (expire1-young t s h, none_old t l (omega arith)))

-- a turn of the loop: the slot is freed, or stays
module _ (t : ℕ) (l l' : List Slot) (i : ℕ) (d : Slot) (e : l' ≡ aged_to t i l) (h : i < length l) where
  pub aged-turn : (f : Slot) → f ≡ free_slot → expired t (get_or l' i d) ≡ true → set l' i f ≡ aged_to t (i + 1) l
  unfolding expire1
  aged-turn f q p =
      let z : expire1 t (get_or l' i d) ≡ f = rw (p, q) in
      rw (add-one, ← aged-more t i l d h, ← e, z)

  pub aged-stay : expired t (get_or l' i d) ≡ false → l' ≡ aged_to t (i + 1) l
  unfolding expire1
  aged-stay p =
      let z : expire1 t (get_or l' i d) ≡ get_or l' i d = rw p in
      rw (add-one, ← aged-more t i l d h, ← e, z) (sym (set-get_or l' i d))

pub aged-of : (tb x : Table) (t i : ℕ) → length tb.slots ≡ 8 → 8 ≤ i → x.slots ≡ aged_to t i tb.slots → x.gateways ≡ tb.gateways → Aged tb x t
aged-of tb x t i n h e g = record {
  slots = e ∙ aged-all t i tb.slots (omega arith);
  gates = g;
  eight = ap length e ∙ length-aged t i tb.slots ∙ n;
}

-- as it leaves a table that is aged whole, and one that has no old slot
pub aged-whole : (tb x : Table) (t : ℕ) → length tb.slots ≡ 8 → x ≡ with_slots tb t (expire t tb.slots) → Aged tb x t
unfolding with_slots
aged-whole tb x t n e = record { slots = ap (λ z. z.slots) e; gates = ap (λ z. z.gateways) e; eight = ap (λ z. length z.slots) e ∙ length-expire t tb.slots ∙ n }

pub aged-young : (tb : Table) (t : ℕ) → length tb.slots ≡ 8 → count (expired t) tb.slots ≡ 0 → Aged tb tb t
aged-young tb t n e = record { slots = sym (none_old t tb.slots e); gates = refl; eight = n }

pub gates-of : (x : Table) → gates_of x ≡ those present x.gateways
unfolding gates_of
gates-of x = refl

pub gates-same : (tb x : Table) (t : ℕ) → Aged tb x t → those present x.gateways ≡ gates_of tb
unfolding gates_of
gates-same tb x t G = rw G.gates

-- what a call comes to: its reply, and the table and the lent memory after it
pub record Leaves (q : Result) (a : Reply (List ℕ)) (x : Table) (m : List ℕ) : Type 0 where
  pub reply : q.reply ≡ a
  pub table : x ≡ q.state.table
  pub memory : m ≡ q.state.mem

pub aged-is : (tb x : Table) (t : ℕ) → Aged tb x t → record { slots = x.slots; last = t; gateways = x.gateways } ≡ with_slots tb t (expire t tb.slots)
unfolding with_slots
aged-is tb x t G = rw (G.slots, G.gates)

-- ---- what refusal 10 rules out

or_no : (a b : Bool) → (a || b) ≡ false → (a ≡ false) × (b ≡ false)
or_no true b e = absurd (true≢false e)
or_no false b e = (refl, e)

pub enough-memory : (m o : List ℕ) → (ltb (length m) 16384 || ltb (length o) 2047) ≡ false → 16384 ≤ length m
enough-memory m o s = ltb-false (length m) 16384 (or_no (ltb (length m) 16384) (ltb (length o) 2047) s).0

pub enough-output : (m o : List ℕ) → (ltb (length m) 16384 || ltb (length o) 2047) ≡ false → 2047 ≤ length o
enough-output m o s = ltb-false (length o) 2047 (or_no (ltb (length m) 16384) (ltb (length o) 2047) s).1

pub ready : (k : Key) (u : ℕ) (bs m o : List ℕ) (i : ℕ) → fits_in k.size u (length bs) ≡ true → (ltb (length m) 16384 || ltb (length o) 2047) ≡ false → i < 8
    → Placeable k.size u bs (chunk i m) o
unfolding fits_in
ready k u bs m o i f s h =
    let e1 = and_right (leb 40 k.size) _ f in
    let e2 = and_right (leb k.size 2047) _ e1 in
    let e3 = and_right (leb 1 (length bs)) _ e2 in
    let a = enough-memory m o s in
    record {
      some = leb-true 1 (length bs) (and_left (leb 1 (length bs)) _ e2);
      ends = leb-true (u * 8 + length bs) k.size (and_left (leb (u * 8 + length bs) k.size) _ e3);
      small = leb-true k.size 2047 (and_left (leb k.size 2047) _ e1);
      room = length-chunk i m (omega arith);
      output = enough-output m o s;
    }

-- the slot that a key is found in is open under that key
pub found : (l : List Slot) (k : Key) (f : ℕ) (d : Slot) → length l ≡ 8 → first_at (is_key k) l ≡ f → f < 8 → (get_or l f d).key ≡ k
found l k f d n e h = is_key-key k (get_or l f d) (rw e at (first_at-holds (is_key k) l d (omega arith)))

-- ---- the answers

abbrev state : Table → List ℕ → State
state tb m = record { table = tb; mem = m }

earlier : (tb : Table) (m : List ℕ) (t : ℕ) (c : Call) → At c t → t < tb.last → step (state tb m) c ≡ untouched (state tb m) 8
unfolding step
earlier tb m t short e h = absurd e
earlier tb m t (other u a) e h = rw (e, lt-ltb t tb.last h)
earlier tb m t (from u g a) e h = rw (e, lt-ltb t tb.last h)
earlier tb m t (part u p) e h = rw (e, lt-ltb t tb.last h)

-- whatever comes, 7 and 8 go first
module _ (tb : Table) (m o : List ℕ) (t : ℕ) (c : Call) where
  pub leaves-7 : (ltb (length m) 16384 || ltb (length o) 2047) ≡ true → Leaves (step (state tb m) (lent_call m o c)) (refused 7) tb m
  unfolding step lent_call untouched
  leaves-7 e = rw e record { reply = refl; table = refl; memory = refl }

  pub leaves-8 : (ltb (length m) 16384 || ltb (length o) 2047) ≡ false → At c t → t < tb.last → Leaves (step (state tb m) (lent_call m o c)) (refused 8) tb m
  unfolding lent_call untouched
  leaves-8 enough a h = rw (enough, earlier tb m t c a h) record { reply = refl; table = refl; memory = refl }

-- a call that brings no part: the time is taken, old slots are freed, and it is answered
module _ (tb : Table) (m o : List ℕ) (t : ℕ) (enough : (ltb (length m) 16384 || ltb (length o) 2047) ≡ false) (late : tb.last ≤ t) (x : Table) (e : x ≡ with_slots tb t (expire t tb.slots)) where
  pub leaves-other : (a : Reply (List ℕ)) → Leaves (step (state tb m) (lent_call m o (other t a))) a x m
  unfolding step lent_call pass slots_at
  leaves-other a = rw (enough, le-ltb t tb.last late) record { reply = refl; table = e; memory = refl }

-- what a gateway sends is answered as if nobody asked who sends it
pub from-gate : (σ : State) (t : ℕ) (g : Source) (a : Reply (List ℕ)) → is_gate g (gates_of σ.table) ≡ true → step σ (from t g a) ≡ step σ (other t a)
unfolding step from_gate
from-gate σ t g a k = rw k refl

-- what is the same to the table is so with what is lent
pub lent_same : (σ : State) (m o : List ℕ) (c d : Call) → step σ c ≡ step σ d → step σ (lent_call m o c) ≡ step σ (lent_call m o d)
unfolding lent_call
lent_same σ m o c d q = by-test (ltb (length m) 16384 || ltb (length o) 2047) (λ e. rw e refl) (λ e. rw e q)

-- a part
module _ (tb : Table) (m o : List ℕ) (t : ℕ) (p : Part) where
  module _ (enough : (ltb (length m) 16384 || ltb (length o) 2047) ≡ false) where
    module _ (late : tb.last ≤ t) (x : Table) (G : Aged tb x t) where
      timed : step (state tb m) (lent_call m o (part t p)) ≡ take_part (state tb m) t p
      unfolding step lent_call
      timed = rw (enough, le-ltb t tb.last late)

      slots-are : slots_at t (state tb m) ≡ x.slots
      unfolding slots_at
      slots-are = sym G.slots

      table_is : record { slots = x.slots; last = t; gateways = x.gateways } ≡ with_slots tb t (slots_at t (state tb m))
      unfolding with_slots
      table_is = rw (slots-are, G.gates)

      gates-are : is_gate (owner p.key) (those present x.gateways) ≡ is_gate (owner p.key) (gates_of tb)
      unfolding gates_of
      gates-are = rw G.gates

      -- what is left of x: as it is, or with another slot
      table-with : (i : ℕ) (s : Slot) → record { slots = set x.slots i s; last = t; gateways = x.gateways } ≡ with_slots tb t (set (slots_at t (state tb m)) i s)
      unfolding with_slots
      table-with i s = rw (slots-are, G.gates)

      leaves-pass : (n : ℕ) → step (state tb m) (lent_call m o (part t p)) ≡ pass (state tb m) t (refused n)
          → Leaves (step (state tb m) (lent_call m o (part t p))) (refused n) (record { slots = x.slots; last = t; gateways = x.gateways }) m
      unfolding pass
      leaves-pass n e = rw e record { reply = refl; table = table_is; memory = refl }

      leaves-land : (i n : ℕ) (q : Put) → step (state tb m) (lent_call m o (part t p)) ≡ land (state tb m) t i n q
          → Leaves (step (state tb m) (lent_call m o (part t p))) q.reply (record { slots = set x.slots i q.slot; last = t; gateways = x.gateways }) (splice m i q.bytes)
      unfolding land
      leaves-land i n q e = rw e record { reply = refl; table = table-with i q.slot; memory = refl }

      module _ (known : is_gate (owner p.key) (those present x.gateways) ≡ true) where
        step-10 : fits p ≡ false → step (state tb m) (lent_call m o (part t p)) ≡ pass (state tb m) t (refused 10)
        unfolding take_part
        step-10 h = timed ∙ rw (sym gates-are ∙ known, h)

        pub leaves-10 : fits p ≡ false → Leaves (step (state tb m) (lent_call m o (part t p))) (refused 10) (record { slots = x.slots; last = t; gateways = x.gateways }) m
        leaves-10 h = leaves-pass 10 (step-10 h)

        module _ (good : fits p ≡ true) (f : ℕ) (at : first_at (is_key p.key) x.slots ≡ f) where
          where-is : where_key p.key t (state tb m) ≡ f
          unfolding where_key
          where-is = rw slots-are at

          step-offer : f < 8 → (d : Slot) → step (state tb m) (lent_call m o (part t p)) ≡ land (state tb m) t f 0 (offer (get_or x.slots f d) (chunk f m) p)
          unfolding take_part offer_at
          step-offer h d =
              let s : get_or (slots_at t (state tb m)) f free_slot ≡ get_or x.slots f d = rw slots-are (get_or-any x.slots f free_slot d (omega (arith, G.eight))) in
              timed ∙ rw (sym gates-are ∙ known, good, where-is, lt-ltb f 8 h, s)

          pub leaves-offer : f < 8 → (d : Slot) (q : Put) → q ≡ offer (get_or x.slots f d) (chunk f m) p
              → Leaves (step (state tb m) (lent_call m o (part t p))) q.reply (record { slots = set x.slots f q.slot; last = t; gateways = x.gateways }) (splice m f q.bytes)
          leaves-offer h d q e = leaves-land f 0 q (step-offer h d ∙ ap (land (state tb m) t f 0) (sym e))

          module _ (none : 8 ≤ f) (low : ℕ) (opens : opening (owner p.key) (those present x.gateways) x.slots ≡ low) where
            step-open : low < 8 → step (state tb m) (lent_call m o (part t p)) ≡ land (state tb m) t low 1 (place (opened p.key t) (chunk low m) p)
            unfolding take_part open_at where_free opening gates_of
            step-open h = by-test (may_open (owner p.key) (those present x.gateways) x.slots)
                (λ e.
                let w : first_at is_free x.slots ≡ low = rw e at opens in
                timed ∙ rw (sym gates-are ∙ known, good, where-is, le-ltb f 8 none, slots-are, ← G.gates, e, w))
                (λ e.
                let w : 8 ≡ low = rw e at opens in
                absurd (omega arith))

            pub leaves-open : low < 8 → (q : Put) → q ≡ place (opened p.key t) (chunk low m) p
                → Leaves (step (state tb m) (lent_call m o (part t p))) q.reply (record { slots = set x.slots low q.slot; last = t; gateways = x.gateways }) (splice m low q.bytes)
            leaves-open h q e = leaves-land low 1 q (step-open h ∙ ap (land (state tb m) t low 1) (sym e))

            step-12 : 8 ≤ low → step (state tb m) (lent_call m o (part t p)) ≡ pass (state tb m) t (refused 12)
            unfolding take_part opening gates_of free
            step-12 h = by-test (may_open (owner p.key) (those present x.gateways) x.slots)
                (λ e.
                let w : first_at is_free x.slots ≡ low = rw e at opens in
                let r : 1 ≤ count is_free x.slots = (may_open-rule (owner p.key) (those present x.gateways) x.slots e).room in
                absurd (omega (arith, G.eight, first_at-found is_free x.slots r)))
                (λ e. timed ∙ rw (sym gates-are ∙ known, good, where-is, le-ltb f 8 none, slots-are, ← G.gates, e))

            pub leaves-12 : 8 ≤ low → Leaves (step (state tb m) (lent_call m o (part t p))) (refused 12) (record { slots = x.slots; last = t; gateways = x.gateways }) m
            leaves-12 h = leaves-pass 12 (step-12 h)
