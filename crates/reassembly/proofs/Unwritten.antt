-- "No refusal but 17 writes a lent byte": of every call, on every table and memory.
use Prim.Native.Nat.{ℕ, ◌*◌}
use native.Mathlib.Omega.{arith}
use mathlib.Core.Path.{◌≡◌, refl, sym, ap, ◌∙◌}
use mathlib.Core.Bool.{Bool, true, false}
use mathlib.Core.List.{List}
use lib.ListN.{get_or}
use lib.Dec.{ltb}
use Rattle.octets.specs.Read.{choose}
use Rattle.expand.specs.Sum.{holds}
use Rattle.expand.specs.declared.checksum.UdpSum.{UdpSum}
use Rattle.reassembly.specs.Slots.{owner, free_slot, opened, gates_of, is_gate, may_open}
use Rattle.reassembly.specs.Parts.{Part, Reply, kept, out, refused, fits, taken, full, handed, Put, place, offer}
use Rattle.reassembly.specs.Table.{Call, short, other, from, part, State, Result, chunk, splice, untouched, slots_at, pass, land, where_key, where_free, offer_at, open_at, take_part, step}
use Rattle.reassembly.specs.declared.slot.Slot.{Slot}
use Rattle.reassembly.proofs.Tests.{by-test}
use Rattle.reassembly.proofs.AtSlot.{put_back}
use Rattle.reassembly.proofs.Origin.{OfferCase, repeated, clashed, placed, offer-case}

-- the lent memory after a refusal other than 17 is the lent memory before it
abbrev pub Unwritten : State → Result → Type 0
Unwritten σ r = (n : ℕ) → r.reply ≡ refused n → (n ≡ 17 → ⊥) → r.state.mem ≡ σ.mem

abbrev kind_of : Reply (List ℕ) → ℕ
kind_of kept = 0
kind_of (out d) = 1
kind_of (refused n) = 2

not-kept : {X : Type 0} (n : ℕ) → ◌≡◌ {A = Reply (List ℕ)} kept (refused n) → X
not-kept n e = let z : ◌≡◌ {A = ℕ} 0 2 = ap kind_of e in absurd (omega arith)

not-out : {X : Type 0} (d : List ℕ) (n : ℕ) → out d ≡ refused n → X
not-out d n e = let z : ◌≡◌ {A = ℕ} 1 2 = ap kind_of e in absurd (omega arith)

either : {A : Type 0} (P : A → Type 0) (b : Bool) (x y : A) → P x → P y → P (choose b x y)
either P true x y p q = p
either P false x y p q = q

pub splice-back : (m : List ℕ) (i : ℕ) → splice m i (chunk i m) ≡ m
unfolding splice chunk
splice-back m i = put_back 2048 (i * 2048) m

abbrev number_or : Reply (List ℕ) → ℕ
number_or kept = 0
number_or (out d) = 0
number_or (refused n) = n

-- a whole datagram is refused with 17 alone
handed-never : {X : Type 0} (m : UdpSum) (d : List ℕ) (n : ℕ) → handed m d ≡ refused n → (n ≡ 17 → ⊥) → X
unfolding handed
handed-never m d n e k = by-test (holds m d) (λ h. not-out _ n (rw h at e)) (λ h. let z : refused 17 ≡ refused n = rw h at e in absurd (k (sym (ap number_or z))))

place-never : {X : Type 0} (s : Slot) (b : List ℕ) (p : Part) (n : ℕ) → (place s b p).reply ≡ refused n → (n ≡ 17 → ⊥) → X
unfolding place
place-never s b p n e k = by-test (full (taken s p)) (λ x. handed-never _ _ n (rw x at e) k) (λ x. not-kept n (rw x at e))

offer-bytes : (s : Slot) (b : List ℕ) (p : Part) (n : ℕ) → (offer s b p).reply ≡ refused n → (n ≡ 17 → ⊥) → (offer s b p).bytes ≡ b
offer-bytes s b p n e k = go (offer-case s b p)
  where
    go : OfferCase s b p → (offer s b p).bytes ≡ b
    go (repeated q) = ap (λ (z : Put). z.bytes) q
    go (clashed q) = ap (λ (z : Put). z.bytes) q
    go (placed c q) = place-never s b p n (rw q at e) k

offer-unwritten : (σ : State) (t : ℕ) (p : Part) (i : ℕ) → Unwritten σ (offer_at σ t p i)
unfolding offer_at land
offer-unwritten σ t p i n e k =
    ap (splice σ.mem i) (offer-bytes (get_or (slots_at t σ) i free_slot) (chunk i σ.mem) p n e k) ∙ splice-back σ.mem i

open-unwritten : (σ : State) (t : ℕ) (p : Part) (i : ℕ) → Unwritten σ (open_at σ t p i)
unfolding open_at land
open-unwritten σ t p i n e k = place-never (opened p.key t) (chunk i σ.mem) p n e k

pass-unwritten : (σ : State) (t : ℕ) (a : Reply (List ℕ)) → Unwritten σ (pass σ t a)
unfolding pass
pass-unwritten σ t a n e k = refl

untouched-unwritten : (σ : State) (r : ℕ) → Unwritten σ (untouched σ r)
unfolding untouched
untouched-unwritten σ r n e k = refl

part-unwritten : (σ : State) (t : ℕ) (p : Part) → Unwritten σ (take_part σ t p)
unfolding take_part
part-unwritten σ t p =
    either (Unwritten σ) (is_gate (owner p.key) (gates_of σ.table)) _ _
    (either (Unwritten σ) (fits p) _ _
    (either (Unwritten σ) (ltb (where_key p.key t σ) 8) _ _
    (offer-unwritten σ t p (where_key p.key t σ))
    (either (Unwritten σ) (may_open (owner p.key) (gates_of σ.table) (slots_at t σ)) _ _
    (open-unwritten σ t p (where_free t σ))
    (pass-unwritten σ t (refused 12))))
    (pass-unwritten σ t (refused 10)))
    (pass-unwritten σ t (refused 9))

pub refused-unwritten : (σ : State) (c : Call) → Unwritten σ (step σ c)
unfolding step
refused-unwritten σ short = untouched-unwritten σ 7
refused-unwritten σ (other t a) = either (Unwritten σ) (ltb t σ.table.last) _ _ (untouched-unwritten σ 8) (pass-unwritten σ t a)
refused-unwritten σ (from t g a) = either (Unwritten σ) (ltb t σ.table.last) _ _ (untouched-unwritten σ 8) (pass-unwritten σ t _)
refused-unwritten σ (part t p) = either (Unwritten σ) (ltb t σ.table.last) _ _ (untouched-unwritten σ 8) (part-unwritten σ t p)
