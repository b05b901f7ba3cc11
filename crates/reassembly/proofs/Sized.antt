-- A datagram that is handed out has 40 to 2,047 bytes.
use Prim.Native.Nat.{ℕ, ◌*◌, ◌≤◌, ◌<◌}
use native.Mathlib.Omega.{arith}
use mathlib.Core.Path.{◌≡◌, refl, ap, ◌∙◌}
use mathlib.Core.Bool.{true, ◌||◌}
use mathlib.Core.List.{List}
use lib.ListN.{length, take}
use lib.Seq.{length-take-le}
use lib.Dec.{ltb}
use borrow.Author.Tests.{ltb-true}
use Rattle.expand.specs.Sum.{holds}
use Rattle.expand.specs.declared.checksum.UdpSum.{UdpSum}
use Rattle.expand.proofs.CopyLaws.{length-put}
use Rattle.reassembly.specs.Lists.{count}
use Rattle.reassembly.specs.Slots.{owner, free_slot, opened, is_free, is_key, gates_of, is_gate, free, may_open}
use Rattle.reassembly.specs.Parts as Parts
use Rattle.reassembly.specs.Parts.{Part, Reply, kept, out, fits, taken_in, full, finish, handed, place, offer}
use Rattle.reassembly.specs.Table.{Call, short, other, from, part, State, chunk, untouched, pass, land, offer_at, open_at, slots_at, where_key, where_free, from_gate, take_part, stays, take_at, step, lent_call}
use Rattle.reassembly.specs.declared.slot.Slot.{Slot}
use Rattle.reassembly.specs.declared.table.Table.{Table}
use Rattle.reassembly.proofs.Tests.{by-test}
use Rattle.reassembly.proofs.Parts.{length-finish}
use Rattle.reassembly.proofs.Lists.{first_at-found}
use Rattle.reassembly.proofs.Gateways.{is_key-key, length-expire, may_open-rule}
use Rattle.reassembly.proofs.Memory.{length-chunk}
use Rattle.reassembly.proofs.Answers.{enough-memory, found}
use Rattle.reassembly.proofs.Fits.{fit}

abbrev pub Sized : Reply (List ℕ) → Type 0
Sized kept = Unit {0}
Sized (out d) = (40 ≤ length d) × (length d ≤ 2047)
Sized (Parts.refused n) = Unit {0}

-- ---- from a slot
handed-sized : (m : UdpSum) (d : List ℕ) → 40 ≤ length d → length d ≤ 2047 → Sized (handed m d)
unfolding handed
handed-sized m d a b = by-test (holds m d) (λ h. rw h (rw (length-finish m d) a, rw (length-finish m d) b)) (λ h. rw h tt)

module _ (m : List ℕ) (enough : 16384 ≤ length m) (p : Part) (good : fits p ≡ true) (i : ℕ) (low : i < 8) (s : Slot) (own : s.key ≡ p.key) where
  place-sized : Sized (place s (chunk i m) p).reply
  unfolding place taken_in
  place-sized =
      let F = fit p good in
      let b = Parts.written (chunk i m) p in
      let room : length b ≡ 2048 = length-put (p.unit * 8) p.bytes (chunk i m) ∙ length-chunk i m (omega arith) in
      let size : s.key.size ≡ p.key.size = ap (λ k. k.size) own in
      let e : length (take s.key.size b) ≡ s.key.size = length-take-le s.key.size b (omega arith) in
      by-test (full (Parts.taken s p)) (λ f. rw f (handed-sized (Parts.taken s p).sum (take s.key.size b) (omega (arith, e)) (omega (arith, e)))) (λ f. rw f tt)

  offer-sized : Sized (offer s (chunk i m) p).reply
  unfolding offer
  offer-sized =
      by-test (Parts.repeats s (chunk i m) p) (λ e. rw e tt)
      (λ e. rw e (by-test (Parts.touches s p) (λ f. rw f tt) (λ f. rw f place-sized)))

pub take-sized : (s : Slot) (i t : ℕ) (p : Part) (m o : List ℕ) → Sized (take_at s i t p m o).reply
unfolding take_at stays opened
take-sized s i t p m o =
    by-test (ltb (length m) 16384 || ltb (length o) 2047) (λ a. rw a tt)
    (λ a. rw a (by-test (fits p)
    (λ b. rw b (by-test (ltb i 8)
    (λ d. rw d (by-test (is_key p.key s)
    (λ e. rw e (offer-sized m (enough-memory m o a) p b i (ltb-true i 8 d) s (is_key-key p.key s e)))
    (λ e. rw e (place-sized m (enough-memory m o a) p b i (ltb-true i 8 d) (opened p.key t) refl))))
    (λ d. rw d tt)))
    (λ b. rw b tt)))

part-sized : (σ : State) (t : ℕ) (p : Part) → length σ.table.slots ≡ 8 → 16384 ≤ length σ.mem → Sized (take_part σ t p).reply
unfolding take_part offer_at open_at land pass slots_at where_key where_free free opened
part-sized σ t p eight enough =
    let n : length (slots_at t σ) ≡ 8 = length-expire t σ.table.slots ∙ eight in
    by-test (is_gate (owner p.key) (gates_of σ.table))
    (λ a. rw a (by-test (fits p)
    (λ b. rw b (by-test (ltb (where_key p.key t σ) 8)
    (λ c.
    let low = ltb-true (where_key p.key t σ) 8 c in
    rw c (offer-sized σ.mem enough p b (where_key p.key t σ) low _ (found (slots_at t σ) p.key _ free_slot n refl low)))
    (λ c. rw c (by-test (may_open (owner p.key) (gates_of σ.table) (slots_at t σ))
    (λ d.
    let some : 1 ≤ count is_free (slots_at t σ) = (may_open-rule (owner p.key) (gates_of σ.table) (slots_at t σ) d).room in
    let low : where_free t σ < 8 = rw n at (first_at-found is_free (slots_at t σ) some) in
    rw d (place-sized σ.mem enough p b (where_free t σ) low (opened p.key t) refl))
    (λ d. rw d tt)))))
    (λ b. rw b tt)))
    (λ a. rw a tt)

-- a datagram that is to be handed out at once
abbrev pub SizedCall : Call → Type 0
SizedCall short = Unit {0}
SizedCall (other t r) = Sized r
SizedCall (from t g r) = Sized r
SizedCall (part t p) = Unit {0}

step-sized : (σ : State) (c : Call) → length σ.table.slots ≡ 8 → 16384 ≤ length σ.mem → SizedCall c → Sized (step σ c).reply
unfolding from_gate step untouched pass
step-sized σ short eight enough h = tt
step-sized σ (other t r) eight enough h = by-test (ltb t σ.table.last) (λ e. rw e tt) (λ e. rw e h)
step-sized σ (from t g r) eight enough h = by-test (ltb t σ.table.last) (λ e. rw e tt) (λ e. rw e (by-test (is_gate g (gates_of σ.table)) (λ k. rw k h) (λ k. rw k tt)))
step-sized σ (part t p) eight enough h = by-test (ltb t σ.table.last) (λ e. rw e tt) (λ e. rw e (part-sized σ t p eight enough))

-- Every table has eight slots. A shorter list of slots would hand out no bytes at all for a part under a new key, which finds the end of
-- the list; of a longer one, slots would lie beyond the lent memory.
pub lent-sized : (tb : Table) (m o : List ℕ) (c : Call) → length tb.slots ≡ 8 → SizedCall c → Sized (step (record { table = tb; mem = m }) (lent_call m o c)).reply
unfolding lent_call step untouched
lent-sized tb m o c eight h =
    by-test (ltb (length m) 16384 || ltb (length o) 2047) (λ e. rw e tt)
    (λ e. rw e (step-sized (record { table = tb; mem = m }) c eight (enough-memory m o e) h))
