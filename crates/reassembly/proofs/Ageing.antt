-- K12 of the table: a slot opened at 0 is held after every call at 59,999 that brings no part, and gone after one at 60,000, whatever is answered.
use Prim.Native.Nat.{ℕ, ◌-◌, ◌≤◌, ◌<◌}
use native.Mathlib.Omega.{arith}
use mathlib.Core.Path.{◌≡◌, refl, ◌∙◌}
use mathlib.Core.Bool.{true}
use lib.ListN.{length, get_or}
use borrow.Author.Tests.{le-ltb, le-leb}
use Rattle.reassembly.specs.Slots.{busy, free_slot, expired, expire1}
use Rattle.reassembly.specs.Parts.{Part}
use Rattle.reassembly.specs.Table.{Call, short, other, from, part, State, with_slots, slots_at, pass, step, At}
use Rattle.reassembly.specs.declared.slot.Slot.{Slot}
use Rattle.reassembly.proofs.Gateways.{get_or-expire, expire1-young, young}

module _ (σ : State) (i : ℕ) (s : Slot) (low : i < length σ.table.slots) (at : get_or σ.table.slots i free_slot ≡ s) (live : busy s ≡ true) (zero : s.since ≡ 0) where
  aged-at : (c : Call) (t : ℕ) → At c t → ((u : ℕ) (p : Part) → c ≡ part u p → ⊥) → σ.table.last ≤ t → get_or (step σ c).state.table.slots i free_slot ≡ expire1 t s
  unfolding step pass with_slots slots_at
  aged-at short t e f h = absurd e
  aged-at (other u a) t e f h = rw (e, le-ltb t σ.table.last h) (get_or-expire t σ.table.slots i low ∙ rw at refl)
  aged-at (from u g a) t e f h = rw (e, le-ltb t σ.table.last h) (get_or-expire t σ.table.slots i low ∙ rw at refl)
  aged-at (part u p) t e f h = absurd (f u p refl)

  pub k12-still : (c : Call) → At c 59999 → ((u : ℕ) (p : Part) → c ≡ part u p → ⊥) → σ.table.last ≤ 59999 → get_or (step σ c).state.table.slots i free_slot ≡ s
  k12-still c e f h = aged-at c 59999 e f h ∙ expire1-young 59999 s (young 59999 s (omega (arith, zero)))

  pub k12-freed : (c : Call) → At c 60000 → ((u : ℕ) (p : Part) → c ≡ part u p → ⊥) → σ.table.last ≤ 60000 → get_or (step σ c).state.table.slots i free_slot ≡ free_slot
  unfolding expire1 expired
  k12-freed c e f h = aged-at c 60000 e f h ∙ rw (live, le-leb 60000 (60000 - s.since) (omega (arith, zero)))
