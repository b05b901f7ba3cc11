-- One slot that is freed where it is old, and the turns of the loop over the slots.
use Prim.Native.Nat.{ℕ, ◌+◌, ◌*◌, ◌-◌, ◌≤◌, ◌<◌}
use native.Mathlib.Omega.{arith}
use mathlib.Core.Path.{◌≡◌, refl, sym, ap, ◌∙◌}
use mathlib.Core.Bool.{Bool, true, false, ◌&&◌}
use mathlib.Core.List.{List, [], ◌∷◌}
use lib.ListN.{length, get_or, set}
use lib.Seq.{set-get_or}
use lib.Dec.{eqb, leb}
use Rattle.octets.specs.Write.{put}
use Rattle.reassembly.specs.Slots.{free_slot, expired, expire1, expire}
use Rattle.reassembly.specs.Table.{with_slots}
use Rattle.reassembly.specs.declared.slot.Slot.{Slot}
use Rattle.reassembly.specs.declared.table.Table.{Table}
use Rattle.reassembly.proofs.Tests.{by-test}
use Rattle.reassembly.proofs.Answers.{aged_to, aged-none, aged-turn, aged-stay, aged-of, aged-is}
use Rattle.words.specs.Words.{slot_in, table_in, with_slot}
use Rattle.words.proofs.Numbers.{slot_is, slots-eight, table-last}

-- a slot's own record changes nothing
stays : (t : Table) (i : ℕ) (d s : Slot) → s ≡ get_or t.slots i d → t ≡ with_slot t i s
unfolding with_slot
stays t i d s e =
    let q : set t.slots i s ≡ t.slots = rw e (set-get_or t.slots i d) in
    λ x. record { slots = sym q x; last = t.last; gateways = t.gateways }

module _ (ws : List ℕ) (i : ℕ) (h : i < 8) (t : ℕ) where
  old-is : expired t (get_or (table_in ws).slots i free_slot) ≡ (eqb (get_or ws (i * 17 + 15) 0) 1 && leb 60000 (t - get_or ws (i * 17 + 6) 0))
  unfolding expired slot_in
  old-is = rw (slot_is ws i free_slot h) refl

  kept : expired t (get_or (table_in ws).slots i free_slot) ≡ false → table_in ws ≡ with_slot (table_in ws) i (expire1 t (get_or (table_in ws).slots i free_slot))
  unfolding expire1
  kept e = stays (table_in ws) i free_slot _ (rw e refl)

  -- b is the test of its age
  module _ (b : Bool) (e : b ≡ (eqb (get_or ws (i * 17 + 15) 0) 1 && leb 60000 (t - get_or ws (i * 17 + 6) 0))) where
    pub age-young : b ≡ false → table_in ws ≡ with_slot (table_in ws) i (expire1 t (get_or (table_in ws).slots i free_slot))
    age-young f = kept (old-is ∙ sym e ∙ f)

    pub age-old : b ≡ true → (s : Slot) → s ≡ free_slot → with_slot (table_in ws) i s ≡ with_slot (table_in ws) i (expire1 t (get_or (table_in ws).slots i free_slot))
    unfolding expire1
    age-old f s q = ap (with_slot (table_in ws) i) (q ∙ sym (rw (old-is ∙ sym e ∙ f) refl))

-- ---- the loop: the table tb, whose first i slots are aged

abbrev pub aged_slots : Table → ℕ → ℕ → Table
aged_slots tb t i = record { slots = aged_to t i tb.slots; last = tb.last; gateways = tb.gateways }

pub age-none : (ws : List ℕ) (t : ℕ) → table_in ws ≡ aged_slots (table_in ws) t 0
age-none ws t = let e = aged-none t (table_in ws).slots in λ x. record { slots = e x; last = (table_in ws).last; gateways = (table_in ws).gateways }

aged-next : (t : ℕ) (l m : List Slot) (i : ℕ) (d : Slot) → m ≡ aged_to t i l → i < length l → set m i (expire1 t (get_or m i d)) ≡ aged_to t (i + 1) l
unfolding expire1
aged-next t l m i d e h = by-test (expired t (get_or m i d))
    (λ p. rw p (aged-turn t l m i d e h free_slot refl p))
    (λ p. rw p (set-get_or m i d ∙ aged-stay t l m i d e h p))

pub age-turn : (ws us : List ℕ) (x : Table) (t i : ℕ) → i < 8 → table_in us ≡ aged_slots (table_in ws) t i
    → x ≡ with_slot (table_in us) i (expire1 t (get_or (table_in us).slots i free_slot)) → x ≡ aged_slots (table_in ws) t (i + 1)
unfolding with_slot
age-turn ws us x t i h e q =
    let s = aged-next t (table_in ws).slots (table_in us).slots i free_slot (ap (λ (y : Table). y.slots) e) (omega (arith, slots-eight ws)) in
    let l = ap (λ (y : Table). y.last) e in
    let g = ap (λ (y : Table). y.gateways) e in
    q ∙ (λ j. record { slots = s j; last = l j; gateways = g j })

with-is : (x : Table) (t : ℕ) → with_slots x t x.slots ≡ record { slots = x.slots; last = t; gateways = x.gateways }
unfolding with_slots
with-is x t = refl

pub age-end : (ws us : List ℕ) (t i : ℕ) → length us ≡ 149 → 8 ≤ i → table_in us ≡ aged_slots (table_in ws) t i
    → table_in (set us 136 t) ≡ with_slots (table_in ws) t (expire t (table_in ws).slots)
unfolding put
age-end ws us t i n h e =
    table-last us n (t ∷ []) refl
    ∙ with-is (table_in us) t
    ∙ aged-is (table_in ws) (table_in us) t (aged-of (table_in ws) (table_in us) t i (slots-eight ws) h (ap (λ (y : Table). y.slots) e) (ap (λ (y : Table). y.gateways) e))
