-- A part for one slot, answer by answer.
use Prim.Native.Nat.{ℕ, zero, suc, ◌+◌, ◌*◌, ◌≤◌, ◌<◌}
use native.Mathlib.Nat.{le_of_suc-le-suc}
use native.Mathlib.Numerals.{add-one}
use mathlib.Core.Path.{◌≡◌, refl, sym, ap, subst, ◌∙◌}
use mathlib.Core.Bool.{true, false, ◌||◌}
use mathlib.Core.List.{List}
use lib.ListN.{length, get_or, set, take, drop, drop_of_length-le}
use lib.Seq.{set-get_or, drop-cons}
use lib.Dec.{ltb}
use borrow.Author.Tests.{lt-ltb, le-ltb}
use Rattle.octets.specs.Read.{choose}
use Rattle.octets.specs.Write.{put}
use Rattle.octets.specs.Refusal.{number_of}
use Rattle.octets.specs.declared.refusal.Refusal.{Refusal}
use Rattle.std.specs.Prelude.{Err}
use Rattle.reassembly.specs.Slots.{is_key, opened}
use Rattle.marks.proofs.Ranges.{none-marked}
use Rattle.reassembly.specs.Parts.{Part, fits, spans, repeats_in, repeats, place, offer}
use Rattle.reassembly.specs.Table.{chunk, splice, stays, take_at, Lands}
use Rattle.reassembly.specs.declared.slot.Key.{Key}
use Rattle.reassembly.specs.declared.slot.Slot.{Slot}
use Rattle.reassembly.specs.declared.part.InSlot.{InSlot}
use Rattle.reassembly.proofs.Tests.{by-test, by_order}
use Rattle.reassembly.proofs.Gateways.{is_key-key}
use Rattle.reassembly.proofs.OneSlot.{opened-clear}

-- what stands there, put there, changes nothing
pub put_back : (n at : ℕ) (m : List ℕ) → put at (take n (drop at m)) m ≡ m
unfolding put
put_back zero at m = refl
put_back (suc n) at m = by_order (suc at) (length m)
    (λ h.
    let e : put (at + 1) (take n (drop (suc at) m)) (set m at (get_or m at 0)) ≡ m =
    ap (λ x. put (at + 1) (take n (drop (suc at) m)) x) (set-get_or m at 0) ∙ ap (λ k. put (at + 1) (take n (drop k m)) m) (sym (add-one at)) ∙ put_back n (at + 1) m in
    rw (drop-cons m at 0 h) e)
    (λ h. rw (drop_of_length-le m (le_of_suc-le-suc h)) refl)

-- a slot that is opened holds nothing that a part could repeat or touch
offer-opened : (k : Key) (t : ℕ) (b : List ℕ) (p : Part) → offer (opened k t) b p ≡ place (opened k t) b p
unfolding offer
offer-opened k t b p = rw (not-repeated, opened-clear k t p)
  where
    not-repeated : repeats (opened k t) b p ≡ false
    not-repeated = unfold repeats_in spans opened in (rw (none-marked p.unit) refl)

module _ (s : Slot) (i t : ℕ) (p : Part) (m o : List ℕ) where
  left : (e : Refusal) (r : InSlot) → r ≡ record { outcome = Err e; slot = s } → take_at s i t p m o ≡ stays s i m (number_of e) → Lands r i m m o o (take_at s i t p m o)
  unfolding stays splice chunk
  left e r q h = rw (h, q) record { answer = refl; slot = refl; memory = sym (put_back 2048 (i * 2048) m); output = refl }

  pub at_7 : (ltb (length m) 16384 || ltb (length o) 2047) ≡ true → (r : InSlot) → r ≡ record { outcome = Err Refusal.NoRoom; slot = s } → Lands r i m m o o (take_at s i t p m o)
  unfolding take_at
  at_7 short r q = left Refusal.NoRoom r q (rw short)

  module _ (enough : (ltb (length m) 16384 || ltb (length o) 2047) ≡ false) where
    pub at-10 : fits p ≡ false → (r : InSlot) → r ≡ record { outcome = Err Refusal.BadPart; slot = s } → Lands r i m m o o (take_at s i t p m o)
    unfolding take_at
    at-10 bad r q = left Refusal.BadPart r q (rw (enough, bad))

    pub take-bad : fits p ≡ false → take_at s i t p m o ≡ stays s i m 10
    unfolding take_at
    take-bad bad = rw (enough, bad)

    module _ (good : fits p ≡ true) where
      pub take_none : 8 ≤ i → take_at s i t p m o ≡ stays s i m 12
      unfolding take_at
      take_none h = rw (enough, good, le-ltb i 8 h)

      pub at-12 : 8 ≤ i → (r : InSlot) → r ≡ record { outcome = Err Refusal.NoSlot; slot = s } → Lands r i m m o o (take_at s i t p m o)
      unfolding take_at
      at-12 h r q = left Refusal.NoSlot r q (rw (enough, good, le-ltb i 8 h))

      module _ (h : i < 8) where
        pub take_own : is_key p.key s ≡ true → take_at s i t p m o ≡ offer s (chunk i m) p
        unfolding take_at
        take_own k = rw (enough, good, lt-ltb i 8 h, k)

        pub take-other : is_key p.key s ≡ false → take_at s i t p m o ≡ place (opened p.key t) (chunk i m) p
        unfolding take_at
        take-other k = rw (enough, good, lt-ltb i 8 h, k)

        -- z is the record that the part finds
        module _ (z : Slot) (q : z ≡ choose (is_key p.key s) s (opened p.key t)) where
          pub finds-key : z.key ≡ p.key
          unfolding opened
          finds-key = by-test (is_key p.key s) (λ k. rw (q, k) (is_key-key p.key s k)) (λ k. rw (q, k) refl)

          pub at_slot : (r : InSlot) (m' o' : List ℕ) → Lands r i m m' o o' (offer z (chunk i m) p) → Lands r i m m' o o' (take_at s i t p m o)
          at_slot r m' o' L =
              by-test (is_key p.key s)
              (λ k.
              let e : z ≡ s = q ∙ rw k refl in
              rw (take_own k) (subst (λ x. Lands r i m m' o o' (offer x (chunk i m) p)) e L))
              (λ k.
              let e : z ≡ opened p.key t = q ∙ rw k refl in
              rw (take-other k, ← offer-opened p.key t (chunk i m) p) (subst (λ x. Lands r i m m' o o' (offer x (chunk i m) p)) e L))
