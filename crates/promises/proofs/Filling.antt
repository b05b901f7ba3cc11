-- How the parts of one cutting fill one slot: each is kept while they do not cover the datagram, and the one that covers it hands the
-- datagram out. A repeat changes nothing.
use Prim.Native.Nat.{ℕ, ◌+◌, ◌*◌, ◌≤◌, ◌<◌}
use native.Mathlib.Omega.{arith}
use mathlib.Core.Path.{◌≡◌, refl, sym, ap, ◌∙◌}
use mathlib.Core.Logic.{inl, inr}
use mathlib.Core.Bool.{true, false}
use mathlib.Core.List.{List, [], ◌∷◌}
use lib.ListN.{length, set, take, length-set}
use lib.Dec.{eqb}
use lib.Seq.{ext_get_or, get_or-take, length-take-le}
use Rattle.expand.specs.Sum.{was_elided}
use Rattle.expand.specs.declared.checksum.UdpSum.{UdpSum}
use Rattle.reassembly.specs.Slots.{busy, opened}
use Rattle.reassembly.specs.Parts.{Part, kept, out, repeats, touches, taken, written, full, handed, place, offer}
use Rattle.reassembly.specs.declared.slot.Key.{Key}
use Rattle.reassembly.specs.declared.slot.Slot.{Slot}
use Rattle.reassembly.proofs.Parts as Parts
use Rattle.reassembly.proofs.Parts.{taken-stays, handed-good, place_kept, offer-repeat, offer-clear}
use Rattle.reassembly.proofs.Tests.{no_both, by-test, not-true-false}
use Rattle.reassembly.specs.Cover.{In, Has, Covers}
use Rattle.promises.specs.Cuttings.{zeroed, Cutting}
use Rattle.reassembly.proofs.Fits.{fit}
use Rattle.reassembly.proofs.OneSlot.{Holds, holds-nothing, opened-as, taken→repeats, repeats→taken, touches→shared, again, taking, full→covers, covers→full}

pub length-zeroed : (m : UdpSum) (d : List ℕ) → length (zeroed m d) ≡ length d
unfolding zeroed
length-zeroed m d = by-test (was_elided m) (λ h. rw h (length-set (set d (m.udp + 6) 0) (m.udp + 7) 0 ∙ length-set d (m.udp + 6) 0)) (λ h. rw h refl)

-- ---- how far the parts ps of a cutting have filled a slot s and its memory b, since t

module _ (k : Key) (d : List ℕ) (C : Cutting k d) where
  pub record Progress (t : ℕ) (ps : List Part) (s : Slot) (b : List ℕ) : Type 0 where
    pub busy : busy s ≡ true
    pub key : s.key ≡ k
    pub since : s.since ≡ t
    pub holds : Holds k ps s b
    pub mine : (p : Part) → In p ps → In p C.parts

  -- an opened slot holds nothing yet
  pub start : (t : ℕ) (b : List ℕ) → length b ≡ 2048 → Progress t [] (opened k t) b
  start t b h = let O = opened-as k t in record { busy = O.0; key = O.1; since = O.2; holds = holds-nothing k t b h; mine = λ p m. absurd m }

  module _ (t : ℕ) (ps : List Part) (s : Slot) (b : List ℕ) (P : Progress t ps s b) where
    -- a part of the cutting that is known again came
    pub repeats→came : (q : Part) → In q C.parts → repeats s b q ≡ true → In q ps
    repeats→came q m e =
        let w = repeats→taken k ps s b P.holds q (C.keyed q m) (C.pass10 q m) e in
        let wu : w.0.unit ≡ q.unit = w.2 in
        let wl : length w.0.bytes ≡ length q.bytes = ap length w.3 in
        let f = fit q (C.pass10 q m) in
        let pos = f.some in
        let h : Has w.0 (q.unit * 8) = (omega arith, omega arith) in
        let g : Has q (q.unit * 8) = (omega arith, omega arith) in
        let same = C.apart w.0 q (P.mine w.0 w.1) m (q.unit * 8) h g in
        rw same at w.1

    -- one that is not known again touches nothing
    pub apart-new : (q : Part) → In q C.parts → repeats s b q ≡ false → touches s q ≡ false
    apart-new q m e = not-true-false (touches s q) (λ h.
        let w = touches→shared k ps s b P.holds q h in
        let same = C.apart w.0 q (P.mine w.0 w.1) m w.2.0 w.2.1 w.2.2 in
        let came : In q ps = rw same at w.1 in
        no_both (repeats s b q) (taken→repeats k ps s b P.holds q came) e)

    pub took : (q : Part) → In q C.parts → touches s q ≡ false → Progress t (q ∷ ps) (taken s q) (written b q)
    took q m clear = record {
      busy = ap (λ (n : ℕ). eqb n 1) (taken-stays s q).0 ∙ P.busy;
      key = (taken-stays s q).1 ∙ P.key;
      since = (taken-stays s q).2 ∙ P.since;
      holds = taking k ps s b P.holds q (C.keyed q m) (C.pass10 q m) clear;
      mine = mine';
    }
      where
        mine' : (p : Part) → In p (q ∷ ps) → In p C.parts
        mine' p (inl e) = rw e m
        mine' p (inr h) = P.mine p h

    same-again : (q : Part) → In q ps → Progress t (q ∷ ps) s b
    same-again q m = record {
      busy = P.busy;
      key = P.key;
      since = P.since;
      holds = again k ps s b P.holds q m;
      mine = mine';
    }
      where
        mine' : (p : Part) → In p (q ∷ ps) → In p C.parts
        mine' p (inl e) = rw e (P.mine q m)
        mine' p (inr h) = P.mine p h

    -- what a full slot hands out is the datagram
    pub whole : Covers k.size ps → 40 ≤ k.size → k.size ≤ 2047 → handed s.sum (take s.key.size b) ≡ out d
    whole c big small =
        let w = c 0 (omega arith) in
        let w2 : Has w.0 0 = w.2 in
        let u : w.0.unit ≡ 0 = omega arith in
        let e1 : s.sum ≡ C.sum = P.holds.flag w.0 w.1 u ∙ C.flag w.0 (P.mine w.0 w.1) u in
        let kz : s.key.size ≡ k.size = ap (λ (z : Key). z.size) P.key in
        let l1 : length (take k.size b) ≡ k.size = length-take-le k.size b (omega (arith, P.holds.bytes-len)) in
        let l2 : length (zeroed C.sum d) ≡ k.size = length-zeroed C.sum d ∙ C.sized in
        let e2 : take k.size b ≡ zeroed C.sum d = ext_get_or 0 (take k.size b) (zeroed C.sum d) (l1 ∙ sym l2)
        (λ x h.
        let hx : x < k.size = omega arith in
        let v = c x hx in
        get_or-take k.size b x 0 hx ∙ P.holds.bytes v.0 v.1 x v.2 ∙ C.bytes v.0 (P.mine v.0 v.1) x v.2) in
        rw (e1, kz, e2) (handed-good C.sum (zeroed C.sum d) C.right ∙ ap out C.summed)

    -- ---- one part of the cutting is offered to the slot

    pub place-keeps : (q : Part) → In q C.parts → touches s q ≡ false → (Covers k.size (q ∷ ps) → ⊥)
        → ((place s b q).reply ≡ kept) × Progress t (q ∷ ps) (place s b q).slot (place s b q).bytes
    place-keeps q m clear nc =
        let P' = took q m clear in
        let e : full (taken s q) ≡ false = not-true-false (full (taken s q))
        (λ h. nc (full→covers k (q ∷ ps) (taken s q) (written b q) P'.holds P'.key h)) in
        rw (place_kept s b q e) (refl, P')

    fills : (q : Part) → In q C.parts → touches s q ≡ false → Covers k.size (q ∷ ps) → full (taken s q) ≡ true
    fills q m clear c =
        let P' = took q m clear in
        covers→full k (q ∷ ps) (taken s q) (written b q) P'.holds P'.key c

  pub place-hands-out : (t : ℕ) (ps : List Part) (s : Slot) (b : List ℕ) → Progress t ps s b → (q : Part) → In q C.parts → touches s q ≡ false
      → Covers k.size (q ∷ ps) → (place s b q).reply ≡ out d
  place-hands-out t ps s b P q m clear c =
      let P' = took t ps s b P q m clear in
      let f = fit q (C.pass10 q m) in
      let z : q.key.size ≡ k.size = ap (λ (y : Key). y.size) (C.keyed q m) in
      rw (Parts.place-full s b q (fills t ps s b P q m clear c))
      (whole t (q ∷ ps) (taken s q) (written b q) P' c (omega (arith, f.big)) (omega (arith, f.small)))

  pub offer-keeps : (t : ℕ) (ps : List Part) (s : Slot) (b : List ℕ) → Progress t ps s b → (q : Part) → In q C.parts
      → (Covers k.size (q ∷ ps) → ⊥)
      → ((offer s b q).reply ≡ kept) × Progress t (q ∷ ps) (offer s b q).slot (offer s b q).bytes
  offer-keeps t ps s b P q m nc = by-test (repeats s b q)
      (λ e. rw (offer-repeat s b q e) (refl, same-again t ps s b P q (repeats→came t ps s b P q m e)))
      (λ e. let c = apart-new t ps s b P q m e in rw (offer-clear s b q e c) (place-keeps t ps s b P q m c nc))

  pub offer-hands-out : (t : ℕ) (ps : List Part) (s : Slot) (b : List ℕ) → Progress t ps s b → (q : Part) → In q C.parts
      → (Covers k.size ps → ⊥) → Covers k.size (q ∷ ps) → (offer s b q).reply ≡ out d
  offer-hands-out t ps s b P q m nc c = by-test (repeats s b q)
      (λ e. absurd (nc (λ x h. let w = c x h in (w.0, old (repeats→came t ps s b P q m e) w.0 w.1, w.2))))
      (λ e. let a = apart-new t ps s b P q m e in rw (offer-clear s b q e a) (place-hands-out t ps s b P q m a c))
    where
      old : In q ps → (p : Part) → In p (q ∷ ps) → In p ps
      old h p (inl e) = rw e h
      old h p (inr g) = g
