-- One slot: what its marks and its memory say of the parts taken in it. The scope document speaks of the parts taken; `repeats`, `touches`
-- and `full` go by the marks. The theorems here say that the two agree.
use Prim.Native.Nat.{ℕ, ◌+◌, ◌*◌, ◌-◌, ◌/◌, ◌≤◌, ◌<◌}
use native.Mathlib.Decide.{ℕ_discrete}
use native.Mathlib.Omega.{arith}
use mathlib.Core.Path.{◌≡◌, refl, sym, ap, ◌∙◌}
use mathlib.Core.Logic.{◌⊎◌, inl, inr}
use mathlib.Core.Bool.{Bool, true, false, not, ◌&&◌, ◌||◌}
use mathlib.Core.List.{List, [], ◌∷◌}
use lib.ListN.{length, get_or, take, drop, replicate, length-drop, length-replicate}
use lib.Seq.{sets, ext_get_or, get_or-take, get_or-drop, length-take-le}
use lib.Dec.{eqb}
use borrow.Author.Tests.{eqb-true, eq-eqb, not-true}
use Rattle.octets.specs.Read.{choose}
use Rattle.marks.specs.Marks.{has_in, fill, unpack}
use Rattle.marks.proofs.Words.{length-fill, unpack-pack}
use Rattle.expand.specs.declared.checksum.UdpSum.{UdpSum}
use Rattle.expand.proofs.CopyLaws.{length-put}
use Rattle.reassembly.specs.Lists.{same_list}
use Rattle.reassembly.specs.Slots.{busy, opened}
use Rattle.reassembly.specs.Parts.{Part, units, fits, spans, repeats_in, repeats, touches, taken_in, taken, written, full}
use Rattle.reassembly.specs.declared.slot.Key.{Key}
use Rattle.reassembly.specs.declared.slot.Slot.{Slot}
use Rattle.reassembly.proofs.Tests.{no_both, by-test, by_order, not-true-false, and_left, and_right, or_cases, or_left, or_right}
use Rattle.reassembly.proofs.Lists.{get_or-sets-before, get_or-sets-after, get_or-sets-in, put-sets, same_list-refl, same_list-eq}
use Rattle.reassembly.specs.Cover.{In, Has, Covers}
use Rattle.marks.proofs.Ranges.{has-unit, unit-has, whole-unit, unit-whole, fill-in, fill-before, fill-after, no-marks, none-marked}
use Rattle.reassembly.proofs.Fits.{Fit, fit, HasUnit, unit→byte, byte→unit, unit→bytes, units-end, units-pos, units-same}

-- the units covered, and those where a part began
abbrev pub cover : Slot → List Bool
cover s = unpack s.covered

abbrev pub starts : Slot → List Bool
starts s = unpack s.starts

-- ---- the slot s and its memory b hold the parts ps, taken under k

pub record Holds (k : Key) (ps : List Part) (s : Slot) (b : List ℕ) : Type 0 where
  pub cover-len : length (cover s) ≡ 256
  pub starts-len : length (starts s) ≡ 256
  pub bytes-len : length b ≡ 2048
  pub keyed : (p : Part) → In p ps → p.key ≡ k
  pub pass10 : (p : Part) → In p ps → fits p ≡ true
  -- two that share a unit are one
  pub apart : (p q : Part) → In p ps → In q ps → (i : ℕ) → HasUnit p i → HasUnit q i → p ≡ q
  -- a unit is marked where a part has it, and nowhere else
  pub marked : (p : Part) → In p ps → (i : ℕ) → HasUnit p i → get_or (cover s) i false ≡ true
  pub only : (i : ℕ) → get_or (cover s) i false ≡ true → (p : Part) × In p ps × HasUnit p i
  -- a start is marked where a part began, and nowhere else
  pub began : (p : Part) → In p ps → get_or (starts s) p.unit false ≡ true
  pub began-only : (i : ℕ) → get_or (starts s) i false ≡ true → (p : Part) × In p ps × (p.unit ≡ i)
  -- the memory has the parts' bytes at their place
  pub bytes : (p : Part) → In p ps → (x : ℕ) → Has p x → get_or b x 0 ≡ get_or p.bytes (x - p.unit * 8) 0
  -- the flag is that of the part at byte 0
  pub flag : (p : Part) → In p ps → p.unit ≡ 0 → s.sum ≡ p.sum
  pub flag-from : (s.sum.kind ≡ 0 → ⊥) → (p : Part) × In p ps × (p.unit ≡ 0)

-- an opened slot holds nothing yet
pub holds-nothing : (k : Key) (t : ℕ) (b : List ℕ) → length b ≡ 2048 → Holds k [] (opened k t) b
unfolding opened
holds-nothing k t b h = record {
  cover-len = empty;
  starts-len = empty;
  bytes-len = h;
  keyed = λ p m. absurd m;
  pass10 = λ p m. absurd m;
  apart = λ p q m. absurd m;
  marked = λ p m. absurd m;
  only = λ i e. no_both (get_or (unpack (replicate 4 0)) i false) e (none-marked i);
  began = λ p m. absurd m;
  began-only = λ i e. no_both (get_or (unpack (replicate 4 0)) i false) e (none-marked i);
  bytes = λ p m. absurd m;
  flag = λ p m. absurd m;
  flag-from = λ e. absurd (e refl);
}
  where
    empty : length (unpack (replicate 4 0)) ≡ 256
    empty = ap length no-marks ∙ length-replicate 256 false

pub opened-as : (k : Key) (t : ℕ) → (busy (opened k t) ≡ true) × ((opened k t).key ≡ k) × ((opened k t).since ≡ t)
unfolding opened
opened-as k t = (refl, refl, refl)

-- an opened slot touches nothing
pub opened-clear : (k : Key) (t : ℕ) (q : Part) → touches (opened k t) q ≡ false
unfolding opened
opened-clear k t q = not-true-false (has_in true (unpack (replicate 4 0)) q.unit (units (length q.bytes))) (λ e.
    let w = has-unit (unpack (replicate 4 0)) q.unit (units (length q.bytes)) e in
    no_both (get_or (unpack (replicate 4 0)) w.0 false) w.3 (none-marked w.0))

-- what `repeats` says of a part, test by test
pub record Known (s : Slot) (b : List ℕ) (p : Part) : Type 0 where
  pub at : get_or (starts s) p.unit false ≡ true
  pub on : has_in false (cover s) p.unit (units (length p.bytes)) ≡ false
  pub inside : has_in true (starts s) (p.unit + 1) (units (length p.bytes) - 1) ≡ false
  pub behind : (not (get_or (cover s) (p.unit + units (length p.bytes)) false) || get_or (starts s) (p.unit + units (length p.bytes)) false) ≡ true
  pub equal : take (length p.bytes) (drop (p.unit * 8) b) ≡ p.bytes

repeats-is : (s : Slot) (b : List ℕ) (p : Part)
    → repeats s b p ≡ ((get_or (starts s) p.unit false && (not (has_in false (cover s) p.unit (units (length p.bytes)))
    && (not (has_in true (starts s) (p.unit + 1) (units (length p.bytes) - 1))
    && (not (get_or (cover s) (p.unit + units (length p.bytes)) false) || get_or (starts s) (p.unit + units (length p.bytes)) false))))
    && same_list (take (length p.bytes) (drop (p.unit * 8) b)) p.bytes)
unfolding repeats_in spans
repeats-is s b p =
    let e : p.unit + units (length p.bytes) - p.unit ≡ units (length p.bytes) = omega arith in
    let f : p.unit + units (length p.bytes) - (p.unit + 1) ≡ units (length p.bytes) - 1 = omega arith in
    rw (e, f)

pub known→repeats : (s : Slot) (b : List ℕ) (p : Part) → Known s b p → repeats s b p ≡ true
known→repeats s b p K =
    repeats-is s b p ∙ rw (K.at, K.on, K.inside, K.behind, K.equal) (same_list-refl p.bytes)

pub repeats→known : (s : Slot) (b : List ℕ) (p : Part) → repeats s b p ≡ true → Known s b p
repeats→known s b p e =
    let a1 = get_or (starts s) p.unit false in
    let h2 = has_in false (cover s) p.unit (units (length p.bytes)) in
    let h3 = has_in true (starts s) (p.unit + 1) (units (length p.bytes) - 1) in
    let a4 = not (get_or (cover s) (p.unit + units (length p.bytes)) false) || get_or (starts s) (p.unit + units (length p.bytes)) false in
    let a5 = same_list (take (length p.bytes) (drop (p.unit * 8) b)) p.bytes in
    let r : ((a1 && (not h2 && (not h3 && a4))) && a5) ≡ true = sym (repeats-is s b p) ∙ e in
    let r1 : (a1 && (not h2 && (not h3 && a4))) ≡ true = and_left (a1 && (not h2 && (not h3 && a4))) a5 r in
    let r2 : (not h2 && (not h3 && a4)) ≡ true = and_right a1 (not h2 && (not h3 && a4)) r1 in
    let r3 : (not h3 && a4) ≡ true = and_right (not h2) (not h3 && a4) r2 in
    record {
      at = and_left a1 (not h2 && (not h3 && a4)) r1;
      on = not-true h2 (and_left (not h2) (not h3 && a4) r2);
      inside = not-true h3 (and_left (not h3) a4 r3);
      behind = and_right (not h3) a4 r3;
      equal = same_list-eq (take (length p.bytes) (drop (p.unit * 8) b)) p.bytes (and_right (a1 && (not h2 && (not h3 && a4))) a5 r);
    }

module _ (k : Key) (ps : List Part) (s : Slot) (b : List ℕ) (P : Holds k ps s b) where
  fit_of : (p : Part) → In p ps → Fit p
  fit_of p m = fit p (P.pass10 p m)

  first-unit : (p : Part) → In p ps → HasUnit p p.unit
  first-unit p m = let f = units-pos p (fit_of p m) in (omega arith, omega arith)

  -- the bytes of a part taken stand in the memory
  same_bytes : (p : Part) → In p ps → take (length p.bytes) (drop (p.unit * 8) b) ≡ p.bytes
  same_bytes p m =
      let f = fit_of p m in
      let l1 = length-drop (p.unit * 8) b in
      let l2 : length (take (length p.bytes) (drop (p.unit * 8) b)) ≡ length p.bytes =
      length-take-le (length p.bytes) (drop (p.unit * 8) b) (omega (arith, P.bytes-len, f.ends, f.small)) in
      ext_get_or 0 (take (length p.bytes) (drop (p.unit * 8) b)) p.bytes l2
      (λ i h.
      let hi : i < length p.bytes = omega arith in
      let hx : Has p (p.unit * 8 + i) = (omega arith, omega arith) in
      let z : p.unit * 8 + i - p.unit * 8 ≡ i = omega arith in
      get_or-take (length p.bytes) (drop (p.unit * 8) b) i 0 hi ∙ get_or-drop (p.unit * 8) b i 0
      ∙ P.bytes p m (p.unit * 8 + i) hx ∙ rw z refl)

  -- no other part began inside one that was taken
  none_inside : (p : Part) → In p ps → has_in true (starts s) (p.unit + 1) (units (length p.bytes) - 1) ≡ false
  none_inside p m = not-true-false (has_in true (starts s) (p.unit + 1) (units (length p.bytes) - 1)) (λ e.
      let w = has-unit (starts s) (p.unit + 1) (units (length p.bytes) - 1) e in
      let i = w.0 in
      let h1 : p.unit + 1 ≤ i = w.1 in
      let h2 : i < p.unit + 1 + (units (length p.bytes) - 1) = w.2 in
      let q = P.began-only i w.3 in
      let qi : q.0.unit ≡ i = q.2 in
      let hq = first-unit q.0 q.1 in
      let pos = units-pos p (fit_of p m) in
      let hqi : HasUnit q.0 i = (omega arith, omega arith) in
      let hpi : HasUnit p i = (omega arith, omega arith) in
      let same = P.apart p q.0 m q.1 i hpi hqi in
      let u : p.unit ≡ q.0.unit = ap (λ (z : Part). z.unit) same in
      omega arith)

  -- behind one that was taken nothing is covered, or another began
  ends_there : (p : Part) → In p ps
      → (not (get_or (cover s) (p.unit + units (length p.bytes)) false) || get_or (starts s) (p.unit + units (length p.bytes)) false) ≡ true
  ends_there p m = by-test (get_or (cover s) (p.unit + units (length p.bytes)) false)
      (λ e. or_right (not (get_or (cover s) (p.unit + units (length p.bytes)) false)) _ (next e))
      (λ e. or_left (not (get_or (cover s) (p.unit + units (length p.bytes)) false)) _ (rw e))
    where
      next : get_or (cover s) (p.unit + units (length p.bytes)) false ≡ true → get_or (starts s) (p.unit + units (length p.bytes)) false ≡ true
      next e =
          let j = p.unit + units (length p.bytes) in
          let q = P.only j e in
          let hq : HasUnit q.0 j = q.2 in
          let pos = units-pos p (fit_of p m) in
          by_order j q.0.unit
          (λ h. let z : q.0.unit ≡ j = omega arith in rw z at (P.began q.0 q.1))
          (λ h.
          let hp' : HasUnit p (j - 1) = (omega arith, omega arith) in
          let hq' : HasUnit q.0 (j - 1) = (omega arith, omega arith) in
          let same = P.apart p q.0 m q.1 (j - 1) hp' hq' in
          let hpj : HasUnit p j = rw (← same) at hq in
          absurd (omega arith))

  -- a part taken is known again
  pub taken→repeats : (p : Part) → In p ps → repeats s b p ≡ true
  taken→repeats p m = known→repeats s b p (record {
    at = P.began p m;
    on = unit-whole (cover s) p.unit (units (length p.bytes)) (λ i h j. P.marked p m i (h, j));
    inside = none_inside p m;
    behind = ends_there p m;
    equal = same_bytes p m;
  })

  -- ---- `repeats` is "same first byte, length and bytes as a part taken"

  pub same-repeats : (p q : Part) → In q ps → p.unit ≡ q.unit → p.bytes ≡ q.bytes → repeats s b p ≡ true
  same-repeats p q m e1 e2 =
      let z : repeats s b p ≡ repeats s b q = rw (e1, e2) in
      z ∙ taken→repeats q m

  pub repeats→taken : (p : Part) → p.key ≡ k → fits p ≡ true → repeats s b p ≡ true
      → (q : Part) × In q ps × (q.unit ≡ p.unit) × (q.bytes ≡ p.bytes)
  repeats→taken p kp fp e =
      let Z = repeats→known s b p e in
      let w = P.began-only p.unit Z.at in
      (w.0, w.1, w.2, bytes-agree p kp (fit p fp) Z w.0 w.1 w.2)
    where
      no_less : (x : Part) → Known s b x → Fit x → (q : Part) → In q ps → q.unit ≡ x.unit → units (length q.bytes) < units (length x.bytes) → ⊥
      no_less x Z f q m u h =
          let pos = units-pos q (fit_of q m) in
          let j = q.unit + units (length q.bytes) in
          let c : get_or (cover s) j false ≡ true = whole-unit (cover s) x.unit (units (length x.bytes)) j Z.on (omega arith) (omega arith) in
          let r = P.only j c in
          let hr : HasUnit r.0 j = r.2 in
          by_order r.0.unit q.unit
          (λ g.
          let hr' : HasUnit r.0 q.unit = (omega arith, omega arith) in
          let same = P.apart r.0 q r.1 m q.unit hr' (first-unit q m) in
          let hq : HasUnit q j = rw same at hr in
          omega arith)
          (λ g. no_both (has_in true (starts s) (x.unit + 1) (units (length x.bytes) - 1))
          (unit-has (starts s) (x.unit + 1) (units (length x.bytes) - 1) r.0.unit (omega arith) (omega arith) (P.began r.0 r.1))
          Z.inside)

      no_more : (x : Part) → Known s b x → Fit x → (q : Part) → In q ps → q.unit ≡ x.unit → units (length x.bytes) < units (length q.bytes) → ⊥
      no_more x Z f q m u h =
          let pos = units-pos x f in
          let j = x.unit + units (length x.bytes) in
          let hq : HasUnit q j = (omega arith, omega arith) in
          let c : get_or (cover s) j false ≡ true = P.marked q m j hq in
          go (or_cases (not (get_or (cover s) j false)) (get_or (starts s) j false) Z.behind)
        where
          go : (not (get_or (cover s) (x.unit + units (length x.bytes)) false) ≡ true)
              ⊎ (get_or (starts s) (x.unit + units (length x.bytes)) false ≡ true) → ⊥
          go (inl n) =
              let pos = units-pos x f in
              let hq : HasUnit q (x.unit + units (length x.bytes)) = (omega arith, omega arith) in
              no_both (get_or (cover s) (x.unit + units (length x.bytes)) false)
              (P.marked q m (x.unit + units (length x.bytes)) hq)
              (not-true (get_or (cover s) (x.unit + units (length x.bytes)) false) n)
          go (inr n) =
              let pos = units-pos x f in
              let r = P.began-only (x.unit + units (length x.bytes)) n in
              let ru : r.0.unit ≡ x.unit + units (length x.bytes) = r.2 in
              let hr = first-unit r.0 r.1 in
              let hq : HasUnit q r.0.unit = (omega arith, omega arith) in
              let same = P.apart r.0 q r.1 m r.0.unit hr hq in
              let su : r.0.unit ≡ q.unit = ap (λ (z : Part). z.unit) same in
              omega arith

      same_length : (x q : Part) → x.key ≡ k → Fit x → q.key ≡ k → Fit q → q.unit ≡ x.unit → units (length q.bytes) ≡ units (length x.bytes)
          → length q.bytes ≡ length x.bytes
      same_length x q kx fx kq fq u n =
          let zx : x.key.size ≡ k.size = ap (λ (z : Key). z.size) kx in
          let zq : q.key.size ≡ k.size = ap (λ (z : Key). z.size) kq in
          units-same x.unit k.size (length x.bytes) (length q.bytes) (omega (arith, fx.ends)) (omega (arith, fq.ends)) n
          (rw zx at fx.whole) (rw (u, zq) at fq.whole)

      bytes-agree : (x : Part) → x.key ≡ k → Fit x → Known s b x → (q : Part) → In q ps → q.unit ≡ x.unit → q.bytes ≡ x.bytes
      bytes-agree x kx f Z q m u =
          let n : units (length q.bytes) ≡ units (length x.bytes) =
          by_order (units (length x.bytes)) (units (length q.bytes))
          (λ g. by_order (units (length q.bytes)) (units (length x.bytes))
          (λ g'. omega arith) (λ g'. absurd (no_more x Z f q m u g')))
          (λ g. absurd (no_less x Z f q m u g)) in
          let l = same_length x q kx f (P.keyed q m) (fit_of q m) u n in
          let e : take (length x.bytes) (drop (x.unit * 8) b) ≡ q.bytes = rw (l, u) at (same_bytes q m) in
          sym e ∙ Z.equal

  -- ---- `touches` is "touches a taken byte"

  pub touches→shared : (q : Part) → touches s q ≡ true → (p : Part) × In p ps × ((x : ℕ) × Has p x × Has q x)
  touches→shared q e =
      let w = has-unit (cover s) q.unit (units (length q.bytes)) e in
      let v = P.only w.0 w.3 in
      (v.0, v.1, (w.0 * 8, unit→byte v.0 w.0 v.2, unit→byte q w.0 (w.1, w.2)))

  pub shared→touches : (p q : Part) → In p ps → (x : ℕ) → Has p x → Has q x → touches s q ≡ true
  shared→touches p q m x hp hq =
      let u = byte→unit q x hq in
      unit-has (cover s) q.unit (units (length q.bytes)) (x / 8) u.0 u.1 (P.marked p m (x / 8) (byte→unit p x hp))

  -- a repeat changes nothing
  pub again : (q : Part) → In q ps → Holds k (q ∷ ps) s b
  again q m = record {
    cover-len = P.cover-len;
    starts-len = P.starts-len;
    bytes-len = P.bytes-len;
    keyed = λ p h. P.keyed p (old p h);
    pass10 = λ p h. P.pass10 p (old p h);
    apart = λ p r h g. P.apart p r (old p h) (old r g);
    marked = λ p h. P.marked p (old p h);
    only = λ i e. let w = P.only i e in (w.0, inr w.1, w.2);
    began = λ p h. P.began p (old p h);
    began-only = λ i e. let w = P.began-only i e in (w.0, inr w.1, w.2);
    bytes = λ p h. P.bytes p (old p h);
    flag = λ p h. P.flag p (old p h);
    flag-from = λ e. let w = P.flag-from e in (w.0, inr w.1, w.2);
  }
    where
      old : (p : Part) → In p (q ∷ ps) → In p ps
      old p (inl e) = rw e m
      old p (inr h) = h

  -- a part that touches nothing is taken
  module _ (q : Part) (kq : q.key ≡ k) (fq : fits q ≡ true) (clear : touches s q ≡ false) where
    clear_at : (i : ℕ) → HasUnit q i → get_or (cover s) i false ≡ true → ⊥
    clear_at i h e =
        no_both (has_in true (cover s) q.unit (units (length q.bytes)))
        (unit-has (cover s) q.unit (units (length q.bytes)) i h.0 h.1 e) clear

    cover-is : cover (taken s q) ≡ fill q.unit (units (length q.bytes)) (cover s)
    unfolding taken_in
    cover-is = unpack-pack (fill q.unit (units (length q.bytes)) (cover s))
        (length-fill q.unit (units (length q.bytes)) (cover s) ∙ P.cover-len)

    starts_is : starts (taken s q) ≡ fill q.unit 1 (starts s)
    unfolding taken_in
    starts_is = unpack-pack (fill q.unit 1 (starts s)) (length-fill q.unit 1 (starts s) ∙ P.starts-len)

    cover-new : (i : ℕ) → HasUnit q i → get_or (cover (taken s q)) i false ≡ true
    cover-new i h = rw cover-is (fill-in q.unit (units (length q.bytes)) (cover s) i h.0 h.1
        (omega (arith, units-end q (fit q fq), P.cover-len, h.1)))

    cover-old : (i : ℕ) → (HasUnit q i → ⊥) → get_or (cover (taken s q)) i false ≡ get_or (cover s) i false
    cover-old i h = rw cover-is (by_order q.unit i
        (λ a. by_order (q.unit + units (length q.bytes)) i
        (λ c. fill-after q.unit (units (length q.bytes)) (cover s) i c)
        (λ c. absurd (h (a, c))))
        (λ a. fill-before q.unit (units (length q.bytes)) (cover s) i a))

    starts-new : get_or (starts (taken s q)) q.unit false ≡ true
    starts-new =
        let z = units-pos q (fit q fq) in
        rw starts_is (fill-in q.unit 1 (starts s) q.unit (omega arith) (omega arith) (omega (arith, units-end q (fit q fq), P.starts-len)))

    starts-old : (i : ℕ) → (i ≡ q.unit → ⊥) → get_or (starts (taken s q)) i false ≡ get_or (starts s) i false
    starts-old i h = rw starts_is (by_order q.unit i
        (λ a. fill-after q.unit 1 (starts s) i (omega arith))
        (λ a. fill-before q.unit 1 (starts s) i a))

    flag_is : (taken s q).sum ≡ choose (eqb q.unit 0) q.sum s.sum
    unfolding taken_in
    flag_is = refl

    dec-unit : {X : Type 0} (i : ℕ) → (HasUnit q i → X) → ((HasUnit q i → ⊥) → X) → X
    dec-unit i f g = by_order q.unit i
        (λ a. by_order (q.unit + units (length q.bytes)) i (λ c. g (λ h. omega (arith, h.1))) (λ c. f (a, c)))
        (λ a. g (λ h. omega (arith, h.0)))

    put_is : written b q ≡ sets b (q.unit * 8) q.bytes
    put_is = let f = fit q fq in put-sets (q.unit * 8) q.bytes b (omega (arith, f.ends, f.small, P.bytes-len))

    -- a byte of another part taken keeps its value
    old-byte : (p : Part) → In p ps → (x : ℕ) → Has p x → get_or (written b q) x 0 ≡ get_or b x 0
    old-byte p m x h = rw put_is (by_order (q.unit * 8) x
        (λ a. by_order (q.unit * 8 + length q.bytes) x
        (λ c. get_or-sets-after q.bytes b (q.unit * 8) x 0 c)
        (λ c. absurd (clear_at (x / 8) (byte→unit q x (a, c)) (P.marked p m (x / 8) (byte→unit p x h)))))
        (λ a. get_or-sets-before q.bytes b (q.unit * 8) x 0 a))

    new-byte : (x : ℕ) → Has q x → get_or (written b q) x 0 ≡ get_or q.bytes (x - q.unit * 8) 0
    new-byte x h =
        let f = fit q fq in
        rw put_is (get_or-sets-in q.bytes b (q.unit * 8) x 0 h.0 h.1 (omega (arith, f.ends, f.small, P.bytes-len, h.1)))

    q-first : HasUnit q q.unit
    q-first = let f = units-pos q (fit q fq) in (omega arith, omega arith)

    pub taking : Holds k (q ∷ ps) (taken s q) (written b q)
    taking = record {
      cover-len = ap length cover-is ∙ length-fill q.unit (units (length q.bytes)) (cover s) ∙ P.cover-len;
      starts-len = ap length starts_is ∙ length-fill q.unit 1 (starts s) ∙ P.starts-len;
      bytes-len = length-put (q.unit * 8) q.bytes b ∙ P.bytes-len;
      keyed = keyed';
      pass10 = pass10';
      apart = apart';
      marked = marked';
      only = only';
      began = began';
      began-only = began-only';
      bytes = bytes';
      flag = flag';
      flag-from = flag-from';
    }
      where
        keyed' : (p : Part) → In p (q ∷ ps) → p.key ≡ k
        keyed' p (inl e) = rw e kq
        keyed' p (inr m) = P.keyed p m

        pass10' : (p : Part) → In p (q ∷ ps) → fits p ≡ true
        pass10' p (inl e) = rw e fq
        pass10' p (inr m) = P.pass10 p m

        apart' : (p r : Part) → In p (q ∷ ps) → In r (q ∷ ps) → (i : ℕ) → HasUnit p i → HasUnit r i → p ≡ r
        apart' p r (inl e) (inl g) i hp hr = e ∙ sym g
        apart' p r (inl e) (inr g) i hp hr = absurd (clear_at i (rw e at hp) (P.marked r g i hr))
        apart' p r (inr e) (inl g) i hp hr = absurd (clear_at i (rw g at hr) (P.marked p e i hp))
        apart' p r (inr e) (inr g) i hp hr = P.apart p r e g i hp hr

        marked' : (p : Part) → In p (q ∷ ps) → (i : ℕ) → HasUnit p i → get_or (cover (taken s q)) i false ≡ true
        marked' p (inl e) i h = cover-new i (rw e at h)
        marked' p (inr m) i h = dec-unit i (λ g. cover-new i g) (λ g. cover-old i g ∙ P.marked p m i h)

        only' : (i : ℕ) → get_or (cover (taken s q)) i false ≡ true → (p : Part) × In p (q ∷ ps) × HasUnit p i
        only' i e = dec-unit i (λ g. (q, inl refl, g))
            (λ g. let w = P.only i (sym (cover-old i g) ∙ e) in (w.0, inr w.1, w.2))

        began' : (p : Part) → In p (q ∷ ps) → get_or (starts (taken s q)) p.unit false ≡ true
        began' p (inl e) = rw e starts-new
        began' p (inr m) = elim (ℕ_discrete p.unit q.unit) [
          | yes z ↦ rw z starts-new
          | no z ↦ starts-old p.unit z ∙ P.began p m
        ]

        began-only' : (i : ℕ) → get_or (starts (taken s q)) i false ≡ true → (p : Part) × In p (q ∷ ps) × (p.unit ≡ i)
        began-only' i e = elim (ℕ_discrete i q.unit) [
          | yes z ↦ (q, inl refl, sym z)
          | no z ↦ (let w = P.began-only i (sym (starts-old i z) ∙ e) in (w.0, inr w.1, w.2))
        ]

        bytes' : (p : Part) → In p (q ∷ ps) → (x : ℕ) → Has p x → get_or (written b q) x 0 ≡ get_or p.bytes (x - p.unit * 8) 0
        bytes' p (inl e) x h = rw e (new-byte x (rw e at h))
        bytes' p (inr m) x h = old-byte p m x h ∙ P.bytes p m x h

        -- q's place is not another's
        other_place : (p : Part) → In p ps → p.unit ≡ 0 → q.unit ≡ 0 → ⊥
        other_place p m z y =
            let hp = first-unit p m in
            let h : HasUnit p q.unit = (omega arith, omega (arith, hp.1)) in
            clear_at q.unit q-first (P.marked p m q.unit h)

        flag' : (p : Part) → In p (q ∷ ps) → p.unit ≡ 0 → (taken s q).sum ≡ p.sum
        flag' p (inl e) z =
            let qz : q.unit ≡ 0 = rw e at z in
            let w : q.sum ≡ p.sum = sym (ap (λ (y : Part). y.sum) e) in
            flag_is ∙ rw (eq-eqb q.unit 0 qz) w
        flag' p (inr m) z = by-test (eqb q.unit 0)
            (λ y. absurd (other_place p m z (eqb-true q.unit 0 y)))
            (λ y. flag_is ∙ rw y (P.flag p m z))

        flag-from' : ((taken s q).sum.kind ≡ 0 → ⊥) → (p : Part) × In p (q ∷ ps) × (p.unit ≡ 0)
        flag-from' e = by-test (eqb q.unit 0)
            (λ y. (q, inl refl, eqb-true q.unit 0 y))
            (λ y.
            let f : (taken s q).sum ≡ s.sum = flag_is ∙ rw y refl in
            let w = P.flag-from (λ z. e (ap (λ (m : UdpSum). m.kind) f ∙ z)) in
            (w.0, inr w.1, w.2))

  -- ---- `full` is "full cover"

  full_is : full s ≡ not (has_in false (cover s) 0 (units s.key.size))
  unfolding full
  full_is = refl

  pub full→covers : s.key ≡ k → full s ≡ true → Covers k.size ps
  unfolding units
  full→covers sk e x h =
      let kz : s.key.size ≡ k.size = ap (λ (z : Key). z.size) sk in
      let n : has_in false (cover s) 0 (units s.key.size) ≡ false = not-true (has_in false (cover s) 0 (units s.key.size)) (sym full_is ∙ e) in
      let m : get_or (cover s) (x / 8) false ≡ true = whole-unit (cover s) 0 (units s.key.size) (x / 8) n (omega arith) (omega arith) in
      let w = P.only (x / 8) m in
      let sz : w.0.key.size ≡ k.size = ap (λ (z : Key). z.size) (P.keyed w.0 w.1) in
      (w.0, w.1, unit→bytes w.0 x (fit_of w.0 w.1) w.2 (omega arith))

  pub covers→full : s.key ≡ k → Covers k.size ps → full s ≡ true
  unfolding units
  covers→full sk c = full_is ∙ ap not (unit-whole (cover s) 0 (units s.key.size) (λ i h j.
      let kz : s.key.size ≡ k.size = ap (λ (z : Key). z.size) sk in
      let w = c (i * 8) (omega arith) in
      let v = byte→unit w.0 (i * 8) w.2 in
      let z : i * 8 / 8 ≡ i = omega arith in
      P.marked w.0 w.1 i (rw z at v)))
