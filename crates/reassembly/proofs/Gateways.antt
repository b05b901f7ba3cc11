-- What holds of the slots of every table that comes from calls: no key is open twice, no gateway holds over three slots, and what the
-- gateways hold, with one for each that holds none, is at most eight. Ageing, a part and the opening rule keep it.
use Prim.Native.Nat.{ℕ, zero, suc, ◌+◌, ◌-◌, ◌≤◌, ◌<◌, max}
use native.Mathlib.Nat.{not-suc-le-zero, le_of_suc-le-suc}
use native.Mathlib.Omega.{arith}
use mathlib.Core.Path.{◌≡◌, refl, sym, ap, ◌∙◌}
use mathlib.Core.Logic.{◌⊎◌, inl, inr}
use mathlib.Core.Bool.{Bool, true, false, not, ◌&&◌, ◌||◌}
use mathlib.Core.List.{List, [], ◌∷◌}
use lib.ListN.{length, get_or, set, length-set}
use lib.Dec.{leb, ltb, eqb}
use borrow.Author.Tests.{ltb-true, leb-true, eqb-true, eqb-false, le-leb, eq-eqb, ne_eqb, not-true}
use Rattle.reassembly.specs.Lists.{bit, count}
use Rattle.reassembly.specs.Slots.{same_source, same_key, owner, busy, free_slot, opened, is_free, is_key, is_of, expired, expire1, expire, is_gate, held, free, idle_others, may_open}
use Rattle.reassembly.specs.declared.slot.Source.{Source}
use Rattle.reassembly.specs.declared.slot.Key.{Key}
use Rattle.reassembly.specs.declared.slot.Slot.{Slot}
use Rattle.reassembly.proofs.Tests.{by-test, by_order, not-true-false, and_left, and_right, or_cases}
use Rattle.reassembly.proofs.Lists.{count_set, count_none}
use Rattle.reassembly.proofs.Slots.{same_source-eq, same_source-refl, same_key-eq, same_key-refl}

-- ---- keys

pub is_key-busy : (k : Key) (s : Slot) → is_key k s ≡ true → busy s ≡ true
unfolding is_key
is_key-busy k s e = and_left (busy s) (same_key s.key k) e

pub is_key-key : (k : Key) (s : Slot) → is_key k s ≡ true → s.key ≡ k
unfolding is_key
is_key-key k s e = same_key-eq s.key k (and_right (busy s) (same_key s.key k) e)

pub is_key-of : (k : Key) (s : Slot) → busy s ≡ true → s.key ≡ k → is_key k s ≡ true
unfolding is_key
is_key-of k s e q = rw (e, q, same_key-refl k)

-- a slot that holds k is one of its gateway's
pub is_key-is_of : (k : Key) (s : Slot) → is_key k s ≡ true → is_of (owner k) s ≡ true
unfolding is_of
is_key-is_of k s e = rw (is_key-busy k s e, is_key-key k s e, same_source-refl (owner k))

-- ---- age

pub length-expire : (t : ℕ) (l : List Slot) → length (expire t l) ≡ length l
unfolding expire
length-expire t [] = refl
length-expire t (s ∷ l) = ap suc (length-expire t l)

pub expire1-young : (t : ℕ) (s : Slot) → expired t s ≡ false → expire1 t s ≡ s
unfolding expire1
expire1-young t s e = rw e

pub get_or-expire : (t : ℕ) (l : List Slot) (i : ℕ) → i < length l → get_or (expire t l) i free_slot ≡ expire1 t (get_or l i free_slot)
unfolding expire
get_or-expire t [] i h = absurd (not-suc-le-zero h)
get_or-expire t (s ∷ l) zero h = refl
get_or-expire t (s ∷ l) (suc i) h = get_or-expire t l i (le_of_suc-le-suc h)

-- a test that a free slot fails counts no more after the ageing
pub count-expire : (f : Slot → Bool) (t : ℕ) (l : List Slot) → f free_slot ≡ false → count f (expire t l) ≤ count f l
unfolding count expire expire1
count-expire f t [] e = omega arith
count-expire f t (s ∷ l) e =
    let r = count-expire f t l e in
    by-test (expired t s) (λ x. rw (x, e) (omega arith)) (λ x. rw x (omega arith))

pub free_slot-free : is_free free_slot ≡ true
unfolding is_free free_slot
free_slot-free = refl

pub free_slot-key : (k : Key) → is_key k free_slot ≡ false
unfolding is_key free_slot
free_slot-key k = refl

pub free_slot-of : (g : Source) → is_of g free_slot ≡ false
unfolding is_of free_slot
free_slot-of g = refl

pub expired-busy : (t : ℕ) (s : Slot) → expired t s ≡ true → busy s ≡ true
unfolding expired
expired-busy t s e = and_left (busy s) (leb 60000 (t - s.since)) e

pub young : (t : ℕ) (s : Slot) → t < s.since + 60000 → expired t s ≡ false
unfolding expired
young t s h = not-true-false (busy s && leb 60000 (t - s.since)) (λ e.
    let r = leb-true 60000 (t - s.since) (and_right (busy s) (leb 60000 (t - s.since)) e) in omega arith)

pub busy-not-free : (s : Slot) → busy s ≡ true → is_free s ≡ false
unfolding is_free
busy-not-free s e = rw e

pub free-not-busy : (s : Slot) → is_free s ≡ true → busy s ≡ false
unfolding is_free
free-not-busy s e = not-true (busy s) e

pub free-not-of : (g : Source) (s : Slot) → is_free s ≡ true → is_of g s ≡ false
unfolding is_of
free-not-of g s e = rw (free-not-busy s e)

pub free-not-key : (k : Key) (s : Slot) → is_free s ≡ true → is_key k s ≡ false
unfolding is_key
free-not-key k s e = rw (free-not-busy s e)

pub free-expire : (t : ℕ) (l : List Slot) → free (expire t l) ≡ free l + count (expired t) l
unfolding free count expire expire1
free-expire t [] = refl
free-expire t (s ∷ l) =
    let r = free-expire t l in
    by-test (expired t s)
    (λ x. rw (x, busy-not-free s (expired-busy t s x), free_slot-free) (omega arith))
    (λ x. rw x (omega arith))

-- ---- gateways: what each holds, and what is kept for each

-- a slot whose source is no gateway of the table
unfoldable pub stray : List Source → Slot → Bool
stray gs s = busy s && not (is_gate (owner s.key) gs)

-- what the gateways hold together
unfoldable pub total : List Source → List Slot → ℕ
total [] l = 0
total (g ∷ gs) l = held g l + total gs l

-- each gateway weighs what it holds, and one where it holds none
unfoldable pub load : List Source → List Slot → ℕ
load [] l = 0
load (g ∷ gs) l = max 1 (held g l) + load gs l

-- the gateways that hold none
unfoldable pub idle : List Source → List Slot → ℕ
idle gs l = count (λ h. eqb (held h l) 0) gs

pub load_split : (gs : List Source) (l : List Slot) → load gs l ≡ total gs l + idle gs l
unfolding load total idle count
load_split [] l = refl
load_split (g ∷ gs) l =
    let r = load_split gs l in
    by-test (eqb (held g l) 0)
    (λ e. let z = eqb-true (held g l) 0 e in rw e (omega arith))
    (λ e. let z = eqb-false (held g l) 0 e in rw e (omega (arith, z)))

-- a busy slot counts for its gateway, once
pub total-cons : (gs : List Source) (s : Slot) (l : List Slot) → total gs (s ∷ l) ≡ count (λ g. is_of g s) gs + total gs l
unfolding total count held
total-cons [] s l = refl
total-cons (g ∷ gs) s l = let r = total-cons gs s l in omega arith

count_of : (gs : List Source) (s : Slot) → busy s ≡ true → count (λ g. is_of g s) gs ≡ count (same_source (owner s.key)) gs
unfolding count is_of
count_of [] s e = refl
count_of (g ∷ gs) s e = let r = count_of gs s e in rw e (omega arith)

not-busy-of : (g : Source) (s : Slot) → busy s ≡ false → is_of g s ≡ false
unfolding is_of
not-busy-of g s e = rw e

not-busy-free : (s : Slot) → busy s ≡ false → is_free s ≡ true
unfolding is_free
not-busy-free s e = rw e

count-of-free : (gs : List Source) (s : Slot) → busy s ≡ false → count (λ g. is_of g s) gs ≡ 0
count-of-free gs s e = count_none (λ g. is_of g s) gs (λ g. not-busy-of g s e)

is_gate-count : (g : Source) (gs : List Source) → is_gate g gs ≡ true → 1 ≤ count (same_source g) gs
unfolding is_gate
is_gate-count g gs e = leb-true 1 (count (same_source g) gs) e

stray-not : (gs : List Source) (s : Slot) → busy s ≡ true → stray gs s ≡ false → is_gate (owner s.key) gs ≡ true
unfolding stray
stray-not gs s b e = go (busy s) b (is_gate (owner s.key) gs) e
  where
    go : (x : Bool) → x ≡ true → (y : Bool) → (x && not y) ≡ false → y ≡ true
    go x p true q = refl
    go true p false q = sym q
    go false p false q = p

total-nil : (gs : List Source) → total gs [] ≡ 0
unfolding total held count
total-nil [] = refl
total-nil (g ∷ gs) = let r = total-nil gs in omega arith

bit-zero : (b : Bool) (n : ℕ) → bit b + n ≡ 0 → b ≡ false
bit-zero true n e = absurd (omega arith)
bit-zero false n e = refl

-- what the gateways hold together is what is not free
pub total-busy : (gs : List Source) (l : List Slot) → ((g : Source) → count (same_source g) gs ≤ 1) → count (stray gs) l ≡ 0 → total gs l + free l ≡ length l
unfolding free count
total-busy gs [] dist z = let r = total-nil gs in omega arith
total-busy gs (s ∷ l) dist z =
    let r = total-busy gs l dist (omega arith) in
    let c = total-cons gs s l in
    by-test (busy s)
    (λ e.
    let st = bit-zero (stray gs s) (count (stray gs) l) z in
    let one = is_gate-count (owner s.key) gs (stray-not gs s e st) in
    rw (busy-not-free s e) (omega (arith, count_of gs s e, dist (owner s.key))))
    (λ e. rw (not-busy-free s e) (omega (arith, count-of-free gs s e)))

-- a gateway that holds none is among the idle
pub idle-has : (g : Source) (gs : List Source) (l : List Slot) → held g l ≡ 0 → count (same_source g) gs ≤ idle gs l
unfolding idle count
idle-has g [] l e = omega arith
idle-has g (h ∷ gs) l e =
    let r = idle-has g gs l e in
    by-test (same_source g h)
    (λ x. let q = same_source-eq g h x in
    let y : eqb (held h l) 0 ≡ true = eq-eqb (held h l) 0 (rw q at e) in
    rw (x, y) (omega arith))
    (λ x. rw x (omega arith))

-- the others that hold none, where g holds one
pub idle-others : (g : Source) (gs : List Source) (l : List Slot) → 1 ≤ held g l → idle_others g gs l ≡ idle gs l
unfolding idle idle_others count
idle-others g [] l e = refl
idle-others g (h ∷ gs) l e =
    let r = idle-others g gs l e in
    by-test (same_source h g)
    (λ x. let q = same_source-eq h g x in
    let y : eqb (held h l) 0 ≡ false = ne_eqb (held h l) 0 (rw q (omega arith)) in
    rw (x, y) (omega arith))
    (λ x. rw x (omega arith))

pub load-mono : (gs : List Source) (l m : List Slot) → ((h : Source) → max 1 (held h m) ≤ max 1 (held h l)) → load gs m ≤ load gs l
unfolding load
load-mono [] l m f = omega arith
load-mono (g ∷ gs) l m f = let r = load-mono gs l m f in let z = f g in omega arith

pub load-add : (g : Source) (gs : List Source) (l m : List Slot) → ((h : Source) → held h m ≤ held h l + bit (same_source g h)) → load gs m ≤ load gs l + count (same_source g) gs
unfolding load count
load-add g [] l m f = omega arith
load-add g (h ∷ gs) l m f = let r = load-add g gs l m f in let z = f h in omega arith

-- ---- the invariant of the slots

pub record Sound (gs : List Source) (l : List Slot) : Type 0 where
  pub eight : length l ≡ 8
  -- no key is open twice
  pub unique : (k : Key) → count (is_key k) l ≤ 1
  -- no gateway holds over three slots
  pub cap : (g : Source) → held g l ≤ 3
  -- only gateways hold slots
  pub owned : count (stray gs) l ≡ 0
  -- what the gateways hold, with one for each that holds none, is at most eight
  pub reserve : load gs l ≤ 8
  -- no two gateways are equal
  pub distinct : (g : Source) → count (same_source g) gs ≤ 1

-- the free slots are at least as many as the gateways that hold none
pub free-for-idle : (gs : List Source) (l : List Slot) → Sound gs l → idle gs l ≤ free l
free-for-idle gs l S = omega (arith, S.eight, S.reserve, load_split gs l, total-busy gs l S.distinct S.owned)

pub free_slot-stray : (gs : List Source) → stray gs free_slot ≡ false
unfolding stray free_slot
free_slot-stray gs = refl

pub sound-expire : (gs : List Source) (l : List Slot) (t : ℕ) → Sound gs l → Sound gs (expire t l)
sound-expire gs l t S = record {
  eight = length-expire t l ∙ S.eight;
  unique = λ k. omega (arith, count-expire (is_key k) t l (free_slot-key k), S.unique k);
  cap = λ g. omega (arith, held-expire g, S.cap g);
  owned = omega (arith, count-expire (stray gs) t l (free_slot-stray gs), S.owned);
  reserve = omega (arith, load-mono gs l (expire t l) (λ h. omega (arith, held-expire h)), S.reserve);
  distinct = S.distinct;
}
  where
    held-expire : (g : Source) → held g (expire t l) ≤ held g l
    held-expire g = unfold held in (count-expire (is_of g) t l (free_slot-of g))

-- a slot that becomes free, or keeps its key and stays busy if it was
pub data After (x y : Slot) : Type 0 where
  freed : x ≡ free_slot → After x y
  stays : busy x ≡ busy y → x.key ≡ y.key → After x y

-- a test that goes by `busy` and `key` alone, and that a free slot fails
pub record ByKey (f : Slot → Bool) : Type 0 where
  pub none : f free_slot ≡ false
  pub same : (x y : Slot) → busy x ≡ busy y → x.key ≡ y.key → f x ≡ f y

by_key-key : (k : Key) → ByKey (is_key k)
unfolding is_key
by_key-key k = record { none = free_slot-key k; same = λ x y p q. rw (p, q) }

by_key-of : (g : Source) → ByKey (is_of g)
unfolding is_of
by_key-of g = record { none = free_slot-of g; same = λ x y p q. rw (p, q) }

by_key-stray : (gs : List Source) → ByKey (stray gs)
unfolding stray
by_key-stray gs = record { none = free_slot-stray gs; same = λ x y p q. rw (p, q) }

after-le : (f : Slot → Bool) → ByKey f → (x y : Slot) → After x y → bit (f x) ≤ bit (f y)
after-le f B x y (freed e) = rw (e, B.none) (omega arith)
after-le f B x y (stays p q) = rw (B.same x y p q) (omega arith)

pub sound-land : (gs : List Source) (l : List Slot) (i : ℕ) (x : Slot) → Sound gs l → i < length l → After x (get_or l i free_slot) → Sound gs (set l i x)
sound-land gs l i x S h a = record {
  eight = length-set l i x ∙ S.eight;
  unique = λ k. omega (arith, less (is_key k) (by_key-key k), S.unique k);
  cap = λ g. omega (arith, held-less g, S.cap g);
  owned = omega (arith, less (stray gs) (by_key-stray gs), S.owned);
  reserve = omega (arith, load-mono gs l (set l i x) (λ g. omega (arith, held-less g)), S.reserve);
  distinct = S.distinct;
}
  where
    less : (f : Slot → Bool) → ByKey f → count f (set l i x) ≤ count f l
    less f B = omega (arith, count_set f l i x free_slot h, after-le f B x (get_or l i free_slot) a)

    held-less : (g : Source) → held g (set l i x) ≤ held g l
    held-less g = unfold held in (less (is_of g) (by_key-of g))

pub record MayOpen (g : Source) (gs : List Source) (l : List Slot) : Type 0 where
  pub room : 1 ≤ free l
  pub rule : (held g l ≡ 0) ⊎ ((held g l < 3) × (idle_others g gs l < free l))

pub may_open-rule : (g : Source) (gs : List Source) (l : List Slot) → may_open g gs l ≡ true → MayOpen g gs l
unfolding may_open
may_open-rule g gs l e =
    let a = leb 1 (free l) in
    let b = eqb (held g l) 0 in
    let c = ltb (held g l) 3 in
    let d = ltb (idle_others g gs l) (free l) in
    record {
      room = leb-true 1 (free l) (and_left a (b || (c && d)) e);
      rule = go (or_cases b (c && d) (and_right a (b || (c && d)) e));
    }
  where
    go : (eqb (held g l) 0 ≡ true) ⊎ ((ltb (held g l) 3 && ltb (idle_others g gs l) (free l)) ≡ true)
        → (held g l ≡ 0) ⊎ ((held g l < 3) × (idle_others g gs l < free l))
    go (inl h) = inl (eqb-true (held g l) 0 h)
    go (inr h) = inr (
      ltb-true (held g l) 3 (and_left (ltb (held g l) 3) (ltb (idle_others g gs l) (free l)) h),
      ltb-true (idle_others g gs l) (free l) (and_right (ltb (held g l) 3) (ltb (idle_others g gs l) (free l)) h),
    )

-- a gateway that holds none may open a slot
pub may_open-none : (g : Source) (gs : List Source) (l : List Slot) → Sound gs l → is_gate g gs ≡ true → held g l ≡ 0 → may_open g gs l ≡ true
unfolding may_open
may_open-none g gs l S m e =
    let one = is_gate-count g gs m in
    let r : 1 ≤ free l = omega (arith, idle-has g gs l e, free-for-idle gs l S) in
    rw (le-leb 1 (free l) r, eq-eqb (held g l) 0 e)

opened-key : (k k' : Key) (t : ℕ) → is_key k' (opened k t) ≡ same_key k k'
unfolding is_key opened
opened-key k k' t = refl

opened_of : (g : Source) (k : Key) (t : ℕ) → is_of g (opened k t) ≡ same_source (owner k) g
unfolding is_of opened
opened_of g k t = refl

opened-stray : (gs : List Source) (k : Key) (t : ℕ) → is_gate (owner k) gs ≡ true → stray gs (opened k t) ≡ false
unfolding stray opened
opened-stray gs k t e = rw e

pub sound-open : (gs : List Source) (l : List Slot) (j t : ℕ) (k : Key) (x : Slot) → Sound gs l → j < length l
    → After x (opened k t) → count (is_key k) l ≡ 0 → is_gate (owner k) gs ≡ true
    → may_open (owner k) gs l ≡ true → Sound gs (set l j x)
sound-open gs l j t k x S h a none gate may = record {
  eight = length-set l j x ∙ S.eight;
  unique = unique';
  cap = cap' (may_open-rule (owner k) gs l may).rule;
  owned = omega (arith, more (stray gs) (by_key-stray gs), S.owned, own);
  reserve = reserve' (may_open-rule (owner k) gs l may).rule;
  distinct = S.distinct;
}
  where
    more : (f : Slot → Bool) → ByKey f → count f (set l j x) ≤ count f l + bit (f (opened k t))
    more f B = omega (arith, count_set f l j x free_slot h, after-le f B x (opened k t) a)

    held_more : (g : Source) → held g (set l j x) ≤ held g l + bit (same_source (owner k) g)
    held_more g =
        let m : held g (set l j x) ≤ held g l + bit (is_of g (opened k t)) = unfold held in (more (is_of g) (by_key-of g)) in
        rw (opened_of g k t) at m

    own : bit (stray gs (opened k t)) ≡ 0
    own = rw (opened-stray gs k t gate)

    unique' : (k' : Key) → count (is_key k') (set l j x) ≤ 1
    unique' k' =
        let m : count (is_key k') (set l j x) ≤ count (is_key k') l + bit (same_key k k') = rw (opened-key k k' t) at (more (is_key k') (by_key-key k')) in
        by-test (same_key k k')
        (λ e.
        let z : count (is_key k') l ≡ 0 = rw (same_key-eq k k' e) at none in
        let m' : count (is_key k') (set l j x) ≤ count (is_key k') l + 1 = rw e at m in
        omega arith)
        (λ e.
        let m' : count (is_key k') (set l j x) ≤ count (is_key k') l + 0 = rw e at m in
        omega (arith, S.unique k'))

    cap' : (held (owner k) l ≡ 0) ⊎ ((held (owner k) l < 3) × (idle_others (owner k) gs l < free l)) → (g : Source) → held g (set l j x) ≤ 3
    cap' r g =
        by-test (same_source (owner k) g)
        (λ e.
        let q = same_source-eq (owner k) g e in
        let m : held g (set l j x) ≤ held g l + 1 = rw e at (held_more g) in
        let low : held g l < 3 = rw q at (low' r) in
        omega arith)
        (λ e.
        let m : held g (set l j x) ≤ held g l + 0 = rw e at (held_more g) in
        omega (arith, S.cap g))
      where
        low' : (held (owner k) l ≡ 0) ⊎ ((held (owner k) l < 3) × (idle_others (owner k) gs l < free l)) → held (owner k) l < 3
        low' (inl e) = omega arith
        low' (inr e) = e.0

    from-none : held (owner k) l ≡ 0 → load gs (set l j x) ≤ 8
    from-none e = omega (
      arith,
      S.reserve,
      load-mono gs l (set l j x) (λ g.
          by-test (same_source (owner k) g)
          (λ y.
          let z : held g l ≡ 0 = rw (same_source-eq (owner k) g y) at e in
          let m : held g (set l j x) ≤ held g l + 1 = rw y at (held_more g) in
          omega arith)
          (λ y. let m : held g (set l j x) ≤ held g l + 0 = rw y at (held_more g) in omega arith)),
    )

    reserve' : (held (owner k) l ≡ 0) ⊎ ((held (owner k) l < 3) × (idle_others (owner k) gs l < free l)) → load gs (set l j x) ≤ 8
    reserve' (inl e) = from-none e
    reserve' (inr e) = by_order 1 (held (owner k) l)
        (λ one. omega (
          arith,
          e.1,
          load-add (owner k) gs l (set l j x) held_more,
          S.distinct (owner k),
          idle-others (owner k) gs l one,
          load_split gs l,
          total-busy gs l S.distinct S.owned,
          S.eight,
        ))
        (λ zero'. from-none (omega arith))
