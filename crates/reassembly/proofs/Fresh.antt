-- The gateway list: seats filled one after the other, and what 14 lets pass.
use Rattle.std.specs.Prelude.{Result, Ok, Err}
use Prim.Native.Nat.{ℕ, zero, suc, ◌+◌, ◌-◌, ◌≤◌, ◌<◌}
use native.Mathlib.Nat.{not-suc-le-zero, le_of_suc-le-suc}
use native.Mathlib.Numerals.{add-one}
use native.Mathlib.Omega.{arith}
use mathlib.Core.Path.{◌≡◌, refl, sym, ap, ◌∙◌}
use mathlib.Core.Bool.{Bool, true, false, not, ◌||◌}
use mathlib.Core.List.{List, [], ◌∷◌, ◌++◌, map}
use lib.ListN.{length, get_or, set, take, replicate, length-map}
use lib.Seq.{take_at, length-take-le}
use lib.Dec.{ltb, leb}
use borrow.Author.Tests.{lt-ltb, le-ltb, ltb-false, leb-false}
use Rattle.octets.specs.Read.{Answer, is, refused}
use Rattle.octets.specs.Answers.{of_answer}
use Rattle.octets.specs.Refusal.{number_of}
use Rattle.octets.specs.declared.refusal.Refusal.{Refusal}
use Rattle.octets.proofs.Spans.{not-refused}
use Rattle.reassembly.specs.Lists.{bit, count, first_at, those}
use Rattle.reassembly.specs.Slots.{no_source, same_source, present, free_slot}
use Rattle.reassembly.specs.Fresh.{gate_of, seats, fresh, sources, unfit, refused_list, listed, seated, made, Begins, Gateways}
use Rattle.reassembly.specs.declared.slot.Source.{Source}
use Rattle.reassembly.specs.declared.table.Table.{Table}
use Rattle.reassembly.specs.declared.table.Gateway.{Gateway}
use Rattle.reassembly.proofs.Tests.{by-test, by_order, not-true-false, no_both}
use Rattle.reassembly.proofs.Lists.{count_at, first_at-found, first_at-holds}
use Rattle.reassembly.proofs.Slots.{same_source-eq}

-- ---- seats

seat-set : (l : List Gateway) (i k : ℕ) (d : Gateway) → i < length l
    → set (map gate_of (take i l) ++ replicate (suc k) no_source) i (gate_of (get_or l i d)) ≡ map gate_of (take (suc i) l) ++ replicate k no_source
seat-set [] i k d h = absurd (not-suc-le-zero h)
seat-set (a ∷ l) zero k d h = refl
seat-set (a ∷ l) (suc i) k d h = ap (λ z. gate_of a ∷ z) (seat-set l i k d (le_of_suc-le-suc h))

pub length-sources : (n : ℕ) (l : List Gateway) → n ≤ length l → length (sources n l) ≡ n
unfolding sources
length-sources n l h = length-map (take n l) gate_of ∙ length-take-le n l h

pub seat-none : (l : List Gateway) → replicate 4 no_source ≡ seats (sources 0 l)
unfolding seats sources
seat-none l = refl

pub seat-more : (l : List Gateway) (i : ℕ) (d : Gateway) → length l ≡ 4 → i < 4 → set (seats (sources i l)) i (gate_of (get_or l i d)) ≡ seats (sources (i + 1) l)
unfolding seats sources
seat-more l i d n h =
    let a : length (map gate_of (take i l)) ≡ i = length-map (take i l) gate_of ∙ length-take-le i l (omega arith) in
    let b : length (map gate_of (take (suc i) l)) ≡ suc i = length-map (take (suc i) l) gate_of ∙ length-take-le (suc i) l (omega arith) in
    let k : 4 - i ≡ suc (4 - suc i) = omega arith in
    rw (add-one, a, b, k) (seat-set l i (4 - suc i) d (omega arith))

pub take-seats : (n : ℕ) (l : List Gateway) → n ≤ length l → take n (seats (sources n l)) ≡ sources n l
unfolding seats
take-seats n l h = take_at (sources n l) (replicate (4 - length (sources n l)) no_source) n (length-sources n l h)

-- ---- what `seat` answers

module _ (n : ℕ) (l : List Gateway) where
  pub seated_long : 4 < n → seated n (sources n l) ≡ refused 14
  unfolding seated refused_list
  seated_long h = rw (lt-ltb 4 n h)

  module _ (short : n ≤ 4) where
    pub seated_unfit : leb 1 (count (unfit (sources n l)) (sources n l)) ≡ true → seated n (sources n l) ≡ refused 14
    unfolding seated refused_list
    seated_unfit h = rw (le-ltb 4 n short, h)

    pub seated_fit : leb 1 (count (unfit (sources n l)) (sources n l)) ≡ false → seated n (sources n l) ≡ is (seats (sources n l))
    unfolding seated refused_list
    seated_fit h = rw (le-ltb 4 n short, h)

-- ---- a list that is not refused

fit-present : (gs : List Source) (g : Source) → unfit gs g ≡ false → present g ≡ true
unfolding unfit
fit-present gs g e = by-test (present g) (λ h. h) (λ h. no_both true refl (rw h at e))

all_fit : (gs l : List Source) → count (unfit gs) l ≡ 0 → those present l ≡ l
unfolding count those
all_fit gs [] z = refl
all_fit gs (g ∷ l) z = by-test (unfit gs g)
    (λ e. let b : bit (unfit gs g) ≡ 1 = rw e in absurd (omega arith))
    (λ e. rw (fit-present gs g e) (ap (λ r. g ∷ r) (all_fit gs l (omega arith))))

fit-once : (gs : List Source) (g : Source) → unfit gs g ≡ false → count (same_source g) gs ≤ 1
unfolding unfit
fit-once gs g e = by_order (count (same_source g) gs) 1 (λ h. h) (λ h. no_both true refl (rw (lt-ltb 1 (count (same_source g) gs) h, or-true (not (present g))) at e))
  where
    or-true : (b : Bool) → (b || true) ≡ true
    or-true true = refl
    or-true false = refl

or_no : (a b : Bool) → (a || b) ≡ false → (a ≡ false) × (b ≡ false)
or_no true b q = (cc, cc)
or_no false b q = (refl, q)

pub accepted : (n : ℕ) (l : List Gateway) → n ≤ length l → refused_list n (sources n l) ≡ false → Gateways (sources n l)
unfolding refused_list
accepted n l h e =
    let gs = sources n l in
    let w = or_no (ltb 4 n) (leb 1 (count (unfit gs) gs)) e in
    let z : count (unfit gs) gs ≡ 0 = omega (arith, leb-false 1 (count (unfit gs) gs) w.1) in
    let short = ltb-false 4 n w.0 in
    record {
      four = omega (arith, length-sources n l h);
      seated = all_fit gs gs z;
      distinct = λ g. by_order 1 (count (same_source g) gs)
          (λ c.
          let i = first_at (same_source g) gs in
          let low = first_at-found (same_source g) gs c in
          let same : g ≡ get_or gs i no_source = same_source-eq g (get_or gs i no_source) (first_at-holds (same_source g) gs no_source low) in
          let fit : unfit gs (get_or gs i no_source) ≡ false = not-true-false (unfit gs (get_or gs i no_source)) (λ u. omega (arith, count_at (unfit gs) gs i no_source low u)) in
          rw same (fit-once gs (get_or gs i no_source) fit))
          (λ c. omega arith);
    }

-- ---- what the answer says of the list

pub sources-are : (n : ℕ) (l : List Gateway) → sources n l ≡ map gate_of (take n l)
unfolding sources
sources-are n l = refl

pub refuses-long : (n : ℕ) (gs : List Source) → 4 < n → refused_list n gs ≡ true
unfolding refused_list
refuses-long n gs h = rw (lt-ltb 4 n h)

pub not-long : (n : ℕ) (gs : List Source) → refused_list n gs ≡ false → n ≤ 4
unfolding refused_list
not-long n gs e = ltb-false 4 n (or_no (ltb 4 n) (leb 1 (count (unfit gs) gs)) e).0

-- an answer y to the list says whether it is refused
module _ (n : ℕ) (l : List Gateway) (y : Result (Unit {0}) Refusal) (A : of_answer y ≡ listed n (sources n l)) where
  pub when-accepted : y ≡ (Ok tt) → refused_list n (sources n l) ≡ false
  unfolding listed
  when-accepted a = by-test (refused_list n (sources n l)) (λ e. not-refused tt 14 (sym (A ∙ rw e) ∙ ap of_answer a)) (λ e. e)

  pub when-refused : (r : Refusal) → y ≡ Err r → (refused_list n (sources n l) ≡ true) × (number_of r ≡ 14)
  unfolding listed
  when-refused r a = by-test (refused_list n (sources n l))
      (λ e. (e, number_is (sym (ap of_answer a) ∙ A ∙ rw e)))
      (λ e. not-refused tt (number_of r) (sym (ap of_answer a) ∙ A ∙ rw e))
    where
      number_is : {m k : ℕ} → ◌≡◌ {A = Answer (Unit {0})} (refused m) (refused k) → m ≡ k
      number_is q = cc q

-- a table begun with the seats that `seat` answers, and one that a refused list leaves
module _ (n : ℕ) (l : List Gateway) (t : Table) where
  pub begins-accepted : (g : List Source) → is g ≡ seated n (sources n l) → (x : Table) → x ≡ record { slots = replicate 8 free_slot; last = 0; gateways = g } → Begins (Ok tt) t x n l
  unfolding seated listed made fresh
  begins-accepted g a x e = by-test (refused_list n (sources n l))
      (λ h. not-refused g 14 (sym (a ∙ rw h)))
      (λ h.
      let q : g ≡ seats (sources n l) = is-one (a ∙ rw h) in
      record { answer = rw h; table = e ∙ rw (h, q) })
    where
      is-one : {x y : List Source} → ◌≡◌ {A = Answer (List Source)} (is x) (is y) → x ≡ y
      is-one q = cc q

  pub begins-refused : (r : Refusal) → refused (number_of r) ≡ seated n (sources n l) → Begins (Err r) t t n l
  unfolding seated listed made
  begins-refused r a = by-test (refused_list n (sources n l))
      (λ h. record { answer = number_is {m = number_of r} {k = 14} (a ∙ rw h) ∙ rw h; table = rw h })
      (λ h. not-refused (seats (sources n l)) (number_of r) (a ∙ rw h))
    where
      number_is : {m k : ℕ} → ◌≡◌ {A = Answer (List Source)} (refused m) (refused k) → ◌≡◌ {A = Answer (Unit {0})} (refused m) (refused k)
      number_is q = cc q

module _ (n : ℕ) (l : List Gateway) (y : Result (Unit {0}) Refusal) (t x : Table) (B : Begins y t x n l) where
  pub when-fit : refused_list n (sources n l) ≡ false → x ≡ fresh (sources n l)
  unfolding made
  when-fit e = rw e at B.table

-- the table that a list makes that is accepted is a fresh one, and the list is one that 14 lets pass
pub new-fresh : (n : ℕ) (l : List Gateway) (t x : Table) → length l ≡ 4 → Begins (Ok tt) t x n l → (x ≡ fresh (sources n l)) × Gateways (sources n l)
new-fresh n l t x four B =
    let e = when-accepted n l (Ok tt) B.answer refl in
    (when-fit n l (Ok tt) t x B e, accepted n l (omega (arith, not-long n (sources n l) e)) e)

-- its last time
pub fresh-last : (gs : List Source) → (fresh gs).last ≡ 0
unfolding fresh
fresh-last gs = refl
