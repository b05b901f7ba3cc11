-- The part of a number, in place.
use Prim.Native.Nat.{ℕ, zero, suc, ◌+◌, ◌-◌, ◌*◌, ◌/◌, ◌≤◌, ◌<◌}
use native.Mathlib.Nat.{lt_of_not-le, suc-mul}
use native.Mathlib.Decide.{dec_le}
use native.Mathlib.Omega.{arith}
use mathlib.Core.List.{List, [], ◌∷◌}
use mathlib.Core.Bool.{Bool, true, false}
use mathlib.Core.Path.{◌≡◌, refl, sym, ap, ◌∙◌}
use lib.Dec.{leb}
use lib.ListN.{length}
use borrow.Author.Tests.{le-leb, lt-leb}
use Rattle.octets.specs.Read.{is, refused, choose}
use Rattle.cutting.specs.Pieces.{units, piece_from, later_pieces, whole_length, first_part, later_room, pieces, nth}
use Rattle.cutting.specs.declared.piece.Plan.{Plan}
use Rattle.cutting.specs.declared.piece.Piece.{Piece}
use Rattle.cutting.specs.declared.piece.Piece.TheVariants.{Whole, First}

-- ---- a list of one of two shapes
nth-zero : {A : Type 0} (t : Bool) (x : A) (xs ys : List A) → nth (choose t (x ∷ xs) (x ∷ ys)) 0 ≡ is x
nth-zero true x xs ys = refl
nth-zero false x xs ys = refl

nth-more : {A : Type 0} (t : Bool) (x : A) (ys : List A) (k : ℕ) → nth (choose t (x ∷ []) (x ∷ ys)) (suc k) ≡ choose t (refused 10) (nth ys k)
nth-more true x ys k = refl
nth-more false x ys k = refl

-- one test in another's place
choose-test : {A : Type 0} (a b r : ℕ) (x y z : A) → (a ≤ r → b ≤ r) → (r < a → y ≡ choose (leb b r) x z) → choose (leb a r) x y ≡ choose (leb b r) x z
choose-test a b r x y z f g = elim (dec_le a r) [ yes q ↦ rw (le-leb a r q, le-leb b r (f q)) refl | no q ↦ rw (lt-leb a r (lt_of_not-le q)) (g (lt_of_not-le q)) ]

-- ---- the parts behind the first
later_first : (room size fuel at : ℕ) → 1 ≤ fuel → nth (later_pieces room size fuel at) 0 ≡ is (piece_from room size at)
unfolding later_pieces
later_first room size zero at h = absurd (omega arith)
later_first room size (suc fuel) at h = nth-zero (leb (size - at) room) (piece_from room size at) [] (later_pieces room size fuel (at + units room))

later-nth : (room size : ℕ) → 8 ≤ room → (i fuel at b : ℕ) → at < size → size ≤ at + fuel → b ≡ at + i * units room → nth (later_pieces room size fuel at) (suc i) ≡ choose (leb (size - b) room) (refused 10) (is (piece_from room size (b + units room)))
unfolding later_pieces
later-nth room size r i zero at b h k e = absurd (omega arith)
later-nth room size r zero (suc fuel) at b h k e =
    let u : ℕ = units room in
    let z : b ≡ at = omega arith in
    rw z
    (nth-more (leb (size - at) room) (piece_from room size at) (later_pieces room size fuel (at + u)) 0
    ∙ choose-test (size - at) (size - at) room (refused 10) (nth (later_pieces room size fuel (at + u)) 0) (is (piece_from room size (at + u))) (λ q. q)
    (λ q. rw (lt-leb (size - at) room q) (later_first room size fuel (at + u) (omega arith))))
later-nth room size r (suc i) (suc fuel) at b h k e =
    let u : ℕ = units room in
    let m : suc i * u ≡ i * u + u = suc-mul i u in
    nth-more (leb (size - at) room) (piece_from room size at) (later_pieces room size fuel (at + u)) (suc i)
    ∙ choose-test (size - at) (size - b) room (refused 10) (nth (later_pieces room size fuel (at + u)) (suc i)) (is (piece_from room size (b + u))) (λ q. omega arith)
    (λ q. later-nth room size r i fuel (at + u) b (omega arith) (omega arith) (omega arith))

-- of the number j, as the code finds it
pub later-zero : (room size at j : ℕ) (p : Piece) → at < size → j ≡ 0 → p ≡ piece_from room size at → is p ≡ nth (later_pieces room size size at) j
later-zero room size at j p h z e = rw (z, e) (sym (later_first room size size at (omega arith)))

later-is : (room size at j t : ℕ) → 8 ≤ room → at < size → (j ≡ 0 → ⊥) → t ≡ (j - 1) * units room → nth (later_pieces room size size at) j ≡ choose (leb (size - (at + t)) room) (refused 10) (is (piece_from room size (at + t + units room)))
later-is room size at j t r h z e =
    let s : j ≡ suc (j - 1) = omega arith in
    let b : at + t ≡ at + (j - 1) * units room = ap (λ x. at + x) e in
    ap (nth (later_pieces room size size at)) s ∙ later-nth room size r (j - 1) size at (at + t) h (omega arith) b

pub later-past : (room size at j t : ℕ) → 8 ≤ room → at < size → (j ≡ 0 → ⊥) → t ≡ (j - 1) * units room → size ≤ at + t + room → refused 10 ≡ nth (later_pieces room size size at) j
later-past room size at j t r h z e k = sym (later-is room size at j t r h z e ∙ rw (le-leb (size - (at + t)) room (omega arith)) refl)

pub later-there : (room size at j t : ℕ) (p : Piece) → 8 ≤ room → at < size → (j ≡ 0 → ⊥) → t ≡ (j - 1) * units room → at + t + room < size → p ≡ piece_from room size (at + t + units room) → is p ≡ nth (later_pieces room size size at) j
later-there room size at j t p r h z e k q = ap is q ∙ sym (later-is room size at j t r h z e ∙ rw (lt-leb (size - (at + t)) room (omega arith)) refl)

-- ---- how many there are
length-choose : {A : Type 0} (t : Bool) (x : A) (ys : List A) → length (choose t (x ∷ []) (x ∷ ys)) ≡ choose t 1 (1 + length ys)
length-choose true x ys = refl
length-choose false x ys = omega arith

later-length : (room size fuel at : ℕ) → length (later_pieces room size (suc fuel) at) ≡ choose (leb (size - at) room) 1 (1 + length (later_pieces room size fuel (at + units room)))
unfolding later_pieces
later-length room size fuel at = length-choose (leb (size - at) room) (piece_from room size at) (later_pieces room size fuel (at + units room))

-- n are counted, and from the place `at` on there is one more and what follows it
abbrev pub Counted : ℕ → ℕ → ℕ → ℕ → ℕ → Type 0
Counted room size total at n = (fuel : ℕ) × (size ≤ at + fuel) × (total + 1 ≡ n + length (later_pieces room size fuel at))

pub count-start : (room size at : ℕ) → Counted room size (length (later_pieces room size size at)) at 1
count-start room size at = (size, omega arith, omega arith)

pub count-more : (room size total at n : ℕ) → 8 ≤ room → at < size → room < size - at → Counted room size total at n → Counted room size total (at + units room) (n + 1)
count-more room size total at n r h k (zero, f, e) = absurd (omega arith)
count-more room size total at n r h k (suc fuel, f, e) =
    let l : length (later_pieces room size (suc fuel) at) ≡ 1 + length (later_pieces room size fuel (at + units room)) = later-length room size fuel at ∙ rw (lt-leb (size - at) room k) refl in
    (fuel, omega arith, omega arith)

pub count-end : (room size total at n : ℕ) → at < size → size - at ≤ room → Counted room size total at n → n ≡ total
count-end room size total at n h k (zero, f, e) = absurd (omega arith)
count-end room size total at n h k (suc fuel, f, e) =
    let l : length (later_pieces room size (suc fuel) at) ≡ 1 = later-length room size fuel at ∙ rw (le-leb (size - at) room k) refl in
    omega arith

-- ---- the pieces
module _ (p : Plan) where
  -- as the code computes them
  abbrev whole : ℕ
  whole = p.mac + (p.head + (p.size - p.covers))

  abbrev first : ℕ
  first = (p.limit - (p.mac + (4 + p.head))) / 8 * 8

  abbrev room : ℕ
  room = p.limit - (p.mac + 5)

  pub whole-zero : (k : ℕ) → whole ≤ p.limit → k ≡ 0 → is Whole ≡ nth (pieces p) k
  unfolding pieces whole_length first_part later_room
  whole-zero k h z = rw (z, le-leb whole p.limit h) refl

  pub whole-past : (k : ℕ) → whole ≤ p.limit → (k ≡ 0 → ⊥) → refused 10 ≡ nth (pieces p) k
  unfolding pieces whole_length first_part later_room
  whole-past k h z =
      let s : k ≡ suc (k - 1) = omega arith in
      rw (s, le-leb whole p.limit h) refl

  pub first-zero : (k n : ℕ) → p.limit < whole → k ≡ 0 → n ≡ first → is (First n) ≡ nth (pieces p) k
  unfolding pieces whole_length first_part later_room
  first-zero k n h z e = rw (z, lt-leb whole p.limit h) (ap (λ x. is (First x)) e)

  pub later_more : (k : ℕ) → p.limit < whole → (k ≡ 0 → ⊥) → nth (later_pieces room p.size p.size (p.covers + first)) (k - 1) ≡ nth (pieces p) k
  unfolding pieces whole_length first_part later_room
  later_more k h z =
      let s : k ≡ suc (k - 1) = omega arith in
      sym (ap (nth (pieces p)) s ∙ rw (lt-leb whole p.limit h) refl)

  pub whole-count : whole ≤ p.limit → 1 ≡ length (pieces p)
  unfolding pieces whole_length first_part later_room
  whole-count h = rw (le-leb whole p.limit h) refl

  pub later-count : (n : ℕ) → p.limit < whole → n ≡ length (later_pieces room p.size p.size (p.covers + first)) → 1 + n ≡ length (pieces p)
  unfolding pieces whole_length first_part later_room
  later-count n h e = rw (lt-leb whole p.limit h) (omega arith)

-- ---- what the check takes from here
pub ruleset later_told = (later-zero, later-past, later-there)

pub ruleset piece_told = (whole-zero, whole-past, first-zero, later_more)

pub ruleset count_told = (whole-count, later-count)
