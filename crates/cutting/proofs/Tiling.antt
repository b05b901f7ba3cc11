-- Laws of the definition: the parts tile the datagram, and every frame is within the limit.
use Prim.Native.Nat.{ℕ, zero, suc, ◌+◌, ◌-◌, ◌%◌, ◌≤◌, ◌<◌}
use native.Mathlib.Nat.{lt_of_not-le}
use native.Mathlib.Decide.{dec_le}
use native.Mathlib.Omega.{arith}
use mathlib.Core.List.{List, [], ◌∷◌, ◌++◌, map, append-nil}
use mathlib.Core.Logic.{◌⊎◌, inl, inr}
use mathlib.Core.Bool.{Bool, true, false}
use mathlib.Core.Path.{◌≡◌, refl, sym, ap, ◌∙◌}
use lib.ListN.{length, take, drop, length-drop, length-take, take-append-drop}
use lib.Seq.{take_all, drop-drop}
use borrow.Author.Tests.{le-leb, lt-leb}
use Rattle.octets.specs.Read.{choose}
use Rattle.ieee802154.proofs.WriteSteps as MacSteps
use Rattle.cutting.specs.Fields.{is_udp}
use Rattle.cutting.specs.Head.{mac_of, mac_length, head_length, covers}
use Rattle.cutting.specs.Pieces.{units, piece_from, later_pieces, whole_length, first_part, later_room, pieces}
use Rattle.cutting.specs.Cut.{plan_of, part_of, frame_of}
use Rattle.cutting.specs.declared.link.Link.{Link}
use Rattle.cutting.specs.declared.piece.Piece.{Piece}
use Rattle.cutting.specs.declared.piece.Piece.TheVariants.{Whole, First, Later}
use Rattle.cutting.proofs.HeadLaws.{head-most}
use Rattle.cutting.specs.Cut.{Ready}
use Rattle.cutting.proofs.WriteLaws.{middle-is, frame-length}

-- it holds of every element
abbrev pub Each : {A : Type 0} → (A → Type 0) → List A → Type 0
Each P [] = Unit {0}
Each P (x ∷ xs) = P x × Each P xs

-- ---- a later part: where it may begin, and how long it may be
pub record Good (room size least at n : ℕ) : Type 0 where
  pub begins : least ≤ at
  pub aligned : at % 8 ≡ 0
  pub some : 1 ≤ n
  pub held : n ≤ room
  pub ends : at + n ≤ size
  pub whole : (n % 8 ≡ 0) ⊎ (at + n ≡ size)

module _ (room size least : ℕ) (r : 8 ≤ room) (P : Piece → Type 0) (f : (at n : ℕ) → Good room size least at n → P (Later at n)) where
  pub later-each : (fuel at : ℕ) → least ≤ at → at % 8 ≡ 0 → at < size → size ≤ at + fuel → Each P (later_pieces room size fuel at)
  unfolding later_pieces piece_from
  later-each zero at b a h k = absurd (omega arith)
  later-each (suc fuel) at b a h k =
      elim (dec_le (size - at) room) [
        | yes q ↦
            let e : at + (size - at) ≡ size = omega arith in
            rw (le-leb (size - at) room q) (f at (size - at) (record { begins = b; aligned = a; some = omega arith; held = q; ends = omega arith; whole = inr e }), tt)
        | no q ↦
            let m : room < size - at = lt_of_not-le q in
            let e : units room % 8 ≡ 0 = omega arith in
            rw (lt-leb (size - at) room m) (f at (units room) (record { begins = b; aligned = a; some = omega arith; held = omega arith; ends = omega arith; whole = inl e }), later-each fuel (at + units room) (omega arith) (omega arith) (omega arith) (omega arith))
      ]

-- ---- every frame is within the limit
part-most : (s : List ℕ) (n : ℕ) → length (take n s) ≤ n
part-most s n = omega (arith, length-take n s)

covers-aligned : (t : Bool) → choose t 48 40 % 8 ≡ 0
covers-aligned true = refl
covers-aligned false = refl

covers-forty : (t : Bool) → 40 ≤ choose t 48 40
covers-forty true = omega arith
covers-forty false = omega arith

pub covers-least : (d : List ℕ) → 40 ≤ covers d
unfolding covers
covers-least d = covers-forty (is_udp d)

-- a first part: how many bytes follow the headers
pub record FirstPart (l : Link) (d : List ℕ) (n : ℕ) : Type 0 where
  pub held : n ≤ l.limit - (mac_length l + (4 + head_length l d))
  pub aligned : (covers d + n) % 8 ≡ 0
  pub ends : covers d + n < length d

pub covers-units : (d : List ℕ) → covers d % 8 ≡ 0
unfolding covers
covers-units d = covers-aligned (is_udp d)

module _ (l : Link) (d : List ℕ) (h : Ready l d) where
  abbrev pub Within : Piece → Type 0
  Within p = length (frame_of l d p) ≤ l.limit

  pub whole-within : mac_length l + (head_length l d + (length d - covers d)) ≤ l.limit → Within Whole
  unfolding part_of
  whole-within k = omega (arith, frame-length l d Whole (mac_length l) (head_length l d) (length (drop (covers d) d)) refl (middle-is l d Whole) refl, length-drop (covers d) d)

  pub first-within : (n : ℕ) → n ≤ l.limit - (mac_length l + (4 + head_length l d)) → Within (First n)
  unfolding part_of
  first-within n k = omega (arith, frame-length l d (First n) (mac_length l) (4 + head_length l d) (length (take n (drop (covers d) d))) refl (middle-is l d (First n)) refl, part-most (drop (covers d) d) n, MacSteps.length_most (mac_of l), head-most l d)

  pub later-within : (at n : ℕ) → n ≤ l.limit - (mac_length l + 5) → Within (Later at n)
  unfolding part_of
  later-within at n k = omega (arith, frame-length l d (Later at n) (mac_length l) 5 (length (take n (drop at d))) refl (middle-is l d (Later at n)) refl, part-most (drop at d) n, MacSteps.length_most (mac_of l))

  -- what holds of a datagram in one frame, of a first part and of every later one holds of every piece
  module _ (P : Piece → Type 0) (whole : mac_length l + (head_length l d + (length d - covers d)) ≤ l.limit → P Whole) (first : (n : ℕ) → FirstPart l d n → P (First n)) (later : (least at n : ℕ) → 1 ≤ least → Good (l.limit - (mac_length l + 5)) (length d) least at n → P (Later at n)) where
    pub pieces-each : Each P (pieces (plan_of l d))
    unfolding pieces whole_length first_part later_room plan_of
    pieces-each =
        elim (dec_le (mac_length l + (head_length l d + (length d - covers d))) l.limit) [
          | yes q ↦ rw (le-leb (mac_length l + (head_length l d + (length d - covers d))) l.limit q) (whole q, tt)
          | no q ↦
              let m : l.limit < mac_length l + (head_length l d + (length d - covers d)) = lt_of_not-le q in
              let a : mac_length l ≤ 23 = MacSteps.length_most (mac_of l) in
              let b : head_length l d ≤ 43 = head-most l d in
              let c : covers d % 8 ≡ 0 = covers-units d in
              let g : 40 ≤ covers d = covers-least d in
              let n : ℕ = units (l.limit - (mac_length l + (4 + head_length l d))) in
              let e : (covers d + n) % 8 ≡ 0 = omega arith in
              rw (lt-leb (mac_length l + (head_length l d + (length d - covers d))) l.limit m)
              (first n (record { held = omega arith; aligned = e; ends = omega arith }), later-each (l.limit - (mac_length l + 5)) (length d) (covers d + n) (omega arith) P (λ at k v. later (covers d + n) at k (omega arith) v) (length d) (covers d + n) (omega arith) e (omega arith) (omega arith))
        ]

  pub frames-within : Each Within (pieces (plan_of l d))
  frames-within = pieces-each Within whole-within (λ n f. first-within n f.held) (λ least at n b g. later-within at n g.held)

-- ---- the parts tile the datagram: what the headers stand for, and then the parts one after the other
abbrev pub joined : List (List ℕ) → List ℕ
joined [] = []
joined (x ∷ xs) = x ++ joined xs

cut_at : (d : List ℕ) (at n : ℕ) → take n (drop at d) ++ drop (at + n) d ≡ drop at d
cut_at d at n = ap (λ z. take n (drop at d) ++ z) (sym (drop-drop n at d)) ∙ take-append-drop n (drop at d)

later-tiles : (d : List ℕ) (room : ℕ) → 8 ≤ room → (fuel at : ℕ) → at < length d → length d ≤ at + fuel → joined (map (part_of d) (later_pieces room (length d) fuel at)) ≡ drop at d
unfolding later_pieces piece_from part_of
later-tiles d room r zero at h k = absurd (omega arith)
later-tiles d room r (suc fuel) at h k =
    elim (dec_le (length d - at) room) [
      | yes q ↦ rw (le-leb (length d - at) room q) (append-nil (take (length d - at) (drop at d)) ∙ take_all (length d - at) (drop at d) (omega (arith, length-drop at d)))
      | no q ↦
          let m : room < length d - at = lt_of_not-le q in
          rw (lt-leb (length d - at) room m, later-tiles d room r fuel (at + units room) (omega arith) (omega arith)) (cut_at d at (units room))
    ]

pub parts-tile : (l : Link) (d : List ℕ) → Ready l d → take (covers d) d ++ joined (map (part_of d) (pieces (plan_of l d))) ≡ d
unfolding pieces whole_length first_part later_room plan_of part_of
parts-tile l d h =
    elim (dec_le (mac_length l + (head_length l d + (length d - covers d))) l.limit) [
      | yes q ↦ rw (le-leb (mac_length l + (head_length l d + (length d - covers d))) l.limit q) (ap (λ z. take (covers d) d ++ z) (append-nil (drop (covers d) d)) ∙ take-append-drop (covers d) d)
      | no q ↦
          let m : l.limit < mac_length l + (head_length l d + (length d - covers d)) = lt_of_not-le q in
          let a : mac_length l ≤ 23 = MacSteps.length_most (mac_of l) in
          let b : head_length l d ≤ 43 = head-most l d in
          let n : ℕ = units (l.limit - (mac_length l + (4 + head_length l d))) in
          rw (lt-leb (mac_length l + (head_length l d + (length d - covers d))) l.limit m, later-tiles d (l.limit - (mac_length l + 5)) (omega arith) (length d) (covers d + n) (omega arith) (omega arith))
          (ap (λ z. take (covers d) d ++ z) (cut_at d (covers d) n) ∙ take-append-drop (covers d) d)
    ]

-- ---- each piece begins where the one before ended, the first at byte 0, and the last ends with the datagram
abbrev pub start_of : Piece → ℕ
start_of Whole = 0
start_of (First n) = 0
start_of (Later at n) = at

abbrev pub end_of : List ℕ → Piece → ℕ
end_of d Whole = length d
end_of d (First n) = covers d + n
end_of d (Later at n) = at + n

abbrev pub Chain : List ℕ → ℕ → List Piece → Type 0
Chain d b [] = b ≡ length d
Chain d b (x ∷ xs) = (start_of x ≡ b) × Chain d (end_of d x) xs

later-chain : (d : List ℕ) (room : ℕ) → 8 ≤ room → (fuel at : ℕ) → at < length d → length d ≤ at + fuel → Chain d at (later_pieces room (length d) fuel at)
unfolding later_pieces piece_from
later-chain d room r zero at h k = absurd (omega arith)
later-chain d room r (suc fuel) at h k =
    elim (dec_le (length d - at) room) [
      | yes q ↦
          let e : at + (length d - at) ≡ length d = omega arith in
          rw (le-leb (length d - at) room q) (refl, e)
      | no q ↦
          let m : room < length d - at = lt_of_not-le q in
          rw (lt-leb (length d - at) room m) (refl, later-chain d room r fuel (at + units room) (omega arith) (omega arith))
    ]

pub pieces-chain : (l : Link) (d : List ℕ) → Ready l d → Chain d 0 (pieces (plan_of l d))
unfolding pieces whole_length first_part later_room plan_of
pieces-chain l d h =
    elim (dec_le (mac_length l + (head_length l d + (length d - covers d))) l.limit) [
      | yes q ↦ rw (le-leb (mac_length l + (head_length l d + (length d - covers d))) l.limit q) (refl, refl)
      | no q ↦
          let m : l.limit < mac_length l + (head_length l d + (length d - covers d)) = lt_of_not-le q in
          let a : mac_length l ≤ 23 = MacSteps.length_most (mac_of l) in
          let b : head_length l d ≤ 43 = head-most l d in
          let n : ℕ = units (l.limit - (mac_length l + (4 + head_length l d))) in
          rw (lt-leb (mac_length l + (head_length l d + (length d - covers d))) l.limit m)
          (refl, later-chain d (l.limit - (mac_length l + 5)) (omega arith) (length d) (covers d + n) (omega arith) (omega arith))
    ]
