-- No cutting under the same limit and headers has fewer frames than ours, and ours is one of them.
use Prim.Native.Nat.{ℕ, zero, suc, ◌+◌, ◌-◌, ◌%◌, ◌≤◌, ◌<◌}
use native.Mathlib.Nat.{lt_of_not-le}
use native.Mathlib.Decide.{dec_le}
use native.Mathlib.Omega.{arith}
use mathlib.Core.List.{List, map}
use mathlib.Core.Path.{◌≡◌, refl, sym, ap, ◌∙◌}
use lib.ListN.{length, length-map}
use borrow.Author.Tests.{le-leb, lt-leb}
use Rattle.octets.specs.Read.{Answer, is, refused, and_then}
use Rattle.octets.proofs.Spans.{not-refused}
use Rattle.cutting.specs.Pieces.{units, piece_from, later_pieces, whole_length, first_part, later_room, pieces, Sane}
use Rattle.cutting.specs.Allowed.{Behind, last, more, Allowed, whole, alone, several}
use Rattle.cutting.specs.Cut.{plan_of, frame_of, cut, cut_count}
use Rattle.cutting.specs.declared.link.Link.{Link}
use Rattle.cutting.specs.declared.piece.Plan.{Plan}
use Rattle.cutting.specs.declared.piece.Piece.{Piece}
use Rattle.cutting.proofs.Cuttings.{cut-was}

-- the longest part of whole units
units-most : (n room : ℕ) → n ≤ room → n % 8 ≡ 0 → n ≤ units room
units-most n room h e = omega arith

module _ (p : Plan) where
  -- another cutting that is no further has as many parts to go
  behind-fewest : (fuel at b : ℕ) (ps : List Piece) → b ≤ at → Behind p b ps → length (later_pieces (later_room p) p.size fuel at) ≤ length ps
  unfolding later_pieces later_room
  behind-fewest zero at b ps h c = omega arith
  behind-fewest (suc fuel) at b ps h (last {n = n} k e) = rw (le-leb (p.size - at) (p.limit - (p.mac + 5)) (omega arith)) (omega arith)
  behind-fewest (suc fuel) at b ps h (more {n = n} {ps = qs} k e c) =
      let room : ℕ = p.limit - (p.mac + 5) in
      let m : n ≤ units room = units-most n room (omega arith) e in
      elim (dec_le (p.size - at) room) [
        | yes q ↦ rw (le-leb (p.size - at) room q) (omega arith)
        | no q ↦ rw (lt-leb (p.size - at) room (lt_of_not-le q)) (omega (arith, behind-fewest fuel (at + units room) (b + n) qs (omega arith) c))
      ]

  in_one : whole_length p ≤ p.limit → length (pieces p) ≡ 1
  unfolding pieces
  in_one h = rw (le-leb (whole_length p) p.limit h) refl

  in-several : p.limit < whole_length p → length (pieces p) ≡ suc (length (later_pieces (later_room p) p.size p.size (p.covers + first_part p)))
  unfolding pieces
  in-several h = rw (lt-leb (whole_length p) p.limit h) refl

  -- a lone fragment would fit without its fragment header
  lone : (n : ℕ) → p.mac + (4 + (p.head + n)) ≤ p.limit → p.covers + n ≡ p.size → whole_length p ≤ p.limit
  unfolding whole_length
  lone n h e = omega arith

  first-most : (n : ℕ) → p.mac + (4 + (p.head + n)) ≤ p.limit → n % 8 ≡ 0 → n ≤ first_part p
  unfolding first_part
  first-most n h e = units-most n (p.limit - (p.mac + (4 + p.head))) (omega arith) e

  pub fewest : (ps : List Piece) → Allowed p ps → length (pieces p) ≤ length ps
  fewest ps (whole h) = omega (arith, in_one h)
  fewest ps (alone {n = n} h e) = omega (arith, in_one (lone n h e))
  fewest ps (several {n = n} {ps = qs} h e c) =
      let m : n ≤ first_part p = first-most n h e in
      elim (dec_le (whole_length p) p.limit) [
        | yes q ↦ omega (arith, in_one q)
        | no q ↦ omega (arith, in-several (lt_of_not-le q), behind-fewest p.size (p.covers + first_part p) (p.covers + n) qs (omega arith) c)
      ]

  -- ---- ours is allowed
  behind-ours : (fuel at : ℕ) → p.mac + 13 ≤ p.limit → at ≤ p.size → p.size < at + fuel → Behind p at (later_pieces (later_room p) p.size fuel at)
  unfolding later_pieces later_room piece_from
  behind-ours zero at r h k = absurd (omega arith)
  behind-ours (suc fuel) at r h k =
      let room : ℕ = p.limit - (p.mac + 5) in
      elim (dec_le (p.size - at) room) [
        | yes q ↦ rw (le-leb (p.size - at) room q) (last {at = at} {n = p.size - at} (omega arith) (omega arith))
        | no q ↦ rw (lt-leb (p.size - at) room (lt_of_not-le q)) (more {at = at} {n = units room} (omega arith) (omega arith) (behind-ours fuel (at + units room) r (omega arith) (omega arith)))
      ]

  pub ours : Sane p → Allowed p (pieces p)
  unfolding pieces whole_length first_part
  ours s =
      let n : ℕ = units (p.limit - (p.mac + (4 + p.head))) in
      let w : ℕ = p.mac + (p.head + (p.size - p.covers)) in
      elim (dec_le w p.limit) [
        | yes q ↦ rw (le-leb w p.limit q) (whole q)
        | no q ↦
            let h : p.limit < w = lt_of_not-le q in
            rw (lt-leb w p.limit h)
            (several {n = n} (omega (arith, s.mac, s.head, s.low)) (omega arith) (behind-ours p.size (p.covers + n) (omega (arith, s.mac, s.low)) (omega (arith, s.covers)) (omega (arith, s.mac, s.head, s.low))))
      ]

-- ---- of a datagram
count-go : (l : Link) (d : List ℕ) (n : ℕ) (m : Answer (List (List ℕ))) → cut l d ≡ m → and_then m (λ fs. is (length fs)) ≡ is n → n ≡ length (pieces (plan_of l d))
count-go l d n (is fs) e q =
    let c : length fs ≡ n = cc in
    sym c ∙ ap (λ x. length x) (cut-was l d fs e).frames ∙ length-map (pieces (plan_of l d)) (frame_of l d)
count-go l d n (refused r) e q = not-refused n r q

pub frames-fewest : (l : Link) (d : List ℕ) (n : ℕ) (ps : List Piece) → cut_count l d ≡ is n → Allowed (plan_of l d) ps → n ≤ length (map (frame_of l d) ps)
unfolding cut_count
frames-fewest l d n ps e a = omega (arith, count-go l d n (cut l d) refl e, fewest (plan_of l d) ps a, length-map ps (frame_of l d))
