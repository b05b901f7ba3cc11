-- What a cutting is: nothing was refused, every frame is a piece's, and none is over the limit.
use Prim.Native.Nat.{ℕ, zero, suc, ◌+◌, ◌-◌, ◌≤◌}
use native.Mathlib.Nat.{lt_of_not-le}
use native.Mathlib.Decide.{dec_le}
use native.Mathlib.Omega.{arith}
use mathlib.Core.List.{List, [], ◌∷◌, map}
use mathlib.Core.Bool.{Bool, true, false}
use mathlib.Core.Path.{◌≡◌, refl, sym, ap, subst, ◌∙◌}
use lib.Dec.{leb}
use lib.ListN.{length, length-map}
use borrow.Author.Tests.{le-leb, lt-leb}
use Rattle.octets.specs.Read.{Answer, is, refused, and_then, choose}
use Rattle.octets.proofs.Spans.{not-refused}
use Rattle.cutting.specs.Fields.{is_ours}
use Rattle.cutting.specs.Head.{mac_length, head_length, covers}
use Rattle.cutting.specs.Pieces.{units, later_pieces, whole_length, first_part, later_room, pieces, nth}
use Rattle.cutting.specs.Cut.{plan_of, frame_of, in_range, Ready, has_both, cut, cut_frame, cut_count, answered}
use Rattle.cutting.specs.declared.link.Link.{Link}
use Rattle.cutting.proofs.WriteLaws.{in-range}
use Rattle.cutting.proofs.Tiling.{Each, frames-within}

-- ---- what a cutting says: nothing was refused
pub record Was (l : Link) (d : List ℕ) (fs : List (List ℕ)) : Type 0 where
  pub range : in_range l d ≡ true
  pub both : has_both l ≡ true
  pub ours : is_ours d ≡ true
  pub frames : fs ≡ map (frame_of l d) (pieces (plan_of l d))

cut-go : {A : Type 0} (a b c : Bool) (x y : A) → choose a (choose b (choose c (is x) (refused 16)) (refused 6)) (refused 4) ≡ is y → (a ≡ true) × (b ≡ true) × (c ≡ true) × (y ≡ x)
cut-go true true true x y e = (refl, refl, refl, cc)
cut-go true true false x y e = not-refused y 16 e
cut-go true false c x y e = not-refused y 6 e
cut-go false b c x y e = not-refused y 4 e

pub cut-was : (l : Link) (d : List ℕ) (fs : List (List ℕ)) → cut l d ≡ is fs → Was l d fs
unfolding cut
cut-was l d fs e =
    let w = cut-go (in_range l d) (has_both l) (is_ours d) (map (frame_of l d) (pieces (plan_of l d))) fs e in
    record { range = w.0; both = w.1; ours = w.2; frames = w.3 }

pub cut-ready : (l : Link) (d : List ℕ) (fs : List (List ℕ)) → cut l d ≡ is fs → Ready l d
cut-ready l d fs e = in-range l d (in_range l d) refl (cut-was l d fs e).range

-- ---- every frame of the cutting is at most the limit
each_map : {A B : Type 0} (f : A → B) (P : B → Type 0) (xs : List A) → Each (λ x. P (f x)) xs → Each P (map f xs)
each_map f P [] e = tt
each_map f P (x ∷ xs) e = (e.0, each_map f P xs e.1)

pub frames-limit : (l : Link) (d : List ℕ) (fs : List (List ℕ)) → cut l d ≡ is fs → Each (λ f. length f ≤ l.limit) fs
frames-limit l d fs e =
    subst (Each (λ f. length f ≤ l.limit)) (sym (cut-was l d fs e).frames)
    (each_map (frame_of l d) (λ f. length f ≤ l.limit) (pieces (plan_of l d)) (frames-within l d (cut-ready l d fs e)))

-- ---- so that lengths and counts fit small numbers
nth-each : {A : Type 0} (P : A → Type 0) (xs : List A) (k : ℕ) (x : A) → Each P xs → nth xs k ≡ is x → P x
nth-each P [] k x e q = not-refused x 10 q
nth-each P (y ∷ ys) zero x e q = let s : y ≡ x = cc in subst P s e.0
nth-each P (y ∷ ys) (suc k) x e q = nth-each P ys k x e.1 q

frame-go : (l : Link) (d : List ℕ) (k : ℕ) (f : List ℕ) (m : Answer (List (List ℕ))) → cut l d ≡ m → and_then m (λ fs. nth fs k) ≡ is f → length f ≤ 127
frame-go l d k f (is fs) e q = omega (arith, nth-each (λ x. length x ≤ l.limit) fs k f (frames-limit l d fs e) q, (cut-ready l d fs e).3)
frame-go l d k f (refused n) e q = not-refused f n q

pub frame-short : (l : Link) (d : List ℕ) (k : ℕ) (f : List ℕ) → cut_frame l d k ≡ is f → length f ≤ 127
unfolding cut_frame
frame-short l d k f e = frame-go l d k f (cut l d) refl e

wrote-go : (t : Bool) (m n : ℕ) → choose t (is m) (refused 7) ≡ is n → m ≡ n
wrote-go true m n e = cc
wrote-go false m n e = not-refused n 7 e

answered-go : (l : Link) (d : List ℕ) (k : ℕ) (room : List ℕ) (n : ℕ) (m : Answer (List ℕ)) → cut_frame l d k ≡ m → answered m room ≡ is n → n ≤ 127
answered-go l d k room n (is f) e q = omega (arith, wrote-go (leb (length f) (length room)) (length f) n q, frame-short l d k f e)
answered-go l d k room n (refused r) e q = not-refused n r q

-- the length that a written frame's answer has
pub answered-short : (l : Link) (d : List ℕ) (k : ℕ) (room : List ℕ) (n : ℕ) → answered (cut_frame l d k) room ≡ is n → n ≤ 127
answered-short l d k room n e = answered-go l d k room n (cut_frame l d k) refl e

later-most : (room size fuel at : ℕ) → length (later_pieces room size fuel at) ≤ fuel
unfolding later_pieces
later-most room size zero at = omega arith
later-most room size (suc fuel) at =
    elim (dec_le (size - at) room) [
      | yes q ↦ rw (le-leb (size - at) room q) (omega arith)
      | no q ↦ rw (lt-leb (size - at) room (lt_of_not-le q)) (omega (arith, later-most room size fuel (at + units room)))
    ]

pieces-most : (l : Link) (d : List ℕ) → length (pieces (plan_of l d)) ≤ 1 + length d
unfolding pieces whole_length first_part later_room plan_of
pieces-most l d =
    elim (dec_le (mac_length l + (head_length l d + (length d - covers d))) l.limit) [
      | yes q ↦ rw (le-leb (mac_length l + (head_length l d + (length d - covers d))) l.limit q) (omega arith)
      | no q ↦
          rw (lt-leb (mac_length l + (head_length l d + (length d - covers d))) l.limit (lt_of_not-le q))
          (omega (arith, later-most (l.limit - (mac_length l + 5)) (length d) (length d) (covers d + units (l.limit - (mac_length l + (4 + head_length l d))))))
    ]

count-go : (l : Link) (d : List ℕ) (n : ℕ) (m : Answer (List (List ℕ))) → cut l d ≡ m → and_then m (λ fs. is (length fs)) ≡ is n → n ≤ 2048
count-go l d n (is fs) e q =
    let c : length fs ≡ n = cc in
    let z : length fs ≡ length (pieces (plan_of l d)) = ap (λ x. length x) (cut-was l d fs e).frames ∙ length-map (pieces (plan_of l d)) (frame_of l d) in
    omega (arith, pieces-most l d, (cut-ready l d fs e).1)
count-go l d n (refused r) e q = not-refused n r q

-- how many frames there are
pub count_most : (l : Link) (d : List ℕ) (n : ℕ) → cut_count l d ≡ is n → n ≤ 2048
unfolding cut_count
count_most l d n e = count-go l d n (cut l d) refl e
