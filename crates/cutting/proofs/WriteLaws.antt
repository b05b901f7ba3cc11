-- A frame that is written, from what calls gave.
use Rattle.octets.specs.Answers.{of_answer}
use Rattle.std.specs.Prelude.{Result, Ok, Err}
use Prim.Native.Nat.{ℕ, zero, suc, ◌+◌, ◌/◌, ◌%◌, ◌≤◌, ◌<◌, min}
use native.Mathlib.Omega.{arith}
use mathlib.Core.List.{List, [], ◌∷◌, ◌++◌, map}
use mathlib.Core.Bool.{Bool, true, false}
use mathlib.Core.Path.{◌≡◌, refl, sym, ap, ◌∙◌}
use lib.Dec.{leb}
use lib.ListN.{length, take, drop, length-append, length-take, length-drop, take-append-drop}
use lib.Seq.{take-append_seam, take-length}
use borrow.Author.Tests.{le-leb, lt-leb, leb-true}
use Rattle.octets.specs.Read.{Answer, is, refused, and_then, choose}
use Rattle.octets.specs.Refusal.{number_of}
use Rattle.octets.specs.Write.{put, wrote, over}
use Rattle.octets.specs.declared.refusal.Refusal.{Refusal}
use Rattle.octets.proofs.Puts.{more, written_over}
use Rattle.octets.proofs.Steps.{and-true}
use Rattle.ieee802154.specs.Mac as Mac
use Rattle.ieee802154.specs.declared.header.Repr as MacHeader
use Rattle.ieee802154.proofs.WriteSteps as MacSteps
use Rattle.sixlowpan.specs.Frag as Frag
use Rattle.sixlowpan.specs.declared.frag.Repr.{Repr}
use Rattle.sixlowpan.specs.declared.frag.Repr.TheVariants.{FirstFragment, Fragment}
use Rattle.sixlowpan.proofs.FragPuts as FragPuts
use Rattle.cutting.specs.Fields.{is_ours}
use Rattle.cutting.specs.Head.{mac_of, mac_length, mac_bytes, head_length, head_bytes, head_of, covers_of, covers}
use Rattle.cutting.specs.Pieces.{pieces, nth, Sane}
use Rattle.cutting.specs.Cut.{plan_of, middle, middle_length, part_of, part_at, frame_of, in_range, Ready, has_both, cut, cut_frame, cut_count, answered, written}
use Rattle.cutting.specs.declared.link.Link.{Link}
use Rattle.cutting.specs.declared.head.Head.{Head}
use Rattle.cutting.specs.declared.piece.Plan.{Plan}
use Rattle.cutting.specs.declared.piece.Piece.{Piece}
use Rattle.cutting.specs.declared.piece.Piece.TheVariants.{Whole, First, Later}
use Rattle.cutting.proofs.HeadLaws.{length-head, head-most, head-len, head-udp, covers-told, covers-within}

-- ---- the lengths of a frame's fields
part-within : (d : List ℕ) (n : ℕ) → length (drop n d) ≤ length d
part-within d n = omega (arith, length-drop n d)

-- the part that begins at `from`
module _ (d : List ℕ) (p : Piece) (from : ℕ) (w : from ≡ part_at (covers d) p) where
  pub whole_length : (n : ℕ) → p ≡ Whole → n ≡ length (drop from d) → (n ≡ length (part_of d p)) × (n ≤ length d)
  unfolding part_of
  whole_length n e g = let f = w ∙ ap (part_at (covers d)) e in rw e (g ∙ ap (λ z. length (drop z d)) f, omega (arith, part-within d from))

  pub first-length : (m r n : ℕ) → p ≡ First m → r ≡ length (drop from d) → n ≡ min m r → (n ≡ length (part_of d p)) × (n ≤ length d)
  unfolding part_of
  first-length m r n e g h = let f = w ∙ ap (part_at (covers d)) e in rw e (h ∙ ap (min m) (g ∙ ap (λ z. length (drop z d)) f) ∙ sym (length-take m (drop (covers d) d)), omega (arith, part-within d from))

  pub later-length : (at m r n : ℕ) → p ≡ Later at m → r ≡ length (drop from d) → n ≡ min m r → (n ≡ length (part_of d p)) × (n ≤ length d)
  unfolding part_of
  later-length at m r n e g h = let f = w ∙ ap (part_at (covers d)) e in rw e (h ∙ ap (min m) (g ∙ ap (λ z. length (drop z d)) f) ∙ sym (length-take m (drop at d)), omega (arith, part-within d from))

pub middle-is : (l : Link) (d : List ℕ) (p : Piece) → middle_length (head_length l d) p ≡ length (middle l d p)
unfolding middle
middle-is l d Whole = sym (length-head l d)
middle-is l d (First n) =
    let h : Repr = FirstFragment (length d) l.tag in
    omega (arith, length-append (Frag.bytes_of h) (head_bytes l d), FragPuts.length-bytes h, length-head l d)
middle-is l d (Later at n) = sym (FragPuts.length-bytes (Fragment (length d) l.tag (record { 0 = at / 8 % 256 })))

-- so many bytes from there on are the part
taken : (n : ℕ) (s : List ℕ) → take (length (take n s)) s ≡ take n s
taken n s = ap (take (length (take n s))) (sym (take-append-drop n s)) ∙ take-append_seam (take n s) (drop n s)

part-is : (d : List ℕ) (p : Piece) → take (length (part_of d p)) (drop (part_at (covers d) p) d) ≡ part_of d p
unfolding part_of
part-is d Whole = take-length (drop (covers d) d)
part-is d (First n) = taken n (drop (covers d) d)
part-is d (Later at n) = taken n (drop at d)

part-taken : (d : List ℕ) (p : Piece) (from n : ℕ) → from ≡ part_at (covers d) p → n ≡ length (part_of d p) → take n (drop from d) ≡ part_of d p
part-taken d p from n w i = rw (w, i) (part-is d p)

module _ (l : Link) (d : List ℕ) (p : Piece) where
  -- room for what stands before the part
  module _ (at : ℕ) (o : List ℕ) (w : at + length (middle l d p) ≤ length o) where
    room : at + middle_length (head_length l d) p ≤ length o
    room = omega (arith, middle-is l d p)

    pub room_whole : p ≡ Whole → at + head_length l d ≤ length o
    room_whole e = omega (arith, room, ap (middle_length (head_length l d)) e)

    pub room-first : (n : ℕ) → p ≡ First n → at + (4 + head_length l d) ≤ length o
    room-first n e = omega (arith, room, ap (middle_length (head_length l d)) e)

    pub room-later : (from n : ℕ) → p ≡ Later from n → at + 5 ≤ length o
    room-later from n e = omega (arith, room, ap (middle_length (head_length l d)) e)

  pub frame-length : (m n r : ℕ) → m ≡ mac_length l → n ≡ length (middle l d p) → r ≡ length (part_of d p) → m + (n + r) ≡ length (frame_of l d p)
  unfolding frame_of
  frame-length m n r e f g = omega (arith, length-append (mac_bytes l) (middle l d p ++ part_of d p), length-append (middle l d p) (part_of d p), MacSteps.length-bytes (mac_of l))

  -- ---- the fields put one after the other
  frame-put : (m n : ℕ) (o a b c : List ℕ) → m ≡ mac_length l → n ≡ length (middle l d p) → a ≡ put 0 (mac_bytes l) o → b ≡ put m (middle l d p) a → c ≡ put (m + n) (part_of d p) b → c ≡ put 0 (frame_of l d p) o
  unfolding frame_of
  frame-put m n o a b c e f x y z =
      let w : c ≡ put m (middle l d p ++ part_of d p) a = more a b c m n (middle l d p) (part_of d p) (sym f) y z in
      let q : length (mac_bytes l) ≡ m = MacSteps.length-bytes (mac_of l) ∙ sym e in
      let s : 0 + m ≡ m = omega arith in
      more o a c 0 m (mac_bytes l) (middle l d p ++ part_of d p) q x (w ∙ ap (λ k. put k (middle l d p ++ part_of d p) a) (sym s))

  -- m, n and r: the lengths that calls gave
  module _ (m n r : ℕ) (o : List ℕ) (e : m ≡ mac_length l) (g : n ≡ length (middle l d p)) (i : r ≡ length (part_of d p)) where
    pub frame-short : length o < m + (n + r) → (refused 7 ≡ wrote (length (frame_of l d p)) o) × (o ≡ over (length (frame_of l d p)) (frame_of l d p) o)
    frame-short k =
        let s : m + (n + r) ≡ length (frame_of l d p) = frame-length m n r e g i in
        let t : leb (length (frame_of l d p)) (length o) ≡ false = lt-leb (length (frame_of l d p)) (length o) (omega arith) in
        rw t (refl, refl)

    pub frame-there : (from : ℕ) (a b c : List ℕ) → from ≡ part_at (covers d) p → m + (n + r) ≤ length o → a ≡ put 0 (mac_bytes l) o → b ≡ put m (middle l d p) a → c ≡ put (m + n) (take r (drop from d)) b → (is (m + (n + r)) ≡ wrote (length (frame_of l d p)) o) × (c ≡ over (length (frame_of l d p)) (frame_of l d p) o)
    frame-there from a b c w k x y z =
        let s : m + (n + r) ≡ length (frame_of l d p) = frame-length m n r e g i in
        let t : leb (length (frame_of l d p)) (length o) ≡ true = le-leb (length (frame_of l d p)) (length o) (omega arith) in
        let u : c ≡ put (m + n) (part_of d p) b = z ∙ ap (λ q. put (m + n) q b) (part-taken d p from r w i) in
        (rw (t, s) refl, written_over (length (frame_of l d p)) (frame_of l d p) o c s k refl (frame-put m n o a b c e g x y u))

  -- what stands before the part
  pub put-middle-whole : (at : ℕ) (a b : List ℕ) → p ≡ Whole → b ≡ put at (head_bytes l d) a → b ≡ put at (middle l d p) a
  unfolding middle
  put-middle-whole at a b e f = rw e f

  pub put-middle-first : (n at : ℕ) (a b c : List ℕ) → p ≡ First n → b ≡ put at (Frag.bytes_of (FirstFragment (length d) l.tag)) a → c ≡ put (at + 4) (head_bytes l d) b → c ≡ put at (middle l d p) a
  unfolding middle
  put-middle-first n at a b c e f g = rw e (more a b c at 4 (Frag.bytes_of (FirstFragment (length d) l.tag)) (head_bytes l d) (FragPuts.length-bytes (FirstFragment (length d) l.tag)) f g)

  pub put-middle-later : (from n at : ℕ) (a b : List ℕ) → p ≡ Later from n → b ≡ put at (Frag.bytes_of (Fragment (length d) l.tag (record { 0 = from / 8 % 256 }))) a → b ≡ put at (middle l d p) a
  unfolding middle
  put-middle-later from n at a b e f = rw e f

-- ---- the plan
pub plan-told : (l : Link) (d : List ℕ) (h : Head) (r : MacHeader.Repr) (m c : ℕ) → h ≡ head_of l d → r ≡ mac_of l → m ≡ Mac.length_of r → c ≡ covers_of h.udp → 40 ≤ length d → length d ≤ 2047 → 80 ≤ l.limit → l.limit ≤ 127 → (◌≡◌ {A = Plan} (record { mac = m; head = h.len; covers = c; size = length d; limit = l.limit }) (plan_of l d)) × Sane (record { mac = m; head = h.len; covers = c; size = length d; limit = l.limit })
unfolding plan_of
plan-told l d h r m c e f g i w x y z =
    let k : c ≡ covers d = i ∙ covers-told d h.udp (head-udp l d h e) in (
      rw (g, f, head-len l d h e, k) refl,
      record { mac = omega (arith, MacSteps.length_most r); head = omega (arith, head-len l d h e, head-most l d); covers = omega (arith, covers-within d w); size = x; low = y; high = z },
    )

pub mac-most : (l : Link) → mac_length l ≤ 23
mac-most l = MacSteps.length_most (mac_of l)

module _ (l : Link) (d : List ℕ) (p : Plan) (e : p ≡ plan_of l d) where
  pub plan-mac : p.mac ≡ mac_length l
  unfolding plan_of
  plan-mac = ap (λ z. z.mac) e

  pub plan-head : p.head ≡ head_length l d
  unfolding plan_of
  plan-head = ap (λ z. z.head) e

  plan-covers : p.covers ≡ covers d
  unfolding plan_of
  plan-covers = ap (λ z. z.covers) e

  -- of the piece q
  pub middle-told : (q : Piece) (n : ℕ) → n ≡ middle_length p.head q → n ≡ length (middle l d q)
  middle-told q n h = h ∙ ap (λ z. middle_length z q) plan-head ∙ middle-is l d q

  pub part-told : (q : Piece) (n : ℕ) → n ≡ part_at p.covers q → n ≡ part_at (covers d) q
  part-told q n h = h ∙ ap (λ z. part_at z q) plan-covers

-- ---- the frame of a number
nth-map : {A B : Type 0} (f : A → B) (xs : List A) (k : ℕ) → nth (map f xs) k ≡ and_then (nth xs k) (λ x. is (f x))
nth-map f [] k = refl
nth-map f (x ∷ xs) zero = refl
nth-map f (x ∷ xs) (suc k) = nth-map f xs k

length-map : {A B : Type 0} (f : A → B) (xs : List A) → length (map f xs) ≡ length xs
length-map f [] = refl
length-map f (x ∷ xs) = ap suc (length-map f xs)

refusing : (m : Answer (List ℕ)) (n : ℕ) (room : List ℕ) → m ≡ refused n → (refused n ≡ answered m room) × (room ≡ written m room)
refusing m n room e = rw e (refl, refl)

module _ (l : Link) (d : List ℕ) where
  ready : Ready l d → in_range l d ≡ true
  unfolding in_range
  ready h = rw (le-leb 40 (length d) h.0, le-leb (length d) 2047 h.1, le-leb 80 l.limit h.2, le-leb l.limit 127 h.3) refl

  out_of_range : (k : ℕ) → in_range l d ≡ false → cut_frame l d k ≡ refused 4
  unfolding cut_frame cut
  out_of_range k h = rw h refl

  no_both : (k : ℕ) (b : Bool) → Ready l d → b ≡ has_both l → b ≡ false → cut_frame l d k ≡ refused 6
  unfolding cut_frame cut
  no_both k b h p q = rw (ready h, ← p, q) refl

  no-ours : (k : ℕ) (b o : Bool) → Ready l d → b ≡ has_both l → b ≡ true → o ≡ is_ours d → o ≡ false → cut_frame l d k ≡ refused 16
  unfolding cut_frame cut
  no-ours k b o h p q r s = rw (ready h, ← p, q, ← r, s) refl

  found : (k : ℕ) (b o : Bool) → Ready l d → b ≡ has_both l → b ≡ true → o ≡ is_ours d → o ≡ true → cut_frame l d k ≡ and_then (nth (pieces (plan_of l d)) k) (λ x. is (frame_of l d x))
  unfolding cut_frame cut
  found k b o h p q r s = rw (ready h, ← p, q, ← r, s) (nth-map (frame_of l d) (pieces (plan_of l d)) k)

  found_as : (k : ℕ) (p : Plan) (x y : Result Piece Refusal) (b o : Bool) → Ready l d → b ≡ has_both l → b ≡ true → o ≡ is_ours d → o ≡ true → p ≡ plan_of l d → of_answer x ≡ nth (pieces p) k → x ≡ y → cut_frame l d k ≡ and_then (of_answer y) (λ z. is (frame_of l d z))
  found_as k p x y b o h e1 e2 e3 e4 e5 e6 e7 =
      found k b o h e1 e2 e3 e4 ∙ ap (λ z. and_then z (λ z. is (frame_of l d z))) (ap (λ z. nth (pieces z) k) (sym e5) ∙ sym e6 ∙ ap of_answer e7)

  pub of-piece : (k : ℕ) (p : Plan) (q : Piece) (x : Result Piece Refusal) (b o : Bool) (r : Answer ℕ) (room out : List ℕ) → Ready l d → b ≡ has_both l → b ≡ true → o ≡ is_ours d → o ≡ true → p ≡ plan_of l d → of_answer x ≡ nth (pieces p) k → x ≡ Ok q → r ≡ wrote (length (frame_of l d q)) room → out ≡ over (length (frame_of l d q)) (frame_of l d q) room → (r ≡ answered (cut_frame l d k) room) × (out ≡ written (cut_frame l d k) room)
  of-piece k p q x b o r room out h e1 e2 e3 e4 e5 e6 e7 e8 e9 = rw (found_as k p x (Ok q) b o h e1 e2 e3 e4 e5 e6 e7) (e8, e9)

  pub past-last : (k : ℕ) (p : Plan) (e : Refusal) (x : Result Piece Refusal) (b o : Bool) (room : List ℕ) → Ready l d → b ≡ has_both l → b ≡ true → o ≡ is_ours d → o ≡ true → p ≡ plan_of l d → of_answer x ≡ nth (pieces p) k → x ≡ Err e → (refused (number_of e) ≡ answered (cut_frame l d k) room) × (room ≡ written (cut_frame l d k) room)
  past-last k p e x b o room h e1 e2 e3 e4 e5 e6 e7 = refusing (cut_frame l d k) (number_of e) room (found_as k p x (Err e) b o h e1 e2 e3 e4 e5 e6 e7)

  pub not_ours : (k : ℕ) (b o : Bool) (room : List ℕ) → Ready l d → b ≡ has_both l → b ≡ true → o ≡ is_ours d → o ≡ false → (refused 16 ≡ answered (cut_frame l d k) room) × (room ≡ written (cut_frame l d k) room)
  not_ours k b o room h e1 e2 e3 e4 = refusing (cut_frame l d k) 16 room (no-ours k b o h e1 e2 e3 e4)

  pub not-both : (k : ℕ) (b : Bool) (room : List ℕ) → Ready l d → b ≡ has_both l → b ≡ false → (refused 6 ≡ answered (cut_frame l d k) room) × (room ≡ written (cut_frame l d k) room)
  not-both k b room h e1 e2 = refusing (cut_frame l d k) 6 room (no_both k b h e1 e2)

  pub not-in-range : (k : ℕ) (b : Bool) (room : List ℕ) → b ≡ in_range l d → b ≡ false → (refused 4 ≡ answered (cut_frame l d k) room) × (room ≡ written (cut_frame l d k) room)
  not-in-range k b room e1 e2 = refusing (cut_frame l d k) 4 room (out_of_range k (sym e1 ∙ e2))

  -- what the test of the ranges says
  pub in-range : (b : Bool) → b ≡ in_range l d → b ≡ true → Ready l d
  unfolding in_range
  in-range b e1 e2 =
      let x = and-true (leb 40 (length d)) _ (sym e1 ∙ e2) in
      let y = and-true (leb (length d) 2047) _ x.1 in
      let z = and-true (leb 80 l.limit) (leb l.limit 127) y.1 in
      (leb-true 40 (length d) x.0, leb-true (length d) 2047 y.0, leb-true 80 l.limit z.0, leb-true l.limit 127 z.1)

  -- ---- how many
  pub count-in-range : (b : Bool) → b ≡ in_range l d → b ≡ false → refused 4 ≡ cut_count l d
  unfolding cut_count cut
  count-in-range b p q = rw (← p, q) refl

  pub count-both : (b : Bool) → Ready l d → b ≡ has_both l → b ≡ false → refused 6 ≡ cut_count l d
  unfolding cut_count cut
  count-both b h p q = rw (ready h, ← p, q) refl

  pub count-ours : (b o : Bool) → Ready l d → b ≡ has_both l → b ≡ true → o ≡ is_ours d → o ≡ false → refused 16 ≡ cut_count l d
  unfolding cut_count cut
  count-ours b o h p q r s = rw (ready h, ← p, q, ← r, s) refl

  pub count-all : (n : ℕ) (p : Plan) (b o : Bool) → Ready l d → b ≡ has_both l → b ≡ true → o ≡ is_ours d → o ≡ true → p ≡ plan_of l d → n ≡ length (pieces p) → is n ≡ cut_count l d
  unfolding cut_count cut
  count-all n p b o h e q r s t c = rw (ready h, ← e, q, ← r, s) (ap is (c ∙ ap (λ z. length (pieces z)) t ∙ sym (length-map (frame_of l d) (pieces (plan_of l d)))))

-- ---- what the check takes from here
pub ruleset range_told = (in-range, count-in-range)

pub ruleset count_told = (count-all, count-ours, count-both)
