-- The definition of a good block is exact. A good block of bytes is what a writer makes of the block's own frames (`good-made`), and these
-- are what a block can hold (`good-holds`); what a writer makes of what a block can hold is bytes (`made_bytes`), and good (Made).
use Prim.Native.Nat.{ℕ, zero, suc, ◌+◌, ◌-◌, ◌^◌, ◌≤◌, ◌<◌, min}
use native.Mathlib.Omega.{arith}
use mathlib.Core.Path.{◌≡◌, refl, sym, ap, ap₂, ◌∙◌}
use mathlib.Core.List.{List, [], ◌∷◌, ◌++◌, append_assoc, append-nil}
use mathlib.Core.Bool.{Bool, true, false, ◌&&◌}
use lib.Dec.{eqb, leb, ltb}
use lib.ListN.{length, get_or, take, drop, replicate, length-take, length-drop, drop_of_length-le}
use lib.Seq.{get_or-take, take_at, length-take-le}
use borrow.Author.Tests.{eq-eqb, eqb-true, leb-true, ltb-true, lt-ltb}
use Rattle.octets.specs.Read.{is, refused, choose, le16, le32}
use Rattle.octets.specs.Write.{le16_bytes, le32_bytes}
use Rattle.octets.proofs.Steps.{and-true}
use Rattle.capture.specs.Fcs.{fcs_of}
use Rattle.capture.specs.Block.{Timed, field, place_at, count_of, length_at, time_of, frame_of, timed_of, frames_of, zero_in, good_place, good_head, good_places, good_end, good_block, judged}
use Rattle.capture.specs.Made.{no_frame, place_of, place_in, body_of, block_of, Bytes, Fits, Holds}
use Rattle.capture.proofs.Register.{fcs-small}
use Rattle.capture.proofs.BlockSteps.{count_small, count-whole}
use Rattle.capture.proofs.Parts.{one_more, split, wide_back, wide-small, word_back, zeros-back, bytes-append, bytes-cons, bytes-zeros, bytes_take, bytes_drop, bytes-16, bytes-32}
use Rattle.capture.proofs.Made.{body-length}

-- ---- the frames of a block
at-go : (s : List ℕ) (k : ℕ) → k < 3 → get_or (timed_of 0 s ∷ timed_of 1 s ∷ timed_of 2 s ∷ []) k no_frame ≡ timed_of k s
at-go s zero h = refl
at-go s (suc zero) h = refl
at-go s (suc (suc zero)) h = refl
at-go s (suc (suc (suc k))) h = absurd (omega arith)

pub frames-length : (s : List ℕ) → length (frames_of s) ≡ count_of s
unfolding frames_of
frames-length s = length-take-le (count_of s) (timed_of 0 s ∷ timed_of 1 s ∷ timed_of 2 s ∷ []) (count_small s)

-- what `time` and `frame` answer is what the list of frames has there
pub frames-at : (s : List ℕ) (k : ℕ) → k < count_of s → get_or (frames_of s) k no_frame ≡ timed_of k s
unfolding frames_of
frames-at s k h = get_or-take (count_of s) _ k no_frame h ∙ at-go s k (omega (arith, count_small s))

-- the frame in a place that is used
abbrev held_in : ℕ → List ℕ → Timed
held_in n s = record { time = field le32 n s; frame = take (min 127 (get_or s (n + 4) 0)) (drop (n + 5) s) }

timed-is : (s : List ℕ) (k : ℕ) → k < count_of s → timed_of k s ≡ held_in (place_at k) s
unfolding time_of frame_of
timed-is s k h = rw (lt-ltb k (count_of s) h) refl

-- ---- from a good place to the bytes that a writer makes
placed : (f : Timed) (m : ℕ) (l q : List ℕ) → length f.frame ≡ m → l ≡ le32_bytes f.time ++ (m ∷ (f.frame ++ (replicate (127 - m) 0 ++ q))) → l ≡ place_of f ++ q
unfolding place_of
placed f m l q h e =
    e
    ∙ ap (λ (n : ℕ). le32_bytes f.time ++ (n ∷ (f.frame ++ (replicate (127 - n) 0 ++ q)))) (sym h)
    ∙ simp append_assoc

module _ (s : List ℕ) (y : Bytes s) (n : ℕ) (h : n + 132 ≤ length s) (short : get_or s (n + 4) 0 ≤ 127) (z : zero_in (n + 5 + get_or s (n + 4) 0) (n + 132) s ≡ true) where
  used-back : drop n s ≡ place_of (held_in n s) ++ drop (n + 132) s
  used-back =
      let m = get_or s (n + 4) 0 in
      let g : n + 4 < length s = omega arith in
      let i : n + 4 + 1 ≡ n + 5 = omega arith in
      let j : min 127 m ≡ m = omega arith in
      let k : min 127 m ≤ length (drop (n + 5) s) = omega (arith, length-drop (n + 5) s) in
      let e = split s (n + 5) m ∙ ap₂ (λ (x : ℕ) (l : List ℕ). take x (drop (n + 5) s) ++ l) (sym j) (zeros-back s (n + 5 + m) (n + 132) (127 - m) (omega arith) h z) in
      placed (held_in n s) m (drop n s) (drop (n + 132) s) (length-take-le (min 127 m) (drop (n + 5) s) k ∙ j)
      (wide_back s n y (omega arith) ∙ ap (λ (l : List ℕ). le32_bytes (field le32 n s) ++ l) (one_more s (n + 4) g ∙ ap (λ (x : ℕ). m ∷ drop x s) i ∙ ap (λ (l : List ℕ). m ∷ l) e))

module _ (s : List ℕ) (y : Bytes s) (whole : length s ≡ 512) (k : ℕ) (lt : k < 3) where
  place-go : (t : Bool) → ltb k (count_of s) ≡ t → good_place k s ≡ true → drop (place_at k) s ≡ place_in k (frames_of s) ++ drop (place_at k + 132) s
  unfolding good_place place_in
  place-go true p g =
      let h = ltb-true k (count_of s) p in
      let b = and-true (leb (length_at k s) 127) (zero_in (place_at k + 5 + length_at k s) (place_at k + 132) s) (rw p at g) in
      let l = frames-length s in
      rw (l, p, frames-at s k h, timed-is s k h)
      (used-back s y (place_at k) (omega arith) (leb-true (length_at k s) 127 b.0) b.1)
  place-go false p g = rw (frames-length s, p) (zeros-back s (place_at k) (place_at k + 132) 132 refl (omega arith) (rw p at g))

  place-back : good_place k s ≡ true → drop (place_at k) s ≡ place_in k (frames_of s) ++ drop (place_at k + 132) s
  place-back g = place-go (ltb k (count_of s)) refl g

-- ---- what a block can hold
timed-fits : (s : List ℕ) (y : Bytes s) (k : ℕ) → k < count_of s → Fits (held_in (place_at k) s)
timed-fits s y k h =
    let w = count-whole s k h in
    let c = count_small s in
    let l = length-take (min 127 (length_at k s)) (drop (place_at k + 5) s) in
    record {
      time = wide-small s (place_at k) y (omega arith);
      short = omega arith;
      bytes = bytes_take (min 127 (length_at k s)) (drop (place_at k + 5) s) (bytes_drop (place_at k + 5) s y);
    }

each_fits : (s : List ℕ) (y : Bytes s) (k : ℕ) → k < length (frames_of s) → Fits (get_or (frames_of s) k no_frame)
each_fits s y k h =
    let l : k < count_of s = omega (arith, frames-length s) in
    rw (frames-at s k l, timed-is s k l) (timed-fits s y k l)

module _ (b : ℕ) (s : List ℕ) (y : Bytes s) (g : good_block b s ≡ true) where
  parts : (length s ≡ 512) × ((good_head b s ≡ true) × ((good_places s ≡ true) × (good_end s ≡ true)))
  unfolding good_block
  parts =
      let p = and-true (eqb (length s) 512) (good_head b s && (good_places s && good_end s)) g in
      let q = and-true (good_head b s) (good_places s && good_end s) p.1 in
      (eqb-true (length s) 512 p.0, (q.0, and-true (good_places s) (good_end s) q.1))

  head : (field le32 0 s ≡ b) × ((get_or s 4 0 ≤ 3) × (get_or s 5 0 ≡ 0))
  unfolding good_head
  head =
      let p = and-true (eqb (field le32 0 s) b) (leb (get_or s 4 0) 3 && eqb (get_or s 5 0) 0) parts.1.0 in
      let q = and-true (leb (get_or s 4 0) 3) (eqb (get_or s 5 0) 0) p.1 in
      (eqb-true (field le32 0 s) b p.0, (leb-true (get_or s 4 0) 3 q.0, eqb-true (get_or s 5 0) 0 q.1))

  places : (good_place 0 s ≡ true) × ((good_place 1 s ≡ true) × (good_place 2 s ≡ true))
  unfolding good_places
  places =
      let p = and-true (good_place 0 s) (good_place 1 s && good_place 2 s) parts.1.1.0 in
      (p.0, and-true (good_place 1 s) (good_place 2 s) p.1)

  end : (zero_in 402 510 s ≡ true) × (field le16 510 s ≡ fcs_of (take 510 s))
  unfolding good_end
  end =
      let p = and-true (zero_in 402 510 s) (eqb (field le16 510 s) (fcs_of (take 510 s))) parts.1.1.1 in
      (p.0, eqb-true (field le16 510 s) (fcs_of (take 510 s)) p.1)

  count-is : get_or s 4 0 ≡ length (frames_of s)
  unfolding count_of
  count-is = sym (frames-length s ∙ rw (eq-eqb (length s) 512 parts.0) (omega (arith, head.1.0)))

  pub good-holds : Holds b (frames_of s)
  good-holds =
      let w = parts.0 in
      let v = wide-small s 0 y (omega arith) in
      record { number = omega (arith, head.0); few = omega (arith, frames-length s, count_small s); each = each_fits s y }

  -- all but the check
  body_back : s ≡ body_of b (frames_of s) ++ drop 510 s
  unfolding body_of
  body_back =
      let w = parts.0 in
      let fs = frames_of s in
      let e3 = zeros-back s 402 510 108 refl (omega arith) end.0 in
      let e2 = place-back s y w 2 (omega arith) places.1.1 ∙ ap (λ (l : List ℕ). place_in 2 fs ++ l) e3 in
      let e1 = place-back s y w 1 (omega arith) places.1.0 ∙ ap (λ (l : List ℕ). place_in 1 fs ++ l) e2 in
      let e0 = place-back s y w 0 (omega arith) places.0 ∙ ap (λ (l : List ℕ). place_in 0 fs ++ l) e1 in
      let i4 : 4 < length s = omega arith in
      let i5 : 5 < length s = omega arith in
      let d5 = one_more s 5 i5 ∙ ap₂ ◌∷◌ head.1.1 e0 in
      let d4 = one_more s 4 i4 ∙ ap₂ ◌∷◌ count-is d5 in
      wide_back s 0 y (omega arith) ∙ ap₂ (λ (x : ℕ) (l : List ℕ). le32_bytes x ++ l) head.0 d4 ∙ simp append_assoc

  pub good-made : s ≡ block_of b (frames_of s)
  unfolding block_of
  good-made =
      let w = parts.0 in
      let fs = frames_of s in
      let l = body-length b fs good-holds.few (λ k h. (good-holds.each k h).short) in
      let t : take 510 s ≡ body_of b fs = ap (take 510) body_back ∙ take_at (body_of b fs) (drop 510 s) 510 l in
      let f : length s ≤ 512 = omega arith in
      let n : drop 512 s ≡ [] = drop_of_length-le s f in
      let c : drop 510 s ≡ le16_bytes (fcs_of (body_of b fs)) = word_back s 510 y (omega arith) ∙ ap₂ (λ (x : ℕ) (l : List ℕ). le16_bytes x ++ l) (end.1 ∙ ap fcs_of t) n ∙ append-nil _ in
      body_back ∙ ap (λ (l : List ℕ). body_of b fs ++ l) c

-- ---- what a writer makes is bytes
place-bytes : (f : Timed) → Fits f → Bytes (place_of f)
unfolding place_of
place-bytes f h =
    let s = h.short in
    let z : List ℕ = replicate (127 - length f.frame) 0 in
    let y = bytes-append f.frame z h.bytes (bytes-zeros (127 - length f.frame)) in
    bytes-append (le32_bytes f.time) (length f.frame ∷ (f.frame ++ z)) (bytes-32 f.time h.time)
    (bytes-cons (length f.frame) (f.frame ++ z) (omega arith) y)

module _ (b : ℕ) (fs : List Timed) (h : Holds b fs) where
  in-go : (k : ℕ) (t : Bool) → ltb k (length fs) ≡ t → Bytes (choose t (place_of (get_or fs k no_frame)) (replicate 132 0))
  in-go k true p = place-bytes (get_or fs k no_frame) (h.each k (ltb-true k (length fs) p))
  in-go k false p = bytes-zeros 132

  in_bytes : (k : ℕ) → Bytes (place_in k fs)
  unfolding place_in
  in_bytes k = in-go k (ltb k (length fs)) refl

  pub made_bytes : Bytes (block_of b fs)
  unfolding block_of body_of
  made_bytes =
      let f = h.few in
      let p2 : List ℕ = place_in 2 fs ++ replicate 108 0 in
      let p1 = place_in 1 fs ++ p2 in
      let p0 = place_in 0 fs ++ p1 in
      let y2 = bytes-append (place_in 2 fs) (replicate 108 0) (in_bytes 2) (bytes-zeros 108) in
      let y0 = bytes-append (place_in 0 fs) p1 (in_bytes 0) (bytes-append (place_in 1 fs) p2 (in_bytes 1) y2) in
      let y = bytes-cons (length fs) (0 ∷ p0) (omega arith) (bytes-cons 0 p0 (omega arith) y0) in
      bytes-append (body_of b fs) (le16_bytes (fcs_of (body_of b fs))) (bytes-append (le32_bytes b) (length fs ∷ 0 ∷ p0) (bytes-32 b h.number) y)
      (bytes-16 (fcs_of (body_of b fs)) (fcs-small (body_of b fs) 0 (omega arith)))

-- ---- numbers end at 2^32 - 1
numbers-go : (b : ℕ) (s : List ℕ) → Bytes s → 2 ^ 32 ≤ b → (t : Bool) → good_block b s ≡ t → choose t (is (count_of s)) (refused 15) ≡ refused 15
numbers-go b s y h true g = let n = (good-holds b s y g).number in absurd (omega arith)
numbers-go b s y h false g = refl

pub numbers-end : (b : ℕ) (s : List ℕ) → Bytes s → 2 ^ 32 ≤ b → judged b s ≡ refused 15
unfolding judged
numbers-end b s y h = numbers-go b s y h (good_block b s) refl
