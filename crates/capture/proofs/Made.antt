-- What a writer makes of at most three frames of at most 127 bytes is a good block (`made-good`, `made-judged`), and it holds the frames
-- and times that it was made of (`made-frames`).
use Prim.Native.Nat.{ℕ, ◌+◌, ◌-◌, ◌≤◌, ◌<◌, min}
use native.Mathlib.Omega.{arith}
use mathlib.Core.Path.{◌≡◌, refl, sym, ap, ap₂, ◌∙◌}
use mathlib.Core.List.{List, [], ◌∷◌, ◌++◌, append_assoc, append-nil}
use mathlib.Core.Bool.{Bool, true, false}
use lib.Dec.{ltb}
use lib.ListN.{length, get_or, take, drop, replicate, length-append, length-replicate}
use lib.Seq.{get_or-drop, drop-drop, take_at}
use borrow.Author.Tests.{eq-eqb, le-leb, ltb-true, ltb-false, lt-ltb, le-ltb}
use Rattle.octets.specs.Read.{is, choose, le16, le32}
use Rattle.octets.specs.Write.{le16_bytes, le32_bytes}
use Rattle.octets.proofs.RoundTrip.{reads-le16, reads-le32}
use Rattle.capture.specs.Fcs.{fcs_of}
use Rattle.capture.specs.Block.{Timed, field, place_at, count_of, time_of, frame_of, timed_of, frames_of, zero_in, good_place, good_head, good_places, good_end, good_block, judged}
use Rattle.capture.specs.Made.{no_frame, place_of, place_in, body_of, block_of}
use Rattle.capture.proofs.Parts.{behind, field_at, zeros-at}

-- ---- a place
module _ (s : List ℕ) (n : ℕ) (h : n + 132 ≤ length s) (f : Timed) (q : List ℕ) (l : length f.frame ≤ 127) (e : drop n s ≡ place_of f ++ q) where
  used-time : field le32 n s ≡ f.time
  unfolding place_of
  used-time =
      let g : n ≤ length s = omega arith in
      let r : List ℕ = length f.frame ∷ (f.frame ++ replicate (127 - length f.frame) 0) in
      field_at s n le32 (le32_bytes f.time) (r ++ q) f.time (reads-le32 f.time) g (e ∙ append_assoc (le32_bytes f.time) r q)

  used-length : get_or s (n + 4) 0 ≡ length f.frame
  unfolding place_of le32_bytes le16_bytes
  used-length = sym (get_or-drop n s 4 0) ∙ ap (λ (l : List ℕ). get_or l 4 0) e

  used-bytes : drop (n + 5) s ≡ f.frame ++ (replicate (127 - length f.frame) 0 ++ q)
  unfolding place_of le32_bytes le16_bytes
  used-bytes = sym (drop-drop 5 n s) ∙ ap (drop 5) e ∙ append_assoc f.frame _ q

  used-zeros : zero_in (n + 5 + length f.frame) (n + 132) s ≡ true
  used-zeros =
      zeros-at s (n + 5 + length f.frame) (n + 132) (127 - length f.frame) (omega arith) q (omega arith)
      (behind s (n + 5) (length f.frame) f.frame _ refl used-bytes)

  used-frame : take (min 127 (get_or s (n + 4) 0)) (drop (n + 5) s) ≡ f.frame
  used-frame =
      let k : min 127 (get_or s (n + 4) 0) ≡ length f.frame = omega (arith, used-length) in
      ap₂ take k used-bytes ∙ take_at f.frame _ (length f.frame) refl

module _ (s : List ℕ) (fs : List Timed) (whole : length s ≡ 512) (count : count_of s ≡ length fs) (each : (k : ℕ) → k < length fs → length (get_or fs k no_frame).frame ≤ 127) (k : ℕ) (lt : k < 3) (q : List ℕ) (e : drop (place_at k) s ≡ place_in k fs ++ q) where
  fits : place_at k + 132 ≤ length s
  fits = omega arith

  is-used : k < length fs → drop (place_at k) s ≡ place_of (get_or fs k no_frame) ++ q
  unfolding place_in
  is-used h = e ∙ ap (λ (t : Bool). choose t (place_of (get_or fs k no_frame)) (replicate 132 0) ++ q) (lt-ltb k (length fs) h)

  is-empty : length fs ≤ k → drop (place_at k) s ≡ replicate 132 0 ++ q
  unfolding place_in
  is-empty h = e ∙ ap (λ (t : Bool). choose t (place_of (get_or fs k no_frame)) (replicate 132 0) ++ q) (le-ltb k (length fs) h)

  good-go : (t : Bool) → ltb k (length fs) ≡ t → good_place k s ≡ true
  unfolding good_place
  good-go true p =
      let h = ltb-true k (length fs) p in
      let f = get_or fs k no_frame in
      rw (count, p, used-length s (place_at k) fits f q (each k h) (is-used h), le-leb (length f.frame) 127 (each k h))
      (used-zeros s (place_at k) fits f q (each k h) (is-used h))
  good-go false p = rw (count, p) (zeros-at s (place_at k) (place_at k + 132) 132 refl q (omega arith) (is-empty (ltb-false k (length fs) p)))

  pub place-good : good_place k s ≡ true
  place-good = good-go (ltb k (length fs)) refl

  pub place-timed : k < length fs → timed_of k s ≡ get_or fs k no_frame
  unfolding time_of frame_of
  place-timed h =
      let f = get_or fs k no_frame in
      rw (count, lt-ltb k (length fs) h)
      (ap₂ (λ (x : ℕ) (y : List ℕ). record { time = x; frame = y }) (used-time s (place_at k) fits f q (each k h) (is-used h)) (used-frame s (place_at k) fits f q (each k h) (is-used h)))

-- ---- a block
place-length : (f : Timed) → length f.frame ≤ 127 → length (place_of f) ≡ 132
unfolding place_of le32_bytes le16_bytes
place-length f h = omega (arith, length-append f.frame (replicate (127 - length f.frame) 0), length-replicate {A = ℕ} (127 - length f.frame) 0)

frames-go : (fs : List Timed) (a b c : Timed) → length fs ≤ 3 → (0 < length fs → a ≡ get_or fs 0 no_frame) → (1 < length fs → b ≡ get_or fs 1 no_frame) → (2 < length fs → c ≡ get_or fs 2 no_frame) → take (length fs) (a ∷ b ∷ c ∷ []) ≡ fs
frames-go [] a b c h p q r = refl
frames-go (x ∷ []) a b c h p q r = rw (p (omega arith)) refl
frames-go (x ∷ y ∷ []) a b c h p q r = rw (p (omega arith), q (omega arith)) refl
frames-go (x ∷ y ∷ z ∷ []) a b c h p q r = rw (p (omega arith), q (omega arith), r (omega arith)) refl
frames-go (x ∷ y ∷ z ∷ w ∷ fs) a b c h p q r = absurd (omega arith)

module _ (b : ℕ) (fs : List Timed) (few : length fs ≤ 3) (each : (k : ℕ) → k < length fs → length (get_or fs k no_frame).frame ≤ 127) where
  in-go : (k : ℕ) (t : Bool) → ltb k (length fs) ≡ t → length (choose t (place_of (get_or fs k no_frame)) (replicate 132 0)) ≡ 132
  in-go k true p = place-length (get_or fs k no_frame) (each k (ltb-true k (length fs) p))
  in-go k false p = refl

  in-length : (k : ℕ) → length (place_in k fs) ≡ 132
  unfolding place_in
  in-length k = in-go k (ltb k (length fs)) refl

  check : List ℕ
  check = le16_bytes (fcs_of (body_of b fs))

  pub body-length : length (body_of b fs) ≡ 510
  unfolding body_of le32_bytes le16_bytes
  body-length =
      simp (length-append, in-length) refl

  flat : block_of b fs ≡ le32_bytes b ++ (length fs ∷ 0 ∷ (place_in 0 fs ++ (place_in 1 fs ++ (place_in 2 fs ++ (replicate 108 0 ++ check)))))
  unfolding block_of body_of check
  flat = simp append_assoc

  block-length : length (block_of b fs) ≡ 512
  unfolding block_of le16_bytes check
  block-length = length-append (body_of b fs) check ∙ ap (λ (n : ℕ). n + 2) body-length

  -- what stands behind the head, behind each place, and behind the zeros
  from-0 : drop (place_at 0) (block_of b fs) ≡ place_in 0 fs ++ (place_in 1 fs ++ (place_in 2 fs ++ (replicate 108 0 ++ check)))
  unfolding le32_bytes le16_bytes
  from-0 = ap (drop 6) flat

  from-1 : drop (place_at 1) (block_of b fs) ≡ place_in 1 fs ++ (place_in 2 fs ++ (replicate 108 0 ++ check))
  from-1 = behind (block_of b fs) (place_at 0) 132 (place_in 0 fs) _ (in-length 0) from-0

  from-2 : drop (place_at 2) (block_of b fs) ≡ place_in 2 fs ++ (replicate 108 0 ++ check)
  from-2 = behind (block_of b fs) (place_at 1) 132 (place_in 1 fs) _ (in-length 1) from-1

  from-3 : drop 402 (block_of b fs) ≡ replicate 108 0 ++ check
  from-3 = behind (block_of b fs) (place_at 2) 132 (place_in 2 fs) _ (in-length 2) from-2

  from-4 : drop 510 (block_of b fs) ≡ check ++ []
  from-4 = behind (block_of b fs) 402 108 (replicate 108 0) check refl from-3 ∙ sym (append-nil check)

  made-count-byte : get_or (block_of b fs) 4 0 ≡ length fs
  unfolding le32_bytes le16_bytes
  made-count-byte = ap (λ (l : List ℕ). get_or l 4 0) flat

  made-zero-byte : get_or (block_of b fs) 5 0 ≡ 0
  unfolding le32_bytes le16_bytes
  made-zero-byte = ap (λ (l : List ℕ). get_or l 5 0) flat

  pub made-count : count_of (block_of b fs) ≡ length fs
  unfolding count_of
  made-count = rw (eq-eqb (length (block_of b fs)) 512 block-length, made-count-byte) (omega arith)

  made-head : good_head b (block_of b fs) ≡ true
  unfolding good_head
  made-head =
      rw (field_at (block_of b fs) 0 le32 (le32_bytes b) _ b (reads-le32 b) (omega arith) flat, eq-eqb b b refl, made-count-byte, le-leb (length fs) 3 few, made-zero-byte)
      refl

  made-places : good_places (block_of b fs) ≡ true
  unfolding good_places
  made-places =
      rw (place-good (block_of b fs) fs block-length made-count each 0 (omega arith) _ from-0, place-good (block_of b fs) fs block-length made-count each 1 (omega arith) _ from-1)
      (place-good (block_of b fs) fs block-length made-count each 2 (omega arith) _ from-2)

  made-body : take 510 (block_of b fs) ≡ body_of b fs
  unfolding block_of check
  made-body = take_at (body_of b fs) check 510 body-length

  made-check : field le16 510 (block_of b fs) ≡ fcs_of (body_of b fs)
  unfolding check
  made-check = field_at (block_of b fs) 510 le16 check [] (fcs_of (body_of b fs)) (reads-le16 (fcs_of (body_of b fs))) (omega (arith, block-length)) from-4

  made-end : good_end (block_of b fs) ≡ true
  unfolding good_end
  made-end =
      rw (zeros-at (block_of b fs) 402 510 108 refl check (omega (arith, block-length)) from-3, made-body, made-check)
      (eq-eqb (fcs_of (body_of b fs)) (fcs_of (body_of b fs)) refl)

  pub made-good : good_block b (block_of b fs) ≡ true
  unfolding good_block
  made-good = rw (eq-eqb (length (block_of b fs)) 512 block-length, made-head, made-places) made-end

  pub made-judged : judged b (block_of b fs) ≡ is (length fs)
  unfolding judged
  made-judged = rw made-good (ap is made-count)

  pub made-frames : frames_of (block_of b fs) ≡ fs
  unfolding frames_of
  made-frames =
      rw made-count
      (frames-go fs _ _ _ few
      (place-timed (block_of b fs) fs block-length made-count each 0 (omega arith) _ from-0)
      (place-timed (block_of b fs) fs block-length made-count each 1 (omega arith) _ from-1)
      (place-timed (block_of b fs) fs block-length made-count each 2 (omega arith) _ from-2))
