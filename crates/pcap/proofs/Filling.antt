-- What the functions of fill need: zeros, places and blocks put one after the other.
use Rattle.octets.specs.Answers.{of_answer, of_skip}
use Rattle.std.specs.Prelude.{Result, Ok, Err}
use Prim.Native.Nat.{ℕ, zero, suc, ◌+◌, ◌*◌, ◌-◌, ◌/◌, ◌≤◌, ◌<◌, min}
use native.Mathlib.Omega.{arith}
use mathlib.Core.Path.{◌≡◌, refl, sym, ap, ap₂, subst, ◌∙◌}
use mathlib.Core.List.{List, [], ◌∷◌, ◌++◌, append_assoc, append-nil}
use mathlib.Core.Bool.{Bool, true, false}
use lib.Dec.{leb, ltb}
use lib.ListN.{length, take, drop, replicate, length-append, length-replicate}
use lib.Seq.{sets-eq, take_at, drop_at, length-take-le}
use Rattle.octets.specs.Read.{is, refused, Read, got, and_then, choose, give, value_or}
use Rattle.octets.specs.Write.{put, byte_bytes, le16_bytes, le32_bytes}
use Rattle.octets.proofs.Spans.{not-refused}
use Rattle.octets.specs.declared.refusal.Refusal.{Refusal}
use Rattle.octets.specs.declared.cursor.Cursor.{Cursor}
use Rattle.octets.proofs.Puts.{put-append, put-nil, more, more-le32, more_byte, two_bytes}
use Rattle.capture.specs.Block.{Timed}
use Rattle.capture.specs.Made.{no_frame, place_of, place_in, body_of, block_of, Bytes, Fits}
use Rattle.capture.specs.Fcs.{fcs_of}
use Rattle.capture.proofs.Made.{body-length}
use Rattle.capture.proofs.Parts.{bytes-nil}
use Rattle.pcap.specs.Frames.{blocks_from, blocks_of, frame_field, frames_field, most_frames, head, frames_of_pcap}
use Rattle.pcap.specs.Moves.{from_pcap, sized, placed, lengthed, counted}
use Rattle.pcap.specs.Answers.{of_frame}
use Rattle.pcap.specs.Placing.{next_or, frame_at, after_at, frames_at, behind_at, front_bytes, places_bytes}
use Rattle.pcap.specs.declared.read.TimedFrame.{TimedFrame}
use Rattle.pcap.proofs.Back.{took, passed, given, back_head, frame_back, pcap-holds}
use Rattle.pcap.proofs.Blocks.{Each, block-length}
use Rattle.pcap.proofs.Carrying.{move-short, move-made, put-sets}
use Rattle.pcap.proofs.Counting.{blocks-length}

-- ---- a place
module _ (l m1 m2 m3 m4 : List ℕ) (to t n : ℕ) (f : List ℕ) where
  pub used-put : length f ≡ n → m1 ≡ put to (le32_bytes t) l → m2 ≡ put (to + 4) (byte_bytes n) m1 → m3 ≡ put (to + 5) f m2 → m4 ≡ put (to + 5 + n) (replicate (127 - n) 0) m3 → m4 ≡ put to (place_of (record { time = t; frame = f })) l
  unfolding place_of byte_bytes
  used-put e p q r u =
      let a : to + 5 ≡ to + 4 + 1 = omega arith in
      let x = more m2 m3 m4 (to + 5) n f (replicate (127 - n) 0) e r u in
      let y = more_byte m1 m2 m4 (to + 4) n (f ++ replicate (127 - n) 0) q (x ∙ ap (λ k. put k (f ++ replicate (127 - n) 0) m2) a) in
      let z = more-le32 l m1 m4 to t (n ∷ (f ++ replicate (127 - n) 0)) p y in
      z ∙ ap (λ k. put to (le32_bytes t ++ (k ∷ (f ++ replicate (127 - k) 0))) l) (sym e)

module _ (s : List ℕ) (at : ℕ) (y : Result (TimedFrame × Cursor) Refusal) (p : of_frame y ≡ frame_field s at) where
  module _ (f : TimedFrame × Cursor) (q : y ≡ Ok f) where
    is_read : frame_field s at ≡ of_frame (Ok f)
    is_read = sym p ∙ ap of_frame q

    pub frame_is : frame_at s at ≡ record { time = f.0.time; frame = f.0.bytes.now }
    unfolding frame_at
    frame_is = ap (value_or no_frame) is_read

    pub after_is : after_at s at ≡ f.1.at
    unfolding after_at
    after_is = ap (next_or at) is_read

    pub frame-short : Bytes s → at ≤ length s → length f.0.bytes.now ≤ 127
    frame-short b h = (frame_back s at _ f.1.at b h is_read).fits.short

  pub frame-none : (e : Refusal) → y ≡ Err e → frame_at s at ≡ no_frame
  unfolding frame_at
  frame-none e q = ap (value_or no_frame) (sym p ∙ ap of_frame q)

  pub after_none : (e : Refusal) → y ≡ Err e → after_at s at ≡ at
  unfolding after_at
  after_none e q = ap (next_or at) (sym p ∙ ap of_frame q)

pub none-zeros : place_of no_frame ≡ replicate 132 0
unfolding place_of le32_bytes le16_bytes
none-zeros = refl

-- a place, by whether it is used
module _ (s : List ℕ) (at : ℕ) (y : Result (TimedFrame × Cursor) Refusal) (p : of_frame y ≡ frame_field s at) (to : ℕ) (l o : List ℕ) where
  pub place_read : (f : TimedFrame × Cursor) → y ≡ Ok f → o ≡ put to (place_of (record { time = f.0.time; frame = f.0.bytes.now })) l → (u : Bool) → u ≡ true → (f.1.at ≡ choose u (after_at s at) at) × (o ≡ put to (choose u (place_of (frame_at s at)) (replicate 132 0)) l)
  place_read f q e u w = rw w (sym (after_is s at y p f q), e ∙ ap (λ x. put to (place_of x) l) (sym (frame_is s at y p f q)))

  pub place-refused : (e : Refusal) → y ≡ Err e → o ≡ put to (replicate 132 0) l → (u : Bool) → u ≡ true → (at ≡ choose u (after_at s at) at) × (o ≡ put to (choose u (place_of (frame_at s at)) (replicate 132 0)) l)
  place-refused e q z u w = rw w (sym (after_none s at y p e q), z ∙ ap (λ x. put to x l) (sym (ap place_of (frame-none s at y p e q) ∙ none-zeros)))

pub place-unused : (s : List ℕ) (at to : ℕ) (l o : List ℕ) → o ≡ put to (replicate 132 0) l → (u : Bool) → u ≡ false → (at ≡ choose u (after_at s at) at) × (o ≡ put to (choose u (place_of (frame_at s at)) (replicate 132 0)) l)
place-unused s at to l o z u w = rw w (refl, z)

-- ---- a block
pub front-put : (l m1 m2 m3 : List ℕ) (to b n : ℕ) → m1 ≡ put to (le32_bytes b) l → m2 ≡ put (to + 4) (byte_bytes n) m1 → m3 ≡ put (to + 5) (byte_bytes 0) m2 → m3 ≡ put to (front_bytes b n) l
unfolding front_bytes
front-put l m1 m2 m3 to b n p q r =
    let a : to + 5 ≡ to + 4 + 1 = omega arith in
    more-le32 l m1 m3 to b (n ∷ 0 ∷ []) p (two_bytes m1 m2 m3 (to + 4) n 0 q (r ∙ ap (λ k. put k (byte_bytes 0) m2) a))

after-go : (s : List ℕ) (at : ℕ) → Bytes s → at ≤ length s → (r : Read Timed) → frame_field s at ≡ r → next_or at r ≤ length s
after-go s at y h (is p) q = (frame_back s at p.value p.next y h q).stands.1.1
after-go s at y h (refused n) q = h

pub after-within : (s : List ℕ) (at : ℕ) → Bytes s → at ≤ length s → after_at s at ≤ length s
unfolding after_at
after-within s at y h = after-go s at y h (frame_field s at) refl

pub used-within : (u : Bool) (s : List ℕ) (at a : ℕ) → Bytes s → at ≤ length s → a ≡ choose u (after_at s at) at → a ≤ length s
used-within true s at a y h e = rw e (after-within s at y h)
used-within false s at a y h e = rw e h

pub used_bytes : Bool → List ℕ → ℕ → List ℕ
used_bytes u s at = choose u (place_of (frame_at s at)) (replicate 132 0)

pub used_after : Bool → List ℕ → ℕ → ℕ
used_after u s at = choose u (after_at s at) at

three-go : (n : ℕ) (s : List ℕ) (at : ℕ) → n ≤ 3 → (used_after (ltb 2 n) s (used_after (ltb 1 n) s (used_after (ltb 0 n) s at)) ≡ behind_at n s at) × (used_bytes (ltb 0 n) s at ++ (used_bytes (ltb 1 n) s (used_after (ltb 0 n) s at) ++ used_bytes (ltb 2 n) s (used_after (ltb 1 n) s (used_after (ltb 0 n) s at))) ≡ places_bytes (frames_at n s at))
unfolding used_after used_bytes behind_at places_bytes frames_at place_in
three-go zero s at h = (refl, refl)
three-go (suc zero) s at h = (refl, refl)
three-go (suc (suc zero)) s at h = (refl, refl)
three-go (suc (suc (suc zero))) s at h = (refl, refl)
three-go (suc (suc (suc (suc n)))) s at h = absurd (omega arith)

timed-fits : (s : List ℕ) (at : ℕ) → Bytes s → at ≤ length s → (r : Read Timed) → frame_field s at ≡ r → length (value_or no_frame r).frame ≤ 127
timed-fits s at y h (is p) q = (frame_back s at p.value p.next y h q).fits.short
timed-fits s at y h (refused n) q = omega arith

place-length : (f : Timed) → length f.frame ≤ 127 → length (place_of f) ≡ 132
unfolding place_of le32_bytes le16_bytes
place-length f h = omega (arith, length-append f.frame (replicate (127 - length f.frame) 0), length-replicate {A = ℕ} (127 - length f.frame) 0)

used-length : (u : Bool) (s : List ℕ) (at : ℕ) → Bytes s → at ≤ length s → length (used_bytes u s at) ≡ 132
unfolding used_bytes frame_at
used-length true s at y h = place-length (frame_at s at) (timed-fits s at y h (frame_field s at) refl)
used-length false s at y h = refl

-- three places, from what calls told
module _ (s : List ℕ) (y : Bytes s) (n at a b r to : ℕ) (few : n ≤ 3) (h : at ≤ length s) (l m1 m2 m3 : List ℕ) where
  pub places-put : (a ≡ choose (ltb 0 n) (after_at s at) at) × (m1 ≡ put to (choose (ltb 0 n) (place_of (frame_at s at)) (replicate 132 0)) l) → (b ≡ choose (ltb 1 n) (after_at s a) a) × (m2 ≡ put (to + 132) (choose (ltb 1 n) (place_of (frame_at s a)) (replicate 132 0)) m1) → (r ≡ choose (ltb 2 n) (after_at s b) b) × (m3 ≡ put (to + 264) (choose (ltb 2 n) (place_of (frame_at s b)) (replicate 132 0)) m2) → (r ≡ behind_at n s at) × (m3 ≡ put to (places_bytes (frames_at n s at)) l)
  unfolding used_bytes used_after
  places-put p q z =
      let t = three-go n s at few in
      let ea = p.0 in
      let eb = q.0 ∙ ap (used_after (ltb 1 n) s) ea in
      let ha = used-within (ltb 0 n) s at a y h ea in
      let d : to + 264 ≡ to + 132 + 132 = omega arith in
      let x = more m1 m2 m3 (to + 132) 132 (used_bytes (ltb 1 n) s a) (used_bytes (ltb 2 n) s b) (used-length (ltb 1 n) s a y ha) q.1 (z.1 ∙ ap (λ k. put k (used_bytes (ltb 2 n) s b) m2) d) in
      let w = more l m1 m3 to 132 (used_bytes (ltb 0 n) s at) (used_bytes (ltb 1 n) s a ++ used_bytes (ltb 2 n) s b) (used-length (ltb 0 n) s at y h) p.1 x in
      (z.0 ∙ ap (used_after (ltb 2 n) s) eb ∙ t.0, w ∙ ap (λ k. put to k l) (ap₂ (λ u v. used_bytes (ltb 0 n) s at ++ (used_bytes (ltb 1 n) s u ++ used_bytes (ltb 2 n) s v)) ea eb ∙ t.1))

-- ---- frames from a place on
pub frames-length : (n : ℕ) (s : List ℕ) (at : ℕ) → length (frames_at n s at) ≡ n
unfolding frames_at
frames-length zero s at = refl
frames-length (suc n) s at = ap suc (frames-length n s (after_at s at))

fits-go : (s : List ℕ) (at : ℕ) → Bytes s → at ≤ length s → (r : Read Timed) → frame_field s at ≡ r → Fits (value_or no_frame r)
fits-go s at y h (is p) q = (frame_back s at p.value p.next y h q).fits
fits-go s at y h (refused n) q = record { time = omega arith; short = omega arith; bytes = bytes-nil }

pub each_at : (n : ℕ) (s : List ℕ) (at : ℕ) → Bytes s → at ≤ length s → Each (frames_at n s at)
unfolding frames_at frame_at
each_at zero s at y h k g = absurd (omega arith)
each_at (suc n) s at y h zero g = fits-go s at y h (frame_field s at) refl
each_at (suc n) s at y h (suc k) g = each_at n s (after_at s at) y (after-within s at y h) k (omega arith)

pub behind-within : (n : ℕ) (s : List ℕ) (at : ℕ) → Bytes s → at ≤ length s → behind_at n s at ≤ length s
unfolding behind_at
behind-within zero s at y h = h
behind-within (suc n) s at y h = behind-within n s (after_at s at) y (after-within s at y h)

-- ---- what stands where it was put
pub put-stands : (at n : ℕ) (bs l : List ℕ) → length bs ≡ n → at + n ≤ length l → take (at + n - at) (drop at (put at bs l)) ≡ bs
put-stands at n bs l e h =
    let g : at + length bs ≤ length l = omega arith in
    let a : at ≤ length l = omega arith in
    let k : at + n - at ≡ length bs = omega arith in
    let p : put at bs l ≡ take at l ++ (bs ++ drop (at + length bs) l) = put-sets at bs l ∙ sets-eq bs l at g ∙ append_assoc (take at l) bs (drop (at + length bs) l) in
    ap₂ (λ i x. take i (drop at x)) k p ∙ ap (take (length bs)) (drop_at (take at l) (bs ++ drop (at + length bs) l) at (length-take-le at l a)) ∙ take_at bs (drop (at + length bs) l) (length bs) refl

-- ---- the block
module _ (b n : ℕ) (fs : List Timed) (few : length fs ≤ 3) (each : Each fs) (q : length fs ≡ n) where
  body_is : front_bytes b n ++ (places_bytes fs ++ replicate 108 0) ≡ body_of b fs
  unfolding front_bytes places_bytes body_of
  body_is = ap (λ k. (le32_bytes b ++ (k ∷ 0 ∷ [])) ++ ((place_in 0 fs ++ (place_in 1 fs ++ place_in 2 fs)) ++ replicate 108 0)) (sym q) ∙ simp append_assoc

  body-510 : length (body_of b fs) ≡ 510
  body-510 = body-length b fs few (λ k h. (each k h).short)

  front-6 : length (front_bytes b n) ≡ 6
  unfolding front_bytes le32_bytes le16_bytes
  front-6 = refl

  places-396 : length (places_bytes fs) ≡ 396
  places-396 = omega (arith, ap length body_is, body-510, front-6, length-append (front_bytes b n) (places_bytes fs ++ replicate 108 0), length-append (places_bytes fs) (replicate 108 0), length-replicate {A = ℕ} 108 0)

  pub block-put : (to x : ℕ) (l m1 m2 m3 m4 : List ℕ) → to + 512 ≤ length l → m1 ≡ put to (front_bytes b n) l → m2 ≡ put (to + 6) (places_bytes fs) m1 → m3 ≡ put (to + 402) (replicate 108 0) m2 → x ≡ fcs_of (take (to + 510 - to) (drop to m3)) → m4 ≡ put (to + 510) (le16_bytes x) m3 → m4 ≡ put to (block_of b fs) l
  unfolding block_of
  block-put to x l m1 m2 m3 m4 h p r u c w =
      let d : to + 402 ≡ to + 6 + 396 = omega arith in
      let g : to + 510 ≤ length l = omega arith in
      let y = more m1 m2 m3 (to + 6) 396 (places_bytes fs) (replicate 108 0) places-396 r (u ∙ ap (λ k. put k (replicate 108 0) m2) d) in
      let z = more l m1 m3 to 6 (front_bytes b n) (places_bytes fs ++ replicate 108 0) front-6 p y ∙ ap (λ k. put to k l) body_is in
      let f : x ≡ fcs_of (body_of b fs) = c ∙ ap (λ k. fcs_of (take (to + 510 - to) (drop to k))) z ∙ ap fcs_of (put-stands to 510 (body_of b fs) l body-510 g) in
      more l m3 m4 to 510 (body_of b fs) (le16_bytes (fcs_of (body_of b fs))) body-510 z (w ∙ ap (λ k. put (to + 510) (le16_bytes k) m3) f)

-- ---- block after block
pub blocks-turn : (left n b : ℕ) (s : List ℕ) (at : ℕ) → 0 < left → n ≡ min left 3 → blocks_from b (frames_at left s at) ≡ block_of b (frames_at n s at) ++ blocks_from (b + 1) (frames_at (left - n) s (behind_at n s at))
unfolding blocks_from frames_at behind_at
blocks-turn zero n b s at h e = absurd (omega arith)
blocks-turn (suc zero) n b s at h e = rw e (sym (append-nil _))
blocks-turn (suc (suc zero)) n b s at h e = rw e (sym (append-nil _))
blocks-turn (suc (suc (suc m))) n b s at h e =
    let k : n ≡ 3 = omega arith in
    let j : suc (suc (suc m)) - 3 ≡ m = omega arith in
    rw k (rw j refl)

-- one block put, from what calls told
module _ (s : List ℕ) (left n b at to r : ℕ) (l o : List ℕ) (h : 0 < left) (e : n ≡ min left 3) (y : Bytes s) (w : at ≤ length s) (p : (r ≡ behind_at n s at) × (o ≡ put to (block_of b (frames_at n s at)) l)) where
  block-512 : length (block_of b (frames_at n s at)) ≡ 512
  block-512 =
      let q = frames-length n s at in
      let few : length (frames_at n s at) ≤ 3 = omega arith in
      block-length b (frames_at n s at) few (each_at n s at y w)

  pub blocks-on : put (to + 512) (blocks_from (b + 1) (frames_at (left - n) s r)) o ≡ put to (blocks_from b (frames_at left s at)) l
  blocks-on =
      let t = blocks_from (b + 1) (frames_at (left - n) s (behind_at n s at)) in
      ap₂ (λ x z. put (to + 512) (blocks_from (b + 1) (frames_at (left - n) s x)) z) p.0 p.1
      ∙ ap (λ k. put (to + k) t (put to (block_of b (frames_at n s at)) l)) (sym block-512)
      ∙ sym (put-append to (block_of b (frames_at n s at)) t l)
      ∙ ap (λ x. put to x l) (sym (blocks-turn left n b s at h e))

  pub at-within : r ≤ length s
  at-within = let z = behind-within n s at y w in let q = p.0 in omega arith

pub blocks_end : (left b : ℕ) (s : List ℕ) (at to : ℕ) (l : List ℕ) → left ≤ 0 → put to (blocks_from b (frames_at left s at)) l ≡ l
unfolding blocks_from frames_at
blocks_end zero b s at to l h = sym (put-nil to l)
blocks_end (suc n) b s at to l h = absurd (omega arith)

-- ---- the frames that were read are those from the place on, and the next place is behind them
Are : List Timed → List ℕ → ℕ → ℕ → Type 0
Are fs s at e = (fs ≡ frames_at (length fs) s at) × (e ≡ behind_at (length fs) s at)

are-none : (fs : List Timed) (s : List ℕ) (at e : ℕ) → got [] at ≡ got fs e → Are fs s at e
unfolding Are frames_at behind_at
are-none fs s at e r =
    let g = given [] fs at e r in
    subst (λ l. (l ≡ frames_at (length l) s at) × (e ≡ behind_at (length l) s at)) g.0 (refl, sym g.1)

module _ (n k : ℕ) (s : List ℕ) where
  are-go : ((at : ℕ) (fs : List Timed) (e : ℕ) → frames_field n (k + 1) s at ≡ got fs e → Are fs s at e) → (at : ℕ) (fs : List Timed) (e : ℕ) (t : Bool) → choose t (got [] at) (and_then (frame_field s at) (λ p. choose (ltb k most_frames) (and_then (frames_field n (k + 1) s p.next) (λ q. got (p.value ∷ q.value) q.next)) (refused 18))) ≡ got fs e → Are fs s at e
  unfolding Are frames_at behind_at frame_at after_at
  are-go ih at fs e true r = are-none fs s at e r
  are-go ih at fs e false r =
      let a = took frame_field (λ f s i. choose (ltb k most_frames) (and_then (frames_field n (k + 1) s i) (λ q. got (f ∷ q.value) q.next)) (refused 18)) s at fs e r in
      let p = passed (ltb k most_frames) (and_then (frames_field n (k + 1) s a.next) (λ q. got (a.value ∷ q.value) q.next)) 18 e fs a.rest in
      let b = took (frames_field n (k + 1)) (λ gs. give (a.value ∷ gs)) s a.next fs e p.1 in
      let z = ih a.next b.value b.next b.first in
      let f = ap (value_or no_frame) a.first in
      let g = ap (next_or at) a.first in
      let w = given (a.value ∷ b.value) fs b.next e b.rest in
      subst (λ l. (l ≡ frames_at (length l) s at) × (e ≡ behind_at (length l) s at)) w.0
      (ap₂ ◌∷◌ (sym f) (z.0 ∙ ap (λ i. frames_at (length b.value) s i) (sym g)), sym w.1 ∙ z.1 ∙ ap (λ i. behind_at (length b.value) s i) (sym g))

frames-go : (n k : ℕ) (s : List ℕ) (at : ℕ) (fs : List Timed) (e : ℕ) → frames_field n k s at ≡ got fs e → Are fs s at e
unfolding frames_field
frames-go zero k s at fs e r = are-none fs s at e r
frames-go (suc n) k s at fs e r = are-go n k s (λ at fs e r. frames-go n (k + 1) s at fs e r) at fs e (leb (length s) at) r

module _ (n k : ℕ) (s : List ℕ) (at : ℕ) (fs : List Timed) (e : ℕ) (r : frames_field n k s at ≡ got fs e) where
  pub frames-are : fs ≡ frames_at (length fs) s at
  unfolding Are
  frames-are = (frames-go n k s at fs e r).0

  pub frames-behind : e ≡ behind_at (length fs) s at
  unfolding Are
  frames-behind = (frames-go n k s at fs e r).1

-- ---- the whole move
pub record Came (s : List ℕ) (k at : ℕ) : Type 0 where
  pub move : from_pcap s ≡ is (blocks_of (frames_at k s at))
  pub few : k ≤ most_frames
  pub size : 512 * ((k + 2) / 3) ≡ length (blocks_of (frames_at k s at))

came-go : (s : List ℕ) → Bytes s → (at k : ℕ) (r : Read (List Timed)) → frames_field (length s) 0 s at ≡ r → head s 0 ≡ got tt at → is k ≡ and_then r (λ p. is (0 + length p.value)) → Came s k at
unfolding from_pcap frames_of_pcap
came-go s y at k (is p) q e c =
    let x : k ≡ 0 + length p.value = cc in
    let z : k ≡ length p.value = omega arith in
    let f : frames_of_pcap s ≡ is p.value = rw (e, q) refl in
    let v = pcap-holds s p.value y f in
    let g : p.value ≡ frames_at k s at = frames-are (length s) 0 s at p.value p.next q ∙ ap (λ i. frames_at i s at) (sym z) in
    let m = v.few in
    record {
      move = ap (λ a. and_then a (λ fs. is (blocks_of fs))) f ∙ ap (λ l. is (blocks_of l)) g;
      few = omega arith;
      size = ap (λ i. 512 * ((i + 2) / 3)) z ∙ sym (blocks-length p.value 0 v.each) ∙ ap (λ l. length (blocks_of l)) g;
    }
came-go s y at k (refused n) q e c = not-refused _ n (sym c)

module _ (s : List ℕ) (y : Bytes s) (h : Result Cursor Refusal) (p : of_skip h ≡ head s 0) (c : Cursor) (q : h ≡ Ok c) where
  start : head s 0 ≡ got tt c.at
  start = sym p ∙ ap of_skip q

  pub start-within : c.at ≤ length s
  start-within = (back_head s tt c.at y start).1.1

  module _ (r : Result ℕ Refusal) (g : of_answer r ≡ counted (length s) 0 s 0 c.at) (k : ℕ) (u : r ≡ Ok k) where
    pub came : Came s k c.at
    came =
        let z : length s - 0 ≡ length s = omega arith in
        came-go s y c.at k (frames_field (length s) 0 s c.at) refl start
        (sym (ap of_answer u) ∙ g ∙ ap (λ n. and_then (frames_field n 0 s c.at) (λ p. is (0 + length p.value))) z)

    pub came-short : (room : List ℕ) → length room < 512 * ((k + 2) / 3) → (refused 7 ≡ sized (from_pcap s) room) × (room ≡ placed (from_pcap s) room)
    came-short room w = move-short (from_pcap s) (512 * ((k + 2) / 3)) room (ap is came.size ∙ sym (ap lengthed came.move)) w

    pub came-made : (room out : List ℕ) → 512 * ((k + 2) / 3) ≤ length room → out ≡ put 0 (blocks_of (frames_at k s c.at)) room → (is (512 * ((k + 2) / 3)) ≡ sized (from_pcap s) room) × (out ≡ placed (from_pcap s) room)
    came-made room out w o = move-made (from_pcap s) (blocks_of (frames_at k s c.at)) (512 * ((k + 2) / 3)) room out came.move came.size w o
