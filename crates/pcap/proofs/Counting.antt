-- What the functions of coming need: frames counted one after the other, and the length of their blocks.
use Rattle.octets.specs.Answers.{of_answer, of_skip}
use Rattle.std.specs.Prelude.{Result, Ok, Err}
use Prim.Native.Nat.{ℕ, zero, suc, ◌+◌, ◌*◌, ◌-◌, ◌/◌, ◌≤◌, ◌<◌}
use native.Mathlib.Nat.{add-zero}
use native.Mathlib.Omega.{arith}
use mathlib.Core.Path.{◌≡◌, refl, sym, ap, ◌∙◌}
use mathlib.Core.List.{List, [], ◌∷◌}
use lib.Dec.{ltb}
use lib.ListN.{length, take, drop, length-append}
use borrow.Author.Tests.{le-leb, lt-leb, lt-ltb, le-ltb}
use Rattle.octets.specs.Read.{is, refused, Read, got, and_then, choose}
use Rattle.octets.specs.Refusal.{number_of}
use Rattle.octets.specs.declared.refusal.Refusal.{Refusal}
use Rattle.octets.specs.declared.cursor.Cursor.{Cursor}
use Rattle.octets.proofs.Spans.{not-refused}
use Rattle.capture.specs.Block.{Timed}
use Rattle.capture.specs.Made.{block_of, Bytes}
use Rattle.pcap.specs.Frames.{blocks_from, frame_field, frames_field, most_frames, head, frames_of_pcap}
use Rattle.pcap.specs.Moves.{from_pcap, lengthed, counted}
use Rattle.pcap.specs.Answers.{of_frame_at}
use Rattle.pcap.specs.declared.read.FrameAt.{FrameAt}
use Rattle.pcap.proofs.Back.{frame_back}
use Rattle.pcap.proofs.Blocks.{Each, block-length, tail-each, first-each}

-- ---- one frame more
module _ (n k : ℕ) (s : List ℕ) (j at : ℕ) (l : j < n) (h : at < length s) where
  opened : (r : Read Timed) → frame_field s at ≡ r → counted n k s j at ≡ and_then (and_then r (λ p. choose (ltb (k + j) most_frames) (and_then (frames_field (n - (j + 1)) (k + j + 1) s p.next) (λ q. got (p.value ∷ q.value) q.next)) (refused 18))) (λ p. is (j + length p.value))
  unfolding frames_field
  opened r q =
      let e : n - j ≡ suc (n - (j + 1)) = omega arith in
      rw (e, lt-leb (length s) at h) (rw q refl)

  one-go : (f : Timed) (r : Read (List Timed)) → and_then (and_then r (λ q. got (f ∷ q.value) q.next)) (λ p. is (j + length p.value)) ≡ and_then r (λ p. is (j + 1 + length p.value))
  one-go f (is p) = let e : j + suc (length p.value) ≡ j + 1 + length p.value = omega arith in ap is e
  one-go f (refused x) = refl

  pub count_turn : (f : Timed) (m : ℕ) → frame_field s at ≡ got f m → k + j < most_frames → counted n k s (j + 1) m ≡ counted n k s j at
  count_turn f m q u =
      let e : k + (j + 1) ≡ k + j + 1 = omega arith in
      ap (λ i. and_then (frames_field (n - (j + 1)) i s m) (λ p. is (j + 1 + length p.value))) e
      ∙ sym (opened (got f m) q ∙ rw (lt-ltb (k + j) most_frames u) (one-go f (frames_field (n - (j + 1)) (k + j + 1) s m)))

  pub count-full : (f : Timed) (m : ℕ) → frame_field s at ≡ got f m → most_frames ≤ k + j → refused 18 ≡ counted n k s j at
  count-full f m q u = sym (opened (got f m) q ∙ rw (le-ltb (k + j) most_frames u) refl)

  pub count-stop : (x : ℕ) → frame_field s at ≡ refused x → refused x ≡ counted n k s j at
  count-stop x q = sym (opened (refused x) q)

pub end-go : (n k : ℕ) (s : List ℕ) (at : ℕ) → length s ≤ at → frames_field n k s at ≡ got [] at
unfolding frames_field
end-go zero k s at h = refl
end-go (suc n) k s at h = rw (le-leb (length s) at h) refl

-- no bytes are left, or no more frames are asked for
pub count-end : (n k : ℕ) (s : List ℕ) (j at : ℕ) → length s ≤ at → is j ≡ counted n k s j at
count-end n k s j at h = sym (rw (end-go (n - j) (k + j) s at h) (ap is (add-zero j)))

pub count_most : (n k : ℕ) (s : List ℕ) (j at : ℕ) → n ≤ j → is j ≡ counted n k s j at
unfolding frames_field
count_most n k s j at h =
    let e : n - j ≡ 0 = omega arith in
    sym (ap (λ i. and_then (frames_field i (k + j) s at) (λ p. is (j + length p.value))) e ∙ ap is (add-zero j))

-- from what calls told; number is that of the frame
module _ (n k : ℕ) (s : List ℕ) (j at : ℕ) (l : j < n) (h : at < length s) (y : Result FrameAt Refusal) (p : of_frame_at s y ≡ frame_field s at) where
  frame_is : (x : Result FrameAt Refusal) → y ≡ x → frame_field s at ≡ of_frame_at s x
  frame_is x q = sym p ∙ ap (of_frame_at s) q

  pub told-turn : (number : ℕ) → number ≡ k + j → (f : FrameAt) → y ≡ Ok f → number < most_frames → counted n k s (j + 1) (f.start.at + f.len) ≡ counted n k s j at
  told-turn number e f q u = count_turn n k s j at l h _ (f.start.at + f.len) (frame_is (Ok f) q) (omega arith)

  pub told-full : (number : ℕ) → number ≡ k + j → (f : FrameAt) → y ≡ Ok f → most_frames ≤ number → refused 18 ≡ counted n k s j at
  told-full number e f q u = count-full n k s j at l h _ (f.start.at + f.len) (frame_is (Ok f) q) (omega arith)

  pub told-stop : (e : Refusal) → y ≡ Err e → refused (number_of e) ≡ counted n k s j at
  told-stop e q = count-stop n k s j at l h (number_of e) (frame_is (Err e) q)

  pub told-on : Bytes s → (f : FrameAt) → y ≡ Ok f → f.start.at + f.len ≤ length s
  told-on b f q =
      let g : at ≤ length s = omega arith in
      let t : Timed = record { time = f.time; frame = take f.len (drop f.start.at s) } in
      (frame_back s at t (f.start.at + f.len) b g (frame_is (Ok f) q)).stands.1.1

-- ---- the length of blocks
pub blocks-length : (fs : List Timed) (b : ℕ) → Each fs → length (blocks_from b fs) ≡ 512 * ((length fs + 2) / 3)
unfolding blocks_from
blocks-length [] b v = refl
blocks-length (x ∷ []) b v = block-length b (x ∷ []) (omega arith) v
blocks-length (x ∷ y ∷ []) b v = block-length b (x ∷ y ∷ []) (omega arith) v
blocks-length (x ∷ y ∷ z ∷ fs) b v =
    let g = x ∷ y ∷ z ∷ [] in
    let u : Each fs = tail-each z fs (tail-each y (z ∷ fs) (tail-each x (y ∷ z ∷ fs) v)) in
    omega (arith, length-append (block_of b g) (blocks_from (b + 1) fs), block-length b g (omega arith) (first-each x y z fs v), blocks-length fs (b + 1) u)

-- ---- the whole
module _ (s : List ℕ) (b : Bytes s) where
  none-go : (at n : ℕ) (r : Read (List Timed)) → frames_field (length s) 0 s at ≡ r → head s 0 ≡ got tt at → refused n ≡ and_then r (λ p. is (0 + length p.value)) → refused n ≡ lengthed (from_pcap s)
  unfolding from_pcap frames_of_pcap
  none-go at n (is p) q e c = not-refused _ n c
  none-go at n (refused k) q e c = rw (e, q) c

  -- from what calls told
  module _ (y : Result Cursor Refusal) (p : of_skip y ≡ head s 0) where
    pub head-none : (e : Refusal) → y ≡ Err e → refused (number_of e) ≡ lengthed (from_pcap s)
    unfolding from_pcap frames_of_pcap
    head-none e q = let z : head s 0 ≡ refused (number_of e) = sym p ∙ ap of_skip q in rw z refl

    module _ (c : Cursor) (q : y ≡ Ok c) (r : Result ℕ Refusal) (g : of_answer r ≡ counted (length s) 0 s 0 c.at) where
      all_left : counted (length s) 0 s 0 c.at ≡ and_then (frames_field (length s) 0 s c.at) (λ p. is (0 + length p.value))
      all_left = let z : length s - 0 ≡ length s = omega arith in ap (λ n. and_then (frames_field n 0 s c.at) (λ p. is (0 + length p.value))) z

      start : head s 0 ≡ got tt c.at
      start = sym p ∙ ap of_skip q

      pub count_none : (e : Refusal) → r ≡ Err e → refused (number_of e) ≡ lengthed (from_pcap s)
      count_none e u = none-go c.at (number_of e) (frames_field (length s) 0 s c.at) refl start (sym (ap of_answer u) ∙ g ∙ all_left)
