-- What the moves keep.
use Rattle.octets.specs.Answers.{of_answer}
use Rattle.std.specs.Prelude.{Result}
use Rattle.octets.specs.declared.refusal.Refusal.{Refusal}
use mathlib.Core.Path.{◌≡◌, refl, sym, ap, ◌∙◌}
use mathlib.Core.List.{List, [], append-nil}
use Prim.Native.Nat.{ℕ}
use native.Mathlib.Omega.{arith}
use Rattle.octets.specs.Read.{Answer, is, refused, and_then}
use Rattle.octets.proofs.Spans.{not-refused}
use Rattle.octets.proofs.Unique.{unique, answer-one}
use Rattle.capture.specs.Block.{Timed}
use Rattle.capture.specs.Made.{Bytes}
use Rattle.pcap.specs.Frames.{blocks_from, blocks_of, frames_from, frames_of_capture, head_bytes, frames_bytes, pcap_of, frames_of_pcap}
use Rattle.pcap.specs.Moves.{to_pcap, from_pcap, sized, placed, Full}
use Rattle.pcap.proofs.There.{pcap-read}
use Rattle.pcap.proofs.Back.{pcap-back, pcap-holds}
use Rattle.pcap.proofs.Blocks.{blocks-read, blocks-hold, blocks-back}

-- the frames of a move that was made
pub record Moved (r : Answer (List Timed)) (w : List Timed → List ℕ) (out : List ℕ) : Type 0 where
  pub frames : List Timed
  pub are-read : r ≡ is frames
  pub written : w frames ≡ out

moved-go : (r a : Answer (List Timed)) (w : List Timed → List ℕ) (out : List ℕ) → a ≡ r → and_then r (λ fs. is (w fs)) ≡ is out → Moved a w out
moved-go (is fs) a w out q e = record { frames = fs; are-read = q; written = cc }
moved-go (refused n) a w out q e = not-refused _ n e

pub went : (s p : List ℕ) → to_pcap s ≡ is p → Moved (frames_of_capture s) pcap_of p
unfolding to_pcap
went s p e = moved-go (frames_of_capture s) (frames_of_capture s) pcap_of p refl e

pub came : (p c : List ℕ) → from_pcap p ≡ is c → Moved (frames_of_pcap p) blocks_of c
unfolding from_pcap
came p c e = moved-go (frames_of_pcap p) (frames_of_pcap p) blocks_of c refl e

-- both moves are over one list of frames: that of a capture comes back, whatever its blocks were
pub there_and_back : (s p : List ℕ) → Bytes s → to_pcap s ≡ is p → (c : List ℕ) × ((from_pcap p ≡ is c) × (frames_of_capture c ≡ frames_of_capture s))
unfolding from_pcap
there_and_back s p y e =
    let m = went s p e in
    let h = blocks-hold s m.frames y m.are-read in
    let r : frames_of_pcap p ≡ is m.frames = ap frames_of_pcap (sym m.written) ∙ pcap-read m.frames h in
    (blocks_of m.frames, (ap (λ a. and_then a (λ fs. is (blocks_of fs))) r, blocks-read m.frames h.each ∙ sym m.are-read))

-- the very bytes, where every block but the last holds three frames and the last at least one
pub there-and-back-bytes : (s p : List ℕ) → Bytes s → Full s → to_pcap s ≡ is p → from_pcap p ≡ is s
unfolding from_pcap
there-and-back-bytes s p y f e =
    let m = went s p e in
    let h = blocks-hold s m.frames y m.are-read in
    let r : frames_of_pcap p ≡ is m.frames = ap frames_of_pcap (sym m.written) ∙ pcap-read m.frames h in
    ap (λ a. and_then a (λ fs. is (blocks_of fs))) r ∙ ap is (blocks-back s m.frames y f m.are-read)

-- the bytes of every accepted pcap
pub back-and-there : (p c : List ℕ) → Bytes p → from_pcap p ≡ is c → to_pcap c ≡ is p
unfolding to_pcap
back-and-there p c y e =
    let m = came p c e in
    let h = pcap-holds p m.frames y m.are-read in
    let r : frames_of_capture c ≡ is m.frames = ap frames_of_capture (sym m.written) ∙ blocks-read m.frames h.each in
    ap (λ a. and_then a (λ fs. is (pcap_of fs))) r ∙ ap is (sym (pcap-back p m.frames y m.are-read))

-- a capture with no frame, of no block or of blocks that hold none, is the bare header, and that comes back as no block
pub bare : (s : List ℕ) → frames_of_capture s ≡ is [] → to_pcap s ≡ is head_bytes
unfolding to_pcap pcap_of frames_bytes
bare s e = ap (λ a. and_then a (λ fs. is (pcap_of fs))) e ∙ ap is (append-nil head_bytes)

pub empty : to_pcap [] ≡ is head_bytes
unfolding frames_from
empty = bare [] refl

pub bare-back : from_pcap head_bytes ≡ is []
unfolding from_pcap blocks_from pcap_of frames_bytes
bare-back =
    let r : frames_of_pcap head_bytes ≡ is [] = ap frames_of_pcap (sym (append-nil head_bytes)) ∙ pcap-read [] (record { each = λ k h. absurd (omega arith); few = omega arith }) in
    ap (λ a. and_then a (λ fs. is (blocks_of fs))) r

-- any two answers that meet a move's contract are equal, and so is the room after them
pub move-one : (a : Answer (List ℕ)) (room : List ℕ) (y z : Result ℕ Refusal) (l m : List ℕ) → (of_answer y ≡ sized a room) × (l ≡ placed a room) → (of_answer z ≡ sized a room) × (m ≡ placed a room) → (y ≡ z) × (l ≡ m)
move-one a room y z l m p q = (unique of_answer answer-one (sized a room) y z p.0 q.0, p.1 ∙ sym q.1)
