-- What is heard of a capture is what its file tells (capture/specs/File.antt): its frames are received in their order and at their
-- times, and the first bad block is named.
use Rattle.std.proofs.Common.{◌≡◌, ℕ, zero, suc, ◌+◌, ◌/◌, ◌^◌, ◌<◌, Bool, true, false, List, [], ◌∷◌, ◌++◌, length, take, drop, sym, refl, ap, ◌∙◌, ap₂, append_assoc, arith}
use Rattle.capture.specs.Block.{Timed, frames_of, good_block}
use Rattle.capture.specs.Made.{Bytes}
use Rattle.capture.specs.File as File
use Rattle.capture.specs.File.{First, none, bad_at, refusal, pieces, blocks_of, joined, tell, whole_file}
use Rattle.capture.proofs.Exact.{good-holds}
use Rattle.capture.proofs.Parts.{bytes_take, bytes_drop}
use Rattle.listen.specs.Lines.{bad_line, end_line}
use Rattle.listen.specs.Heard.{Listener, Listened, next, frame_result, after_frame, said_of, after_frames, said_of_all, hear_block, block_on, hear_blocks, hear_all, starting, beginning, heard}

-- who listens, where the block number b is due: a frame is received alike at any
abbrev pub at_block : ℕ → Listener → Listener
at_block b x = record { ear = record { table = x.ear.table; frames = x.ear.frames; block = b }; mem = x.mem; out = x.out }

frame_at : (b : ℕ) (x : Listener) (f : Timed) → after_frame (at_block b x) f ≡ at_block b (after_frame x f)
unfolding after_frame frame_result
frame_at b x f = refl

said_at : (b : ℕ) (x : Listener) (f : Timed) → said_of (at_block b x) f ≡ said_of x f
unfolding said_of frame_result
said_at b x f = refl

frames-at-block : (b : ℕ) (x : Listener) (fs : List Timed) → after_frames (at_block b x) fs ≡ at_block b (after_frames x fs)
unfolding after_frames
frames-at-block b x [] = refl
frames-at-block b x (f ∷ fs) = ap (λ y. after_frames y fs) (frame_at b x f) ∙ frames-at-block b (after_frame x f) fs

said-at-block : (b : ℕ) (x : Listener) (fs : List Timed) → said_of_all (at_block b x) fs ≡ said_of_all x fs
unfolding said_of_all
said-at-block b x [] = refl
said-at-block b x (f ∷ fs) = ap₂ (λ l y. l ∷ said_of_all y fs) (said_at b x f) (frame_at b x f) ∙ ap (λ ls. said_of x f ∷ ls) (said-at-block b (after_frame x f) fs)

-- the block that is due stays
due-stays : (x : Listener) (fs : List Timed) → (after_frames x fs).ear.block ≡ x.ear.block
due-stays x fs = ap (λ y. y.ear.block) (frames-at-block x.ear.block x fs)

-- ---- frames, and then others
frames-then : (x : Listener) (fs gs : List Timed) → after_frames x (fs ++ gs) ≡ after_frames (after_frames x fs) gs
unfolding after_frames
frames-then x [] gs = refl
frames-then x (f ∷ fs) gs = frames-then (after_frame x f) fs gs

said-then : (x : Listener) (fs gs : List Timed) → said_of_all x (fs ++ gs) ≡ said_of_all x fs ++ said_of_all (after_frames x fs) gs
unfolding after_frames said_of_all
said-then x [] gs = refl
said-then x (f ∷ fs) gs = ap (λ ls. said_of x f ∷ ls) (said-then (after_frame x f) fs gs)

-- ---- block by block
-- the line of the first bad block
abbrev pub bad_said : First → List (List ℕ)
bad_said none = []
bad_said (bad_at b) = bad_line b ∷ []
bad_said (refusal n) = []

-- the lines and, but for the number of the block that is due, who listens after them
pub record Tells (x : Listener) (w : File.FramesTold) (q : Listened) : Type 0 where
  pub said : q.said ≡ said_of_all x w.frames ++ bad_said w.first
  pub after : at_block 0 q.after ≡ at_block 0 (after_frames x w.frames)

module _ (x : Listener) (b : ℕ) (t : List ℕ) (ss : List (List ℕ)) (D : x.ear.block ≡ b) where
  y : Listener
  y = block_on (after_frames x (frames_of t))

  y-at : y ≡ at_block (next b) (after_frames x (frames_of t))
  unfolding y
  y-at = ap (λ k. at_block (next k) (after_frames x (frames_of t))) (due-stays x (frames_of t) ∙ D)

  good-go : good_block b t ≡ true → next b ≡ b + 1 → Tells y (tell (b + 1) ss) (hear_blocks y ss) → Tells x (tell b (t ∷ ss)) (hear_blocks x (t ∷ ss))
  unfolding hear_blocks hear_block tell y
  good-go g n I =
      let fs = frames_of t in
      let gs = (tell (b + 1) ss).frames in
      let z = (tell (b + 1) ss).first in
      let u : good_block x.ear.block t ≡ true = ap (λ k. good_block k t) D ∙ g in
      let s = I.said ∙ ap (λ w. said_of_all w gs ++ bad_said z) y-at ∙ ap (λ ls. ls ++ bad_said z) (said-at-block (next b) (after_frames x fs) gs) in
      let a = I.after ∙ ap (λ w. at_block 0 (after_frames w gs)) y-at ∙ ap (at_block 0) (frames-at-block (next b) (after_frames x fs) gs) in
      rw (u, g)
      (record {
        said = ap (λ ls. said_of_all x fs ++ ls) s ∙ sym (append_assoc (said_of_all x fs) (said_of_all (after_frames x fs) gs) (bad_said z)) ∙ ap (λ ls. ls ++ bad_said z) (sym (said-then x fs gs));
        after = a ∙ ap (at_block 0) (sym (frames-then x fs gs));
      })

  bad-go : good_block b t ≡ false → Tells x (tell b (t ∷ ss)) (hear_blocks x (t ∷ ss))
  unfolding hear_blocks hear_block tell after_frames said_of_all
  bad-go g =
      let u : good_block x.ear.block t ≡ false = ap (λ k. good_block k t) D ∙ g in
      rw (u, g) (record { said = ap (λ k. bad_line k ∷ []) D; after = refl })

number-on : (b : ℕ) (t : List ℕ) → Bytes t → good_block b t ≡ true → next b ≡ b + 1
number-on b t h g = let k : b < 2 ^ 32 = (good-holds b t h g).number in omega arith

tells-go : (n : ℕ) (u : Bool) (x : Listener) (b : ℕ) (s : List ℕ) → Bytes s → x.ear.block ≡ b → good_block b (take 512 s) ≡ u → Tells x (tell b (pieces n s)) (hear_blocks x (pieces n s))
unfolding pieces hear_blocks tell after_frames said_of_all
tells-go zero u x b s h D g = record { said = refl; after = refl }
tells-go (suc n) true x b s h D g =
    let t = take 512 s in
    let k = number-on b t (bytes_take 512 s h) g in
    let E = ap (λ w. w.ear.block) (y-at x b t (pieces n (drop 512 s)) D) ∙ k in
    good-go x b t (pieces n (drop 512 s)) D g k
    (tells-go n (good_block (b + 1) (take 512 (drop 512 s))) (y x b t (pieces n (drop 512 s)) D) (b + 1) (drop 512 s) (bytes_drop 512 s h) E refl)
tells-go (suc n) false x b s h D g = bad-go x b (take 512 s) (pieces n (drop 512 s)) D g

-- ---- a capture
pub hears-file : (x : Listener) (s : List ℕ) → Bytes s → Tells x (tell x.ear.block (blocks_of s)) (hear_all x s)
hears-file x s h = tells-go ((length s + 511) / 512) (good_block x.ear.block (take 512 s)) x x.ear.block s h refl refl

-- what the program prints, of the frames and the first bad block of the file
pub heard-file : (s : List ℕ) → Bytes s
    → heard s ≡ joined (said_of_all beginning (whole_file s).frames ++ bad_said (whole_file s).first) ++ end_line (after_frames beginning (whole_file s).frames).ear.frames
unfolding heard whole_file beginning starting
heard-file s h =
    let T = hears-file beginning s h in
    ap₂ (λ ls k. joined ls ++ end_line k) T.said (ap (λ w. w.ear.frames) T.after)
