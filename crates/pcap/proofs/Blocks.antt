-- A capture of blocks, both ways: reading gives back the frames of which it was written (`blocks-read`); the frames read are what both
-- forms can hold (`blocks-hold`); and where each block but the last is full, the bytes are what is written of the frames (`blocks-back`).
use Prim.Native.Nat.{ℕ, zero, suc, ◌+◌, ◌*◌, ◌^◌, ◌≤◌, ◌<◌}
use native.Mathlib.Omega.{arith}
use mathlib.Core.Path.{◌≡◌, refl, sym, ap, ap₂, subst, ◌∙◌}
use mathlib.Core.List.{List, [], ◌∷◌, ◌++◌, append-nil}
use mathlib.Core.Bool.{Bool, true, false}
use lib.ListN.{length, get_or, take, drop, length-append, length-drop, take-append-drop}
use lib.Seq.{take_at, drop_at, take_all}
use Rattle.octets.specs.Read.{Answer, is, refused, and_then, choose}
use Rattle.octets.specs.Write.{le16_bytes}
use Rattle.octets.proofs.Spans.{not-refused}
use Rattle.capture.specs.Block.{Timed, count_of, frames_of, good_block, judged}
use Rattle.capture.specs.Fcs.{fcs_of}
use Rattle.capture.specs.Made.{no_frame, body_of, block_of, Bytes, Fits}
use Rattle.capture.proofs.Parts.{bytes_take, bytes_drop}
use Rattle.capture.proofs.Made.{body-length, made-judged, made-frames}
use Rattle.capture.proofs.Exact.{frames-length, good-holds, good-made}
use Rattle.pcap.specs.Frames.{blocks_from, blocks_of, block_count, frames_from, frames_of_capture}
use Rattle.pcap.specs.Moves.{Holdable, FullFrom, Full}

abbrev pub Each : List Timed → Type 0
Each fs = (k : ℕ) → k < length fs → Fits (get_or fs k no_frame)

-- ---- one block, written and read
module _ (b : ℕ) (g : List Timed) (few : length g ≤ 3) (each : Each g) where
  short : (k : ℕ) → k < length g → length (get_or g k no_frame).frame ≤ 127
  short k h = (each k h).short

  pub block-length : length (block_of b g) ≡ 512
  unfolding block_of le16_bytes
  block-length = length-append (body_of b g) (le16_bytes (fcs_of (body_of b g))) ∙ ap (λ (n : ℕ). n + 2) (body-length b g few short)

  pub block-count : (t : List ℕ) → block_count (block_of b g ++ t) ≡ suc (block_count t)
  block-count t = omega (arith, length-append (block_of b g) t, block-length)

  pub block_read : (n : ℕ) (t : List ℕ) → frames_from (suc n) b (block_of b g ++ t) ≡ and_then (frames_from n (b + 1) t) (λ fs. is (g ++ fs))
  unfolding frames_from
  block_read n t =
      rw (take_at (block_of b g) t 512 block-length, drop_at (block_of b g) t 512 block-length, made-judged b g few short, made-frames b g few short)
      refl

  pub block-alone : frames_from (block_count (block_of b g)) b (block_of b g) ≡ is g
  unfolding frames_from
  block-alone =
      let e = append-nil (block_of b g) in
      let n : block_count (block_of b g) ≡ 1 = omega (arith, block-length) in
      rw n (ap (frames_from 1 b) (sym e) ∙ block_read 0 [] ∙ ap is (append-nil g))

pub tail-each : (f : Timed) (fs : List Timed) → Each (f ∷ fs) → Each fs
tail-each f fs v k h = v (suc k) (omega arith)

pub first-each : (x y z : Timed) (fs : List Timed) → Each (x ∷ y ∷ z ∷ fs) → Each (x ∷ y ∷ z ∷ [])
first-each x y z fs v zero h = v 0 (omega arith)
first-each x y z fs v (suc zero) h = v 1 (omega arith)
first-each x y z fs v (suc (suc zero)) h = v 2 (omega arith)
first-each x y z fs v (suc (suc (suc k))) h = absurd (omega arith)

blocks-go : (fs : List Timed) (b : ℕ) → Each fs → frames_from (block_count (blocks_from b fs)) b (blocks_from b fs) ≡ is fs
unfolding frames_from blocks_from
blocks-go [] b v = refl
blocks-go (x ∷ []) b v = block-alone b (x ∷ []) (omega arith) v
blocks-go (x ∷ y ∷ []) b v = block-alone b (x ∷ y ∷ []) (omega arith) v
blocks-go (x ∷ y ∷ z ∷ fs) b v =
    let g = x ∷ y ∷ z ∷ [] in
    let w = first-each x y z fs v in
    let t = blocks_from (b + 1) fs in
    let u : Each fs = tail-each z fs (tail-each y (z ∷ fs) (tail-each x (y ∷ z ∷ fs) v)) in
    ap (λ n. frames_from n b (block_of b g ++ t)) (block-count b g (omega arith) w t)
    ∙ block_read b g (omega arith) w (block_count t) t
    ∙ ap (λ r. and_then r (λ fs. is (g ++ fs))) (blocks-go fs (b + 1) u)

pub blocks-read : (fs : List Timed) → Each fs → frames_of_capture (blocks_of fs) ≡ is fs
blocks-read fs v = blocks-go fs 0 v

-- ---- a capture that was read, taken apart
pub record Turn (n b : ℕ) (s : List ℕ) (fs : List Timed) : Type 0 where
  pub rest : List Timed
  pub good : good_block b (take 512 s) ≡ true
  pub after : frames_from n (b + 1) (drop 512 s) ≡ is rest
  pub whole : frames_of (take 512 s) ++ rest ≡ fs

turn-rest : (n b : ℕ) (s : List ℕ) (fs : List Timed) (r : Answer (List Timed)) → frames_from n (b + 1) (drop 512 s) ≡ r → good_block b (take 512 s) ≡ true → and_then r (λ gs. is (frames_of (take 512 s) ++ gs)) ≡ is fs → Turn n b s fs
turn-rest n b s fs (is gs) q g e = record { rest = gs; good = g; after = q; whole = cc }
turn-rest n b s fs (refused k) q g e = not-refused _ k e

turn-go : (n b : ℕ) (s : List ℕ) (fs : List Timed) (t : Bool) → good_block b (take 512 s) ≡ t → and_then (choose t (is (count_of (take 512 s))) (refused 15)) (λ c. and_then (frames_from n (b + 1) (drop 512 s)) (λ gs. is (frames_of (take 512 s) ++ gs))) ≡ is fs → Turn n b s fs
turn-go n b s fs true q e = turn-rest n b s fs (frames_from n (b + 1) (drop 512 s)) refl q e
turn-go n b s fs false q e = not-refused _ 15 e

pub turn : (n b : ℕ) (s : List ℕ) (fs : List Timed) → frames_from (suc n) b s ≡ is fs → Turn n b s fs
unfolding frames_from judged
turn n b s fs e = turn-go n b s fs (good_block b (take 512 s)) refl e

-- ---- what was read is what both forms can hold
each_append : (g fs : List Timed) → Each g → Each fs → Each (g ++ fs)
each_append [] fs v w k h = w k h
each_append (x ∷ g) fs v w zero h = v 0 (omega arith)
each_append (x ∷ g) fs v w (suc k) h = each_append g fs (tail-each x g v) w k (omega arith)

pub record Read (n b : ℕ) (fs : List Timed) : Type 0 where
  pub each : Each fs
  pub few : length fs ≤ 3 * n
  pub numbers : b ≤ 2 ^ 32 → b + n ≤ 2 ^ 32

pub read-holds : (n b : ℕ) (s : List ℕ) (fs : List Timed) → Bytes s → frames_from n b s ≡ is fs → Read n b fs
unfolding frames_from
read-holds zero b s fs y e =
    let z : [] ≡ fs = cc in
    subst (λ l. Read 0 b l) z (record { each = λ k h. absurd (omega arith); few = omega arith; numbers = λ h. omega arith })
read-holds (suc n) b s fs y e =
    let t = turn n b s fs e in
    let g = frames_of (take 512 s) in
    let h = good-holds b (take 512 s) (bytes_take 512 s y) t.good in
    let r = read-holds n (b + 1) (drop 512 s) t.rest (bytes_drop 512 s y) t.after in
    let hn = h.number in
    let hf = h.few in
    let rf = r.few in
    subst (λ l. Read (suc n) b l) t.whole (record {
      each = each_append g t.rest h.each r.each;
      few = omega (arith, length-append g t.rest);
      numbers = λ q. omega (arith, r.numbers (omega arith));
    })

pub blocks-hold : (s : List ℕ) (fs : List Timed) → Bytes s → frames_of_capture s ≡ is fs → Holdable fs
blocks-hold s fs y e =
    let r = read-holds (block_count s) 0 s fs y e in
    let f = r.few in
    record { each = r.each; few = omega (arith, r.numbers (omega arith)) }

-- ---- and where the blocks are full, the bytes are what is written
pub alone : (b : ℕ) (g : List Timed) → 1 ≤ length g → length g ≤ 3 → blocks_from b g ≡ block_of b g
unfolding blocks_from
alone b [] h k = absurd (omega arith)
alone b (x ∷ []) h k = refl
alone b (x ∷ y ∷ []) h k = refl
alone b (x ∷ y ∷ z ∷ []) h k = append-nil _
alone b (x ∷ y ∷ z ∷ w ∷ g) h k = absurd (omega arith)

pub three : (b : ℕ) (g fs : List Timed) → length g ≡ 3 → blocks_from b (g ++ fs) ≡ block_of b g ++ blocks_from (b + 1) fs
unfolding blocks_from
three b [] fs h = absurd (omega arith)
three b (x ∷ []) fs h = absurd (omega arith)
three b (x ∷ y ∷ []) fs h = absurd (omega arith)
three b (x ∷ y ∷ z ∷ []) fs h = refl
three b (x ∷ y ∷ z ∷ w ∷ g) fs h = absurd (omega arith)

nothing : (s : List ℕ) → block_count s ≡ 0 → [] ≡ s
nothing [] h = refl
nothing (a ∷ s) h = absurd (omega arith)

full-go : (n b : ℕ) (s : List ℕ) (fs : List Timed) → Bytes s → block_count s ≡ n → FullFrom n s → frames_from n b s ≡ is fs → blocks_from b fs ≡ s
unfolding frames_from FullFrom blocks_from
full-go zero b s fs y c f e = let z : [] ≡ fs = cc in ap (blocks_from b) (sym z) ∙ nothing s c
full-go (suc zero) b s fs y c f e =
    let t = turn 0 b s fs e in
    let u : List ℕ = take 512 s in
    let yu = bytes_take 512 s y in
    let h = good-holds b u yu t.good in
    let hf = h.few in
    let z : [] ≡ t.rest = cc t.after in
    let w = ap (λ l. frames_of u ++ l) z ∙ t.whole in
    let l : length s ≤ 512 = omega arith in
    ap (blocks_from b) (sym w ∙ append-nil (frames_of u)) ∙ alone b (frames_of u) (omega (arith, frames-length u)) hf ∙ sym (good-made b u yu t.good) ∙ take_all 512 s l
full-go (suc (suc n)) b s fs y c f e =
    let t = turn (suc n) b s fs e in
    let u : List ℕ = take 512 s in
    let d : List ℕ = drop 512 s in
    let yu = bytes_take 512 s y in
    let c2 : block_count d ≡ suc n = omega (arith, length-drop 512 s) in
    let ih = full-go (suc n) (b + 1) d t.rest (bytes_drop 512 s y) c2 f.1 t.after in
    ap (blocks_from b) (sym t.whole) ∙ three b (frames_of u) t.rest (frames-length u ∙ f.0)
    ∙ ap₂ ◌++◌ (sym (good-made b u yu t.good)) ih ∙ take-append-drop 512 s

pub blocks-back : (s : List ℕ) (fs : List Timed) → Bytes s → Full s → frames_of_capture s ≡ is fs → blocks_of fs ≡ s
blocks-back s fs y f e = full-go (block_count s) 0 s fs y refl f e
