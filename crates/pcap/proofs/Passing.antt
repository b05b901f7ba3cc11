-- What the functions that move a block at a time need.
use Rattle.octets.specs.Answers.{of_answer}
use Rattle.std.specs.Prelude.{Result, Ok, Err}
use Prim.Native.Nat.{ℕ, zero, suc, ◌+◌, ◌/◌, ◌^◌, ◌≤◌, ◌<◌}
use native.Mathlib.Nat.{add-zero}
use native.Mathlib.Omega.{arith}
use mathlib.Core.Path.{◌≡◌, refl, sym, ap, subst, ◌∙◌}
use mathlib.Core.List.{List, [], ◌∷◌}
use mathlib.Core.Bool.{Bool, true, false}
use lib.Dec.{leb, ltb}
use lib.ListN.{length}
use borrow.Author.Tests.{le-leb, lt-leb, leb-true, ltb-true}
use Rattle.octets.specs.Read.{Answer, is, refused, Read, got, and_then, choose, give}
use Rattle.octets.specs.Refusal.{number_of}
use Rattle.octets.specs.Write.{put}
use Rattle.octets.specs.declared.refusal.Refusal.{Refusal}
use Rattle.octets.proofs.Puts.{put_front}
use Rattle.octets.proofs.Spans.{not-refused}
use Rattle.capture.specs.Block.{Timed, good_block, judged}
use Rattle.capture.specs.Made.{block_of, Bytes}
use Rattle.capture.proofs.Exact.{good-holds}
use Rattle.pcap.specs.Frames.{blocks_from, head_bytes, frame_field, frames_field, most_frames}
use Rattle.pcap.specs.Moves.{sized, placed, block_bytes, counted}
use Rattle.pcap.specs.Placing.{frames_at, behind_at}
use Rattle.pcap.specs.Streaming.{go_block, due_after, Made, come_block, Comes}
use Rattle.pcap.proofs.Back.{took, passed, given}
use Rattle.pcap.proofs.Blocks.{Each, alone, block-length}
use Rattle.pcap.proofs.Carrying.{head-length, move-short, move-made}
use Rattle.pcap.proofs.Filling.{frames-are, frames-behind, each_at}

-- ---- the file header
pub header-short : (room : List ℕ) → length room < 24 → (refused 7 ≡ sized (is head_bytes) room) × (room ≡ placed (is head_bytes) room)
header-short room h = move-short (is head_bytes) 24 room (ap is (sym head-length)) h

pub header_made : (room out : List ℕ) → 24 ≤ length room → out ≡ put 0 head_bytes room → (is 24 ≡ sized (is head_bytes) room) × (out ≡ placed (is head_bytes) room)
header_made room out h p = move-made (is head_bytes) head_bytes 24 room out refl (sym head-length) h p

-- ---- a block that goes, from what calls told
module _ (b : ℕ) (s room : List ℕ) (t : Bool) (q : t ≡ good_block b s) where
  good-block : t ≡ true → go_block b s ≡ is (block_bytes s)
  unfolding go_block judged
  good-block f = rw (sym q ∙ f) refl

  bad-block : t ≡ false → go_block b s ≡ refused 15
  unfolding go_block judged
  bad-block f = rw (sym q ∙ f) refl

  pub bad-goes : t ≡ false → (a : Answer ℕ) (d : ℕ) → (d ≡ b) × (a ≡ refused 15) → (a ≡ sized (go_block b s) room) × ((d ≡ due_after b (sized (go_block b s) room)) × (room ≡ placed (go_block b s) room))
  bad-goes f a d p = rw (bad-block f) (p.1, (p.0, refl))

  module _ (f : t ≡ true) (n : ℕ) (e : n ≡ length (block_bytes s)) where
    pub short-goes : length room < n → (a : Answer ℕ) (d : ℕ) → (d ≡ b) × (a ≡ refused 7) → (a ≡ sized (go_block b s) room) × ((d ≡ due_after b (sized (go_block b s) room)) × (room ≡ placed (go_block b s) room))
    short-goes h a d p =
        let k : length room < length (block_bytes s) = omega arith in
        rw (good-block f, lt-leb (length (block_bytes s)) (length room) k) (p.1, (p.0, refl))

    pub made-goes : n ≤ length room → (out : List ℕ) → out ≡ put 0 (block_bytes s) room → (is n ≡ sized (go_block b s) room) × ((b + 1 ≡ due_after b (sized (go_block b s) room)) × (out ≡ placed (go_block b s) room))
    made-goes h out o =
        let k : length (block_bytes s) ≤ length room = omega arith in
        rw (good-block f, le-leb (length (block_bytes s)) (length room) k) (ap is e, (refl, o ∙ put_front (block_bytes s) room k))

pub due-small : (b : ℕ) (s : List ℕ) → Bytes s → (t : Bool) → t ≡ good_block b s → t ≡ true → b < 2 ^ 32
due-small b s y t q f = (good-holds b s y (sym q ∙ f)).number

-- ---- what at most j frames come to: where fewer were read, no bytes are left; and where there are any, there are numbers for them
pub record Few (j k : ℕ) (fs : List Timed) (s : List ℕ) (e : ℕ) : Type 0 where
  pub most : length fs ≤ j
  pub held : 0 < length fs → k + length fs ≤ most_frames
  pub ended : length fs < j → length s ≤ e

few-none : (j k : ℕ) (fs : List Timed) (s : List ℕ) (at e : ℕ) → (0 < j → length s ≤ at) → got [] at ≡ got fs e → Few j k fs s e
few-none j k fs s at e h r =
    let g = given [] fs at e r in
    let z : Few j k [] s at = record { most = omega arith; held = λ x. absurd (omega arith); ended = λ x. h x } in
    subst (λ l. Few j k l s e) g.0 (subst (λ i. Few j k [] s i) g.1 z)

held-go : (k l : ℕ) → k < most_frames → (0 < l → k + 1 + l ≤ most_frames) → k + suc l ≤ most_frames
held-go k zero m f = omega arith
held-go k (suc l) m f = let x = f (omega arith) in omega arith

module _ (n k : ℕ) (s : List ℕ) where
  few-go : ((at : ℕ) (fs : List Timed) (e : ℕ) → frames_field n (k + 1) s at ≡ got fs e → Few n (k + 1) fs s e) → (at : ℕ) (fs : List Timed) (e : ℕ) (t : Bool) → leb (length s) at ≡ t → choose t (got [] at) (and_then (frame_field s at) (λ p. choose (ltb k most_frames) (and_then (frames_field n (k + 1) s p.next) (λ q. got (p.value ∷ q.value) q.next)) (refused 18))) ≡ got fs e → Few (suc n) k fs s e
  few-go ih at fs e true q r = few-none (suc n) k fs s at e (λ x. leb-true (length s) at q) r
  few-go ih at fs e false q r =
      let a = took frame_field (λ f s i. choose (ltb k most_frames) (and_then (frames_field n (k + 1) s i) (λ q. got (f ∷ q.value) q.next)) (refused 18)) s at fs e r in
      let p = passed (ltb k most_frames) (and_then (frames_field n (k + 1) s a.next) (λ q. got (a.value ∷ q.value) q.next)) 18 e fs a.rest in
      let b = took (frames_field n (k + 1)) (λ gs. give (a.value ∷ gs)) s a.next fs e p.1 in
      let z = ih a.next b.value b.next b.first in
      let w = given (a.value ∷ b.value) fs b.next e b.rest in
      let m = z.most in
      let x : Few (suc n) k (a.value ∷ b.value) s b.next = record {
        most = omega arith;
        held = λ h. held-go k (length b.value) (ltb-true k most_frames p.0) z.held;
        ended = λ h. z.ended (omega arith);
      } in
      subst (λ l. Few (suc n) k l s e) w.0 (subst (λ i. Few (suc n) k (a.value ∷ b.value) s i) w.1 x)

pub frames-few : (n k : ℕ) (s : List ℕ) (at : ℕ) (fs : List Timed) (e : ℕ) → frames_field n k s at ≡ got fs e → Few n k fs s e
unfolding frames_field
frames-few zero k s at fs e r = few-none 0 k fs s at e (λ x. absurd (omega arith)) r
frames-few (suc n) k s at fs e r = few-go n k s (λ at fs e r. frames-few n (k + 1) s at fs e r) at fs e (leb (length s) at) refl r

pub some : (n : ℕ) → (n ≡ 0 → ⊥) → 0 < n
some zero f = absurd (f refl)
some (suc n) f = omega arith

-- ---- a block that comes
-- the frames that a count told of
pub record Counted (k : ℕ) (s : List ℕ) (n : ℕ) : Type 0 where
  pub frames : List Timed
  pub next : ℕ
  pub are-read : frames_field 3 k s 0 ≡ got frames next
  pub many : n ≡ length frames

three-left : (k : ℕ) (s : List ℕ) → counted 3 k s 0 0 ≡ and_then (frames_field 3 k s 0) (λ p. is (0 + length p.value))
three-left k s = ap (λ i. and_then (frames_field 3 i s 0) (λ p. is (0 + length p.value))) (add-zero k)

counted-go : (k : ℕ) (s : List ℕ) (n : ℕ) (r : Read (List Timed)) → frames_field 3 k s 0 ≡ r → is n ≡ and_then r (λ p. is (0 + length p.value)) → Counted k s n
counted-go k s n (is p) q e =
    let x : n ≡ 0 + length p.value = cc in
    record { frames = p.value; next = p.next; are-read = q; many = omega arith }
counted-go k s n (refused x) q e = not-refused _ x (sym e)

none-go : (k : ℕ) (s : List ℕ) (x : ℕ) (r : Read (List Timed)) → frames_field 3 k s 0 ≡ r → refused x ≡ and_then r (λ p. is (0 + length p.value)) → come_block k s ≡ refused x
unfolding come_block
none-go k s x (is p) q e = not-refused _ x e
none-go k s x (refused z) q e = rw q (let h : z ≡ x = cc in ap refused h)

module _ (k : ℕ) (s room : List ℕ) (w : Result ℕ Refusal) (g : of_answer w ≡ counted 3 k s 0 0) where
  pub refused-comes : (e : Refusal) → w ≡ Err e → (a : Answer ℕ) (u d : ℕ) → (d ≡ k) × ((u ≡ 0) × (a ≡ refused (number_of e))) → Comes k s room a u d room
  refused-comes e q a u d p = rw (none-go k s (number_of e) (frames_field 3 k s 0) refl (sym (ap of_answer q) ∙ g ∙ three-left k s)) (p.1.1, (p.1.0, (p.0, refl)))

  module _ (n : ℕ) (q : w ≡ Ok n) where
    told : Counted k s n
    told = counted-go k s n (frames_field 3 k s 0) refl (sym (ap of_answer q) ∙ g ∙ three-left k s)

    few : Few 3 k told.frames s told.next
    few = frames-few 3 k s 0 told.frames told.next told.are-read

    made : Made
    made = record { bytes = blocks_from (k / 3) told.frames; used = told.next; frames = k + length told.frames }

    is_made : come_block k s ≡ is made
    unfolding come_block made
    is_made = rw told.are-read refl

    frames-n : told.frames ≡ frames_at n s 0
    frames-n = frames-are 3 k s 0 told.frames told.next told.are-read ∙ ap (λ i. frames_at i s 0) (sym told.many)

    behind-n : told.next ≡ behind_at n s 0
    behind-n = frames-behind 3 k s 0 told.frames told.next told.are-read ∙ ap (λ i. behind_at i s 0) (sym told.many)

    pub few-told : n ≤ 3
    few-told = let m = few.most in let e = told.many in omega arith

    pub held-told : 0 < n → k + n ≤ most_frames
    held-told h = let e = told.many in let m = few.held (omega arith) in omega arith

    no_bytes : n ≡ 0 → (blocks_from (k / 3) (frames_at n s 0) ≡ []) × (behind_at n s 0 ≡ 0)
    unfolding blocks_from frames_at behind_at
    no_bytes e = rw e (refl, refl)

    pub none-comes : n ≡ 0 → (a : Answer ℕ) (u d : ℕ) → (d ≡ k) × ((u ≡ 0) × (a ≡ is 0)) → Comes k s room a u d room
    unfolding made
    none-comes e a u d p =
        let z = no_bytes e in
        let x : blocks_from (k / 3) told.frames ≡ [] = ap (blocks_from (k / 3)) frames-n ∙ z.0 in
        let v : told.next ≡ 0 = behind-n ∙ z.1 in
        let l : k + length told.frames ≡ k = let y = told.many in omega arith in
        let h : 0 ≤ length room = omega arith in
        rw (is_made) (rw (x, v, l, le-leb 0 (length room) h) (p.1.1, (p.1.0, (p.0, refl))))

    module _ (y : Bytes s) (h : 0 < n) where
      one : blocks_from (k / 3) told.frames ≡ block_of (k / 3) (frames_at n s 0)
      one =
          let e = told.many in
          alone (k / 3) told.frames (omega arith) few.most ∙ ap (block_of (k / 3)) frames-n

      one-512 : length (blocks_from (k / 3) told.frames) ≡ 512
      one-512 =
          let x : Each told.frames = subst Each (sym frames-n) (each_at n s 0 y (omega arith)) in
          let e = told.many in
          ap length (alone (k / 3) told.frames (omega arith) few.most) ∙ block-length (k / 3) told.frames few.most x

      pub short-comes : length room < 512 → (a : Answer ℕ) (u d : ℕ) → (d ≡ k) × ((u ≡ 0) × (a ≡ refused 7)) → Comes k s room a u d room
      unfolding made
      short-comes m a u d p =
          let x = one-512 in
          let l : length room < length (blocks_from (k / 3) told.frames) = omega arith in
          rw (is_made) (rw (lt-leb (length (blocks_from (k / 3) told.frames)) (length room) l) (p.1.1, (p.1.0, (p.0, refl))))

      pub made-comes : 512 ≤ length room → (out : List ℕ) (r : ℕ) → (r ≡ behind_at n s 0) × (out ≡ put 0 (block_of (k / 3) (frames_at n s 0)) room) → Comes k s room (is 512) r (k + n) out
      unfolding made
      made-comes m out r p =
          let x = one-512 in
          let l : length (blocks_from (k / 3) told.frames) ≤ length room = omega arith in
          let f = ap (λ i. k + i) told.many in
          rw (is_made) (rw (le-leb (length (blocks_from (k / 3) told.frames)) (length room) l) (ap is (sym x), (p.0 ∙ sym behind-n, (f, p.1 ∙ ap (λ z. put 0 z room) (sym one) ∙ put_front (blocks_from (k / 3) told.frames) room l))))
