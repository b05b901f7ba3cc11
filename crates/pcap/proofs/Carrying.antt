-- What the functions of going and put need: what a block comes to, place by place, and the bytes of a capture, block by block.
use Rattle.octets.specs.Answers.{of_answer}
use Rattle.std.specs.Prelude.{Result, Ok, Err, IsErr, IsErrAnd}
use Rattle.std.specs.Result.{is_ok}
use Rattle.capture.proofs.Unique.{told-good, told-bad}
use Prim.Native.Nat.{ℕ, zero, suc, ◌+◌, ◌*◌, ◌-◌, ◌/◌, ◌%◌, ◌≤◌, ◌<◌, min}
use native.Mathlib.Nat.{add-zero}
use native.Mathlib.Numerals.{add-one}
use native.Mathlib.Omega.{arith}
use mathlib.Core.Path.{◌≡◌, refl, sym, ap, ap₂, ◌∙◌}
use mathlib.Core.List.{List, [], ◌∷◌, ◌++◌, append_assoc, append-nil}
use mathlib.Core.Bool.{Bool, true, false, ◌&&◌}
use lib.Dec.{eqb, ltb}
use lib.ListN.{length, set, take, drop, length-append, length-take, length-drop, length-set}
use lib.Seq.{sets, sets-eq, drop-drop}
use borrow.Rule.Slice.PartMut.{put_mid}
use borrow.Author.Tests.{lt-ltb, le-ltb, le-leb, lt-leb, eqb-true}
use Rattle.octets.specs.Read.{Answer, is, refused, and_then, choose}
use Rattle.octets.specs.Write.{put, le16_bytes, le32_bytes}
use Rattle.octets.specs.Refusal.{number_of}
use Rattle.octets.specs.declared.refusal.Refusal.{Refusal}
use Rattle.octets.proofs.Spans.{not-refused}
use Rattle.octets.proofs.Puts.{put-append, put-nil, put_front, more, more-le32}
use Rattle.octets.proofs.Steps.{and-true}
use Rattle.capture.specs.Block.{Timed, count_of, time_of, frame_of, timed_of, frames_of, good_head, good_places, good_end, good_block, judged, length_at, place_at}
use Rattle.capture.proofs.BlockSteps.{count_small}
use Rattle.capture.proofs.File.{chunk-front, chunk-back}
use Rattle.pcap.specs.Frames.{block_count, frames_from, frames_of_capture, head_bytes, time_bytes, length_bytes, frame_bytes, frames_bytes, pcap_of}
use Rattle.pcap.specs.Moves.{to_pcap, sized, placed, lengthed, place_bytes, block_bytes, carried, carried_all}
use Rattle.pcap.proofs.There.{frame-length}
use Rattle.pcap.proofs.Blocks.{turn}

-- ---- a place of a block
frame-short : (s : List ℕ) (k : ℕ) → length (frame_of k s) ≤ 127
unfolding frame_of
frame-short s k = go (ltb k (count_of s))
  where
    go : (t : Bool) → length (choose t (take (min 127 (length_at k s)) (drop (place_at k + 5) s)) []) ≤ 127
    go true = omega (arith, length-take (min 127 (length_at k s)) (drop (place_at k + 5) s))
    go false = omega arith

module _ (s : List ℕ) (k n : ℕ) (e : n ≡ count_of s) where
  pub place-used : k < n → place_bytes k s ≡ frame_bytes (timed_of k s)
  unfolding place_bytes
  place-used h = rw (← e, lt-ltb k n h) refl

  pub place_none : n ≤ k → place_bytes k s ≡ []
  unfolding place_bytes
  place_none h = rw (← e, le-ltb k n h) refl

  pub used-length : (f : List ℕ) → k < n → f ≡ frame_of k s → (16 + length f ≡ length (place_bytes k s)) × (16 + length f ≤ 143)
  used-length f h q =
      let l = ap length q in
      let m = ap length (place-used h) in
      omega (arith, frame-length (timed_of k s), frame-short s k)

  pub none-length : n ≤ k → (0 ≡ length (place_bytes k s)) × (0 ≤ 143)
  none-length h = (sym (ap length (place_none h)), omega arith)

pub block-sum : (s : List ℕ) (a b c : ℕ) → a ≡ length (place_bytes 0 s) → b ≡ length (place_bytes 1 s) → c ≡ length (place_bytes 2 s) → a + (b + c) ≡ length (block_bytes s)
unfolding block_bytes
block-sum s a b c p q r = omega (arith, length-append (place_bytes 0 s) (place_bytes 1 s ++ place_bytes 2 s), length-append (place_bytes 1 s) (place_bytes 2 s))

three-places : (c : ℕ) (x y z : Timed) → c ≤ 3 → choose (ltb 0 c) (frame_bytes x) [] ++ (choose (ltb 1 c) (frame_bytes y) [] ++ choose (ltb 2 c) (frame_bytes z) []) ≡ frames_bytes (take c (x ∷ y ∷ z ∷ []))
unfolding frames_bytes
three-places zero x y z h = refl
three-places (suc zero) x y z h = refl
three-places (suc (suc zero)) x y z h = refl
three-places (suc (suc (suc zero))) x y z h = ap (λ l. frame_bytes x ++ (frame_bytes y ++ l)) (sym (append-nil (frame_bytes z)))
three-places (suc (suc (suc (suc c)))) x y z h = absurd (omega arith)

pub block-is : (s : List ℕ) → block_bytes s ≡ frames_bytes (frames_of s)
unfolding block_bytes place_bytes frames_of
block-is s = three-places (count_of s) (timed_of 0 s) (timed_of 1 s) (timed_of 2 s) (count_small s)

pub frames-append : (g fs : List Timed) → frames_bytes (g ++ fs) ≡ frames_bytes g ++ frames_bytes fs
unfolding frames_bytes
frames-append [] fs = refl
frames-append (f ∷ g) fs = ap (λ l. frame_bytes f ++ l) (frames-append g fs) ∙ sym (append_assoc (frame_bytes f) (frames_bytes g) (frames_bytes fs))

-- ---- measuring: n bytes so far, and the capture s from where block b is due
pub measured : ℕ → ℕ → List ℕ → Answer ℕ
measured n b s = and_then (frames_from (block_count s) b s) (λ fs. is (n + length (frames_bytes fs)))

pub head-length : length head_bytes ≡ 24
unfolding head_bytes le32_bytes le16_bytes
head-length = refl

pcap-length : (fs : List Timed) → length (pcap_of fs) ≡ 24 + length (frames_bytes fs)
unfolding pcap_of
pcap-length fs = omega (arith, length-append head_bytes (frames_bytes fs), head-length)

start-go : (r : Answer (List Timed)) → and_then r (λ fs. is (24 + length (frames_bytes fs))) ≡ lengthed (and_then r (λ fs. is (pcap_of fs)))
start-go (is fs) = ap is (sym (pcap-length fs))
start-go (refused n) = refl

pub measure-start : (s : List ℕ) → measured 24 0 s ≡ lengthed (to_pcap s)
unfolding measured to_pcap
measure-start s = start-go (frames_of_capture s)

pub good-whole : (b : ℕ) (u : List ℕ) → good_block b u ≡ true → length u ≡ 512
unfolding good_block
good-whole b u g = eqb-true (length u) 512 (and-true (eqb (length u) 512) (good_head b u && (good_places u && good_end u)) g).0

one_more : (s : List ℕ) → 0 < length s → block_count s ≡ suc (block_count (drop 512 s))
one_more s h = omega (arith, length-drop 512 s)

turn-go : (n : ℕ) (u : List ℕ) (r : Answer (List Timed)) → and_then (and_then r (λ fs. is (frames_of u ++ fs))) (λ fs. is (n + length (frames_bytes fs))) ≡ and_then r (λ fs. is (n + length (block_bytes u) + length (frames_bytes fs)))
turn-go n u (is fs) =
    let e : n + length (frames_bytes (frames_of u ++ fs)) ≡ n + length (block_bytes u) + length (frames_bytes fs) = omega (arith, ap length (frames-append (frames_of u) fs), length-append (frames_bytes (frames_of u)) (frames_bytes fs), ap length (block-is u)) in
    ap is e
turn-go n u (refused k) = refl

module _ (s : List ℕ) (n b : ℕ) (h : 0 < length s) where
  opened : (t : Bool) → good_block b (take 512 s) ≡ t → measured n b s ≡ and_then (and_then (choose t (is (count_of (take 512 s))) (refused 15)) (λ c. and_then (frames_from (block_count (drop 512 s)) (b + 1) (drop 512 s)) (λ fs. is (frames_of (take 512 s) ++ fs)))) (λ fs. is (n + length (frames_bytes fs)))
  unfolding measured frames_from judged
  opened t q = rw (one_more s h) (rw q refl)

  measure-turn : good_block b (take 512 s) ≡ true → measured n b s ≡ measured (n + length (block_bytes (take 512 s))) (b + 1) (drop 512 s)
  unfolding measured
  measure-turn g = opened true g ∙ turn-go n (take 512 s) (frames_from (block_count (drop 512 s)) (b + 1) (drop 512 s))

  measure-stop : good_block b (take 512 s) ≡ false → measured n b s ≡ refused 15
  measure-stop g = opened false g

-- the same, from what calls told
module _ (s : List ℕ) (n b : ℕ) (u v : List ℕ) (g : Bool) (a : s ≡ u ++ v) (l : length u ≡ min 512 (length s)) (h : 0 < length s) (q : g ≡ good_block b u) where
  good : good_block b (take 512 s) ≡ g
  good = ap (good_block b) (sym (chunk-front s u v a l)) ∙ sym q

  pub told-stop : g ≡ false → refused 15 ≡ measured n b s
  told-stop f = sym (measure-stop s n b h (good ∙ f))

  -- a good block is whole, so the next one begins 512 further
  pub told-room : g ≡ true → length s ≡ 512 + length v
  told-room t =
      let w = good-whole b u (sym q ∙ t) in
      omega (arith, ap length a, length-append u v)

  pub told-turn : g ≡ true → (m : ℕ) → m ≡ length (block_bytes u) → measured (n + m) (b + 1) v ≡ measured n b s
  told-turn t m k =
      ap₂ (λ i w. measured (n + i) (b + 1) w) (k ∙ ap (λ w. length (block_bytes w)) (chunk-front s u v a l)) (chunk-back s u v a l)
      ∙ sym (measure-turn s n b h (good ∙ t))

pub measure-end : (s : List ℕ) (n b : ℕ) → length s ≡ 0 → measured n b s ≡ is n
unfolding measured frames_from frames_bytes
measure-end [] n b h = ap is (add-zero n)
measure-end (x ∷ s) n b h = absurd (omega arith)

pub length-put : (at : ℕ) (bs l : List ℕ) → length (put at bs l) ≡ length l
unfolding put
length-put at [] l = refl
length-put at (b ∷ bs) l = length-put (at + 1) bs (set l at b) ∙ length-set l at b

module _ (l m1 m2 m3 m4 m5 : List ℕ) (at t n : ℕ) (f : List ℕ) where
  pub frame-put : n ≡ length f → m1 ≡ put at (le32_bytes (t / 1000)) l → m2 ≡ put (at + 4) (le32_bytes (t % 1000 * 1000)) m1 → m3 ≡ put (at + 8) (le32_bytes n) m2 → m4 ≡ put (at + 12) (le32_bytes n) m3 → m5 ≡ put (at + 16) f m4 → m5 ≡ put at (frame_bytes (record { time = t; frame = f })) l
  unfolding frame_bytes time_bytes length_bytes le32_bytes le16_bytes
  frame-put e p q r s u =
      let a : at + 12 ≡ at + 8 + 4 = omega arith in
      let b : at + 16 ≡ at + 8 + 8 = omega arith in
      let x = more-le32 l m1 m2 at (t / 1000) (le32_bytes (t % 1000 * 1000)) p q in
      let y = more-le32 m2 m3 m4 (at + 8) n (le32_bytes n) r (s ∙ ap (λ k. put k (le32_bytes n) m3) a) in
      let z = more m2 m4 m5 (at + 8) 8 (le32_bytes n ++ le32_bytes n) f refl y (u ∙ ap (λ k. put k f m4) b) in
      more l m2 m5 at 8 (time_bytes t) (length_bytes (length f) ++ f) refl x (z ∙ ap (λ k. put (at + 8) ((le32_bytes k ++ le32_bytes k) ++ f) m2) e)

-- a place of a block, from what calls told
module _ (s : List ℕ) (k c : ℕ) (e : c ≡ count_of s) (at t : ℕ) (f : List ℕ) (p : t ≡ time_of k s) (q : f ≡ frame_of k s) (h : k < c) where
  pub place-room : (l : ℕ) → at + length (place_bytes k s) ≤ l → (at + 16 + length f ≤ l) × (length f ≤ 127)
  place-room l r = omega (arith, used-length s k c e f h q)

  pub place-put : (r : ℕ) (o l : List ℕ) → (r ≡ at + (16 + length f)) × (o ≡ put at (frame_bytes (record { time = t; frame = f })) l) → (r ≡ at + length (place_bytes k s)) × (o ≡ put at (place_bytes k s) l)
  place-put r o l z =
      let u = (used-length s k c e f h q).0 in
      let v : frame_bytes (record { time = t; frame = f }) ≡ place_bytes k s = ap₂ (λ x y. frame_bytes (record { time = x; frame = y })) p q ∙ sym (place-used s k c e h) in
      (z.0 ∙ ap (λ x. at + x) u, z.1 ∙ ap (λ x. put at x l) v)

pub place_still : (s : List ℕ) (k c : ℕ) → c ≡ count_of s → (at : ℕ) (l : List ℕ) → c ≤ k → (at ≡ at + length (place_bytes k s)) × (l ≡ put at (place_bytes k s) l)
place_still s k c e at l h =
    let z = place_none s k c e h in
    (sym (ap (λ x. at + length x) z ∙ add-zero at), put-nil at l ∙ ap (λ x. put at x l) (sym z))

-- three places
module _ (s : List ℕ) (at a b r : ℕ) (l m n o : List ℕ) where
  pub block-put : (a ≡ at + length (place_bytes 0 s)) × (m ≡ put at (place_bytes 0 s) l) → (b ≡ a + length (place_bytes 1 s)) × (n ≡ put a (place_bytes 1 s) m) → (r ≡ b + length (place_bytes 2 s)) × (o ≡ put b (place_bytes 2 s) n) → (r ≡ at + length (block_bytes s)) × (o ≡ put at (block_bytes s) l)
  unfolding block_bytes
  block-put p q z =
      let x = place_bytes 1 s ++ place_bytes 2 s in
      let p0 = p.0 in
      let q0 = q.0 in
      let z0 = z.0 in
      let u = more m n o a (length (place_bytes 1 s)) (place_bytes 1 s) (place_bytes 2 s) refl q.1 (z.1 ∙ ap (λ k. put k (place_bytes 2 s) n) q.0) in
      (omega (arith, length-append (place_bytes 0 s) x, length-append (place_bytes 1 s) (place_bytes 2 s)), more l m o at (length (place_bytes 0 s)) (place_bytes 0 s) x refl p.1 (u ∙ ap (λ k. put k x m) p.0))

pub block_room : (s : List ℕ) (at l : ℕ) → at + length (block_bytes s) ≤ l → at + (length (place_bytes 0 s) + (length (place_bytes 1 s) + length (place_bytes 2 s))) ≤ l
unfolding block_bytes
block_room s at l h = omega (arith, length-append (place_bytes 0 s) (place_bytes 1 s ++ place_bytes 2 s), length-append (place_bytes 1 s) (place_bytes 2 s))

-- ---- block after block: what is put, with what the rest comes to, is the whole
module _ (s u v : List ℕ) (a : s ≡ u ++ v) (l : length u ≡ min 512 (length s)) (h : 0 < length s) where
  pub carried-more : carried_all s ≡ block_bytes u ++ carried_all v
  unfolding carried
  carried-more =
      rw (one_more s h)
      (ap₂ (λ x y. block_bytes x ++ carried_all y) (sym (chunk-front s u v a l)) (sym (chunk-back s u v a l)))

pub carried-none : (s : List ℕ) → length s ≡ 0 → carried_all s ≡ []
unfolding carried
carried-none [] h = refl
carried-none (x ∷ s) h = absurd (omega arith)

-- ---- the whole move
carried-go : (n b : ℕ) (s : List ℕ) (fs : List Timed) → frames_from n b s ≡ is fs → frames_bytes fs ≡ carried n s
unfolding frames_from frames_bytes carried
carried-go zero b s fs e = let z : [] ≡ fs = cc in ap frames_bytes (sym z)
carried-go (suc n) b s fs e =
    let t = turn n b s fs e in
    ap frames_bytes (sym t.whole) ∙ frames-append (frames_of (take 512 s)) t.rest ∙ ap₂ ◌++◌ (sym (block-is (take 512 s))) (carried-go n (b + 1) (drop 512 s) t.rest t.after)

abbrev pub pcap_bytes : List ℕ → List ℕ
pcap_bytes s = head_bytes ++ carried_all s

moved-go : (s : List ℕ) (n : ℕ) (r : Answer (List Timed)) → frames_of_capture s ≡ r → is n ≡ lengthed (and_then r (λ fs. is (pcap_of fs))) → (and_then r (λ fs. is (pcap_of fs)) ≡ is (pcap_bytes s)) × (n ≡ 24 + length (carried_all s))
unfolding pcap_of
moved-go s n (is fs) q e =
    let c = carried-go (block_count s) 0 s fs q in
    let x : n ≡ length (head_bytes ++ frames_bytes fs) = cc in
    let y = ap (λ l. head_bytes ++ l) c in
    (ap is y, x ∙ ap length y ∙ length-append head_bytes (carried_all s) ∙ ap (λ k. k + length (carried_all s)) head-length)
moved-go s n (refused k) q e = not-refused _ k (sym e)

pub moved-is : (s : List ℕ) (n : ℕ) → is n ≡ lengthed (to_pcap s) → (to_pcap s ≡ is (pcap_bytes s)) × (n ≡ 24 + length (carried_all s))
unfolding to_pcap
moved-is s n e = moved-go s n (frames_of_capture s) refl e

-- what a move answers, and the room after it: where it was refused, where the room is short, and where it was made
pub move-refused : (a : Answer (List ℕ)) (k : ℕ) (room : List ℕ) → refused k ≡ lengthed a → (refused k ≡ sized a room) × (room ≡ placed a room)
move-refused (is bs) k room e = not-refused _ k e
move-refused (refused n) k room e = (cc, refl)

pub move-short : (a : Answer (List ℕ)) (n : ℕ) (room : List ℕ) → is n ≡ lengthed a → length room < n → (refused 7 ≡ sized a room) × (room ≡ placed a room)
move-short (is bs) n room e h =
    let x : n ≡ length bs = cc in
    let k : length room < length bs = omega arith in
    rw (lt-leb (length bs) (length room) k) (refl, refl)
move-short (refused k) n room e h = not-refused _ k (sym e)

pub move-made : (a : Answer (List ℕ)) (bs : List ℕ) (n : ℕ) (room out : List ℕ) → a ≡ is bs → n ≡ length bs → n ≤ length room → out ≡ put 0 bs room → (is n ≡ sized a room) × (out ≡ placed a room)
move-made a bs n room out e q h p =
    let k : length bs ≤ length room = omega arith in
    rw (e, le-leb (length bs) (length room) k) (ap is q, p ∙ put_front bs room k)

module _ (s : List ℕ) (n : ℕ) (e : is n ≡ lengthed (to_pcap s)) where
  pub went-room : (l : ℕ) → n ≤ l → 24 + length (carried_all s) ≤ l
  went-room l h = omega (arith, (moved-is s n e).1)

  pub went-made : (l m o : List ℕ) → n ≤ length l → m ≡ put 0 head_bytes l → o ≡ put 24 (carried_all s) m → (is n ≡ sized (to_pcap s) l) × (o ≡ placed (to_pcap s) l)
  went-made l m o h p q =
      let z = moved-is s n e in
      let b : n ≡ length (pcap_bytes s) = z.1 ∙ sym (length-append head_bytes (carried_all s) ∙ ap (λ k. k + length (carried_all s)) head-length) in
      move-made (to_pcap s) (pcap_bytes s) n l o z.0 b h (more l m o 0 24 head_bytes (carried_all s) head-length p q)

pub put-sets : (at : ℕ) (bs l : List ℕ) → put at bs l ≡ sets l at bs
unfolding put
put-sets at [] l = refl
put-sets at (b ∷ bs) l = put-sets (at + 1) bs (set l at b) ∙ ap (λ k. sets (set l at b) k bs) (add-one at)

-- bytes copied into the middle
pub put-mid : (at n : ℕ) (bs q l : List ℕ) → length bs ≡ n → at + n ≤ length l → q ≡ bs → put_mid at (at + n - at) l q ≡ put at bs l
put-mid at n bs q l e h p =
    let g : at + length bs ≤ length l = omega arith in
    let k : at + (at + n - at) ≡ at + length bs = omega arith in
    ap₂ (λ z x. take at l ++ (x ++ z)) (drop-drop (at + n - at) at l ∙ ap (λ i. drop i l) k) p
    ∙ sym (put-sets at bs l ∙ sets-eq bs l at g ∙ append_assoc (take at l) bs (drop (at + length bs) l))

pub judged-good : (j : Result ℕ Refusal) (b : ℕ) (s : List ℕ) → of_answer j ≡ judged b s → is_ok j ≡ good_block b s
judged-good (Ok n) b s p = sym (told-good (Ok n) b s p n refl).0
judged-good (Err e) b s p = sym (told-bad (Err e) b s p e refl)

-- a refusal that `?` hands on
pub handed : {A : Type 0} (r : Result A Refusal) (e : Refusal) → IsErr r × IsErrAnd r (λ x. x ≡ e) → refused (number_of e) ≡ of_answer r
handed (Err x) e h = ap (λ z. refused (number_of z)) (sym h.1)
handed (Ok a) e h = absurd h.1

-- from what calls told
pub told-refused : (y : Result ℕ Refusal) (e : Refusal) (a : Answer (List ℕ)) (room : List ℕ) → of_answer y ≡ lengthed a → y ≡ Err e → (refused (number_of e) ≡ sized a room) × (room ≡ placed a room)
told-refused y e a room p q = move-refused a (number_of e) room (sym (ap of_answer q) ∙ p)

pub told-length : (y : Result ℕ Refusal) (n : ℕ) (a : Answer (List ℕ)) → of_answer y ≡ lengthed a → y ≡ Ok n → is n ≡ lengthed a
told-length y n a p q = sym (ap of_answer q) ∙ p

-- one block put
module _ (s u v : List ℕ) (a : s ≡ u ++ v) (k : length u ≡ min 512 (length s)) (h : 0 < length s) (to r : ℕ) (l o : List ℕ) where
  pub rest-room : (n : ℕ) → to + length (carried_all s) ≤ n → to + length (block_bytes u) ≤ n
  rest-room n m = omega (arith, ap length (carried-more s u v a k h), length-append (block_bytes u) (carried_all v))

  pub rest_put : (r ≡ to + length (block_bytes u)) × (o ≡ put to (block_bytes u) l) → (r + length (carried_all v) ≡ to + length (carried_all s)) × (put r (carried_all v) o ≡ put to (carried_all s) l)
  rest_put p =
      let f = carried-more s u v a k h in
      let p0 = p.0 in
      (omega (arith, ap length f, length-append (block_bytes u) (carried_all v)), ap₂ (λ x y. put x (carried_all v) y) p.0 p.1 ∙ sym (put-append to (block_bytes u) (carried_all v) l) ∙ ap (λ x. put to x l) (sym f))

pub rest_end : (s : List ℕ) (to : ℕ) (l : List ℕ) → length s ≡ 0 → put to (carried_all s) l ≡ l
rest_end s to l h = ap (λ x. put to x l) (carried-none s h) ∙ sym (put-nil to l)
