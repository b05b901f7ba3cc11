-- A block at a time gives what the whole move gives: `stream-to` and `stream-from`.
use Rattle.octets.specs.Answers.{of_answer}
use Rattle.std.specs.Prelude.{Result}
use Rattle.octets.specs.declared.refusal.Refusal.{Refusal}
use Prim.Native.Nat.{ℕ, zero, suc, ◌+◌, ◌*◌, ◌-◌, ◌/◌, ◌≤◌, ◌<◌}
use native.Mathlib.Omega.{arith}
use mathlib.Core.Path.{◌≡◌, refl, sym, ap, ap₂, subst, ◌∙◌}
use mathlib.Core.List.{List, [], ◌∷◌, ◌++◌, append-nil}
use mathlib.Core.Bool.{Bool, true, false}
use lib.Dec.{leb, ltb}
use lib.ListN.{length, take, drop, length-drop}
use borrow.Author.Tests.{le-leb, leb-true, ltb-true, ltb-false}
use Rattle.octets.specs.Read.{Answer, is, refused, Read, got, and_then, choose, give}
use Rattle.octets.proofs.Unique.{unique, answer-one}
use Rattle.capture.specs.Block.{Timed, frames_of, judged}
use Rattle.capture.specs.File as file
use Rattle.capture.specs.Made.{block_of, Bytes}
use Rattle.capture.proofs.Parts.{bytes_drop}
use Rattle.pcap.specs.Frames.{blocks_from, blocks_of, block_count, frames_from, head_bytes, frames_bytes, pcap_of, head, frame_field, frames_field, most_frames, value_only, frames_of_pcap}
use Rattle.pcap.specs.Moves.{to_pcap, from_pcap, sized, placed, block_bytes}
use Rattle.pcap.specs.Streaming.{go_block, due_after, go_all, stream_to, Made, come_block, length_in, used_in, frames_in, placed_in, come_all, stream_from, Wide}
use Rattle.pcap.specs.declared.going.WentOn.{WentOn}
use Rattle.pcap.specs.declared.coming.CameOn.{CameOn}
use Rattle.pcap.proofs.There.{frame-length}
use Rattle.pcap.proofs.Back.{took, passed, given, frame_back, back_head}
use Rattle.pcap.proofs.Blocks.{alone, three}
use Rattle.pcap.proofs.Carrying.{block-is, frames-append, head-length}
use Rattle.pcap.proofs.Counting.{end-go}
use Rattle.pcap.proofs.Passing.{Few, frames-few}
use Rattle.pcap.proofs.Windows.{shift, frames-shift, frames-near, head-window}

-- ---- going
module _ (u : List ℕ) where
  one-go : (r : Answer (List Timed)) → and_then (and_then r (λ fs. is (frames_of u ++ fs))) (λ fs. is (frames_bytes fs)) ≡ and_then (and_then r (λ fs. is (frames_bytes fs))) (λ y. is (block_bytes u ++ y))
  one-go (is fs) = ap is (frames-append (frames_of u) fs ∙ ap (λ z. z ++ frames_bytes fs) (sym (block-is u)))
  one-go (refused n) = refl

  judged-go : (r : Answer (List Timed)) (t : Answer (List ℕ)) → and_then r (λ fs. is (frames_bytes fs)) ≡ t → (j : Answer ℕ) → and_then (and_then j (λ c. and_then r (λ fs. is (frames_of u ++ fs)))) (λ fs. is (frames_bytes fs)) ≡ and_then (and_then j (λ c. is (block_bytes u))) (λ x. and_then t (λ y. is (x ++ y)))
  judged-go r t e (is c) = one-go r ∙ ap (λ z. and_then z (λ y. is (block_bytes u ++ y))) e
  judged-go r t e (refused n) = refl

go-go : (n b : ℕ) (s : List ℕ) → and_then (frames_from n b s) (λ fs. is (frames_bytes fs)) ≡ go_all b (file.pieces n s)
unfolding frames_from frames_bytes file.pieces go_all go_block
go-go zero b s = refl
go-go (suc n) b s = judged-go (take 512 s) (frames_from n (b + 1) (drop 512 s)) (go_all (b + 1) (file.pieces n (drop 512 s))) (go-go n (b + 1) (drop 512 s)) (judged b (take 512 s))

pcap-go : (r : Answer (List Timed)) → and_then (and_then r (λ fs. is (frames_bytes fs))) (λ bs. is (head_bytes ++ bs)) ≡ and_then r (λ fs. is (pcap_of fs))
unfolding pcap_of
pcap-go (is fs) = refl
pcap-go (refused n) = refl

-- the header and the blocks one after the other are the whole move, in what they write and in what they refuse
pub stream-to : (s : List ℕ) → stream_to s ≡ to_pcap s
unfolding to_pcap
stream-to s = ap (λ r. and_then r (λ bs. is (head_bytes ++ bs))) (sym (go-go (block_count s) 0 s)) ∙ pcap-go (frames_from (block_count s) 0 s)

-- ---- frames, the first j of them and the rest
module _ (j m k : ℕ) (s : List ℕ) where
  last-go : (f : Timed) (fs : List Timed) (r : Read (List Timed)) → and_then (and_then r (λ q. got (fs ++ q.value) q.next)) (λ q. got (f ∷ q.value) q.next) ≡ and_then r (λ q. got ((f ∷ fs) ++ q.value) q.next)
  last-go f fs (is q) = refl
  last-go f fs (refused x) = refl

  assoc-go : (f : Timed) (r : Read (List Timed)) → and_then (and_then r (λ p. and_then (frames_field m (k + 1 + j) s p.next) (λ q. got (p.value ++ q.value) q.next))) (λ q. got (f ∷ q.value) q.next) ≡ and_then (and_then r (λ q. got (f ∷ q.value) q.next)) (λ p. and_then (frames_field m (k + suc j) s p.next) (λ q. got (p.value ++ q.value) q.next))
  assoc-go f (is p) =
      let e : k + 1 + j ≡ k + suc j = omega arith in
      last-go f p.value (frames_field m (k + 1 + j) s p.next) ∙ ap (λ i. and_then (frames_field m i s p.next) (λ q. got ((f ∷ p.value) ++ q.value) q.next)) e
  assoc-go f (refused x) = refl

  module _ (N : ℕ) (ih : (at : ℕ) → frames_field N (k + 1) s at ≡ and_then (frames_field j (k + 1) s at) (λ p. and_then (frames_field m (k + 1 + j) s p.next) (λ q. got (p.value ++ q.value) q.next))) where
    number-go : (f : Timed) (i : ℕ) (t : Bool) → choose t (and_then (frames_field N (k + 1) s i) (λ q. got (f ∷ q.value) q.next)) (refused 18) ≡ and_then (choose t (and_then (frames_field j (k + 1) s i) (λ q. got (f ∷ q.value) q.next)) (refused 18)) (λ p. and_then (frames_field m (k + suc j) s p.next) (λ q. got (p.value ++ q.value) q.next))
    number-go f i true = ap (λ r. and_then r (λ q. got (f ∷ q.value) q.next)) (ih i) ∙ assoc-go f (frames_field j (k + 1) s i)
    number-go f i false = refl

    split-go : (at : ℕ) (t : Bool) → leb (length s) at ≡ t → (r : Read Timed) → choose t (got [] at) (and_then r (λ p. choose (ltb k most_frames) (and_then (frames_field N (k + 1) s p.next) (λ q. got (p.value ∷ q.value) q.next)) (refused 18))) ≡ and_then (choose t (got [] at) (and_then r (λ p. choose (ltb k most_frames) (and_then (frames_field j (k + 1) s p.next) (λ q. got (p.value ∷ q.value) q.next)) (refused 18)))) (λ p. and_then (frames_field m (k + suc j) s p.next) (λ q. got (p.value ++ q.value) q.next))
    split-go at true q r = sym (ap (λ z. and_then z (λ q. got ([] ++ q.value) q.next)) (end-go m (k + suc j) s at (leb-true (length s) at q)))
    split-go at false q (is p) = number-go p.value p.next (ltb k most_frames)
    split-go at false q (refused x) = refl

all_go : (r : Read (List Timed)) → r ≡ and_then r (λ q. got q.value q.next)
all_go (is p) = refl
all_go (refused n) = refl

frames-split : (j m N k : ℕ) (s : List ℕ) (at : ℕ) → N ≡ j + m → frames_field N k s at ≡ and_then (frames_field j k s at) (λ p. and_then (frames_field m (k + j) s p.next) (λ q. got (p.value ++ q.value) q.next))
unfolding frames_field
frames-split zero m N k s at e =
    let x : N ≡ m = omega arith in
    let y : k ≡ k + 0 = omega arith in
    ap₂ (λ i n. frames_field n i s at) y x ∙ all_go (frames_field m (k + 0) s at)
frames-split (suc j) m zero k s at e = absurd (omega arith)
frames-split (suc j) m (suc N) k s at e =
    let x : N ≡ j + m = omega arith in
    split-go j m k s N (λ i. frames-split j m N (k + 1) s i x) at (leb (length s) at) refl (frame_field s at)

-- ---- how far frames go
pub record On (fs : List Timed) (s : List ℕ) (at e : ℕ) : Type 0 where
  pub far : at + 16 * length fs ≤ e
  pub within : e ≤ length s

on_none : (fs : List Timed) (s : List ℕ) (at e : ℕ) → at ≤ length s → got [] at ≡ got fs e → On fs s at e
on_none fs s at e h r =
    let g = given [] fs at e r in
    let z : On [] s at at = record { far = omega arith; within = h } in
    subst (λ l. On l s at e) g.0 (subst (λ i. On [] s at i) g.1 z)

module _ (n k : ℕ) (s : List ℕ) (y : Bytes s) where
  on_go : ((at : ℕ) (fs : List Timed) (e : ℕ) → at ≤ length s → frames_field n (k + 1) s at ≡ got fs e → On fs s at e) → (at : ℕ) (fs : List Timed) (e : ℕ) → at ≤ length s → (t : Bool) → choose t (got [] at) (and_then (frame_field s at) (λ p. choose (ltb k most_frames) (and_then (frames_field n (k + 1) s p.next) (λ q. got (p.value ∷ q.value) q.next)) (refused 18))) ≡ got fs e → On fs s at e
  on_go ih at fs e h true r = on_none fs s at e h r
  on_go ih at fs e h false r =
      let a = took frame_field (λ f s i. choose (ltb k most_frames) (and_then (frames_field n (k + 1) s i) (λ q. got (f ∷ q.value) q.next)) (refused 18)) s at fs e r in
      let p = passed (ltb k most_frames) (and_then (frames_field n (k + 1) s a.next) (λ q. got (a.value ∷ q.value) q.next)) 18 e fs a.rest in
      let b = took (frames_field n (k + 1)) (λ gs. give (a.value ∷ gs)) s a.next fs e p.1 in
      let x = frame_back s at a.value a.next y h a.first in
      let xl = x.stands.1.0 in
      let z = ih a.next b.value b.next x.stands.1.1 b.first in
      let zf = z.far in
      let w = given (a.value ∷ b.value) fs b.next e b.rest in
      let v : On (a.value ∷ b.value) s at b.next = record { far = omega (arith, frame-length a.value); within = z.within } in
      subst (λ l. On l s at e) w.0 (subst (λ i. On (a.value ∷ b.value) s at i) w.1 v)

frames-on : (n k : ℕ) (s : List ℕ) → Bytes s → (at : ℕ) (fs : List Timed) (e : ℕ) → at ≤ length s → frames_field n k s at ≡ got fs e → On fs s at e
unfolding frames_field
frames-on zero k s y at fs e h r = on_none fs s at e h r
frames-on (suc n) k s y at fs e h r = on_go n k s y (λ at fs e h r. frames-on n (k + 1) s y at fs e h r) at fs e h (leb (length s) at) r

-- ---- back
come-end : (ws : List ℕ) (k : ℕ) (s : List ℕ) → length s ≤ 0 → come_all ws k s ≡ is []
unfolding come_all
come-end [] k s h = refl
come-end (w ∷ ws) k s h = rw (le-leb (length s) 0 h) refl

none-go : (b k n : ℕ) (s : List ℕ) → length s ≤ 0 → and_then (frames_field n k s 0) (λ p. is (blocks_from b p.value)) ≡ is []
unfolding blocks_from
none-go b k n s h = ap (λ r. and_then r (λ p. is (blocks_from b p.value))) (end-go n k s 0 h)

module _ (b k n : ℕ) (s : List ℕ) (e : k ≡ 3 * b) (fs : List Timed) where
  same_number : k / 3 ≡ b
  same_number = omega arith

  full-go : length fs ≡ 3 → (d : ℕ) (r : Read (List Timed)) → and_then (and_then (shift d r) (λ q. got (fs ++ q.value) q.next)) (λ p. is (blocks_from b p.value)) ≡ and_then (and_then r (λ q. is (blocks_from (b + 1) q.value))) (λ bs. is (block_of b fs ++ bs))
  full-go l d (is q) = ap is (three b fs q.value l)
  full-go l d (refused x) = refl

-- the step that come_all takes with what a block was made of
module _ (ws : List ℕ) (b k n : ℕ) (s : List ℕ) (y : Bytes s) (e : k ≡ 3 * b) (h : length s + 3 ≤ n) (v : length s ≤ suc (length ws)) (ih : (m : ℕ) (t : List ℕ) → Bytes t → length t ≤ length ws → length t + 3 ≤ m → and_then (frames_field m (k + 3) t 0) (λ p. is (blocks_from (b + 1) p.value)) ≡ come_all ws (k + 3) t) where
  module _ (fs : List Timed) (d : ℕ) (on : On fs s 0 d) (few : Few 3 k fs s d) where
    full-step : length fs ≡ 3 → and_then (and_then (frames_field (n - 3) (k + 3) s d) (λ q. got (fs ++ q.value) q.next)) (λ p. is (blocks_from b p.value)) ≡ and_then (come_all ws (k + length fs) (drop d s)) (λ bs. is (blocks_from (k / 3) fs ++ bs))
    full-step l =
        let far = on.far in
        let c : d ≡ d + 0 = omega arith in
        let i : length (drop d s) ≤ length ws = omega (arith, length-drop d s) in
        let m : length (drop d s) + 3 ≤ n - 3 = omega (arith, length-drop d s) in
        let x : block_of b fs ≡ blocks_from (k / 3) fs = sym (ap (λ z. blocks_from z fs) (same_number b k n s e fs) ∙ alone b fs (omega arith) (omega arith)) in
        let z : k + 3 ≡ k + length fs = omega arith in
        ap (λ r. and_then (and_then r (λ q. got (fs ++ q.value) q.next)) (λ p. is (blocks_from b p.value))) (ap (frames_field (n - 3) (k + 3) s) c ∙ frames-shift (n - 3) (k + 3) s d on.within 0)
        ∙ full-go b k n s e fs l d (frames_field (n - 3) (k + 3) (drop d s) 0)
        ∙ ap (λ r. and_then r (λ bs. is (block_of b fs ++ bs))) (ih (n - 3) (drop d s) (bytes_drop d s y) i m)
        ∙ ap₂ (λ i u. and_then (come_all ws i (drop d s)) (λ bs. is (u ++ bs))) z x

    last_step : length fs < 3 → and_then (and_then (frames_field (n - 3) (k + 3) s d) (λ q. got (fs ++ q.value) q.next)) (λ p. is (blocks_from b p.value)) ≡ and_then (come_all ws (k + length fs) (drop d s)) (λ bs. is (blocks_from (k / 3) fs ++ bs))
    last_step l =
        let z = few.ended l in
        let i : length (drop d s) ≤ 0 = omega (arith, length-drop d s) in
        ap (λ r. and_then (and_then r (λ q. got (fs ++ q.value) q.next)) (λ p. is (blocks_from b p.value))) (end-go (n - 3) (k + 3) s d z)
        ∙ ap is (ap (blocks_from b) (append-nil fs) ∙ ap (λ z. blocks_from z fs) (sym (same_number b k n s e fs)) ∙ sym (append-nil (blocks_from (k / 3) fs)))
        ∙ sym (ap (λ r. and_then r (λ bs. is (blocks_from (k / 3) fs ++ bs))) (come-end ws (k + length fs) (drop d s) i))

    any_step : (t : Bool) → ltb (length fs) 3 ≡ t → and_then (and_then (frames_field (n - 3) (k + 3) s d) (λ q. got (fs ++ q.value) q.next)) (λ p. is (blocks_from b p.value)) ≡ and_then (come_all ws (k + length fs) (drop d s)) (λ bs. is (blocks_from (k / 3) fs ++ bs))
    any_step true q = last_step (ltb-true (length fs) 3 q)
    any_step false q =
        let a = ltb-false (length fs) 3 q in
        let c = few.most in
        full-step (omega arith)

  step-go : (r : Read (List Timed)) → frames_field 3 k s 0 ≡ r → and_then (and_then r (λ p. and_then (frames_field (n - 3) (k + 3) s p.next) (λ q. got (p.value ++ q.value) q.next))) (λ p. is (blocks_from b p.value)) ≡ and_then {A = Made} (and_then r (λ p. is (record { bytes = blocks_from (k / 3) p.value; used = p.next; frames = k + length p.value }))) (λ m. and_then (come_all ws m.frames (drop m.used s)) (λ bs. is (m.bytes ++ bs)))
  step-go (is p) q =
      any_step p.value p.next (frames-on 3 k s y 0 p.value p.next (omega arith) q) (frames-few 3 k s 0 p.value p.next q) (ltb (length p.value) 3) refl
  step-go (refused x) q = refl

come-window : (w k : ℕ) (s : List ℕ) → Bytes s → 429 ≤ w → come_block k (take w s) ≡ come_block k s
unfolding come_block
come-window w k s y h = ap (λ r. and_then r (λ p. is (record { bytes = blocks_from (k / 3) p.value; used = p.next; frames = k + length p.value }))) (frames-near w s y 3 k 0 (omega arith) (omega arith))

module _ (w : ℕ) (ws : List ℕ) (b k n : ℕ) (s : List ℕ) (y : Bytes s) (v : 429 ≤ w) (e : k ≡ 3 * b) (l : length s ≤ suc (length ws)) (h : length s + 3 ≤ n) (ih : (m : ℕ) (t : List ℕ) → Bytes t → length t ≤ length ws → length t + 3 ≤ m → and_then (frames_field m (k + 3) t 0) (λ p. is (blocks_from (b + 1) p.value)) ≡ come_all ws (k + 3) t) where
  turn-go : (t : Bool) → leb (length s) 0 ≡ t → and_then (frames_field n k s 0) (λ p. is (blocks_from b p.value)) ≡ choose t (is []) (and_then (come_block k (take w s)) (λ m. and_then (come_all ws m.frames (drop m.used s)) (λ bs. is (m.bytes ++ bs))))
  unfolding come_block
  turn-go true q = none-go b k n s (leb-true (length s) 0 q)
  turn-go false q =
      let x : n ≡ 3 + (n - 3) = omega arith in
      ap (λ r. and_then r (λ p. is (blocks_from b p.value))) (frames-split 3 (n - 3) n k s 0 x)
      ∙ step-go ws b k n s y e h l ih (frames_field 3 k s 0) refl
      ∙ ap (λ r. and_then r (λ m. and_then (come_all ws m.frames (drop m.used s)) (λ bs. is (m.bytes ++ bs)))) (sym (come-window w k s y v))

come-go : (ws : List ℕ) (b k n : ℕ) (s : List ℕ) → Bytes s → Wide ws → k ≡ 3 * b → length s ≤ length ws → length s + 3 ≤ n → and_then (frames_field n k s 0) (λ p. is (blocks_from b p.value)) ≡ come_all ws k s
unfolding Wide come_all
come-go [] b k n s y v e l h = none-go b k n s (omega arith)
come-go (w ∷ ws) b k n s y v e l h =
    let f : k + 3 ≡ 3 * (b + 1) = omega arith in
    turn-go w ws b k n s y v.0 e l h (λ m t z i j. come-go ws (b + 1) (k + 3) m t z v.1 f i j) (leb (length s) 0) refl

whole-go : (d : ℕ) (r : Read (List Timed)) → and_then r (λ p. is (blocks_from 0 p.value)) ≡ and_then (value_only (shift d r)) (λ fs. is (blocks_of fs))
whole-go d (is p) = refl
whole-go d (refused n) = refl

module _ (ws p : List ℕ) (y : Bytes p) (v : Wide ws) (l : length p ≤ length ws) where
  head-go : (r : Read (Unit {0})) → head p 0 ≡ r → and_then r (λ q. come_all ws 0 (drop q.next p)) ≡ and_then (and_then r (λ q. value_only (frames_field (length p) 0 p q.next))) (λ fs. is (blocks_of fs))
  head-go (is q) e =
      let h = back_head p q.value q.next y e in
      let d = q.next in
      let a = h.1.0 in
      let b = h.1.1 in
      let i : length (drop d p) ≤ length ws = omega (arith, length-drop d p) in
      let m : length (drop d p) + 3 ≤ length p = omega (arith, length-drop d p, head-length) in
      let c : d ≡ d + 0 = omega arith in
      sym (come-go ws 0 0 (length p) (drop d p) (bytes_drop d p y) v (omega arith) i m)
      ∙ whole-go d (frames_field (length p) 0 (drop d p) 0)
      ∙ ap (λ r. and_then (value_only r) (λ fs. is (blocks_of fs))) (sym (ap (frames_field (length p) 0 p) c ∙ frames-shift (length p) 0 p d b 0))
  head-go (refused n) e = refl

  -- the header and block after block, each from a window of any width that holds three frames, are the whole move, in what they
  -- write and in what they refuse
  pub stream-from : (w : ℕ) → 24 ≤ w → stream_from w ws p ≡ from_pcap p
  unfolding from_pcap frames_of_pcap
  stream-from w h = ap (λ r. and_then r (λ q. come_all ws 0 (drop q.next p))) (head-window w p h) ∙ head-go (head p 0) refl

-- ---- any two answers that meet a contract are equal, and so is the room after them
abbrev went_of : Result ℕ Refusal → ℕ → WentOn
went_of a b = record { after = record { block = b }; answer = a }

abbrev came_of : Result ℕ Refusal → ℕ → ℕ → CameOn
came_of a u d = record { after = record { frames = d }; used = u; answer = a }

module _ (a : Answer (List ℕ)) (b : ℕ) (room : List ℕ) (y z : WentOn) (l m : List ℕ) where
  pub went-one : (of_answer y.answer ≡ sized a room) × ((y.after.block ≡ due_after b (sized a room)) × (l ≡ placed a room)) → (of_answer z.answer ≡ sized a room) × ((z.after.block ≡ due_after b (sized a room)) × (m ≡ placed a room)) → (y ≡ z) × (l ≡ m)
  went-one p q =
      let x = unique of_answer answer-one (sized a room) y.answer z.answer p.0 q.0 in
      (ap₂ went_of x (p.1.0 ∙ sym q.1.0), p.1.1 ∙ sym q.1.1)

module _ (a : Answer Made) (k : ℕ) (room : List ℕ) (y z : CameOn) (l m : List ℕ) where
  pub came-one : (of_answer y.answer ≡ length_in a) × ((y.used ≡ used_in a) × ((y.after.frames ≡ frames_in k a) × (l ≡ placed_in a room))) → (of_answer z.answer ≡ length_in a) × ((z.used ≡ used_in a) × ((z.after.frames ≡ frames_in k a) × (m ≡ placed_in a room))) → (y ≡ z) × (l ≡ m)
  came-one p q =
      let x = unique of_answer answer-one (length_in a) y.answer z.answer p.0 q.0 in
      (ap (λ i. came_of i y.used y.after.frames) x ∙ ap₂ (λ u d. came_of z.answer u d) (p.1.0 ∙ sym q.1.0) (p.1.1.0 ∙ sym q.1.1.0), p.1.1.1 ∙ sym q.1.1.1)
