-- What is cut off the input that is read, up to its first line feed.
use Rattle.std.proofs.Common.{append_assoc, length-append, take-append-drop, ◌≡◌, ℕ, zero, suc, ◌+◌, ◌-◌, ◌<◌, ◌≤◌, Bool, true, false, eqb, List, [], ◌∷◌, ◌++◌, length, get_or, take, drop, sym, refl, ap, ◌∙◌, add-one, arith, length-drop, length-take-le, drop_of_length-le, drop-drop, eqb-true, take_all}
use lib.ListN.{length-take}
use Rattle.std.proofs.lemmas.List.{take-take}
use Rattle.std.proofs.Common.{rules}
use Rattle.std.proofs.lemmas.Slice.{between_is, take-put_mid_below}
use borrow.Rule.Slice.PartMut.{put_mid}
use lib.ListN.{set}
use lib.Seq.{take_at, take-set-le}
use Rattle.octets.specs.Write.{put}
use Rattle.octets.proofs.Puts.{put_front}
use Rattle.text.specs.Bytes.{index_of, index_after}
use Rattle.text.proofs.Lines.{behind}
use Rattle.text.proofs.Fields.{index-within}

inner : (s : List ℕ) (i j : ℕ) → take (j - i) (drop i s) ≡ drop i (take j s)
inner s i j = search (rules, between_is)

first-go : (t : Bool) (b x : ℕ) (s : List ℕ) → eqb x b ≡ t → (index_of b (take (index_of b s) s) ≡ index_of b s) → index_of b (take (index_after t (index_of b s)) (x ∷ s)) ≡ index_after t (index_of b s)
unfolding index_of index_after
first-go true b x s e h = refl
first-go false b x s e h = ap (λ t. index_after t (index_of b (take (index_of b s) s))) e ∙ ap suc h

-- no b stands before the first
pub first : (b : ℕ) (s : List ℕ) → index_of b (take (index_of b s) s) ≡ index_of b s
unfolding index_of
first b [] = refl
first b (x ∷ s) = first-go (eqb x b) b x s refl (first b s)

module _ (room : List ℕ) (start from have end : ℕ) (a : start ≤ from) (b : from ≤ have) (c : have ≤ length room) (q : index_of 10 (drop start (take from room)) ≡ from - start) (e : end ≡ from + index_of 10 (drop from (take have room))) where
  whole : length (take have room) ≡ have
  whole = length-take-le have room c

  left : length (drop start (take have room)) ≡ have - start
  left = length-drop start (take have room) ∙ ap (λ n. n - start) whole

  scanned : take (from - start) (drop start (take have room)) ≡ drop start (take from room)
  scanned = inner (take have room) start from ∙ ap (drop start) (take-take from have room b)

  rest : drop (from - start) (drop start (take have room)) ≡ drop from (take have room)
  rest =
      let k : start + (from - start) ≡ from = omega arith in
      drop-drop (from - start) start (take have room) ∙ ap (λ n. drop n (take have room)) k

  pub first_feed : start + index_of 10 (drop start (take have room)) ≡ end
  first_feed =
      let u : List ℕ = drop start (take have room) in
      let l : length (take (from - start) u) ≡ from - start = length-take-le (from - start) u (omega (arith, left)) in
      let i : index_of 10 u ≡ length (take (from - start) u) + index_of 10 (drop (from - start) u) = behind 10 (from - start) u (ap (index_of 10) scanned ∙ q ∙ sym l) in
      let j : index_of 10 (drop (from - start) u) ≡ index_of 10 (drop from (take have room)) = ap (index_of 10) rest in
      omega arith

  pub feed_scanned : end < have → index_of 10 (drop start (take end room)) ≡ end - start
  feed_scanned h =
      let u : List ℕ = drop start (take have room) in
      let k : index_of 10 u ≡ end - start = omega (arith, first_feed) in
      ap (λ t. index_of 10 (drop start t)) (sym (take-take end have room (omega arith)))
      ∙ ap (index_of 10) (sym (inner (take have room) start end))
      ∙ ap (λ n. index_of 10 (take n u)) (sym k)
      ∙ first 10 u
      ∙ k

  pub feed_found : end < have → end - start ≡ index_of 10 (drop start (take have room))
  feed_found h = omega (arith, first_feed)

  pub feed_within : end < have → end - start < length (drop start (take have room))
  feed_within h = omega (arith, first_feed, left)

  pub none_ended : have ≤ end → index_of 10 (drop start (take have room)) ≡ length (drop start (take have room))
  none_ended h = omega (arith, first_feed, left, index-within 10 (drop start (take have room)))

  pub none_scanned : have ≤ end → index_of 10 (drop start (take have room)) ≡ have - start
  none_scanned h = none_ended h ∙ left

pub none_yet : (room : List ℕ) (at : ℕ) → index_of 10 (drop at (take at room)) ≡ at - at
unfolding index_of
none_yet room at =
    let z : 0 ≡ at - at = omega arith in
    ap (index_of 10) (drop_of_length-le (take at room) (omega (arith, length-take at room))) ∙ z

-- ---- what is left moves to the front, and bytes come behind it
module _ (room s p : List ℕ) (start from have : ℕ) (f : length room ≡ 65536) (a : start ≤ from) (b : from ≤ have) (c : have ≤ 65536) (q : index_of 10 (drop start (take from room)) ≡ from - start) (e : s ≡ put 0 (drop start (take have room)) (take have room)) where
  all : length (take have room) ≡ have
  all = length-take-le have room (omega arith)

  kept_len : length (drop start (take have room)) ≡ have - start
  kept_len = length-drop start (take have room) ∙ ap (λ n. n - start) all

  moved : s ++ p ≡ drop start (take have room) ++ (drop (length (drop start (take have room))) (take have room) ++ p)
  moved =
      let u : List ℕ = drop start (take have room) in
      ap (λ l. l ++ p) (e ∙ put_front u (take have room) (omega (arith, kept_len, all)))
      ∙ append_assoc u (drop (length u) (take have room)) p

  at_front : take (have - start) (s ++ p) ≡ drop start (take have room)
  at_front =
      let u : List ℕ = drop start (take have room) in
      ap (take (have - start)) moved ∙ take_at u (drop (length u) (take have room) ++ p) (have - start) kept_len

  holds_it : have - start ≤ length (s ++ p)
  holds_it =
      let u : List ℕ = drop start (take have room) in
      omega (arith, ap length moved, length-append u (drop (length u) (take have room) ++ p), kept_len)

  pub stays : (k : ℕ) (buf : List ℕ) → take (have - start) (put_mid (have - start) k (s ++ p) buf) ≡ drop start (take have room)
  stays k buf = take-put_mid_below (have - start) k (s ++ p) buf (have - start) (omega arith) holds_it ∙ at_front

  pub stays_set : (z : List ℕ) → take (have - start) z ≡ drop start (take have room) → take (have - start) (set z (have - start) 10) ≡ drop start (take have room)
  stays_set z h = take-set-le (have - start) z (have - start) 10 (omega arith) ∙ h

  pub still_scanned : (z : List ℕ) → take (have - start) z ≡ drop start (take have room) → index_of 10 (take (from - start) z) ≡ from - start - 0
  still_scanned z h =
      let k : from - start ≡ from - start - 0 = omega arith in
      ap (index_of 10) (sym (take-take (from - start) (have - start) z (omega arith)) ∙ ap (take (from - start)) h ∙ inner (take have room) start from ∙ ap (drop start) (take-take from have room b))
      ∙ q ∙ k

  pub grown : (z : List ℕ) (m : ℕ) → have - start ≤ m → take (have - start) z ≡ drop start (take have room) → take m z ≡ drop start (take have room) ++ drop (have - start) (take m z)
  grown z m l h =
      sym (take-append-drop (have - start) (take m z))
      ∙ ap (λ t. t ++ drop (have - start) (take m z)) (take-take (have - start) m z l ∙ h)
