-- Where a byte stands first, and an unfinished line moved to the front.
use Rattle.std.proofs.Common.{◌≡◌, ℕ, zero, suc, ◌+◌, ◌<◌, ◌≤◌, Bool, true, false, eqb, List, [], ◌∷◌, length, get_or, take, drop, set, sym, refl, ap, ◌∙◌, zero-add, add-one, arith, length-drop, drop_of_length-le, length-take-le, get_or-drop, drop-cons, drop-drop, drop-set-lt, eq-eqb, ne_eqb}
use Rattle.std.proofs.Common.{◌++◌, append-nil}
use Rattle.octets.specs.Write.{put}
use Rattle.octets.proofs.Puts.{put_front}
use Rattle.text.specs.Bytes.{index_of, index_after}

pub found : (b : ℕ) (s : List ℕ) (i : ℕ) → i < length s → get_or s i 0 ≡ b → i + index_of b (drop i s) ≡ i
unfolding index_of index_after
found b s i h e =
    let z : index_of b (drop i s) ≡ 0 = rw (drop-cons s i 0 h, eq-eqb (get_or s i 0) b e) refl in
    omega arith

pub passed : (b : ℕ) (s : List ℕ) (i : ℕ) → i < length s → (get_or s i 0 ≡ b → ⊥) → i + index_of b (drop i s) ≡ i + 1 + index_of b (drop (i + 1) s)
unfolding index_of index_after
passed b s i h e =
    let z : index_of b (drop i s) ≡ suc (index_of b (drop (suc i) s)) = rw (drop-cons s i 0 h, ne_eqb (get_or s i 0) b e) refl in
    let d : index_of b (drop (suc i) s) ≡ index_of b (drop (i + 1) s) = ap (λ k. index_of b (drop k s)) (sym (add-one i)) in
    omega arith

pub none_left : (b : ℕ) (s : List ℕ) (i : ℕ) → length s ≤ i → i + index_of b (drop i s) ≡ i
unfolding index_of
none_left b s i h =
    let z : index_of b (drop i s) ≡ 0 = ap (index_of b) (drop_of_length-le s h) in
    omega arith

pub nothing_left : (b : ℕ) (s : List ℕ) → length s ≤ 0 → index_of b s ≡ length s
unfolding index_of
nothing_left b [] h = refl
nothing_left b (x ∷ s) h = omega (arith, h)

-- ---- a move to the front
pub unmoved : (was s : List ℕ) (i from : ℕ) → drop i s ≡ drop i was → get_or s (i + from) 0 ≡ get_or was (i + from) 0
unmoved was s i from e = sym (get_or-drop i s from 0) ∙ ap (λ l. get_or l from 0) e ∙ get_or-drop i was from 0

pub move_step : (was s : List ℕ) (i j g : ℕ) → j < length was → g ≡ get_or was j 0 → put (i + 1) (drop (j + 1) was) (set s i g) ≡ put i (drop j was) s
unfolding put
move_step was s i j g h e =
    ap (λ k. put (i + 1) (drop k was) (set s i g)) (add-one j)
    ∙ ap (λ y. put (i + 1) (drop (suc j) was) (set s i y)) e
    ∙ ap (λ l. put i l s) (sym (drop-cons was j 0 h))

pub tail_step : (was s : List ℕ) (i g : ℕ) → drop i s ≡ drop i was → drop (i + 1) (set s i g) ≡ drop (i + 1) was
tail_step was s i g e =
    drop-set-lt (i + 1) s i g (omega arith)
    ∙ sym (drop-drop 1 i s) ∙ ap (drop 1) e ∙ drop-drop 1 i was

pub move-done : (was s : List ℕ) (i j : ℕ) → length was ≤ j → put i (drop j was) s ≡ s
unfolding put
move-done was s i j h = ap (λ l. put i l s) (drop_of_length-le was h)

-- nothing moves where all stands at the front already
pub moved_none : (s : List ℕ) → s ≡ put 0 s s
moved_none s =
    let e : length s ≤ length s = omega arith in
    sym (put_front s s e ∙ ap (λ l. s ++ l) (drop_of_length-le s e) ∙ append-nil s)

-- ---- a part that holds no b: the search goes on behind it
after : (t : Bool) (p q k m : ℕ) → (p ≡ m → q ≡ m + k) → index_after t p ≡ suc m → index_after t q ≡ suc m + k
unfolding index_after
after true p q k m f e = omega (arith, e)
after false p q k m f e =
    let h : p ≡ m = omega (arith, e) in
    let g : q ≡ m + k = f h in
    omega arith

pub behind : (b n : ℕ) (l : List ℕ) → index_of b (take n l) ≡ length (take n l) → index_of b l ≡ length (take n l) + index_of b (drop n l)
unfolding index_of
behind b zero l e = sym (zero-add (index_of b l))
behind b (suc n) [] e = refl
behind b (suc n) (x ∷ l) e = after (eqb x b) (index_of b (take n l)) (index_of b l) (index_of b (drop n l)) (length (take n l)) (behind b n l) e

-- the same for n bytes of a slice, from a place on
pub goes_on : (b i n : ℕ) (s : List ℕ) → i + n ≤ length s → index_of b (take n (drop i s)) ≡ length (take n (drop i s)) → i + n + index_of b (drop (i + n) s) ≡ i + index_of b (drop i s)
goes_on b i n s h e =
    let l : length (take n (drop i s)) ≡ n = length-take-le n (drop i s) (omega (arith, length-drop i s)) in
    let d : index_of b (drop n (drop i s)) ≡ index_of b (drop (i + n) s) = ap (index_of b) (drop-drop n i s) in
    omega (arith, behind b n (drop i s) e)
