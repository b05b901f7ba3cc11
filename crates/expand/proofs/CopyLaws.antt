-- Bytes that are put one after the other: what is put so far, with what is left to put, is the whole.
use Prim.Native.Nat.{ℕ, suc, ◌+◌, ◌-◌, ◌≤◌, ◌<◌, min}
use native.Mathlib.Omega.{arith, min_cases}
use native.Mathlib.Numerals.{add-one}
use native.Mathlib.Nat.{add-zero}
use mathlib.Core.List.{List, [], ◌∷◌, ◌++◌, append_assoc}
use mathlib.Core.Path.{◌≡◌, refl, sym, ap, ◌∙◌}
use lib.ListN.{length, get_or, set, take, drop, drop_of_length-le, length-set, length-take, length-drop}
use lib.Seq.{drop-cons, get_or-take, get_or-drop, sets, sets-eq, set-append_left, set_comm}
use Rattle.octets.specs.Write.{put}
use Rattle.octets.proofs.Puts.{put-none, put-nil}

-- one more byte
put_step : (bs l : List ℕ) (at i : ℕ) → i < length bs → put (at + i) (drop i bs) l ≡ put (at + (i + 1)) (drop (i + 1) bs) (set l (at + i) (get_or bs i 0))
unfolding put
put_step bs l at i h =
    let e : suc i ≡ i + 1 = omega arith in
    let f : at + i + 1 ≡ at + (i + 1) = omega arith in
    rw (drop-cons bs i 0 h, e) (ap (λ k. put k (drop (i + 1) bs) (set l (at + i) (get_or bs i 0))) f)

-- n bytes of s from a place on
abbrev pub part : List ℕ → ℕ → ℕ → List ℕ
part s from n = take n (drop from s)

pub part_length : (s : List ℕ) (from n : ℕ) → length (part s from n) ≡ min n (length s - from)
part_length s from n = length-take n (drop from s) ∙ ap (min n) (length-drop from s)

pub part-within : (s : List ℕ) (from n : ℕ) → length (part s from n) ≤ length s - from
part-within s from n = omega (arith, part_length s from n)

pub put-more : (s l : List ℕ) (at from n i : ℕ) → i < length (part s from n) → put (at + i) (drop i (part s from n)) l ≡ put (at + (i + 1)) (drop (i + 1) (part s from n)) (set l (at + i) (get_or s (from + i) 0))
put-more s l at from n i h =
    let k : i < n = omega (arith, part_length s from n) in
    let e : get_or (part s from n) i 0 ≡ get_or s (from + i) 0 = get_or-take n (drop from s) i 0 k ∙ get_or-drop from s i 0 in
    put_step (part s from n) l at i h ∙ ap (λ x. put (at + (i + 1)) (drop (i + 1) (part s from n)) (set l (at + i) x)) e

-- at the end of the bytes or of the room
pub put-end : (bs l : List ℕ) (at i m : ℕ) → m ≡ min (length bs) (length l - at) → m ≤ i → put (at + i) (drop i bs) l ≡ l
put-end bs l at i m q h =
    min_cases (length bs) (length l - at) (put (at + i) (drop i bs) l ≡ l)
    (λ p e. let k : length bs ≤ i = omega arith in rw (drop_of_length-le bs k) (sym (put-nil (at + i) l)))
    (λ p e. sym (put-none (at + i) (drop i bs) l (omega arith)))

-- ---- a run inside the room
put-sets : (at : ℕ) (bs l : List ℕ) → put at bs l ≡ sets l at bs
unfolding put
put-sets at [] l = refl
put-sets at (b ∷ bs) l = put-sets (at + 1) bs (set l at b) ∙ ap (λ k. sets (set l at b) k bs) (add-one at)

pub put-inside : (at : ℕ) (bs l : List ℕ) → at + length bs ≤ length l → put at bs l ≡ take at l ++ (bs ++ drop (at + length bs) l)
put-inside at bs l h = put-sets at bs l ∙ sets-eq bs l at h ∙ append_assoc (take at l) bs (drop (at + length bs) l)

pub length-put : (at : ℕ) (bs l : List ℕ) → length (put at bs l) ≡ length l
unfolding put
length-put at [] l = refl
length-put at (b ∷ bs) l = length-put (at + 1) bs (set l at b) ∙ length-set l at b

-- in the front of two parts
pub put-front-part : (at : ℕ) (bs x y : List ℕ) → at + length bs ≤ length x → put at bs (x ++ y) ≡ put at bs x ++ y
unfolding put
put-front-part at [] x y h = refl
put-front-part at (b ∷ bs) x y h =
    let e : set (x ++ y) at b ≡ set x at b ++ y = set-append_left x y at b (omega arith) in
    rw e (put-front-part (at + 1) bs (set x at b) y (omega (arith, length-set x at b)))

-- ---- what stands in front, put last
pub set-put : (k at x : ℕ) (bs l : List ℕ) → k < at → set (put at bs l) k x ≡ put at bs (set l k x)
unfolding put
set-put k at x [] l h = refl
set-put k at x (b ∷ bs) l h = set-put k (at + 1) x bs (set l at b) (omega arith) ∙ ap (λ z. put (at + 1) bs z) (set_comm l at k b x (λ e. omega (arith, e)))

pub put-before : (at : ℕ) (cs bs l : List ℕ) → put at cs (put (at + length cs) bs l) ≡ put at (cs ++ bs) l
unfolding put
put-before at [] bs l = ap (λ k. put k bs l) (add-zero at)
put-before at (c ∷ cs) bs l =
    let e : at + length (c ∷ cs) ≡ at + 1 + length cs = omega arith in
    ap (λ z. put (at + 1) cs z) (set-put at (at + length (c ∷ cs)) c bs l (omega arith))
    ∙ ap (λ k. put (at + 1) cs (put k bs (set l at c))) e
    ∙ put-before (at + 1) cs bs (set l at c)

pub before : (l m n : List ℕ) (at k : ℕ) (cs bs : List ℕ) → length cs ≡ k → m ≡ put (at + k) bs l → n ≡ put at cs m → n ≡ put at (cs ++ bs) l
before l m n at k cs bs h p q = q ∙ ap (put at cs) (p ∙ ap (λ z. put (at + z) bs l) (sym h)) ∙ put-before at cs bs l

-- ---- how many bytes of a run are put: as many as there are, and as the room has places for
pub part-fits : (s l : List ℕ) (at from n m : ℕ) → m ≡ min (min n (length (drop from s))) (length (drop at l)) → m ≡ min (length (part s from n)) (length l - at)
part-fits s l at from n m q = q ∙ ap (λ z. min z (length (drop at l))) (sym (length-take n (drop from s))) ∙ ap (min (length (part s from n))) (length-drop at l)
