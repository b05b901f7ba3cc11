-- Laws of `put`, and what a writer's calls and tests say of it. `search puts` proves from these a `returns` of a writer.
use Prim.Native.Nat.{ℕ, ◌+◌, ◌/◌, ◌%◌, ◌^◌, ◌≤◌, ◌<◌}
use native.Mathlib.Nat.{add_assoc, add-zero, zero-add}
use native.Mathlib.Numerals.{add-one}
use native.Mathlib.Omega.{arith}
use mathlib.Core.List.{List, [], ◌∷◌, ◌++◌}
use mathlib.Core.Bool.{Bool, true, false}
use mathlib.Core.Path.{◌≡◌, refl, sym, ap, ◌∙◌}
use lib.ListN.{length, set, drop}
use lib.Seq.{set_out, sets, sets-eq}
use lib.Dec.{leb, eqb}
use borrow.Author.Tests.{le-leb, lt-leb, eq-eqb, ne_eqb}
use Rattle.octets.specs.Read.{choose}
use Rattle.octets.specs.Write.{put, over, byte_bytes, be16_bytes, be32_bytes, be64_bytes, le16_bytes, le32_bytes}

-- one run after another
pub put-append : (at : ℕ) (cs bs l : List ℕ) → put at (cs ++ bs) l ≡ put (at + length cs) bs (put at cs l)
unfolding put
put-append at [] bs l = ap (λ k. put k bs l) (sym (add-zero at))
put-append at (a ∷ cs) bs l = put-append (at + 1) cs bs (set l at a) ∙ ap (λ k. put k bs (put (at + 1) cs (set l at a))) (omega arith)

-- nothing is put past the end
pub put-none : (at : ℕ) (bs l : List ℕ) → length l ≤ at → l ≡ put at bs l
unfolding put
put-none at [] l h = refl
put-none at (b ∷ bs) l h =
    let e : set l at b ≡ l = set_out l at b h in
    rw e (put-none (at + 1) bs l (omega arith))

put-sets : (at : ℕ) (bs l : List ℕ) → put at bs l ≡ sets l at bs
unfolding put
put-sets at [] l = refl
put-sets at (b ∷ bs) l = put-sets (at + 1) bs (set l at b) ∙ ap (λ k. sets (set l at b) k bs) (add-one at)

-- put at the front of room enough: the bytes, and then the rest as it was
pub put_front : (bs l : List ℕ) → length bs ≤ length l → put 0 bs l ≡ bs ++ drop (length bs) l
put_front bs l h =
    let h0 : 0 + length bs ≤ length l = omega arith in
    put-sets 0 bs l ∙ sets-eq bs l 0 h0 ∙ ap (λ k. bs ++ drop k l) (zero-add (length bs))

-- ---- a field after a field, as a call says it
pub more : (l m n : List ℕ) (at k : ℕ) (cs bs : List ℕ) → length cs ≡ k → m ≡ put at cs l → n ≡ put (at + k) bs m → n ≡ put at (cs ++ bs) l
more l m n at k cs bs h p q = q ∙ rw (← h, p) (sym (put-append at cs bs l))

pub more_byte : (l m n : List ℕ) (at x : ℕ) (bs : List ℕ) → m ≡ put at (byte_bytes x) l → n ≡ put (at + 1) bs m → n ≡ put at (byte_bytes x ++ bs) l
unfolding byte_bytes
more_byte l m n at x bs p q = more l m n at 1 (byte_bytes x) bs refl p q

pub more-be16 : (l m n : List ℕ) (at x : ℕ) (bs : List ℕ) → m ≡ put at (be16_bytes x) l → n ≡ put (at + 2) bs m → n ≡ put at (be16_bytes x ++ bs) l
unfolding be16_bytes
more-be16 l m n at x bs p q = more l m n at 2 (be16_bytes x) bs refl p q

pub more-be32 : (l m n : List ℕ) (at x : ℕ) (bs : List ℕ) → m ≡ put at (be32_bytes x) l → n ≡ put (at + 4) bs m → n ≡ put at (be32_bytes x ++ bs) l
unfolding be32_bytes be16_bytes
more-be32 l m n at x bs p q = more l m n at 4 (be32_bytes x) bs refl p q

pub more-be64 : (l m n : List ℕ) (at x : ℕ) (bs : List ℕ) → m ≡ put at (be64_bytes x) l → n ≡ put (at + 8) bs m → n ≡ put at (be64_bytes x ++ bs) l
unfolding be64_bytes be32_bytes be16_bytes
more-be64 l m n at x bs p q = more l m n at 8 (be64_bytes x) bs refl p q

pub more-le16 : (l m n : List ℕ) (at x : ℕ) (bs : List ℕ) → m ≡ put at (le16_bytes x) l → n ≡ put (at + 2) bs m → n ≡ put at (le16_bytes x ++ bs) l
unfolding le16_bytes
more-le16 l m n at x bs p q = more l m n at 2 (le16_bytes x) bs refl p q

pub more-le32 : (l m n : List ℕ) (at x : ℕ) (bs : List ℕ) → m ≡ put at (le32_bytes x) l → n ≡ put (at + 4) bs m → n ≡ put at (le32_bytes x ++ bs) l
unfolding le32_bytes le16_bytes
more-le32 l m n at x bs p q = more l m n at 4 (le32_bytes x) bs refl p q

pub two_bytes : (l m n : List ℕ) (at x y : ℕ) → m ≡ put at (byte_bytes x) l → n ≡ put (at + 1) (byte_bytes y) m → n ≡ put at (x ∷ y ∷ []) l
unfolding byte_bytes put
two_bytes l m n at x y p q = q ∙ ap (λ z. set z (at + 1) y) p

-- stores one behind the other, as straight code leaves them: the first at a place, each further one at a distance from it
abbrev stores : ℕ → ℕ → List ℕ → List ℕ → List ℕ
stores at k [] l = l
stores at k (b ∷ bs) l = stores at (k + 1) bs (set l (at + k) b)

stores-put : (at k : ℕ) (bs l : List ℕ) → stores at k bs l ≡ put (at + k) bs l
unfolding put
stores-put at k [] l = refl
stores-put at k (b ∷ bs) l = stores-put at (k + 1) bs (set l (at + k) b) ∙ ap (λ i. put i bs (set l (at + k) b)) (sym (add_assoc at k 1))

abbrev pub stored : ℕ → List ℕ → List ℕ → List ℕ
stored at [] l = l
stored at (b ∷ bs) l = stores at 1 bs (set l at b)

pub stored-put : (at : ℕ) (bs l : List ℕ) → stored at bs l ≡ put at bs l
unfolding put
stored-put at [] l = refl
stored-put at (b ∷ bs) l = stores-put at 1 bs (set l at b)

-- ---- a number's bytes, each taken from the number itself: what halves, and halves of halves, leave of them
abbrev pub be32_direct : ℕ → List ℕ
be32_direct x = x / 2 ^ 24 ∷ x / 2 ^ 16 % 256 ∷ x / 256 % 256 ∷ x % 256 ∷ []

abbrev pub be64_direct : ℕ → List ℕ
be64_direct x = x / 2 ^ 56 ∷ x / 2 ^ 48 % 256 ∷ x / 2 ^ 40 % 256 ∷ x / 2 ^ 32 % 256 ∷ x / 2 ^ 24 % 256 ∷ x / 2 ^ 16 % 256 ∷ x / 256 % 256 ∷ x % 256 ∷ []

pub be32-direct : (x : ℕ) → be32_direct x ≡ be32_bytes x
unfolding be32_bytes be16_bytes
be32-direct x =
    let h3 : x / 2 ^ 24 ≡ x / 2 ^ 16 / 256 = omega arith in
    let h1 : x / 256 % 256 ≡ x % 2 ^ 16 / 256 = omega arith in
    let h0 : x % 256 ≡ x % 2 ^ 16 % 256 = omega arith in
    rw (h3, h1, h0)

be64-halves : (x : ℕ) → be64_direct x ≡ be32_direct (x / 2 ^ 32) ++ be32_direct (x % 2 ^ 32)
be64-halves x =
    let h7 : x / 2 ^ 56 ≡ x / 2 ^ 32 / 2 ^ 24 = omega arith in
    let h6 : x / 2 ^ 48 ≡ x / 2 ^ 32 / 2 ^ 16 = omega arith in
    let h5 : x / 2 ^ 40 ≡ x / 2 ^ 32 / 256 = omega arith in
    let h3 : x / 2 ^ 24 % 256 ≡ x % 2 ^ 32 / 2 ^ 24 = omega arith in
    let h2 : x / 2 ^ 16 % 256 ≡ x % 2 ^ 32 / 2 ^ 16 % 256 = omega arith in
    let h1 : x / 256 % 256 ≡ x % 2 ^ 32 / 256 % 256 = omega arith in
    let h0 : x % 256 ≡ x % 2 ^ 32 % 256 = omega arith in
    rw (h7, h6, h5, h3, h2, h1, h0)

pub be64-direct : (x : ℕ) → be64_direct x ≡ be64_bytes x
unfolding be64_bytes
be64-direct x =
    be64-halves x
    ∙ ap (λ h. h ++ be32_direct (x % 2 ^ 32)) (be32-direct (x / 2 ^ 32))
    ∙ ap (λ l. be32_bytes (x / 2 ^ 32) ++ l) (be32-direct (x % 2 ^ 32))

-- straight stores of these
pub direct-put : (at : ℕ) (bs cs l : List ℕ) → bs ≡ cs → stored at bs l ≡ put at cs l
direct-put at bs cs l e = stored-put at bs l ∙ ap (λ x. put at x l) e

-- ---- the test of the room, where a call gave the length; and the case that a match found
pub room-short : {A : Type 0} {r : A} {n : ℕ} (a b : ℕ) (x y : A) → n ≡ a → b < n → r ≡ y → r ≡ choose (leb a b) x y
room-short a b x y p h e = rw (← p, lt-leb _ _ h) e

pub room-enough : {A : Type 0} {r : A} {n : ℕ} (a b : ℕ) (x y : A) → n ≡ a → n ≤ b → r ≡ x → r ≡ choose (leb a b) x y
room-enough a b x y p h e = rw (← p, le-leb _ _ h) e

-- a writer's last step, where a call gave the length: its bytes stand at the front, and the rest is as it was
pub written_over : {n : ℕ} (a : ℕ) (bs l m : List ℕ) → n ≡ a → n ≤ length l → length bs ≡ a → m ≡ put 0 bs l → m ≡ over a bs l
written_over a bs l m p h q e =
    let g : length bs ≤ length l = omega arith in
    let f : a ≤ length l = omega arith in
    rw (le-leb a (length l) f) (e ∙ put_front bs l g ∙ ap (λ k. bs ++ drop k l) q)

pub case-put : {X : Type 0} (f : X → List ℕ) (y x : X) (at : ℕ) (l n : List ℕ) → y ≡ x → n ≡ put at (f x) l → n ≡ put at (f y) l
case-put f y x at l n q e = e ∙ ap (λ z. put at (f z) l) (sym q)

pub put-nil : (at : ℕ) (l : List ℕ) → l ≡ put at [] l
unfolding put
put-nil at l = refl

-- a field whose value a call gave
pub byte-told : (l n : List ℕ) (at x y : ℕ) → x ≡ y → n ≡ put at (byte_bytes x) l → n ≡ put at (byte_bytes y) l
byte-told l n at x y h p = rw (← h) p

pub le16-told : (l n : List ℕ) (at x y : ℕ) → x ≡ y → n ≡ put at (le16_bytes x) l → n ≡ put at (le16_bytes y) l
le16-told l n at x y h p = rw (← h) p

pub more-byte-told : (l m n : List ℕ) (at x y : ℕ) (bs : List ℕ) → x ≡ y → m ≡ put at (byte_bytes x) l → n ≡ put (at + 1) bs m → n ≡ put at (byte_bytes y ++ bs) l
more-byte-told l m n at x y bs h p q = more_byte l m n at y bs (byte-told l m at x y h p) q

pub more-le16-told : (l m n : List ℕ) (at x y : ℕ) (bs : List ℕ) → x ≡ y → m ≡ put at (le16_bytes x) l → n ≡ put (at + 2) bs m → n ≡ put at (le16_bytes y ++ bs) l
more-le16-told l m n at x y bs h p q = more-le16 l m n at y bs (le16-told l m at x y h p) q

-- one of two runs, by a test
pub if-put : (t : Bool) (at : ℕ) (cs bs l n : List ℕ) → t ≡ true → n ≡ put at cs l → n ≡ put at (choose t cs bs) l
if-put t at cs bs l n h e = rw h e

pub if-not-put : (t : Bool) (at : ℕ) (cs bs l n : List ℕ) → t ≡ false → n ≡ put at bs l → n ≡ put at (choose t cs bs) l
if-not-put t at cs bs l n h e = rw h e

pub put-eq : (a b at : ℕ) (cs bs l n : List ℕ) → a ≡ b → n ≡ put at cs l → n ≡ put at (choose (eqb a b) cs bs) l
put-eq a b at cs bs l n h e = rw (eq-eqb a b h) e

pub put-ne : (a b at : ℕ) (cs bs l n : List ℕ) → (a ≡ b → ⊥) → n ≡ put at bs l → n ≡ put at (choose (eqb a b) cs bs) l
put-ne a b at cs bs l n h e = rw (ne_eqb a b h) e

pub ruleset told = (byte-told, le16-told, more-byte-told, more-le16-told, if-put, if-not-put)

pub ruleset puts = (put-none, two_bytes, more_byte, more-be16, more-be32, more-be64, more-le16, more-le32, room-short, room-enough)
