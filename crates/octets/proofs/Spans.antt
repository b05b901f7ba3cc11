-- How far a reader goes. `Spans m k`: wherever m gives a value, the place after it is k past the place that it began at, and not past the
-- end. Put together as the reader is.
use Prim.Native.Nat.{ℕ, ◌+◌, ◌≤◌, ◌<◌}
use native.Mathlib.Omega.{arith}
use mathlib.Core.List.{List}
use mathlib.Core.Bool.{Bool, true, false}
use native.Mathlib.Nat.{add-zero}
use mathlib.Core.Path.{◌≡◌, refl, ap, subst, ◌∙◌}
use lib.ListN.{length, get_or}
use lib.Dec.{ltb, leb}
use borrow.Author.Tests.{ltb-true, leb-true}
use Rattle.octets.specs.Read.{Answer, is, refused, Read, Reader, got, and_then, choose, branch, ◌>>=◌, give, refuse, byte, be16, be32, be64, le16, le32, le64, skip}

abbrev pub Spans : {A : Type 0} → Reader A → ℕ → Type 0
Spans {A} m k = (s : List ℕ) (at : ℕ) (a : A) (n : ℕ) → at ≤ length s → m s at ≡ got a n → (n ≡ at + k) × (n ≤ length s)

abbrev next_of : {A : Type 0} → Read A → ℕ
next_of (is p) = p.next
next_of (refused n) = 0

abbrev tag_of : {A : Type 0} → Answer A → ℕ
tag_of (is a) = 0
tag_of (refused n) = 1

-- a refusal is no value
pub not-refused : {A B : Type 0} (a : A) (n : ℕ) → ◌≡◌ {A = Answer A} (refused n) (is a) → B
not-refused a n e = let z : ◌≡◌ {A = ℕ} 1 0 = ap tag_of e in absurd (omega arith)

-- ---- as readers are put together
pub spans-give : {A : Type 0} (x : A) → Spans (give x) 0
spans-give x s at a n h e = let z : at ≡ n = ap next_of e in omega arith

pub spans-refuse : {A : Type 0} (r k : ℕ) → Spans {A = A} (refuse r) k
spans-refuse r k s at a n h e = not-refused _ r e

then-go : {A B : Type 0} (m : Reader A) (f : A → Reader B) (j k : ℕ) → Spans m j → ((a : A) → Spans (f a) k) → (s : List ℕ) (at : ℕ) (b : B) (n : ℕ) → at ≤ length s → (r : Read A) → m s at ≡ r → and_then r (λ p. f p.value s p.next) ≡ got b n → (n ≡ at + (j + k)) × (n ≤ length s)
then-go m f j k v w s at b n h (is p) q e =
    let x = v s at p.value p.next h q in
    let y = w p.value s p.next b n x.1 e in
    omega arith
then-go m f j k v w s at b n h (refused x) q e = not-refused _ x e

pub spans-then : {A B : Type 0} (m : Reader A) (f : A → Reader B) (j k : ℕ) → Spans m j → ((a : A) → Spans (f a) k) → Spans (◌>>=◌ m f) (j + k)
spans-then m f j k v w s at b n h e = then-go m f j k v w s at b n h (m s at) refl e

pub spans-branch : {A : Type 0} (t : Bool) (m f : Reader A) (j k : ℕ) → Spans m j → Spans f k → Spans (branch t m f) (choose t j k)
spans-branch true m f j k v w s at a n h e = v s at a n h e
spans-branch false m f j k v w s at a n h e = w s at a n h e

-- a field of which a value is made, two of them, and one behind a test
pub spans-map : {A B : Type 0} (m : Reader A) (f : A → B) (k : ℕ) → Spans m k → Spans (◌>>=◌ m (λ a. give (f a))) k
spans-map m f k v = subst (Spans (◌>>=◌ m (λ a. give (f a)))) (add-zero k) (spans-then m (λ a. give (f a)) k 0 v (λ a. spans-give (f a)))

pub spans-both : {A B C : Type 0} (m : Reader A) (k : Reader B) (f : A → B → C) (i j : ℕ) → Spans m i → Spans k j → Spans (◌>>=◌ m (λ a. ◌>>=◌ k (λ b. give (f a b)))) (i + j)
spans-both m k f i j v w = spans-then m (λ a. ◌>>=◌ k (λ b. give (f a b))) i j v (λ a. spans-map k (f a) j w)

pub spans-guard : {A : Type 0} (t : Bool) (m : Reader A) (r k : ℕ) → Spans m k → Spans (branch t m (refuse r)) k
spans-guard true m r k v s at a n h e = v s at a n h e
spans-guard false m r k v s at a n h e = spans-refuse r k s at a n h e

-- a first field a of j bytes, which says how far the rest goes: k a
pub record First {A : Type 0} (m : Reader A) (j : ℕ) (k : A → ℕ) (s : List ℕ) (at n : ℕ) : Type 0 where
  pub field : A
  pub is_read : m s at ≡ got field (at + j)
  pub length-is : n ≡ at + (j + k field)
  pub within : n ≤ length s

first-go : {A B : Type 0} (m : Reader A) (f : A → Reader B) (j : ℕ) (k : A → ℕ) → Spans m j → ((a : A) → Spans (f a) (k a)) → (s : List ℕ) (at : ℕ) (b : B) (n : ℕ) → at ≤ length s → (r : Read A) → m s at ≡ r → and_then r (λ p. f p.value s p.next) ≡ got b n → First m j k s at n
first-go m f j k v w s at b n h (is p) q e =
    let x = v s at p.value p.next h q in
    let y = w p.value s p.next b n x.1 e in
    record { field = p.value; is_read = q ∙ ap (λ z. got p.value z) x.0; length-is = omega arith; within = y.1 }
first-go m f j k v w s at b n h (refused x) q e = not-refused _ x e

pub spans-first : {A B : Type 0} (m : Reader A) (f : A → Reader B) (j : ℕ) (k : A → ℕ) → Spans m j → ((a : A) → Spans (f a) (k a)) → (s : List ℕ) (at : ℕ) (b : B) (n : ℕ) → at ≤ length s → ◌>>=◌ m f s at ≡ got b n → First m j k s at n
spans-first m f j k v w s at b n h e = first-go m f j k v w s at b n h (m s at) refl e

-- ---- a reader that gives a value began within the bytes: so does one that begins with it
abbrev pub Starts : {A : Type 0} → Reader A → Type 0
Starts {A} m = (s : List ℕ) (at : ℕ) (a : A) (n : ℕ) → m s at ≡ got a n → at ≤ length s

starts-go : {A B : Type 0} (m : Reader A) (f : A → Reader B) → Starts m → (s : List ℕ) (at : ℕ) (b : B) (n : ℕ) (r : Read A) → m s at ≡ r → and_then r (λ p. f p.value s p.next) ≡ got b n → at ≤ length s
starts-go m f v s at b n (is p) q e = v s at p.value p.next q
starts-go m f v s at b n (refused x) q e = not-refused _ x e

pub starts-then : {A B : Type 0} (m : Reader A) (f : A → Reader B) → Starts m → Starts (◌>>=◌ m f)
starts-then m f v s at b n e = starts-go m f v s at b n (m s at) refl e

-- ---- the fields of numbers
byte-go : (s : List ℕ) (at a n : ℕ) (t : Bool) → ltb at (length s) ≡ t → choose t (got (get_or s at 0) (at + 1)) (refused 1) ≡ got a n → (n ≡ at + 1) × (n ≤ length s)
byte-go s at a n true q e =
    let z : at + 1 ≡ n = ap next_of e in
    let l : at < length s = ltb-true at (length s) q in
    omega arith
byte-go s at a n false q e = not-refused _ 1 e

pub spans-byte : Spans byte 1
unfolding byte
spans-byte s at a n h e = byte-go s at a n (ltb at (length s)) refl e

skip-go : (s : List ℕ) (k at n : ℕ) (a : Unit {0}) (t : Bool) → leb (at + k) (length s) ≡ t → choose t (got tt (at + k)) (refused 1) ≡ got a n → (n ≡ at + k) × (n ≤ length s)
skip-go s k at n a true q e =
    let z : at + k ≡ n = ap next_of e in
    let l : at + k ≤ length s = leb-true (at + k) (length s) q in
    omega arith
skip-go s k at n a false q e = not-refused _ 1 e

pub spans-skip : (k : ℕ) → Spans (skip k) k
unfolding skip
spans-skip k s at a n h e = skip-go s k at n a (leb (at + k) (length s)) refl e

pub starts-byte : Starts byte
unfolding byte
starts-byte s at a n e = omega (arith, byte-go s at a n (ltb at (length s)) refl e)

pub starts-be16 : Starts be16
unfolding be16
starts-be16 = starts-then byte (λ x. _) starts-byte

pub spans-be16 : Spans be16 2
unfolding be16
spans-be16 = spans-both byte byte (λ x y. _) 1 1 spans-byte spans-byte

pub spans-be32 : Spans be32 4
unfolding be32
spans-be32 = spans-both be16 be16 (λ x y. _) 2 2 spans-be16 spans-be16

pub spans-be64 : Spans be64 8
unfolding be64
spans-be64 = spans-both be32 be32 (λ x y. _) 4 4 spans-be32 spans-be32

pub spans-le16 : Spans le16 2
unfolding le16
spans-le16 = spans-both byte byte (λ x y. _) 1 1 spans-byte spans-byte

pub spans-le32 : Spans le32 4
unfolding le32
spans-le32 = spans-both le16 le16 (λ x y. _) 2 2 spans-le16 spans-le16

pub spans-le64 : Spans le64 8
unfolding le64
spans-le64 = spans-both le32 le32 (λ x y. _) 4 4 spans-le32 spans-le32
