-- What a reader gives. `Gives m P`: whatever m gives on bytes is P. Put together as the reader is.
use Prim.Native.Nat.{ℕ, ◌+◌, ◌*◌, ◌^◌, ◌<◌}
use native.Mathlib.Omega.{arith}
use mathlib.Core.List.{List}
use mathlib.Core.Bool.{Bool, true, false}
use mathlib.Core.Path.{◌≡◌, refl, ap, subst}
use lib.Dec.{ltb}
use lib.ListN.{length, get_or}
use Rattle.octets.specs.Read.{Answer, is, refused, Read, Reader, got, and_then, choose, branch, give, refuse, byte, be16, be32, ◌>>=◌, value_or}
use Rattle.octets.proofs.Spans.{not-refused}
use Rattle.iphc.specs.Iphc.{having}
use Rattle.iphc.specs.Shortest.{Bytes}

pub record Gives {A : Type 0} (m : Reader A) (P : A → Type 0) : Type 0 where
  pub so : (s : List ℕ) (at : ℕ) (a : A) (n : ℕ) → Bytes s → m s at ≡ got a n → P a

-- ---- as readers are put together
pub gives_all : {A : Type 0} {P : A → Type 0} (m : Reader A) → ((a : A) → P a) → Gives m P
gives_all m f = record { so = λ s at a n b e. f a }

pub gives-give : {A : Type 0} {P : A → Type 0} (x : A) → P x → Gives (give x) P
gives-give {P = P} x p = record { so = λ s at a n b e. subst P (ap (value_or x) e) p }

pub gives-refuse : {A : Type 0} {P : A → Type 0} (r : ℕ) → Gives (refuse r) P
gives-refuse r = record { so = λ s at a n b e. not-refused _ r e }

then-go : {A B : Type 0} {P : A → Type 0} {Q : B → Type 0} (m : Reader A) (f : A → Reader B) → Gives m P → ((a : A) → P a → Gives (f a) Q) → (s : List ℕ) (at : ℕ) (b : B) (n : ℕ) → Bytes s → (r : Read A) → m s at ≡ r → and_then r (λ p. f p.value s p.next) ≡ got b n → Q b
then-go m f v w s at b n y (is p) q e = (w p.value (v.so s at p.value p.next y q)).so s p.next b n y e
then-go m f v w s at b n y (refused x) q e = not-refused _ x e

pub gives_then : {A B : Type 0} {P : A → Type 0} {Q : B → Type 0} (m : Reader A) (f : A → Reader B) → Gives m P → ((a : A) → P a → Gives (f a) Q) → Gives (◌>>=◌ m f) Q
gives_then m f v w = record { so = λ s at b n y e. then-go m f v w s at b n y (m s at) refl e }

pub gives-map : {A B : Type 0} {P : A → Type 0} {Q : B → Type 0} (m : Reader A) (f : A → B) → Gives m P → ((a : A) → P a → Q (f a)) → Gives (◌>>=◌ m (λ a. give (f a))) Q
gives-map m f v h = gives_then m (λ a. give (f a)) v (λ a p. gives-give (f a) (h a p))

pub gives_both : {A B C : Type 0} {P : A → Type 0} {Q : B → Type 0} {R : C → Type 0} (m : Reader A) (k : Reader B) (f : A → B → C) → Gives m P → Gives k Q → ((a : A) (b : B) → P a → Q b → R (f a b)) → Gives (◌>>=◌ m (λ a. ◌>>=◌ k (λ b. give (f a b)))) R
gives_both m k f v w h = gives_then m (λ a. ◌>>=◌ k (λ b. give (f a b))) v (λ a p. gives-map k (f a) w (λ b q. h a b p q))

pub gives-either : {A : Type 0} {P : A → Type 0} (t : Bool) (m f : Reader A) → Gives m P → Gives f P → Gives (branch t m f) P
gives-either true m f v w = v
gives-either false m f v w = w

pub gives-having : {A B : Type 0} {P : B → Type 0} (m : Answer A) (k : A → Reader B) → ((x : A) → m ≡ is x → Gives (k x) P) → Gives (having m k) P
gives-having (is x) k f = f x refl
gives-having (refused r) k f = gives-refuse r

-- ---- the fields of numbers are below their sizes
byte-go : (s : List ℕ) (at a n : ℕ) (t : Bool) → Bytes s → choose t (got (get_or s at 0) (at + 1)) (refused 1) ≡ got a n → a < 256
byte-go s at a n true b e = subst (λ z. z < 256) (ap (value_or 0) e) (b at)
byte-go s at a n false b e = not-refused _ 1 e

pub gives-byte : Gives byte (λ x. x < 256)
unfolding byte
gives-byte = record { so = λ s at a n b e. byte-go s at a n (ltb at (length s)) b e }

pub gives-be16 : Gives be16 (λ x. x < 2 ^ 16)
unfolding be16
gives-be16 = gives_both byte byte (λ x y. x * 256 + y) gives-byte gives-byte (λ x y p q. omega arith)

pub gives-be32 : Gives be32 (λ x. x < 2 ^ 32)
unfolding be32
gives-be32 = gives_both be16 be16 (λ x y. x * 2 ^ 16 + y) gives-be16 gives-be16 (λ x y p q. omega arith)
