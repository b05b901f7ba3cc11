-- A reader gives back what a writer wrote. `Reads m bs x`: wherever the bytes bs stand, the reader m gives x and passes over just bs.
-- A round trip is put together as the reader and the bytes are, field by field.
use Prim.Native.Nat.{ℕ, ◌+◌, ◌*◌, ◌/◌, ◌%◌, ◌^◌, ◌≤◌, ◌<◌}
use native.Mathlib.Nat.{add-zero, zero-add}
use native.Mathlib.Omega.{arith}
use mathlib.Core.List.{List, [], ◌∷◌, ◌++◌, append_assoc, append-nil}
use mathlib.Core.Bool.{Bool, true, false}
use mathlib.Core.Path.{◌≡◌, refl, sym, ap, subst, ◌∙◌}
use lib.ListN.{length, drop, length-append}
use lib.Seq.{get_or_at}
use lib.Dec.{eqb}
use borrow.Author.Tests.{lt-ltb, le-leb, eq-eqb}
use Rattle.octets.specs.Read.{Reader, got, branch, ◌>>=◌, give, refuse, byte, be16, be32, be64, le16, le32, le64}
use Rattle.octets.specs.Write.{over, byte_bytes, be16_bytes, be32_bytes, be64_bytes, le16_bytes, le32_bytes, le64_bytes}

abbrev pub Reads : {A : Type 0} → Reader A → List ℕ → A → Type 0
Reads m bs x = (p q : List ℕ) (n : ℕ) → length p ≡ n → m (p ++ (bs ++ q)) n ≡ got x (n + length bs)

pub reads_then : {A B : Type 0} (m : Reader A) (k : A → Reader B) (cs bs : List ℕ) (x : A) (y : B) → Reads m cs x → Reads (k x) bs y → Reads (◌>>=◌ m k) (cs ++ bs) y
reads_then m k cs bs x y f g p q n e =
    let l : ℕ = n + length cs in
    let h : length (p ++ cs) ≡ l = length-append p cs ∙ ap (λ z. z + length cs) e in
    let d : l + length bs ≡ n + length (cs ++ bs) = omega (arith, length-append cs bs) in
    rw (append_assoc cs bs q, f p (bs ++ q) n e) (rw (← append_assoc p cs (bs ++ q), g (p ++ cs) q l h, d) refl)

-- what follows takes no bytes
pub reads-last : {A B : Type 0} (m : Reader A) (k : A → Reader B) (bs : List ℕ) (x : A) (y : B) → Reads m bs x → Reads (k x) [] y → Reads (◌>>=◌ m k) bs y
reads-last m k bs x y f g = subst (λ z. Reads (◌>>=◌ m k) z y) (append-nil bs) (reads_then m k bs [] x y f g)

-- one reader or another, by a test
pub reads-if : {A : Type 0} (t : Bool) (m k : Reader A) (bs : List ℕ) (x : A) → t ≡ true → Reads m bs x → Reads (branch t m k) bs x
reads-if t m k bs x h r p q n e = rw h (r p q n e)

pub reads-if-not : {A : Type 0} (t : Bool) (m k : Reader A) (bs : List ℕ) (x : A) → t ≡ false → Reads k bs x → Reads (branch t m k) bs x
reads-if-not t m k bs x h r p q n e = rw h (r p q n e)

-- the value under another name
pub reads_as : {A : Type 0} (m : Reader A) (bs : List ℕ) (x y : A) → x ≡ y → Reads m bs x → Reads m bs y
reads_as m bs x y h r = subst (Reads m bs) h r

pub reads-map : {A B : Type 0} (m : Reader A) (f : A → B) (bs : List ℕ) (x : A) → Reads m bs x → Reads (◌>>=◌ m (λ a. give (f a))) bs (f x)
reads-map m f bs x r p q n e = rw (r p q n e)

pub reads-give : {A : Type 0} (x : A) → Reads (give x) [] x
reads-give x p q n e = ap (λ z. got x z) (sym (add-zero n))

-- at the front of the room that a writer of bs leaves
pub emit-then-read : {A : Type 0} (m : Reader A) (bs : List ℕ) (x : A) (n : ℕ) (room : List ℕ) → Reads m bs x → length bs ≡ n → n ≤ length room → m (over n bs room) 0 ≡ got x n
emit-then-read m bs x n room r l h = rw (le-leb n (length room) h) (r [] (drop n room) 0 refl ∙ ap (λ k. got x k) (zero-add (length bs) ∙ l))

pub reads_byte : (x : ℕ) → Reads byte (byte_bytes x) x
unfolding byte byte_bytes
reads_byte x p q n e =
    let h : n < length (p ++ x ∷ q) = omega (arith, length-append p (x ∷ q)) in
    rw (lt-ltb n (length (p ++ x ∷ q)) h) (ap (λ z. got z (n + 1)) (get_or_at p x q 0 n e))

-- two fields, made into one value
pub reads_both : {A B C : Type 0} (m : Reader A) (k : Reader B) (f : A → B → C) (cs bs : List ℕ) (x : A) (y : B) → Reads m cs x → Reads k bs y → Reads (◌>>=◌ m (λ a. ◌>>=◌ k (λ b. give (f a b)))) (cs ++ bs) (f x y)
reads_both m k f cs bs x y r t = reads_then m (λ a. ◌>>=◌ k (λ b. give (f a b))) cs bs x (f x y) r (reads-map k (f x) bs y t)

-- a first byte b whose test holds, then what it announces
pub reads_first : {A : Type 0} (b d e : ℕ) (k : ℕ → Reader A) (t : ℕ → ℕ) (bs : List ℕ) (x : A) → t b ≡ d → Reads (k b) bs x → Reads (◌>>=◌ byte (λ a. branch (eqb (t a) d) (k a) (refuse e))) (byte_bytes b ++ bs) x
reads_first b d e k t bs x h r =
    reads_then byte (λ a. branch (eqb (t a) d) (k a) (refuse e)) (byte_bytes b) bs b x (reads_byte b)
    (reads-if (eqb (t b) d) (k b) (refuse e) bs x (eq-eqb (t b) d h) r)

-- two fields of one kind, made into one number
reads_two : (m : Reader ℕ) (f : ℕ → ℕ → ℕ) (cs bs : List ℕ) (x y z : ℕ) → f x y ≡ z → Reads m cs x → Reads m bs y → Reads (◌>>=◌ m (λ a. ◌>>=◌ m (λ b. give (f a b)))) (cs ++ bs) z
reads_two m f cs bs x y z e r s = reads_as (◌>>=◌ m (λ a. ◌>>=◌ m (λ b. give (f a b)))) (cs ++ bs) (f x y) z e (reads_both m m f cs bs x y r s)

pub reads-be16 : (x : ℕ) → Reads be16 (be16_bytes x) x
unfolding be16 be16_bytes byte_bytes
reads-be16 x = reads_two byte (λ hi lo. hi * 256 + lo) (byte_bytes (x / 256)) (byte_bytes (x % 256)) _ _ x (omega arith) (reads_byte (x / 256)) (reads_byte (x % 256))

pub reads-be32 : (x : ℕ) → Reads be32 (be32_bytes x) x
unfolding be32 be32_bytes
reads-be32 x = reads_two be16 (λ hi lo. hi * 2 ^ 16 + lo) (be16_bytes (x / 2 ^ 16)) (be16_bytes (x % 2 ^ 16)) _ _ x (omega arith) (reads-be16 (x / 2 ^ 16)) (reads-be16 (x % 2 ^ 16))

pub reads-be64 : (x : ℕ) → Reads be64 (be64_bytes x) x
unfolding be64 be64_bytes
reads-be64 x = reads_two be32 (λ hi lo. hi * 2 ^ 32 + lo) (be32_bytes (x / 2 ^ 32)) (be32_bytes (x % 2 ^ 32)) _ _ x (omega arith) (reads-be32 (x / 2 ^ 32)) (reads-be32 (x % 2 ^ 32))

pub reads-le16 : (x : ℕ) → Reads le16 (le16_bytes x) x
unfolding le16 le16_bytes byte_bytes
reads-le16 x = reads_two byte (λ lo hi. lo + hi * 256) (byte_bytes (x % 256)) (byte_bytes (x / 256)) _ _ x (omega arith) (reads_byte (x % 256)) (reads_byte (x / 256))

pub reads-le32 : (x : ℕ) → Reads le32 (le32_bytes x) x
unfolding le32 le32_bytes
reads-le32 x = reads_two le16 (λ lo hi. lo + hi * 2 ^ 16) (le16_bytes (x % 2 ^ 16)) (le16_bytes (x / 2 ^ 16)) _ _ x (omega arith) (reads-le16 (x % 2 ^ 16)) (reads-le16 (x / 2 ^ 16))

pub reads-le64 : (x : ℕ) → Reads le64 (le64_bytes x) x
unfolding le64 le64_bytes
reads-le64 x = reads_two le32 (λ lo hi. lo + hi * 2 ^ 32) (le32_bytes (x % 2 ^ 32)) (le32_bytes (x / 2 ^ 32)) _ _ x (omega arith) (reads-le32 (x % 2 ^ 32)) (reads-le32 (x / 2 ^ 32))
