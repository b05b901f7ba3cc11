-- Parts of a list: what stands from a place on, and what fields and runs of zeros say of it, both ways.
use Prim.Native.Nat.{ℕ, zero, suc, ◌+◌, ◌*◌, ◌-◌, ◌/◌, ◌%◌, ◌^◌, ◌≤◌, ◌<◌}
use native.Mathlib.Numerals.{add-one}
use native.Mathlib.Omega.{arith}
use mathlib.Core.Path.{◌≡◌, refl, sym, ap, ap₂, ◌∙◌}
use mathlib.Core.List.{List, [], ◌∷◌, ◌++◌}
use mathlib.Core.Bool.{true}
use lib.Dec.{eqb}
use lib.ListN.{length, get_or, take, drop, replicate, take-append-drop, length-replicate}
use lib.Seq.{slice, get_or-drop, take_at, drop_at, drop-drop, drop-cons, take-add, length-take-le, length-slice}
use borrow.Author.Tests.{eqb-true}
use Rattle.octets.specs.Read.{Reader, le16, le32}
use Rattle.octets.specs.Write.{le16_bytes, le32_bytes}
use Rattle.octets.proofs.RoundTrip.{Reads, reads-le16, reads-le32}
use Rattle.octets.proofs.Steps.{and-true}
use Rattle.capture.specs.Block.{value_of, field, all_zero, zero_in}
use Rattle.capture.specs.Made.{Bytes}

module _ (s : List ℕ) (n : ℕ) where
  -- behind a part of m elements
  pub behind : (m : ℕ) (p q : List ℕ) → length p ≡ m → drop n s ≡ p ++ q → drop (n + m) s ≡ q
  behind m p q l e = sym (drop-drop m n s) ∙ ap (drop m) e ∙ drop_at p q m l

  -- m elements, and then the rest
  pub split : (m : ℕ) → drop n s ≡ take m (drop n s) ++ drop (n + m) s
  split m = sym (take-append-drop m (drop n s)) ∙ ap (λ (l : List ℕ). take m (drop n s) ++ l) (drop-drop m n s)

  pub one_more : n < length s → drop n s ≡ get_or s n 0 ∷ drop (n + 1) s
  one_more h = drop-cons s n 0 h ∙ ap (λ (k : ℕ). get_or s n 0 ∷ drop k s) (sym (add-one n))

  pub field_at : (m : Reader ℕ) (bs q : List ℕ) (x : ℕ) → Reads m bs x → n ≤ length s → drop n s ≡ bs ++ q → field m n s ≡ x
  field_at m bs q x r h e =
      let f : take n s ++ (bs ++ q) ≡ s = ap (λ (l : List ℕ). take n s ++ l) (sym e) ∙ take-append-drop n s in
      ap (λ (l : List ℕ). value_of (m l n)) (sym f) ∙ ap value_of (r (take n s) q n (length-take-le n s h))

-- ---- numbers
two_back : (a b : ℕ) → a < 256 → b < 256 → a ∷ b ∷ [] ≡ le16_bytes (a + b * 256)
unfolding le16_bytes
two_back a b h k =
    let p : a ≡ (a + b * 256) % 256 = omega arith in
    let q : b ≡ (a + b * 256) / 256 = omega arith in
    ap₂ (λ (x y : ℕ). x ∷ y ∷ []) p q

four-back : (a b c d : ℕ) → a < 256 → b < 256 → c < 256 → d < 256 → a ∷ b ∷ c ∷ d ∷ [] ≡ le32_bytes (a + b * 256 + (c + d * 256) * 2 ^ 16)
unfolding le32_bytes
four-back a b c d ha hb hc hd =
    let p : a + b * 256 ≡ (a + b * 256 + (c + d * 256) * 2 ^ 16) % 2 ^ 16 = omega arith in
    let q : c + d * 256 ≡ (a + b * 256 + (c + d * 256) * 2 ^ 16) / 2 ^ 16 = omega arith in
    ap₂ ◌++◌ (two_back a b ha hb ∙ ap le16_bytes p) (two_back c d hc hd ∙ ap le16_bytes q)

module _ (s : List ℕ) (n : ℕ) (y : Bytes s) where
  two : n + 2 ≤ length s → drop n s ≡ get_or s n 0 ∷ get_or s (n + 1) 0 ∷ drop (n + 1 + 1) s
  two h =
      let g : n < length s = omega arith in
      let k : n + 1 < length s = omega arith in
      one_more s n g ∙ ap (λ (l : List ℕ). get_or s n 0 ∷ l) (one_more s (n + 1) k)

  -- the bytes of a field that was read
  pub word_back : n + 2 ≤ length s → drop n s ≡ le16_bytes (field le16 n s) ++ drop (n + 2) s
  word_back h =
      let k : n + 1 + 1 ≡ n + 2 = omega arith in
      let x : ℕ = get_or s n 0 + get_or s (n + 1) 0 * 256 in
      let e = two h ∙ ap₂ ◌++◌ (two_back (get_or s n 0) (get_or s (n + 1) 0) (y n) (y (n + 1))) (ap (λ (z : ℕ). drop z s) k) in
      e ∙ ap (λ (z : ℕ). le16_bytes z ++ drop (n + 2) s) (sym (field_at s n le16 (le16_bytes x) (drop (n + 2) s) x (reads-le16 x) (omega arith) e))

module _ (s : List ℕ) (n : ℕ) (y : Bytes s) (h : n + 4 ≤ length s) where
  wide : ℕ
  wide = get_or s n 0 + get_or s (n + 1) 0 * 256 + (get_or s (n + 1 + 1) 0 + get_or s (n + 1 + 1 + 1) 0 * 256) * 2 ^ 16

  wide-bytes : drop n s ≡ le32_bytes wide ++ drop (n + 4) s
  unfolding wide
  wide-bytes =
      let k : n + 1 + 1 + 1 + 1 ≡ n + 4 = omega arith in
      let i : n + 2 ≤ length s = omega arith in
      let j : n + 1 + 1 + 2 ≤ length s = omega arith in
      two s n y i
      ∙ ap (λ (l : List ℕ). get_or s n 0 ∷ get_or s (n + 1) 0 ∷ l) (two s (n + 1 + 1) y j)
      ∙ ap₂ ◌++◌ (four-back _ _ _ _ (y n) (y (n + 1)) (y (n + 1 + 1)) (y (n + 1 + 1 + 1))) (ap (λ (z : ℕ). drop z s) k)

  wide_is : field le32 n s ≡ wide
  wide_is = field_at s n le32 (le32_bytes wide) (drop (n + 4) s) wide (reads-le32 wide) (omega arith) wide-bytes

  pub wide_back : drop n s ≡ le32_bytes (field le32 n s) ++ drop (n + 4) s
  wide_back = wide-bytes ∙ ap (λ (z : ℕ). le32_bytes z ++ drop (n + 4) s) (sym wide_is)

  pub wide-small : field le32 n s < 2 ^ 32
  unfolding wide
  wide-small = omega (arith, wide_is, y n, y (n + 1), y (n + 1 + 1), y (n + 1 + 1 + 1))

-- ---- zeros
zero-all : (m : ℕ) → all_zero (replicate m 0) ≡ true
unfolding all_zero
zero-all zero = refl
zero-all (suc m) = zero-all m

all_back : (l : List ℕ) → all_zero l ≡ true → l ≡ replicate (length l) 0
unfolding all_zero
all_back [] h = refl
all_back (b ∷ l) h =
    let p = and-true (eqb b 0) (all_zero l) h in
    ap₂ ◌∷◌ (eqb-true b 0 p.0) (all_back l p.1)

module _ (s : List ℕ) (f t m : ℕ) (e : t ≡ f + m) where
  part_of : f ≤ length s → slice f t s ≡ take m (drop f s)
  part_of h = rw e (ap (drop f) (take-add f m s) ∙ drop_at (take f s) (take m (drop f s)) f (length-take-le f s h))

  pub zeros-at : (q : List ℕ) → f ≤ length s → drop f s ≡ replicate m 0 ++ q → zero_in f t s ≡ true
  zeros-at q h d = ap all_zero (part_of h ∙ ap (take m) d ∙ take_at (replicate m 0) q m (length-replicate m 0)) ∙ zero-all m

  pub zeros-back : t ≤ length s → zero_in f t s ≡ true → drop f s ≡ replicate m 0 ++ drop t s
  zeros-back h z =
      let g : f ≤ length s = omega arith in
      let k : t - f ≡ m = omega arith in
      let p : take m (drop f s) ≡ replicate m 0 = sym (part_of g) ∙ all_back (slice f t s) z ∙ ap (λ (x : ℕ). replicate x 0) (length-slice f t s h ∙ k) in
      split s f m ∙ ap₂ (λ (l : List ℕ) (x : ℕ). l ++ drop x s) p (sym e)

-- ---- bytes
pub bytes-append : (p q : List ℕ) → Bytes p → Bytes q → Bytes (p ++ q)
bytes-append [] q x y i = y i
bytes-append (a ∷ p) q x y zero = x 0
bytes-append (a ∷ p) q x y (suc i) = bytes-append p q (λ j. x (suc j)) y i

pub bytes-nil : Bytes []
bytes-nil i = omega arith

pub bytes-cons : (a : ℕ) (q : List ℕ) → a < 256 → Bytes q → Bytes (a ∷ q)
bytes-cons a q h y zero = h
bytes-cons a q h y (suc i) = y i

pub bytes-zeros : (m : ℕ) → Bytes (replicate m 0)
bytes-zeros zero i = omega arith
bytes-zeros (suc m) zero = omega arith
bytes-zeros (suc m) (suc i) = bytes-zeros m i

pub bytes_take : (m : ℕ) (l : List ℕ) → Bytes l → Bytes (take m l)
bytes_take zero l y i = omega arith
bytes_take (suc m) [] y i = omega arith
bytes_take (suc m) (a ∷ l) y zero = y 0
bytes_take (suc m) (a ∷ l) y (suc i) = bytes_take m l (λ j. y (suc j)) i

pub bytes_drop : (m : ℕ) (l : List ℕ) → Bytes l → Bytes (drop m l)
bytes_drop m l y i = rw (get_or-drop m l i 0) (y (m + i))

pub bytes-16 : (x : ℕ) → x < 2 ^ 16 → Bytes (le16_bytes x)
unfolding le16_bytes
bytes-16 x h = bytes-cons (x % 256) (x / 256 ∷ []) (omega arith) (bytes-cons (x / 256) [] (omega arith) bytes-nil)

pub bytes-32 : (x : ℕ) → x < 2 ^ 32 → Bytes (le32_bytes x)
unfolding le32_bytes
bytes-32 x h = bytes-append (le16_bytes (x % 2 ^ 16)) (le16_bytes (x / 2 ^ 16)) (bytes-16 (x % 2 ^ 16) (omega arith)) (bytes-16 (x / 2 ^ 16) (omega arith))
