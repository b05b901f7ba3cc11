-- The laws behind the readers of `field`.
use Rattle.std.proofs.Common.{◌≡◌, ℕ, suc, ◌+◌, ◌-◌, ◌*◌, ◌/◌, ◌%◌, ◌^◌, ◌<◌, ◌≤◌, Bool, true, false, ◌&&◌, eqb, ltb, leb, List, [], ◌∷◌, length, get_or, take, drop, set, sym, refl, ap, ◌∙◌, add-zero, add-one, arith, length-drop, drop_of_length-le, get_or-drop, take_all, drop-cons, drop-drop, ltb-false, ltb-true, le-ltb, lt-ltb, eq-eqb, ne_eqb, eqb-true, le-leb, leb-true}
use native.Mathlib.Nat.{sub-zero}
use lib.ListN.{get_or-eq_default}
use lib.Bits.{bit_or, or_lt, or_add_and, and_le_l, and_le_r}
use borrow.Author.Tests.{lt-leb, eqb-false}
use Rattle.octets.specs.Read.{choose}
use Rattle.octets.specs.Write.{put}
use Rattle.text.specs.Bytes.{index_of, index_after}
use Rattle.std.specs.Prelude.{None, Some}
use Rattle.std.specs.declared.option.Option.{Option}
use Rattle.text.specs.Fields.{part_of, behind_of, nibble_of, strays, hex_of, hex_at, digits_at, decimal_of, end_of, number_at, decimal_at, count_of, pairs_of, stray_pairs, pairs_in, are_pairs, bytes_at, room_after}

pub past : (s : List ℕ) (i : ℕ) → length s ≤ i → 0 ≡ get_or s i 0
past s i h = sym (get_or-eq_default s 0 h)

-- ---- the place behind a field
pub at-space : (line : List ℕ) (end : ℕ) → end < length line → get_or line end 0 ≡ 32 → Some (end + 1) ≡ behind_of line end
unfolding behind_of
at-space line end h e = rw (ne_eqb end (length line) (λ p. omega (arith, p)), eq-eqb (get_or line end 0) 32 e) refl

pub at_other : (line : List ℕ) (end : ℕ) → end < length line → (get_or line end 0 ≡ 32 → ⊥) → None ≡ behind_of line end
unfolding behind_of
at_other line end h e = rw (ne_eqb end (length line) (λ p. omega (arith, p)), ne_eqb (get_or line end 0) 32 e) refl

pub at-end : (line : List ℕ) (end : ℕ) → end ≡ length line → Some (end + 1) ≡ behind_of line end
unfolding behind_of
at-end line end e = rw (eq-eqb end (length line) e) refl

pub beyond : (line : List ℕ) (end : ℕ) → length line ≤ end → (end ≡ length line → ⊥) → None ≡ behind_of line end
unfolding behind_of
beyond line end h f =
    let z : get_or line end 0 ≡ 0 = get_or-eq_default line 0 h in
    rw (ne_eqb end (length line) f, ne_eqb (get_or line end 0) 32 (λ p. omega (arith, p, z))) refl

-- ---- parts of a slice
pub front : (n : ℕ) (s : List ℕ) → take (n - 0) (drop 0 s) ≡ take n s
front n s = let e : n - 0 ≡ n = omega arith in ap (λ k. take k s) e

pub all_of : (n : ℕ) (s : List ℕ) → length s < n → s ≡ take n s
all_of n s h = sym (take_all n s (omega arith))

pub part_in : (from n : ℕ) (s : List ℕ) → from + n ≤ length s → take (from + n - from) (drop from s) ≡ part_of from n s
unfolding part_of
part_in from n s h =
    let e : from + n - from ≡ n = omega arith in
    rw (le-leb (from + n) (length s) h, e) refl

pub part_out : (from n : ℕ) (s : List ℕ) → length s < from + n → [] ≡ part_of from n s
unfolding part_of
part_out from n s h = rw (lt-leb (from + n) (length s) h) refl

-- ---- the value of a digit
within : (lo b hi : ℕ) → lo ≤ b → b ≤ hi → (leb lo b && leb b hi) ≡ true
within lo b hi h g = rw (le-leb lo b h, le-leb b hi g) refl

outside-go : (p q : Bool) → (p ≡ true → q ≡ true → ⊥) → (p && q) ≡ false
outside-go true true f = absurd (f refl refl)
outside-go true false f = refl
outside-go false q f = refl

outside : (lo b hi : ℕ) → (lo ≤ b → b ≤ hi → ⊥) → (leb lo b && leb b hi) ≡ false
outside lo b hi f = outside-go (leb lo b) (leb b hi) (λ e g. f (leb-true lo b e) (leb-true b hi g))

pub is-letter : (b : ℕ) → b < 256 → (b + 159) % 256 < 6 → (b + 159) % 256 + 10 ≡ nibble_of b
unfolding nibble_of
is-letter b l h = rw (within 97 b 102 (omega arith) (omega arith)) (omega arith)

pub is-decimal : (b : ℕ) → b < 256 → 6 ≤ (b + 159) % 256 → (b + 208) % 256 < 10 → (b + 208) % 256 ≡ nibble_of b
unfolding nibble_of
is-decimal b l h g = rw (outside 97 b 102 (λ p q. omega (arith, p, q)), within 48 b 57 (omega arith) (omega arith)) (omega arith)

pub is-stray : (b : ℕ) → b < 256 → 6 ≤ (b + 159) % 256 → 10 ≤ (b + 208) % 256 → 16 ≡ nibble_of b
unfolding nibble_of
is-stray b l h g = rw (outside 97 b 102 (λ p q. omega (arith, p, q)), outside 48 b 57 (λ p q. omega (arith, p, q))) refl

small-go : (p q : Bool) (b : ℕ) → (p ≡ true → b ≤ 102) → (q ≡ true → b ≤ 57) → choose p (b - 87) (choose q (b - 48) 16) ≤ 16
small-go true q b f g = let h : b ≤ 102 = f refl in omega arith
small-go false true b f g = let h : b ≤ 57 = g refl in omega arith
small-go false false b f g = omega arith

second : (p q : Bool) → (p && q) ≡ true → q ≡ true
second true q e = e
second false q e = cc

pub nibble-small : (b : ℕ) → nibble_of b ≤ 16
unfolding nibble_of
nibble-small b =
    small-go (leb 97 b && leb b 102) (leb 48 b && leb b 57) b
    (λ e. leb-true b 102 (second (leb 97 b) (leb b 102) e))
    (λ e. leb-true b 57 (second (leb 48 b) (leb b 57) e))

-- ---- digits joined bit by bit: below 16 where none is a stray byte's 16
-- the stray bytes that are left to count, where those before are joined to w
abbrev pub uncounted : ℕ → ℕ → ℕ
uncounted w t = choose (ltb w 16) t 1

joins-go : (x w d t : ℕ) (p q : Bool) → ltb w 16 ≡ p → ltb d 16 ≡ q → d ≤ 16 → w ≤ x → d ≤ x → (w < 16 → d < 16 → x < 16) → eqb (uncounted x t) 0 ≡ eqb (uncounted w (d / 16 + t)) 0
joins-go x w d t true true e g h i j f =
    let m : d / 16 + t ≡ t = omega (arith, ltb-true d 16 g) in
    rw (lt-ltb x 16 (f (ltb-true w 16 e) (ltb-true d 16 g)), e, m) refl
joins-go x w d t true false e g h i j f =
    rw (le-ltb x 16 (omega (arith, ltb-false d 16 g)), e) (sym (ne_eqb (d / 16 + t) 0 (λ z. omega (arith, z, ltb-false d 16 g))))
joins-go x w d t false q e g h i j f = rw (le-ltb x 16 (omega (arith, ltb-false w 16 e)), e) refl

pub joins : (w d t : ℕ) → d ≤ 16 → eqb (uncounted (bit_or w d) t) 0 ≡ eqb (uncounted w (d / 16 + t)) 0
joins w d t h =
    joins-go (bit_or w d) w d t (ltb w 16) (ltb d 16) refl refl h
    (omega (arith, or_add_and w d, and_le_r w d))
    (omega (arith, or_add_and w d, and_le_l w d))
    (λ p q. or_lt 4 w d p q)

pub counted : (w k : ℕ) → eqb (uncounted w 0) 0 ≡ eqb k 0 → w < 16 → k ≡ 0
counted w k e h = let f : eqb k 0 ≡ true = sym e ∙ rw (lt-ltb w 16 h) refl in eqb-true k 0 f

pub some_left : (w k : ℕ) → eqb (uncounted w 0) 0 ≡ eqb k 0 → 16 ≤ w → k ≡ 0 → ⊥
some_left w k e h = let f : eqb k 0 ≡ false = sym e ∙ rw (le-ltb w 16 h) refl in eqb-false k 0 f

pub all-counted : (w k : ℕ) → eqb (uncounted w 0) 0 ≡ eqb k 0 → ltb w 16 ≡ eqb k 0
all-counted w k e = all_go (ltb w 16) (eqb k 0) e
  where
    all_go : (p q : Bool) → eqb (choose p 0 1) 0 ≡ q → p ≡ q
    all_go true q f = f
    all_go false q f = f

-- ---- a number of digits: what is read, and what is left to read
pub hex-step : (v i d : ℕ) (s : List ℕ) → i < length s → d ≡ nibble_of (get_or s i 0) → hex_of (v % 2 ^ 60 * 16 + d % 16) (drop (i + 1) s) ≡ hex_of v (drop i s)
unfolding hex_of
hex-step v i d s h e =
    ap (λ k. hex_of (v % 2 ^ 60 * 16 + d % 16) (drop k s)) (add-one i)
    ∙ ap (λ y. hex_of (v % 2 ^ 60 * 16 + y % 16) (drop (suc i) s)) e
    ∙ ap (hex_of v) (sym (drop-cons s i 0 h))

pub stray-step : (i d : ℕ) (s : List ℕ) → i < length s → d ≡ nibble_of (get_or s i 0) → d / 16 + strays (drop (i + 1) s) ≡ strays (drop i s)
unfolding strays
stray-step i d s h e =
    ap (λ k. d / 16 + strays (drop k s)) (add-one i)
    ∙ ap (λ y. y / 16 + strays (drop (suc i) s)) e
    ∙ ap strays (sym (drop-cons s i 0 h))

pub hex-done : (v i : ℕ) (s : List ℕ) → length s ≤ i → v ≡ hex_of v (drop i s)
unfolding hex_of
hex-done v i s h = ap (hex_of v) (sym (drop_of_length-le s h))

pub stray-done : (i : ℕ) (s : List ℕ) → length s ≤ i → 0 ≡ strays (drop i s)
unfolding strays
stray-done i s h = ap strays (sym (drop_of_length-le s h))

pub all_digits : (s : List ℕ) (v end : ℕ) → v ≡ hex_of 0 s → strays s ≡ 0 → Some (v, end) ≡ hex_at s end
unfolding hex_at
all_digits s v end e z = rw (eq-eqb (strays s) 0 z, e) refl

pub some-stray : (s : List ℕ) (end : ℕ) → (strays s ≡ 0 → ⊥) → None ≡ hex_at s end
unfolding hex_at
some-stray s end z = rw (ne_eqb (strays s) 0 z) refl

pub digits_in : (line : List ℕ) (from n : ℕ) → from + n ≤ length line → hex_at (take (from + n - from) (drop from line)) (from + n) ≡ digits_at line from n
unfolding digits_at
digits_in line from n h =
    let e : from + n - from ≡ n = omega arith in
    rw (le-leb (from + n) (length line) h, e) refl

pub digits-out : (line : List ℕ) (from n : ℕ) → length line < from + n → None ≡ digits_at line from n
unfolding digits_at
digits-out line from n h = rw (lt-leb (from + n) (length line) h) refl

-- ---- decimal digits
module _ (v i d end : ℕ) (s : List ℕ) (h : i < length s) (e : (d + 48) % 256 ≡ get_or s i 0) where
  one-digit : d ≤ 9 → choose (leb 48 (get_or s i 0) && leb (get_or s i 0) 57) (choose (ltb (v * 10 + (get_or s i 0 - 48)) (2 ^ 64)) (decimal_of (v * 10 + (get_or s i 0 - 48)) (drop (suc i) s) end) None) None ≡ choose (ltb (v * 10 + d) (2 ^ 64)) (decimal_of (v * 10 + d) (drop (suc i) s) end) None
  one-digit l =
      let m : get_or s i 0 - 48 ≡ d = omega arith in
      rw (within 48 (get_or s i 0) 57 (omega arith) (omega arith), m) refl

  pub decimal_step : d ≤ 9 → v * 10 + d < 2 ^ 64 → decimal_of (v * 10 + d) (drop (i + 1) s) end ≡ decimal_of v (drop i s) end
  unfolding decimal_of
  decimal_step l g =
      ap (λ k. decimal_of (v * 10 + d) (drop k s) end) (add-one i)
      ∙ sym (ap (λ t. choose t (decimal_of (v * 10 + d) (drop (suc i) s) end) None) (lt-ltb (v * 10 + d) (2 ^ 64) g))
      ∙ sym (one-digit l)
      ∙ ap (λ l. decimal_of v l end) (sym (drop-cons s i 0 h))

  pub decimal-large : d ≤ 9 → 2 ^ 64 ≤ v * 10 + d → None ≡ decimal_of v (drop i s) end
  unfolding decimal_of
  decimal-large l g =
      sym (ap (λ t. choose t (decimal_of (v * 10 + d) (drop (suc i) s) end) None) (le-ltb (v * 10 + d) (2 ^ 64) g))
      ∙ sym (one-digit l)
      ∙ ap (λ l. decimal_of v l end) (sym (drop-cons s i 0 h))

  pub decimal-stray : 9 < d → d < 256 → None ≡ decimal_of v (drop i s) end
  unfolding decimal_of
  decimal-stray l g =
      sym (ap (λ t. choose t (choose (ltb (v * 10 + (get_or s i 0 - 48)) (2 ^ 64)) (decimal_of (v * 10 + (get_or s i 0 - 48)) (drop (suc i) s) end) None) None) (outside 48 (get_or s i 0) 57 (λ p q. omega (arith, p, q))))
      ∙ ap (λ l. decimal_of v l end) (sym (drop-cons s i 0 h))

pub decimal-done : (v i end : ℕ) (s : List ℕ) → length s ≤ i → Some (v, end) ≡ decimal_of v (drop i s) end
unfolding decimal_of
decimal-done v i end s h = ap (λ l. decimal_of v l end) (sym (drop_of_length-le s h))

-- ---- a field of decimal digits
index-after-within : (t : Bool) (k n : ℕ) → k ≤ n → index_after t k ≤ suc n
unfolding index_after
index-after-within true k n h = omega arith
index-after-within false k n h = omega arith

pub index-within : (b : ℕ) (s : List ℕ) → index_of b s ≤ length s
unfolding index_of
index-within b [] = omega arith
index-within b (x ∷ s) = index-after-within (eqb x b) (index_of b s) (length s) (index-within b s)

pub end-within : (line : List ℕ) (from end : ℕ) → end ≡ from + index_of 32 (drop from line) → from < end → end ≤ length line
end-within line from end e h = omega (arith, e, index-within 32 (drop from line), length-drop from line)

pub word_ends : (line : List ℕ) (from : ℕ) → from ≤ length line → from + index_of 32 (drop from line) ≤ length line
word_ends line from h = omega (arith, index-within 32 (drop from line), length-drop from line)

pub decimal-in : (line : List ℕ) (from end : ℕ) → end ≡ from + index_of 32 (drop from line) → from < end → decimal_of 0 (take (end - from) (drop from line)) (end + 1) ≡ decimal_at line from
unfolding decimal_at end_of
decimal-in line from end e h = rw (← e, lt-ltb from end h) refl

pub decimal-out : (line : List ℕ) (from end : ℕ) → end ≡ from + index_of 32 (drop from line) → end ≤ from → None ≡ decimal_at line from
unfolding decimal_at end_of
decimal-out line from end e h = rw (← e, le-ltb from end h) refl

-- ---- pairs of digits: those that are put, and those that are left to put
module _ (n i hi lo : ℕ) (s : List ℕ) (h : i < n) (p : hi ≡ nibble_of (get_or s (i * 2) 0)) (q : lo ≡ nibble_of (get_or s (i * 2 + 1) 0)) where
  high : hi ≡ nibble_of (get_or (drop (i * 2) s) 0 0)
  high = p ∙ ap nibble_of (sym (get_or-drop (i * 2) s 0 0 ∙ ap (λ k. get_or s k 0) (add-zero (i * 2))))

  low : lo ≡ nibble_of (get_or (drop (i * 2) s) 1 0)
  low = q ∙ ap nibble_of (sym (get_or-drop (i * 2) s 1 0))

  left : n - i ≡ suc (n - (i + 1))
  left = omega (arith, h)

  behind-pair : drop ((i + 1) * 2) s ≡ drop 2 (drop (i * 2) s)
  behind-pair =
      let e : (i + 1) * 2 ≡ i * 2 + 2 = omega arith in
      ap (λ k. drop k s) e ∙ sym (drop-drop 2 (i * 2) s)

  pub pair_step : (room : List ℕ) → put (i + 1) (pairs_of (n - (i + 1)) (drop ((i + 1) * 2) s)) (set room i (hi % 16 * 16 + lo % 16)) ≡ put i (pairs_of (n - i) (drop (i * 2) s)) room
  unfolding put pairs_of
  pair_step room =
      ap (λ t. put (i + 1) (pairs_of (n - (i + 1)) t) (set room i (hi % 16 * 16 + lo % 16))) behind-pair
      ∙ ap (λ y. put (i + 1) (pairs_of (n - (i + 1)) (drop 2 (drop (i * 2) s))) (set room i (y % 16 * 16 + lo % 16))) high
      ∙ ap (λ y. put (i + 1) (pairs_of (n - (i + 1)) (drop 2 (drop (i * 2) s))) (set room i (nibble_of (get_or (drop (i * 2) s) 0 0) % 16 * 16 + y % 16))) low
      ∙ ap (λ k. put i (pairs_of k (drop (i * 2) s)) room) (sym left)

  pub stray-pair-step : hi / 16 + lo / 16 + stray_pairs (n - (i + 1)) (drop ((i + 1) * 2) s) ≡ stray_pairs (n - i) (drop (i * 2) s)
  unfolding stray_pairs
  stray-pair-step =
      ap (λ t. hi / 16 + lo / 16 + stray_pairs (n - (i + 1)) t) behind-pair
      ∙ ap (λ y. y / 16 + lo / 16 + stray_pairs (n - (i + 1)) (drop 2 (drop (i * 2) s))) high
      ∙ ap (λ y. nibble_of (get_or (drop (i * 2) s) 0 0) / 16 + y / 16 + stray_pairs (n - (i + 1)) (drop 2 (drop (i * 2) s))) low
      ∙ ap (λ k. stray_pairs k (drop (i * 2) s)) (sym left)

  pub pair-joins : (w : ℕ) → eqb (uncounted (bit_or (bit_or w hi) lo) (stray_pairs (n - (i + 1)) (drop ((i + 1) * 2) s))) 0 ≡ eqb (uncounted w (stray_pairs (n - i) (drop (i * 2) s))) 0
  pair-joins w =
      let t : ℕ = stray_pairs (n - (i + 1)) (drop ((i + 1) * 2) s) in
      let m : hi / 16 + (lo / 16 + t) ≡ stray_pairs (n - i) (drop (i * 2) s) = omega (arith, stray-pair-step) in
      joins (bit_or w hi) lo t (omega (arith, q, nibble-small (get_or s (i * 2 + 1) 0)))
      ∙ joins w hi (lo / 16 + t) (omega (arith, p, nibble-small (get_or s (i * 2) 0)))
      ∙ ap (λ k. eqb (uncounted w k) 0) m

pub pairs_start : (n : ℕ) (s room : List ℕ) → put 0 (pairs_of (n - 0) (drop (0 * 2) s)) room ≡ put 0 (pairs_of n s) room
pairs_start n s room = ap (λ k. put 0 (pairs_of k s) room) (sub-zero n)

pub strays-start : (n : ℕ) (s : List ℕ) → stray_pairs (n - 0) (drop (0 * 2) s) ≡ stray_pairs n s
strays-start n s = ap (λ k. stray_pairs k s) (sub-zero n)

pub pairs-done : (n i : ℕ) (s room : List ℕ) → n ≤ i → room ≡ put i (pairs_of (n - i) (drop (i * 2) s)) room
unfolding put pairs_of
pairs-done n i s room h =
    let z : 0 ≡ n - i = omega arith in
    ap (λ k. put i (pairs_of k (drop (i * 2) s)) room) z

pub strays-done : (n i : ℕ) (s : List ℕ) → n ≤ i → 0 ≡ stray_pairs (n - i) (drop (i * 2) s)
unfolding stray_pairs
strays-done n i s h =
    let z : 0 ≡ n - i = omega arith in
    ap (λ k. stray_pairs k (drop (i * 2) s)) z

module _ (n : ℕ) (s room : List ℕ) where
  pub no_room : length room < n → (false ≡ are_pairs n s room) × (room ≡ pairs_in n s room)
  unfolding are_pairs pairs_in
  no_room h = (rw (lt-leb n (length room) h) refl, rw (lt-leb n (length room) h) refl)

  pub no_pairs : n ≤ length room → length s / 2 < n → (false ≡ are_pairs n s room) × (room ≡ pairs_in n s room)
  unfolding are_pairs pairs_in
  no_pairs h g = (rw (le-leb n (length room) h, lt-leb n (length s / 2) g) refl, rw (le-leb n (length room) h, lt-leb n (length s / 2) g) refl)

  pub are-pairs : n ≤ length room → n ≤ length s / 2 → (t : Bool) → t ≡ eqb (stray_pairs n s) 0 → t ≡ are_pairs n s room
  unfolding are_pairs
  are-pairs h g t e = rw (le-leb n (length room) h, le-leb n (length s / 2) g) e

  pub pairs-in : n ≤ length room → n ≤ length s / 2 → put 0 (pairs_of n s) room ≡ pairs_in n s room
  unfolding pairs_in
  pairs-in h g = rw (le-leb n (length room) h, le-leb n (length s / 2) g) refl

-- ---- a field of bytes
pub bytes-end : (line : List ℕ) (from end : ℕ) → end ≡ from + index_of 32 (drop from line) → end ≡ end_of line from
unfolding end_of
bytes-end line from end e = e
