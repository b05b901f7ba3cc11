-- The ones' complement sum is the plain sum of the words brought into 0 .. 65535, and the plain sum goes piece by piece.
use Prim.Native.Nat.{ℕ, zero, suc, ◌+◌, ◌-◌, ◌*◌, ◌/◌, ◌%◌, ◌^◌, ◌≤◌, ◌<◌}
use native.Mathlib.Nat.{zero-add, add-zero, sub-zero}
use native.Mathlib.Omega.{arith}
use mathlib.Core.List.{List, [], ◌∷◌, ◌++◌, append_assoc}
use mathlib.Core.Bool.{Bool, true, false, ◌&&◌}
use mathlib.Core.Path.{◌≡◌, refl, sym, ap, ◌∙◌}
use lib.ListN.{length, get_or, take, drop, drop_of_length-le, length-append, length-take, length-drop, take-append-drop}
use lib.Seq.{drop-cons, get_or-drop, drop-drop, take-add, take_all, take_at, drop_at}
use lib.Dec.{ltb, leb}
use borrow.Author.Tests.{ltb-true, ltb-false, leb-true, le-leb, lt-leb, eq-eqb, ne_eqb}
use Rattle.octets.specs.Read.{choose}
use Rattle.octets.specs.Write.{put, be16_bytes, be32_bytes}
use Rattle.octets.proofs.Steps.{and-true}
use Rattle.expand.specs.Sum.{words, plus, ones_sum, pseudo, covered, udp_checksum, summed, seen, checksum_at, summed_at, was_elided, stands, summed_by, summed_in, sum_words}
use Rattle.expand.specs.declared.checksum.UdpSum.{UdpSum}
use Rattle.expand.proofs.CopyLaws.{put-front-part, length-put}

-- ---- the plain sum, word by word
pub words-none : (s : List ℕ) (i : ℕ) → length s ≤ i → sum_words (drop i s) ≡ 0
unfolding sum_words
words-none s i h = rw (drop_of_length-le s h) refl

pub words_last : (s : List ℕ) (i : ℕ) → i + 1 ≡ length s → sum_words (drop i s) ≡ get_or s i 0 * 256
unfolding sum_words
words_last s i h =
    let n : length s ≤ suc i = omega arith in
    rw (drop-cons s i 0 (omega arith), drop_of_length-le s n) refl

pub words_step : (s : List ℕ) (i : ℕ) → i + 1 < length s → sum_words (drop i s) ≡ get_or s i 0 * 256 + get_or s (i + 1) 0 + sum_words (drop (i + 2) s)
unfolding sum_words
words_step s i h =
    let e : suc i ≡ i + 1 = omega arith in
    let f : suc (i + 1) ≡ i + 2 = omega arith in
    rw (drop-cons s i 0 (omega arith), e, drop-cons s (i + 1) 0 h, f) refl

-- pieces of whole words
sum-append : (x y : List ℕ) → length x % 2 ≡ 0 → sum_words (x ++ y) ≡ sum_words x + sum_words y
unfolding sum_words
sum-append [] y h = sym (zero-add (sum_words y))
sum-append (a ∷ []) y h = absurd (omega arith)
sum-append (a ∷ b ∷ x) y h = rw (sum-append x y (omega arith)) (omega arith)

-- ---- bytes
abbrev pub Bytes : List ℕ → Type 0
Bytes s = (i : ℕ) → get_or s i 0 < 256

pub bytes-nil : Bytes []
bytes-nil i = omega arith

pub bytes-cons : (a : ℕ) (s : List ℕ) → a < 256 → Bytes s → Bytes (a ∷ s)
bytes-cons a s h b zero = h
bytes-cons a s h b (suc i) = b i

pub bytes-append : (x y : List ℕ) → Bytes x → Bytes y → Bytes (x ++ y)
bytes-append [] y b d i = d i
bytes-append (a ∷ x) y b d zero = b 0
bytes-append (a ∷ x) y b d (suc i) = bytes-append x y (λ j. b (suc j)) d i

pub bytes_take : (n : ℕ) (s : List ℕ) → Bytes s → Bytes (take n s)
bytes_take zero s b i = omega arith
bytes_take (suc n) [] b i = omega arith
bytes_take (suc n) (a ∷ s) b zero = b 0
bytes_take (suc n) (a ∷ s) b (suc i) = bytes_take n s (λ j. b (suc j)) i

pub bytes_drop : (n : ℕ) (s : List ℕ) → Bytes s → Bytes (drop n s)
bytes_drop n s b i = rw (get_or-drop n s i 0) (b (n + i))

pub bytes-be16 : (x : ℕ) → x < 2 ^ 16 → Bytes (be16_bytes x)
unfolding be16_bytes
bytes-be16 x h = bytes-cons (x / 256) (x % 256 ∷ []) (omega arith) (bytes-cons (x % 256) [] (omega arith) bytes-nil)

bytes-be32 : (x : ℕ) → x < 2 ^ 16 → Bytes (be32_bytes x)
unfolding be32_bytes
bytes-be32 x h = bytes-append (be16_bytes (x / 2 ^ 16)) (be16_bytes (x % 2 ^ 16)) (bytes-be16 (x / 2 ^ 16) (omega arith)) (bytes-be16 (x % 2 ^ 16) (omega arith))

-- ---- n brought into 0 .. 65535: 65535 is taken off until that is so
abbrev pub norm : ℕ → ℕ
norm n = n - 65535 * ((n - 1) / 65535)

plus-norm : (w n : ℕ) → w ≤ 65535 → plus w (norm n) ≡ norm (w + n)
plus-norm w n h = go (ltb (w + norm n) (2 ^ 16)) refl
  where
    go : (b : Bool) → ltb (w + norm n) (2 ^ 16) ≡ b → choose b (w + norm n) (w + norm n - 2 ^ 16 + 1) ≡ norm (w + n)
    go true e = omega (arith, ltb-true (w + norm n) (2 ^ 16) e)
    go false e = omega (arith, ltb-false (w + norm n) (2 ^ 16) e)

pub ones-norm : (s : List ℕ) → Bytes s → ones_sum (words s) ≡ norm (sum_words s)
unfolding ones_sum words sum_words
ones-norm [] b = omega arith
ones-norm (x ∷ []) b = plus-norm (x * 256) 0 (omega (arith, b 0)) ∙ ap norm (omega arith)
ones-norm (x ∷ y ∷ s) b =
    rw (ones-norm s (λ i. b (suc (suc i)))) (plus-norm (x * 256 + y) (sum_words s) (omega (arith, b 0, b 1)))

-- two carries bring a sum of 32 bits there
abbrev pub fold : ℕ → ℕ
fold x = x / 2 ^ 16 + x % 2 ^ 16

pub folded : (x : ℕ) → x < 2 ^ 32 → fold (fold x) ≡ norm x
folded x h = omega arith

fold_small : (x : ℕ) → x < 2 ^ 32 → fold (fold x) ≤ 65535
fold_small x h = omega arith

from_zero : (z : ℕ) → z ≤ 65535 → 65535 - z ≡ 0 → z ≡ 65535
from_zero z h e = omega arith

-- ---- what the checksum covers
module _ (d : List ℕ) (low : 48 ≤ length d) (high : length d ≤ 65575) where
  pub covered-bytes : (sum : ℕ) → sum < 2 ^ 16 → Bytes d → Bytes (covered d sum)
  unfolding covered pseudo
  covered-bytes sum h b =
      let p = take 6 (drop 40 d) in
      let e : List ℕ = 0 ∷ 0 ∷ 0 ∷ 17 ∷ [] in
      let w = be32_bytes (length d - 40) in
      let be : Bytes e = bytes-cons 0 (0 ∷ 0 ∷ 17 ∷ []) (omega arith) (bytes-cons 0 (0 ∷ 17 ∷ []) (omega arith) (bytes-cons 0 (17 ∷ []) (omega arith) (bytes-cons 17 [] (omega arith) bytes-nil))) in
      let bw : Bytes (w ++ e) = bytes-append w e (bytes-be32 (length d - 40) (omega arith)) be in
      let br : Bytes (be16_bytes sum ++ drop 48 d) = bytes-append (be16_bytes sum) (drop 48 d) (bytes-be16 sum h) (bytes_drop 48 d b) in
      bytes-append (take 32 (drop 8 d) ++ (w ++ e)) (p ++ (be16_bytes sum ++ drop 48 d))
      (bytes-append (take 32 (drop 8 d)) (w ++ e) (bytes_take 32 (drop 8 d) (bytes_drop 8 d b)) bw)
      (bytes-append p (be16_bytes sum ++ drop 48 d) (bytes_take 6 (drop 40 d) (bytes_drop 40 d b)) br)

  -- the two runs that the code adds up are all of it but the length, the protocol and the checksum
  pub covered-sum : (sum : ℕ) → sum_words (covered d sum) ≡ sum_words (take 38 (drop 8 d)) + sum_words (drop 48 d) + (length d - 40) + 17 + sum
  unfolding covered pseudo sum_words be32_bytes be16_bytes
  covered-sum sum =
      let a = take 32 (drop 8 d) in
      let p = take 6 (drop 40 d) in
      let la : length a ≡ 32 = rw (length-take 32 (drop 8 d), length-drop 8 d) (omega arith) in
      let lp : length p ≡ 6 = rw (length-take 6 (drop 40 d), length-drop 40 d) (omega arith) in
      let e : take 38 (drop 8 d) ≡ a ++ p = take-add 32 6 (drop 8 d) ∙ ap (λ z. a ++ take 6 z) (drop-drop 32 8 d) in
      let f : sum_words (take 38 (drop 8 d)) ≡ sum_words a + sum_words p = ap sum_words e ∙ sum-append a p (omega arith) in
      let r = p ++ (be16_bytes sum ++ drop 48 d) in
      let w = be32_bytes (length d - 40) ++ (0 ∷ 0 ∷ 0 ∷ 17 ∷ []) in
      let g : sum_words ((a ++ w) ++ r) ≡ sum_words (a ++ w) + sum_words r = sum-append (a ++ w) r (omega (arith, length-append a w)) in
      let h : sum_words (a ++ w) ≡ sum_words a + sum_words w = sum-append a w (omega arith) in
      let k : sum_words r ≡ sum_words p + sum_words (be16_bytes sum ++ drop 48 d) = sum-append p (be16_bytes sum ++ drop 48 d) (omega arith) in
      omega arith

  pub fold-le : (a b : ℕ) → a + b ≤ 4294836224 → fold (fold (a + b + (length d - 40) + 17)) ≤ 65535
  fold-le a b h = let x : ℕ = a + b + (length d - 40) + 17 in let k : x < 2 ^ 32 = omega arith in fold_small x k

  -- what the code has at the end, from the sums a and b of the two runs
  module _ (a b : ℕ) (ha : a ≡ sum_words (take 38 (drop 8 d))) (hb : b ≡ sum_words (drop 48 d)) (fits : a + b ≤ 4294836224) (bytes : Bytes d) where
    ones-folded : fold (fold (a + b + (length d - 40) + 17)) ≡ ones_sum (words (covered d 0))
    ones-folded =
        let x = a + b + (length d - 40) + 17 in
        folded x (omega arith) ∙ ap norm (omega (arith, covered-sum 0)) ∙ sym (ones-norm (covered d 0) (covered-bytes 0 (omega arith) bytes))

    pub checksum-other : (fold (fold (a + b + (length d - 40) + 17)) ≡ 65535 → ⊥) → 65535 - fold (fold (a + b + (length d - 40) + 17)) ≡ udp_checksum d
    unfolding udp_checksum
    checksum-other n =
        let z : ℕ = fold (fold (a + b + (length d - 40) + 17)) in
        let le : z ≤ 65535 = fold-le a b fits in
        rw (← ones-folded, ne_eqb (65535 - z) 0 (λ k. n (from_zero z le k))) refl

    pub checksum-ones : fold (fold (a + b + (length d - 40) + 17)) ≡ 65535 → 65535 ≡ udp_checksum d
    unfolding udp_checksum
    checksum-ones h = rw (← ones-folded, h) refl

-- ---- the UDP header at u of d, and the IPv6 header at i
module _ (i u : ℕ) (d : List ℕ) (apart : i + 40 ≤ u) (low : u + 8 ≤ length d) (high : length d ≤ u + 65535) where
  length-outside : length (take 40 (drop i d)) ≡ 40
  length-outside = omega (arith, length-take 40 (drop i d), length-drop i d)

  pub length_seen : length (seen i u d) ≡ 40 + (length d - u)
  unfolding seen
  length_seen = length-append (take 40 (drop i d)) (drop u d) ∙ ap (λ n. n + length (drop u d)) length-outside ∙ ap (λ n. 40 + n) (length-drop u d)

  pub behind-seen : (k : ℕ) → drop (40 + k) (seen i u d) ≡ drop (u + k) d
  unfolding seen
  behind-seen k = sym (drop-drop k 40 (seen i u d)) ∙ ap (drop k) (drop_at (take 40 (drop i d)) (drop u d) 40 length-outside) ∙ drop-drop k u d

  pub both-seen : take 32 (drop 8 (seen i u d)) ≡ take 32 (drop (i + 8) d)
  unfolding seen
  both-seen =
      let x = drop i d in
      let b = take 32 (drop 8 x) in
      let l8 : length (take 8 x) ≡ 8 = omega (arith, length-take 8 x, length-drop i d) in
      let l32 : length b ≡ 32 = omega (arith, length-take 32 (drop 8 x), length-drop 8 x, length-drop i d) in
      ap (λ z. take 32 (drop 8 (z ++ drop u d))) (take-add 8 32 x)
      ∙ ap (λ z. take 32 (drop 8 z)) (append_assoc (take 8 x) b (drop u d))
      ∙ ap (take 32) (drop_at (take 8 x) (b ++ drop u d) 8 l8)
      ∙ take_at b (drop u d) 32 l32
      ∙ ap (take 32) (drop-drop 8 i d)

  bytes-seen : Bytes d → Bytes (seen i u d)
  unfolding seen
  bytes-seen b = bytes-append (take 40 (drop i d)) (drop u d) (bytes_take 40 (drop i d) (bytes_drop i d b)) (bytes_drop u d b)

  -- from the sums of the three runs that the code adds up
  module _ (a p b : ℕ) (ha : a ≡ sum_words (take (i + 40 - (i + 8)) (drop (i + 8) d))) (hp : p ≡ sum_words (take (u + 6 - u) (drop u d))) (hb : b ≡ sum_words (take (length d - (u + 8)) (drop (u + 8) d))) (fits : a + p + b ≤ 4294836224) (bytes : Bytes d) where
    heads-are : a + p ≡ sum_words (take 38 (drop 8 (seen i u d)))
    heads-are =
        let e = seen i u d in
        let k : i + 40 - (i + 8) ≡ 32 = omega arith in
        let n : u + 6 - u ≡ 6 = omega arith in
        let ea : a ≡ sum_words (take 32 (drop 8 e)) = ha ∙ ap (λ z. sum_words (take z (drop (i + 8) d))) k ∙ ap sum_words (sym both-seen) in
        let ep : p ≡ sum_words (take 6 (drop 40 e)) = hp ∙ ap (λ z. sum_words (take z (drop u d))) n ∙ ap (λ z. sum_words (take 6 (drop z d))) (sym (add-zero u)) ∙ ap (λ z. sum_words (take 6 z)) (sym (behind-seen 0)) in
        let le : length (take 32 (drop 8 e)) ≡ 32 = omega (arith, length-take 32 (drop 8 e), length-drop 8 e, length_seen) in
        let f : take 38 (drop 8 e) ≡ take 32 (drop 8 e) ++ take 6 (drop 40 e) = take-add 32 6 (drop 8 e) ∙ ap (λ z. take 32 (drop 8 e) ++ take 6 z) (drop-drop 32 8 e) in
        rw (ea, ep) (sym (ap sum_words f ∙ sum-append (take 32 (drop 8 e)) (take 6 (drop 40 e)) (omega arith)))

    data-are : b ≡ sum_words (drop 48 (seen i u d))
    data-are =
        hb ∙ ap sum_words (take_all (length d - (u + 8)) (drop (u + 8) d) (omega (arith, length-drop (u + 8) d)) ∙ sym (behind-seen 8))

    left_is : length (seen i u d) - 40 ≡ length d - u
    left_is = omega (arith, length_seen)

    pub at_other : (fold (fold (a + p + b + (length d - u) + 17)) ≡ 65535 → ⊥) → 65535 - fold (fold (a + p + b + (length d - u) + 17)) ≡ checksum_at i u d
    unfolding checksum_at
    at_other = rw (← left_is) (checksum-other (seen i u d) (omega (arith, length_seen)) (omega (arith, length_seen)) (a + p) b heads-are data-are fits (bytes-seen bytes))

    pub at_ones : fold (fold (a + p + b + (length d - u) + 17)) ≡ 65535 → 65535 ≡ checksum_at i u d
    unfolding checksum_at
    at_ones = rw (← left_is) (checksum-ones (seen i u d) (omega (arith, length_seen)) (omega (arith, length_seen)) (a + p) b heads-are data-are fits (bytes-seen bytes))

-- where the two headers stand
pub stands-facts : (m : UdpSum) (n : ℕ) → stands m n ≡ true → (m.ip + 40 ≤ m.udp) × (m.udp + 8 ≤ n) × (n ≤ m.udp + 65535)
stands-facts m n h =
    let a = and-true (leb (m.ip + 40) m.udp) _ h in
    let b = and-true (leb (m.udp + 8) n) _ a.1 in
    (leb-true (m.ip + 40) m.udp a.0, leb-true (m.udp + 8) n b.0, leb-true n (m.udp + 65535) b.1)

-- behind an IPv6 header at the front it is the checksum of the whole datagram
pub summed-first : (d : List ℕ) → summed_at 0 40 d ≡ summed d
unfolding summed_at checksum_at seen summed
summed-first d = ap (λ z. put 46 (be16_bytes (udp_checksum z)) d) (take-append-drop 40 d)

-- ---- in lent bytes
pub summed-put : (i u : ℕ) (d : List ℕ) → summed_at i u d ≡ put (u + 6) (be16_bytes (checksum_at i u d)) d
unfolding summed_at
summed-put i u d = refl

not-summed-go : (m : UdpSum) (n : ℕ) (l : List ℕ) (t : Bool) → leb n (length l) ≡ t → (was_elided m && stands m n) ≡ false → l ≡ choose t (summed_by m (take n l) ++ drop n l) l
unfolding summed_by
not-summed-go m n l true e h =
    let k : length (take n l) ≡ n = omega (arith, length-take n l, leb-true n (length l) e) in
    rw (k, h) (sym (take-append-drop n l))
not-summed-go m n l false e h = refl

not-summed : (m : UdpSum) (n : ℕ) (l : List ℕ) → (was_elided m && stands m n) ≡ false → l ≡ summed_in m n l
unfolding summed_in
not-summed m n l h = not-summed-go m n l (leb n (length l)) refl h

pub not-elided : (m : UdpSum) (n : ℕ) (l : List ℕ) → (m.kind ≡ 1 → ⊥) → l ≡ summed_in m n l
not-elided m n l h = not-summed m n l (rw (ne_eqb m.kind 1 h) refl)

pub past_end : (m : UdpSum) (n : ℕ) (l : List ℕ) → length l < n → l ≡ summed_in m n l
unfolding summed_in
past_end m n l h = rw (lt-leb n (length l) h) refl

pub not-standing : {t : Bool} (m : UdpSum) (n : ℕ) (l : List ℕ) → t ≡ stands m n → t ≡ false → m.kind ≡ 1 → l ≡ summed_in m n l
not-standing m n l p q h = not-summed m n l (rw (eq-eqb m.kind 1 h) (sym p ∙ q))

pub summed-in : (m : UdpSum) (n r : ℕ) (l k : List ℕ) → m.kind ≡ 1 → stands m n ≡ true → n ≤ length l → r ≡ checksum_at m.ip m.udp (take (n - 0) l) → k ≡ put (m.udp + 6) (be16_bytes r) l → k ≡ summed_in m n l
unfolding summed_in summed_by summed_at be16_bytes
summed-in m n r l k one st h p q =
    let e : length (take n l) ≡ n = omega (arith, length-take n l) in
    let f : m.udp + 6 + 2 ≤ length (take n l) = omega (arith, stands-facts m n st) in
    rw (le-leb n (length l) h, e, eq-eqb m.kind 1 one, st)
    (q
    ∙ ap (put (m.udp + 6) (be16_bytes r)) (sym (take-append-drop n l))
    ∙ put-front-part (m.udp + 6) (be16_bytes r) (take n l) (drop n l) f
    ∙ ap (λ x. put (m.udp + 6) (be16_bytes x) (take n l) ++ drop n l) (p ∙ ap (λ k. checksum_at m.ip m.udp (take k l)) (sub-zero n)))

-- at the front of two parts
pub summed-front : (m : UdpSum) (n : ℕ) (d y : List ℕ) → length d ≡ n → summed_in m n (d ++ y) ≡ summed_by m d ++ y
unfolding summed_in
summed-front m n d y e =
    let h : n ≤ length (d ++ y) = omega (arith, length-append d y) in
    rw (le-leb n (length (d ++ y)) h, take_at d y n e, drop_at d y n e) refl

length-go : (m : UdpSum) (d : List ℕ) (t : Bool) → length (choose t (summed_at m.ip m.udp d) d) ≡ length d
unfolding summed_at
length-go m d true = length-put (m.udp + 6) (be16_bytes (checksum_at m.ip m.udp d)) d
length-go m d false = refl

pub length-summed : (m : UdpSum) (d : List ℕ) → length (summed_by m d) ≡ length d
unfolding summed_by
length-summed m d = length-go m d (was_elided m && stands m (length d))

pub ruleset lent = (not-elided, past_end, not-standing)
