-- Four words and the 256 marks that they stand for: there and back, a mark read, a range searched, a range set.
use Prim.Native.Nat.{ℕ, zero, suc, ◌+◌, ◌-◌, ◌*◌, ◌/◌, ◌%◌, ◌^◌, ◌≤◌, ◌<◌, zero-le, suc-le-suc}
use native.Mathlib.Nat.{le_of_suc-le-suc, not-suc-le-zero, pow-suc, lt_of_le_of_lt}
use native.Mathlib.Omega.{arith}
use mathlib.Core.Path.{◌≡◌, refl, ap, sym, ◌∙◌}
use mathlib.Core.Bool.{Bool, true, false, not, true≢false}
use mathlib.Core.List.{List, [], ◌∷◌, ◌++◌}
use lib.ListN.{length, take, drop, get_or, set, length-append, length-set, length-drop, take-append-drop, get_or-append}
use lib.Seq.{get_or-append-add, get_or-set_same, get_or-set_other, ext_get_or, take_at, drop_at, length-take-le}
use lib.Dec.{eqb, ltb}
use lib.Bits.{bit_and, bit_or, and_le_l, or_lt}
use lib.Pow.{pow_pos}
use borrow.Author.Tests.{eq-eqb, ltb-true, ltb-false, eqb-true, eqb-false, not-false}
use mir.Val.{Val}
use mir.Syntax.{w64}
use denote.Array.{each}
use denote.Plain.{UInt}
use denote.Shadow.{shadow}
use Rattle.octets.specs.Read.{choose}
use Rattle.marks.specs.Marks.{same, has_in, fill, bits, unpack, one, val, packs, pack, within}
use Rattle.marks.proofs.Digits.{choose_no, digit, both-no, choose-swap, length-bits, get_or-bits, digit-zero, low_digit, digit_or, digit_and, in_r, in-yes, in-before, in_after, in-of, in-cong, digit_mask, digit_not, no-digits}

pub length-fill : (u m : ℕ) (l : List Bool) → length (fill u m l) ≡ length l
unfolding fill
length-fill u zero l = refl
length-fill u (suc m) l = length-set (fill u m l) (u + m) true ∙ length-fill u m l

-- ---- words and lists, there and back

pub val-bits : (k w : ℕ) → w < 2 ^ k → val (bits k w) ≡ w
unfolding val bits
val-bits zero w h = omega arith
val-bits (suc k) w h =
    let h2 : w < 2 ^ k * 2 = rw pow-suc at h in
    let e : val (bits k (w / 2)) ≡ w / 2 = val-bits k (w / 2) (omega arith) in
    let o : one (eqb (w % 2) 1) ≡ w % 2 = go (w % 2) (omega arith) in
    rw (e, o) (omega arith)
  where
    go : (x : ℕ) → x < 2 → one (eqb x 1) ≡ x
    go zero h = refl
    go (suc zero) h = refl
    go (suc (suc x)) h = absurd (omega arith)

one-lt : (b : Bool) → one b < 2
one-lt true = omega arith
one-lt false = omega arith

one-is : (b : Bool) → eqb (one b) 1 ≡ b
one-is true = refl
one-is false = refl

pub bits-val : (l : List Bool) → bits (length l) (val l) ≡ l
unfolding val bits
bits-val [] = refl
bits-val (b ∷ l) =
    let d = low_digit (val l * 2 + one b) (val l) (one b) refl (one-lt b) in
    rw (d.0, d.1, one-is b, bits-val l)

pub length-unpack : (ws : List ℕ) → length (unpack ws) ≡ length ws * 64
unfolding unpack
length-unpack [] = refl
length-unpack (w ∷ ws) = length-append (bits 64 w) (unpack ws) ∙ (let a = length-bits 64 w in let b = length-unpack ws in omega arith)

pub packs-unpack : (ws : List ℕ) → ((i : ℕ) → get_or ws i 0 < 2 ^ 64) → packs (length ws) (unpack ws) ≡ ws
unfolding packs unpack
packs-unpack [] f = refl
packs-unpack (w ∷ ws) f =
    rw (take_at (bits 64 w) (unpack ws) 64 (length-bits 64 w), drop_at (bits 64 w) (unpack ws) 64 (length-bits 64 w), val-bits 64 w (f zero), packs-unpack ws (λ i. f (suc i)))

pub unpack-packs : (n : ℕ) (l : List Bool) → length l ≡ n * 64 → unpack (packs n l) ≡ l
unfolding packs unpack
unpack-packs zero [] h = refl
unpack-packs zero (b ∷ l) h = absurd (omega arith)
unpack-packs (suc n) l h =
    let t : length (take 64 l) ≡ 64 = length-take-le 64 l (omega arith) in
    let d : length (drop 64 l) ≡ n * 64 = length-drop 64 l ∙ omega arith in
    let e : bits 64 (val (take 64 l)) ≡ take 64 l = rw t at (bits-val (take 64 l)) in
    rw (e, unpack-packs n (drop 64 l) d) (take-append-drop 64 l)

-- the two laws by which a contract on the marks determines the words, and a fact on the words speaks of the marks
pub pack-unpack : (ws : List ℕ) → length ws ≡ 4 → ((i : ℕ) → get_or ws i 0 < 2 ^ 64) → pack (unpack ws) ≡ ws
unfolding pack
pack-unpack ws h f = rw h at (packs-unpack ws f)

pub unpack-pack : (l : List Bool) → length l ≡ 256 → unpack (pack l) ≡ l
unfolding pack
unpack-pack l h = unpack-packs 4 l h

-- a unit's mark is a digit of its word
pub unpack-at : (ws : List ℕ) (q j : ℕ) → j < 64 → q < length ws → get_or (unpack ws) (q * 64 + j) false ≡ digit (get_or ws q 0) j
unfolding unpack
unpack-at [] q j hj hq = absurd (not-suc-le-zero hq)
unpack-at (w ∷ ws) zero j hj hq =
    let n : 0 * 64 + j ≡ j = omega arith in
    let l = length-bits 64 w in
    ap (λ (x : ℕ). get_or (bits 64 w ++ unpack ws) x false) n ∙ get_or-append (bits 64 w) (unpack ws) false j (omega arith) ∙ get_or-bits 64 w j hj
unpack-at (w ∷ ws) (suc q) j hj hq =
    let l = length-bits 64 w in
    let n : suc q * 64 + j ≡ length (bits 64 w) + (q * 64 + j) = omega arith in
    ap (λ (x : ℕ). get_or (bits 64 w ++ unpack ws) x false) n ∙ get_or-append-add (bits 64 w) (unpack ws) (q * 64 + j) false ∙ unpack-at ws q j hj (le_of_suc-le-suc hq)

-- ---- a mark in a range, by its place in the range

pub has-none : (b : Bool) (l : List Bool) (u n : ℕ) → has_in b l u n ≡ false → (d : ℕ) → d < n → same (get_or l (u + d) false) b ≡ false
unfolding has_in
has-none b l u zero e d h = absurd (not-suc-le-zero h)
has-none b l u (suc n) e zero h =
    let z : u + 0 ≡ u = omega arith in
    ap (λ (x : ℕ). same (get_or l x false) b) z ∙ (choose_no (same (get_or l u false) b) (has_in b l (suc u) n) e).0
has-none b l u (suc n) e (suc d) h =
    let z : u + suc d ≡ suc u + d = omega arith in
    ap (λ (x : ℕ). same (get_or l x false) b) z ∙ has-none b l (suc u) n (choose_no (same (get_or l u false) b) (has_in b l (suc u) n) e).1 d (le_of_suc-le-suc h)

pub none_has : (b : Bool) (l : List Bool) (u n : ℕ) → ((d : ℕ) → d < n → same (get_or l (u + d) false) b ≡ false) → has_in b l u n ≡ false
unfolding has_in
none_has b l u zero f = refl
none_has b l u (suc n) f =
    let z : u + 0 ≡ u = omega arith in
    let a : same (get_or l u false) b ≡ false = ap (λ (x : ℕ). same (get_or l x false) b) (sym z) ∙ f zero (suc-le-suc zero-le) in
    let r : has_in b l (suc u) n ≡ false =
    none_has b l (suc u) n (λ d h. let y : suc u + d ≡ u + suc d = omega arith in ap (λ (x : ℕ). same (get_or l x false) b) y ∙ f (suc d) (suc-le-suc h)) in
    rw (a, r)

-- two ranges that agree place by place
pub has-cong : (b b' : Bool) (l l' : List Bool) (u n : ℕ) → ((i : ℕ) → i < u + n → same (get_or l i false) b ≡ same (get_or l' i false) b') → has_in b l u n ≡ has_in b' l' u n
has-cong b b' l l' u n f =
    both-no (has_in b l u n) (has_in b' l' u n)
    (λ e. none_has b' l' u n (λ d h. sym (f (u + d) (omega arith)) ∙ has-none b l u n e d h))
    (λ e. none_has b l u n (λ d h. f (u + d) (omega arith) ∙ has-none b' l' u n e d h))

-- ---- a word against a mask

same_true : (x : Bool) → same x true ≡ x
same_true true = refl
same_true false = refl

same-flip : (x : Bool) → same x false ≡ same (not x) true
same-flip true = refl
same-flip false = refl

choose-and : (x y : Bool) → choose x y false ≡ false → y ≡ true → x ≡ false
choose-and true y e h = absurd (true≢false (sym h ∙ e))
choose-and false y e h = refl

choose-none : (x y : Bool) → (y ≡ true → x ≡ false) → choose x y false ≡ false
choose-none true true f = f refl
choose-none true false f = refl
choose-none false y f = refl

module _ (w lo hi : ℕ) (h : lo ≤ hi) (top : hi ≤ 64) (fits : w < 2 ^ 64) where
  mask-none : bit_and w (2 ^ hi - 2 ^ lo) ≡ 0 → has_in true (bits 64 w) lo (hi - lo) ≡ false
  mask-none e =
      none_has true (bits 64 w) lo (hi - lo)
      (λ d hd.
      let a : digit (bit_and w (2 ^ hi - 2 ^ lo)) (lo + d) ≡ false = ap (λ (x : ℕ). digit x (lo + d)) e ∙ digit-zero (lo + d) in
      let m : digit (2 ^ hi - 2 ^ lo) (lo + d) ≡ true = digit_mask hi lo (lo + d) h ∙ in-yes lo hi (lo + d) (omega arith) (omega arith) in
      same_true (get_or (bits 64 w) (lo + d) false) ∙ get_or-bits 64 w (lo + d) (omega arith) ∙ choose-and (digit w (lo + d)) _ (sym (digit_and w (2 ^ hi - 2 ^ lo) (lo + d)) ∙ a) m)

  none-mask : has_in true (bits 64 w) lo (hi - lo) ≡ false → bit_and w (2 ^ hi - 2 ^ lo) ≡ 0
  none-mask e =
      no-digits 64 (bit_and w (2 ^ hi - 2 ^ lo)) (lt_of_le_of_lt (and_le_l w (2 ^ hi - 2 ^ lo)) fits)
      (λ j hj.
      digit_and w (2 ^ hi - 2 ^ lo) j
      ∙ choose-none (digit w j) (digit (2 ^ hi - 2 ^ lo) j)
      (λ m.
      let r = in-of lo hi j (sym (digit_mask hi lo j h) ∙ m) in
      let n : lo + (j - lo) ≡ j = omega (arith, r.0) in
      sym (get_or-bits 64 w j hj) ∙ sym (same_true (get_or (bits 64 w) j false)) ∙ ap (λ (x : ℕ). same (get_or (bits 64 w) x false) true) (sym n)
      ∙ has-none true (bits 64 w) lo (hi - lo) e (j - lo) (omega (arith, r.0, r.1))))

  pub word-true : not (eqb (bit_and w (2 ^ hi - 2 ^ lo)) 0) ≡ has_in true (bits 64 w) lo (hi - lo)
  word-true =
      both-no (not (eqb (bit_and w (2 ^ hi - 2 ^ lo)) 0)) (has_in true (bits 64 w) lo (hi - lo))
      (λ e. mask-none (eqb-true (bit_and w (2 ^ hi - 2 ^ lo)) 0 (not-false (eqb (bit_and w (2 ^ hi - 2 ^ lo)) 0) e)))
      (λ e. ap not (eq-eqb (bit_and w (2 ^ hi - 2 ^ lo)) 0 (none-mask e)))

pub word-false : (w lo hi : ℕ) → lo ≤ hi → hi ≤ 64 → w < 2 ^ 64 → not (eqb (bit_and (2 ^ 64 - 1 - w) (2 ^ hi - 2 ^ lo)) 0) ≡ has_in false (bits 64 w) lo (hi - lo)
word-false w lo hi h top fits =
    word-true (2 ^ 64 - 1 - w) lo hi h top (omega arith)
    ∙ sym (has-cong false true (bits 64 w) (bits 64 (2 ^ 64 - 1 - w)) lo (hi - lo)
    (λ i hi'.
    ap (λ (x : Bool). same x false) (get_or-bits 64 w i (omega arith)) ∙ same-flip (digit w i)
    ∙ ap (λ (x : Bool). same x true) (sym (digit_not 64 w i fits (omega arith)) ∙ sym (get_or-bits 64 (2 ^ 64 - 1 - w) i (omega arith)))))

-- ---- all the words

unfoldable pub has_words : Bool → ℕ → ℕ → ℕ → List ℕ → Bool
has_words b base u e [] = false
has_words b base u e (w ∷ ws) = choose (has_in b (bits 64 w) (within base u) (within base e - within base u)) true (has_words b (base + 64) u e ws)

-- a range over two lists one after the other, the first of n places
module _ (b : Bool) (x y : List Bool) (n u e : ℕ) (hx : length x ≡ n) where
  seam-none : has_in b x (u - (u - n)) (e - (e - n) - (u - (u - n))) ≡ false → has_in b y (u - n) (e - n - (u - n)) ≡ false → has_in b (x ++ y) u (e - u) ≡ false
  seam-none p q =
      none_has b (x ++ y) u (e - u)
      (λ d hd. go d hd (ltb (u + d) n) refl)
    where
      go : (d : ℕ) → d < e - u → (t : Bool) → ltb (u + d) n ≡ t → same (get_or (x ++ y) (u + d) false) b ≡ false
      go d hd true t =
          let lt = ltb-true (u + d) n t in
          let z : u - (u - n) + d ≡ u + d = omega arith in
          ap (λ (c : Bool). same c b) (get_or-append x y false (u + d) (omega arith))
          ∙ ap (λ (k : ℕ). same (get_or x k false) b) (sym z) ∙ has-none b x (u - (u - n)) (e - (e - n) - (u - (u - n))) p d (omega arith)
      go d hd false t =
          let ge = ltb-false (u + d) n t in
          let z : u + d ≡ length x + (u + d - n) = omega arith in
          let s : u - n + (u + d - n - (u - n)) ≡ u + d - n = omega arith in
          ap (λ (k : ℕ). same (get_or (x ++ y) k false) b) z ∙ ap (λ (c : Bool). same c b) (get_or-append-add x y (u + d - n) false)
          ∙ ap (λ (k : ℕ). same (get_or y k false) b) (sym s) ∙ has-none b y (u - n) (e - n - (u - n)) q (u + d - n - (u - n)) (omega arith)

  none_left : has_in b (x ++ y) u (e - u) ≡ false → has_in b x (u - (u - n)) (e - (e - n) - (u - (u - n))) ≡ false
  none_left p =
      none_has b x (u - (u - n)) (e - (e - n) - (u - (u - n)))
      (λ d hd.
      let z : u - (u - n) + d ≡ u + d = omega arith in
      ap (λ (k : ℕ). same (get_or x k false) b) z ∙ ap (λ (c : Bool). same c b) (sym (get_or-append x y false (u + d) (omega arith)))
      ∙ has-none b (x ++ y) u (e - u) p d (omega arith))

  none_right : has_in b (x ++ y) u (e - u) ≡ false → has_in b y (u - n) (e - n - (u - n)) ≡ false
  none_right p =
      none_has b y (u - n) (e - n - (u - n))
      (λ d hd.
      let k = u - n + d in
      let z : length x + (u - n + d) ≡ u + (n + (u - n + d) - u) = omega arith in
      ap (λ (c : Bool). same c b) (sym (get_or-append-add x y (u - n + d) false)) ∙ ap (λ (i : ℕ). same (get_or (x ++ y) i false) b) z
      ∙ has-none b (x ++ y) u (e - u) p (n + (u - n + d) - u) (omega arith))

  seam : has_in b (x ++ y) u (e - u) ≡ choose (has_in b x (u - (u - n)) (e - (e - n) - (u - (u - n)))) true (has_in b y (u - n) (e - n - (u - n)))
  seam =
      both-no (has_in b (x ++ y) u (e - u)) _
      (λ p. rw (none_left p, none_right p))
      (λ p. let q = choose_no _ _ p in seam-none q.0 q.1)

pub has_words_lem : (b : Bool) (ws : List ℕ) (base u e : ℕ) → e ≤ base + length ws * 64 → has_in b (unpack ws) (u - base) (e - base - (u - base)) ≡ has_words b base u e ws
unfolding unpack has_words within
has_words_lem b [] base u e h =
    let z : e - base - (u - base) ≡ 0 = omega arith in
    rw z (none_has b [] (u - base) 0 (λ d hd. absurd (not-suc-le-zero hd)))
has_words_lem b (w ∷ ws) base u e h =
    let p : u - base - 64 ≡ u - (base + 64) = omega arith in
    let q : e - base - 64 ≡ e - (base + 64) = omega arith in
    let r = has_words_lem b ws (base + 64) u e (omega arith) in
    let s = seam b (bits 64 w) (unpack ws) 64 (u - base) (e - base) (length-bits 64 w) in
    s ∙ ap (λ (t : Bool). choose (has_in b (bits 64 w) (u - base - (u - base - 64)) (e - base - (e - base - 64) - (u - base - (u - base - 64)))) true t)
    (rw (p, q) r)

-- ---- marking

unfoldable pub or_words : ℕ → ℕ → ℕ → List ℕ → List ℕ
or_words base u e [] = []
or_words base u e (w ∷ ws) = bit_or w (2 ^ within base e - 2 ^ within base u) ∷ or_words (base + 64) u e ws

pub length-or_words : (ws : List ℕ) (base u e : ℕ) → length (or_words base u e ws) ≡ length ws
unfolding or_words
length-or_words [] base u e = refl
length-or_words (w ∷ ws) base u e = ap suc (length-or_words ws (base + 64) u e)

pub fill-at : (u n : ℕ) (l : List Bool) (i : ℕ) → i < length l → get_or (fill u n l) i false ≡ choose (in_r u (u + n) i) true (get_or l i false)
unfolding fill
fill-at u zero l i h =
    let r : in_r u (u + 0) i ≡ false = go (ltb i u) refl in
    rw r
  where
    go : (t : Bool) → ltb i u ≡ t → in_r u (u + 0) i ≡ false
    go true t = in-before u (u + 0) i (ltb-true i u t)
    go false t = in_after u (u + 0) i (let x = ltb-false i u t in omega arith)
fill-at u (suc n) l i h = go (fill-at u n l i h) (eqb i (u + n)) refl
  where
    go : get_or (fill u n l) i false ≡ choose (in_r u (u + n) i) true (get_or l i false) → (t : Bool) → eqb i (u + n) ≡ t → get_or (set (fill u n l) (u + n) true) i false ≡ choose (in_r u (u + suc n) i) true (get_or l i false)
    go ih true t =
        let e : i ≡ u + n = eqb-true i (u + n) t in
        let f = length-fill u n l in
        let r : in_r u (u + suc n) i ≡ true = in-yes u (u + suc n) i (omega arith) (omega arith) in
        rw r (ap (λ (x : ℕ). get_or (set (fill u n l) (u + n) true) x false) e ∙ get_or-set_same (fill u n l) (u + n) true false (omega arith))
    go ih false t =
        let ne = eqb-false i (u + n) t in
        let r : in_r u (u + n) i ≡ in_r u (u + suc n) i = in-cong u (u + n) i u (u + suc n) i (λ a b. (a, omega arith)) (λ a b. (a, lt_of_ne ne b)) in
        get_or-set_other (fill u n l) (u + n) i true false ne ∙ ih ∙ ap (λ (x : Bool). choose x true (get_or l i false)) r
      where
        lt_of_ne : (i ≡ u + n → ⊥) → i < u + suc n → i < u + n
        lt_of_ne ne b = omega arith

pub within-le : (base u : ℕ) → within base u ≤ 64
unfolding within
within-le base u = omega arith

pub within-mono : (base u e : ℕ) → u ≤ e → within base u ≤ within base e
unfolding within
within-mono base u e h = omega arith

pub pow-le : (a b : ℕ) → a ≤ b → 2 ^ a ≤ 2 ^ b
pow-le zero b h = pow_pos b
pow-le (suc a) zero h = absurd (not-suc-le-zero h)
pow-le (suc a) (suc b) h = let i = pow-le a b (le_of_suc-le-suc h) in rw (pow-suc 2 a, pow-suc 2 b) (omega arith)

pub mask_lt : (lo hi : ℕ) → hi ≤ 64 → 2 ^ hi - 2 ^ lo < 2 ^ 64
mask_lt lo hi h = let a = pow-le hi 64 h in let b = pow_pos lo in omega arith

fits-or_words : (ws : List ℕ) (base u e : ℕ) → ((i : ℕ) → get_or ws i 0 < 2 ^ 64) → (i : ℕ) → get_or (or_words base u e ws) i 0 < 2 ^ 64
unfolding or_words
fits-or_words [] base u e f i = f i
fits-or_words (w ∷ ws) base u e f zero = or_lt 64 w (2 ^ within base e - 2 ^ within base u) (f zero) (mask_lt (within base u) (within base e) (within-le base e))
fits-or_words (w ∷ ws) base u e f (suc i) = fits-or_words ws (base + 64) u e (λ i. f (suc i)) i

in_within : (base u e i : ℕ) → i < 64 → in_r (within base u) (within base e) i ≡ in_r u e (base + i)
unfolding within
in_within base u e i h = in-cong (u - base - (u - base - 64)) (e - base - (e - base - 64)) i u e (base + i) (λ a b. (omega arith, omega arith)) (λ a b. (omega arith, omega arith))

or_at : (ws : List ℕ) (base u e : ℕ) → u ≤ e → (i : ℕ) → i < length ws * 64
    → get_or (unpack (or_words base u e ws)) i false ≡ choose (in_r u e (base + i)) true (get_or (unpack ws) i false)
unfolding unpack or_words
or_at [] base u e h i hi = absurd (omega arith)
or_at (w ∷ ws) base u e h i hi = go (or_at ws (base + 64) u e h) (ltb i 64) refl
  where
    go : ((k : ℕ) → k < length ws * 64 → get_or (unpack (or_words (base + 64) u e ws)) k false ≡ choose (in_r u e (base + 64 + k)) true (get_or (unpack ws) k false))
        → (t : Bool) → ltb i 64 ≡ t → get_or (bits 64 (bit_or w (2 ^ within base e - 2 ^ within base u)) ++ unpack (or_words (base + 64) u e ws)) i false ≡ choose (in_r u e (base + i)) true (get_or (bits 64 w ++ unpack ws) i false)
    go ih true t =
        let lt = ltb-true i 64 t in
        let lv = length-bits 64 (bit_or w (2 ^ within base e - 2 ^ within base u)) in
        let lw = length-bits 64 w in
        let a : get_or (bits 64 w ++ unpack ws) i false ≡ digit w i = get_or-append (bits 64 w) (unpack ws) false i (omega arith) ∙ get_or-bits 64 w i lt in
        get_or-append (bits 64 (bit_or w (2 ^ within base e - 2 ^ within base u))) (unpack (or_words (base + 64) u e ws)) false i (omega arith) ∙ get_or-bits 64 (bit_or w (2 ^ within base e - 2 ^ within base u)) i lt
        ∙ digit_or w (2 ^ within base e - 2 ^ within base u) i
        ∙ ap (λ (x : Bool). choose (digit w i) true x) (digit_mask (within base e) (within base u) i (within-mono base u e h) ∙ in_within base u e i lt)
        ∙ choose-swap (digit w i) (in_r u e (base + i)) ∙ ap (λ (x : Bool). choose (in_r u e (base + i)) true x) (sym a)
    go ih false t =
        let ge = ltb-false i 64 t in
        let lv = length-bits 64 (bit_or w (2 ^ within base e - 2 ^ within base u)) in
        let lw = length-bits 64 w in
        let nv : i ≡ length (bits 64 (bit_or w (2 ^ within base e - 2 ^ within base u))) + (i - 64) = omega arith in
        let nw : length (bits 64 w) + (i - 64) ≡ i = omega arith in
        let nb : base + 64 + (i - 64) ≡ base + i = omega arith in
        let a : get_or (bits 64 w ++ unpack ws) i false ≡ get_or (unpack ws) (i - 64) false =
        ap (λ (x : ℕ). get_or (bits 64 w ++ unpack ws) x false) (sym nw) ∙ get_or-append-add (bits 64 w) (unpack ws) (i - 64) false in
        ap (λ (x : ℕ). get_or (bits 64 (bit_or w (2 ^ within base e - 2 ^ within base u)) ++ unpack (or_words (base + 64) u e ws)) x false) nv ∙ get_or-append-add (bits 64 (bit_or w (2 ^ within base e - 2 ^ within base u))) (unpack (or_words (base + 64) u e ws)) (i - 64) false
        ∙ ih (i - 64) (omega arith) ∙ ap (λ (x : ℕ). choose (in_r u e x) true (get_or (unpack ws) (i - 64) false)) nb
        ∙ ap (λ (x : Bool). choose (in_r u e (base + i)) true x) (sym a)

-- the words with a range marked stand for the marks with that range set
pub unpack-mark : (ws : List ℕ) (u e : ℕ) → u ≤ e → unpack (or_words 0 u e ws) ≡ fill u (e - u) (unpack ws)
unpack-mark ws u e h =
    let l₁ : length (unpack (or_words 0 u e ws)) ≡ length ws * 64 = length-unpack (or_words 0 u e ws) ∙ ap (λ (x : ℕ). x * 64) (length-or_words ws 0 u e) in
    let l₂ : length (unpack ws) ≡ length ws * 64 = length-unpack ws in
    let l₃ = length-fill u (e - u) (unpack ws) in
    let n : u + (e - u) ≡ e = omega arith in
    ext_get_or false (unpack (or_words 0 u e ws)) (fill u (e - u) (unpack ws)) (omega arith)
    (λ i hi.
    let z : 0 + i ≡ i = omega arith in
    or_at ws 0 u e h i (omega arith) ∙ ap (λ (x : ℕ). choose (in_r u e x) true (get_or (unpack ws) i false)) z
    ∙ ap (λ (x : ℕ). choose (in_r u x i) true (get_or (unpack ws) i false)) (sym n) ∙ sym (fill-at u (e - u) (unpack ws) i (omega arith)))

pub mark-is : (ws : List ℕ) (u e : ℕ) → length ws ≡ 4 → ((i : ℕ) → get_or ws i 0 < 2 ^ 64) → u ≤ e → or_words 0 u e ws ≡ pack (fill u (e - u) (unpack ws))
mark-is ws u e l f h = sym (pack-unpack (or_words 0 u e ws) (length-or_words ws 0 u e ∙ l) (fits-or_words ws 0 u e f)) ∙ ap pack (unpack-mark ws u e h)

-- four words
pub four : (ws : List ℕ) → length ws ≡ 4 → ws ≡ get_or ws 0 0 ∷ get_or ws 1 0 ∷ get_or ws 2 0 ∷ get_or ws 3 0 ∷ []
four [] h = absurd (omega arith)
four (a ∷ []) h = absurd (omega arith)
four (a ∷ b ∷ []) h = absurd (omega arith)
four (a ∷ b ∷ c ∷ []) h = absurd (omega arith)
four (a ∷ b ∷ c ∷ d ∷ []) h = refl
four (a ∷ b ∷ c ∷ d ∷ e ∷ l) h = absurd (omega arith)

pub mark-four : (ws : List ℕ) (u e : ℕ) → length ws ≡ 4
    → or_words 0 u e ws
    ≡ bit_or (get_or ws 0 0) (2 ^ within 0 e - 2 ^ within 0 u) ∷ bit_or (get_or ws 1 0) (2 ^ within 64 e - 2 ^ within 64 u)
    ∷ bit_or (get_or ws 2 0) (2 ^ within 128 e - 2 ^ within 128 u) ∷ bit_or (get_or ws 3 0) (2 ^ within 192 e - 2 ^ within 192 u) ∷ []
unfolding or_words
mark-four ws u e h = ap (or_words 0 u e) (four ws h)

pub has-four : (b : Bool) (ws : List ℕ) (u e : ℕ) → length ws ≡ 4 → e ≤ 256
    → has_in b (unpack ws) u (e - u)
    ≡ choose (has_in b (bits 64 (get_or ws 0 0)) (within 0 u) (within 0 e - within 0 u)) true
    (choose (has_in b (bits 64 (get_or ws 1 0)) (within 64 u) (within 64 e - within 64 u)) true
    (choose (has_in b (bits 64 (get_or ws 2 0)) (within 128 u) (within 128 e - within 128 u)) true
    (choose (has_in b (bits 64 (get_or ws 3 0)) (within 192 u) (within 192 e - within 192 u)) true false)))
unfolding has_words
has-four b ws u e h he =
    let z : u - 0 ≡ u = omega arith in
    let y : e - 0 - u ≡ e - u = omega arith in
    rw (z, y) at (has_words_lem b ws 0 u e (omega arith)) ∙ ap (has_words b 0 u e) (four ws h)

-- what owning an array of words tells of each
pub words-fit : (xs : List ℕ) (us : List Val) → shadow (each ℕ (UInt w64).own_val xs us) → (i : ℕ) → get_or xs i 0 < 2 ^ 64
words-fit [] [] g i = omega arith
words-fit [] (u ∷ us) g i = absurd g
words-fit (x ∷ xs) [] g i = absurd g
words-fit (x ∷ xs) (u ∷ us) g zero = g.0.1
words-fit (x ∷ xs) (u ∷ us) g (suc i) = words-fit xs us g.1 i

pub or_no : (x : Bool) → choose x true false ≡ x
or_no true = refl
or_no false = refl

-- one mark: the bit of its place against its word
one_has : (l : List Bool) (k : ℕ) → has_in true l k 1 ≡ get_or l k false
unfolding has_in
one_has l k = ap (λ (x : Bool). choose x true false) (same_true (get_or l k false)) ∙ or_no (get_or l k false)

one_bit : (w k : ℕ) → k < 64 → w < 2 ^ 64 → not (eqb (bit_and w (2 ^ k)) 0) ≡ digit w k
one_bit w k h f =
    let p : 2 ^ suc k ≡ 2 ^ k * 2 = pow-suc 2 k in
    let e : 2 ^ suc k - 2 ^ k ≡ 2 ^ k = omega arith in
    let n : suc k - k ≡ 1 = omega arith in
    rw (e, n) at (word-true w k (suc k) (omega arith) h f) ∙ one_has (bits 64 w) k ∙ get_or-bits 64 w k h

pub marked-is : (ws : List ℕ) (u : ℕ) → length ws ≡ 4 → ((i : ℕ) → get_or ws i 0 < 2 ^ 64) → u < 256
    → not (eqb (bit_and (get_or ws (u / 64) 0) (2 ^ (u % 64))) 0) ≡ get_or (unpack ws) u false
marked-is ws u h f hu =
    let n : u / 64 * 64 + u % 64 ≡ u = omega arith in
    one_bit (get_or ws (u / 64) 0) (u % 64) (omega arith) (f (u / 64)) ∙ sym (unpack-at ws (u / 64) (u % 64) (omega arith) (omega arith)) ∙ ap (λ (x : ℕ). get_or (unpack ws) x false) n

pub unpack-fill : (ws : List ℕ) (u n : ℕ) → length ws ≡ 4 → unpack (pack (fill u n (unpack ws))) ≡ fill u n (unpack ws)
unpack-fill ws u n h =
    let a = length-fill u n (unpack ws) in
    let b = length-unpack ws in
    unpack-pack (fill u n (unpack ws)) (omega arith)

same_place : {u i : ℕ} → u ≤ i → i < u + 1 → i ≡ u
same_place a b = omega arith

-- one mark: the bit of its place joined to its word, the other words as they were
module _ (ws : List ℕ) (u : ℕ) (l : length ws ≡ 4) (hu : u < 256) where
  bit_in : (j : ℕ) → digit (2 ^ (u % 64)) j ≡ in_r (u % 64) (suc (u % 64)) j
  bit_in j =
      let p : 2 ^ suc (u % 64) ≡ 2 ^ (u % 64) * 2 = pow-suc 2 (u % 64) in
      let e : 2 ^ suc (u % 64) - 2 ^ (u % 64) ≡ 2 ^ (u % 64) = omega arith in
      ap (λ (x : ℕ). digit x j) (sym e) ∙ digit_mask (suc (u % 64)) (u % 64) j (omega arith)

  one_at : (i : ℕ) → i < 256 → get_or (unpack (set ws (u / 64) (bit_or (get_or ws (u / 64) 0) (2 ^ (u % 64))))) i false ≡ choose (in_r u (u + 1) i) true (get_or (unpack ws) i false)
  one_at i hi = go (eqb (i / 64) (u / 64)) refl
    where
      go : (t : Bool) → eqb (i / 64) (u / 64) ≡ t → get_or (unpack (set ws (u / 64) (bit_or (get_or ws (u / 64) 0) (2 ^ (u % 64))))) i false ≡ choose (in_r u (u + 1) i) true (get_or (unpack ws) i false)
      go true t =
          let q : i / 64 ≡ u / 64 = eqb-true (i / 64) (u / 64) t in
          let n : u / 64 * 64 + i % 64 ≡ i = omega arith in
          let k = length-set ws (u / 64) (bit_or (get_or ws (u / 64) 0) (2 ^ (u % 64))) in
          let a : get_or (unpack ws) i false ≡ digit (get_or ws (u / 64) 0) (i % 64) = ap (λ (x : ℕ). get_or (unpack ws) x false) (sym n) ∙ unpack-at ws (u / 64) (i % 64) (omega arith) (omega arith) in
          let r : in_r (u % 64) (suc (u % 64)) (i % 64) ≡ in_r u (u + 1) i = in-cong (u % 64) (suc (u % 64)) (i % 64) u (u + 1) i (λ a b. (omega arith, omega arith)) (λ a b. (omega arith, omega arith)) in
          ap (λ (x : ℕ). get_or (unpack (set ws (u / 64) (bit_or (get_or ws (u / 64) 0) (2 ^ (u % 64))))) x false) (sym n)
          ∙ unpack-at (set ws (u / 64) (bit_or (get_or ws (u / 64) 0) (2 ^ (u % 64)))) (u / 64) (i % 64) (omega arith) (omega arith)
          ∙ ap (λ (x : ℕ). digit x (i % 64)) (get_or-set_same ws (u / 64) (bit_or (get_or ws (u / 64) 0) (2 ^ (u % 64))) 0 (omega arith))
          ∙ digit_or (get_or ws (u / 64) 0) (2 ^ (u % 64)) (i % 64)
          ∙ ap (λ (x : Bool). choose (digit (get_or ws (u / 64) 0) (i % 64)) true x) (bit_in (i % 64) ∙ r)
          ∙ choose-swap (digit (get_or ws (u / 64) 0) (i % 64)) (in_r u (u + 1) i) ∙ ap (λ (x : Bool). choose (in_r u (u + 1) i) true x) (sym a)
      go false t =
          let ne : i / 64 ≡ u / 64 → ⊥ = eqb-false (i / 64) (u / 64) t in
          let n : i / 64 * 64 + i % 64 ≡ i = omega arith in
          let k = length-set ws (u / 64) (bit_or (get_or ws (u / 64) 0) (2 ^ (u % 64))) in
          let a : get_or (unpack ws) i false ≡ digit (get_or ws (i / 64) 0) (i % 64) = ap (λ (x : ℕ). get_or (unpack ws) x false) (sym n) ∙ unpack-at ws (i / 64) (i % 64) (omega arith) (omega arith) in
          ap (λ (x : ℕ). get_or (unpack (set ws (u / 64) (bit_or (get_or ws (u / 64) 0) (2 ^ (u % 64))))) x false) (sym n)
          ∙ unpack-at (set ws (u / 64) (bit_or (get_or ws (u / 64) 0) (2 ^ (u % 64)))) (i / 64) (i % 64) (omega arith) (omega arith)
          ∙ ap (λ (x : ℕ). digit x (i % 64)) (get_or-set_other ws (u / 64) (i / 64) (bit_or (get_or ws (u / 64) 0) (2 ^ (u % 64))) 0 ne)
          ∙ sym a ∙ ap (λ (x : Bool). choose x true (get_or (unpack ws) i false)) (sym (out ne (in_r u (u + 1) i) refl))
        where
          out : (i / 64 ≡ u / 64 → ⊥) → (t : Bool) → in_r u (u + 1) i ≡ t → t ≡ false
          out ne true p = let r = in-of u (u + 1) i p in absurd (ne (ap (λ (x : ℕ). x / 64) (same_place r.0 r.1)))
          out ne false p = refl

  fits_one : ((i : ℕ) → get_or ws i 0 < 2 ^ 64) → (i : ℕ) → get_or (set ws (u / 64) (bit_or (get_or ws (u / 64) 0) (2 ^ (u % 64)))) i 0 < 2 ^ 64
  fits_one f i = go (eqb i (u / 64)) refl
    where
      go : (t : Bool) → eqb i (u / 64) ≡ t → get_or (set ws (u / 64) (bit_or (get_or ws (u / 64) 0) (2 ^ (u % 64)))) i 0 < 2 ^ 64
      go true t =
          let p : 2 ^ suc (u % 64) ≡ 2 ^ (u % 64) * 2 = pow-suc 2 (u % 64) in
          let z = pow_pos (u % 64) in
          let y : 2 ^ suc (u % 64) ≤ 2 ^ 64 = pow-le (suc (u % 64)) 64 (omega arith) in
          rw (eqb-true i (u / 64) t, get_or-set_same ws (u / 64) (bit_or (get_or ws (u / 64) 0) (2 ^ (u % 64))) 0 (omega arith))
          (or_lt 64 (get_or ws (u / 64) 0) (2 ^ (u % 64)) (f (u / 64)) (omega arith))
      go false t = rw (get_or-set_other ws (u / 64) i (bit_or (get_or ws (u / 64) 0) (2 ^ (u % 64))) 0 (eqb-false i (u / 64) t)) (f i)

  unpack-one : unpack (set ws (u / 64) (bit_or (get_or ws (u / 64) 0) (2 ^ (u % 64)))) ≡ fill u 1 (unpack ws)
  unpack-one =
      let a = length-unpack (set ws (u / 64) (bit_or (get_or ws (u / 64) 0) (2 ^ (u % 64)))) in
      let b = length-set ws (u / 64) (bit_or (get_or ws (u / 64) 0) (2 ^ (u % 64))) in
      let d = length-unpack ws in
      let k = length-fill u 1 (unpack ws) in
      ext_get_or false (unpack (set ws (u / 64) (bit_or (get_or ws (u / 64) 0) (2 ^ (u % 64))))) (fill u 1 (unpack ws)) (omega arith)
      (λ i hi. one_at i (omega arith) ∙ sym (fill-at u 1 (unpack ws) i (omega arith)))

  pub mark-one-is : ((i : ℕ) → get_or ws i 0 < 2 ^ 64) → set ws (u / 64) (bit_or (get_or ws (u / 64) 0) (2 ^ (u % 64))) ≡ pack (fill u 1 (unpack ws))
  mark-one-is f =
      sym (pack-unpack (set ws (u / 64) (bit_or (get_or ws (u / 64) 0) (2 ^ (u % 64)))) (length-set ws (u / 64) (bit_or (get_or ws (u / 64) 0) (2 ^ (u % 64))) ∙ l) (fits_one f))
      ∙ ap pack unpack-one

-- ---- past the last unit

pub past-none : (l : List Bool) (u : ℕ) → length l ≤ u → get_or l u false ≡ false
past-none [] u h = refl
past-none (a ∷ l) zero h = absurd (not-suc-le-zero h)
past-none (a ∷ l) (suc u) h = past-none l u (le_of_suc-le-suc h)

-- a unit without a mark
pub has-past : (l : List Bool) (u e : ℕ) → u < e → length l < e → has_in false l u (e - u) ≡ true
has-past l u e h k = go (has_in false l u (e - u)) refl
  where
    go : (t : Bool) → has_in false l u (e - u) ≡ t → t ≡ true
    go true p = refl
    go false p =
        let n : u + (e - 1 - u) ≡ e - 1 = omega arith in
        let q : same (get_or l (u + (e - 1 - u)) false) false ≡ false = has-none false l u (e - u) p (e - 1 - u) (omega arith) in
        sym (rw (n, past-none l (e - 1) (omega arith)) at q)

-- the marked ones end with the list
pub has_within : (l : List Bool) (u e n : ℕ) → length l ≡ n → n ≤ e → has_in true l u (e - u) ≡ has_in true l u (n - u)
has_within l u e n h k =
    both-no (has_in true l u (e - u)) (has_in true l u (n - u))
    (λ p. none_has true l u (n - u) (λ d hd. has-none true l u (e - u) p d (omega arith)))
    (λ p. none_has true l u (e - u) (λ d hd. go p d (ltb (u + d) n) refl))
  where
    go : has_in true l u (n - u) ≡ false → (d : ℕ) → (t : Bool) → ltb (u + d) n ≡ t → same (get_or l (u + d) false) true ≡ false
    go p d true t = let lt = ltb-true (u + d) n t in has-none true l u (n - u) p d (omega arith)
    go p d false t = let ge = ltb-false (u + d) n t in rw (past-none l (u + d) (omega arith)) refl

pub empty-range : (b : Bool) (l : List Bool) (u e : ℕ) → e ≤ u → has_in b l u (e - u) ≡ false
unfolding has_in
empty-range b l u e h = let n : e - u ≡ 0 = omega arith in rw n

pub empty-fill : (l : List Bool) (u e : ℕ) → e ≤ u → fill u (e - u) l ≡ l
unfolding fill
empty-fill l u e h = let n : e - u ≡ 0 = omega arith in rw n

pub past-fill : (l : List Bool) (u : ℕ) → length l ≤ u → fill u 1 l ≡ l
past-fill l u h =
    let k = length-fill u 1 l in
    ext_get_or false (fill u 1 l) l k
    (λ i hi. fill-at u 1 l i (omega arith) ∙ ap (λ (x : Bool). choose x true (get_or l i false)) (in-before u (u + 1) i (omega arith)))
