-- What a printer leaves, from the runs that it puts.
use Rattle.std.proofs.Common.{◌≡◌, ℕ, zero, suc, ◌+◌, ◌-◌, ◌*◌, ◌/◌, ◌%◌, ◌<◌, ◌≤◌, List, [], ◌∷◌, length, get_or, drop, set, sym, refl, ap, ◌∙◌, not-suc-le-zero, add_assoc, add-one, sub-one, arith, length-append, drop_of_length-le, drop-cons, le-leb}
use lib.Seq.{set_comm, sets, sets-eq}
use borrow.Rule.Slice.PartMut.{put_mid}
use Rattle.std.proofs.Common.{take, append_assoc, ◌++◌, drop-drop}
use borrow.Author.Tests.{lt-leb}
use Rattle.octets.specs.Write.{put}
use Rattle.octets.proofs.Puts.{put-append}
use Rattle.io.specs.Digits.{last_digits, hex_digit_ascii}
use Rattle.text.specs.Text.{Printed, hex_bytes}

pub printed-all : (at : ℕ) (t was room : List ℕ) (n : ℕ) → at + length t ≤ length was → room ≡ put at t was → n ≡ at + length t → Printed at t was room n
printed-all at t was room n h p q =
    record { filled = rw (le-leb (at + length t) (length was) h) p; behind = rw (le-leb (at + length t) (length was) h) q }

pub printed-none : (at : ℕ) (t was : List ℕ) → length was < at + length t → Printed at t was was at
printed-none at t was h =
    record { filled = rw (lt-leb (at + length t) (length was) h) refl; behind = rw (lt-leb (at + length t) (length was) h) refl }

-- ---- a text
put-sets : (at : ℕ) (bs l : List ℕ) → put at bs l ≡ sets l at bs
unfolding put
put-sets at [] l = refl
put-sets at (b ∷ bs) l = put-sets (at + 1) bs (set l at b) ∙ ap (λ k. sets (set l at b) k bs) (add-one at)

pub put-inside : (at : ℕ) (bs l : List ℕ) → at + length bs ≤ length l → put at bs l ≡ (take at l ++ bs) ++ drop (at + length bs) l
put-inside at bs l h = put-sets at bs l ∙ sets-eq bs l at h

pub copied : (at k : ℕ) (s r l : List ℕ) → at + length s ≤ length l → k ≡ length s → r ≡ s → put_mid at k l r ≡ put at s l
copied at k s r l h e f =
    let d : drop k (drop at l) ≡ drop (at + length s) l = drop-drop k at l ∙ ap (λ n. drop (at + n) l) e in
    ap (λ t. take at l ++ (t ++ drop k (drop at l))) f
    ∙ ap (λ t. take at l ++ (s ++ t)) d
    ∙ sym (append_assoc (take at l) s (drop (at + length s) l))
    ∙ sym (put-inside at s l h)

-- ---- digits, from the last to the first
put-set : (at : ℕ) (bs l : List ℕ) (j g : ℕ) → at + length bs ≤ j → set (put at bs l) j g ≡ put at bs (set l j g)
unfolding put
put-set at [] l j g h = refl
put-set at (b ∷ bs) l j g h =
    put-set (at + 1) bs (set l at b) j g (omega arith)
    ∙ ap (λ z. put (at + 1) bs z) (set_comm l at j b g (λ e. omega (arith, e)))

pub length_digits : (b k n : ℕ) → length (last_digits b k n) ≡ k
length_digits b zero n = refl
length_digits b (suc k) n = omega (arith, length-append (last_digits b k (n / b)) (hex_digit_ascii (n % b) ∷ []), length_digits b k (n / b))

last-digit : (at k rest : ℕ) (out : List ℕ) → put at (last_digits 16 k (rest / 16)) (set out (at + k) (hex_digit_ascii (rest % 16))) ≡ put at (last_digits 16 (suc k) rest) out
unfolding put
last-digit at k rest out =
    let ds : List ℕ = last_digits 16 k (rest / 16) in
    let g : ℕ = hex_digit_ascii (rest % 16) in
    let h : length ds ≡ k = length_digits 16 k (rest / 16) in
    sym (put-set at ds out (at + k) g (omega arith))
    ∙ ap (λ m. set (put at ds out) (at + m) g) (sym h)
    ∙ sym (put-append at ds (g ∷ []) out)

pub hex-step : (at i rest : ℕ) (out : List ℕ) (g : ℕ) → 0 < i → g ≡ hex_digit_ascii (rest % 16) → put at (last_digits 16 (i - 1) (rest / 16)) (set out (at + (i - 1)) g) ≡ put at (last_digits 16 i rest) out
hex-step at zero rest out g h e = absurd (not-suc-le-zero h)
hex-step at (suc k) rest out g h e =
    ap (λ m. put at (last_digits 16 m (rest / 16)) (set out (at + m) g)) (sub-one (suc k))
    ∙ ap (λ y. put at (last_digits 16 k (rest / 16)) (set out (at + k) y)) e
    ∙ last-digit at k rest out

-- ---- two digits a byte
pub length-hex : (s : List ℕ) → length (hex_bytes s) ≡ length s * 2
unfolding hex_bytes
length-hex [] = refl
length-hex (b ∷ s) = omega (arith, length-hex s)

pub bytes-step : (at i : ℕ) (s out : List ℕ) (g h : ℕ) → i < length s → g ≡ hex_digit_ascii (get_or s i 0 / 16) → h ≡ hex_digit_ascii (get_or s i 0 % 16) → put (at + (i + 1) * 2) (hex_bytes (drop (i + 1) s)) (set (set out (at + i * 2) g) (at + i * 2 + 1) h) ≡ put (at + i * 2) (hex_bytes (drop i s)) out
unfolding put hex_bytes
bytes-step at i s out g h l p q =
    let k : ℕ = at + i * 2 in
    let n : at + (i + 1) * 2 ≡ k + 1 + 1 = omega arith in
    let x : ℕ = get_or s i 0 in
    ap (λ m. put (at + (i + 1) * 2) (hex_bytes (drop m s)) (set (set out k g) (k + 1) h)) (add-one i)
    ∙ ap (λ m. put m (hex_bytes (drop (suc i) s)) (set (set out k g) (k + 1) h)) n
    ∙ ap (λ y. put (k + 1 + 1) (hex_bytes (drop (suc i) s)) (set (set out k y) (k + 1) h)) p
    ∙ ap (λ y. put (k + 1 + 1) (hex_bytes (drop (suc i) s)) (set (set out k (hex_digit_ascii (x / 16))) (k + 1) y)) q
    ∙ ap (λ z. put k (hex_bytes z) out) (sym (drop-cons s i 0 l))

-- ---- the end of each loop: nothing is left
pub hex-done : (at i rest : ℕ) (out : List ℕ) → i ≡ 0 → out ≡ put at (last_digits 16 i rest) out
unfolding put
hex-done at i rest out h = ap (λ k. put at (last_digits 16 k rest) out) (sym h)

pub bytes-done : (at i : ℕ) (s out : List ℕ) → length s ≤ i → out ≡ put (at + i * 2) (hex_bytes (drop i s)) out
unfolding put hex_bytes
bytes-done at i s out h = ap (λ l. put (at + i * 2) (hex_bytes l) out) (sym (drop_of_length-le s h))
