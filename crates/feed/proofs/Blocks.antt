-- Laws of reading on: a file that grows behind is read on from where it was left, and the whole file is what was read, with what is left
-- at the end a bad block.
use Prim.Native.Nat.{ℕ, zero, suc, ◌+◌, ◌*◌, ◌/◌, ◌≤◌, ◌<◌}
use native.Mathlib.Omega.{arith}
use mathlib.Core.Bool.{Bool, true, false, ◌&&◌}
use mathlib.Core.List.{List, [], ◌∷◌, ◌++◌, append_assoc}
use mathlib.Core.Path.{◌≡◌, refl, sym, ap, ap₂, ◌∙◌}
use lib.ListN.{length, take, drop, length-append, length-drop}
use lib.Seq.{take_all, take_at, drop_at, take-append-le, drop-append-le, length-take-le}
use lib.Dec.{ltb}
use borrow.Author.Tests.{ne_eqb, ltb-true, ltb-false}
use Rattle.octets.specs.Read.{choose}
use Rattle.capture.specs.Block.{frames_of, good_block, good_head, good_places, good_end}
use Rattle.capture.specs.File.{First, none, bad_at, FramesTold, pieces, blocks_of, tell, joined}
use Rattle.feed.specs.Reading.{Reading, behind, read_blocks, read_on}
use Rattle.feed.specs.Runs.{frames_all}
use Rattle.capture.proofs.File.{cut}

-- ---- one block
abbrev pub halt : ℕ → Reading
halt b = record { blocks = []; due = b; bad = true; rest = [] }

abbrev pub short : ℕ → List ℕ → Reading
short b s = record { blocks = []; due = b; bad = false; rest = s }

pub read_short : (b : ℕ) (s : List ℕ) → length s < 512 → read_on b s ≡ short b s
unfolding read_blocks
read_short b s h = let e : length s / 512 ≡ 0 = omega arith in ap (λ n. read_blocks n b s) e

pub read-cut : (b : ℕ) (s : List ℕ) → 512 ≤ length s
    → read_on b s ≡ choose (good_block b (take 512 s)) (behind (take 512 s ∷ []) (read_on (b + 1) (drop 512 s))) (halt b)
unfolding read_blocks
read-cut b s h =
    let e : length s / 512 ≡ suc (length (drop 512 s) / 512) = omega (arith, length-drop 512 s) in
    ap (λ n. read_blocks n b s) e

pub read-good : (b : ℕ) (s : List ℕ) → 512 ≤ length s → good_block b (take 512 s) ≡ true → read_on b s ≡ behind (take 512 s ∷ []) (read_on (b + 1) (drop 512 s))
read-good b s h g = read-cut b s h ∙ ap (λ t. choose t (behind (take 512 s ∷ []) (read_on (b + 1) (drop 512 s))) (halt b)) g

pub read-bad : (b : ℕ) (s : List ℕ) → 512 ≤ length s → good_block b (take 512 s) ≡ false → read_on b s ≡ halt b
read-bad b s h g = read-cut b s h ∙ ap (λ t. choose t (behind (take 512 s ∷ []) (read_on (b + 1) (drop 512 s))) (halt b)) g

-- ---- more bytes behind
abbrev pub onward : Reading → List ℕ → Reading
onward r t = choose r.bad r (behind r.blocks (read_on r.due (r.rest ++ t)))

onward-go : (x : List ℕ) (bs : List (List ℕ)) (n : ℕ) (t : Bool) (s u : List ℕ)
    → behind (x ∷ []) (onward (record { blocks = bs; due = n; bad = t; rest = s }) u) ≡ onward (record { blocks = x ∷ bs; due = n; bad = t; rest = s }) u
onward-go x bs n true s u = refl
onward-go x bs n false s u = refl

onward-behind : (x : List ℕ) (r : Reading) (u : List ℕ) → behind (x ∷ []) (onward r u) ≡ onward (behind (x ∷ []) r) u
onward-behind x r u = onward-go x r.blocks r.due r.bad r.rest u

append-go : (n : ℕ) (t : Bool) (b : ℕ) (s u : List ℕ) → length s / 512 ≡ n → good_block b (take 512 s) ≡ t → read_on b (s ++ u) ≡ onward (read_on b s) u
append-go zero t b s u e g =
    let h : length s < 512 = omega arith in
    sym (ap (λ r. onward r u) (read_short b s h))
append-go (suc n) true b s u e g =
    let h : 512 ≤ length s = omega arith in
    let k : 512 ≤ length (s ++ u) = omega (arith, length-append s u) in
    let d : length (drop 512 s) / 512 ≡ n = omega (arith, length-drop 512 s) in
    let T = take-append-le 512 s u h in
    read-good b (s ++ u) k (ap (good_block b) T ∙ g)
    ∙ ap₂ (λ x l. behind (x ∷ []) (read_on (b + 1) l)) T (drop-append-le 512 s u h)
    ∙ ap (behind (take 512 s ∷ [])) (append-go n (good_block (b + 1) (take 512 (drop 512 s))) (b + 1) (drop 512 s) u d refl)
    ∙ onward-behind (take 512 s) (read_on (b + 1) (drop 512 s)) u
    ∙ sym (ap (λ r. onward r u) (read-good b s h g))
append-go (suc n) false b s u e g =
    let h : 512 ≤ length s = omega arith in
    let k : 512 ≤ length (s ++ u) = omega (arith, length-append s u) in
    read-bad b (s ++ u) k (ap (good_block b) (take-append-le 512 s u h) ∙ g)
    ∙ sym (ap (λ r. onward r u) (read-bad b s h g))

pub read-append : (b : ℕ) (s u : List ℕ) → read_on b (s ++ u) ≡ onward (read_on b s) u
read-append b s u = append-go (length s / 512) (good_block b (take 512 s)) b s u refl refl

-- ---- the blocks that were read stand one behind the other
pieces_go : (n : ℕ) (t : Bool) (b : ℕ) (s z : List ℕ) → length s / 512 ≡ n → good_block b (take 512 s) ≡ t
    → pieces (length (read_on b s).blocks) (joined (read_on b s).blocks ++ z) ≡ (read_on b s).blocks
unfolding pieces joined
pieces_go zero t b s z e g =
    let h : length s < 512 = omega arith in
    rw (read_short b s h) refl
pieces_go (suc n) true b s z e g =
    let h : 512 ≤ length s = omega arith in
    let d : length (drop 512 s) / 512 ≡ n = omega (arith, length-drop 512 s) in
    let x = take 512 s in
    let l : length x ≡ 512 = length-take-le 512 s h in
    let r = read_on (b + 1) (drop 512 s) in
    let ih = pieces_go n (good_block (b + 1) (take 512 (drop 512 s))) (b + 1) (drop 512 s) z d refl in
    rw (read-good b s h g)
    (ap (pieces (suc (length r.blocks))) (append_assoc x (joined r.blocks) z)
    ∙ ap₂ (λ p q. p ∷ pieces (length r.blocks) q) (take_at x (joined r.blocks ++ z) 512 l) (drop_at x (joined r.blocks ++ z) 512 l)
    ∙ ap (λ q. x ∷ q) ih)
pieces_go (suc n) false b s z e g =
    let h : 512 ≤ length s = omega arith in
    rw (read-bad b s h g) refl

pub pieces-back : (b : ℕ) (s z : List ℕ) → pieces (length (read_on b s).blocks) (joined (read_on b s).blocks ++ z) ≡ (read_on b s).blocks
pieces-back b s z = pieces_go (length s / 512) (good_block b (take 512 s)) b s z refl refl

-- ---- how much there is: less than a block is left over, and the blocks are no more than the bytes
rest-go : (n : ℕ) (t : Bool) (b : ℕ) (s : List ℕ) → length s / 512 ≡ n → good_block b (take 512 s) ≡ t
    → (length (read_on b s).rest < 512) × (length (read_on b s).blocks * 512 ≤ length s)
rest-go zero t b s e g =
    let h : length s < 512 = omega arith in
    rw (read_short b s h) (h, omega arith)
rest-go (suc n) true b s e g =
    let h : 512 ≤ length s = omega arith in
    let d : length (drop 512 s) / 512 ≡ n = omega (arith, length-drop 512 s) in
    let ih = rest-go n (good_block (b + 1) (take 512 (drop 512 s))) (b + 1) (drop 512 s) d refl in
    rw (read-good b s h g) (ih.0, omega (arith, ih.1, length-drop 512 s))
rest-go (suc n) false b s e g =
    let h : 512 ≤ length s = omega arith in
    rw (read-bad b s h g) (omega arith, omega arith)

module _ (b : ℕ) (s : List ℕ) where
  pub rest-short : length (read_on b s).rest < 512
  rest-short = (rest-go (length s / 512) (good_block b (take 512 s)) b s refl refl).0

  pub blocks-few : length (read_on b s).blocks * 512 ≤ length s
  blocks-few = (rest-go (length s / 512) (good_block b (take 512 s)) b s refl refl).1

-- ---- the whole file
-- what was read, and then the end
abbrev pub first_by : Reading → First
first_by r = choose r.bad (bad_at r.due) none

abbrev pub told_by : Reading → FramesTold
told_by r = record { frames = frames_all r.blocks; first = choose r.bad (bad_at r.due) (choose (ltb 0 (length r.rest)) (bad_at r.due) none) }

no_block : (b : ℕ) (s : List ℕ) → length s < 512 → good_block b s ≡ false
unfolding good_block
no_block b s h =
    let k : length s ≡ 512 → ⊥ = λ e. omega arith in
    ap (λ t. t && (good_head b s && (good_places s && good_end s))) (ne_eqb (length s) 512 k)

tell-short : (t : Bool) (b : ℕ) (s : List ℕ) → length s < 512 → ltb 0 (length s) ≡ t → tell b (blocks_of s) ≡ told_by (short b s)
unfolding tell frames_all pieces
tell-short true b s h g =
    let k : 0 < length s = ltb-true 0 (length s) g in
    let w : length s ≤ 512 = omega arith in
    let d : (length (drop 512 s) + 511) / 512 ≡ 0 = omega (arith, length-drop 512 s) in
    ap (tell b) (cut s k ∙ ap₂ (λ x m. x ∷ pieces m (drop 512 s)) (take_all 512 s w) d)
    ∙ rw (no_block b s h, g) refl
tell-short false b s h g =
    let k : length s ≤ 0 = ltb-false 0 (length s) g in
    let d : (length s + 511) / 512 ≡ 0 = omega arith in
    ap (λ m. tell b (pieces m s)) d ∙ rw g refl

tell-go : (n : ℕ) (t : Bool) (b : ℕ) (s : List ℕ) → length s / 512 ≡ n → good_block b (take 512 s) ≡ t → tell b (blocks_of s) ≡ told_by (read_on b s)
unfolding tell frames_all
tell-go zero t b s e g =
    let h : length s < 512 = omega arith in
    tell-short (ltb 0 (length s)) b s h refl ∙ sym (ap told_by (read_short b s h))
tell-go (suc n) true b s e g =
    let h : 512 ≤ length s = omega arith in
    let k : 0 < length s = omega arith in
    let d : length (drop 512 s) / 512 ≡ n = omega (arith, length-drop 512 s) in
    let ih = tell-go n (good_block (b + 1) (take 512 (drop 512 s))) (b + 1) (drop 512 s) d refl in
    ap (tell b) (cut s k)
    ∙ rw g (ap (λ (q : FramesTold). record { frames = frames_of (take 512 s) ++ q.frames; first = q.first }) ih)
    ∙ sym (ap told_by (read-good b s h g))
tell-go (suc n) false b s e g =
    let h : 512 ≤ length s = omega arith in
    let k : 0 < length s = omega arith in
    ap (tell b) (cut s k) ∙ rw g refl ∙ sym (ap told_by (read-bad b s h g))

pub tell-is : (b : ℕ) (s : List ℕ) → tell b (blocks_of s) ≡ told_by (read_on b s)
tell-is b s = tell-go (length s / 512) (good_block b (take 512 s)) b s refl refl
