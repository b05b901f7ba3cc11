-- What the checksum does for a receiver (RFC 1071, 1: the sum over everything, the checksum included, is all ones), and that what stood in its
-- place before does not matter.
use Prim.Native.Nat.{ℕ, ◌+◌, ◌-◌, ◌^◌, ◌≤◌, ◌<◌}
use native.Mathlib.Omega.{arith}
use mathlib.Core.List.{List, [], ◌∷◌, ◌++◌, append_assoc}
use mathlib.Core.Bool.{Bool, true, false}
use mathlib.Core.Path.{◌≡◌, refl, sym, ap, subst, ◌∙◌}
use native.Mathlib.Nat.{add_assoc}
use lib.ListN.{length, set, take, drop, length-take, length-drop, take-append-drop}
use lib.Seq.{take-add, take_at, drop_at, drop-drop, take-set-le, drop-set-add}
use lib.Dec.{eqb}
use borrow.Author.Tests.{eqb-true, eqb-false}
use Rattle.octets.specs.Read.{choose}
use Rattle.octets.specs.Write.{put, be16_bytes}
use Rattle.expand.specs.Sum.{words, ones_sum, pseudo, covered, udp_checksum, summed, seen, checksum_at, summed_at, sum_words}
use Rattle.expand.proofs.CopyLaws.{put-inside, length-put}
use Rattle.expand.proofs.SumLaws.{Bytes, bytes-append, bytes_take, bytes_drop, norm, ones-norm, covered-bytes, covered-sum, length_seen}

-- ---- a datagram whose checksum's place holds the two bytes bs
abbrev front : List ℕ → List ℕ
front d = take 8 d

abbrev both : List ℕ → List ℕ
both d = take 32 (drop 8 d)

abbrev ports : List ℕ → List ℕ
ports d = take 6 (drop 40 d)

module _ (d : List ℕ) (low : 48 ≤ length d) where
  length_front : length (front d) ≡ 8
  length_front = omega (arith, length-take 8 d)

  length_both : length (both d) ≡ 32
  length_both = omega (arith, length-take 32 (drop 8 d), length-drop 8 d)

  length-ports : length (ports d) ≡ 6
  length-ports = omega (arith, length-take 6 (drop 40 d), length-drop 40 d)

  shape : (bs : List ℕ) → length bs ≡ 2 → put 46 bs d ≡ front d ++ (both d ++ (ports d ++ (bs ++ drop 48 d)))
  shape bs two =
      let r = bs ++ drop 48 d in
      let e : take 38 (drop 8 d) ≡ both d ++ ports d = take-add 32 6 (drop 8 d) ∙ ap (λ z. both d ++ take 6 z) (drop-drop 32 8 d) in
      let f : take 46 d ≡ front d ++ (both d ++ ports d) = take-add 8 38 d ∙ ap (λ z. front d ++ z) e in
      let g : drop (46 + length bs) d ≡ drop 48 d = ap (λ n. drop (46 + n) d) two in
      put-inside 46 bs d (omega arith)
      ∙ ap (λ z. take 46 d ++ (bs ++ z)) g
      ∙ ap (λ z. z ++ r) f
      ∙ append_assoc (front d) (both d ++ ports d) r
      ∙ ap (λ z. front d ++ z) (append_assoc (both d) (ports d) r)

  behind-front : (bs : List ℕ) → length bs ≡ 2 → drop 8 (put 46 bs d) ≡ both d ++ (ports d ++ (bs ++ drop 48 d))
  behind-front bs two = ap (drop 8) (shape bs two) ∙ drop_at (front d) (both d ++ (ports d ++ (bs ++ drop 48 d))) 8 length_front

  behind-both : (bs : List ℕ) → length bs ≡ 2 → drop 40 (put 46 bs d) ≡ ports d ++ (bs ++ drop 48 d)
  behind-both bs two =
      sym (drop-drop 32 8 (put 46 bs d)) ∙ ap (drop 32) (behind-front bs two) ∙ drop_at (both d) (ports d ++ (bs ++ drop 48 d)) 32 length_both

  behind-ports : (bs : List ℕ) → length bs ≡ 2 → drop 46 (put 46 bs d) ≡ bs ++ drop 48 d
  behind-ports bs two = sym (drop-drop 6 40 (put 46 bs d)) ∙ ap (drop 6) (behind-both bs two) ∙ drop_at (ports d) (bs ++ drop 48 d) 6 length-ports

  behind_sum : (bs : List ℕ) → length bs ≡ 2 → drop 48 (put 46 bs d) ≡ drop 48 d
  behind_sum bs two = sym (drop-drop 2 46 (put 46 bs d)) ∙ ap (drop 2) (behind-ports bs two) ∙ drop_at bs (drop 48 d) 2 two

  pseudo-same : (bs : List ℕ) → length bs ≡ 2 → pseudo (put 46 bs d) ≡ pseudo d
  unfolding pseudo
  pseudo-same bs two =
      let e : take 32 (drop 8 (put 46 bs d)) ≡ both d = ap (take 32) (behind-front bs two) ∙ take_at (both d) (ports d ++ (bs ++ drop 48 d)) 32 length_both in
      rw (e, length-put 46 bs d) refl

  covered_same : (bs : List ℕ) → length bs ≡ 2 → (x : ℕ) → covered (put 46 bs d) x ≡ covered d x
  unfolding covered
  covered_same bs two x =
      let e : take 6 (drop 40 (put 46 bs d)) ≡ ports d = ap (take 6) (behind-both bs two) ∙ take_at (ports d) (bs ++ drop 48 d) 6 length-ports in
      rw (pseudo-same bs two, e, behind_sum bs two) refl

  -- the checksum does not depend on what stands in its place
  pub checksum-same : (bs : List ℕ) → length bs ≡ 2 → udp_checksum (put 46 bs d) ≡ udp_checksum d
  unfolding udp_checksum
  checksum-same bs two = rw (covered_same bs two 0) refl

put-again : (d : List ℕ) → 48 ≤ length d → (bs cs : List ℕ) → length bs ≡ 2 → length cs ≡ 2 → put 46 cs (put 46 bs d) ≡ put 46 cs d
put-again d low bs cs two deux =
    let m = put 46 bs d in
    let t = bs ++ drop 48 d in
    let f : front m ≡ front d = ap (take 8) (shape d low bs two) ∙ take_at (front d) (both d ++ (ports d ++ t)) 8 (length_front d low) in
    let b : both m ≡ both d = ap (take 32) (behind-front d low bs two) ∙ take_at (both d) (ports d ++ t) 32 (length_both d low) in
    let p : ports m ≡ ports d = ap (take 6) (behind-both d low bs two) ∙ take_at (ports d) t 6 (length-ports d low) in
    let h : 48 ≤ length m = omega (arith, length-put 46 bs d) in
    shape m h cs deux ∙ rw (f, b, p, behind_sum d low bs two) (sym (shape d low cs deux))

-- and so putting it in a second time changes nothing
pub summed-again : (d : List ℕ) → 48 ≤ length d → (bs : List ℕ) → length bs ≡ 2 → summed (put 46 bs d) ≡ summed d
unfolding summed be16_bytes
summed-again d low bs two = rw (checksum-same d low bs two) (put-again d low bs (be16_bytes (udp_checksum d)) two refl)

-- ---- all ones
abbrev pub sent : ℕ → ℕ
sent x = choose (eqb (0xffff - x) 0) 0xffff (0xffff - x)

pub all_ones : (n : ℕ) → norm (n + sent (norm n)) ≡ 0xffff
all_ones n = go (eqb (0xffff - norm n) 0) refl
  where
    go : (t : Bool) → eqb (0xffff - norm n) 0 ≡ t → norm (n + choose t 0xffff (0xffff - norm n)) ≡ 0xffff
    go true e = omega (arith, eqb-true (0xffff - norm n) 0 e)
    go false e = omega (arith, eqb-false (0xffff - norm n) 0 e)

sent-fits : (x : ℕ) → sent x < 2 ^ 16
sent-fits x = go (eqb (0xffff - x) 0)
  where
    go : (t : Bool) → choose t 0xffff (0xffff - x) < 2 ^ 16
    go true = omega arith
    go false = omega arith

pub checksum-fits : (d : List ℕ) → udp_checksum d < 2 ^ 16
unfolding udp_checksum
checksum-fits d = sent-fits (ones_sum (words (covered d 0)))

module _ (d : List ℕ) (low : 48 ≤ length d) (high : length d ≤ 65575) (bytes : Bytes d) where
  pub checksum-sent : udp_checksum d ≡ sent (norm (sum_words (covered d 0)))
  unfolding udp_checksum
  checksum-sent = ap sent (ones-norm (covered d 0) (covered-bytes d low high 0 (omega arith) bytes))

  covered-ones : ones_sum (words (covered d (udp_checksum d))) ≡ 0xffff
  covered-ones =
      let c = udp_checksum d in
      let e : sum_words (covered d c) ≡ sum_words (covered d 0) + c = omega (arith, covered-sum d low high c, covered-sum d low high 0) in
      ones-norm (covered d c) (covered-bytes d low high c (checksum-fits d) bytes)
      ∙ ap norm (e ∙ ap (λ x. sum_words (covered d 0) + x) checksum-sent)
      ∙ all_ones (sum_words (covered d 0))

-- the sum over the pseudo-header, the UDP header with its checksum and the data
pub checksum-holds : (d : List ℕ) → 48 ≤ length d → length d ≤ 65575 → Bytes (summed d) → ones_sum (words (pseudo (summed d) ++ drop 40 (summed d))) ≡ 0xffff
unfolding summed be16_bytes covered
checksum-holds d low high bytes =
    let c = be16_bytes (udp_checksum d) in
    let e : length (put 46 c d) ≡ length d = length-put 46 c d in
    let f : covered (put 46 c d) (udp_checksum (put 46 c d)) ≡ covered d (udp_checksum d) = ap (λ x. covered (put 46 c d) x) (checksum-same d low c refl) ∙ covered_same d low c refl (udp_checksum d) in
    rw (pseudo-same d low c refl, behind-both d low c refl)
    (sym (ap (λ x. ones_sum (words x)) f) ∙ covered-ones (put 46 c d) (omega arith) (omega arith) bytes)

-- ---- with a UDP header at u and the IPv6 header just outside it at i
drop-put : (n k : ℕ) (bs l : List ℕ) → drop n (put (n + k) bs l) ≡ put k bs (drop n l)
unfolding put
drop-put n k [] l = refl
drop-put n k (b ∷ bs) l =
    ap (λ z. drop n (put z bs (set l (n + k) b))) (add_assoc n k 1) ∙ drop-put n (k + 1) bs (set l (n + k) b) ∙ ap (put (k + 1) bs) (drop-set-add n l k b)

take_put : (n k : ℕ) (bs l : List ℕ) → n ≤ k → take n (put k bs l) ≡ take n l
unfolding put
take_put n k [] l h = refl
take_put n k (b ∷ bs) l h = take_put n (k + 1) bs (set l k b) (omega arith) ∙ take-set-le n l k b h

-- in the second of two parts
pub put-behind : (a x bs : List ℕ) (n k : ℕ) → length a ≡ n → put (n + k) bs (a ++ x) ≡ a ++ put k bs x
put-behind a x bs n k e =
    let y = put (n + k) bs (a ++ x) in
    let f : take n y ≡ a = take_put n (n + k) bs (a ++ x) (omega arith) ∙ take_at a x n e in
    let g : drop n y ≡ put k bs x = drop-put n k bs (a ++ x) ∙ ap (put k bs) (drop_at a x n e) in
    sym (take-append-drop n y) ∙ ap (λ z. z ++ drop n y) f ∙ ap (λ z. a ++ z) g

module _ (i u : ℕ) (d : List ℕ) (apart : i + 40 ≤ u) (low : u + 8 ≤ length d) where
  seen-put : (bs : List ℕ) → length bs ≡ 2 → seen i u (put (u + 6) bs d) ≡ put 46 bs (seen i u d)
  unfolding seen
  seen-put bs two =
      let j : ℕ = u + 6 - i in
      let e : u + 6 ≡ i + j = omega arith in
      let a : take 40 (drop i (put (u + 6) bs d)) ≡ take 40 (drop i d) = ap (λ z. take 40 (drop i (put z bs d))) e ∙ ap (take 40) (drop-put i j bs d) ∙ take_put 40 j bs (drop i d) (omega arith) in
      let la : length (take 40 (drop i d)) ≡ 40 = omega (arith, length-take 40 (drop i d), length-drop i d) in
      rw (a, drop-put u 6 bs d) (sym (put-behind (take 40 (drop i d)) (drop u d) bs 40 6 la))

  pub seen-summed : seen i u (summed_at i u d) ≡ summed (seen i u d)
  unfolding summed_at checksum_at summed be16_bytes
  seen-summed = seen-put (be16_bytes (udp_checksum (seen i u d))) refl

pub bytes-seen : (i u : ℕ) (d : List ℕ) → Bytes d → Bytes (seen i u d)
unfolding seen
bytes-seen i u d b = bytes-append (take 40 (drop i d)) (drop u d) (bytes_take 40 (drop i d) (bytes_drop i d b)) (bytes_drop u d b)

pub holds_at : (i u : ℕ) (d : List ℕ) → i + 40 ≤ u → u + 8 ≤ length d → length d ≤ u + 65535 → Bytes (summed_at i u d) → let x = seen i u (summed_at i u d) in ones_sum (words (pseudo x ++ drop 40 x)) ≡ 0xffff
holds_at i u d apart low high b =
    let e = seen-summed i u d apart low in
    let l = length_seen i u d apart low high in
    ap (λ x. ones_sum (words (pseudo x ++ drop 40 x))) e ∙ checksum-holds (seen i u d) (omega (arith, l)) (omega (arith, l)) (subst Bytes e (bytes-seen i u (summed_at i u d) b))
