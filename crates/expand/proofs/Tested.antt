-- A carried checksum that is tested: what the code finds, and that it is RFC 768's sum over pseudo-header and data.
use Prim.Native.Nat.{ℕ, ◌+◌, ◌-◌, ◌*◌, ◌/◌, ◌%◌, ◌^◌, ◌≤◌, ◌<◌}
use native.Mathlib.Nat.{add-zero, sub-zero}
use native.Mathlib.Omega.{arith}
use mathlib.Core.List.{List, ◌∷◌, ◌++◌}
use mathlib.Core.Bool.{Bool, true, false, ◌&&◌}
use mathlib.Core.Path.{◌≡◌, refl, sym, ap, ◌∙◌}
use lib.ListN.{length, get_or, take, drop, length-take, take-append-drop}
use lib.Seq.{get_or-take, get_or-drop, drop-drop, drop-cons}
use lib.Dec.{eqb, leb}
use borrow.Author.Tests.{leb-true, le-leb, lt-leb, eq-eqb, ne_eqb, eqb-true, eqb-false}
use Rattle.octets.specs.Read.{choose}
use Rattle.octets.specs.Write.{be16_bytes}
use Rattle.expand.specs.Sum.{words, ones_sum, pseudo, covered, udp_checksum, seen, checksum_at, was_carried, stands, be16_at, holds, holds_in, sum_words}
use Rattle.expand.specs.declared.checksum.UdpSum.{UdpSum}
use Rattle.expand.proofs.SumLaws.{Bytes, norm, ones-norm, covered-bytes, covered-sum, stands-facts, length_seen, behind-seen}
use Rattle.expand.proofs.ChecksumLaws.{checksum-sent, sent, all_ones, bytes-seen}

-- ---- the code
not-tested-go : (m : UdpSum) (n : ℕ) (l : List ℕ) (t : Bool) → leb n (length l) ≡ t → (was_carried m && stands m n) ≡ false → true ≡ choose t (holds m (take n l)) true
unfolding holds
not-tested-go m n l true e h =
    let k : length (take n l) ≡ n = omega (arith, length-take n l, leb-true n (length l) e) in
    rw (k, h) refl
not-tested-go m n l false e h = refl

not_tested : (m : UdpSum) (n : ℕ) (l : List ℕ) → (was_carried m && stands m n) ≡ false → true ≡ holds_in m n l
unfolding holds_in
not_tested m n l h = not-tested-go m n l (leb n (length l)) refl h

pub not_carried : (m : UdpSum) (n : ℕ) (l : List ℕ) → (m.kind ≡ 2 → ⊥) → true ≡ holds_in m n l
not_carried m n l h = not_tested m n l (rw (ne_eqb m.kind 2 h) refl)

pub not_there : (m : UdpSum) (n : ℕ) (l : List ℕ) → length l < n → true ≡ holds_in m n l
unfolding holds_in
not_there m n l h = rw (lt-leb n (length l) h) refl

pub not-stood : {t : Bool} (m : UdpSum) (n : ℕ) (l : List ℕ) → t ≡ stands m n → t ≡ false → m.kind ≡ 2 → true ≡ holds_in m n l
not-stood m n l p q h = not_tested m n l (rw (eq-eqb m.kind 2 h) (sym p ∙ q))

pub tested : {t : Bool} (m : UdpSum) (n w c : ℕ) (l : List ℕ) (r : Bool) → t ≡ stands m n → t ≡ true → m.kind ≡ 2 → n ≤ length l → w ≡ be16_at (m.udp + 6) l → c ≡ checksum_at m.ip m.udp (take (n - 0) l) → r ≡ eqb w c → r ≡ holds_in m n l
unfolding holds_in holds
tested m n w c l r p q h k a b e =
    let st : stands m n ≡ true = sym p ∙ q in
    let f = stands-facts m n st in
    let d = take n l in
    let ld : length d ≡ n = omega (arith, length-take n l) in
    let g : be16_at (m.udp + 6) d ≡ be16_at (m.udp + 6) l = rw (get_or-take n l (m.udp + 6) 0 (omega (arith, f)), get_or-take n l (m.udp + 6 + 1) 0 (omega (arith, f))) refl in
    rw (le-leb n (length l) k, ld, eq-eqb m.kind 2 h, st)
    (e ∙ ap (λ z. eqb z c) (a ∙ sym g) ∙ ap (eqb (be16_at (m.udp + 6) d)) (b ∙ ap (λ z. checksum_at m.ip m.udp (take z l)) (sub-zero n)))

pub ruleset tests = (not_carried, not_there, not-stood)

-- ---- RFC 768, RFC 1071: the sum over pseudo-header, UDP header and data, the checksum among them, is all ones, and the checksum is not 0
carried-apart : (d : List ℕ) → 48 ≤ length d → Bytes d → pseudo d ++ drop 40 d ≡ covered d (be16_at 46 d)
unfolding covered be16_bytes
carried-apart d h b =
    let c = be16_at 46 d in
    let x = get_or d 46 0 in
    let y = get_or d 47 0 in
    let e : drop 46 d ≡ x ∷ y ∷ drop 48 d = drop-cons d 46 0 (omega arith) ∙ ap (λ z. x ∷ z) (drop-cons d 47 0 (omega arith)) in
    let f : drop 40 d ≡ take 6 (drop 40 d) ++ drop 46 d = sym (take-append-drop 6 (drop 40 d)) ∙ ap (λ z. take 6 (drop 40 d) ++ z) (drop-drop 6 40 d) in
    let bx : x < 256 = b 46 in
    let by : y < 256 = b 47 in
    let hi : c / 256 ≡ x = omega arith in
    let lo : c % 256 ≡ y = omega arith in
    rw (hi, lo) (ap (λ z. pseudo d ++ z) (f ∙ ap (λ z. take 6 (drop 40 d) ++ z) e))

-- n, less so many times 65535
norm-split : (n : ℕ) → (n ≡ norm n + 65535 * ((n - 1) / 65535)) × (norm n ≤ 65535)
norm-split n = (omega arith, omega arith)

apart-full : (x a k j : ℕ) → a + 65535 * k + x ≡ 65535 + 65535 * j → 1 ≤ x → x ≤ 65535 → a ≡ 65535 → x ≡ 65535
apart-full x a k j e h l z = omega arith

apart_some : (x a k j : ℕ) → a + 65535 * k + x ≡ 65535 + 65535 * j → 1 ≤ x → x ≤ 65535 → a < 65535 → x + a ≡ 65535
apart_some x a k j e h l z = omega arith

joined : (s x : ℕ) → norm (s + x) ≡ 0xffff → norm s + 65535 * ((s - 1) / 65535) + x ≡ 65535 + 65535 * ((s + x - 1) / 65535)
joined s x e = ap (λ z. z + x) (sym (norm-split s).0) ∙ (norm-split (s + x)).0 ∙ ap (λ z. z + 65535 * ((s + x - 1) / 65535)) e

some-x : (x : ℕ) → (x ≡ 0 → ⊥) → 1 ≤ x
some-x x n = omega (arith, n)

below-x : (x : ℕ) → x < 2 ^ 16 → x ≤ 65535
below-x x k = omega arith

full-left : (s x : ℕ) → (x ≡ 0 → ⊥) → x < 2 ^ 16 → norm (s + x) ≡ 0xffff → 0xffff - norm s ≡ 0 → x ≡ 0xffff
full-left s x n k e q =
    let a : norm s ≡ 65535 = all_of (norm s) (norm-split s).1 q in
    apart-full x (norm s) ((s - 1) / 65535) ((s + x - 1) / 65535) (joined s x e) (some-x x n) (below-x x k) a
  where
    all_of : (y : ℕ) → y ≤ 65535 → 0xffff - y ≡ 0 → y ≡ 65535
    all_of y h z = omega arith

some_left : (s x : ℕ) → (x ≡ 0 → ⊥) → x < 2 ^ 16 → norm (s + x) ≡ 0xffff → (0xffff - norm s ≡ 0 → ⊥) → x ≡ 0xffff - norm s
some_left s x n k e q =
    let a : norm s < 65535 = less-than (norm s) q in
    minus x (norm s) (apart_some x (norm s) ((s - 1) / 65535) ((s + x - 1) / 65535) (joined s x e) (some-x x n) (below-x x k) a)
  where
    less-than : (y : ℕ) → (0xffff - y ≡ 0 → ⊥) → y < 65535
    less-than y z = omega (arith, z)

    minus : (x y : ℕ) → x + y ≡ 65535 → x ≡ 0xffff - y
    minus x y h = omega arith

module _ (d : List ℕ) (low : 48 ≤ length d) (high : length d ≤ 65575) (bytes : Bytes d) where
  small : be16_at 46 d < 2 ^ 16
  small = omega (arith, bytes 46, bytes 47)

  carried-sum : ones_sum (words (pseudo d ++ drop 40 d)) ≡ norm (sum_words (covered d 0) + be16_at 46 d)
  carried-sum =
      ap (λ z. ones_sum (words z)) (carried-apart d low bytes)
      ∙ ones-norm (covered d (be16_at 46 d)) (covered-bytes d low high (be16_at 46 d) small bytes)
      ∙ ap norm (omega (arith, covered-sum d low high (be16_at 46 d), covered-sum d low high 0))

  pub right-sum : be16_at 46 d ≡ udp_checksum d → (be16_at 46 d ≡ 0 → ⊥) × (ones_sum (words (pseudo d ++ drop 40 d)) ≡ 0xffff)
  right-sum e =
      let s : be16_at 46 d ≡ sent (norm (sum_words (covered d 0))) = e ∙ checksum-sent d low high bytes in
      (λ z. sent-some (norm (sum_words (covered d 0))) (sym s ∙ z), carried-sum ∙ ap (λ z. norm (sum_words (covered d 0) + z)) s ∙ all_ones (sum_words (covered d 0)))
    where
      sent-some : (x : ℕ) → sent x ≡ 0 → ⊥
      sent-some x = go (eqb (0xffff - x) 0) refl
        where
          go : (t : Bool) → eqb (0xffff - x) 0 ≡ t → choose t 0xffff (0xffff - x) ≡ 0 → ⊥
          go true q z = omega (arith, z)
          go false q z = eqb-false (0xffff - x) 0 q z

  pub sum-right : (be16_at 46 d ≡ 0 → ⊥) → ones_sum (words (pseudo d ++ drop 40 d)) ≡ 0xffff → be16_at 46 d ≡ udp_checksum d
  sum-right n e = back (sum_words (covered d 0)) (be16_at 46 d) n small (sym carried-sum ∙ e) ∙ sym (checksum-sent d low high bytes)
    where
      back : (s x : ℕ) → (x ≡ 0 → ⊥) → x < 2 ^ 16 → norm (s + x) ≡ 0xffff → x ≡ sent (norm s)
      back s x n k e = go (eqb (0xffff - norm s) 0) refl
        where
          go : (t : Bool) → eqb (0xffff - norm s) 0 ≡ t → x ≡ choose t 0xffff (0xffff - norm s)
          go true q = full-left s x n k e (eqb-true (0xffff - norm s) 0 q)
          go false q = some_left s x n k e (eqb-false (0xffff - norm s) 0 q)

-- ---- the test: where a checksum was carried and its headers stand in the datagram, it holds exactly when it is not 0 and the sum is all ones
pub record Right (i u : ℕ) (d : List ℕ) : Type 0 where
  pub not-zero : be16_at (u + 6) d ≡ 0 → ⊥
  pub all_ones : ones_sum (words (pseudo (seen i u d) ++ drop 40 (seen i u d))) ≡ 0xffff

module _ (i u : ℕ) (d : List ℕ) (apart : i + 40 ≤ u) (low : u + 8 ≤ length d) (high : length d ≤ u + 65535) (bytes : Bytes d) where
  length-is : length (seen i u d) ≡ 40 + (length d - u)
  length-is = length_seen i u d apart low high

  place_is : be16_at 46 (seen i u d) ≡ be16_at (u + 6) d
  place_is =
      let f : (k : ℕ) → get_or (seen i u d) (40 + k) 0 ≡ get_or d (u + k) 0 = λ k. sym (get_or-drop (40 + k) (seen i u d) 0 0 ∙ ap (λ z. get_or (seen i u d) z 0) (add-zero (40 + k))) ∙ ap (λ z. get_or z 0 0) (behind-seen i u d apart low high k) ∙ get_or-drop (u + k) d 0 0 ∙ ap (λ z. get_or d z 0) (add-zero (u + k)) in
      let g : u + 6 + 1 ≡ u + 7 = omega arith in
      rw (f 6, f 7, g) refl

  pub right-holds : Right i u d → be16_at (u + 6) d ≡ checksum_at i u d
  unfolding checksum_at
  right-holds R = sym place_is ∙ sum-right (seen i u d) (omega (arith, length-is)) (omega (arith, length-is)) (bytes-seen i u d bytes) (λ z. R.not-zero (sym place_is ∙ z)) R.all_ones

  pub holds-right : be16_at (u + 6) d ≡ checksum_at i u d → Right i u d
  unfolding checksum_at
  holds-right e =
      let r = right-sum (seen i u d) (omega (arith, length-is)) (omega (arith, length-is)) (bytes-seen i u d bytes) (place_is ∙ e) in
      record { not-zero = λ z. r.0 (place_is ∙ z); all_ones = r.1 }
