-- What every expansion has: its headers, its length, and where its checksum stands.
use Rattle.ieee802154.specs.declared.addr.Address.{Address}
use Rattle.std.specs.Prelude.{Option, Some, None}
use Prim.Native.Nat.{ℕ, ◌+◌, ◌-◌, ◌/◌, ◌%◌, ◌≤◌}
use native.Mathlib.Omega.{arith}
use mathlib.Core.List.{List, ◌++◌}
use mathlib.Core.Bool.{Bool, true, false, true≢false, ◌||◌, ◌&&◌}
use mathlib.Core.Path.{◌≡◌, refl, sym, ap, subst, ◌∙◌}
use lib.ListN.{length, get_or, drop}
use lib.Seq.{get_or-append-add}
use lib.Dec.{eqb, ltb, leb}
use borrow.Author.Tests.{ltb-false, leb-true, le-leb, eqb-true}
use Rattle.octets.specs.Read.{Answer, is, refused, Read, got, and_then, choose}
use Rattle.octets.specs.Write.{be16_bytes}
use Rattle.octets.proofs.Spans.{not-refused}
use Rattle.iphc.specs.Iphc.{iphc}
use Rattle.iphc.specs.declared.header.Repr.{Repr}
use Rattle.sixlowpan.specs.declared.nhc.UdpNhcRepr.{UdpNhcRepr}
use Rattle.expand.specs.Sum.{words, ones_sum, pseudo, seen, summed_at, was_elided, stands, summed_by}
use Rattle.expand.specs.Full.{ipv6_with, udp_full, word_or, is_absent}
use Rattle.expand.specs.Chain.{Chain, rest, udp_then, extension, ipv6, within, behind_next, header_then, chain, chained, head_number, full_size, ext_full, size_of, full_bytes, sum_for, sum_in, total_of}
use Rattle.expand.specs.Expand.{Expansion, bytes_of, sized, expansion, measure_of, measured, answered, written}
use Rattle.expand.specs.declared.checksum.UdpSum.{UdpSum}
use Rattle.expand.proofs.Inverting.{invert, got-value, value-is}
use Rattle.expand.proofs.FullLaws.{length-ipv6, length-ext}
use Rattle.expand.proofs.SumLaws.{Bytes}
use Rattle.expand.proofs.ChecksumLaws.{holds_at}
use Rattle.expand.proofs.ChainLaws.{header-size, chain-size}
use Rattle.expand.proofs.FillLaws.{length-full, length-bytes}

-- e is what the frame s stands for, and its headers are the chain found
pub record Made (ctx : List ℕ) (ls ld : Option Address) (size : Option ℕ) (s : List ℕ) (at : ℕ) (e : Expansion) : Type 0 where
  pub found : Chain
  pub place : ℕ
  pub are-read : chained ctx ls ld s at ≡ got found place
  pub short : length s ≤ 127
  pub fits : size_of found ≤ total_of size (size_of found)
  pub is_made : record { bytes = bytes_of size found; sum = sum_in false 0 0 found } ≡ e

-- ---- where a checksum is remembered, both headers are there: the UDP header in the chain, and the IPv6 header just outside it
abbrev Stood : UdpSum → ℕ → Type 0
Stood m n = (m.ip + 40 ≤ m.udp) × (m.udp + 8 ≤ n)

for-stood : (i o n : ℕ) (t : Bool) (c : Option ℕ) → i + 40 ≤ o → o + 8 ≤ n → ((sum_for t i o c).kind ≡ 0 → ⊥) → Stood (sum_for t i o c) n
for-stood i o n true c a b k = absurd (k refl)
for-stood i o n false None a b k = (a, b)
for-stood i o n false (Some x) a b k = (a, b)

pub sum-stood : (c : Chain) (t : Bool) (i o : ℕ) → i + 40 ≤ o → ((sum_in t i o c).kind ≡ 0 → ⊥) → Stood (sum_in t i o c) (o + size_of c)
unfolding sum_in size_of
sum-stood (rest p d) t i o a k = absurd (k refl)
sum-stood (udp_then h d) t i o a k = for-stood i o (o + (8 + length d)) t h.checksum a (omega arith) k
sum-stood (extension n d c) t i o a k =
    let r = sum-stood c (eqb n 43 || t) i (o + full_size (length d)) (omega arith) k in
    (r.0, omega (arith, r.1))
sum-stood (ipv6 h c) t i o a k =
    let r = sum-stood c false o (o + 40) (omega arith) k in
    (r.0, omega (arith, r.1))

-- ---- an elided checksum is 0 in a chain's bytes
absent-zero : (c : Option ℕ) → is_absent c ≡ true → word_or c ≡ 0
absent-zero None q = refl
absent-zero (Some x) q = cc

pub was-absent : (t : Bool) (i o : ℕ) (c : Option ℕ) → was_elided (sum_for t i o c) ≡ true → (is_absent c ≡ true) × ((sum_for t i o c).udp ≡ o)
was-absent true i o c q = (cc, cc)
was-absent false i o None q = (refl, refl)
was-absent false i o (Some x) q = (cc, cc)

udp-zero : (h : UdpNhcRepr) (n : ℕ) (d : List ℕ) → is_absent h.checksum ≡ true → (get_or (udp_full h n ++ d) 6 0 ≡ 0) × (get_or (udp_full h n ++ d) 7 0 ≡ 0)
unfolding udp_full be16_bytes
udp-zero h n d q = (ap (λ x. x / 256) (absent-zero h.checksum q), ap (λ x. x % 256) (absent-zero h.checksum q))

-- both bytes of the place u of a datagram, of which x are those from the place o on
abbrev Zero : ℕ → ℕ → List ℕ → Type 0
Zero u o x = (get_or x (u + 6 - o) 0 ≡ 0) × (get_or x (u + 7 - o) 0 ≡ 0)

zero-behind : (a x : List ℕ) (n o u : ℕ) → length a ≡ n → o + n ≤ u → Zero u (o + n) x → Zero u o (a ++ x)
zero-behind a x n o u e h z =
    let f : (k : ℕ) → o + n ≤ u + k → get_or (a ++ x) (u + k - o) 0 ≡ get_or x (u + k - (o + n)) 0 = λ k g. ap (λ v. get_or (a ++ x) v 0) (omega (arith, e)) ∙ get_or-append-add a x (u + k - (o + n)) 0 in
    (f 6 (omega arith) ∙ z.0, f 7 (omega arith) ∙ z.1)

at_zero : (h : UdpNhcRepr) (n : ℕ) (d : List ℕ) (o u : ℕ) → u ≡ o → is_absent h.checksum ≡ true → Zero u o (udp_full h n ++ d)
at_zero h n d o u e q =
    let x = udp_full h n ++ d in
    let z = udp-zero h n d q in
    (ap (λ v. get_or x v 0) (omega (arith, e)) ∙ z.0, ap (λ v. get_or x v 0) (omega (arith, e)) ∙ z.1)

pub chain-zero : (c : Chain) (t : Bool) (total i o : ℕ) → i + 40 ≤ o → was_elided (sum_in t i o c) ≡ true → (o ≤ (sum_in t i o c).udp) × Zero (sum_in t i o c).udp o (full_bytes total o c)
unfolding sum_in full_bytes
chain-zero (rest p d) t total i o a q = absurd (true≢false (sym q))
chain-zero (udp_then h d) t total i o a q =
    let w = was-absent t i o h.checksum q in
    (omega (arith, w.1), at_zero h (total - o) d o (sum_for t i o h.checksum).udp w.1 w.0)
chain-zero (extension n d c) t total i o a q =
    let r = chain-zero c (eqb n 43 || t) total i (o + full_size (length d)) (omega arith) q in
    (omega (arith, r.0), zero-behind (ext_full (head_number c) d) (full_bytes total (o + full_size (length d)) c) (full_size (length d)) o (sum_in (eqb n 43 || t) i (o + full_size (length d)) c).udp (length-ext (head_number c) d) r.0 r.1)
chain-zero (ipv6 h c) t total i o a q =
    let r = chain-zero c false total o (o + 40) (omega arith) q in
    (omega (arith, r.0), zero-behind (ipv6_with h (head_number c) (total - (o + 40))) (full_bytes total (o + 40) c) 40 o (sum_in false o (o + 40) c).udp (length-ipv6 h (head_number c) (total - (o + 40))) r.0 r.1)

-- the outer header comes first
pub record Outer (c : Chain) : Type 0 where
  pub header : Repr
  pub behind : Chain
  pub is-both : ipv6 header behind ≡ c

pub outer-first : (ctx : List ℕ) (ls ld : Option Address) (s : List ℕ) (at : ℕ) (c : Chain) (n : ℕ) → chained ctx ls ld s at ≡ got c n → Outer c
unfolding chained header_then
outer-first ctx ls ld s at c n e =
    let i = invert (iphc ctx ls ld s at) (λ p. and_then (behind_next p.value.next_header (chain 7 ctx (within p.value)) s p.next) (λ q. got (ipv6 p.value q.value) q.next)) _ e in
    let h = i.value.value in
    let j = invert (behind_next h.next_header (chain 7 ctx (within h)) s i.value.next) (λ q. got (ipv6 h q.value) q.next) _ i.second in
    record { header = h; behind = j.value.value; is-both = got-value (ipv6 h j.value.value) c j.value.next n j.second }

outer-size : (c : Chain) → Outer c → 40 ≤ size_of c
unfolding size_of
outer-size c o = subst (λ z. 40 ≤ size_of z) o.is-both (omega arith)

outer-stood : (c : Chain) → Outer c → ((sum_in false 0 0 c).kind ≡ 0 → ⊥) → Stood (sum_in false 0 0 c) (size_of c)
unfolding sum_in size_of
outer-stood c o =
    subst (λ z. ((sum_in false 0 0 z).kind ≡ 0 → ⊥) → Stood (sum_in false 0 0 z) (size_of z)) o.is-both
    (λ k. sum-stood o.behind false 0 40 (omega arith) k)

outer-zero : (c : Chain) (t : ℕ) → Outer c → was_elided (sum_in false 0 0 c) ≡ true → Zero (sum_in false 0 0 c).udp 0 (full_bytes t 0 c)
unfolding sum_in full_bytes
outer-zero c t o =
    subst (λ z. was_elided (sum_in false 0 0 z) ≡ true → Zero (sum_in false 0 0 z).udp 0 (full_bytes t 0 z)) o.is-both
    (λ q.
    let r = chain-zero o.behind false t 0 40 (omega arith) q in
    zero-behind (ipv6_with o.header (head_number o.behind) (t - 40)) (full_bytes t 40 o.behind) 40 0 (sum_in false 0 40 o.behind).udp (length-ipv6 o.header (head_number o.behind) (t - 40)) r.0 r.1)

elided-kind : (m : UdpSum) → was_elided m ≡ true → m.kind ≡ 0 → ⊥
elided-kind m q e = omega (arith, eqb-true m.kind 1 q, e)

module _ (ctx : List ℕ) (ls ld : Option Address) (size : Option ℕ) (s : List ℕ) (at : ℕ) (e : Expansion) where
  pub expansion-made : expansion ctx ls ld size s at ≡ is e → Made ctx ls ld size s at e
  unfolding expansion sized
  expansion-made p = long (ltb 127 (length s)) refl p
    where
      last : (c : Chain) (n : ℕ) → chained ctx ls ld s at ≡ got c n → length s ≤ 127 → (t : Bool) → leb (size_of c) (total_of size (size_of c)) ≡ t
          → choose t (is (record { bytes = bytes_of size c; sum = sum_in false 0 0 c })) (refused 10) ≡ is e → Made ctx ls ld size s at e
      last c n r k true q g = record { found = c; place = n; are-read = r; short = k; fits = leb-true (size_of c) (total_of size (size_of c)) q; is_made = value-is _ _ g }
      last c n r k false q g = not-refused _ 10 g

      read : (m : Read Chain) → chained ctx ls ld s at ≡ m → length s ≤ 127 → and_then m (λ p. sized size p.value) ≡ is e → Made ctx ls ld size s at e
      read (is p) r k g = last p.value p.next r k (leb (size_of p.value) (total_of size (size_of p.value))) refl g
      read (refused n) r k g = not-refused _ n g

      long : (t : Bool) → ltb 127 (length s) ≡ t → choose t (refused 4) (and_then (chained ctx ls ld s at) (λ p. sized size p.value)) ≡ is e → Made ctx ls ld size s at e
      long true q g = not-refused _ 4 g
      long false q g = read (chained ctx ls ld s at) refl (ltb-false 127 (length s) q) g

  module _ (made : Made ctx ls ld size s at e) where
    pub length-made : length e.bytes ≡ size_of made.found
    length-made = sym (ap (λ x. length x.bytes) made.is_made) ∙ length-bytes size made.found

    outer : Outer made.found
    outer = outer-first ctx ls ld s at made.found made.place made.are-read

    pub at-least-40 : 40 ≤ length e.bytes
    at-least-40 = omega (arith, length-made, outer-size made.found outer)

    -- eight headers, UDP and the rest of the frame: so a scratch array of 455 bytes is always enough
    pub at-most-455 : length e.bytes ≤ 455
    unfolding chained
    at-most-455 = omega (arith, length-made, header-size 7 ctx s ls ld (chain 7 ctx) (chain-size 7 ctx s) at made.found made.place made.are-read, made.short)

    -- a first part ends within its size
    pub part-within : (n : ℕ) → size ≡ Some n → length e.bytes ≤ n
    part-within n q =
        let f : total_of size (size_of made.found) ≡ n = ap (λ z. total_of z (size_of made.found)) q in
        omega (arith, length-made, made.fits)

    sum-made : sum_in false 0 0 made.found ≡ e.sum
    sum-made = ap (λ x. x.sum) made.is_made

    -- where a checksum is remembered, its UDP header and the IPv6 header outside it stand within the bytes
    pub made-stood : (e.sum.kind ≡ 0 → ⊥) → (e.sum.ip + 40 ≤ e.sum.udp) × (e.sum.udp + 8 ≤ length e.bytes)
    made-stood k =
        let r = outer-stood made.found outer (λ z. k (ap (λ u. u.kind) (sym sum-made) ∙ z)) in
        (subst (λ u. u.ip + 40 ≤ u.udp) sum-made r.0, rw length-made (subst (λ u. u.udp + 8 ≤ size_of made.found) sum-made r.1))

    made-elided : was_elided e.sum ≡ true → was_elided (sum_in false 0 0 made.found) ≡ true
    made-elided t = ap was_elided sum-made ∙ t

    -- an elided checksum is 0 in a first part
    pub elided-zero : (n : ℕ) → size ≡ Some n → was_elided e.sum ≡ true → (get_or e.bytes (e.sum.udp + 6) 0 ≡ 0) × (get_or e.bytes (e.sum.udp + 7) 0 ≡ 0)
    unfolding bytes_of
    elided-zero n q t =
        let b : e.bytes ≡ full_bytes n 0 made.found = sym (ap (λ x. x.bytes) made.is_made) ∙ rw q refl in
        let z = outer-zero made.found n outer (made-elided t) in
        let u : (sum_in false 0 0 made.found).udp ≡ e.sum.udp = ap (λ x. x.udp) sum-made in
        let f : (k : ℕ) → (sum_in false 0 0 made.found).udp + k - 0 ≡ e.sum.udp + k = λ k. omega (arith, u) in
        (ap (λ x. get_or x (e.sum.udp + 6) 0) b ∙ ap (λ v. get_or (full_bytes n 0 made.found) v 0) (sym (f 6)) ∙ z.0, ap (λ x. get_or x (e.sum.udp + 7) 0) b ∙ ap (λ v. get_or (full_bytes n 0 made.found) v 0) (sym (f 7)) ∙ z.1)

    -- a whole datagram has the computed one
    pub elided-summed : size ≡ None → was_elided e.sum ≡ true → e.bytes ≡ summed_at e.sum.ip e.sum.udp (full_bytes (size_of made.found) 0 made.found)
    unfolding bytes_of summed_by
    elided-summed q t =
        let c = made.found in
        let d = full_bytes (size_of c) 0 c in
        let k = made-stood (elided-kind e.sum t) in
        let l : length d ≡ length e.bytes = length-full (size_of c) 0 c ∙ sym length-made in
        let a : e.sum.ip + 40 ≤ e.sum.udp = k.0 in
        let b : e.sum.udp + 8 ≤ length d = omega (arith, l, k.1) in
        let n : length d ≤ e.sum.udp + 0xffff = omega (arith, l, at-most-455) in
        let w : (was_elided e.sum && stands e.sum (length d)) ≡ true = rw (t, le-leb (e.sum.ip + 40) e.sum.udp a, le-leb (e.sum.udp + 8) (length d) b, le-leb (length d) (e.sum.udp + 0xffff) n) refl in
        sym (ap (λ x. x.bytes) made.is_made) ∙ rw q (ap (λ u. summed_by u d) sum-made ∙ rw w refl)

    -- and a receiver finds it right: the sum over the pseudo-header of the IPv6 header just outside, the UDP header and its data is all ones
    pub sum-holds : size ≡ None → was_elided e.sum ≡ true → Bytes e.bytes → let x = seen e.sum.ip e.sum.udp e.bytes in ones_sum (words (pseudo x ++ drop 40 x)) ≡ 0xffff
    sum-holds q t b =
        let c = made.found in
        let d = full_bytes (size_of c) 0 c in
        let i = e.sum.ip in
        let u = e.sum.udp in
        let k = made-stood (elided-kind e.sum t) in
        let l : length d ≡ length e.bytes = length-full (size_of c) 0 c ∙ sym length-made in
        let f : e.bytes ≡ summed_at i u d = elided-summed q t in
        ap (λ x. ones_sum (words (pseudo (seen i u x) ++ drop 40 (seen i u x)))) f ∙ holds_at i u d k.0 (omega (arith, l, k.1)) (omega (arith, l, at-most-455)) (subst Bytes f b)

-- ---- the output
-- a refused call writes nothing
pub refused-unwritten : (m : Answer Expansion) (room : List ℕ) (n : ℕ) → answered m room ≡ refused n → written m room ≡ room
refused-unwritten (refused k) room n q = refl
refused-unwritten (is e) room n q = go (leb (length e.bytes) (length room)) q
  where
    go : (t : Bool) → choose t (is (measure_of e)) (refused 7) ≡ refused n → choose t (e.bytes ++ drop (length e.bytes) room) room ≡ room
    go true g = not-refused _ n (sym g)
    go false g = refl

-- in room for 455 bytes the answer is that of measuring, and the bytes stand at the front
module _ (ctx : List ℕ) (ls ld : Option Address) (size : Option ℕ) (s : List ℕ) (at : ℕ) (room : List ℕ) (big : 455 ≤ length room) where
  pub room-enough : answered (expansion ctx ls ld size s at) room ≡ measured (expansion ctx ls ld size s at)
  room-enough = go (expansion ctx ls ld size s at) refl
    where
      go : (m : Answer Expansion) → expansion ctx ls ld size s at ≡ m → answered m room ≡ measured m
      go (refused n) q = refl
      go (is e) q =
          let k : length e.bytes ≤ 455 = at-most-455 ctx ls ld size s at e (expansion-made ctx ls ld size s at e q) in
          let h : length e.bytes ≤ length room = omega arith in
          rw (le-leb (length e.bytes) (length room) h) refl
