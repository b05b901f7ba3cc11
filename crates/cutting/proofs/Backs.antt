-- What is read of a datagram gives its bytes back: its headers are those that the compressed ones stand for.
use Prim.Native.Nat.{ℕ, ◌+◌, ◌-◌, ◌*◌, ◌/◌, ◌%◌, ◌^◌, ◌≤◌, ◌<◌}
use native.Mathlib.Omega.{arith}
use mathlib.Core.List.{List, [], ◌++◌, append-nil}
use mathlib.Core.Bool.{Bool, true, false, ◌&&◌}
use mathlib.Core.Path.{◌≡◌, refl, sym, ap, ◌∙◌}
use lib.Dec.{eqb, leb}
use lib.ListN.{length, get_or, take, drop}
use lib.Seq.{drop-cons, drop-drop, take-add}
use borrow.Author.Tests.{lt-ltb, eqb-true, leb-true}
use Rattle.octets.specs.Read.{Reader, got, choose, give, byte, be16, be32, be64, ◌>>=◌}
use Rattle.octets.specs.Write.{byte_bytes, be16_bytes, be32_bytes, be64_bytes}
use Rattle.octets.proofs.Steps.{and-true}
use Rattle.expand.specs.Full as Full
use Rattle.expand.specs.Plain as Plain
use Rattle.std.specs.Prelude.{Option, Some, None}
use Rattle.sixlowpan.specs.declared.nhc.UdpNhcRepr.{UdpNhcRepr}
use Rattle.expand.proofs.SumLaws.{Bytes}
use Rattle.cutting.specs.Fields.{or_zero, is_ours, is_udp}
use Rattle.cutting.specs.Head.{next_of, ip_of, udp_of, udp_field, covers}
use Rattle.cutting.specs.declared.link.Link.{Link}

-- n bytes from a place on
abbrev pub slice : List ℕ → ℕ → ℕ → List ℕ
slice d at n = take n (drop at d)

pub slice-join : (d : List ℕ) (at n m : ℕ) → slice d at n ++ slice d (at + n) m ≡ slice d at (n + m)
slice-join d at n m = ap (λ z. slice d at n ++ take m z) (sym (drop-drop n at d)) ∙ sym (take-add n m (drop at d))

join : (d x y : List ℕ) (at n m : ℕ) → x ≡ slice d at n → y ≡ slice d (at + n) m → x ++ y ≡ slice d at (n + m)
join d x y at n m p q = ap (λ z. z ++ y) p ∙ ap (λ z. slice d at n ++ z) q ∙ slice-join d at n m

-- ---- a reader of k bytes, and a writer of a number below b, over the bytes of d
pub record Back (d : List ℕ) (m : Reader ℕ) (bs : ℕ → List ℕ) (k b : ℕ) : Type 0 where
  pub reads : (at : ℕ) → at + k ≤ length d → m d at ≡ got (or_zero (m d at)) (at + k)
  pub back : (at : ℕ) → at + k ≤ length d → bs (or_zero (m d at)) ≡ slice d at k
  pub small : (at : ℕ) → at + k ≤ length d → or_zero (m d at) < b

module _ (d : List ℕ) (w : Bytes d) where
  byte-is : (at : ℕ) → at + 1 ≤ length d → byte d at ≡ got (get_or d at 0) (at + 1)
  unfolding byte
  byte-is at h = rw (lt-ltb at (length d) (omega arith)) refl

  pub back-byte : Back d byte byte_bytes 1 256
  unfolding byte_bytes
  back-byte = record {
    reads = λ at h. rw (byte-is at h) refl;
    back = λ at h. let k : at < length d = omega arith in rw (byte-is at h, drop-cons d at 0 k) refl;
    small = λ at h. rw (byte-is at h) (w at);
  }

  -- two fields of one kind, made into one number
  back-two : (m : Reader ℕ) (bs : ℕ → List ℕ) (k b c : ℕ) → ((x y : ℕ) → y < b → (x * b + y) / b ≡ x) → ((x y : ℕ) → y < b → (x * b + y) % b ≡ y) → ((x y : ℕ) → x < b → y < b → x * b + y < c) → Back d m bs k b → Back d (◌>>=◌ m (λ hi. ◌>>=◌ m (λ lo. give (hi * b + lo)))) (λ x. bs (x / b) ++ bs (x % b)) (k + k) c
  back-two m bs k b c f g s v = record {
    reads = λ at h. let a = value at h in let e : at + k + k ≡ at + (k + k) = omega arith in rw a (ap (λ z. got (or_zero (m d at) * b + or_zero (m d (at + k))) z) e);
    back = λ at h.
        let x = or_zero (m d at) in
        let y = or_zero (m d (at + k)) in
        let q : y < b = v.small (at + k) (omega arith) in
        rw (value at h, f x y q, g x y q, v.back at (omega arith), v.back (at + k) (omega arith)) (slice-join d at k k);
    small = λ at h. rw (value at h) (s (or_zero (m d at)) (or_zero (m d (at + k))) (v.small at (omega arith)) (v.small (at + k) (omega arith)));
  }
    where
      value : (at : ℕ) → at + (k + k) ≤ length d → ◌>>=◌ m (λ hi. ◌>>=◌ m (λ lo. give (hi * b + lo))) d at ≡ got (or_zero (m d at) * b + or_zero (m d (at + k))) (at + k + k)
      value at h = rw (v.reads at (omega arith), v.reads (at + k) (omega arith)) refl

  pub back-be16 : Back d be16 be16_bytes 2 (2 ^ 16)
  unfolding be16 be16_bytes byte_bytes
  back-be16 = back-two byte byte_bytes 1 256 (2 ^ 16) (λ x y h. omega arith) (λ x y h. omega arith) (λ x y h k. omega arith) back-byte

  pub back-be32 : Back d be32 be32_bytes 4 (2 ^ 32)
  unfolding be32 be32_bytes
  back-be32 = back-two be16 be16_bytes 2 (2 ^ 16) (2 ^ 32) (λ x y h. omega arith) (λ x y h. omega arith) (λ x y h k. omega arith) back-be16

  pub back-be64 : Back d be64 be64_bytes 8 (2 ^ 64)
  unfolding be64 be64_bytes
  back-be64 = back-two be32 be32_bytes 4 (2 ^ 32) (2 ^ 64) (λ x y h. omega arith) (λ x y h. omega arith) (λ x y h k. omega arith) back-be32

-- ---- what the tests say
pub record Udp (d : List ℕ) : Type 0 where
  pub long : 48 ≤ length d
  pub next : or_zero (byte d 6) ≡ 17
  pub sized : or_zero (be16 d 44) + 40 ≡ length d

pub udp-facts : (d : List ℕ) → is_udp d ≡ true → Udp d
unfolding is_udp
udp-facts d e =
    let x = and-true (leb 48 (length d)) (eqb (or_zero (byte d 6)) 17 && eqb (or_zero (be16 d 44) + 40) (length d)) e in
    let y = and-true (eqb (or_zero (byte d 6)) 17) (eqb (or_zero (be16 d 44) + 40) (length d)) x.1 in
    record { long = leb-true 48 (length d) x.0; next = eqb-true (or_zero (byte d 6)) 17 y.0; sized = eqb-true (or_zero (be16 d 44) + 40) (length d) y.1 }

pub record Ours (d : List ℕ) : Type 0 where
  pub first : or_zero (be32 d 0) ≡ 6 * 2 ^ 28
  pub sized : or_zero (be16 d 4) + 40 ≡ length d

pub ours-facts : (d : List ℕ) → is_ours d ≡ true → Ours d
unfolding is_ours
ours-facts d e =
    let x = and-true (eqb (or_zero (be32 d 0)) (6 * 2 ^ 28)) (eqb (or_zero (be16 d 4) + 40) (length d)) e in
    record { first = eqb-true (or_zero (be32 d 0)) (6 * 2 ^ 28) x.0; sized = eqb-true (or_zero (be16 d 4) + 40) (length d) x.1 }

next-go : (d : List ℕ) (t : Bool) → is_udp d ≡ t → Plain.next_of (next_of d) ≡ or_zero (byte d 6)
unfolding next_of
next-go d true e = rw e (sym (udp-facts d e).next)
next-go d false e = rw e refl

-- ---- the headers in full
no-udp : (n : ℕ) → Plain.udp_bytes None n ≡ []
no-udp n = refl

module _ (l : Link) (d : List ℕ) (w : Bytes d) (o : Ours d) (h : 40 ≤ length d) where
  front-back : be32_bytes (6 * 2 ^ 28) ++ (be16_bytes (length d - 40) ++ (byte_bytes (Plain.next_of (next_of d)) ++ byte_bytes (or_zero (byte d 7)))) ≡ slice d 0 8
  front-back =
      let q : or_zero (be16 d 4) ≡ length d - 40 = omega (arith, o.sized) in
      let e1 : be32_bytes (6 * 2 ^ 28) ≡ slice d 0 4 = ap be32_bytes (sym o.first) ∙ (back-be32 d w).back 0 (omega arith) in
      let e2 : be16_bytes (length d - 40) ≡ slice d 4 2 = ap be16_bytes (sym q) ∙ (back-be16 d w).back 4 (omega arith) in
      let e3 : byte_bytes (Plain.next_of (next_of d)) ≡ slice d 6 1 = ap byte_bytes (next-go d (is_udp d) refl) ∙ (back-byte d w).back 6 (omega arith) in
      let e4 : byte_bytes (or_zero (byte d 7)) ≡ slice d 7 1 = (back-byte d w).back 7 (omega arith) in
      join d _ _ 0 4 4 e1 (join d _ _ 4 2 2 e2 (join d _ _ 6 1 1 e3 e4))

  both-back : be64_bytes (or_zero (be64 d 8)) ++ (be64_bytes (or_zero (be64 d 16)) ++ (be64_bytes (or_zero (be64 d 24)) ++ be64_bytes (or_zero (be64 d 32)))) ≡ slice d 8 32
  both-back =
      let v = back-be64 d w in
      join d _ _ 8 8 24 (v.back 8 (omega arith)) (join d _ _ 16 8 16 (v.back 16 (omega arith)) (join d _ _ 24 8 8 (v.back 24 (omega arith)) (v.back 32 (omega arith))))

  ipv6-back : Plain.ipv6_bytes (ip_of l d) (length d - 40) ≡ slice d 0 40
  unfolding Full.ipv6_with Full.front_with Full.both_bytes ip_of
  ipv6-back = join d _ _ 0 8 32 front-back both-back

  udp-back : Udp d → Plain.udp_bytes (Some (udp_of d)) (length d - 40) ≡ slice d 40 8
  unfolding Full.udp_full udp_of
  udp-back u =
      let n : 48 ≤ length d = u.long in
      let q : or_zero (be16 d 44) ≡ length d - 40 = omega (arith, u.sized) in
      let v = back-be16 d w in
      let e : be16_bytes (length d - 40) ≡ slice d 44 2 = ap be16_bytes (sym q) ∙ v.back 44 (omega arith) in
      join d _ _ 40 2 6 (v.back 40 (omega arith)) (join d _ _ 42 2 4 (v.back 42 (omega arith)) (join d _ _ 44 2 2 e (v.back 46 (omega arith))))

  both_go : (t : Bool) → is_udp d ≡ t → Plain.ipv6_bytes (ip_of l d) (length d - 40) ++ Plain.udp_bytes (udp_field d) (length d - 40) ≡ take (covers d) d
  unfolding covers
  both_go true e = rw e (join d _ _ 0 40 8 ipv6-back (udp-back (udp-facts d e)))
  both_go false e = rw e (none-go (ipv6-back))
    where
      none-go : Plain.ipv6_bytes (ip_of l d) (length d - 40) ≡ slice d 0 40 → Plain.ipv6_bytes (ip_of l d) (length d - 40) ++ Plain.udp_bytes None (length d - 40) ≡ take 40 d
      none-go p = ap (λ z. Plain.ipv6_bytes (ip_of l d) (length d - 40) ++ z) (no-udp (length d - 40)) ∙ append-nil (Plain.ipv6_bytes (ip_of l d) (length d - 40)) ∙ p

  -- the compressed headers stand for the first bytes of the datagram
  pub headers-full : Plain.ipv6_bytes (ip_of l d) (length d - 40) ++ Plain.udp_bytes (udp_field d) (length d - 40) ≡ take (covers d) d
  headers-full = both_go (is_udp d) refl
