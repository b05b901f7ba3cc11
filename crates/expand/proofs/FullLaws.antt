-- The headers in full, as they are put: a field after a field, each length, and what calls gave.
use Prim.Native.Nat.{ℕ, zero, suc, ◌+◌, ◌-◌, ◌/◌, ◌≤◌}
use native.Mathlib.Omega.{arith}
use mathlib.Core.List.{List}
use mathlib.Core.Path.{◌≡◌, refl, sym, ap, ◌∙◌}
use lib.ListN.{length, take, drop, length-append, length-take, length-drop, length-replicate}
use Rattle.octets.specs.Write.{put, byte_bytes, be16_bytes, be32_bytes, be64_bytes}
use Rattle.octets.proofs.Puts.{more, more_byte}
use Rattle.iphc.specs.declared.header.Repr.{Repr}
use Rattle.sixlowpan.specs.declared.nhc.UdpNhcRepr.{UdpNhcRepr}
use Rattle.expand.specs.Full.{front_with, both_bytes, ipv6_with, keep, kept_front, kept_full, udp_full}
use Rattle.expand.specs.Chain.{pad, full_size, ext_full}
use Rattle.expand.specs.declared.ip.Kept.{Kept}

-- ---- lengths
pub length-ipv6 : (h : Repr) (next payload : ℕ) → length (ipv6_with h next payload) ≡ 40
unfolding ipv6_with front_with both_bytes byte_bytes be16_bytes be32_bytes be64_bytes
length-ipv6 h next payload = refl

pub length-udp : (h : UdpNhcRepr) (n : ℕ) → length (udp_full h n) ≡ 8
unfolding udp_full be16_bytes
length-udp h n = refl

length-pad : (n : ℕ) → length (pad n) ≡ n
length-pad zero = refl
length-pad (suc zero) = refl
length-pad (suc (suc n)) = ap (λ x. suc (suc x)) (length-replicate n 0)

pub length-ext : (next : ℕ) (d : List ℕ) → length (ext_full next d) ≡ full_size (length d)
unfolding ext_full byte_bytes
length-ext next d =
    let k = full_size (length d) - (2 + length d) in
    ap (λ x. suc (suc x)) (length-append d (pad k) ∙ ap (λ x. length d + x) (length-pad k)) ∙ omega arith

-- ---- a field after a field
moved : (l n bs : List ℕ) (a b : ℕ) → a ≡ b → n ≡ put a bs l → n ≡ put b bs l
moved l n bs a b h e = e ∙ ap (λ k. put k bs l) h

length_front : (k : Kept) (payload : ℕ) → length (kept_front k payload) ≡ 8
unfolding kept_front byte_bytes be16_bytes be32_bytes
length_front k payload = refl

pub ipv6-put : (at : ℕ) (k : Kept) (payload : ℕ) (l m r : List ℕ) → m ≡ put at (kept_front k payload) l → r ≡ put (at + 8) (both_bytes k.src k.dst) m → r ≡ put at (kept_full k payload) l
unfolding kept_full
ipv6-put at k payload l m r a b = more l m r at 8 (kept_front k payload) _ (length_front k payload) a b

-- what is kept of a header has its bytes
pub kept_full_lem : (h : Repr) (number at payload : ℕ) → kept_full (keep h number at) payload ≡ ipv6_with h number payload
unfolding kept_full kept_front ipv6_with front_with
kept_full_lem h number at payload = refl

pub taken-length : (s : List ℕ) (from len : ℕ) → len ≤ length s - from → length (take len (drop from s)) ≡ len
taken-length s from len h = omega (arith, length-take len (drop from s), length-drop from s)

pub ext-put : (at next x len from size : ℕ) (s l m n o r : List ℕ) → len ≤ length s - from → size ≡ full_size len → x ≡ size / 8 - 1 → m ≡ put at (byte_bytes next) l → n ≡ put (at + 1) (byte_bytes x) m → o ≡ put (at + 2) (take len (drop from s)) n → r ≡ put (at + 2 + len) (pad (size - (2 + len))) o
    → r ≡ put at (ext_full next (take len (drop from s))) l
unfolding ext_full
ext-put at next x len from size s l m n o r h e f a b c d =
    let t = take len (drop from s) in
    let k : length t ≡ len = taken-length s from len h in
    let b2 : n ≡ put (at + 1) (byte_bytes (full_size (length t) / 8 - 1)) m = b ∙ ap (λ z. put (at + 1) (byte_bytes z) m) (f ∙ ap (λ z. z / 8 - 1) (e ∙ ap full_size (sym k))) in
    let d2 : r ≡ put (at + 2 + len) (pad (full_size (length t) - (2 + length t))) o = d ∙ ap (λ z. put (at + 2 + len) (pad (z - (2 + len))) o) e ∙ ap (λ z. put (at + 2 + len) (pad (full_size z - (2 + z))) o) (sym k) in
    more_byte l m r at next _ a (more_byte m n r (at + 1) _ _ b2 (moved n r _ (at + 2) (at + 1 + 1) (omega arith) (more n o r (at + 2) len t _ k c d2)))
