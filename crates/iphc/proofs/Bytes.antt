-- What is written are bytes, where the header's numbers have the sizes of their types.
use Rattle.ieee802154.specs.declared.addr.Address.{Address}
use Rattle.std.specs.Prelude.{Option}
use Prim.Native.Nat.{ℕ, zero, suc, ◌+◌, ◌*◌, ◌/◌, ◌%◌, ◌^◌, ◌<◌}
use native.Mathlib.Omega.{arith}
use mathlib.Core.List.{List, [], ◌∷◌, ◌++◌}
use mathlib.Core.Bool.{Bool, true, false}
use lib.Dec.{eqb}
use Rattle.octets.specs.Read.{choose}
use Rattle.octets.specs.Write.{byte_bytes, be16_bytes, be32_bytes, be64_bytes}
use Rattle.octets.specs.Ipv6.{is_unspecified, is_multicast, is_link_local}
use Rattle.octets.specs.declared.ipv6.Ipv6Addr.{Ipv6Addr}
use Rattle.sixlowpan.specs.Next.{next_bit, next_bytes}
use Rattle.sixlowpan.specs.declared.protocol.NextHeader.{NextHeader}
use Rattle.sixlowpan.specs.declared.protocol.NextHeader.TheVariants.{Compressed, Uncompressed}
use Rattle.iphc.specs.Emit.{inline_bytes, form, full_form, iid_form, src_form, is_group8, is_scoped, scope_of, multicast_form, dst_form, hop_bits, hop_bytes, base_word, front_bytes, addresses_bytes}
use Rattle.iphc.specs.Shortest.{Bytes, NextFits, IpFits}
use Rattle.iphc.specs.declared.form.Inline.TheVariants.{Nothing, Bits8, Bits32, Bits48}
use Rattle.iphc.specs.declared.form.Form.{Form}
use Rattle.sixlowpan.proofs.NextLaws.{next-bit-lt}
use Rattle.iphc.proofs.RoundTrip.{iid-cases, hop-bits-lt}

pub bytes-nil : Bytes []
bytes-nil i = omega arith

bytes-append : (x y : List ℕ) → Bytes x → Bytes y → Bytes (x ++ y)
bytes-append [] y b d i = d i
bytes-append (a ∷ x) y b d zero = b 0
bytes-append (a ∷ x) y b d (suc i) = bytes-append x y (λ j. b (suc j)) d i

bytes-byte : (x : ℕ) → x < 256 → Bytes (byte_bytes x)
unfolding byte_bytes
bytes-byte x h zero = h
bytes-byte x h (suc i) = omega arith

bytes-be16 : (x : ℕ) → x < 2 ^ 16 → Bytes (be16_bytes x)
unfolding be16_bytes byte_bytes
bytes-be16 x h = bytes-append (byte_bytes (x / 256)) (byte_bytes (x % 256)) (bytes-byte (x / 256) (omega arith)) (bytes-byte (x % 256) (omega arith))

bytes-be32 : (x : ℕ) → x < 2 ^ 32 → Bytes (be32_bytes x)
unfolding be32_bytes
bytes-be32 x h = bytes-append (be16_bytes (x / 2 ^ 16)) (be16_bytes (x % 2 ^ 16)) (bytes-be16 (x / 2 ^ 16) (omega arith)) (bytes-be16 (x % 2 ^ 16) (omega arith))

bytes-be64 : (x : ℕ) → x < 2 ^ 64 → Bytes (be64_bytes x)
unfolding be64_bytes
bytes-be64 x h = bytes-append (be32_bytes (x / 2 ^ 32)) (be32_bytes (x % 2 ^ 32)) (bytes-be32 (x / 2 ^ 32) (omega arith)) (bytes-be32 (x % 2 ^ 32) (omega arith))

-- ---- the fields of the header
abbrev pub FormBytes : Form → Type 0
FormBytes f = Bytes (inline_bytes f.inline)

bytes_next : (n : NextHeader) → NextFits n → Bytes (next_bytes n)
bytes_next Compressed h = bytes-nil
bytes_next (Uncompressed p) h = bytes-byte p.0 h

bytes-hop : (h : ℕ) → h < 256 → Bytes (hop_bytes h)
bytes-hop h f = go (eqb (hop_bits h) 0b00)
  where
    go : (t : Bool) → Bytes (choose t (byte_bytes h) [])
    go true = bytes-byte h f
    go false = bytes-nil

bytes-iid : (i : ℕ) (ll : Option Address) → i < 2 ^ 64 → FormBytes (iid_form i ll)
bytes-iid i ll h = iid-cases i ll FormBytes (λ e. bytes-nil) (λ e. bytes-be16 (i % 2 ^ 16) (omega arith)) (bytes-be64 i h)

module _ (a : Ipv6Addr) (h : IpFits a) where
  bytes-full : Bytes (be64_bytes a.prefix ++ be64_bytes a.iid)
  bytes-full = bytes-append (be64_bytes a.prefix) (be64_bytes a.iid) (bytes-be64 a.prefix h.0) (bytes-be64 a.iid h.1)

  bytes-group : FormBytes (multicast_form a)
  unfolding multicast_form
  bytes-group = go (is_group8 a) (is_scoped a (2 ^ 24)) (is_scoped a (2 ^ 40))
    where
      low24 : ℕ
      low24 = scope_of a * 2 ^ 24 + a.iid % 2 ^ 24

      high48 : ℕ
      high48 = scope_of a * 2 ^ 8 + a.iid / 2 ^ 32 % 2 ^ 8

      go : (b c d : Bool) → FormBytes (choose b (form 0b1011 (Bits8 (a.iid % 2 ^ 8))) (choose c (form 0b1010 (Bits32 low24)) (choose d (form 0b1001 (Bits48 high48 (a.iid % 2 ^ 32))) (full_form 0b1000 a))))
      go true c d = bytes-byte (a.iid % 2 ^ 8) (omega arith)
      go false true d = bytes-be32 low24 (omega arith)
      go false false true = bytes-append (be16_bytes high48) (be32_bytes (a.iid % 2 ^ 32)) (bytes-be16 high48 (omega arith)) (bytes-be32 (a.iid % 2 ^ 32) (omega arith))
      go false false false = bytes-full

  pub bytes-source : (ll : Option Address) → FormBytes (src_form a ll)
  unfolding src_form
  bytes-source ll = go (is_unspecified a) (is_link_local a)
    where
      go : (b c : Bool) → FormBytes (choose b (form 0b100 Nothing) (choose c (iid_form a.iid ll) (full_form 0b000 a)))
      go true c = bytes-nil
      go false true = bytes-iid a.iid ll h.1
      go false false = bytes-full

  pub bytes-dest : (ll : Option Address) → FormBytes (dst_form a ll)
  unfolding dst_form
  bytes-dest ll = go (is_multicast a) (is_link_local a)
    where
      go : (b c : Bool) → FormBytes (choose b (multicast_form a) (choose c (iid_form a.iid ll) (full_form 0b0000 a)))
      go true c = bytes-group
      go false true = bytes-iid a.iid ll h.1
      go false false = bytes-full

pub bytes-header : (n : NextHeader) (h : ℕ) (s d : Form) → NextFits n → h < 256 → s.mode < 8 → d.mode < 16 → FormBytes s → FormBytes d → Bytes (front_bytes n h s d ++ addresses_bytes s d)
unfolding front_bytes addresses_bytes base_word
bytes-header n h s d fn fh ms md bs bd =
    let v : ℕ = 0b011_11 * 2 ^ 11 + next_bit n * 2 ^ 10 + hop_bits h * 2 ^ 8 + s.mode * 2 ^ 4 + d.mode in
    let lt : v < 2 ^ 16 = omega (arith, next-bit-lt n, hop-bits-lt h) in
    let bf : Bytes (next_bytes n ++ hop_bytes h) = bytes-append (next_bytes n) (hop_bytes h) (bytes_next n fn) (bytes-hop h fh) in
    let ba : Bytes (inline_bytes s.inline ++ inline_bytes d.inline) = bytes-append (inline_bytes s.inline) (inline_bytes d.inline) bs bd in
    bytes-append (be16_bytes v ++ (next_bytes n ++ hop_bytes h)) (inline_bytes s.inline ++ inline_bytes d.inline) (bytes-append (be16_bytes v) (next_bytes n ++ hop_bytes h) (bytes-be16 v lt) bf) ba
