-- A frame of a cutting, read back: the MAC header, the fragment header, the compressed headers and what they stand for.
use Rattle.std.specs.Prelude.{Option, Some, None}
use Prim.Native.Nat.{ℕ, ◌+◌, ◌-◌, ◌*◌, ◌/◌, ◌%◌, ◌^◌, ◌≤◌, ◌<◌}
use native.Mathlib.Nat.{add-zero}
use native.Mathlib.Omega.{arith}
use mathlib.Core.List.{List, ◌++◌, append_assoc}
use mathlib.Core.Bool.{Bool, true, false, ◌&&◌}
use mathlib.Core.Path.{◌≡◌, refl, sym, ap, ◌∙◌}
use lib.Dec.{eqb}
use lib.ListN.{length, take, drop, length-append, length-drop, length-take, take-append-drop}
use lib.Seq.{drop-append-add, drop-append_seam, take-add}
use borrow.Author.Tests.{le-leb, eq-eqb, ne_eqb}
use Rattle.octets.specs.Read.{is, got, choose, byte}
use Rattle.octets.specs.Ipv6.{is_unspecified, is_multicast, is_link_local}
use Rattle.octets.specs.Write.{byte_bytes, be16_bytes}
use Rattle.octets.specs.declared.ipv6.Ipv6Addr.{Ipv6Addr}
use Rattle.octets.proofs.RoundTrip.{reads_byte}
use Rattle.ieee802154.specs.Address.{is_present}
use Rattle.ieee802154.specs.Control.{supported, has_addressing, carried, carried01}
use Rattle.ieee802154.specs.Mac as Mac
use Rattle.ieee802154.specs.RoundTrips.{pans_stand, round_trips}
use Rattle.ieee802154.specs.declared.addr.Address.{Address}
use Rattle.ieee802154.specs.declared.addr.Address.TheVariants.{Absent, Short, Extended}
use Rattle.ieee802154.specs.declared.addr.Pan.{Pan}
use Rattle.ieee802154.proofs.RoundTrips.{reads-back}
use Rattle.ieee802154.proofs.WriteSteps as MacSteps
use Rattle.sixlowpan.specs.Dispatch.{dispatch_of, dispatch}
use Rattle.sixlowpan.specs.Frag as Frag
use Rattle.sixlowpan.specs.Nhc.{nhc_of, nhc}
use Rattle.sixlowpan.specs.NhcUdp.{form_of, both_port4, port8, ports_bytes, checksum_bytes, udp_form, udp_first, udp_length, udp_nhc_bytes}
use Rattle.sixlowpan.specs.declared.dispatch.SixlowpanPacket.{SixlowpanPacket}
use Rattle.sixlowpan.specs.declared.dispatch.SixlowpanPacket.TheVariants.{FragmentHeader, IphcHeader}
use Rattle.sixlowpan.specs.declared.frag.Repr.{Repr}
use Rattle.sixlowpan.specs.declared.frag.Repr.TheVariants.{FirstFragment, Fragment}
use Rattle.sixlowpan.specs.declared.nhc.NhcPacket.TheVariants.{UdpHeader}
use Rattle.sixlowpan.specs.declared.nhc.UdpNhcRepr.{UdpNhcRepr}
use Rattle.sixlowpan.specs.declared.protocol.IpProtocol.{IpProtocol}
use Rattle.sixlowpan.specs.declared.protocol.NextHeader.{NextHeader}
use Rattle.sixlowpan.specs.declared.protocol.NextHeader.TheVariants.{Compressed, Uncompressed}
use Rattle.sixlowpan.proofs.FragTrips as FragTrips
use Rattle.sixlowpan.proofs.FragPuts as FragPuts
use Rattle.sixlowpan.proofs.NhcTrips.{udp-trip}
use Rattle.sixlowpan.proofs.NhcPuts.{length-udp}
use Rattle.sixlowpan.proofs.NextLaws.{next-bit-lt}
use Rattle.iphc.specs.Iphc.{iphc}
use Rattle.iphc.specs.Emit as Emit
use Rattle.iphc.specs.declared.form.Form.{Form}
use Rattle.iphc.specs.declared.form.Inline.{Inline}
use Rattle.iphc.specs.declared.form.Inline.TheVariants.{Nothing, Bits8, Bits16, Bits32, Bits48, Bits64, Bits128}
use Rattle.iphc.specs.declared.header.Repr as Iphc
use Rattle.iphc.proofs.Puts as IphcPuts
use Rattle.iphc.proofs.RoundTrip as IphcTrip
use Rattle.expand.specs.Plain as Plain
use Rattle.expand.specs.Plain.{Headers, transport, by_next, behind, headers, plain, bytes_of, sized}
use Rattle.expand.specs.Full as Full
use Rattle.expand.specs.Sum.{no_sum, carried_at, was_elided, summed_by}
use Rattle.expand.specs.Expand.{finished, expansion}
use Rattle.expand.specs.Chain.{total_of}
use Rattle.expand.specs.declared.checksum.UdpSum.{UdpSum}
use Rattle.expand.proofs.Plain.{expansion-plain}
use Rattle.expand.proofs.SumLaws.{Bytes}
use Rattle.cutting.specs.Fields.{is_udp}
use Rattle.cutting.specs.Head.{mac_of, mac_length, mac_bytes, next_of, ip_of, udp_of, udp_field, udp_part, udp_part_length, head_bytes, head_length, covers, sum_sent}
use Rattle.cutting.specs.Cut.{has_both, middle, part_of, frame_of}
use Rattle.cutting.specs.declared.link.Link.{Link}
use Rattle.cutting.specs.declared.piece.Piece.{Piece}
use Rattle.cutting.specs.declared.piece.Piece.TheVariants.{Whole, First, Later}
use Rattle.cutting.proofs.HeadLaws.{length-head, covers-within}
use Rattle.cutting.proofs.Backs.{Ours, headers-full}

-- ---- the MAC header
mac-go : (p : Pan) (a b : Address) (q t n : ℕ) → (is_present a && is_present b) ≡ true → round_trips (mac_of (record { pan = p; src = a; dst = b; sequence = q; tag = t; limit = n })) ≡ true
unfolding round_trips supported has_addressing carried carried01 pans_stand Mac.suppresses
mac-go p Absent b q t n e = cc
mac-go p (Short a) Absent q t n e = cc
mac-go p (Extended a) Absent q t n e = cc
mac-go p (Short a) (Short b) q t n e = refl
mac-go p (Short a) (Extended b) q t n e = refl
mac-go p (Extended a) (Short b) q t n e = refl
mac-go p (Extended a) (Extended b) q t n e = refl

pub mac-trips : (l : Link) → has_both l ≡ true → round_trips (mac_of l) ≡ true
unfolding has_both
mac-trips l e = mac-go l.pan l.src l.dst l.sequence l.tag l.limit e

pub mac-back : (l : Link) (r : List ℕ) → has_both l ≡ true → mac_length l + length r ≤ 127 → Mac.mac (mac_bytes l ++ r) ≡ got (mac_of l) (mac_length l)
mac-back l r e h = reads-back (mac_of l) r (mac-trips l e) h

-- ---- the dispatch, by the first byte
pub dispatch-at : (p r : List ℕ) (x n : ℕ) → length p ≡ n → dispatch (p ++ (byte_bytes x ++ r)) n ≡ dispatch_of x
unfolding dispatch
dispatch-at p r x n e = rw (reads_byte x p r n e) refl

-- ---- the compressed headers
form-go : (t s r : Bool) → choose t 0b11 (choose s 0b10 (choose r 0b01 0b00)) ≤ 3
form-go true s r = omega arith
form-go false true r = omega arith
form-go false false true = omega arith
form-go false false false = omega arith

form-most : (s d : ℕ) → form_of s d ≤ 3
unfolding form_of
form-most s d = form-go (both_port4 s d) (port8 s) (port8 d)

-- a header whose checksum is carried
nhc-first : (f : ℕ) → f ≤ 3 → nhc_of (0b11110 * 8 + 0 * 4 + f) ≡ is UdpHeader
unfolding nhc_of
nhc-first f h =
    let x : ℕ = 0b11110 * 8 + 0 * 4 + f in
    let a : (x / 16 ≡ 0b1110) → ⊥ = λ q. omega arith in
    let b : x / 8 ≡ 0b11110 = omega arith in
    rw (ne_eqb (x / 16) 0b1110 a, eq-eqb (x / 8) 0b11110 b) refl

one : (x : ℕ) → length (byte_bytes x) ≡ 1
unfolding byte_bytes
one x = refl

plain-read : (p : IpProtocol) (h : Iphc.Repr) (s : List ℕ) (m : ℕ) → by_next (Uncompressed p) h s m ≡ is (record { ip = h; udp = None; rest = m + 0 })
unfolding by_next
plain-read p h s m = ap (λ z. is (record { ip = h; udp = None; rest = z })) (sym (add-zero m))

-- ---- behind the compressed IPv6 header
module _ (l : Link) (d : List ℕ) where
  first-bytes : (r : List ℕ) → udp_nhc_bytes (udp_of d) ++ r ≡ byte_bytes (udp_first (udp_of d)) ++ ((ports_bytes (udp_form (udp_of d)) (udp_of d).src_port (udp_of d).dst_port ++ checksum_bytes (udp_of d).checksum) ++ r)
  first-bytes r = append_assoc (byte_bytes (udp_first (udp_of d))) (ports_bytes (udp_form (udp_of d)) (udp_of d).src_port (udp_of d).dst_port ++ checksum_bytes (udp_of d).checksum) r

  nhc-is : nhc_of (udp_first (udp_of d)) ≡ is UdpHeader
  unfolding udp_of
  nhc-is = nhc-first (form_of _ _) (form-most _ _)

  nhc-read : (q r : List ℕ) (m : ℕ) → length q ≡ m → nhc (q ++ (udp_nhc_bytes (udp_of d) ++ r)) m ≡ is UdpHeader
  unfolding nhc
  nhc-read q r m e =
      let t = ports_bytes (udp_form (udp_of d)) (udp_of d).src_port (udp_of d).dst_port ++ checksum_bytes (udp_of d).checksum in
      let b : byte (q ++ (udp_nhc_bytes (udp_of d) ++ r)) m ≡ got (udp_first (udp_of d)) (m + 1) = ap (λ z. byte (q ++ z) m) (first-bytes r) ∙ reads_byte (udp_first (udp_of d)) q (t ++ r) m e ∙ ap (λ k. got (udp_first (udp_of d)) (m + k)) (one (udp_first (udp_of d))) in
      rw b nhc-is

  udp-read : (q r : List ℕ) (m : ℕ) → length q ≡ m → by_next Compressed (ip_of l d) (q ++ (udp_nhc_bytes (udp_of d) ++ r)) m ≡ is (record { ip = ip_of l d; udp = Some (udp_of d); rest = m + udp_length (udp_of d) })
  unfolding by_next transport
  udp-read q r m e = rw (nhc-read q r m e, udp-trip (udp_of d) q r m e, length-udp (udp_of d)) refl

  behind_go : (t : Bool) → is_udp d ≡ t → (q r : List ℕ) (m : ℕ) → length q ≡ m → by_next (next_of d) (ip_of l d) (q ++ (udp_part d ++ r)) m ≡ is (record { ip = ip_of l d; udp = udp_field d; rest = m + udp_part_length d })
  unfolding next_of udp_part udp_part_length
  behind_go true e q r m f = rw e (udp-read q r m f)
  behind_go false e q r m f = rw e (plain-read (record { 0 = _ }) (ip_of l d) (q ++ r) m)

  -- ---- all of them, wherever they stand
  iphc-read : (ctx q r : List ℕ) (m : ℕ) → length q ≡ m → iphc ctx (Some l.src) (Some l.dst) (q ++ (Emit.bytes_of (ip_of l d) ++ r)) m ≡ got (ip_of l d) (m + length (Emit.bytes_of (ip_of l d)))
  unfolding ip_of
  iphc-read ctx q r m e = IphcTrip.round_trip (ip_of l d) ctx q r m e

  next-is : (ip_of l d).next_header ≡ next_of d
  unfolding ip_of
  next-is = refl

  pub headers-read : (ctx q r : List ℕ) (m : ℕ) → length q ≡ m → headers ctx (Some l.src) (Some l.dst) (q ++ (head_bytes l d ++ r)) m ≡ is (record { ip = ip_of l d; udp = udp_field d; rest = m + head_length l d })
  unfolding headers head_bytes head_length
  headers-read ctx q r m e =
      let a : List ℕ = Emit.bytes_of (ip_of l d) in
      let u : List ℕ = udp_part d in
      let s : List ℕ = q ++ (a ++ (u ++ r)) in
      let k : ℕ = m + length a in
      let c : length (q ++ a) ≡ k = length-append q a ∙ ap (λ z. z + length a) e in
      let n : k + udp_part_length d ≡ m + (Emit.length_of (ip_of l d) + udp_part_length d) = omega (arith, IphcPuts.length-bytes (ip_of l d)) in
      let b : by_next (ip_of l d).next_header (ip_of l d) s k ≡ is (record { ip = ip_of l d; udp = udp_field d; rest = k + udp_part_length d }) =
      ap (λ z. by_next z (ip_of l d) s k) next-is ∙ ap (λ z. by_next (next_of d) (ip_of l d) z k) (sym (append_assoc q a (u ++ r))) ∙ behind_go (is_udp d) refl (q ++ a) r k c in
      rw (append_assoc a u r, iphc-read ctx q (u ++ r) m e) (b ∙ ap (λ z. is (record { ip = ip_of l d; udp = udp_field d; rest = z })) n)

  behind-drop : (q r : List ℕ) (m : ℕ) → length q ≡ m → drop (m + head_length l d) (q ++ (head_bytes l d ++ r)) ≡ r
  behind-drop q r m e = ap (λ z. drop (z + head_length l d) (q ++ (head_bytes l d ++ r))) (sym e) ∙ drop-append-add q (head_bytes l d ++ r) (head_length l d) ∙ ap (λ z. drop z (head_bytes l d ++ r)) (sym (length-head l d)) ∙ drop-append_seam (head_bytes l d) r

-- ---- what they stand for
finished-not : (size : Option ℕ) (m : UdpSum) (d : List ℕ) → was_elided m ≡ false → finished size m d ≡ d
unfolding summed_by
finished-not None m d e = rw e refl
finished-not (Some n) m d e = refl

sized-go : (size : Option ℕ) (i : Iphc.Repr) (u : Option UdpNhcRepr) (k : ℕ) (s r x : List ℕ) (total : ℕ) → drop k s ≡ r → was_elided (Plain.sum_of u) ≡ false → total_of size (40 + (Plain.udp_size u + length r)) ≡ total → 40 + (Plain.udp_size u + length r) ≤ total → Plain.ipv6_bytes i (total - 40) ++ Plain.udp_bytes u (total - 40) ≡ x → sized size (record { ip = i; udp = u; rest = k }) s ≡ is (record { bytes = x ++ r; sum = Plain.sum_of u })
unfolding sized bytes_of plain
sized-go size i u k s r x total e1 e2 e3 h e4 =
    rw (e1, e3, le-leb (40 + (Plain.udp_size u + length r)) total h)
    (ap (λ z. is (record { bytes = z; sum = Plain.sum_of u })) (finished-not size (Plain.sum_of u) (Plain.ipv6_bytes i (total - 40) ++ (Plain.udp_bytes u (total - 40) ++ r)) e2 ∙ sym (append_assoc (Plain.ipv6_bytes i (total - 40)) (Plain.udp_bytes u (total - 40)) r) ∙ ap (λ z. z ++ r) e4))

field-go : (t : Bool) (u : UdpNhcRepr) → Full.is_absent u.checksum ≡ false → (40 + Plain.udp_size (choose t (Some u) None) ≡ choose t 48 40) × (Plain.sum_of (choose t (Some u) None) ≡ choose t (carried_at 0 40) no_sum)
field-go true u e = (refl, rw e refl)
field-go false u e = (refl, refl)

field_is : (d : List ℕ) → (40 + Plain.udp_size (udp_field d) ≡ covers d) × (Plain.sum_of (udp_field d) ≡ sum_sent d)
unfolding covers udp_of sum_sent
field_is d = field-go (is_udp d) (udp_of d) refl

sent-go : (t : Bool) → was_elided (choose t (carried_at 0 40) no_sum) ≡ false
sent-go true = refl
sent-go false = refl

sent-carried : (d : List ℕ) → was_elided (sum_sent d) ≡ false
unfolding sum_sent
sent-carried d = sent-go (is_udp d)

-- what the frame's headers and the r behind them stand for: as many bytes of the datagram as they cover, and r
pub expansion-read : (l : Link) (d ctx q r : List ℕ) (m : ℕ) (size : Option ℕ) → Bytes d → Ours d → 40 ≤ length d → length q ≡ m → length (q ++ (head_bytes l d ++ r)) ≤ 127 → covers d + length r ≤ length d → total_of size (covers d + length r) ≡ length d → expansion ctx (Some l.src) (Some l.dst) size (q ++ (head_bytes l d ++ r)) m ≡ is (record { bytes = take (covers d) d ++ r; sum = sum_sent d })
expansion-read l d ctx q r m size w o h e n k t =
    let s : List ℕ = q ++ (head_bytes l d ++ r) in
    let f = field_is d in
    let c : 40 + (Plain.udp_size (udp_field d) + length r) ≡ covers d + length r = omega (arith, f.0) in
    expansion-plain ctx (Some l.src) (Some l.dst) size s m (record { ip = ip_of l d; udp = udp_field d; rest = m + head_length l d }) n (headers-read l d ctx q r m e)
    ∙ sized-go size (ip_of l d) (udp_field d) (m + head_length l d) s r (take (covers d) d) (length d) (behind-drop l d q r m e) (ap was_elided f.1 ∙ sent-carried d) (ap (total_of size) c ∙ t) (omega arith) (headers-full l d w o h)
    ∙ ap (λ z. is (record { bytes = take (covers d) d ++ r; sum = z })) f.1

-- ---- the first byte
iid-go : (t s r : Bool) (x y z : Inline) → (choose t (choose s (Emit.form 0b11 x) (Emit.form 0b10 y)) (choose r (Emit.form 0b11 x) (Emit.form 0b01 z))).mode ≤ 3
iid-go true true r x y z = omega arith
iid-go true false r x y z = omega arith
iid-go false s true x y z = omega arith
iid-go false s false x y z = omega arith

iid-most : (i : ℕ) (a : Option Address) → (Emit.iid_form i a).mode ≤ 3
unfolding Emit.iid_form
iid-most i a = iid-go (eqb (i / 2 ^ 16) 0xfffe00) (Emit.is_short a (i % 2 ^ 16)) (Emit.is_extended a i) Nothing (Bits16 (i % 2 ^ 16)) (Bits64 i)

src-go : (t s : Bool) (f : Form) (x y : Inline) → f.mode ≤ 3 → (choose t (Emit.form 0b100 x) (choose s f (Emit.form 0b000 y))).mode ≤ 7
src-go true s f x y h = omega arith
src-go false true f x y h = omega arith
src-go false false f x y h = omega arith

src-most : (a : Ipv6Addr) (b : Option Address) → (Emit.src_form a b).mode ≤ 7
unfolding Emit.src_form
src-most a b = src-go (is_unspecified a) (is_link_local a) (Emit.iid_form a.iid b) Nothing (Bits128 a.prefix a.iid) (iid-most a.iid b)

group-go : (t s r : Bool) (w x y z : Inline) → (choose t (Emit.form 0b1011 w) (choose s (Emit.form 0b1010 x) (choose r (Emit.form 0b1001 y) (Emit.form 0b1000 z)))).mode ≤ 11
group-go true s r w x y z = omega arith
group-go false true r w x y z = omega arith
group-go false false true w x y z = omega arith
group-go false false false w x y z = omega arith

group-most : (a : Ipv6Addr) → (Emit.multicast_form a).mode ≤ 11
unfolding Emit.multicast_form
group-most a =
    group-go (Emit.is_group8 a) (Emit.is_scoped a (2 ^ 24)) (Emit.is_scoped a (2 ^ 40)) (Bits8 (a.iid % 2 ^ 8)) (Bits32 (Emit.scope_of a * 2 ^ 24 + a.iid % 2 ^ 24))
    (Bits48 (Emit.scope_of a * 2 ^ 8 + a.iid / 2 ^ 32 % 2 ^ 8) (a.iid % 2 ^ 32)) (Bits128 a.prefix a.iid)

dst-go : (t s : Bool) (g f : Form) (y : Inline) → g.mode ≤ 11 → f.mode ≤ 3 → (choose t g (choose s f (Emit.form 0b0000 y))).mode ≤ 15
dst-go true s g f y h k = omega arith
dst-go false true g f y h k = omega arith
dst-go false false g f y h k = omega arith

dst-most : (a : Ipv6Addr) (b : Option Address) → (Emit.dst_form a b).mode ≤ 15
unfolding Emit.dst_form
dst-most a b = dst-go (is_multicast a) (is_link_local a) (Emit.multicast_form a) (Emit.iid_form a.iid b) (Bits128 a.prefix a.iid) (group-most a) (iid-most a.iid b)

hop-go : (t s r : Bool) → choose t 0b01 (choose s 0b10 (choose r 0b11 0b00)) ≤ 3
hop-go true s r = omega arith
hop-go false true r = omega arith
hop-go false false true = omega arith
hop-go false false false = omega arith

lead : (n : NextHeader) (h : ℕ) (s d : Form) → s.mode ≤ 7 → d.mode ≤ 15 → Emit.base_word n h s d / 256 / 32 ≡ 3
unfolding Emit.base_word
lead n h s d p q = omega (arith, next-bit-lt n, hop-go (eqb h 1) (eqb h 64) (eqb h 255))

dispatch-iphc : (x : ℕ) → x / 32 ≡ 3 → dispatch_of x ≡ is IphcHeader
unfolding dispatch_of
dispatch-iphc x e =
    let a : (x / 8 ≡ 0b11000) → ⊥ = λ q. omega arith in
    let b : (x / 8 ≡ 0b11100) → ⊥ = λ q. omega arith in
    rw (ne_eqb (x / 8) 0b11000 a, ne_eqb (x / 8) 0b11100 b, eq-eqb (x / 32) 0b011 e) refl

dispatch-first : (x : ℕ) → x / 8 ≡ 0b11000 → dispatch_of x ≡ is FragmentHeader
unfolding dispatch_of
dispatch-first x e = rw (eq-eqb (x / 8) 0b11000 e) refl

dispatch-later : (x : ℕ) → x / 8 ≡ 0b11100 → dispatch_of x ≡ is FragmentHeader
unfolding dispatch_of
dispatch-later x e =
    let a : (x / 8 ≡ 0b11000) → ⊥ = λ q. omega arith in
    rw (ne_eqb (x / 8) 0b11000 a, eq-eqb (x / 8) 0b11100 e) refl

-- bytes that begin with a byte of the kind k
abbrev Begins : SixlowpanPacket → List ℕ → Type 0
Begins k s = (x : ℕ) × (r : List ℕ) × (s ≡ byte_bytes x ++ r) × (dispatch_of x ≡ is k)

begins-dispatch : (k : SixlowpanPacket) (p s : List ℕ) (n : ℕ) → length p ≡ n → Begins k s → dispatch (p ++ s) n ≡ is k
begins-dispatch k p s n e (x, r, f, g) = ap (λ z. dispatch (p ++ z) n) f ∙ dispatch-at p r x n e ∙ g

begins-iphc : (i : Iphc.Repr) (r : List ℕ) → Begins IphcHeader (Emit.bytes_of i ++ r)
unfolding Emit.bytes_of Emit.front_bytes be16_bytes byte_bytes
begins-iphc i r =
    let f : Form = Emit.source_form i in
    let g : Form = Emit.dest_form i in
    let w : ℕ = Emit.base_word i.next_header i.hop_limit f g in
    (w / 256, _, refl, dispatch-iphc (w / 256) (lead i.next_header i.hop_limit f g (src-most i.src_addr i.ll_src_addr) (dst-most i.dst_addr i.ll_dst_addr)))

begins-head : (l : Link) (d r : List ℕ) → Begins IphcHeader (head_bytes l d ++ r)
unfolding head_bytes
begins-head l d r = let (x, t, f, g) = begins-iphc (ip_of l d) (udp_part d ++ r) in (x, t, append_assoc (Emit.bytes_of (ip_of l d)) (udp_part d) r ∙ f, g)

begins-frag : (h : Repr) (r : List ℕ) → Begins FragmentHeader (Frag.bytes_of h ++ r)
unfolding be16_bytes byte_bytes
begins-frag (FirstFragment size tag) r =
    let w : ℕ = 0b11000 * 2048 + size % 2048 in
    let e : w / 256 / 8 ≡ 0b11000 = omega arith in
    (w / 256, _, refl, dispatch-first (w / 256) e)
begins-frag (Fragment size tag o) r =
    let w : ℕ = 0b11100 * 2048 + size % 2048 in
    let e : w / 256 / 8 ≡ 0b11100 = omega arith in
    (w / 256, _, refl, dispatch-later (w / 256) e)

-- ---- the frames of a datagram that is cut
module _ (l : Link) (d : List ℕ) where
  length-mac : length (mac_bytes l) ≡ mac_length l
  length-mac = MacSteps.length-bytes (mac_of l)

  pub frame-mac : (p : Piece) → has_both l ≡ true → length (frame_of l d p) ≤ 127 → Mac.mac (frame_of l d p) ≡ got (mac_of l) (mac_length l)
  unfolding frame_of
  frame-mac p e h = mac-back l (middle l d p ++ part_of d p) e (omega (arith, length-append (mac_bytes l) (middle l d p ++ part_of d p), length-mac))

  pub whole-dispatch : dispatch (frame_of l d Whole) (mac_length l) ≡ is IphcHeader
  unfolding frame_of middle part_of
  whole-dispatch = begins-dispatch IphcHeader (mac_bytes l) (head_bytes l d ++ drop (covers d) d) (mac_length l) length-mac (begins-head l d (drop (covers d) d))

  pub first-dispatch : (n : ℕ) → dispatch (frame_of l d (First n)) (mac_length l) ≡ is FragmentHeader
  unfolding frame_of middle
  first-dispatch n =
      let h : Repr = FirstFragment (length d) l.tag in
      ap (λ z. dispatch (mac_bytes l ++ z) (mac_length l)) (append_assoc (Frag.bytes_of h) (head_bytes l d) (part_of d (First n)))
      ∙ begins-dispatch FragmentHeader (mac_bytes l) (Frag.bytes_of h ++ (head_bytes l d ++ part_of d (First n))) (mac_length l) length-mac (begins-frag h (head_bytes l d ++ part_of d (First n)))

  pub later-dispatch : (at n : ℕ) → dispatch (frame_of l d (Later at n)) (mac_length l) ≡ is FragmentHeader
  unfolding frame_of middle
  later-dispatch at n =
      let h : Repr = Fragment (length d) l.tag (record { 0 = at / 8 % 256 }) in
      begins-dispatch FragmentHeader (mac_bytes l) (Frag.bytes_of h ++ part_of d (Later at n)) (mac_length l) length-mac (begins-frag h (part_of d (Later at n)))

  pub whole-expands : (ctx : List ℕ) → Bytes d → Ours d → 40 ≤ length d → length (frame_of l d Whole) ≤ 127 → expansion ctx (Some l.src) (Some l.dst) None (frame_of l d Whole) (mac_length l) ≡ is (record { bytes = d; sum = sum_sent d })
  unfolding frame_of middle part_of
  whole-expands ctx w o h k =
      let c : covers d ≤ length d = covers-within d h in
      let e : covers d + length (drop (covers d) d) ≡ length d = omega (arith, length-drop (covers d) d) in
      expansion-read l d ctx (mac_bytes l) (drop (covers d) d) (mac_length l) None w o h length-mac k (omega arith) e
      ∙ ap (λ z. is (record { bytes = z; sum = sum_sent d })) (take-append-drop (covers d) d)

  pub first_frag : (n : ℕ) → length d ≤ 2047 → Frag.frag (frame_of l d (First n)) (mac_length l) ≡ got (FirstFragment (length d) l.tag) (mac_length l + 4)
  unfolding frame_of middle
  first_frag n k =
      let h : Repr = FirstFragment (length d) l.tag in
      let m : length d % 2048 ≡ length d = omega arith in
      ap (λ z. Frag.frag (mac_bytes l ++ z) (mac_length l)) (append_assoc (Frag.bytes_of h) (head_bytes l d) (part_of d (First n)))
      ∙ FragTrips.round_trip h (mac_bytes l) (head_bytes l d ++ part_of d (First n)) (mac_length l) length-mac
      ∙ ap (λ z. got (FirstFragment z l.tag) (mac_length l + length (Frag.bytes_of h))) m
      ∙ ap (λ z. got h (mac_length l + z)) (FragPuts.length-bytes h)

  pub later-frag : (at n : ℕ) → length d ≤ 2047 → at < 2048 → Frag.frag (frame_of l d (Later at n)) (mac_length l) ≡ got (Fragment (length d) l.tag (record { 0 = at / 8 })) (mac_length l + 5)
  unfolding frame_of middle
  later-frag at n k i =
      let h : Repr = Fragment (length d) l.tag (record { 0 = at / 8 % 256 }) in
      let m : length d % 2048 ≡ length d = omega arith in
      let a : at / 8 % 256 ≡ at / 8 = omega arith in
      FragTrips.round_trip h (mac_bytes l) (part_of d (Later at n)) (mac_length l) length-mac
      ∙ ap (λ z. got (Fragment z l.tag (record { 0 = at / 8 % 256 })) (mac_length l + length (Frag.bytes_of h))) m
      ∙ ap (λ z. got (Fragment (length d) l.tag (record { 0 = z })) (mac_length l + length (Frag.bytes_of h))) a
      ∙ ap (λ z. got (Fragment (length d) l.tag (record { 0 = at / 8 })) (mac_length l + z)) (FragPuts.length-bytes h)

  pub first-expands : (ctx : List ℕ) (n : ℕ) → Bytes d → Ours d → 40 ≤ length d → length (frame_of l d (First n)) ≤ 127 → covers d + n ≤ length d → expansion ctx (Some l.src) (Some l.dst) (Some (length d)) (frame_of l d (First n)) (mac_length l + 4) ≡ is (record { bytes = take (covers d + n) d; sum = sum_sent d })
  unfolding frame_of middle part_of
  first-expands ctx n w o h k i =
      let f : Repr = FirstFragment (length d) l.tag in
      let r : List ℕ = take n (drop (covers d) d) in
      let q : List ℕ = mac_bytes l ++ Frag.bytes_of f in
      let s : List ℕ = mac_bytes l ++ ((Frag.bytes_of f ++ head_bytes l d) ++ r) in
      let e : s ≡ q ++ (head_bytes l d ++ r) = ap (λ z. mac_bytes l ++ z) (append_assoc (Frag.bytes_of f) (head_bytes l d) r) ∙ sym (append_assoc (mac_bytes l) (Frag.bytes_of f) (head_bytes l d ++ r)) in
      let m : length q ≡ mac_length l + 4 = omega (arith, length-append (mac_bytes l) (Frag.bytes_of f), FragPuts.length-bytes f, length-mac) in
      let b : length (q ++ (head_bytes l d ++ r)) ≤ 127 = rw (← e) k in
      let c : covers d + length r ≤ length d = omega (arith, length-take n (drop (covers d) d), length-drop (covers d) d) in
      rw e (expansion-read l d ctx q r (mac_length l + 4) (Some (length d)) w o h m b c refl)
      ∙ ap (λ z. is (record { bytes = z; sum = sum_sent d })) (sym (take-add (covers d) n d))

  pub later-part : (at n : ℕ) → drop (mac_length l + 5) (frame_of l d (Later at n)) ≡ take n (drop at d)
  unfolding frame_of middle part_of
  later-part at n =
      let h : Repr = Fragment (length d) l.tag (record { 0 = at / 8 % 256 }) in
      let r : List ℕ = take n (drop at d) in
      ap (λ z. drop (z + 5) (mac_bytes l ++ (Frag.bytes_of h ++ r))) (sym length-mac)
      ∙ drop-append-add (mac_bytes l) (Frag.bytes_of h ++ r) 5
      ∙ ap (λ z. drop z (Frag.bytes_of h ++ r)) (sym (FragPuts.length-bytes h))
      ∙ drop-append_seam (Frag.bytes_of h) r
