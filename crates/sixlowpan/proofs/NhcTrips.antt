-- Compressed UDP and extension headers come back as they were written, wherever their bytes stand and whatever follows; so does the
-- header that `emit` leaves in any room.
use Rattle.std.specs.Prelude.{Option, Some, None}
use Prim.Native.Nat.{ℕ, ◌+◌, ◌*◌, ◌/◌, ◌%◌, ◌≤◌, ◌<◌}
use native.Mathlib.Omega.{arith}
use mathlib.Core.List.{List, ◌++◌}
use mathlib.Core.Bool.{Bool, true, false, false≢true}
use mathlib.Core.Path.{◌≡◌, refl, ap, subst, ◌∙◌}
use lib.ListN.{length}
use borrow.Author.Tests.{eqb-true}
use Rattle.octets.specs.Read.{got, choose, byte, be16, give, ◌>>=◌}
use Rattle.octets.specs.Write.{over, byte_bytes, be16_bytes}
use Rattle.octets.proofs.RoundTrip.{Reads, reads_first, reads_both, reads-map, reads-give, emit-then-read, reads_byte, reads-be16}
use Rattle.octets.proofs.Steps.{and-true}
use Rattle.sixlowpan.specs.Next.{next_header, next_bit, next_bytes}
use Rattle.sixlowpan.specs.NhcExt.{id_of, eid_of, ext_rest, ext, ext_length, ext_bytes}
use Rattle.sixlowpan.specs.NhcUdp.{port, both_ports, ports, checksum, udp_rest, udp, port8, port4, both_port4, form_of, elided_bit, port_bytes, ports_bytes, checksum_bytes, udp_form, udp_first, udp_length, udp_nhc_bytes}
use Rattle.sixlowpan.specs.declared.protocol.NextHeader.{NextHeader}
use Rattle.sixlowpan.specs.declared.nhc.ExtHeaderId.{ExtHeaderId}
use Rattle.sixlowpan.specs.declared.nhc.ExtHeaderId.TheVariants.{HopByHopHeader, RoutingHeader, FragmentHeader, DestinationOptionsHeader, MobilityHeader, Header, Reserved}
use Rattle.sixlowpan.specs.declared.nhc.ExtHeaderRepr.{ExtHeaderRepr}
use Rattle.sixlowpan.specs.declared.nhc.UdpNhcRepr.{UdpNhcRepr}
use Rattle.sixlowpan.specs.declared.nhc.Ports.{Ports}
use Rattle.sixlowpan.proofs.NextLaws.{reads-next, next-bit-lt}
use Rattle.sixlowpan.proofs.NhcPuts.{length-ext, length-udp}

-- ---- extension headers
id-back : (i : ExtHeaderId) → (id_of (eid_of i) ≡ i) × (eid_of i < 8)
unfolding id_of
id-back HopByHopHeader = (refl, omega arith)
id-back RoutingHeader = (refl, omega arith)
id-back FragmentHeader = (refl, omega arith)
id-back DestinationOptionsHeader = (refl, omega arith)
id-back MobilityHeader = (refl, omega arith)
id-back Header = (refl, omega arith)
id-back Reserved = (refl, omega arith)

-- every EID e, also that which is never written
ext-reads : (e : ℕ) (x : NextHeader) (n : ℕ) → e < 8 → Reads ext (byte_bytes (0b1110 * 16 + e * 2 + next_bit x) ++ (next_bytes x ++ byte_bytes n)) (record { ext_header_id = id_of e; next_header = x; length = n })
unfolding ext ext_rest
ext-reads e x n l =
    let b : ℕ = 0b1110 * 16 + e * 2 + next_bit x in
    let j = next-bit-lt x in
    let d : b / 16 ≡ 0b1110 = omega arith in
    let f : b / 2 % 8 ≡ e = omega arith in
    let g : b % 2 ≡ next_bit x = omega arith in
    reads_first b 0b1110 2 ext_rest (λ a. a / 16) _ _ d
    (rw (f, g) (reads_both (next_header (next_bit x)) byte (λ y m. record { ext_header_id = id_of e; next_header = y; length = m }) (next_bytes x) (byte_bytes n) x n (reads-next x) (reads_byte n)))

pub ext-trip : (h : ExtHeaderRepr) → Reads ext (ext_bytes h) h
ext-trip h =
    let i = id-back h.ext_header_id in
    subst (λ z. Reads ext (ext_bytes h) (record { ext_header_id = z; next_header = h.next_header; length = h.length })) i.0
    (ext-reads (eid_of h.ext_header_id) h.next_header h.length i.1)

pub ext-emit-parse : (h : ExtHeaderRepr) (room : List ℕ) → ext_length h ≤ length room → ext (over (ext_length h) (ext_bytes h) room) 0 ≡ got h (ext_length h)
ext-emit-parse h room e = emit-then-read ext (ext_bytes h) h (ext_length h) room (ext-trip h) (length-ext h) e

-- EID 6 is read as `Reserved`, which is written as 5: it comes back as 5
pub six-back : (x : NextHeader) (n : ℕ) → Reads ext (byte_bytes (0b1110 * 16 + 6 * 2 + next_bit x) ++ (next_bytes x ++ byte_bytes n)) (record { ext_header_id = Reserved; next_header = x; length = n }) × (eid_of Reserved ≡ 5)
unfolding id_of
six-back x n = (ext-reads 6 x n (omega arith), refl)

-- ---- UDP headers
abbrev pair : ℕ → ℕ → Ports
pair s d = record { src = s; dst = d }

port-trip : (short : Bool) (x : ℕ) → (short ≡ true → port8 x ≡ true) → Reads (port short) (port_bytes short x) x
unfolding port port_bytes
port-trip true x h =
    let e : 0xf000 + x % 256 ≡ x = omega (arith, eqb-true (x / 256) 0xf0 (h refl)) in
    subst (Reads (port true) (byte_bytes (x % 256))) e (reads-map byte (λ low. 0xf000 + low) (byte_bytes (x % 256)) (x % 256) (reads_byte (x % 256)))
port-trip false x h = reads-be16 x

both-trip : (src dst : ℕ) → port4 src ≡ true → port4 dst ≡ true → Reads both_ports (byte_bytes (src % 16 * 16 + dst % 16)) (pair src dst)
unfolding both_ports
both-trip src dst g h =
    let b : ℕ = src % 16 * 16 + dst % 16 in
    let e : 0xf0b0 + b / 16 ≡ src = omega (arith, eqb-true (src / 16) 0xf0b g) in
    let f : 0xf0b0 + b % 16 ≡ dst = omega (arith, eqb-true (dst / 16) 0xf0b h) in
    subst (Reads both_ports (byte_bytes b)) (ap (λ s. pair s (0xf0b0 + b % 16)) e ∙ ap (pair src) f)
    (reads-map byte (λ low. pair (0xf0b0 + low / 16) (0xf0b0 + low % 16)) (byte_bytes b) b (reads_byte b))

two-trip : (a b : Bool) (src dst : ℕ) → (a ≡ true → port8 src ≡ true) → (b ≡ true → port8 dst ≡ true) → Reads (◌>>=◌ (port a) (λ s. ◌>>=◌ (port b) (λ d. give (pair s d)))) (port_bytes a src ++ port_bytes b dst) (pair src dst)
two-trip a b src dst g h = reads_both (port a) (port b) pair (port_bytes a src) (port_bytes b dst) src dst (port-trip a src g) (port-trip b dst h)

-- the form that is chosen is one that the two ports have
ports-trip : (src dst : ℕ) → Reads (ports (form_of src dst)) (ports_bytes (form_of src dst) src dst) (pair src dst)
unfolding form_of ports ports_bytes
ports-trip src dst = by (both_port4 src dst) (port8 src) (port8 dst) refl refl refl
  where
    by : (a b c : Bool) → both_port4 src dst ≡ a → port8 src ≡ b → port8 dst ≡ c → Reads (ports (choose a 0b11 (choose b 0b10 (choose c 0b01 0b00)))) (ports_bytes (choose a 0b11 (choose b 0b10 (choose c 0b01 0b00))) src dst) (pair src dst)
    by true b c e f g = let h = and-true (port4 src) (port4 dst) e in both-trip src dst h.0 h.1
    by false true c e f g = two-trip true false src dst (λ _. f) (λ z. absurd (false≢true z))
    by false false true e f g = two-trip false true src dst (λ z. absurd (false≢true z)) (λ _. g)
    by false false false e f g = two-trip false false src dst (λ z. absurd (false≢true z)) (λ z. absurd (false≢true z))

form_small : (src dst : ℕ) → form_of src dst < 4
unfolding form_of
form_small src dst = by (both_port4 src dst) (port8 src) (port8 dst)
  where
    by : (a b c : Bool) → choose a 0b11 (choose b 0b10 (choose c 0b01 0b00)) < 4
    by true b c = omega arith
    by false true c = omega arith
    by false false true = omega arith
    by false false false = omega arith

checksum-trip : (x : Option ℕ) → Reads (checksum (elided_bit x)) (checksum_bytes x) x
unfolding checksum
checksum-trip (Some x) = reads-map be16 Some (be16_bytes x) x (reads-be16 x)
checksum-trip None = reads-give None

bit-small : (x : Option ℕ) → elided_bit x < 2
bit-small (Some x) = omega arith
bit-small None = omega arith

pub udp-trip : (h : UdpNhcRepr) → Reads udp (udp_nhc_bytes h) h
unfolding udp udp_rest
udp-trip h =
    let b : ℕ = udp_first h in
    let i = form_small h.src_port h.dst_port in
    let j = bit-small h.checksum in
    let d : b / 8 ≡ 0b11110 = omega arith in
    let f : b % 4 ≡ udp_form h = omega arith in
    let q : b / 4 ≡ 0b111100 + elided_bit h.checksum = omega arith in
    let g : b / 4 % 2 ≡ elided_bit h.checksum = rw q (omega arith) in
    reads_first b 0b11110 2 udp_rest (λ a. a / 8) _ h d
    (rw (f, g)
    (reads_both (ports (udp_form h)) (checksum (elided_bit h.checksum)) (λ x y. record { src_port = x.src; dst_port = x.dst; checksum = y }) (ports_bytes (udp_form h) h.src_port h.dst_port) (checksum_bytes h.checksum) (pair h.src_port h.dst_port) h.checksum (ports-trip h.src_port h.dst_port) (checksum-trip h.checksum)))

pub udp-emit-parse : (h : UdpNhcRepr) (room : List ℕ) → udp_length h ≤ length room → udp (over (udp_length h) (udp_nhc_bytes h) room) 0 ≡ got h (udp_length h)
udp-emit-parse h room e = emit-then-read udp (udp_nhc_bytes h) h (udp_length h) room (udp-trip h) (length-udp h) e
