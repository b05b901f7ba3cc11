-- How far a compressed UDP or extension header goes: its first byte says it, and it ends within the bytes.
use Rattle.std.specs.Prelude.{Some, None}
use Prim.Native.Nat.{ℕ, ◌+◌, ◌/◌, ◌%◌, ◌≤◌}
use mathlib.Core.List.{List}
use mathlib.Core.Bool.{Bool}
use mathlib.Core.Path.{◌≡◌}
use lib.Dec.{eqb}
use lib.ListN.{length}
use Rattle.octets.specs.Read.{got, branch, byte, be16, refuse, give}
use Rattle.octets.proofs.Spans.{Spans, First, spans-first, spans-map, spans-both, spans-guard, spans-branch, spans-give, spans-byte, spans-be16}
use Rattle.sixlowpan.specs.Next.{next_header, next_width}
use Rattle.sixlowpan.specs.NhcExt.{id_of, ext_rest, ext, ext_width}
use Rattle.sixlowpan.specs.NhcUdp.{port, both_ports, ports, checksum, udp_rest, udp, port_width, ports_width, checksum_width, udp_width}
use Rattle.sixlowpan.specs.declared.nhc.ExtHeaderRepr.{ExtHeaderRepr}
use Rattle.sixlowpan.specs.declared.nhc.UdpNhcRepr.{UdpNhcRepr}
use Rattle.sixlowpan.proofs.NextLaws.{spans-next}

-- ---- extension headers
spans-ext-rest : (b : ℕ) → Spans (ext_rest b) (ext_width b)
unfolding ext_rest
spans-ext-rest b = spans-both (next_header (b % 2)) byte (λ x n. record { ext_header_id = id_of (b / 2 % 8); next_header = x; length = n }) (next_width (b % 2)) 1 (spans-next (b % 2)) spans-byte

-- the place after the header is past its first byte b by ext_width b
pub ext-length : (s : List ℕ) (at n : ℕ) (h : ExtHeaderRepr) → at ≤ length s → ext s at ≡ got h n → First byte 1 ext_width s at n
unfolding ext
ext-length s at n h e r = spans-first byte (λ b. branch (eqb (b / 16) 0b1110) (ext_rest b) (refuse 2)) 1 ext_width spans-byte (λ b. spans-guard (eqb (b / 16) 0b1110) (ext_rest b) 2 (ext_width b) (spans-ext-rest b)) s at h n e r

-- ---- UDP headers
spans-port : (short : Bool) → Spans (port short) (port_width short)
unfolding port
spans-port short = spans-branch short _ be16 1 2 (spans-map byte (λ low. 0xf000 + low) 1 spans-byte) spans-be16

spans-both-ports : Spans both_ports 1
unfolding both_ports
spans-both-ports = spans-map byte (λ low. record { src = 0xf0b0 + low / 16; dst = 0xf0b0 + low % 16 }) 1 spans-byte

spans-ports : (p : ℕ) → Spans (ports p) (ports_width p)
unfolding ports
spans-ports p =
    spans-branch (eqb p 0b11) both_ports _ 1 _ spans-both-ports
    (spans-both (port (eqb p 0b10)) (port (eqb p 0b01)) (λ s d. record { src = s; dst = d }) _ _ (spans-port (eqb p 0b10)) (spans-port (eqb p 0b01)))

spans-checksum : (elided : ℕ) → Spans (checksum elided) (checksum_width elided)
unfolding checksum
spans-checksum elided = spans-branch (eqb elided 0) _ (give None) 2 0 (spans-map be16 Some 2 spans-be16) (spans-give None)

spans-udp-rest : (b : ℕ) → Spans (udp_rest b) (udp_width b)
unfolding udp_rest
spans-udp-rest b = spans-both (ports (b % 4)) (checksum (b / 4 % 2)) (λ x y. record { src_port = x.src; dst_port = x.dst; checksum = y }) _ _ (spans-ports (b % 4)) (spans-checksum (b / 4 % 2))

-- the place after the header is past its first byte b by udp_width b
pub udp-length : (s : List ℕ) (at n : ℕ) (h : UdpNhcRepr) → at ≤ length s → udp s at ≡ got h n → First byte 1 udp_width s at n
unfolding udp
udp-length s at n h e r = spans-first byte (λ b. branch (eqb (b / 8) 0b11110) (udp_rest b) (refuse 2)) 1 udp_width spans-byte (λ b. spans-guard (eqb (b / 8) 0b11110) (udp_rest b) 2 (udp_width b) (spans-udp-rest b)) s at h n e r
