-- Compressed UDP and extension headers as they are written: each length is that of the bytes, and a field goes after a field.
use Rattle.std.specs.Prelude.{Option, Some, None}
use Prim.Native.Nat.{ℕ, ◌+◌, ◌*◌, ◌%◌}
use native.Mathlib.Omega.{arith}
use mathlib.Core.List.{List, ◌++◌}
use mathlib.Core.Bool.{Bool, true, false}
use mathlib.Core.Path.{◌≡◌, refl, sym, ◌∙◌}
use lib.Dec.{eqb}
use lib.ListN.{length, length-append}
use Rattle.octets.specs.Read.{choose}
use Rattle.octets.specs.Write.{put, byte_bytes, be16_bytes}
use Rattle.octets.proofs.Puts.{more, put-eq, put-ne, put-nil, puts, told, written_over}
use Rattle.sixlowpan.specs.Next.{next_bytes}
use Rattle.sixlowpan.specs.NhcExt.{ext_length, ext_bytes}
use Rattle.sixlowpan.specs.NhcUdp.{elided_bit, port_width, ports_width, checksum_width, port_bytes, ports_bytes, checksum_bytes, udp_form, udp_length, udp_nhc_bytes}
use Rattle.sixlowpan.specs.declared.nhc.ExtHeaderRepr.{ExtHeaderRepr}
use Rattle.sixlowpan.specs.declared.nhc.UdpNhcRepr.{UdpNhcRepr}
use Rattle.sixlowpan.proofs.NextLaws.{length-next, more-next}

-- ---- lengths
pub length-ext : (h : ExtHeaderRepr) → length (ext_bytes h) ≡ ext_length h
unfolding byte_bytes
length-ext h = rw (length-append (next_bytes h.next_header) (byte_bytes h.length), length-next h.next_header) (omega arith)

length-port : (short : Bool) (x : ℕ) → length (port_bytes short x) ≡ port_width short
unfolding port_bytes byte_bytes be16_bytes
length-port true x = refl
length-port false x = refl

length-ports : (p src dst : ℕ) → length (ports_bytes p src dst) ≡ ports_width p
unfolding ports_bytes byte_bytes
length-ports p src dst = by (eqb p 0b11)
  where
    by : (t : Bool) → length (choose t (byte_bytes (src % 16 * 16 + dst % 16)) (port_bytes (eqb p 0b10) src ++ port_bytes (eqb p 0b01) dst)) ≡ choose t 1 (port_width (eqb p 0b10) + port_width (eqb p 0b01))
    by true = refl
    by false = rw (length-append (port_bytes (eqb p 0b10) src) _, length-port (eqb p 0b10) src, length-port (eqb p 0b01) dst) refl

length-checksum : (x : Option ℕ) → length (checksum_bytes x) ≡ checksum_width (elided_bit x)
unfolding be16_bytes
length-checksum (Some x) = refl
length-checksum None = refl

pub length-udp : (h : UdpNhcRepr) → length (udp_nhc_bytes h) ≡ udp_length h
unfolding byte_bytes
length-udp h = rw (length-append (ports_bytes (udp_form h) h.src_port h.dst_port) (checksum_bytes h.checksum), length-ports (udp_form h) h.src_port h.dst_port, length-checksum h.checksum) (omega arith)

-- ---- a field after a field, as a call says it
pub more-port : (l m n : List ℕ) (at k x : ℕ) (short : Bool) (bs : List ℕ) → k ≡ port_width short → m ≡ put at (port_bytes short x) l → n ≡ put (at + k) bs m → n ≡ put at (port_bytes short x ++ bs) l
more-port l m n at k x short bs h p q = more l m n at k (port_bytes short x) bs (length-port short x ∙ sym h) p q

-- the form and the width are those that calls gave
pub more-ports : (l m n : List ℕ) (at k f p src dst : ℕ) (bs : List ℕ) → f ≡ p → k ≡ ports_width f → m ≡ put at (ports_bytes f src dst) l → n ≡ put (at + k) bs m → n ≡ put at (ports_bytes p src dst ++ bs) l
more-ports l m n at k f p src dst bs e h q r = rw (← e) (more l m n at k (ports_bytes f src dst) bs (length-ports f src dst ∙ sym h) q r)

-- what an `emit` of this crate goes by
pub ruleset header_puts = (puts, told, written_over, length-ext, length-udp, more-next, more-port, more-ports)

-- and a field of a form or another
pub ruleset field_puts = (puts, put-nil, put-eq, put-ne, more-port)
