-- A frame without extension headers, as the scope document had it before the change requests: the headers, read one after the other (RFC 6282), and
-- the datagram that they stand for, without a word of chains. proofs/Plain.antt shows that the expansion is this one wherever this one is not 13.
use Rattle.ieee802154.specs.declared.addr.Address.{Address}
use Rattle.std.specs.Prelude.{ℕ, ◌+◌, ◌-◌, List, [], ◌++◌, ltb, leb, length, drop, Option, Some, None}
use Rattle.octets.specs.Read.{Answer, is, refused, and_then, choose}
use Rattle.iphc.specs.Iphc.{iphc}
use Rattle.sixlowpan.specs.Nhc.{nhc}
use Rattle.sixlowpan.specs.NhcUdp as NhcUdp
use Rattle.iphc.specs.declared.header.Repr.{Repr}
use Rattle.sixlowpan.specs.declared.protocol.NextHeader.{NextHeader}
use Rattle.sixlowpan.specs.declared.protocol.NextHeader.TheVariants.{Compressed, Uncompressed}
use Rattle.sixlowpan.specs.declared.nhc.NhcPacket.{NhcPacket}
use Rattle.sixlowpan.specs.declared.nhc.NhcPacket.TheVariants.{ExtHeader, UdpHeader}
use Rattle.sixlowpan.specs.declared.nhc.UdpNhcRepr.{UdpNhcRepr}
use Rattle.expand.specs.Sum.{no_sum, elided_at, carried_at}
use Rattle.expand.specs.Full.{ipv6_with, udp_full, is_absent}
use Rattle.expand.specs.Expand.{Expansion, finished}
use Rattle.expand.specs.Chain.{total_of}
use Rattle.expand.specs.declared.checksum.UdpSum.{UdpSum}

-- what stands before the payload: the IPv6 header, the UDP header where it is compressed, and the place behind them
pub record Headers : Type 0 where
  pub ip : Repr
  pub udp : Option UdpNhcRepr
  pub rest : ℕ

-- ---- reading
-- RFC 6282, 4: a UDP header is read; an extension header is not expanded, 13
unfoldable pub transport : NhcPacket → Repr → List ℕ → ℕ → Answer Headers
transport ExtHeader h s at = refused 13
transport UdpHeader h s at = and_then (NhcUdp.udp s at) (λ p. is (record { ip = h; udp = Some p.value; rest = p.next }))

-- RFC 6282, 3.1.1, NH: the next header's number was inline, and what follows is payload; or it is compressed
unfoldable pub by_next : NextHeader → Repr → List ℕ → ℕ → Answer Headers
by_next (Uncompressed p) h s at = is (record { ip = h; udp = None; rest = at })
by_next Compressed h s at = and_then (nhc s at) (λ kind. transport kind h s at)

abbrev pub behind : Repr → List ℕ → ℕ → Answer Headers
behind h s at = by_next h.next_header h s at

unfoldable pub headers : List ℕ → Option Address → Option Address → List ℕ → ℕ → Answer Headers
headers ctx ls ld s at = and_then (iphc ctx ls ld s at) (λ p. behind p.value s p.next)

-- ---- the headers in full
-- the next header that is compressed is UDP
abbrev pub next_of : NextHeader → ℕ
next_of Compressed = 17
next_of (Uncompressed p) = p.0

abbrev pub ipv6_bytes : Repr → ℕ → List ℕ
ipv6_bytes h payload = ipv6_with h (next_of h.next_header) payload

-- the length is the IPv6 payload's
abbrev pub udp_bytes : Option UdpNhcRepr → ℕ → List ℕ
udp_bytes None payload = []
udp_bytes (Some h) payload = udp_full h payload

abbrev pub udp_size : Option UdpNhcRepr → ℕ
udp_size None = 0
udp_size (Some h) = 8

abbrev pub sum_of : Option UdpNhcRepr → UdpSum
sum_of None = no_sum
sum_of (Some h) = choose (is_absent h.checksum) (elided_at 0 40) (carried_at 0 40)

-- ---- the datagram
-- the headers in full, and the rest of the frame s from the place behind its headers on
unfoldable pub plain : Headers → ℕ → List ℕ → List ℕ
plain h payload s = ipv6_bytes h.ip payload ++ (udp_bytes h.udp payload ++ drop h.rest s)

abbrev pub length_of : Headers → List ℕ → ℕ
length_of h s = 40 + (udp_size h.udp + length (drop h.rest s))

unfoldable pub bytes_of : Option ℕ → Headers → List ℕ → List ℕ
bytes_of size h s = finished size (sum_of h.udp) (plain h (total_of size (length_of h s) - 40) s)

unfoldable pub sized : Option ℕ → Headers → List ℕ → Answer Expansion
sized size h s =
    choose (leb (length_of h s) (total_of size (length_of h s)))
    (is (record { bytes = bytes_of size h s; sum = sum_of h.udp }))
    (refused 10)

unfoldable pub plainly : List ℕ → Option Address → Option Address → Option ℕ → List ℕ → ℕ → Answer Expansion
plainly ctx ls ld size s at =
    choose (ltb 127 (length s)) (refused 4)
    (and_then (headers ctx ls ld s at) (λ h. sized size h s))
