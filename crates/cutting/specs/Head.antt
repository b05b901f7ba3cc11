-- The headers of a frame that is sent: the MAC header, and the compressed headers with how many bytes of the datagram they stand for.
use Rattle.std.specs.Prelude.{ℕ, ◌+◌, List, [], ◌++◌, true, false, Option, Some, None}
use Rattle.octets.specs.Read.{choose, byte, be16, be64}
use Rattle.octets.specs.Ipv6.{ip}
use Rattle.octets.specs.declared.ipv6.Ipv6Addr.{Ipv6Addr}
use Rattle.ieee802154.specs.Mac as Mac
use Rattle.ieee802154.specs.declared.header.Repr as MacHeader
use Rattle.sixlowpan.specs.NhcUdp.{udp_length, udp_nhc_bytes}
use Rattle.sixlowpan.specs.declared.nhc.UdpNhcRepr.{UdpNhcRepr}
use Rattle.sixlowpan.specs.declared.protocol.NextHeader.{NextHeader}
use Rattle.sixlowpan.specs.declared.protocol.NextHeader.TheVariants.{Compressed, Uncompressed}
use Rattle.iphc.specs.Emit as Iphc
use Rattle.iphc.specs.declared.header.Repr.{Repr}
use Rattle.expand.specs.Sum.{no_sum, carried_at}
use Rattle.expand.specs.declared.checksum.UdpSum.{UdpSum}
use Rattle.cutting.specs.Fields.{or_zero, is_udp}
use Rattle.cutting.specs.declared.link.Link.{Link}
use Rattle.cutting.specs.declared.head.Head.{Head}

-- ---- the MAC header: Data, version 0, PAN compressed, every other bit clear
abbrev pub mac_of : Link → MacHeader.Repr
mac_of l =
    record {
      frame_type = record { 0 = 1 };
      security_enabled = false;
      frame_pending = false;
      ack_request = false;
      sequence_number = Some l.sequence;
      pan_id_compression = true;
      frame_version = record { 0 = 0 };
      dst_pan_id = Some l.pan;
      dst_addr = Some l.dst;
      src_pan_id = None;
      src_addr = Some l.src;
    }

abbrev pub mac_length : Link → ℕ
mac_length l = Mac.length_of (mac_of l)

abbrev pub mac_bytes : Link → List ℕ
mac_bytes l = Mac.bytes_of (mac_of l)

-- ---- the compressed headers: UDP is compressed with its checksum carried, any other next header travels inline
unfoldable pub next_of : List ℕ → NextHeader
next_of d = choose (is_udp d) Compressed (Uncompressed (record { 0 = or_zero (byte d 6) }))

unfoldable pub ip_of : Link → List ℕ → Repr
ip_of l d =
    record {
      src_addr = ip (or_zero (be64 d 8)) (or_zero (be64 d 16));
      ll_src_addr = Some l.src;
      dst_addr = ip (or_zero (be64 d 24)) (or_zero (be64 d 32));
      ll_dst_addr = Some l.dst;
      next_header = next_of d;
      hop_limit = or_zero (byte d 7);
      ecn = None;
      dscp = None;
      flow_label = None;
    }

unfoldable pub udp_of : List ℕ → UdpNhcRepr
udp_of d = record { src_port = or_zero (be16 d 40); dst_port = or_zero (be16 d 42); checksum = Some (or_zero (be16 d 46)) }

-- where it is compressed
abbrev pub udp_field : List ℕ → Option UdpNhcRepr
udp_field d = choose (is_udp d) (Some (udp_of d)) None

-- the bytes of a UDP header that is compressed, how many they are, and what it and the IPv6 header stand for
abbrev pub udp_bytes : Option UdpNhcRepr → List ℕ
udp_bytes None = []
udp_bytes (Some h) = udp_nhc_bytes h

abbrev pub udp_size : Option UdpNhcRepr → ℕ
udp_size None = 0
udp_size (Some h) = udp_length h

abbrev pub covers_of : Option UdpNhcRepr → ℕ
covers_of None = 40
covers_of (Some h) = 48

unfoldable pub udp_part : List ℕ → List ℕ
udp_part d = choose (is_udp d) (udp_nhc_bytes (udp_of d)) []

unfoldable pub udp_part_length : List ℕ → ℕ
udp_part_length d = choose (is_udp d) (udp_length (udp_of d)) 0

unfoldable pub head_bytes : Link → List ℕ → List ℕ
head_bytes l d = Iphc.bytes_of (ip_of l d) ++ udp_part d

unfoldable pub head_length : Link → List ℕ → ℕ
head_length l d = Iphc.length_of (ip_of l d) + udp_part_length d

-- how many bytes of the datagram they stand for
unfoldable pub covers : List ℕ → ℕ
covers d = choose (is_udp d) 48 40

-- what a receiver remembers of the checksum: that it was carried, where UDP is compressed
unfoldable pub sum_sent : List ℕ → UdpSum
sum_sent d = choose (is_udp d) (carried_at 0 40) no_sum

-- ---- what is read and measured once in a call, and handed on
abbrev pub src_of : List ℕ → Ipv6Addr
src_of d = ip (or_zero (be64 d 8)) (or_zero (be64 d 16))

abbrev pub dst_of : List ℕ → Ipv6Addr
dst_of d = ip (or_zero (be64 d 24)) (or_zero (be64 d 32))

unfoldable pub head_of : Link → List ℕ → Head
head_of l d = record { src = src_of d; dst = dst_of d; udp = udp_field d; len = head_length l d }
