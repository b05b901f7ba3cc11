-- Frames worked out: the scope document's printed one, of 44 bytes, one with a flow label, UDP with its checksum elided, and chains of extension
-- headers.
use Rattle.std.specs.Prelude.{Option, Some, None}
use Prim.Native.Nat.{ℕ}
use mathlib.Core.List.{List, [], ◌∷◌}
use mathlib.Core.Bool.{Bool, true, false}
use mathlib.Core.Path.{◌≡◌, refl}
use lib.ListN.{take, drop}
use Rattle.octets.specs.Read.{Answer, is, refused, byte, be16, skip}
use Rattle.octets.specs.Write.{put, byte_bytes, be16_bytes, be32_bytes, be64_bytes}
use Rattle.ieee802154.specs.declared.addr.Address.TheVariants.{Short}
use Rattle.sixlowpan.specs.Next.{next_header}
use Rattle.iphc.specs.Iphc.{base, contexts, labelled, ecn_and_label, traffic, hop_limit, front_rest, front, identifier, prefix_of, elided, source, destination, addresses, repr_of, behind, iphc}
use Rattle.sixlowpan.specs.Nhc.{nhc_of, nhc}
use Rattle.sixlowpan.specs.NhcUdp.{both_ports, ports, checksum, udp_rest, udp}
use Rattle.expand.specs.Sum.{words, ones_sum, pseudo, covered, udp_checksum, seen, checksum_at, summed_at, summed_by, no_sum, elided_at, carried_at}
use Rattle.sixlowpan.specs.NhcExt.{id_of, ext_rest, ext}
use Rattle.expand.specs.Chain.{octets, ext_data, ext_body, inner_byte, udp_step, link_of, link, behind_next, header_then, udp_end, onward, chain, chained, ext_full, size_of, full_bytes, sum_in}
use Rattle.expand.specs.Full.{front_with, both_bytes, ipv6_with, udp_full}
use Rattle.expand.specs.Expand.{Expansion, bytes_of, sized, expansion}
use Rattle.expand.specs.Rfc8200.{is_ipv6, has_extension, is_udp, Last, ends_in, reads, is_datagram}

-- from short address 0001 to ffff; the compressed header begins at byte 9, behind the MAC header
abbrev of : Option ℕ → List ℕ → Answer Expansion
of size s = expansion [] (Some (Short 1)) (Some (Short 0xffff)) size (0x41 ∷ 0x88 ∷ 0x05 ∷ 0xcd ∷ 0xab ∷ 0xff ∷ 0xff ∷ 0x01 ∷ 0x00 ∷ s) 9

-- up to the destination address: fe80::ff:fe00:1 to fe80::ff:fe00:ffff
abbrev ipv6 : ℕ → ℕ → List ℕ → List ℕ
ipv6 payload next r =
    0x60 ∷ 0x00 ∷ 0x00 ∷ 0x00 ∷ 0x00 ∷ payload ∷ next ∷ 0x40
    ∷ 0xfe ∷ 0x80 ∷ 0x00 ∷ 0x00 ∷ 0x00 ∷ 0x00 ∷ 0x00 ∷ 0x00 ∷ 0x00 ∷ 0x00 ∷ 0x00 ∷ 0xff ∷ 0xfe ∷ 0x00 ∷ 0x00 ∷ 0x01
    ∷ 0xfe ∷ 0x80 ∷ 0x00 ∷ 0x00 ∷ 0x00 ∷ 0x00 ∷ 0x00 ∷ 0x00 ∷ 0x00 ∷ 0x00 ∷ 0x00 ∷ 0xff ∷ 0xfe ∷ 0x00 ∷ 0xff ∷ 0xff ∷ r

-- ICMPv6, carried inline
pub printed-example : of None (0x7a ∷ 0x33 ∷ 0x3a ∷ 0x01 ∷ 0x02 ∷ 0x03 ∷ 0x04 ∷ []) ≡ is (record { bytes = ipv6 0x04 0x3a (0x01 ∷ 0x02 ∷ 0x03 ∷ 0x04 ∷ []); sum = no_sum })
unfolding byte be16 skip put byte_bytes be16_bytes be32_bytes be64_bytes next_header base contexts labelled ecn_and_label traffic hop_limit front_rest front identifier prefix_of elided source destination addresses repr_of behind iphc nhc_of nhc both_ports ports checksum udp_rest udp id_of ext_rest ext words ones_sum pseudo covered udp_checksum seen checksum_at summed_at summed_by front_with both_bytes ipv6_with udp_full octets ext_data ext_body inner_byte udp_step link_of link behind_next header_then udp_end onward chain chained ext_full size_of full_bytes sum_in bytes_of sized expansion
printed-example = refl

-- the same with TF = 01 and 4a bc de: traffic class 1 and the whole label abcde
pub label-example : of None (0x6a ∷ 0x33 ∷ 0x4a ∷ 0xbc ∷ 0xde ∷ 0x3a ∷ 0x01 ∷ 0x02 ∷ 0x03 ∷ 0x04 ∷ []) ≡ is (record { bytes = 0x60 ∷ 0x1a ∷ 0xbc ∷ 0xde ∷ drop 4 (ipv6 0x04 0x3a (0x01 ∷ 0x02 ∷ 0x03 ∷ 0x04 ∷ [])); sum = no_sum })
unfolding byte be16 skip put byte_bytes be16_bytes be32_bytes be64_bytes next_header base contexts labelled ecn_and_label traffic hop_limit front_rest front identifier prefix_of elided source destination addresses repr_of behind iphc nhc_of nhc both_ports ports checksum udp_rest udp id_of ext_rest ext words ones_sum pseudo covered udp_checksum seen checksum_at summed_at summed_by front_with both_bytes ipv6_with udp_full octets ext_data ext_body inner_byte udp_step link_of link behind_next header_then udp_end onward chain chained ext_full size_of full_bytes sum_in bytes_of sized expansion
label-example = refl

-- ports f0b1 and f0b2, five bytes of data: unfragmented, and as the first part of 200 bytes; then cut short twice, and a first
-- part that ends beyond its size
pub udp-examples : (of None (0x7e ∷ 0x33 ∷ 0xf7 ∷ 0x12 ∷ 0x68 ∷ 0x65 ∷ 0x6c ∷ 0x6c ∷ 0x6f ∷ []) ≡ is (record { bytes = ipv6 0x0d 0x11 (0xf0 ∷ 0xb1 ∷ 0xf0 ∷ 0xb2 ∷ 0x00 ∷ 0x0d ∷ 0xdf ∷ 0x9a ∷ 0x68 ∷ 0x65 ∷ 0x6c ∷ 0x6c ∷ 0x6f ∷ []); sum = elided_at 0 40 }))
    × (of (Some 200) (0x7e ∷ 0x33 ∷ 0xf7 ∷ 0x12 ∷ 0x68 ∷ 0x65 ∷ 0x6c ∷ 0x6c ∷ 0x6f ∷ []) ≡ is (record { bytes = ipv6 0xa0 0x11 (0xf0 ∷ 0xb1 ∷ 0xf0 ∷ 0xb2 ∷ 0x00 ∷ 0xa0 ∷ 0x00 ∷ 0x00 ∷ 0x68 ∷ 0x65 ∷ 0x6c ∷ 0x6c ∷ 0x6f ∷ []); sum = elided_at 0 40 }))
    × (of None (0x7e ∷ 0x33 ∷ 0xf7 ∷ []) ≡ refused 1)
    × (of None (0x7e ∷ 0x33 ∷ 0xe6 ∷ []) ≡ refused 1)
    × (of (Some 52) (0x7e ∷ 0x33 ∷ 0xf7 ∷ 0x12 ∷ 0x68 ∷ 0x65 ∷ 0x6c ∷ 0x6c ∷ 0x6f ∷ []) ≡ refused 10)
unfolding byte be16 skip put byte_bytes be16_bytes be32_bytes be64_bytes next_header base contexts labelled ecn_and_label traffic hop_limit front_rest front identifier prefix_of elided source destination addresses repr_of behind iphc nhc_of nhc both_ports ports checksum udp_rest udp id_of ext_rest ext words ones_sum pseudo covered udp_checksum seen checksum_at summed_at summed_by front_with both_bytes ipv6_with udp_full octets ext_data ext_body inner_byte udp_step link_of link behind_next header_then udp_end onward chain chained ext_full size_of full_bytes sum_in bytes_of sized expansion
udp-examples = (refl, refl, refl, refl, refl)

-- ---- extension headers (02, item 5)
-- hop-by-hop options, a router alert of four bytes, and ICMPv6 inline: PadN of two bytes fills the eight
pub hop-by-hop-example : of None (0x7e ∷ 0x33 ∷ 0xe0 ∷ 0x3a ∷ 0x04 ∷ 0x05 ∷ 0x02 ∷ 0x00 ∷ 0x00 ∷ 0x01 ∷ 0x02 ∷ 0x03 ∷ 0x04 ∷ [])
    ≡ is (record { bytes = ipv6 0x0c 0x00 (0x3a ∷ 0x00 ∷ 0x05 ∷ 0x02 ∷ 0x00 ∷ 0x00 ∷ 0x01 ∷ 0x00 ∷ 0x01 ∷ 0x02 ∷ 0x03 ∷ 0x04 ∷ []); sum = no_sum })
unfolding byte be16 skip put byte_bytes be16_bytes be32_bytes be64_bytes next_header base contexts labelled ecn_and_label traffic hop_limit front_rest front identifier prefix_of elided source destination addresses repr_of behind iphc nhc_of nhc both_ports ports checksum udp_rest udp id_of ext_rest ext words ones_sum pseudo covered udp_checksum seen checksum_at summed_at summed_by front_with both_bytes ipv6_with udp_full octets ext_data ext_body inner_byte udp_step link_of link behind_next header_then udp_end onward chain chained ext_full size_of full_bytes sum_in bytes_of sized expansion
hop-by-hop-example = refl

-- five bytes of options want Pad1
pub pad1-example : of None (0x7e ∷ 0x33 ∷ 0xe6 ∷ 0x3b ∷ 0x05 ∷ 0x01 ∷ 0x03 ∷ 0x00 ∷ 0x00 ∷ 0x00 ∷ []) ≡ is (record { bytes = ipv6 0x08 0x3c (0x3b ∷ 0x00 ∷ 0x01 ∷ 0x03 ∷ 0x00 ∷ 0x00 ∷ 0x00 ∷ 0x00 ∷ []); sum = no_sum })
unfolding byte be16 skip put byte_bytes be16_bytes be32_bytes be64_bytes next_header base contexts labelled ecn_and_label traffic hop_limit front_rest front identifier prefix_of elided source destination addresses repr_of behind iphc nhc_of nhc both_ports ports checksum udp_rest udp id_of ext_rest ext words ones_sum pseudo covered udp_checksum seen checksum_at summed_at summed_by front_with both_bytes ipv6_with udp_full octets ext_data ext_body inner_byte udp_step link_of link behind_next header_then udp_end onward chain chained ext_full size_of full_bytes sum_in bytes_of sized expansion
pad1-example = refl

-- an IPv6 header inside, its addresses those of the header outside it, and UDP whose checksum was carried: its places are remembered
pub tunnel-example : of None (0x7e ∷ 0x33 ∷ 0xee ∷ 0x7e ∷ 0x33 ∷ 0xf3 ∷ 0x12 ∷ 0x12 ∷ 0x34 ∷ 0x68 ∷ [])
    ≡ is (record { bytes = ipv6 0x31 0x29 (ipv6 0x09 0x11 (0xf0 ∷ 0xb1 ∷ 0xf0 ∷ 0xb2 ∷ 0x00 ∷ 0x09 ∷ 0x12 ∷ 0x34 ∷ 0x68 ∷ [])); sum = carried_at 40 80 })
unfolding byte be16 skip put byte_bytes be16_bytes be32_bytes be64_bytes next_header base contexts labelled ecn_and_label traffic hop_limit front_rest front identifier prefix_of elided source destination addresses repr_of behind iphc nhc_of nhc both_ports ports checksum udp_rest udp id_of ext_rest ext words ones_sum pseudo covered udp_checksum seen checksum_at summed_at summed_by front_with both_bytes ipv6_with udp_full octets ext_data ext_body inner_byte udp_step link_of link behind_next header_then udp_end onward chain chained ext_full size_of full_bytes sum_in bytes_of sized expansion
tunnel-example = refl

-- refused: the fragment header, a reserved EID, EID 7 with NH set, a routing header of three bytes, and, behind a routing header, a UDP
-- checksum that was elided; one that was carried is not
pub refused-examples : (of None (0x7e ∷ 0x33 ∷ 0xe4 ∷ []) ≡ refused 13)
    × (of None (0x7e ∷ 0x33 ∷ 0xea ∷ []) ≡ refused 13)
    × (of None (0x7e ∷ 0x33 ∷ 0xef ∷ []) ≡ refused 3)
    × (of None (0x7e ∷ 0x33 ∷ 0xe2 ∷ 0x3a ∷ 0x03 ∷ []) ≡ refused 3)
    × (of None (0x7e ∷ 0x33 ∷ 0xe3 ∷ 0x06 ∷ 0x00 ∷ 0x00 ∷ 0x00 ∷ 0x00 ∷ 0x00 ∷ 0x00 ∷ 0xf7 ∷ 0x12 ∷ []) ≡ refused 13)
    × (of None (0x7e ∷ 0x33 ∷ 0xe3 ∷ 0x06 ∷ 0x00 ∷ 0x00 ∷ 0x00 ∷ 0x00 ∷ 0x00 ∷ 0x00 ∷ 0xf3 ∷ 0x12 ∷ 0x00 ∷ 0x00 ∷ [])
    ≡ is (record { bytes = ipv6 0x10 0x2b (0x11 ∷ 0x00 ∷ 0x00 ∷ 0x00 ∷ 0x00 ∷ 0x00 ∷ 0x00 ∷ 0x00 ∷ 0xf0 ∷ 0xb1 ∷ 0xf0 ∷ 0xb2 ∷ 0x00 ∷ 0x08 ∷ 0x00 ∷ 0x00 ∷ []); sum = no_sum }))
unfolding byte be16 skip put byte_bytes be16_bytes be32_bytes be64_bytes next_header base contexts labelled ecn_and_label traffic hop_limit front_rest front identifier prefix_of elided source destination addresses repr_of behind iphc nhc_of nhc both_ports ports checksum udp_rest udp id_of ext_rest ext words ones_sum pseudo covered udp_checksum seen checksum_at summed_at summed_by front_with both_bytes ipv6_with udp_full octets ext_data ext_body inner_byte udp_step link_of link behind_next header_then udp_end onward chain chained ext_full size_of full_bytes sum_in bytes_of sized expansion
refused-examples = (refl, refl, refl, refl, refl, refl)

-- eight headers, and a ninth: 3 before its EID is judged, which is reserved here
pub ninth-example : (of None (0x7e ∷ 0x33 ∷ 0xe1 ∷ 0x00 ∷ 0xe1 ∷ 0x00 ∷ 0xe1 ∷ 0x00 ∷ 0xe1 ∷ 0x00 ∷ 0xe1 ∷ 0x00 ∷ 0xe1 ∷ 0x00 ∷ 0xe1 ∷ 0x00 ∷ 0xea ∷ []) ≡ refused 3)
    × (of None (0x7e ∷ 0x33 ∷ 0xe1 ∷ 0x00 ∷ 0xe1 ∷ 0x00 ∷ 0xe1 ∷ 0x00 ∷ 0xe1 ∷ 0x00 ∷ 0xe1 ∷ 0x00 ∷ 0xe1 ∷ 0x00 ∷ 0xea ∷ []) ≡ refused 13)
unfolding byte be16 skip put byte_bytes be16_bytes be32_bytes be64_bytes next_header base contexts labelled ecn_and_label traffic hop_limit front_rest front identifier prefix_of elided source destination addresses repr_of behind iphc nhc_of nhc both_ports ports checksum udp_rest udp id_of ext_rest ext words ones_sum pseudo covered udp_checksum seen checksum_at summed_at summed_by front_with both_bytes ipv6_with udp_full octets ext_data ext_body inner_byte udp_step link_of link behind_next header_then udp_end onward chain chained ext_full size_of full_bytes sum_in bytes_of sized expansion
ninth-example = (refl, refl)

-- ---- RFC 8200's own rules (specs/Rfc8200.antt)
-- hop-by-hop options and UDP: payload length and next header of IPv6, length and next header of the options, and the length of UDP, as given
abbrev hop : ℕ → ℕ → ℕ → ℕ → ℕ → List ℕ
hop payload next units then len =
    ipv6 payload next (then ∷ units ∷ 0x05 ∷ 0x02 ∷ 0x00 ∷ 0x00 ∷ 0x01 ∷ 0x00 ∷ 0xf0 ∷ 0xb1 ∷ 0xf0 ∷ 0xb2 ∷ 0x00 ∷ len ∷ 0xdf ∷ 0x9a ∷ 0x68 ∷ 0x65 ∷ 0x6c ∷ 0x6c ∷ 0x6f ∷ [])

abbrev is_hop : ℕ → List ℕ → Bool
is_hop t b = is_datagram (41 ∷ 0 ∷ []) Last.udp t b

-- a datagram, and a first part of 200 bytes
pub rules-accept : (is_hop 61 (hop 0x15 0x00 0x00 0x11 0x0d) ≡ true) × (is_hop 200 (hop 0xa0 0x00 0x00 0x11 0x98) ≡ true)
unfolding is_ipv6 has_extension is_udp ends_in reads is_datagram
rules-accept = (refl, refl)

-- off by one: the payload length, the next header of IPv6, the length of the options, their next header, and the length of UDP; then bytes cut
-- short, bytes beyond the datagram's end, and another list
pub rules-refuse : (is_hop 61 (hop 0x16 0x00 0x00 0x11 0x0d) ≡ false)
    × (is_hop 61 (hop 0x15 0x01 0x00 0x11 0x0d) ≡ false)
    × (is_hop 61 (hop 0x15 0x00 0x01 0x11 0x0d) ≡ false)
    × (is_hop 61 (hop 0x15 0x00 0x00 0x12 0x0d) ≡ false)
    × (is_hop 61 (hop 0x15 0x00 0x00 0x11 0x0e) ≡ false)
    × (is_hop 61 (take 55 (hop 0x15 0x00 0x00 0x11 0x0d)) ≡ false)
    × (is_hop 60 (hop 0x14 0x00 0x00 0x11 0x0c) ≡ false)
    × (is_datagram (41 ∷ 60 ∷ []) Last.udp 61 (hop 0x15 0x00 0x00 0x11 0x0d) ≡ false)
unfolding is_ipv6 has_extension is_udp ends_in reads is_datagram
rules-refuse = (refl, refl, refl, refl, refl, refl, refl, refl)
