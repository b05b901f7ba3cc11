-- The marked examples of fragment headers and of compressed UDP and extension headers: K6 to K10 of the scope document.
use Rattle.std.specs.Prelude.{Option, Some, None}
use Prim.Native.Nat.{ℕ}
use mathlib.Core.List.{List, [], ◌∷◌}
use mathlib.Core.Path.{◌≡◌, refl}
use Rattle.octets.specs.Read.{got, byte, be16}
use Rattle.octets.specs.Write.{byte_bytes, be16_bytes}
use Rattle.sixlowpan.specs.Frag.{bytes_of}
use Rattle.sixlowpan.specs.declared.frag.Repr.TheVariants.{FirstFragment, Fragment}
use Rattle.sixlowpan.specs.NhcExt.{id_of, ext_rest, ext, ext_bytes}
use Rattle.sixlowpan.specs.Next.{next_header}
use Rattle.sixlowpan.specs.NhcUdp.{port, both_ports, ports, checksum, udp_rest, udp, form_of, port_bytes, ports_bytes, udp_nhc_bytes}
use Rattle.sixlowpan.specs.declared.protocol.NextHeader.TheVariants.{Uncompressed}
use Rattle.sixlowpan.specs.declared.nhc.ExtHeaderId.TheVariants.{Reserved}
use Rattle.sixlowpan.specs.declared.nhc.ExtHeaderRepr.{ExtHeaderRepr}
use Rattle.sixlowpan.specs.declared.nhc.UdpNhcRepr.{UdpNhcRepr}

abbrev header : ℕ → ℕ → Option ℕ → UdpNhcRepr
header s d sum = record { src_port = s; dst_port = d; checksum = sum }

abbrev reserved : ExtHeaderRepr
reserved = record { ext_header_id = Reserved; next_header = Uncompressed (record { 0 = 0x3a }); length = 4 }

-- h is written as bs, and bs is read as h and passed over
abbrev Is : UdpNhcRepr → List ℕ → ℕ → Type 0
Is h bs n = (udp_nhc_bytes h ≡ bs) × (udp bs 0 ≡ got h n)

pub k6-k7-k8-k10 : Is (header 0xf0b1 0xf0b2 (Some 0x1234)) (0xf3 ∷ 0x12 ∷ 0x12 ∷ 0x34 ∷ []) 4
    × Is (header 0xf0b1 0xf0c0 (Some 0x1234)) (0xf2 ∷ 0xb1 ∷ 0xf0 ∷ 0xc0 ∷ 0x12 ∷ 0x34 ∷ []) 6
    × Is (header 0x0050 0xf000 None) (0xf5 ∷ 0x00 ∷ 0x50 ∷ 0x00 ∷ []) 4
    × (ext (0xec ∷ 0x3a ∷ 0x04 ∷ []) 0 ≡ got reserved 3)
    × (ext_bytes reserved ≡ 0xea ∷ 0x3a ∷ 0x04 ∷ [])
unfolding byte be16 byte_bytes be16_bytes id_of next_header ext_rest ext port both_ports ports checksum udp_rest udp form_of port_bytes ports_bytes
k6-k7-k8-k10 = ((refl, refl), (refl, refl), (refl, refl), refl, refl)

pub k9 :
    (bytes_of (FirstFragment 1280 7) ≡ 0xc5 ∷ 0x00 ∷ 0x00 ∷ 0x07 ∷ [])
    × (bytes_of (Fragment 1280 7 (record { 0 = 12 })) ≡ 0xe5 ∷ 0x00 ∷ 0x00 ∷ 0x07 ∷ 0x0c ∷ [])
unfolding be16_bytes byte_bytes
k9 = (refl, refl)
