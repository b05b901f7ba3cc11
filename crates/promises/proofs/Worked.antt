-- Frames worked out: what `receive` takes them to bring. Two gateways send UDP datagrams of 64 bytes to the broadcast address, each cut in two
-- at byte 56, all under the tag 7. The one is short 0001 in PAN abcd; the other is 0002 beside it, or 0001 in another building, in PAN 1234.
use Prim.Native.Nat.{ℕ, ◌+◌}
use mathlib.Core.Path.{◌≡◌, refl}
use mathlib.Core.List.{List, [], ◌∷◌}
use Rattle.octets.specs.Read.{byte, be16, le16}
use Rattle.octets.specs.Write.{put, byte_bytes, be16_bytes, be32_bytes, be64_bytes}
use Rattle.ieee802154.specs.Control.{supported, says_elements, has_sequence, omits_sequence, has_addressing, carried01, carried}
use Rattle.ieee802154.specs.Addressing.{pan_field, address_field, side, sides, addressing}
use Rattle.ieee802154.specs.Security.{auxiliary}
use Rattle.ieee802154.specs.Mac as Mac
use Rattle.relay.specs.Headers.{mesh_field, broadcast_field, relay}
use Rattle.sixlowpan.specs.Dispatch.{dispatch_of, dispatch}
use Rattle.sixlowpan.specs.Frag.{frag_rest, frag}
use Rattle.sixlowpan.specs.Next.{next_header}
use Rattle.sixlowpan.specs.Nhc.{nhc_of, nhc}
use Rattle.sixlowpan.specs.NhcUdp.{both_ports, ports, checksum, udp_rest, udp}
use Rattle.iphc.specs.Iphc as Iphc
use Rattle.expand.specs.Sum.{elided_at, carried_at}
use Rattle.expand.specs.Chain.{octets, ext_data, ext_body, inner_byte, udp_step, link_of, link, behind_next, header_then, udp_end, onward, chain, chained, ext_full, size_of, full_bytes, sum_in}
use Rattle.expand.specs.Full as Full
use Rattle.expand.specs.Expand as Expand
use Rattle.incoming.specs.Incoming.{framed, arrival, piece, fragment, payload}
use Rattle.reassembly.specs.Slots.{addressed}
use Rattle.reassembly.specs.Table.{part}
use Rattle.reassembly.specs.declared.slot.Node.{Node}
use Rattle.reassembly.specs.declared.slot.Source.{Source}
use Rattle.reassembly.specs.declared.slot.Key.{Key}
use Rattle.receiver.specs.Receive.{key_of, content, frame_call}
use Rattle.promises.specs.Cuttings.{zeroed}
use Rattle.promises.proofs.TwoParts.{low, high}

abbrev pub short : ℕ → Node
short n = record { kind = 1; number = n }

-- the other gateway: a neighbour in the shaft, or one in another building
pub data Other : Type 0 where
  neighbour : Other
  building : Other

abbrev pub number : Other → ℕ
number neighbour = 0x02
number building = 0x01

-- its PAN as frames carry it, low byte first, and as a source holds it
abbrev pub pan-low : Other → ℕ
pan-low neighbour = 0xcd
pan-low building = 0x34

abbrev pub pan-high : Other → ℕ
pan-high neighbour = 0xab
pan-high building = 0x12

abbrev pub pan : Other → ℕ
pan neighbour = 0xabcd
pan building = 0x1234

abbrev pub gate : ℕ → ℕ → Source
gate n p = record { node = short n; pan = 1 + p }

abbrev pub gateways : Other → List Source
gateways w = gate 1 0xabcd ∷ gate (number w) (pan w) ∷ []

-- 64 bytes to the broadcast address under the tag 7, from a gateway
abbrev key : Source → Key
key g = record { src = g; dst = short 0xffff; size = 64; tag = 7 }

abbrev pub old-key : Key
old-key = key (gate 1 0xabcd)

abbrev pub new-key : Other → Key
new-key w = key (gate (number w) (pan w))

-- a datagram from fe80::ff:fe00:n to fe80::ff:fe00:ffff, ports f0b1 and f0b2, with the checksum's bytes and the data
abbrev pub block : ℕ → ℕ → ℕ → List ℕ → List ℕ
block n c1 c2 text =
    0x60 ∷ 0x00 ∷ 0x00 ∷ 0x00 ∷ 0x00 ∷ 0x18 ∷ 0x11 ∷ 0x40
    ∷ 0xfe ∷ 0x80 ∷ 0x00 ∷ 0x00 ∷ 0x00 ∷ 0x00 ∷ 0x00 ∷ 0x00 ∷ 0x00 ∷ 0x00 ∷ 0x00 ∷ 0xff ∷ 0xfe ∷ 0x00 ∷ 0x00 ∷ n
    ∷ 0xfe ∷ 0x80 ∷ 0x00 ∷ 0x00 ∷ 0x00 ∷ 0x00 ∷ 0x00 ∷ 0x00 ∷ 0x00 ∷ 0x00 ∷ 0x00 ∷ 0xff ∷ 0xfe ∷ 0x00 ∷ 0xff ∷ 0xff
    ∷ 0xf0 ∷ 0xb1 ∷ 0xf0 ∷ 0xb2 ∷ 0x00 ∷ 0x18 ∷ c1 ∷ c2 ∷ text

-- "PATCH 2026-10 03" and "PATCH 2026-11 03"
abbrev pub october : List ℕ
october = 0x50 ∷ 0x41 ∷ 0x54 ∷ 0x43 ∷ 0x48 ∷ 0x20 ∷ 0x32 ∷ 0x30 ∷ 0x32 ∷ 0x36 ∷ 0x2d ∷ 0x31 ∷ 0x30 ∷ 0x20 ∷ 0x30 ∷ 0x33 ∷ []

abbrev pub november : List ℕ
november = 0x50 ∷ 0x41 ∷ 0x54 ∷ 0x43 ∷ 0x48 ∷ 0x20 ∷ 0x32 ∷ 0x30 ∷ 0x32 ∷ 0x36 ∷ 0x2d ∷ 0x31 ∷ 0x31 ∷ 0x20 ∷ 0x30 ∷ 0x33 ∷ []

-- last month's block from the one gateway, this month's from the other, and this month's from the one
abbrev pub last-month : List ℕ
last-month = block 0x01 0x44 0xc7 october

-- the low byte of its checksum
abbrev pub sum : Other → ℕ
sum neighbour = 0xc6
sum building = 0xc7

abbrev pub this-month : Other → List ℕ
this-month w = block (number w) 0x43 (sum w) november

abbrev pub resent : List ℕ
resent = block 0x01 0x43 0xc7 november

-- a MAC header with the sequence number s, in the PAN whose bytes are l and h, of the short address n, and what follows
abbrev pub from : ℕ → ℕ → ℕ → ℕ → List ℕ → List ℕ
from n l h s r = 0x41 ∷ 0x88 ∷ s ∷ l ∷ h ∷ 0xff ∷ 0xff ∷ n ∷ 0x00 ∷ r

abbrev of_one : ℕ → List ℕ → List ℕ
of_one s r = from 0x01 0xcd 0xab s r

abbrev of_other : Other → ℕ → List ℕ → List ℕ
of_other w s r = from (number w) (pan-low w) (pan-high w) s r

-- the first parts: UDP with the checksum carried, and elided; the later part
abbrev carried-sum : ℕ → ℕ → List ℕ
carried-sum c1 c2 =
    0xc0 ∷ 0x40 ∷ 0x00 ∷ 0x07 ∷ 0x7e ∷ 0x33 ∷ 0xf3 ∷ 0x12 ∷ c1 ∷ c2
    ∷ 0x50 ∷ 0x41 ∷ 0x54 ∷ 0x43 ∷ 0x48 ∷ 0x20 ∷ 0x32 ∷ 0x30 ∷ []

abbrev elided-sum : List ℕ
elided-sum =
    0xc0 ∷ 0x40 ∷ 0x00 ∷ 0x07 ∷ 0x7e ∷ 0x33 ∷ 0xf7 ∷ 0x12
    ∷ 0x50 ∷ 0x41 ∷ 0x54 ∷ 0x43 ∷ 0x48 ∷ 0x20 ∷ 0x32 ∷ 0x30 ∷ []

-- the later part of the month 0x30 (October) or 0x31
abbrev rest : ℕ → List ℕ
rest month = 0xe0 ∷ 0x40 ∷ 0x00 ∷ 0x07 ∷ 0x07 ∷ 0x32 ∷ 0x36 ∷ 0x2d ∷ 0x31 ∷ month ∷ 0x20 ∷ 0x30 ∷ 0x33 ∷ []

abbrev pub old-first : List ℕ
old-first = of_one 0x00 (carried-sum 0x44 0xc7)

abbrev pub old-later : List ℕ
old-later = of_one 0x01 (rest 0x30)

abbrev pub new-first : Other → List ℕ
new-first w = of_other w 0x00 (carried-sum 0x43 (sum w))

abbrev pub new-later : Other → List ℕ
new-later w = of_other w 0x01 (rest 0x31)

abbrev pub elided-frame : List ℕ
elided-frame = of_one 0x00 elided-sum

abbrev pub resent-later : List ℕ
resent-later = of_one 0x01 (rest 0x31)

-- what they bring
module _ (t : ℕ) where
  pub first-brings :
      (frame_call [] t old-first ≡ part t (low old-key last-month 7 (carried_at 0 40)))
      × ((w : Other) → frame_call [] t (new-first w) ≡ part t (low (new-key w) (this-month w) 7 (carried_at 0 40)))
      × (frame_call [] t elided-frame ≡ part t (low old-key resent 7 (elided_at 0 40)))
  unfolding byte be16 le16 byte_bytes be16_bytes be32_bytes be64_bytes put supported says_elements has_sequence omits_sequence has_addressing carried01 carried pan_field address_field side sides addressing auxiliary Mac.sequence Mac.sequence_of Mac.repr_of Mac.header_rest Mac.after_control Mac.header Mac.mac dispatch_of dispatch frag_rest frag next_header nhc_of nhc both_ports ports checksum udp_rest udp Iphc.base Iphc.contexts Iphc.traffic Iphc.hop_limit Iphc.front_rest Iphc.front Iphc.identifier Iphc.prefix_of Iphc.elided Iphc.source Iphc.destination Iphc.addresses Iphc.repr_of Iphc.behind Iphc.iphc Full.front_with Full.both_bytes Full.ipv6_with Full.udp_full octets ext_data ext_body inner_byte udp_step link_of link behind_next header_then udp_end onward chain chained ext_full size_of full_bytes sum_in Expand.bytes_of Expand.sized Expand.expansion mesh_field broadcast_field relay framed arrival piece fragment payload addressed key_of content frame_call zeroed
  first-brings = (refl, new, refl)
    where
      new : (w : Other) → frame_call [] t (new-first w) ≡ part t (low (new-key w) (this-month w) 7 (carried_at 0 40))
      new neighbour = refl
      new building = refl

  pub later-brings :
      (frame_call [] t old-later ≡ part t (high old-key last-month 7 (carried_at 0 40)))
      × ((w : Other) → frame_call [] t (new-later w) ≡ part t (high (new-key w) (this-month w) 7 (carried_at 0 40)))
      × (frame_call [] t resent-later ≡ part t (high old-key resent 7 (elided_at 0 40)))
  unfolding byte be16 le16 supported says_elements has_sequence omits_sequence has_addressing carried01 carried pan_field address_field side sides addressing auxiliary Mac.sequence Mac.sequence_of Mac.repr_of Mac.header_rest Mac.after_control Mac.header Mac.mac dispatch_of dispatch frag_rest frag mesh_field broadcast_field relay framed arrival piece fragment payload addressed key_of content frame_call zeroed
  later-brings = (refl, new, refl)
    where
      new : (w : Other) → frame_call [] t (new-later w) ≡ part t (high (new-key w) (this-month w) 7 (carried_at 0 40))
      new neighbour = refl
      new building = refl
