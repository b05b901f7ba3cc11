-- The marked examples K1 to K5 of the scope document, and that of the flow label (02, item 1), computed.
use Rattle.ieee802154.specs.declared.addr.Address.{Address}
use Rattle.iphc.specs.declared.label.FlowLabel.{FlowLabel}
use Rattle.std.specs.Prelude.{Option, Some, None}
use Prim.Native.Nat.{ℕ}
use mathlib.Core.List.{List, [], ◌∷◌}
use mathlib.Core.Path.{◌≡◌, refl}
use Rattle.octets.specs.Read.{Read, got, refused, byte, be16, be32, be64}
use Rattle.octets.specs.Ipv6.{ip, link_local}
use Rattle.octets.specs.declared.ipv6.Ipv6Addr.{Ipv6Addr}
use Rattle.ieee802154.specs.declared.addr.Address.TheVariants.{Absent, Short, Extended}
use Rattle.iphc.specs.Context.{context_at}
use Rattle.sixlowpan.specs.Next.{next_header}
use Rattle.iphc.specs.Iphc.{base, contexts, labelled, class_and_label, ecn_and_label, class_only, traffic, hop_limit, front_rest, front, identifier, full, prefix_of, elided, source, group48, group32, group8, multicast, destination, addresses, repr_of, behind, iphc}
use Rattle.sixlowpan.specs.declared.protocol.NextHeader.TheVariants.{Uncompressed}
use Rattle.iphc.specs.declared.header.Repr.{Repr}

-- the link-layer addresses of the examples; a header with a traffic class and flow label, and one with neither
abbrev pub ext : Option Address
ext = Some (Extended 0x0011_2233_4455_6677)

abbrev pub short : Option Address
short = Some (Short 0xabcd)

abbrev pub marked : Option ℕ → Option ℕ → Option FlowLabel → Option Address → Ipv6Addr → Ipv6Addr → ℕ → ℕ → Repr
marked e d f ls a b n h =
    record {
      src_addr = a;
      ll_src_addr = ls;
      dst_addr = b;
      ll_dst_addr = short;
      next_header = Uncompressed (record { 0 = n });
      hop_limit = h;
      ecn = e;
      dscp = d;
      flow_label = f;
    }

abbrev pub plain : Option Address → Ipv6Addr → Ipv6Addr → ℕ → ℕ → Repr
plain ls a b n h =
    marked None None None ls a b n h

-- what the reader answers on these bytes, with no contexts, a source address and the destination short abcd
abbrev pub answers : Option Address → List ℕ → Read Repr
answers ls s = iphc [] ls short s 0

pub k1-k5 :
    (answers ext (0x7a ∷ 0x33 ∷ 0x3a ∷ []) ≡ got (plain ext (ip link_local 0x0211_2233_4455_6677) (ip link_local 0x0000_00ff_fe00_abcd) 58 64) 3)
    × (answers ext (0x7b ∷ 0x3b ∷ 0x3a ∷ 0x01 ∷ []) ≡ got (plain ext (ip link_local 0x0211_2233_4455_6677) (ip 0xff02_0000_0000_0000 1) 58 255) 4)
    × (answers ext (0x7b ∷ 0x3b ∷ 0x3a ∷ []) ≡ refused 1)
    × (answers ext (0x7b ∷ 0x34 ∷ 0x3a ∷ []) ≡ refused 3)
    × (answers None (0x7b ∷ 0x34 ∷ 0x3a ∷ []) ≡ refused 6)
    × (answers (Some Absent) (0x7b ∷ 0x34 ∷ 0x3a ∷ []) ≡ refused 6)
    × (answers ext (0x7b ∷ 0x73 ∷ 0x3a ∷ []) ≡ refused 5)
    × (answers None (0x7b ∷ 0x73 ∷ 0x3a ∷ []) ≡ refused 6)
    × (answers (Some Absent) (0x7b ∷ 0x73 ∷ 0x3a ∷ []) ≡ refused 6)
unfolding byte be16 be32 be64 context_at next_header base contexts labelled class_and_label ecn_and_label class_only traffic hop_limit front_rest front identifier full prefix_of elided source group48 group32 group8 multicast destination addresses repr_of behind iphc
k1-k5 = (refl, refl, refl, refl, refl, refl, refl, refl, refl)

-- a header between the addresses of K1 with ECN 01, next header 58 and hop limit 255
abbrev pub labelled_by : Option ℕ → ℕ → Repr
labelled_by d l = marked (Some 0x40) d (Some (record { 0 = l })) ext (ip link_local 0x0211_2233_4455_6677) (ip link_local 0x0000_00ff_fe00_abcd) 58 255

-- TF = 01: 4a bc de; the same with both bits of padding set; TF = 00, all four bits of padding set
pub labels :
    (answers ext (0x6b ∷ 0x33 ∷ 0x4a ∷ 0xbc ∷ 0xde ∷ 0x3a ∷ []) ≡ got (labelled_by None 0xabcde) 6)
    × (answers ext (0x6b ∷ 0x33 ∷ 0x7a ∷ 0xbc ∷ 0xde ∷ 0x3a ∷ []) ≡ got (labelled_by None 0xabcde) 6)
    × (answers ext (0x63 ∷ 0x33 ∷ 0x6e ∷ 0xfa ∷ 0xbc ∷ 0xde ∷ 0x3a ∷ []) ≡ got (labelled_by (Some 0x2e) 0xabcde) 7)
unfolding byte be16 be32 be64 context_at next_header base contexts labelled class_and_label ecn_and_label class_only traffic hop_limit front_rest front identifier full prefix_of elided source group48 group32 group8 multicast destination addresses repr_of behind iphc
labels = (refl, refl, refl)
