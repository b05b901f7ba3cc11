-- The marked examples of the scope document, one statement over the list.
use Rattle.ieee802154.specs.declared.addr.Address.{Address}
use Rattle.iphc.specs.declared.label.FlowLabel.{FlowLabel}
use Rattle.std.specs.Prelude.{Option, Some, None}
use Prim.Native.Nat.{ℕ, ◌≤◌, ◌<◌}
use mathlib.Core.List.{List, [], ◌∷◌}
use mathlib.Core.Bool.{true, false}
use mathlib.Core.Path.{◌≡◌}
use Rattle.octets.specs.Read.{Read, got, refused}
use Rattle.octets.specs.Ipv6.{ip}
use Rattle.octets.specs.declared.ipv6.Ipv6Addr.{Ipv6Addr}
use Rattle.ieee802154.specs.Mac.{mac}
use Rattle.ieee802154.specs.Mac as Mac
use Rattle.ieee802154.specs.declared.addr.Address.TheVariants.{Absent, Short, Extended}
use Rattle.ieee802154.specs.declared.header.Repr as MacRepr
use Rattle.ieee802154.proofs.Examples.{k11}
use Rattle.iphc.specs.Iphc.{iphc}
use Rattle.sixlowpan.specs.Frag
use Rattle.sixlowpan.specs.NhcUdp.{udp_nhc_bytes}
use Rattle.sixlowpan.specs.NhcExt.{ext, ext_bytes}
use Rattle.sixlowpan.specs.declared.protocol.NextHeader.TheVariants.{Uncompressed}
use Rattle.sixlowpan.specs.declared.frag.Repr.TheVariants.{FirstFragment, Fragment}
use Rattle.iphc.specs.declared.header.Repr as IphcRepr
use Rattle.sixlowpan.specs.declared.nhc.UdpNhcRepr.{UdpNhcRepr}
use Rattle.sixlowpan.specs.declared.nhc.ExtHeaderId.TheVariants.{Reserved}
use Rattle.sixlowpan.specs.declared.nhc.ExtHeaderRepr.{ExtHeaderRepr}
use Rattle.iphc.proofs.Examples.{k1-k5, labels}
use Rattle.sixlowpan.proofs.Examples.{k6-k7-k8-k10, k9}
use lib.ListN.{length, get_or}
use Rattle.reassembly.specs.Slots.{busy, free_slot, opened, expired}
use Rattle.reassembly.specs.Parts.{Part}
use Rattle.reassembly.specs.Table.{Call, part, State, step, At}
use Rattle.reassembly.specs.declared.slot.Key.{Key}
use Rattle.reassembly.specs.declared.slot.Slot.{Slot}
use Rattle.reassembly.proofs.Promises.{k12-held, k12-gone}
use Rattle.reassembly.proofs.Ageing.{k12-still, k12-freed}

-- "With source ext 0011223344556677, destination short abcd"; no contexts
abbrev source : Option Address
source = Some (Extended 0x0011_2233_4455_6677)

abbrev destination : Option Address
destination = Some (Short 0xabcd)

-- what the reader of compressed headers answers
abbrev reads : Option Address → List ℕ → Read IphcRepr.Repr
reads src s = iphc [] src destination s 0

-- the header of these addresses, next header and hop limit, with an ECN and a flow label
abbrev classed : Option ℕ → Option FlowLabel → Ipv6Addr → Ipv6Addr → ℕ → ℕ → IphcRepr.Repr
classed e label a b next hop =
    record {
      src_addr = a;
      ll_src_addr = source;
      dst_addr = b;
      ll_dst_addr = destination;
      next_header = Uncompressed (record { 0 = next });
      hop_limit = hop;
      ecn = e;
      dscp = None;
      flow_label = label;
    }

-- and with none
abbrev header : Ipv6Addr → Ipv6Addr → ℕ → ℕ → IphcRepr.Repr
header = classed None None

-- fe80::211:2233:4455:6677
abbrev from : Ipv6Addr
from = ip 0xfe80_0000_0000_0000 0x0211_2233_4455_6677

abbrev udp : ℕ → ℕ → Option ℕ → UdpNhcRepr
udp s d sum = record { src_port = s; dst_port = d; checksum = sum }

abbrev reserved : ExtHeaderRepr
reserved = record { ext_header_id = Reserved; next_header = Uncompressed (record { 0 = 0x3a }); length = 4 }

-- PAN abcd, short ffff, short 1234
abbrev frame : MacRepr.Repr
frame =
    record {
      frame_type = record { 0 = 1 };
      security_enabled = false;
      frame_pending = false;
      ack_request = false;
      sequence_number = Some 5;
      pan_id_compression = true;
      frame_version = record { 0 = 0 };
      dst_pan_id = Some (record { 0 = 0xabcd });
      dst_addr = Some (Short 0xffff);
      src_pan_id = None;
      src_addr = Some (Short 0x1234);
    }

abbrev frame_bytes : List ℕ
frame_bytes = 0x41 ∷ 0x88 ∷ 0x05 ∷ 0xcd ∷ 0xab ∷ 0xff ∷ 0xff ∷ 0x34 ∷ 0x12 ∷ []

-- slot i of the table holds the record s, opened at 0
pub record SinceZero (σ : State) (i : ℕ) (s : Slot) : Type 0 where
  pub low : i < length σ.table.slots
  pub here : get_or σ.table.slots i free_slot ≡ s
  pub live : busy s ≡ true
  pub zero : s.since ≡ 0

pub record Marked : Type 0 where
  -- fe80::211:2233:4455:6677 to fe80::ff:fe00:abcd, next 58, hop 64, 3 bytes
  pub k1 : reads source (0x7a ∷ 0x33 ∷ 0x3a ∷ []) ≡ got (header from (ip 0xfe80_0000_0000_0000 0x0000_00ff_fe00_abcd) 58 64) 3
  -- to ff02::1, hop 255, 4 bytes
  pub k2 : reads source (0x7b ∷ 0x3b ∷ 0x3a ∷ 0x01 ∷ []) ≡ got (header from (ip 0xff02_0000_0000_0000 1) 58 255) 4
  pub k3 : reads source (0x7b ∷ 0x3b ∷ 0x3a ∷ []) ≡ refused 1
  pub k4 : reads source (0x7b ∷ 0x34 ∷ 0x3a ∷ []) ≡ refused 3
  pub k4-none : reads None (0x7b ∷ 0x34 ∷ 0x3a ∷ []) ≡ refused 6
  pub k4-absent : reads (Some Absent) (0x7b ∷ 0x34 ∷ 0x3a ∷ []) ≡ refused 6
  pub k5 : reads source (0x7b ∷ 0x73 ∷ 0x3a ∷ []) ≡ refused 5
  pub k5-none : reads None (0x7b ∷ 0x73 ∷ 0x3a ∷ []) ≡ refused 6
  pub k5-absent : reads (Some Absent) (0x7b ∷ 0x73 ∷ 0x3a ∷ []) ≡ refused 6
  pub k6 : udp_nhc_bytes (udp 0xf0b1 0xf0b2 (Some 0x1234)) ≡ 0xf3 ∷ 0x12 ∷ 0x12 ∷ 0x34 ∷ []
  pub k7 : udp_nhc_bytes (udp 0xf0b1 0xf0c0 (Some 0x1234)) ≡ 0xf2 ∷ 0xb1 ∷ 0xf0 ∷ 0xc0 ∷ 0x12 ∷ 0x34 ∷ []
  pub k8 : udp_nhc_bytes (udp 0x0050 0xf000 None) ≡ 0xf5 ∷ 0x00 ∷ 0x50 ∷ 0x00 ∷ []
  pub k9 : Frag.bytes_of (FirstFragment 1280 7) ≡ 0xc5 ∷ 0x00 ∷ 0x00 ∷ 0x07 ∷ []
  pub k9-next : Frag.bytes_of (Fragment 1280 7 (record { 0 = 12 })) ≡ 0xe5 ∷ 0x00 ∷ 0x00 ∷ 0x07 ∷ 0x0c ∷ []
  pub k10 : ext (0xec ∷ 0x3a ∷ 0x04 ∷ []) 0 ≡ got reserved 3
  pub k10-emits : ext_bytes reserved ≡ 0xea ∷ 0x3a ∷ 0x04 ∷ []
  pub k11 : mac frame_bytes ≡ got frame 9
  pub k11-emits : Mac.bytes_of frame ≡ frame_bytes
  -- a slot opened at 0 is held at 59,999, gone at 60,000: as the table tests it, and of slot i of every table, after every call that brings no part
  pub k12-held : (k : Key) → expired 59999 (opened k 0) ≡ false
  pub k12-gone : (k : Key) → expired 60000 (opened k 0) ≡ true
  pub k12-still : (σ : State) (i : ℕ) (s : Slot) → SinceZero σ i s → (c : Call) → At c 59999 → ((u : ℕ) (p : Part) → c ≡ part u p → ⊥) → σ.table.last ≤ 59999
      → get_or (step σ c).state.table.slots i free_slot ≡ s
  pub k12-freed : (σ : State) (i : ℕ) (s : Slot) → SinceZero σ i s → (c : Call) → At c 60000 → ((u : ℕ) (p : Part) → c ≡ part u p → ⊥) → σ.table.last ≤ 60000
      → get_or (step σ c).state.table.slots i free_slot ≡ free_slot

pub marked : Marked
marked =
    record {
      k1 = k1-k5.0;
      k2 = k1-k5.1;
      k3 = k1-k5.2;
      k4 = k1-k5.3;
      k4-none = k1-k5.4;
      k4-absent = k1-k5.5;
      k5 = k1-k5.6;
      k5-none = k1-k5.7;
      k5-absent = k1-k5.8;
      k6 = k6-k7-k8-k10.0.0;
      k7 = k6-k7-k8-k10.1.0;
      k8 = k6-k7-k8-k10.2.0;
      k9 = k9.0;
      k9-next = k9.1;
      k10 = k6-k7-k8-k10.3;
      k10-emits = k6-k7-k8-k10.4;
      k11 = k11.0;
      k11-emits = k11.1;
      k12-held = k12-held;
      k12-gone = k12-gone;
      k12-still = λ σ i s Z. k12-still σ i s Z.low Z.here Z.live Z.zero;
      k12-freed = λ σ i s Z. k12-freed σ i s Z.low Z.here Z.live Z.zero;
    }

-- 02, item 1: "With TF=01 the bytes 4a bc de must give ecn 40 (bits 01) and label abcde"; fe80::211:2233:4455:6677 to fe80::ff:fe00:abcd, next
-- 58, hop 255, 6 bytes
pub whole-label : reads source (0x6b ∷ 0x33 ∷ 0x4a ∷ 0xbc ∷ 0xde ∷ 0x3a ∷ []) ≡ got (classed (Some 0x40) (Some (record { 0 = 0xabcde })) from (ip 0xfe80_0000_0000_0000 0x0000_00ff_fe00_abcd) 58 255) 6
whole-label = labels.0
