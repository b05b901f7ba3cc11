-- The headers in full: IPv6 (RFC 8200, 3) and UDP (RFC 768).
use Rattle.iphc.specs.declared.label.FlowLabel.{FlowLabel}
use Rattle.std.specs.Prelude.{ℕ, ◌+◌, ◌*◌, ◌/◌, ◌%◌, ◌^◌, List, ◌++◌, Bool, true, false, Option, Some, None}
use Rattle.octets.specs.Write.{byte_bytes, be16_bytes, be32_bytes, be64_bytes}
use Rattle.octets.specs.declared.ipv6.Ipv6Addr.{Ipv6Addr}
use Rattle.iphc.specs.declared.header.Repr.{Repr}
use Rattle.sixlowpan.specs.declared.nhc.UdpNhcRepr.{UdpNhcRepr}
use Rattle.expand.specs.declared.ip.Kept.{Kept}

-- an absent field is 0
abbrev pub byte_or : Option ℕ → ℕ
byte_or None = 0
byte_or (Some x) = x

abbrev pub word_or : Option ℕ → ℕ
word_or None = 0
word_or (Some x) = x

abbrev pub label_or : Option FlowLabel → ℕ
label_or None = 0
label_or (Some l) = l.0

-- ---- RFC 8200, 3
-- the traffic class: DSCP in its upper six bits, ECN in its lower two (RFC 2474, RFC 3168); a compressed header has ECN in the top two
abbrev pub class_of : Repr → ℕ
class_of h = byte_or h.dscp * 4 + byte_or h.ecn / 64

-- version, 4 bits; traffic class, 8; flow label, 20: the whole label that was read (`label-whole`, proofs/Labels.antt)
abbrev pub first_word : Repr → ℕ
first_word h = 6 * 2 ^ 28 + class_of h * 2 ^ 20 + label_or h.flow_label % 2 ^ 20

-- payload length, 16 bits; next header, 8; hop limit, 8
unfoldable pub front_with : Repr → ℕ → ℕ → List ℕ
front_with h next payload = be32_bytes (first_word h) ++ (be16_bytes payload ++ (byte_bytes next ++ byte_bytes h.hop_limit))

-- source and destination, 128 bits each
unfoldable pub both_bytes : Ipv6Addr → Ipv6Addr → List ℕ
both_bytes src dst = be64_bytes src.prefix ++ (be64_bytes src.iid ++ (be64_bytes dst.prefix ++ be64_bytes dst.iid))

unfoldable pub ipv6_with : Repr → ℕ → ℕ → List ℕ
ipv6_with h next payload = front_with h next payload ++ both_bytes h.src_addr h.dst_addr

-- what is kept of a header, and its bytes (`kept_full_lem`, proofs/FullLaws.antt); number: what its next header field stands for; at: the place behind it
abbrev pub keep : Repr → ℕ → ℕ → Kept
keep h number at = record {
  src = h.src_addr;
  dst = h.dst_addr;
  first = first_word h;
  number = number;
  hops = h.hop_limit;
  next = h.next_header;
  behind = record { at = at };
}

unfoldable pub kept_front : Kept → ℕ → List ℕ
kept_front k payload = be32_bytes k.first ++ (be16_bytes payload ++ (byte_bytes k.number ++ byte_bytes k.hops))

unfoldable pub kept_full : Kept → ℕ → List ℕ
kept_full k payload = kept_front k payload ++ both_bytes k.src k.dst

-- ---- RFC 768: source port, destination port, length, checksum, 16 bits each; an elided checksum is 0 here
unfoldable pub udp_full : UdpNhcRepr → ℕ → List ℕ
udp_full h n = be16_bytes h.src_port ++ (be16_bytes h.dst_port ++ (be16_bytes n ++ be16_bytes (word_or h.checksum)))

abbrev pub is_absent : Option ℕ → Bool
is_absent None = true
is_absent (Some x) = false
