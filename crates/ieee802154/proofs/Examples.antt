-- The scope document's marked example K11, and frames with sequence number suppression (change request 9).
use Rattle.std.specs.Prelude.{Option, Some, None}
use mathlib.Core.List.{List, [], ◌∷◌}
use mathlib.Core.Bool.{true, false}
use mathlib.Core.Path.{◌≡◌, refl}
use Prim.Native.Nat.{ℕ}
use Rattle.octets.specs.Read.{got, refused, byte, le16}
use Rattle.octets.specs.Write.{byte_bytes, le16_bytes}
use Rattle.ieee802154.specs.Control.{word_of, supported, has_sequence, omits_sequence, has_addressing, carried01, carried2, carried, has_elements, says_elements}
use Rattle.ieee802154.specs.Addressing.{pan_field, address_field, side, sides, addressing}
use Rattle.ieee802154.specs.Security.{auxiliary}
use Rattle.ieee802154.specs.Mac.{sequence, sequence_of, suppresses, repr_of, header_rest, after_control, header, mac, front_bytes, source_bytes, back_bytes, bytes_of}
use Rattle.ieee802154.specs.RoundTrips.{pans_stand, round_trips}
use Rattle.ieee802154.specs.declared.addr.Address.TheVariants.{Short}
use Rattle.ieee802154.specs.declared.header.Repr.{Repr}

abbrev pub k11-bytes : List ℕ
k11-bytes = 0x41 ∷ 0x88 ∷ 0x05 ∷ 0xcd ∷ 0xab ∷ 0xff ∷ 0xff ∷ 0x34 ∷ 0x12 ∷ []

abbrev pub k11-header : Repr
k11-header =
    record {
      frame_type = record { 0 = 1 };
      security_enabled = false;
      frame_pending = false;
      ack_request = false;
      sequence_number = Some 5;
      pan_id_compression = true;
      frame_version = record { 0 = 0 };
      dst_pan_id = Some (record { 0 = 0xabcd });
      dst_addr = Some (Short 0xffff);
      src_pan_id = None;
      src_addr = Some (Short 0x1234);
    }

-- K11: PAN abcd, short ffff, short 1234, 9 bytes; emits the same
pub k11 : (mac k11-bytes ≡ got k11-header 9) × (bytes_of k11-header ≡ k11-bytes)
unfolding mac header byte le16 sequence header_rest supported addressing has_addressing sides side carried carried01 pan_field address_field auxiliary repr_of sequence_of has_sequence bytes_of front_bytes back_bytes source_bytes word_of byte_bytes le16_bytes after_control omits_sequence suppresses
k11 = (refl, refl)

-- it is one of those that read back
pub k11-reads-back : round_trips k11-header ≡ true
unfolding round_trips pans_stand supported has_addressing carried carried01 suppresses
k11-reads-back = refl

-- ---- change request 9: the same header but for its type, version and sequence number
abbrev other : ℕ → ℕ → Option ℕ → Repr
other type version q =
    record {
      frame_type = record { 0 = type };
      security_enabled = false;
      frame_pending = false;
      ack_request = false;
      sequence_number = q;
      pan_id_compression = true;
      frame_version = record { 0 = version };
      dst_pan_id = Some (record { 0 = 0xabcd });
      dst_addr = Some (Short 0xffff);
      src_pan_id = None;
      src_addr = Some (Short 0x1234);
    }

abbrev behind : List ℕ
behind = 0xcd ∷ 0xab ∷ 0xff ∷ 0xff ∷ 0x34 ∷ 0x12 ∷ []

-- version 2, a Data frame, bit 8: no byte, and written the same; it reads back
pub suppressed : (mac (0x41 ∷ 0xa9 ∷ behind) ≡ got (other 1 2 None) 8) × (bytes_of (other 1 2 None) ≡ 0x41 ∷ 0xa9 ∷ behind)
unfolding mac header byte le16 sequence header_rest supported addressing has_addressing sides side carried carried2 pan_field address_field auxiliary repr_of sequence_of has_sequence bytes_of front_bytes back_bytes source_bytes word_of byte_bytes le16_bytes after_control omits_sequence suppresses
suppressed = (refl, refl)

pub suppressed-reads-back : round_trips (other 1 2 None) ≡ true
unfolding round_trips pans_stand supported has_addressing carried carried2 suppresses
suppressed-reads-back = refl

-- the bit says nothing in version 1, and nothing of a Multipurpose frame: the byte is there
pub not-suppressed : (mac (0x41 ∷ 0x99 ∷ 0x05 ∷ behind) ≡ got (other 1 1 (Some 5)) 9) × (mac (0x45 ∷ 0xa9 ∷ 0x05 ∷ behind) ≡ got (other 5 2 (Some 5)) 9)
unfolding mac header byte le16 sequence header_rest supported addressing has_addressing sides side carried carried01 carried2 pan_field address_field auxiliary repr_of sequence_of has_sequence after_control omits_sequence
not-suppressed = (refl, refl)

-- nor is it written then, and a missing number is 0, as before
pub written-as-before : (bytes_of (other 1 1 None) ≡ 0x41 ∷ 0x98 ∷ 0x00 ∷ behind) × (bytes_of (other 5 2 None) ≡ 0x45 ∷ 0xa8 ∷ 0x00 ∷ behind)
unfolding bytes_of front_bytes back_bytes source_bytes word_of byte_bytes le16_bytes suppresses
written-as-before = (refl, refl)

-- below 3 bytes stays 1 with the byte left out
pub too_short : mac (0x01 ∷ 0x21 ∷ []) ≡ refused 1
unfolding mac
too_short = refl

-- information elements: bit 9, and in version 2 alone
pub elements : (has_elements (0x41 ∷ 0xaa ∷ behind) ≡ true) × (has_elements (0x41 ∷ 0x9a ∷ behind) ≡ false) × (has_elements (0x41 ∷ 0xa9 ∷ behind) ≡ false)
unfolding says_elements
elements = (refl, refl, refl)
