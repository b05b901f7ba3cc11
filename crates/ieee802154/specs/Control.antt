-- The frame control field (IEEE 802.15.4, 7.2.2), and which PAN identifiers it says are carried.
use Rattle.std.specs.Prelude.{ℕ, ◌+◌, ◌*◌, ◌/◌, ◌%◌, Bool, true, false, not, List, get_or, eqb, ltb}
use Rattle.octets.specs.Read.{choose}
use Rattle.ieee802154.specs.declared.control.AddressingMode.{AddressingMode}
use Rattle.ieee802154.specs.declared.control.Control.{Control}
use Rattle.ieee802154.specs.declared.control.Carried.{Carried}

-- ---- its bits, the lowest first: frame type 0..2 (7.2.2.2), security enabled 3 (7.2.2.3), frame pending 4 (7.2.2.4), acknowledgement request
-- 5 (7.2.2.5), PAN ID compression 6 (7.2.2.6), sequence number suppression 8 (7.2.2.7), destination mode 10..11 (7.2.2.9), frame version
-- 12..13 (7.2.2.10), source mode 14..15 (7.2.2.11). Bits 7 and 9 are no part of it, and written as 0: 7 is reserved; 9, that information
-- elements are present (7.2.2.8), is `has_elements`
abbrev pub bit : ℕ → Bool
bit x = eqb (x % 2) 1

abbrev pub bit_of : Bool → ℕ
bit_of true = 1
bit_of false = 0

abbrev pub control_of : ℕ → Control
control_of fc =
    record {
      frame_type = record { 0 = fc % 8 };
      security_enabled = bit (fc / 8);
      frame_pending = bit (fc / 16);
      ack_request = bit (fc / 32);
      pan_id_compression = bit (fc / 64);
      sequence_suppressed = bit (fc / 256);
      dst_addr_mode = record { 0 = fc / 1024 % 4 };
      frame_version = record { 0 = fc / 4096 % 4 };
      src_addr_mode = record { 0 = fc / 16384 % 4 };
    }

unfoldable pub word_of : Control → ℕ
word_of k =
    k.frame_type.0 % 8 + bit_of k.security_enabled * 8 + bit_of k.frame_pending * 16 + bit_of k.ack_request * 32
    + bit_of k.pan_id_compression * 64 + bit_of k.sequence_suppressed * 256 + k.dst_addr_mode.0 % 4 * 1024 + k.frame_version.0 % 4 * 4096 + k.src_addr_mode.0 % 4 * 16384

-- ---- what is read (the scope document): not version 3, a mode of 01, or versions 0 and 1 with compression and both addresses absent
unfoldable pub supported : Control → Bool
supported k =
    choose (eqb k.frame_version.0 3) false
    (choose (eqb k.dst_addr_mode.0 1) false
    (choose (eqb k.src_addr_mode.0 1) false
    (choose (eqb k.frame_version.0 2) true
    (choose (eqb k.dst_addr_mode.0 0)
    (choose (eqb k.src_addr_mode.0 0) (not k.pan_id_compression) true)
    true))))

-- 7.2.2.8, the IE present field: bit 9, in version 2 (bits 12..13). Both stand in the field's high byte, the frame's second
unfoldable pub says_elements : ℕ → Bool
says_elements b = choose (eqb (b / 16 % 4) 2) (bit (b / 2)) false

abbrev pub has_elements : List ℕ → Bool
has_elements s = says_elements (get_or s 1 0)

-- a sequence number: frame types 0, 1, 2, 3 and 5
unfoldable pub has_sequence : Control → Bool
has_sequence k = choose (eqb k.frame_type.0 4) false (ltb k.frame_type.0 6)

-- 7.2.2.7: version 2 may leave it out of a Beacon, Data, Acknowledgement or MAC command frame, types 0 to 3. The bit says nothing in other
-- versions and of other types
abbrev pub may_omit : ℕ → ℕ → Bool
may_omit version type = choose (eqb version 2) (ltb type 4) false

unfoldable pub omits_sequence : Control → Bool
omits_sequence k = choose k.sequence_suppressed (may_omit k.frame_version.0 k.frame_type.0) false

-- addressing fields: frame types 0, 1, 3 and 5, and the acknowledgement, 2, in version 2
unfoldable pub has_addressing : Control → Bool
has_addressing k =
    choose (eqb k.frame_type.0 2) (eqb k.frame_version.0 2)
    (choose (eqb k.frame_type.0 4) false (ltb k.frame_type.0 6))

-- ---- which PANs are carried (7.2.2.6, PAN ID compression)
abbrev pub pans : Bool → Bool → Carried
pans d s = record { dst = d; src = s }

-- versions 0 and 1: a present address brings its PAN, but the source's is left out where both are present and compression is set
unfoldable pub carried01 : AddressingMode → AddressingMode → Bool → Carried
carried01 d s c =
    choose (eqb d.0 0) (pans false (not (eqb s.0 0)))
    (choose (eqb s.0 0) (pans true false) (pans true (not c)))

-- version 2 (7.2.2.6, table of PAN ID compression). None, none: the destination's where compressed. One only: its own unless compressed.
-- Any pair: the destination's, and the source's unless compressed; but both extended: the destination's unless compressed
unfoldable pub carried2 : AddressingMode → AddressingMode → Bool → Carried
carried2 d s c =
    choose (eqb d.0 0) (choose (eqb s.0 0) (pans c false) (pans false (not c)))
    (choose (eqb s.0 0) (pans (not c) false)
    (choose (eqb d.0 3) (choose (eqb s.0 3) (pans (not c) false) (pans true (not c)))
    (pans true (not c))))

unfoldable pub carried : Control → Carried
carried k =
    choose (eqb k.frame_version.0 2) (carried2 k.dst_addr_mode k.src_addr_mode k.pan_id_compression)
    (carried01 k.dst_addr_mode k.src_addr_mode k.pan_id_compression)
