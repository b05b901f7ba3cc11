-- MAC headers (IEEE 802.15.4, 7.2): frame control, sequence number, addressing fields, auxiliary security header. Where the scope document
-- decides, it is named.
use Rattle.std.specs.Prelude.{ℕ, ◌+◌, Bool, true, false, List, ◌++◌, length, ltb, Option, Some, None}
use Rattle.octets.specs.Read.{refused, Read, Reader, choose, branch, give, refuse, byte, le16, ◌>>=◌}
use Rattle.octets.specs.Write.{byte_bytes, le16_bytes}
use Rattle.ieee802154.specs.Control.{control_of, word_of, supported, has_sequence, may_omit, omits_sequence}
use Rattle.ieee802154.specs.Addressing.{addressing, pan_or, mode_of, field_length, field_bytes}
use Rattle.ieee802154.specs.Security.{auxiliary}
use Rattle.ieee802154.specs.declared.control.Control.{Control}
use Rattle.ieee802154.specs.declared.addressing.Addressing.{Addressing}
use Rattle.ieee802154.specs.declared.header.Repr.{Repr}

-- ---- reading
-- the byte is passed over in every frame that does not leave it out, and is the sequence number of some types
unfoldable pub sequence_of : Control → ℕ → Option ℕ
sequence_of k q = choose (has_sequence k) (Some q) None

unfoldable pub repr_of : Control → Option ℕ → Addressing → Repr
repr_of k q a =
    record {
      frame_type = k.frame_type;
      security_enabled = k.security_enabled;
      frame_pending = k.frame_pending;
      ack_request = k.ack_request;
      sequence_number = q;
      pan_id_compression = k.pan_id_compression;
      frame_version = k.frame_version;
      dst_pan_id = a.dst.pan;
      dst_addr = a.dst.addr;
      src_pan_id = a.src.pan;
      src_addr = a.src.addr;
    }

unfoldable pub header_rest : Control → Option ℕ → Reader Repr
header_rest k q =
    branch (supported k)
    (do
      a ← addressing k
      u ← auxiliary k.security_enabled
      give (repr_of k q a))
    (refuse 3)

-- the sequence number, unless it is left out
unfoldable pub sequence : Control → Reader (Option ℕ)
sequence k =
    branch (omits_sequence k) (give None)
    (do
      b ← byte
      give (sequence_of k b))

unfoldable pub after_control : Control → Reader Repr
after_control k = do
  q ← sequence k
  header_rest k q

unfoldable pub header : Reader Repr
header = do
  fc ← le16
  after_control (control_of fc)

-- a frame without its frame check. The scope document: below 3 bytes 1, above 127 bytes 4, before anything else
unfoldable pub mac : List ℕ → Read Repr
mac s = choose (ltb (length s) 3) (refused 1) (choose (ltb 127 (length s)) (refused 4) (header s 0))

-- ---- writing: a destination PAN always, a source PAN unless compressed (the scope document), no auxiliary security header
abbrev pub sequence_or : Option ℕ → ℕ
sequence_or None = 0
sequence_or (Some x) = x

abbrev pub has_byte : Option ℕ → Bool
has_byte None = false
has_byte (Some x) = true

-- left out where there is none and it may be, by the record's own numbers
unfoldable pub suppresses : Repr → Bool
suppresses h = choose (has_byte h.sequence_number) false (may_omit h.frame_version.0 h.frame_type.0)

-- the frame control field: whether the sequence number is left out, and the modes of its addresses
abbrev pub control_with : Repr → Bool → ℕ → ℕ → Control
control_with h t d s =
    record {
      frame_type = h.frame_type;
      security_enabled = h.security_enabled;
      frame_pending = h.frame_pending;
      ack_request = h.ack_request;
      pan_id_compression = h.pan_id_compression;
      sequence_suppressed = t;
      dst_addr_mode = record { 0 = d };
      frame_version = h.frame_version;
      src_addr_mode = record { 0 = s };
    }

abbrev pub control_for : Repr → Control
control_for h = control_with h (suppresses h) (mode_of h.dst_addr) (mode_of h.src_addr)

-- 5, or 4 without a sequence number; plus 2 unless compressed, plus the addresses
abbrev pub front_length : Repr → ℕ
front_length h = choose (suppresses h) 4 5

unfoldable pub length_of : Repr → ℕ
length_of h = front_length h + choose h.pan_id_compression 0 2 + (field_length h.dst_addr + field_length h.src_addr)

unfoldable pub front_bytes : Repr → List ℕ
front_bytes h =
    le16_bytes (word_of (control_for h))
    ++ choose (suppresses h) (le16_bytes (pan_or h.dst_pan_id)) (byte_bytes (sequence_or h.sequence_number) ++ le16_bytes (pan_or h.dst_pan_id))

unfoldable pub source_bytes : Repr → List ℕ
source_bytes h = choose h.pan_id_compression (field_bytes h.src_addr) (le16_bytes (pan_or h.src_pan_id) ++ field_bytes h.src_addr)

unfoldable pub back_bytes : Repr → List ℕ
back_bytes h = field_bytes h.dst_addr ++ source_bytes h

unfoldable pub bytes_of : Repr → List ℕ
bytes_of h = front_bytes h ++ back_bytes h
