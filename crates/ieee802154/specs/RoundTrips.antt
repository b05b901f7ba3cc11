-- Which headers read back as they were written: a test that computes. It is exact: proofs/RoundTrips.antt shows
-- that it suffices, proofs/Exact.antt that it is needed.
use Rattle.ieee802154.specs.declared.addr.Pan.{Pan}
use Rattle.ieee802154.specs.declared.addr.Address.{Address}
use Rattle.std.specs.Prelude.{◌+◌, Bool, true, false, not, ◌&&◌, eqb, ltb, Option, Some, None}
use Rattle.octets.specs.Read.{choose}
use Rattle.ieee802154.specs.Control.{bit_of, supported, has_addressing, carried}
use Rattle.ieee802154.specs.Addressing.{pan_or}
use Rattle.ieee802154.specs.Mac.{has_byte, suppresses, control_for}
use Rattle.ieee802154.specs.declared.control.Carried.{Carried}
use Rattle.ieee802154.specs.declared.header.Repr.{Repr}

-- ---- a field is there; an absent address, `Some(Absent)`, is there
abbrev pub has_pan : Option Pan → Bool
has_pan None = false
has_pan (Some x) = true

abbrev pub has_address : Option Address → Bool
has_address None = false
has_address (Some a) = true

abbrev pub same : Bool → Bool → Bool
same true b = b
same false b = not b

-- ---- the PANs stand where the reader looks for them: those that are carried are there; they are as many as are written, one if compressed
-- and else two; and where the source's alone is carried (versions 0 and 1, no destination), it is the 0 that is written for a missing
-- destination PAN
unfoldable pub pans_stand : Bool → Carried → Option Pan → Option Pan → Bool
pans_stand c p d s =
    same (has_pan d) p.dst
    && (same (has_pan s) p.src
    && (eqb (bit_of (has_pan d) + bit_of (has_pan s)) (choose c 1 2)
    && choose (has_pan d) true (eqb (pan_or s) 0)))

-- ---- no auxiliary security header is written, so security is off; the version is within its bits, and the version and the modes are read;
-- the frame type has addressing, and with it a sequence number, which is there or is left out; both addresses are there
unfoldable pub round_trips : Repr → Bool
round_trips h =
    let k = control_for h in
    not h.security_enabled
    && (ltb h.frame_version.0 4
    && (supported k
    && (has_addressing k
    && (choose (suppresses h) true (has_byte h.sequence_number)
    && (has_address h.dst_addr
    && (has_address h.src_addr
    && pans_stand h.pan_id_compression (carried k) h.dst_pan_id h.src_pan_id))))))
