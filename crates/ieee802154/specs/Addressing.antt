-- The addressing fields (IEEE 802.15.4, 7.2.4 to 7.2.7): the destination's PAN identifier and address, and the source's; the low byte first.
use Rattle.ieee802154.specs.declared.addr.Pan.{Pan}
use Rattle.ieee802154.specs.declared.addr.Address.{Address}
use Rattle.std.specs.Prelude.{ℕ, ◌+◌, List, [], Bool, eqb, Option, Some, None}
use Rattle.octets.specs.Read.{Reader, branch, give, refuse, le16, le64, ◌>>=◌}
use Rattle.octets.specs.Write.{le16_bytes, le64_bytes}
use Rattle.ieee802154.specs.Address.{address_length}
use Rattle.ieee802154.specs.Control.{has_addressing, carried}
use Rattle.ieee802154.specs.declared.addr.Address.TheVariants.{Absent, Short, Extended}
use Rattle.ieee802154.specs.declared.control.AddressingMode.{AddressingMode}
use Rattle.ieee802154.specs.declared.control.Control.{Control}
use Rattle.ieee802154.specs.declared.control.Carried.{Carried}
use Rattle.ieee802154.specs.declared.addressing.Side.{Side}
use Rattle.ieee802154.specs.declared.addressing.Addressing.{Addressing}

-- ---- the answers' cases
-- ---- reading: a PAN identifier where it is carried
unfoldable pub pan_field : Bool → Reader (Option Pan)
pan_field t =
    branch t
    (do
      x ← le16
      give (Some (record { 0 = x })))
    (give None)

-- an address by its mode (7.2.2.9): 00 absent, 10 short, 11 extended; 01 is reserved
unfoldable pub address_field : AddressingMode → Reader (Option Address)
address_field m =
    branch (eqb m.0 0) (give (Some Absent))
    (branch (eqb m.0 2)
    (do
      x ← le16
      give (Some (Short x)))
    (branch (eqb m.0 3)
    (do
      x ← le64
      give (Some (Extended x)))
    (refuse 3)))

unfoldable pub side : Bool → AddressingMode → Reader Side
side t m = do
  p ← pan_field t
  a ← address_field m
  give (record { pan = p; addr = a })

unfoldable pub sides : Carried → AddressingMode → AddressingMode → Reader Addressing
sides p d s = do
  a ← side p.dst d
  b ← side p.src s
  give (record { dst = a; src = b })

-- a frame type without addressing has none of the fields
abbrev pub no_side : Side
no_side = record { pan = None; addr = None }

unfoldable pub addressing : Control → Reader Addressing
addressing k =
    branch (has_addressing k) (sides (carried k) k.dst_addr_mode k.src_addr_mode)
    (give (record { dst = no_side; src = no_side }))

-- ---- a PAN or none as one number: none is 0, and no PAN is
abbrev pub pan_number : Option Pan → ℕ
pan_number None = 0
pan_number (Some x) = x.0 + 1

-- ---- writing: a missing PAN identifier as 0, nothing of an address that is absent or missing
abbrev pub pan_or : Option Pan → ℕ
pan_or None = 0
pan_or (Some x) = x.0

abbrev pub mode_of : Option Address → ℕ
mode_of None = 0
mode_of (Some Absent) = 0
mode_of (Some (Short x)) = 2
mode_of (Some (Extended x)) = 3

abbrev pub field_length : Option Address → ℕ
field_length None = 0
field_length (Some a) = address_length a

abbrev pub field_bytes : Option Address → List ℕ
field_bytes None = []
field_bytes (Some Absent) = []
field_bytes (Some (Short x)) = le16_bytes x
field_bytes (Some (Extended x)) = le64_bytes x
