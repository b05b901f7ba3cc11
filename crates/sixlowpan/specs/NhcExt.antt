-- Compressed IPv6 extension headers (RFC 6282, 4.2).
use Rattle.std.specs.Prelude.{ℕ, ◌+◌, ◌*◌, ◌/◌, ◌%◌, List, ◌++◌, eqb}
use Rattle.octets.specs.Read.{Reader, choose, branch, give, refuse, byte, ◌>>=◌}
use Rattle.octets.specs.Write.{byte_bytes}
use Rattle.sixlowpan.specs.Next.{next_header, next_bit, next_width, next_bytes}
use Rattle.sixlowpan.specs.declared.nhc.ExtHeaderId.{ExtHeaderId}
use Rattle.sixlowpan.specs.declared.nhc.ExtHeaderId.TheVariants.{HopByHopHeader, RoutingHeader, FragmentHeader, DestinationOptionsHeader, MobilityHeader, Header, Reserved}
use Rattle.sixlowpan.specs.declared.nhc.ExtHeaderRepr.{ExtHeaderRepr}

-- the table of EID: 5 and 6 are reserved
unfoldable pub id_of : ℕ → ExtHeaderId
id_of eid =
    choose (eqb eid 0) HopByHopHeader
    (choose (eqb eid 1) RoutingHeader
    (choose (eqb eid 2) FragmentHeader
    (choose (eqb eid 3) DestinationOptionsHeader
    (choose (eqb eid 4) MobilityHeader
    (choose (eqb eid 5) Reserved
    (choose (eqb eid 6) Reserved Header))))))

-- the same table the other way; of the two reserved numbers, 5
abbrev pub eid_of : ExtHeaderId → ℕ
eid_of HopByHopHeader = 0
eid_of RoutingHeader = 1
eid_of FragmentHeader = 2
eid_of DestinationOptionsHeader = 3
eid_of MobilityHeader = 4
eid_of Reserved = 5
eid_of Header = 7

-- the protocol numbers of RFC 8200, 4; a listed difference: Mobility, which RFC 6275 numbers 135, gives 0
abbrev pub protocol_of : ExtHeaderId → ℕ
protocol_of HopByHopHeader = 0
protocol_of RoutingHeader = 43
protocol_of FragmentHeader = 44
protocol_of DestinationOptionsHeader = 60
protocol_of MobilityHeader = 0
protocol_of Header = 0
protocol_of Reserved = 0

--   0   1   2   3   4   5   6   7
-- +---+---+---+---+---+---+---+---+
-- | 1 | 1 | 1 | 0 |    EID    |NH |
-- +---+---+---+---+---+---+---+---+
-- what follows the byte b, that is 1110, EID and NH: the next header and the length
unfoldable pub ext_rest : ℕ → Reader ExtHeaderRepr
ext_rest b = do
  next ← next_header (b % 2)
  n ← byte
  give (record { ext_header_id = id_of (b / 2 % 8); next_header = next; length = n })

unfoldable pub ext : Reader ExtHeaderRepr
ext = do
  b ← byte
  branch (eqb (b / 16) 0b1110) (ext_rest b) (refuse 2)

-- how many bytes follow the first byte b
abbrev pub ext_width : ℕ → ℕ
ext_width b = next_width (b % 2) + 1

-- ---- the header's first byte, its length and its bytes
abbrev pub ext_first : ExtHeaderRepr → ℕ
ext_first h = 0b1110 * 16 + eid_of h.ext_header_id * 2 + next_bit h.next_header

abbrev pub ext_length : ExtHeaderRepr → ℕ
ext_length h = 1 + (next_width (next_bit h.next_header) + 1)

abbrev pub ext_bytes : ExtHeaderRepr → List ℕ
ext_bytes h = byte_bytes (ext_first h) ++ (next_bytes h.next_header ++ byte_bytes h.length)
