-- Compressed UDP headers (RFC 6282, 4.3).
use Rattle.std.specs.Prelude.{ℕ, ◌+◌, ◌*◌, ◌/◌, ◌%◌, List, [], ◌++◌, Bool, ◌&&◌, eqb, Option, Some, None}
use Rattle.octets.specs.Read.{Reader, choose, branch, give, refuse, byte, be16, ◌>>=◌}
use Rattle.octets.specs.Write.{byte_bytes, be16_bytes}
use Rattle.sixlowpan.specs.declared.nhc.UdpNhcRepr.{UdpNhcRepr}
use Rattle.sixlowpan.specs.declared.nhc.Ports.{Ports}

-- ---- reading: 4.3.3, the table of P and C
-- a port whose first 8 bits are f0 and elided, or one that is carried whole
unfoldable pub port : Bool → Reader ℕ
port short =
    branch short
    (do
      low ← byte
      give (0xf000 + low))
    be16

-- P 11: the first 12 bits of both ports are f0b and elided, 4 bits of each are carried
unfoldable pub both_ports : Reader Ports
both_ports = do
  low ← byte
  give (record { src = 0xf0b0 + low / 16; dst = 0xf0b0 + low % 16 })

-- P 10: 8 bits of the source port; P 01: 8 bits of the destination port; all else is carried whole
unfoldable pub ports : ℕ → Reader Ports
ports p =
    branch (eqb p 0b11)
    both_ports
    (do
      source ← port (eqb p 0b10)
      destination ← port (eqb p 0b01)
      give (record { src = source; dst = destination }))

-- C 0: the checksum's 16 bits are carried; C 1: they are elided
unfoldable pub checksum : ℕ → Reader (Option ℕ)
checksum elided =
    branch (eqb elided 0)
    (do
      x ← be16
      give (Some x))
    (give None)

--   0   1   2   3   4   5   6   7
-- +---+---+---+---+---+---+---+---+
-- | 1 | 1 | 1 | 1 | 0 | C |   P   |
-- +---+---+---+---+---+---+---+---+
-- what follows the byte b, that is 11110, C and P
unfoldable pub udp_rest : ℕ → Reader UdpNhcRepr
udp_rest b = do
  both ← ports (b % 4)
  sum ← checksum (b / 4 % 2)
  give (record { src_port = both.src; dst_port = both.dst; checksum = sum })

-- the fields stand in the order of the UDP header: source port, destination port, checksum
unfoldable pub udp : Reader UdpNhcRepr
udp = do
  b ← byte
  branch (eqb (b / 8) 0b11110) (udp_rest b) (refuse 2)

-- ---- writing: as few bits of the ports as the table allows; where either port alone may be shortened, the source is
-- a port's first 8 bits are f0; its first 12 bits are f0b
abbrev pub port8 : ℕ → Bool
port8 x = eqb (x / 256) 0xf0

abbrev pub port4 : ℕ → Bool
port4 x = eqb (x / 16) 0xf0b

abbrev pub both_port4 : ℕ → ℕ → Bool
both_port4 src dst = port4 src && port4 dst

unfoldable pub form_of : ℕ → ℕ → ℕ
form_of src dst = choose (both_port4 src dst) 0b11 (choose (port8 src) 0b10 (choose (port8 dst) 0b01 0b00))

-- C: whether the checksum is elided
abbrev pub elided_bit : Option ℕ → ℕ
elided_bit (Some x) = 0
elided_bit None = 1

-- ---- how many bytes carry a port, the ports and the checksum
abbrev pub port_width : Bool → ℕ
port_width short = choose short 1 2

abbrev pub ports_width : ℕ → ℕ
ports_width p = choose (eqb p 0b11) 1 (port_width (eqb p 0b10) + port_width (eqb p 0b01))

abbrev pub checksum_width : ℕ → ℕ
checksum_width elided = choose (eqb elided 0) 2 0

-- how many bytes follow the first byte b
abbrev pub udp_width : ℕ → ℕ
udp_width b = ports_width (b % 4) + checksum_width (b / 4 % 2)

-- ---- the bytes that carry a port, the ports and the checksum
unfoldable pub port_bytes : Bool → ℕ → List ℕ
port_bytes short x = choose short (byte_bytes (x % 256)) (be16_bytes x)

unfoldable pub ports_bytes : ℕ → ℕ → ℕ → List ℕ
ports_bytes p src dst = choose (eqb p 0b11) (byte_bytes (src % 16 * 16 + dst % 16)) (port_bytes (eqb p 0b10) src ++ port_bytes (eqb p 0b01) dst)

abbrev pub checksum_bytes : Option ℕ → List ℕ
checksum_bytes (Some x) = be16_bytes x
checksum_bytes None = []

-- ---- the header's first byte, its length and its bytes
abbrev pub udp_form : UdpNhcRepr → ℕ
udp_form h = form_of h.src_port h.dst_port

abbrev pub udp_first : UdpNhcRepr → ℕ
udp_first h = 0b11110 * 8 + elided_bit h.checksum * 4 + udp_form h

abbrev pub udp_length : UdpNhcRepr → ℕ
udp_length h = 1 + (ports_width (udp_form h) + checksum_width (elided_bit h.checksum))

abbrev pub udp_nhc_bytes : UdpNhcRepr → List ℕ
udp_nhc_bytes h = byte_bytes (udp_first h) ++ (ports_bytes (udp_form h) h.src_port h.dst_port ++ checksum_bytes h.checksum)
