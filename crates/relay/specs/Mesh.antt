-- Mesh headers (RFC 4944, 5.2).
use Rattle.std.specs.Prelude.{ℕ, ◌+◌, ◌*◌, ◌/◌, ◌%◌, List, [], ◌++◌, Bool, ◌&&◌, eqb, leb}
use Rattle.octets.specs.Read.{Reader, choose, branch, give, refuse, byte, be16, be64, ◌>>=◌}
use Rattle.octets.specs.Write.{byte_bytes}
use Rattle.ieee802154.specs.Address.{address_length, address_bytes, is_present}
use Rattle.ieee802154.specs.declared.addr.Address.{Address}
use Rattle.ieee802154.specs.declared.addr.Address.TheVariants.{Absent, Short, Extended}
use Rattle.relay.specs.declared.mesh.Mesh.{Mesh}

--                      1                   2                   3
--  0 1 2 3 4 5 6 7 8 9 0 1 2 3 4 5 6 7 8 9 0 1 2 3 4 5 6 7 8 9 0 1
-- +-+-+-+-+-+-+-+-+-+-+-+-+-+-+-+-+-+-+-+-+-+-+-+-+-+-+-+-+-+-+-+-+
-- |1 0|V|F|HopsLft| originator address, final address
-- +-+-+-+-+-+-+-+-+-+-+-+-+-+-+-+-+-+-+-+-+-+-+-+-+-+-+-+-+-+-+-+-+
--
-- and where HopsLft is 1111, the hops left stand in the byte behind it:
--
-- +-+-+-+-+-+-+-+-+-+-+-+-+-+-+-+-+-+-+-+-+-+-+-+-+-+-+-+-+-+-+-+-+
-- |1 0|V|F|1 1 1 1|   hops left   | originator address, final address
-- +-+-+-+-+-+-+-+-+-+-+-+-+-+-+-+-+-+-+-+-+-+-+-+-+-+-+-+-+-+-+-+-+

-- V of the originator, F of the final address: 1, a short address of 16 bits; 0, an extended one of 64; the high byte first
unfoldable pub address : ℕ → Reader Address
address short =
    branch (eqb short 1)
    (do
      x ← be16
      give (Short x))
    (do
      x ← be64
      give (Extended x))

unfoldable pub hops_left : ℕ → Reader ℕ
hops_left bits = branch (eqb bits 0b1111) byte (give bits)

-- what follows the byte b, that is 10, V, F and HopsLft
unfoldable pub mesh_rest : ℕ → Reader Mesh
mesh_rest b = do
  h ← hops_left (b % 16)
  o ← address (b / 32 % 2)
  d ← address (b / 16 % 2)
  give (record { hops = h; origin = o; destination = d })

abbrev pub is_mesh : ℕ → Bool
is_mesh b = eqb (b / 64) 0b10

unfoldable pub mesh : Reader Mesh
mesh = do
  b ← byte
  branch (is_mesh b) (mesh_rest b) (refuse 2)

-- how many bytes follow the first byte b
abbrev pub address_width : ℕ → ℕ
address_width short = choose (eqb short 1) 2 8

abbrev pub mesh_width : ℕ → ℕ
mesh_width b = choose (eqb (b % 16) 0b1111) 1 0 + (address_width (b / 32 % 2) + address_width (b / 16 % 2))

-- ---- the header's first byte, its length and its bytes
-- 15 hops or more take a byte of their own, and fewer never do
abbrev pub is_deep : ℕ → Bool
is_deep h = leb 15 h

abbrev pub hops_bits : ℕ → ℕ
hops_bits h = choose (is_deep h) 0b1111 h

abbrev pub hops_width : ℕ → ℕ
hops_width h = choose (is_deep h) 1 0

unfoldable pub hops_bytes : ℕ → List ℕ
hops_bytes h = choose (is_deep h) (byte_bytes h) []

abbrev pub short_bit : Address → ℕ
short_bit Absent = 0
short_bit (Short a) = 1
short_bit (Extended a) = 0

abbrev pub mesh_first : Mesh → ℕ
mesh_first m = 0b10 * 64 + short_bit m.origin * 32 + short_bit m.destination * 16 + hops_bits m.hops

abbrev pub mesh_length : Mesh → ℕ
mesh_length m = 1 + hops_width m.hops + address_length m.origin + address_length m.destination

abbrev pub mesh_bytes : Mesh → List ℕ
mesh_bytes m = byte_bytes (mesh_first m) ++ (hops_bytes m.hops ++ (address_bytes m.origin ++ address_bytes m.destination))

-- an absent address cannot be written
abbrev pub has_both : Mesh → Bool
has_both m = is_present m.origin && is_present m.destination
