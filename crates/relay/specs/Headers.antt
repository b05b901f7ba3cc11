-- Mesh and broadcast headers in a row, in front of ours (RFC 4944, 5.2, 11.1; their order is that of 5.1: mesh, broadcast, then fragments).
use Rattle.relay.specs.declared.mesh.Mesh.{Mesh}
use Rattle.std.specs.Prelude.{ℕ, ◌+◌, List, [], ◌++◌, Bool, true, get_or, Option, Some, None}
use Rattle.octets.specs.Read.{Answer, Reader, got, refused, choose, branch, give, refuse, ◌>>=◌}
use Rattle.octets.specs.Write.{wrote, over}
use Rattle.relay.specs.Mesh.{mesh, is_mesh, mesh_length, mesh_bytes, has_both}
use Rattle.relay.specs.Broadcast.{broadcast, is_broadcast, broadcast_length, broadcast_bytes}
use Rattle.relay.specs.declared.headers.Relay.{Relay}

-- the byte at the place, which is not passed over; 0, which begins neither header, where the bytes end
abbrev pub peek : Reader ℕ
peek s at = got (get_or s at 0) at

-- the byte begins a mesh or a broadcast header
abbrev pub is_either : ℕ → Bool
is_either b = choose (is_mesh b) true (is_broadcast b)

-- each header, where it is there
unfoldable pub mesh_field : Reader (Option Mesh)
mesh_field = do
  b ← peek
  branch (is_mesh b)
      (do
        m ← mesh
        give (Some m))
      (give None)

unfoldable pub broadcast_field : Reader (Option ℕ)
broadcast_field = do
  b ← peek
  branch (is_broadcast b)
      (do
        x ← broadcast
        give (Some x))
      (give None)

-- a mesh header, then a broadcast header, each there or not; 3 where one of the two still follows, that is a second mesh header, or
-- either after a broadcast header
unfoldable pub relay : Reader Relay
relay = do
  m ← mesh_field
  x ← broadcast_field
  b ← peek
  branch (is_either b) (refuse 3) (give (record { mesh = m; broadcast = x }))

-- ---- what is written
abbrev pub has_addresses : Option Mesh → Bool
has_addresses None = true
has_addresses (Some m) = has_both m

abbrev pub field_length : Option Mesh → ℕ
field_length None = 0
field_length (Some m) = mesh_length m

abbrev pub field_bytes : Option Mesh → List ℕ
field_bytes None = []
field_bytes (Some m) = mesh_bytes m

abbrev pub relay_length : Relay → ℕ
relay_length r = field_length r.mesh + broadcast_length r.broadcast

abbrev pub relay_bytes : Relay → List ℕ
relay_bytes r = field_bytes r.mesh ++ broadcast_bytes r.broadcast

-- 6 for an absent address, then 7 for the room; and the room afterwards
abbrev pub relay_wrote : Relay → List ℕ → Answer ℕ
relay_wrote r room = choose (has_addresses r.mesh) (wrote (relay_length r) room) (refused 6)

abbrev pub relay_over : Relay → List ℕ → List ℕ
relay_over r room = choose (has_addresses r.mesh) (over (relay_length r) (relay_bytes r) room) room
