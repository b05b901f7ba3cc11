-- The headers as they are written: each length is that of the bytes, and a field goes after a field.
use Rattle.std.specs.Prelude.{Option, Some, None}
use Prim.Native.Nat.{ℕ, ◌+◌}
use native.Mathlib.Nat.{zero-add}
use native.Mathlib.Omega.{arith}
use mathlib.Core.List.{List, [], ◌++◌}
use mathlib.Core.Bool.{Bool, true, false}
use mathlib.Core.Path.{◌≡◌, refl, sym, ◌∙◌}
use lib.ListN.{length, length-append}
use Rattle.octets.specs.Read.{choose}
use Rattle.octets.specs.Write.{put, byte_bytes}
use Rattle.octets.proofs.Puts.{more, puts, told, written_over}
use Rattle.ieee802154.specs.Address.{address_length, address_bytes}
use Rattle.ieee802154.specs.declared.addr.Address.{Address}
use Rattle.ieee802154.proofs.WriteSteps.{length-address}
use Rattle.relay.specs.Mesh.{is_deep, hops_width, hops_bytes, mesh_length, mesh_bytes}
use Rattle.relay.specs.Broadcast.{broadcast_length, broadcast_bytes}
use Rattle.relay.specs.Headers.{field_length, field_bytes, relay_length, relay_bytes}
use Rattle.relay.specs.declared.mesh.Mesh.{Mesh}
use Rattle.relay.specs.declared.headers.Relay.{Relay}

-- ---- lengths
length-hops : (h : ℕ) → length (hops_bytes h) ≡ hops_width h
unfolding hops_bytes byte_bytes
length-hops h = by (is_deep h)
  where
    by : (t : Bool) → length (choose t (byte_bytes h) []) ≡ choose t 1 0
    by true = refl
    by false = refl

pub length-mesh : (m : Mesh) → length (mesh_bytes m) ≡ mesh_length m
unfolding byte_bytes
length-mesh m =
    let o = address_bytes m.origin in
    let d = address_bytes m.destination in
    omega (arith, length-append (hops_bytes m.hops) (o ++ d), length-append o d, length-hops m.hops, length-address m.origin, length-address m.destination)

pub length-field : (m : Option Mesh) → length (field_bytes m) ≡ field_length m
length-field None = refl
length-field (Some m) = length-mesh m

length-broadcast : (x : Option ℕ) → length (broadcast_bytes x) ≡ broadcast_length x
length-broadcast None = refl
length-broadcast (Some x) = refl

pub length-relay : (r : Relay) → length (relay_bytes r) ≡ relay_length r
length-relay r = omega (arith, length-append (field_bytes r.mesh) (broadcast_bytes r.broadcast), length-field r.mesh, length-broadcast r.broadcast)

-- ---- a field after a field, as a call says it
pub more-hops : (l m n : List ℕ) (at k h : ℕ) (bs : List ℕ) → k ≡ hops_width h → m ≡ put at (hops_bytes h) l → n ≡ put (at + k) bs m → n ≡ put at (hops_bytes h ++ bs) l
more-hops l m n at k h bs e p q = more l m n at k (hops_bytes h) bs (length-hops h ∙ sym e) p q

pub more-address : (l m n : List ℕ) (at k : ℕ) (a : Address) (bs : List ℕ) → k ≡ address_length a → m ≡ put at (address_bytes a) l → n ≡ put (at + k) bs m → n ≡ put at (address_bytes a ++ bs) l
more-address l m n at k a bs e p q = more l m n at k (address_bytes a) bs (length-address a ∙ sym e) p q

-- at the front
pub more-mesh : (l m n : List ℕ) (k : ℕ) (f : Option Mesh) (bs : List ℕ) → k ≡ field_length f → m ≡ put 0 (field_bytes f) l → n ≡ put k bs m → n ≡ put 0 (field_bytes f ++ bs) l
more-mesh l m n k f bs e p q = more l m n 0 k (field_bytes f) bs (length-field f ∙ sym e) p (rw (zero-add k) q)

-- what the writers of this crate go by
pub ruleset relay_puts = (puts, told, written_over, length-relay, more-hops, more-address, more-mesh)
