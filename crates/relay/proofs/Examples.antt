-- Headers of each form, as bytes: each is written so, and read back.
use Rattle.std.specs.Prelude.{Option, Some, None}
use Prim.Native.Nat.{ℕ}
use mathlib.Core.List.{List, [], ◌∷◌}
use mathlib.Core.Path.{◌≡◌, refl}
use Rattle.octets.specs.Read.{got, refused, byte, be16, be32, be64}
use Rattle.octets.specs.Write.{byte_bytes, be16_bytes, be32_bytes, be64_bytes}
use Rattle.ieee802154.specs.declared.addr.Address.{Address}
use Rattle.ieee802154.specs.declared.addr.Address.TheVariants.{Short, Extended}
use Rattle.relay.specs.Mesh.{address, hops_left, mesh_rest, mesh, hops_bytes}
use Rattle.relay.specs.Broadcast.{broadcast}
use Rattle.relay.specs.Headers.{mesh_field, broadcast_field, relay, relay_bytes}
use Rattle.relay.specs.declared.headers.Relay.{Relay}

abbrev meshed : ℕ → Address → Address → Option ℕ → Relay
meshed h o d x = record { mesh = Some (record { hops = h; origin = o; destination = d }); broadcast = x }

-- r is written as bs, and bs is read as r and passed over
abbrev Is : Relay → List ℕ → ℕ → Type 0
Is r bs n = (relay_bytes r ≡ bs) × (relay bs 0 ≡ got r n)

pub forms :
    Is (meshed 5 (Short 0x0102) (Short 0x0304) None) (0xb5 ∷ 0x01 ∷ 0x02 ∷ 0x03 ∷ 0x04 ∷ []) 5
    × Is (meshed 14 (Extended 0x0102030405060708) (Short 0xfffe) (Some 9)) (0x9e ∷ 0x01 ∷ 0x02 ∷ 0x03 ∷ 0x04 ∷ 0x05 ∷ 0x06 ∷ 0x07 ∷ 0x08 ∷ 0xff ∷ 0xfe ∷ 0x50 ∷ 0x09 ∷ []) 13
    × Is (meshed 15 (Short 0x0102) (Extended 0x0102030405060708) None) (0xaf ∷ 0x0f ∷ 0x01 ∷ 0x02 ∷ 0x01 ∷ 0x02 ∷ 0x03 ∷ 0x04 ∷ 0x05 ∷ 0x06 ∷ 0x07 ∷ 0x08 ∷ []) 12
    × Is (record { mesh = None; broadcast = Some 7 }) (0x50 ∷ 0x07 ∷ []) 2
    × Is (record { mesh = None; broadcast = None }) [] 0
unfolding byte be16 be32 be64 byte_bytes be16_bytes be32_bytes be64_bytes address hops_left mesh_rest mesh hops_bytes broadcast mesh_field broadcast_field relay
forms = ((refl, refl), (refl, refl), (refl, refl), (refl, refl), (refl, refl))

-- hops of 5 in a byte of their own are read; a second mesh header, and either header behind a broadcast one, is refused, 3; a header that
-- is cut, 1
pub edges :
    (relay (0xbf ∷ 0x05 ∷ 0x01 ∷ 0x02 ∷ 0x03 ∷ 0x04 ∷ []) 0 ≡ got (meshed 5 (Short 0x0102) (Short 0x0304) None) 6)
    × (relay (0xb5 ∷ 0x01 ∷ 0x02 ∷ 0x03 ∷ 0x04 ∷ 0xb5 ∷ []) 0 ≡ refused 3)
    × (relay (0x50 ∷ 0x07 ∷ 0xb5 ∷ []) 0 ≡ refused 3)
    × (relay (0x50 ∷ 0x07 ∷ 0x50 ∷ []) 0 ≡ refused 3)
    × (relay (0xb5 ∷ 0x01 ∷ 0x02 ∷ 0x03 ∷ []) 0 ≡ refused 1)
    × (relay (0xbf ∷ []) 0 ≡ refused 1)
    × (relay (0x50 ∷ []) 0 ≡ refused 1)
unfolding byte be16 be32 be64 address hops_left mesh_rest mesh broadcast mesh_field broadcast_field relay
edges = (refl, refl, refl, refl, refl, refl, refl)
