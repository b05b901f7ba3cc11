-- What the relays' headers change of a frame's arrival: the addresses, where a mesh header stands, and where the payload begins.
use Rattle.std.specs.Prelude.{Some, None}
use Prim.Native.Nat.{ℕ, ◌+◌, ◌/◌}
use native.Mathlib.Omega.{arith}
use mathlib.Core.List.{List}
use mathlib.Core.Bool.{Bool, true, false}
use mathlib.Core.Path.{◌≡◌, refl, sym, ◌∙◌}
use lib.Dec.{ltb}
use lib.ListN.{length, get_or}
use borrow.Author.Tests.{ne_eqb}
use Rattle.octets.specs.Read.{is, refused, got, and_then, choose, byte}
use Rattle.octets.proofs.Spans.{not-refused}
use Rattle.relay.specs.Headers.{is_either, relay}
use Rattle.relay.specs.declared.mesh.Mesh.{Mesh}
use Rattle.relay.specs.declared.headers.Relay.{Relay}
use Rattle.relay.proofs.Trips.{relay-none}
use Rattle.sixlowpan.specs.Dispatch.{dispatch_of, dispatch}
use Rattle.sixlowpan.specs.declared.dispatch.SixlowpanPacket.{SixlowpanPacket}
use Rattle.incoming.specs.Incoming.{framed, arrival}
use Rattle.incoming.specs.declared.arrival.Arrival.{Arrival}

-- ---- a payload that dispatch knows begins with neither header
unknown : (b : ℕ) → (b / 8 ≡ 0b11000 → ⊥) → (b / 8 ≡ 0b11100 → ⊥) → (b / 32 ≡ 0b011 → ⊥) → dispatch_of b ≡ refused 2
unfolding dispatch_of
unknown b f g h = rw (ne_eqb (b / 8) 0b11000 f, ne_eqb (b / 8) 0b11100 g, ne_eqb (b / 32) 0b011 h) refl

both : (b n : ℕ) (k : SixlowpanPacket) → dispatch_of b ≡ refused n → dispatch_of b ≡ is k → ⊥
both b n k e f = not-refused k n (sym e ∙ f)

neither : (b : ℕ) (k : SixlowpanPacket) → dispatch_of b ≡ is k → is_either b ≡ false
neither b k e =
    let m : (b / 64 ≡ 0b10) → ⊥ = λ q. both b 2 k (unknown b (λ r. omega arith) (λ r. omega arith) (λ r. omega arith)) e in
    let x : (b ≡ 0b01010000) → ⊥ = λ q. both b 2 k (unknown b (λ r. omega arith) (λ r. omega arith) (λ r. omega arith)) e in
    rw (ne_eqb (b / 64) 0b10 m, ne_eqb b 0b01010000 x) refl

dispatched-go : (t : Bool) (b n : ℕ) (k : SixlowpanPacket) → and_then (choose t (got b n) (refused 1)) (λ p. dispatch_of p.value) ≡ is k → is_either b ≡ false
dispatched-go true b n k e = neither b k e
dispatched-go false b n k e = cc

pub dispatched : (s : List ℕ) (at : ℕ) (k : SixlowpanPacket) → dispatch s at ≡ is k → is_either (get_or s at 0) ≡ false
unfolding dispatch byte
dispatched s at k e = dispatched-go (ltb at (length s)) (get_or s at 0) (at + 1) k e

module _ (s : List ℕ) where
  -- the MAC header's refusals, and 13, come first; then those of the relays' headers
  pub refused-first : (n : ℕ) → framed s ≡ refused n → arrival s ≡ refused n
  unfolding arrival
  refused-first n e = rw e refl

  module _ (a : Arrival) (e : framed s ≡ is a) where
    pub refused-then : (n : ℕ) → relay s a.payload.at ≡ refused n → arrival s ≡ refused n
    unfolding arrival
    refused-then n f = rw (e, f) refl

    -- a frame with neither header arrives as its MAC header says
    pub direct : is_either (get_or s a.payload.at 0) ≡ false → arrival s ≡ is a
    unfolding arrival
    direct f = rw (e, relay-none s a.payload.at f) refl

    module _ (r : Relay) (n : ℕ) (f : relay s a.payload.at ≡ got r n) where
      pub meshed : (m : Mesh) → r.mesh ≡ Some m → arrival s ≡ is (record { src = m.origin; pan = a.pan; dst = m.destination; payload = record { at = n } })
      unfolding arrival
      meshed m g = rw (e, f, g) refl

      -- a broadcast header alone leaves the addresses
      pub not-meshed : r.mesh ≡ None → arrival s ≡ is (record { src = a.src; pan = a.pan; dst = a.dst; payload = record { at = n } })
      unfolding arrival
      not-meshed g = rw (e, f, g) refl
