-- The branches of specs/Iphc.antt are the RFC's tables of TF, SAM and DAM (specs/Modes.antt), of every number that the bits can be.
use Rattle.ieee802154.specs.declared.addr.Address.{Address}
use Rattle.std.specs.Prelude.{Option}
use Prim.Native.Nat.{ℕ}
use mathlib.Core.List.{List}
use mathlib.Core.Path.{◌≡◌, refl}
use mathlib.Core.Bool.{Bool, true, false, not}
use lib.Dec.{eqb}
use Rattle.octets.specs.Read.{Answer, is, refused, Reader, got, and_then, give, refuse, be16}
use Rattle.octets.specs.Ipv6.{ip}
use Rattle.octets.specs.declared.ipv6.Ipv6Addr.{Ipv6Addr}
use Rattle.iphc.specs.Iphc.{traffic, link_iid, identifier, prefix_of, elided, source, multicast, destination}
use Rattle.iphc.specs.Modes.{m00, mode_of, traffic_by, stateless, stateful, source_by, group, destination_by}
use Rattle.iphc.specs.declared.read.Traffic.{Traffic}

by : {X : Type 0} (b : Bool) → (b ≡ true → X) → (b ≡ false → X) → X
by true f g = f refl
by false f g = g refl

-- one step behind two is two behind one
assoc : {A B C : Type 0} (a : Answer A) (f : A → Answer B) (g : B → Answer C) → and_then (and_then a f) g ≡ and_then a (λ x. and_then (f x) g)
assoc (is x) f g = refl
assoc (refused n) f g = refl

pub tf-table : (none : Traffic) (tf : ℕ) (s : List ℕ) (at : ℕ) → traffic 0b11 s at ≡ got none at → traffic tf s at ≡ traffic_by none (mode_of tf) s at
unfolding traffic mode_of
tf-table none tf s at e = by (eqb tf 0b00) (λ a. rw a refl) (λ a. by (eqb tf 0b01) (λ b. rw (a, b) refl) (λ b. by (eqb tf 0b10) (λ c. rw (a, b, c) refl) (λ c. rw (a, b, c) e)))

module _ (ctx : List ℕ) (id : ℕ) (ll : Option Address) (s : List ℕ) (at : ℕ) where
  -- an address whose prefix is elided: without a context, and with one
  plain : (ac mode : ℕ) → eqb ac 0 ≡ true → eqb mode 0b00 ≡ false → elided ctx ac mode id ll s at ≡ stateless ll (mode_of mode) s at
  unfolding elided identifier prefix_of mode_of
  plain ac mode a z = by (eqb mode 0b01)
      (λ b. rw (a, z, b) refl)
      (λ b. by (eqb mode 0b10)
      (λ c. rw (a, z, b, c) (assoc (be16 s at) _ _))
      (λ c. rw (a, z, b, c) (assoc (link_iid ll) _ _)))

  listed : (zero : Reader Ipv6Addr) (ac mode : ℕ) → eqb ac 0 ≡ false → eqb mode 0b00 ≡ false → elided ctx ac mode id ll s at ≡ stateful ctx id ll zero (mode_of mode) s at
  unfolding elided identifier prefix_of mode_of
  listed zero ac mode a z = by (eqb mode 0b01)
      (λ b. rw (a, z, b) refl)
      (λ b. by (eqb mode 0b10)
      (λ c. rw (a, z, b, c) (assoc (be16 s at) _ _))
      (λ c. rw (a, z, b, c) (assoc (link_iid ll) _ _)))

  zeroth : (mode : ℕ) → eqb mode 0b00 ≡ true → mode_of mode ≡ m00
  unfolding mode_of
  zeroth mode z = rw z refl

  pub sam-table : (sac sam : ℕ) → source ctx sac sam id ll s at ≡ source_by ctx id ll (not (eqb sac 0)) (mode_of sam) s at
  unfolding source
  sam-table sac sam = by (eqb sac 0)
      (λ a. by (eqb sam 0b00) (λ z. rw (a, z, zeroth sam z) refl) (λ z. rw (a, z) (plain sac sam a z)))
      (λ a. by (eqb sam 0b00) (λ z. rw (a, z, zeroth sam z) refl) (λ z. rw (a, z) (listed (give (ip 0 0)) sac sam a z)))

  groups : (dam : ℕ) → multicast dam s at ≡ group (mode_of dam) s at
  unfolding multicast mode_of
  groups dam = by (eqb dam 0b00) (λ a. rw a refl) (λ a. by (eqb dam 0b01) (λ b. rw (a, b) refl) (λ b. by (eqb dam 0b10) (λ c. rw (a, b, c) refl) (λ c. rw (a, b, c) refl)))

  pub dam-table : (m dac dam : ℕ) → destination ctx m dac dam id ll s at ≡ destination_by ctx id ll (not (eqb m 0)) (not (eqb dac 0)) (mode_of dam) s at
  unfolding destination
  dam-table m dac dam = by (eqb m 0)
      (λ g. by (eqb dac 0)
      (λ a. by (eqb dam 0b00) (λ z. rw (g, a, z, zeroth dam z) refl) (λ z. rw (g, a, z) (plain dac dam a z)))
      (λ a. by (eqb dam 0b00) (λ z. rw (g, a, z, zeroth dam z) refl) (λ z. rw (g, a, z) (listed (refuse 3) dac dam a z))))
      (λ g. by (eqb dac 0) (λ a. rw (g, a) (groups dam)) (λ a. rw (g, a) refl))
