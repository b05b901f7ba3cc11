-- Any two answers of `as_eui_64`, and of `as_link_local_address`, that meet the contract are equal: it is an equation on the
-- answer itself (crates/ieee802154/src/addr.rt).
use Prim.Native.Nat.{ℕ}
use mathlib.Core.Path.{◌≡◌, sym, ◌∙◌}
use Rattle.std.specs.Prelude.{Option}
use Rattle.octets.specs.declared.ipv6.Ipv6Addr.{Ipv6Addr}
use Rattle.ieee802154.specs.declared.addr.Address.{Address}
use Rattle.ieee802154.specs.Address.{eui64, link_local_of}

pub eui-one : (a : Address) (y z : Option ℕ) → y ≡ eui64 a → z ≡ eui64 a → y ≡ z
eui-one a y z p q = p ∙ sym q

pub link-local-one : (a : Address) (y z : Option Ipv6Addr) → y ≡ link_local_of a → z ≡ link_local_of a → y ≡ z
link-local-one a y z p q = p ∙ sym q
