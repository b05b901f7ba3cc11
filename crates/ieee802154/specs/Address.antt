-- Addresses (IEEE 802.15.4, 7.2.2.9: absent, short of 16 bits, extended of 64 bits) and what is made of them.
use Rattle.std.specs.Prelude.{ℕ, ◌+◌, ◌-◌, ◌/◌, ◌%◌, ◌^◌, List, [], Bool, true, false, length, eqb, Option, Some, None}
use Rattle.octets.specs.Read.{Answer, is, refused, and_then, choose, be16, be64}
use Rattle.octets.specs.Write.{be16_bytes, be64_bytes}
use Rattle.octets.specs.Ipv6.{ip, link_local}
use Rattle.octets.specs.declared.ipv6.Ipv6Addr.{Ipv6Addr}
use Rattle.ieee802154.specs.declared.addr.Address.{Address}
use Rattle.ieee802154.specs.declared.addr.Address.TheVariants.{Absent, Short, Extended}

-- the broadcast address is the short address ffff
abbrev pub is_broadcast : Address → Bool
is_broadcast Absent = false
is_broadcast (Short a) = eqb a 0xffff
is_broadcast (Extended a) = false

abbrev pub is_present : Address → Bool
is_present Absent = false
is_present (Short a) = true
is_present (Extended a) = true

-- ---- an address as bytes, the first one high
-- two bytes: a short address; eight: an extended one; any other count: 4
unfoldable pub from_bytes : List ℕ → Answer Address
from_bytes s =
    choose (eqb (length s) 2) (and_then (be16 s 0) (λ p. is (Short p.value)))
    (choose (eqb (length s) 8) (and_then (be64 s 0) (λ p. is (Extended p.value))) (refused 4))

abbrev pub address_length : Address → ℕ
address_length Absent = 0
address_length (Short x) = 2
address_length (Extended x) = 8

abbrev pub address_bytes : Address → List ℕ
address_bytes Absent = []
address_bytes (Short x) = be16_bytes x
address_bytes (Extended x) = be64_bytes x

-- ---- what an extended address gives
-- RFC 4291, appendix A: the interface identifier has the universal/local bit, the 7th from the front, inverted
abbrev pub flip57 : ℕ → ℕ
flip57 x = choose (eqb (x / 2 ^ 57 % 2) 0) (x + 2 ^ 57) (x - 2 ^ 57)

abbrev pub eui64 : Address → Option ℕ
eui64 Absent = None
eui64 (Short a) = None
eui64 (Extended x) = Some (flip57 x)

-- RFC 4944, 7 (6 gives the identifier): fe80::/64, and the interface identifier
abbrev pub under_link_local : Option ℕ → Option Ipv6Addr
under_link_local None = None
under_link_local (Some i) = Some (ip link_local i)

abbrev pub link_local_of : Address → Option Ipv6Addr
link_local_of a = under_link_local (eui64 a)
