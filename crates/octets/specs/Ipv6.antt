-- IPv6 addresses (RFC 4291): a prefix of 64 bits and an interface identifier of 64 bits.
use Rattle.std.specs.Prelude.{ℕ, ◌*◌, ◌/◌, ◌^◌, Bool, ◌&&◌, eqb}
use Rattle.octets.specs.declared.ipv6.Ipv6Addr.{Ipv6Addr}

abbrev pub ip : ℕ → ℕ → Ipv6Addr
ip p i = record { prefix = p; iid = i }

-- fe80::/64
abbrev pub link_local : ℕ
link_local = 0xfe80 * 2 ^ 48

-- RFC 4291, 2.5.2: all bits are 0
abbrev pub is_unspecified : Ipv6Addr → Bool
is_unspecified a = eqb a.prefix 0 && eqb a.iid 0

-- RFC 4291, 2.7: the first byte is ff
abbrev pub is_multicast : Ipv6Addr → Bool
is_multicast a = eqb (a.prefix / 2 ^ 56) 0xff

-- RFC 4291, 2.5.6: fe80, and then 54 bits of 0
abbrev pub is_link_local : Ipv6Addr → Bool
is_link_local a = eqb a.prefix link_local
