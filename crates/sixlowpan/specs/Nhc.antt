-- Which compressed next header stands at a place (RFC 6282, 4.2 and 4.3).
use Rattle.std.specs.Prelude.{ℕ, ◌/◌, List, eqb}
use Rattle.octets.specs.Read.{Answer, is, refused, and_then, choose, byte}
use Rattle.sixlowpan.specs.declared.nhc.NhcPacket.{NhcPacket}
use Rattle.sixlowpan.specs.declared.nhc.NhcPacket.TheVariants.{ExtHeader, UdpHeader}

-- the leading bits: 1110 an extension header, 11110 a UDP header; anything else is refused, 2
unfoldable pub nhc_of : ℕ → Answer NhcPacket
nhc_of b = choose (eqb (b / 16) 0b1110) (is ExtHeader) (choose (eqb (b / 8) 0b11110) (is UdpHeader) (refused 2))

-- no byte at the place: 1
unfoldable pub nhc : List ℕ → ℕ → Answer NhcPacket
nhc s at = and_then (byte s at) (λ p. nhc_of p.value)
