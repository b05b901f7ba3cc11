-- Which header a payload starts with (RFC 4944, 5.1 and 5.3; RFC 6282, 2).
use Rattle.std.specs.Prelude.{ℕ, ◌/◌, List, eqb}
use Rattle.octets.specs.Read.{Answer, is, refused, and_then, choose, byte}
use Rattle.sixlowpan.specs.declared.dispatch.SixlowpanPacket.{SixlowpanPacket}
use Rattle.sixlowpan.specs.declared.dispatch.SixlowpanPacket.TheVariants.{FragmentHeader, IphcHeader}

-- the leading bits: 11000 a first part, 11100 a later part, 011 a compressed header; anything else is refused, 2
unfoldable pub dispatch_of : ℕ → Answer SixlowpanPacket
dispatch_of b =
    choose (eqb (b / 8) 0b11000) (is FragmentHeader)
    (choose (eqb (b / 8) 0b11100) (is FragmentHeader)
    (choose (eqb (b / 32) 0b011) (is IphcHeader) (refused 2)))

-- no byte at the place: 1
unfoldable pub dispatch : List ℕ → ℕ → Answer SixlowpanPacket
dispatch s at = and_then (byte s at) (λ p. dispatch_of p.value)
