-- The number that the scope document gives each refusal ("Refusal numbers").
use Rattle.std.specs.Prelude.{ℕ}
use Rattle.octets.specs.declared.refusal.Refusal.{Refusal}
use Rattle.octets.specs.declared.refusal.Refusal.TheVariants.{Ended, NotThisHeader, Unsupported, BadLength, NoContext, NoAddress, NoRoom, EarlierTime, NotGateway, BadPart, Clash, NoSlot, NotExpanded, BadGateways, BadBlock, NotCut, BadChecksum, NotHeld}

abbrev pub number_of : Refusal → ℕ
number_of Ended = 1
number_of NotThisHeader = 2
number_of Unsupported = 3
number_of BadLength = 4
number_of NoContext = 5
number_of NoAddress = 6
number_of NoRoom = 7
number_of EarlierTime = 8
number_of NotGateway = 9
number_of BadPart = 10
number_of Clash = 11
number_of NoSlot = 12
number_of NotExpanded = 13
number_of BadGateways = 14
number_of BadBlock = 15
number_of NotCut = 16
number_of BadChecksum = 17
number_of NotHeld = 18
