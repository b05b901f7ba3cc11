-- A cutting of a datagram (the scope document, "Expansion and the slot table"): the parts that a sender makes of it.
use Rattle.std.specs.Prelude.{ℕ, ◌+◌, ◌*◌, ◌-◌, ◌≡◌, true, List, length, get_or, set}
use Rattle.octets.specs.Read.{choose}
use Rattle.expand.specs.Sum.{was_elided, holds}
use Rattle.expand.specs.declared.checksum.UdpSum.{UdpSum}
use Rattle.reassembly.specs.Parts.{Part, fits, finish}
use Rattle.reassembly.specs.Cover.{In, Has, Covers}
use Rattle.reassembly.specs.declared.slot.Key.{Key}

-- the datagram, with 0 in its checksum's place where the checksum is elided
unfoldable pub zeroed : UdpSum → List ℕ → List ℕ
zeroed m d = choose (was_elided m) (set (set d (m.udp + 6) 0) (m.udp + 7) 0) d

-- A cutting of the datagram d under the key k.
pub record Cutting (k : Key) (d : List ℕ) : Type 0 where
  -- "a set of parts", and what is remembered of the checksum: nothing, or elided or carried, and where it stands
  pub parts : List Part
  pub sum : UdpSum
  -- the key's size is the datagram's length
  pub sized : length d ≡ k.size
  -- they come under the key, and "pass every check up to 10"
  pub keyed : (p : Part) → In p parts → p.key ≡ k
  pub pass10 : (p : Part) → In p parts → fits p ≡ true
  -- "one for each place [..] without overlap": two that share a byte are one
  pub apart : (p q : Part) → In p parts → In q parts → (x : ℕ) → Has p x → Has q x → p ≡ q
  -- they "fill it"
  pub fill : Covers k.size parts
  -- "whose bytes are the datagram's at their place (an elided checksum is 0 there"
  pub bytes : (p : Part) → In p parts → (x : ℕ) → Has p x → get_or p.bytes (x - p.unit * 8) 0 ≡ get_or (zeroed sum d) x 0
  -- "its checksum elided or carried as before", whenever the part at byte 0 comes
  pub flag : (p : Part) → In p parts → p.unit ≡ 0 → p.sum ≡ sum
  -- "and the datagram's must then be the computed one)"
  pub summed : finish sum (zeroed sum d) ≡ d
  -- the change requests, item 7: "a carried checksum so tested is right"
  pub right : holds sum (zeroed sum d) ≡ true
