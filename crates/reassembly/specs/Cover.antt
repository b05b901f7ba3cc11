-- Which bytes of a datagram a part has, which parts cover it, and of which parts it is made.
use Rattle.std.specs.Prelude.{ℕ, ◌+◌, ◌*◌, ◌-◌, ◌≤◌, ◌<◌, ◌≡◌, ◌⊎◌, true, List, [], ◌∷◌, length, get_or}
use Rattle.expand.specs.Sum.{holds}
use Rattle.expand.specs.declared.checksum.UdpSum.{UdpSum}
use Rattle.reassembly.specs.Parts.{Part, finish}
use Rattle.reassembly.specs.declared.slot.Key.{Key}

-- a is one of the list
abbrev pub In : {A : Type 0} → A → List A → Type 0
In a [] = ⊥
In a (x ∷ xs) = (a ≡ x) ⊎ In a xs

-- byte x of the datagram is one of p's
abbrev pub Has : Part → ℕ → Type 0
Has p x = (p.unit * 8 ≤ x) × (x < p.unit * 8 + length p.bytes)

-- the parts ps cover a datagram of so many bytes
abbrev pub Covers : ℕ → List Part → Type 0
Covers size ps = (x : ℕ) → x < size → (p : Part) × In p ps × Has p x

-- d was put together from the parts hs, all under k: from d₀, of which every byte is the byte at its place of one of them, with the checksum
-- computed where the part at byte 0 had it elided, and right where that part carried one that is tested
pub record MadeOf (k : Key) (hs : List Part) (d : List ℕ) : Type 0 where
  pub sum : UdpSum
  pub d₀ : List ℕ
  pub made : d ≡ finish sum d₀
  pub right : holds sum d₀ ≡ true
  pub sized : length d₀ ≡ k.size
  pub bounded : k.size ≤ 2047
  pub each : (x : ℕ) → x < k.size → (q : Part) × In q hs × (q.key ≡ k) × Has q x × (get_or d₀ x 0 ≡ get_or q.bytes (x - q.unit * 8) 0)
  pub when : (sum.kind ≡ 0 → ⊥) → (q : Part) × In q hs × (q.unit ≡ 0) × (q.sum ≡ sum)
