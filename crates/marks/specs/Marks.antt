-- A mark for each of 256 units, one bit a unit, 64 units a word, the lowest first: the list of marks that four words stand for, and back.
use Rattle.std.specs.Prelude.{ℕ, zero, suc, ◌+◌, ◌-◌, ◌*◌, ◌/◌, ◌%◌, Bool, true, false, List, [], ◌∷◌, ◌++◌, take, drop, get_or, set, eqb}
use Rattle.octets.specs.Read.{choose}

-- ---- marks as a list; a unit past the last has no mark
abbrev pub same : Bool → Bool → Bool
same true true = true
same true false = false
same false true = false
same false false = true

-- whether one of the n marks from unit u on is b
unfoldable pub has_in : Bool → List Bool → ℕ → ℕ → Bool
has_in b l u zero = false
has_in b l u (suc n) = choose (same (get_or l u false) b) true (has_in b l (suc u) n)

-- the n marks from unit u on are set
unfoldable pub fill : ℕ → ℕ → List Bool → List Bool
fill u zero l = l
fill u (suc n) l = set (fill u n l) (u + n) true

-- ---- words
-- the k low digits of a word
unfoldable pub bits : ℕ → ℕ → List Bool
bits zero w = []
bits (suc k) w = eqb (w % 2) 1 ∷ bits k (w / 2)

unfoldable pub unpack : List ℕ → List Bool
unpack [] = []
unpack (w ∷ ws) = bits 64 w ++ unpack ws

abbrev pub one : Bool → ℕ
one true = 1
one false = 0

-- the word that has these digits
unfoldable pub val : List Bool → ℕ
val [] = 0
val (b ∷ l) = val l * 2 + one b

unfoldable pub packs : ℕ → List Bool → List ℕ
packs zero l = []
packs (suc n) l = val (take 64 l) ∷ packs n (drop 64 l)

unfoldable pub pack : List Bool → List ℕ
pack l = packs 4 l

-- a unit's place in the word that begins at base: 0 before it, 64 past it
unfoldable pub within : ℕ → ℕ → ℕ
within base u = u - base - (u - base - 64)
