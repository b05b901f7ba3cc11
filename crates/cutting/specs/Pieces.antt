-- How a datagram is cut (RFC 4944, 5.3): by numbers alone. Every part but the last is a multiple of 8 octets long, as long as the limit allows;
-- the last may fill the room.
use Rattle.std.specs.Prelude.{ℕ, zero, suc, ◌+◌, ◌-◌, ◌*◌, ◌/◌, ◌≤◌, List, [], ◌∷◌, leb}
use Rattle.octets.specs.Read.{Answer, is, refused, choose}
use Rattle.cutting.specs.declared.piece.Plan.{Plan}
use Rattle.cutting.specs.declared.piece.Piece.{Piece}
use Rattle.cutting.specs.declared.piece.Piece.TheVariants.{Whole, First, Later}

-- whole units of 8 octets in a room
abbrev pub units : ℕ → ℕ
units room = room / 8 * 8

-- the part from a place on: the rest where the room holds it, else whole units
unfoldable pub piece_from : ℕ → ℕ → ℕ → Piece
piece_from room size at = Later at (choose (leb (size - at) room) (size - at) (units room))

-- the parts behind the first, from a place on; at most `fuel`, of which `size` are enough
unfoldable pub later_pieces : ℕ → ℕ → ℕ → ℕ → List Piece
later_pieces room size zero at = []
later_pieces room size (suc fuel) at =
    choose (leb (size - at) room) (piece_from room size at ∷ [])
    (piece_from room size at ∷ later_pieces room size fuel (at + units room))

-- a first part's fragment header has 4 bytes, any other's 5
unfoldable pub whole_length : Plan → ℕ
whole_length p = p.mac + (p.head + (p.size - p.covers))

unfoldable pub first_part : Plan → ℕ
first_part p = units (p.limit - (p.mac + (4 + p.head)))

unfoldable pub later_room : Plan → ℕ
later_room p = p.limit - (p.mac + 5)

unfoldable pub pieces : Plan → List Piece
pieces p =
    choose (leb (whole_length p) p.limit) (Whole ∷ [])
    (First (first_part p) ∷ later_pieces (later_room p) p.size p.size (p.covers + first_part p))

-- the element of a number, from 0; 10 past the last
abbrev pub nth : {A : Type 0} → List A → ℕ → Answer A
nth [] k = refused 10
nth (x ∷ xs) zero = is x
nth (x ∷ xs) (suc k) = nth xs k

-- what holds of the plan of a datagram that is cut
pub record Sane (p : Plan) : Type 0 where
  pub mac : p.mac ≤ 23
  pub head : p.head ≤ 43
  pub covers : p.covers ≤ p.size
  pub size : p.size ≤ 2047
  pub low : 80 ≤ p.limit
  pub high : p.limit ≤ 127
