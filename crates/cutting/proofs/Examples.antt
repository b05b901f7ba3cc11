-- A cutting worked out: 257 bytes, short addresses, a compressed header of 11 bytes for 48, frames of at most 127: they have 120 and 127.
use mathlib.Core.List.{[], ◌∷◌}
use mathlib.Core.Path.{◌≡◌, refl}
use Rattle.cutting.specs.Pieces.{piece_from, later_pieces, whole_length, first_part, later_room, pieces}
use Rattle.cutting.specs.declared.piece.Piece.TheVariants.{Whole, First, Later}

-- 9 + 4 + 11 + 96 and 9 + 5 + 113
pub last-fills : pieces (record { mac = 9; head = 11; covers = 48; size = 257; limit = 127 }) ≡ First 96 ∷ Later 144 113 ∷ []
unfolding pieces whole_length first_part later_room later_pieces piece_from
last-fills = refl

-- one byte more: the last part would not fit, so it is cut at whole units
pub one_more : pieces (record { mac = 9; head = 11; covers = 48; size = 258; limit = 127 }) ≡ First 96 ∷ Later 144 112 ∷ Later 256 2 ∷ []
unfolding pieces whole_length first_part later_room later_pieces piece_from
one_more = refl

-- one frame suffices: 9 + 11 + 107
pub one-frame : pieces (record { mac = 9; head = 11; covers = 48; size = 155; limit = 127 }) ≡ Whole ∷ []
unfolding pieces whole_length
one-frame = refl
