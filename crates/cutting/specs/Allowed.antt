-- Every cutting that the limit and the headers of a plan allow (RFC 4944, 5.3): the parts tile the datagram, each but the last is a multiple of
-- 8 octets long, and no frame is longer than the limit.
use Rattle.std.specs.Prelude.{ℕ, ◌+◌, ◌%◌, ◌≤◌, List, [], ◌∷◌, ◌≡◌}
use Rattle.cutting.specs.Pieces.{whole_length}
use Rattle.cutting.specs.declared.piece.Plan.{Plan}
use Rattle.cutting.specs.declared.piece.Piece.{Piece}
use Rattle.cutting.specs.declared.piece.Piece.TheVariants.{Whole, First, Later}

-- the parts from a place on, behind the first one
pub data Behind (p : Plan) : ℕ → List Piece → Type 0 where
  last : {at n : ℕ} → p.mac + (5 + n) ≤ p.limit → at + n ≡ p.size → Behind p at (Later at n ∷ [])
  more : {at n : ℕ} {ps : List Piece} → p.mac + (5 + n) ≤ p.limit → n % 8 ≡ 0 → Behind p (at + n) ps → Behind p at (Later at n ∷ ps)

-- in one frame, as one fragment, or in several
pub data Allowed (p : Plan) : List Piece → Type 0 where
  whole : whole_length p ≤ p.limit → Allowed p (Whole ∷ [])
  alone : {n : ℕ} → p.mac + (4 + (p.head + n)) ≤ p.limit → p.covers + n ≡ p.size → Allowed p (First n ∷ [])
  several : {n : ℕ} {ps : List Piece} → p.mac + (4 + (p.head + n)) ≤ p.limit → n % 8 ≡ 0 → Behind p (p.covers + n) ps → Allowed p (First n ∷ ps)
