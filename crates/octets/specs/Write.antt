-- What a writer writes: a number's bytes; and where a header's bytes go in the lent room.
use Rattle.std.specs.Prelude.{ℕ, ◌+◌, ◌/◌, ◌%◌, ◌^◌, ◌≡◌, List, [], ◌∷◌, ◌++◌, length, set, drop, leb, Result}
use Rattle.octets.specs.Read.{Answer, is, refused, choose}
use Rattle.octets.specs.Answers.{of_answer}
use Rattle.octets.specs.declared.refusal.Refusal.{Refusal}

-- bs put into the room from a place on; what lies past the end is dropped
unfoldable pub put : ℕ → List ℕ → List ℕ → List ℕ
put at [] room = room
put at (b ∷ bs) room = put (at + 1) bs (set room at b)

-- ---- a number's bytes: the high one first, or the low one first
unfoldable pub byte_bytes : ℕ → List ℕ
byte_bytes x = x ∷ []

unfoldable pub be16_bytes : ℕ → List ℕ
be16_bytes x = x / 256 ∷ x % 256 ∷ []

unfoldable pub be32_bytes : ℕ → List ℕ
be32_bytes x = be16_bytes (x / 2 ^ 16) ++ be16_bytes (x % 2 ^ 16)

unfoldable pub be64_bytes : ℕ → List ℕ
be64_bytes x = be32_bytes (x / 2 ^ 32) ++ be32_bytes (x % 2 ^ 32)

unfoldable pub le16_bytes : ℕ → List ℕ
le16_bytes x = x % 256 ∷ x / 256 ∷ []

unfoldable pub le32_bytes : ℕ → List ℕ
le32_bytes x = le16_bytes (x % 2 ^ 16) ++ le16_bytes (x / 2 ^ 16)

unfoldable pub le64_bytes : ℕ → List ℕ
le64_bytes x = le32_bytes (x % 2 ^ 32) ++ le32_bytes (x / 2 ^ 32)

-- ---- a writer of n bytes: refused, 7, exactly where the room is below n; else it answers n
abbrev pub wrote : ℕ → List ℕ → Answer ℕ
wrote n room = choose (leb n (length room)) (is n) (refused 7)

-- the room afterwards: the n bytes bs at its front and the rest as it was, or all as it was
abbrev pub over : ℕ → List ℕ → List ℕ → List ℕ
over n bs room = choose (leb n (length room)) (bs ++ drop n room) room

-- the answer of a writer of the n bytes bs, and the room after it
abbrev pub Emits : Result ℕ Refusal → ℕ → List ℕ → List ℕ → List ℕ → Type 0
Emits r n bs room after = (of_answer r ≡ wrote n room) × (after ≡ over n bs room)
