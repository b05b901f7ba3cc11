-- A slice of address contexts, and the flat bytes that it means.
use Rattle.std.specs.Prelude.{ℕ, zero, suc, ◌+◌, List, [], ◌∷◌, ◌++◌, length, get_or, take, replicate, ltb, leb}
use Rattle.octets.specs.Read.{choose}
use Rattle.octets.specs.Write.{put}
use Rattle.iphc.specs.declared.context.AddressContext.{AddressContext}
use Rattle.contexts.specs.declared.Flat.{Flat}

-- ---- what it means: 8 bytes each, in order
unfoldable pub eight : List ℕ → List ℕ
eight c = get_or c 0 0 ∷ get_or c 1 0 ∷ get_or c 2 0 ∷ get_or c 3 0 ∷ get_or c 4 0 ∷ get_or c 5 0 ∷ get_or c 6 0 ∷ get_or c 7 0 ∷ []

unfoldable pub flat : List AddressContext → List ℕ
flat [] = []
flat (c ∷ l) = eight c.0 ++ flat l

-- an identifier has four bits (RFC 6282, 3.1.2), so that no more than sixteen contexts can be meant
unfoldable pub listed : List AddressContext → List ℕ
listed cs = flat (take 16 cs)

-- ---- how it is laid flat: context after context
unfoldable pub empty : Flat
empty = record { bytes = replicate 128 0; len = 0 }

-- one more context, while there is room
unfoldable pub appended : List ℕ → Flat → Flat
appended c f = choose (leb f.len 120) (record { bytes = put f.len (eight c) f.bytes; len = f.len + 8 }) f

abbrev pub none : AddressContext
none = record { 0 = replicate 8 0 }

-- with context i, where the list is long enough to hold it
unfoldable pub with_at : List AddressContext → ℕ → Flat → Flat
with_at cs i f = choose (ltb i (length cs)) (appended (get_or cs i none).0 f) f

-- the first n
unfoldable pub laid_to : List AddressContext → ℕ → Flat
laid_to cs zero = empty
laid_to cs (suc n) = with_at cs n (laid_to cs n)

unfoldable pub bytes_of : Flat → List ℕ
bytes_of f = take f.len f.bytes
