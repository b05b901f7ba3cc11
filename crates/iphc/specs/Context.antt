-- Address contexts (RFC 6282, 3.1.2): prefixes of 64 bits, lent as flat bytes, 8 for each identifier from 0 on; a shorter rest is ignored.
use Rattle.std.specs.Prelude.{ℕ, ◌*◌, List}
use Rattle.octets.specs.Read.{Answer, is, refused, Read, be64}

-- what is read, with no place; a field that is not there is a context that is not in the list, 5
abbrev pub listed : Read ℕ → Answer ℕ
listed (is p) = is p.value
listed (refused n) = refused 5

-- the prefix of an identifier
unfoldable pub context_at : List ℕ → ℕ → Answer ℕ
context_at contexts id = listed (be64 contexts (id * 8))
