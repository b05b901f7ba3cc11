-- What reading on does to the input that is read and not answered yet.
use Rattle.std.specs.Prelude.{◌≡◌, ℕ, List, [], ◌++◌, length}
use Rattle.text.specs.declared.input.Filled.{Filled}

-- bytes come behind it; or it is a line that fills the room, and forgotten; or nothing is left
abbrev pub FilledTo : Filled → List ℕ → List ℕ → Type 0
FilledTo Filled.More old new = (t : List ℕ) × (new ≡ old ++ t)
FilledTo Filled.Full old new = (new ≡ []) × (length old ≡ 65536)
FilledTo Filled.End old new = (new ≡ []) × (old ≡ [])
