-- What the contract of `fail` cites. An `abbrev`, so that a caller's proof can use what it says.
use Rattle.std.specs.Prelude.{ℕ, List, [], ◌∷◌, ◌++◌}
use Rattle.std.specs.Io.KnownBytes.{Appends}
use Rattle.std.specs.declared.option.Option.{Option}

-- known bytes grow by a line: what failed, a colon and a blank, a text, and a line feed
abbrev pub AppendsLine : Option (List ℕ) → Option (List ℕ) → List ℕ → Type 0
AppendsLine old new what = (text : List ℕ) × Appends old new (((what ++ 58 ∷ 32 ∷ []) ++ text) ++ 10 ∷ [])
