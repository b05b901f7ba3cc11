-- What the contract of `close` cites. An `abbrev`, so that a caller's proof can use what it says. Assumes nothing.
use Rattle.std.specs.Prelude.{◌≡◌, ℤ, pos, negsuc}

-- what a call that succeeds or fails may answer: 0, or -1
abbrev pub Status : ℤ → Type 0
Status (pos k) = k ≡ 0
Status (negsuc k) = k ≡ 0
