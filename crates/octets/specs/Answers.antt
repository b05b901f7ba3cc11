-- What an answer of the code means: the value, with the place after it where it was read, or the paper's number.
use Rattle.std.specs.Prelude.{ℕ, Result, Ok, Err}
use Rattle.octets.specs.Read.{Answer, is, Read, got, refused}
use Rattle.octets.specs.Refusal.{number_of}
use Rattle.octets.specs.declared.refusal.Refusal.{Refusal}
use Rattle.octets.specs.declared.cursor.Cursor.{Cursor}

abbrev pub of_answer : {A : Type 0} → Result A Refusal → Answer A
of_answer (Ok a) = is a
of_answer (Err e) = refused (number_of e)

-- a value and the place after it
abbrev pub of_read : {A : Type 0} → Result (A × Cursor) Refusal → Read A
of_read (Ok p) = got p.0 p.1.at
of_read (Err e) = refused (number_of e)

-- the place after what was passed over
abbrev pub of_skip : Result Cursor Refusal → Read (Unit {0})
of_skip (Ok c) = got tt c.at
of_skip (Err e) = refused (number_of e)
