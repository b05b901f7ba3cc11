use mathlib.Core.Path.{◌≡◌}
use Rattle.words.specs.Words.{table_in}
use Rattle.words.proofs.Ages.{aged_slots}
use Rattle.words.proofs.write.age.Given as goal

abbrev pub invariant-loop-i : goal.invariant-loop-i
invariant-loop-i l = table_in l.t ≡ aged_slots (table_in l.initial.t) l.time l.i
