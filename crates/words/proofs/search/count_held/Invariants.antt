use Prim.Native.Nat.{◌≤◌, ◌+◌}
use mathlib.Core.Path.{◌≡◌}
use lib.ListN.{drop}
use Rattle.reassembly.specs.Lists.{count}
use Rattle.reassembly.specs.Slots.{is_of}
use Rattle.words.specs.Words.{table_in}
use Rattle.words.proofs.search.count_held.Given as goal

abbrev pub invariant-loop-i : goal.invariant-loop-i
invariant-loop-i l = (l.n ≤ l.i) × (count (is_of l.g) (table_in l.t).slots ≡ l.n + count (is_of l.g) (drop l.i (table_in l.t).slots))
