use Prim.Native.Nat.{◌≤◌, ◌+◌}
use mathlib.Core.Path.{◌≡◌}
use lib.ListN.{drop}
use Rattle.reassembly.specs.Lists.{count}
use Rattle.reassembly.specs.Slots.{is_free}
use Rattle.words.specs.Words.{table_in}
use Rattle.words.proofs.search.count_free.Given as goal

abbrev pub invariant-loop-i : goal.invariant-loop-i
invariant-loop-i l = (l.n ≤ l.i) × (count (is_free) (table_in l.t).slots ≡ l.n + count (is_free) (drop l.i (table_in l.t).slots))
