use Prim.Native.Nat.{◌≤◌, ◌+◌}
use mathlib.Core.Path.{◌≡◌}
use lib.ListN.{drop}
use Rattle.reassembly.specs.Lists.{count}
use Rattle.words.specs.Words.{idle_seat, table_in}
use Rattle.words.proofs.search.count_idle_others.Given as goal

abbrev pub invariant-loop-i : goal.invariant-loop-i
invariant-loop-i l = (l.n ≤ l.i) × (count (idle_seat (table_in l.t).slots l.g) (table_in l.t).gateways ≡ l.n + count (idle_seat (table_in l.t).slots l.g) (drop l.i (table_in l.t).gateways))
