use Prim.Native.Nat.{◌≤◌, ◌+◌}
use mathlib.Core.Path.{◌≡◌}
use lib.ListN.{drop}
use Rattle.reassembly.specs.Lists.{count}
use Rattle.reassembly.specs.Slots.{same_source}
use Rattle.reassembly.proofs.table.count_seats.Given as goal

abbrev pub invariant-loop-i : goal.invariant-loop-i
invariant-loop-i l = (l.n ≤ l.i) × (count (same_source l.g) l.seats ≡ l.n + count (same_source l.g) (drop l.i l.seats))
