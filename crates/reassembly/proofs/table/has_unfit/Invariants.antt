use mathlib.Core.Path.{◌≡◌}
use lib.ListN.{drop}
use Rattle.reassembly.specs.Lists.{count}
use Rattle.reassembly.specs.Fresh.{unfit}
use Rattle.reassembly.proofs.table.has_unfit.Given as goal

abbrev pub invariant-loop-i : goal.invariant-loop-i
invariant-loop-i l = count (unfit l.seats) l.seats ≡ count (unfit l.seats) (drop l.i l.seats)
