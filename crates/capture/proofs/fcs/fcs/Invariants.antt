use mathlib.Core.Path.{◌≡◌}
use lib.ListN.{drop}
use Rattle.capture.specs.Fcs.{fcs_from}
use Rattle.capture.proofs.fcs.fcs.Given as goal

abbrev pub invariant-loop-b : goal.invariant-loop-b
invariant-loop-b l = fcs_from l.r (drop l.b-index l.s) ≡ fcs_from 0 l.s
