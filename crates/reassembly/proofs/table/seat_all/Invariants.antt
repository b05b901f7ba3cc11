use mathlib.Core.Path.{◌≡◌}
use Rattle.reassembly.specs.Fresh.{seats, sources}
use Rattle.reassembly.proofs.table.seat_all.Given as goal

abbrev pub invariant-loop-i : goal.invariant-loop-i
invariant-loop-i l = l.all ≡ seats (sources l.i l.gateways)
