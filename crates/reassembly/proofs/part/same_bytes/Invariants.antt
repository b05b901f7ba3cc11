use mathlib.Core.Path.{◌≡◌}
use lib.ListN.{drop}
use Rattle.reassembly.specs.Lists.{same_list}
use Rattle.reassembly.proofs.part.same_bytes.Given as goal

abbrev pub invariant-loop-i : goal.invariant-loop-i
invariant-loop-i l = same_list l.a l.b ≡ same_list (drop l.i l.a) (drop l.i l.b)
