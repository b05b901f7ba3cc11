-- The payload lengths are put from the last place to the first.
use mathlib.Core.Path.{◌≡◌}
use lib.ListN.{take}
use Rattle.expand.specs.Walk.{patches}
use Rattle.expand.proofs.chain.put_lengths.Given as goal

abbrev pub invariant-loop-i : goal.invariant-loop-i
invariant-loop-i l = patches l.total (take l.count l.places) l.initial.out ≡ patches l.total (take l.i l.places) l.out
