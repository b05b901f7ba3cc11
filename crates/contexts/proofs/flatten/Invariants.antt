use Rattle.std.proofs.Common.{◌≡◌}
use Rattle.contexts.specs.Slice.{laid_to}
use Rattle.contexts.proofs.flatten.Given as goal

abbrev pub invariant-loop-id : goal.invariant-loop-id
invariant-loop-id l = l.f ≡ laid_to l.contexts l.id
