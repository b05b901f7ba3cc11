use Rattle.lift.proofs.lift_held.Goals as goal

pub returns : goal.returns
returns c = rw c.gateway_of-g.ensures at (rw c.of.ensures at c.count_held.ensures)
