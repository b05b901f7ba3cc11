use Rattle.listen.specs.Lines.{width_in, decimal}
use Rattle.listen.proofs.line.put_bad.Goals as goal

pub returns : goal.returns
unfolding width_in decimal
returns c = c.put_one.ensures
