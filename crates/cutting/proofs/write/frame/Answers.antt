use Rattle.cutting.proofs.WriteLaws.{not-in-range}
use Rattle.cutting.proofs.write.frame.Goals as goal

pub returns-then-not-in_range : goal.returns-then-not-in_range
returns-then-not-in_range c = not-in-range _ _ _ _ _ c.in_range.ensures c.if-not-in_range.true
