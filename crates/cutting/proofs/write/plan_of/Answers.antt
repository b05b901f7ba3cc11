use Rattle.cutting.proofs.WriteLaws.{plan-told}
use Rattle.cutting.proofs.write.plan_of.Goals as goal

pub returns : goal.returns
returns c = plan-told _ _ c.args.h _ _ _ c.requires.h_value c.mac_of.ensures c.buffer_len-mac.ensures c.covers-covers.ensures c.requires.in_bounds.0 c.requires.in_bounds.1 c.requires.in_bounds.2 c.requires.in_bounds.3
