use Rattle.reassembly.proofs.Parts.{full_is}
use Rattle.reassembly.proofs.part.is_full.Goals as goal

pub returns : goal.returns
returns c = full_is _ _ _ c.units_of.ensures.0 c.has_mark.ensures
