use mathlib.Core.Path.{◌∙◌}
use Rattle.pcap.proofs.Carrying.{judged-good}
use Rattle.pcap.proofs.going.is_good.Goals as goal

pub returns : goal.returns
returns c = c.is_ok.ensures.value ∙ judged-good c.judge.result _ _ c.judge.ensures
