use Rattle.ieee802154.proofs.WriteSteps.{more-field, put-from}
use Rattle.ieee802154.specs.Mac.{back_bytes}
use Rattle.ieee802154.proofs.header.Repr.put_back.Goals as goal

pub returns : goal.returns
unfolding back_bytes
returns c = search (more-field, put-from)
