use Rattle.octets.proofs.Puts.{puts, written_over}
use Rattle.ieee802154.proofs.WriteSteps.{more-front, length-bytes}
use Rattle.ieee802154.specs.Mac.{bytes_of}
use Rattle.ieee802154.proofs.header.Repr.emit.Goals as goal

pub returns : goal.returns
unfolding bytes_of
returns c = (search puts, search (puts, written_over, length-bytes, more-front))
