use Rattle.octets.proofs.Steps.{if-le}
use Rattle.octets.proofs.Puts.{written_over}
use Rattle.ieee802154.proofs.WriteSteps.{length-le16}
use Rattle.ieee802154.proofs.addr.Pan.emit_bytes.Goals as goal

pub returns : goal.returns
returns c = (search if-le, search (written_over, length-le16))
