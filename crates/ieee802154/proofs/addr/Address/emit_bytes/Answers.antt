use Rattle.octets.proofs.Puts.{puts, written_over}
use Rattle.ieee802154.proofs.WriteSteps.{length-address}
use Rattle.ieee802154.proofs.addr.Address.emit_bytes.Goals as goal

pub returns : goal.returns
returns c = (search puts, search (puts, written_over, length-address))
