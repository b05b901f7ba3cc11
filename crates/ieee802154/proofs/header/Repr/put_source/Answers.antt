use Rattle.octets.proofs.Puts.{puts, told}
use Rattle.ieee802154.specs.Mac.{source_bytes}
use Rattle.ieee802154.proofs.header.Repr.put_source.Goals as goal

pub returns-then-buf-at : goal.returns-then-buf-at
unfolding source_bytes
returns-then-buf-at c = search (puts, told)

pub returns : goal.returns
unfolding source_bytes
returns c = search (puts, told)
