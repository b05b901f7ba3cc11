use Rattle.octets.proofs.Puts.{told}
use Rattle.ieee802154.proofs.WriteSteps.{word-told, put-told, put-told-not}
use Rattle.ieee802154.specs.Mac.{front_bytes}
use Rattle.ieee802154.proofs.header.Repr.put_front.Goals as goal

pub returns-then-suppresses : goal.returns-then-suppresses
unfolding front_bytes
returns-then-suppresses c = search (told, word-told, put-told)

pub returns : goal.returns
unfolding front_bytes
returns c = search (told, word-told, put-told-not)
