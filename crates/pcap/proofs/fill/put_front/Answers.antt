use Rattle.pcap.proofs.Filling.{front-put}
use Rattle.pcap.proofs.fill.put_front.Goals as goal

pub returns : goal.returns
returns c = front-put _ _ _ _ _ _ _ c.put_le32.ensures c.put_byte.ensures c.put_byte-2.ensures
