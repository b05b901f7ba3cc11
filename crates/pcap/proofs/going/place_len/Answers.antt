use Rattle.pcap.proofs.Carrying.{used-length, none-length}
use Rattle.pcap.proofs.going.place_len.Goals as goal

pub returns-then-k-count : goal.returns-then-k-count
returns-then-k-count c = used-length _ _ _ c.count.ensures _ c.if-k-count.true c.frame.ensures

pub returns : goal.returns
returns c = none-length _ _ _ c.count.ensures c.if-k-count.false
