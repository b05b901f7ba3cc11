use Rattle.pcap.proofs.Carrying.{place-room, place-put, place_still}
use Rattle.pcap.proofs.going.put_place.Goals as goal

pub put_frame-requires : goal.put_frame-requires
put_frame-requires c = place-room _ _ _ c.count.ensures _ _ _ c.time.ensures c.frame.ensures c.if-k-count.true _ c.requires

pub returns-then-k-count : goal.returns-then-k-count
returns-then-k-count c = place-put _ _ _ c.count.ensures _ _ _ c.time.ensures c.frame.ensures c.if-k-count.true _ _ _ c.put_frame.ensures

pub returns : goal.returns
returns c = place_still _ _ _ c.count.ensures _ _ c.if-k-count.false
