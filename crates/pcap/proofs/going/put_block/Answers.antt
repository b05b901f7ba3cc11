use Rattle.pcap.proofs.Carrying.{block_room, block-put, length-put}
use mathlib.Core.Path.{ap, ◌∙◌}
use lib.ListN.{length}
use native.Mathlib.Omega.{arith}
use Rattle.pcap.proofs.going.put_block.Goals as goal

pub put_place-a-requires : goal.put_place-a-requires
put_place-a-requires c = let r = block_room _ _ _ c.requires in omega arith

pub put_place-b-requires : goal.put_place-b-requires
put_place-b-requires c = let r = block_room _ _ _ c.requires in let e = c.put_place-a.ensures.0 in let l = ap length c.put_place-a.ensures.1 ∙ length-put _ _ _ in omega arith

pub put_place-requires : goal.put_place-requires
put_place-requires c = let r = block_room _ _ _ c.requires in let e = c.put_place-a.ensures.0 in let l = ap length c.put_place-a.ensures.1 ∙ length-put _ _ _ in let f = c.put_place-b.ensures.0 in let m = ap length c.put_place-b.ensures.1 ∙ length-put _ _ _ in omega arith

pub returns : goal.returns
returns c = block-put _ _ _ _ _ _ _ _ _ c.put_place-a.ensures c.put_place-b.ensures c.put_place.ensures
