use Rattle.lift.proofs.Sending.{counted-low, count-told}
use Rattle.lift.proofs.send.lift_frames.Goals as goal

pub pack_answer-requires : goal.pack_answer-requires
pack_answer-requires c = counted-low _ _ _ c.frames.ensures

pub returns : goal.returns
returns c = count-told _ _ _ _ _ c.link_of.ensures c.frames.ensures c.pack_answer.ensures
