use Rattle.lift.proofs.Sending.{written_low, cut-told}
use Rattle.lift.proofs.send.lift_cut.Goals as goal

pub pack_answer-requires : goal.pack_answer-requires
pack_answer-requires c = written_low _ _ _ c.args.out.now _ c.frame.ensures.0

pub returns : goal.returns
returns c = cut-told _ _ _ _ _ _ _ _ c.link_of.ensures c.frame.ensures.0 c.frame.ensures.1 c.pack_answer.ensures
