use Rattle.words.specs.Words.{table_in}
use Rattle.words.proofs.Numbers.{slots-eight}
use Rattle.lift.proofs.Lengths.{answer-half, answers-as}
use Rattle.lift.proofs.lift_receive.Goals as goal

pub pack-requires : goal.pack-requires
pack-requires c = let a = c.args in
    answer-half (table_in a.t.now) a.time a.frame.now a.contexts.now a.mem.now a.out.now (slots-eight a.t.now) _ _ _ c.receive.ensures

pub returns : goal.returns
returns c = let a = c.args in
    answers-as (table_in a.t.now) a.time a.frame.now a.contexts.now a.mem.now a.out.now _ _ _ c.receive.ensures _ c.pack.ensures
