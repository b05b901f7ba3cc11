use Rattle.text.proofs.Waiting.{grows_more}
use Rattle.text.proofs.input.answer_all.Goals as goal

pub loop-preserved : goal.loop-preserved
loop-preserved g c =
    let w = g.W.Write in
    grows_more (w.contents c.args.writer.now) (w.contents c.loop.writer) (w.contents c.turn.new.writer) c.loop.invariant c.in_ok-turn.ensures

pub returns-then-not-branch : goal.returns-then-not-branch
returns-then-not-branch g c =
    let w = g.W.Write in
    grows_more (w.contents c.args.writer.now) (w.contents c.loop.writer) (w.contents c.turn.new.writer) c.loop.invariant c.in_ok-turn.ensures
