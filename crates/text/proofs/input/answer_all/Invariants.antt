use Rattle.text.specs.Waiting.{Grows}
use Rattle.text.proofs.input.answer_all.Given as goal

abbrev pub invariant-loop : goal.invariant-loop
invariant-loop g l = Grows (g.W.Write.contents l.fn.writer) (g.W.Write.contents l.writer)
