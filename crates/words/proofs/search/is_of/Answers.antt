use mathlib.Core.Path.{◌∙◌}
use Rattle.reassembly.proofs.Tests.{and_same, and-differs}
use Rattle.words.proofs.Keys.{of_is}
use Rattle.words.proofs.search.is_of.Goals as goal

pub returns-then-t-k-eq1 : goal.returns-then-t-k-eq1
returns-then-t-k-eq1 c = and_same _ 1 _ c.if-t-k-eq1.true c.is_source.ensures ∙ of_is c.args.t.now c.args.i c.requires c.args.g

pub returns-else-t-k-eq1 : goal.returns-else-t-k-eq1
returns-else-t-k-eq1 c = and-differs _ 1 _ c.if-t-k-eq1.false ∙ of_is c.args.t.now c.args.i c.requires c.args.g
