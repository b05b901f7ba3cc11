use Rattle.words.proofs.Keys.{free-is}
use Rattle.words.proofs.search.is_free.Goals as goal

pub returns : goal.returns
returns c = free-is c.args.t.now c.args.i c.requires
