use Rattle.octets.proofs.Puts.{stored-put}
use Rattle.words.specs.Words.{four_in}
use Rattle.words.proofs.write.put_four.Goals as goal

pub returns : goal.returns
unfolding four_in
returns c = stored-put c.args.k (four_in c.args.v 0) c.args.t.now
