use Rattle.octets.proofs.Puts.{stored-put}
use Rattle.words.specs.Words.{source_words}
use Rattle.words.proofs.write.put_source.Goals as goal

pub returns : goal.returns
unfolding source_words
returns c = stored-put c.args.k (source_words c.args.s) c.args.t.now
