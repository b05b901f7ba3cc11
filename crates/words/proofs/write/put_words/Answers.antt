use Rattle.words.proofs.Stores.{slot-stored}
use Rattle.words.proofs.write.put_words.Goals as goal

pub returns : goal.returns
returns c = slot-stored c.args.k c.args.s c.args.t.now c.put_source.new.t c.put_head.new.t c.put_four.new.t c.put_four-2.new.t c.put_source.ensures c.put_head.ensures c.put_four.ensures c.put_four-2.ensures
