use Rattle.words.proofs.Numbers.{slot_read}
use Rattle.words.proofs.read.slot_from.Goals as goal

pub returns : goal.returns
returns c = slot_read c.args.t.now c.args.k c.source_at.result c.key_of.result c.four_at.result c.four_at-2.result c.sum_of.result c.source_at.ensures c.key_of.ensures c.four_at.ensures c.four_at-2.ensures c.sum_of.ensures
