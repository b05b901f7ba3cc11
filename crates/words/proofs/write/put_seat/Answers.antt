use mathlib.Core.Path.{refl, ap, ◌∙◌}
use Rattle.words.specs.Words.{table_in, with_seat, source_words}
use Rattle.words.proofs.Numbers.{table-seat, source-back}
use Rattle.words.proofs.write.put_seat.Goals as goal

pub returns : goal.returns
unfolding source_words
returns c = ap table_in c.put_source.ensures ∙ table-seat c.args.t.now c.told-t (source_words c.args.s) refl c.args.i c.requires ∙ ap (with_seat (table_in c.args.t.now) c.args.i) (source-back c.args.s)
