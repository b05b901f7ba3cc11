use mathlib.Core.Path.{sym, ◌∙◌}
use Rattle.reassembly.specs.Slots.{no_source}
use Rattle.words.proofs.Numbers.{seat-is}
use Rattle.words.proofs.search.gateway_at.Goals as goal

pub returns : goal.returns
returns c = c.source_at.ensures ∙ sym (seat-is c.args.t.now c.args.i no_source c.requires)
