use mathlib.Core.Path.{◌∙◌}
use Rattle.words.proofs.Ages.{age-young, age-old}
use Rattle.words.proofs.write.age_slot.Goals as goal

pub returns-then-is_expired : goal.returns-then-is_expired
returns-then-is_expired c = c.put_slot.ensures ∙ age-old c.args.t.now c.args.i c.requires c.args.time c.is_expired.result c.is_expired.ensures c.if-is_expired.true c.free.result c.free.ensures

pub returns-else-is_expired : goal.returns-else-is_expired
returns-else-is_expired c = age-young c.args.t.now c.args.i c.requires c.args.time c.is_expired.result c.is_expired.ensures c.if-is_expired.false
