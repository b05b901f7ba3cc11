use Rattle.std.proofs.Common.{◌+◌, Bool, cond, sym, ap, le-ltb, lt-ltb}
use Rattle.text.proofs.print.glyph.Goals as goal

pub returns-then-d-lt10 : goal.returns-then-d-lt10
returns-then-d-lt10 c = let d = c.args.d in ap (λ (t : Bool). cond t (48 + d) (87 + d)) (sym (lt-ltb d 10 c.if-d-lt10.true))

pub returns-else-d-lt10 : goal.returns-else-d-lt10
returns-else-d-lt10 c = let d = c.args.d in ap (λ (t : Bool). cond t (48 + d) (87 + d)) (sym (le-ltb d 10 c.if-d-lt10.false))
