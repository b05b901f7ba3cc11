use Rattle.std.proofs.Common.{arith}
use Rattle.text.proofs.Fields.{is-letter, is-decimal, is-stray}
use Rattle.text.proofs.field.nibble.Goals as goal

pub returns-then-letter-lt6 : goal.returns-then-letter-lt6
returns-then-letter-lt6 c = is-letter c.args.b (omega arith) (omega arith)

pub returns-then-decimal-lt10 : goal.returns-then-decimal-lt10
returns-then-decimal-lt10 c = is-decimal c.args.b (omega arith) (omega arith) (omega arith)

pub returns-else-decimal-lt10 : goal.returns-else-decimal-lt10
returns-else-decimal-lt10 c = is-stray c.args.b (omega arith) (omega arith) (omega arith)
