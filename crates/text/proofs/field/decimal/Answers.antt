use Rattle.std.proofs.Common.{arith}
use Rattle.text.proofs.Fields.{end-within}
use Rattle.text.proofs.field.decimal.Goals as goal

pub slice_bounds-decimal_value-end : goal.slice_bounds-decimal_value-end
slice_bounds-decimal_value-end c = let a = c.args in end-within a.line.now a.from c.find-end.result c.find-end.ensures (omega arith)
