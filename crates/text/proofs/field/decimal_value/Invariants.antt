use Rattle.std.proofs.Common.{◌≡◌, ◌-◌, length, drop}
use Rattle.text.specs.Fields.{decimal_of}
use Rattle.text.proofs.field.decimal_value.Given as goal

abbrev pub invariant-loop-b : goal.invariant-loop-b
invariant-loop-b l = decimal_of l.value (drop l.b-index l.s) l.end ≡ decimal_of 0 l.s l.end
