use Rattle.std.proofs.Common.{◌≡◌, ◌-◌, eqb, length, drop}
use Rattle.text.specs.Fields.{hex_of, strays}
use Rattle.text.proofs.Fields.{uncounted}
use Rattle.text.proofs.field.value.Given as goal

abbrev pub invariant-loop-b : goal.invariant-loop-b
invariant-loop-b l = (hex_of l.value (drop l.b-index l.s) ≡ hex_of 0 l.s) × (eqb (uncounted l.worst (strays (drop l.b-index l.s))) 0 ≡ eqb (strays l.s) 0)
