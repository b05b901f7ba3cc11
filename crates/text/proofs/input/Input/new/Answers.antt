use Rattle.std.proofs.Common.{refl, arith}
use Rattle.text.specs.Bytes.{index_of}
use Rattle.text.proofs.input.Input.new.Goals as goal

pub invariant_of-result : goal.invariant_of-result
unfolding index_of
invariant_of-result c = (omega arith, omega arith, omega arith, refl)
