use Prim.Native.Nat.{◌+◌, ◌-◌}
use mathlib.Core.Path.{◌≡◌}
use native.Mathlib.Omega.{arith}
use Rattle.reassembly.specs.Parts.{units}
use Rattle.reassembly.proofs.part.is_touching.Goals as goal

pub returns : goal.returns
returns c =
    let a = c.args in
    let n : a.offset.0 + c.units_of.result - a.offset.0 ≡ units a.n = omega (arith, c.units_of.ensures.0) in
    rw (← n) c.has_mark.ensures
