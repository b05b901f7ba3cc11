use Prim.Native.Nat.{◌+◌, ◌-◌}
use mathlib.Core.Path.{◌≡◌}
use native.Mathlib.Omega.{arith}
use Rattle.marks.specs.Marks.{pack, fill, unpack}
use Rattle.reassembly.specs.Parts.{taken_in, units}
use Rattle.reassembly.proofs.part.with_part.Goals as goal

pub returns : goal.returns
unfolding taken_in
returns c =
    let b = c in
    let a = c.args in
    let u = a.part.offset.0 in
    let n : u + b.units_of.result - u ≡ units a.n = omega (arith, b.units_of.ensures.0) in
    let x : b.mark.result ≡ pack (fill u (units a.n) (unpack a.s.covered)) = rw n at b.mark.ensures in
    rw (x, c.mark_one.ensures, c.remembered.ensures)
