use Prim.Native.Nat.{◌+◌, ◌-◌}
use mathlib.Core.Path.{◌≡◌}
use native.Mathlib.Omega.{arith}
use lib.ListN.{length}
use Rattle.reassembly.specs.Parts.{repeats_in, units}
use Rattle.reassembly.proofs.Tests.{and-told, and-stops}
use Rattle.reassembly.proofs.part.is_repeat.Goals as goal

pub returns-then-is_span : goal.returns-then-is_span
unfolding repeats_in
returns-then-is_span c =
    let a = c.args in
    let u = a.offset.0 in
    let n : u + c.units_of.result ≡ u + units (length a.part.now) = omega (arith, c.units_of.ensures.0) in
    let t = rw n at c.is_span.ensures in
    let m : c.bytes-at.result + length a.part.now - c.bytes-at.result ≡ length a.part.now = omega arith in
    let e = rw (m, c.bytes-at.ensures) at c.same_bytes.ensures in
    and-told _ _ t c.if-is_span.true e

pub returns-else-is_span : goal.returns-else-is_span
unfolding repeats_in
returns-else-is_span c =
    let a = c.args in
    let u = a.offset.0 in
    let n : u + c.units_of.result ≡ u + units (length a.part.now) = omega (arith, c.units_of.ensures.0) in
    and-stops _ _ (rw n at c.is_span.ensures) c.if-is_span.false
