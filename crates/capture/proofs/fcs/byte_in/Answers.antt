use mathlib.Core.Path.{ap, ◌∙◌}
use Prim.Native.Nat.{◌/◌}
use native.Mathlib.Omega.{arith}
use lib.Bits.{bit_xor, bit_and, mask_lt}
use Rattle.capture.specs.Fcs.{IsTable}
use Rattle.capture.proofs.Register.{looked}
use Rattle.capture.proofs.fcs.byte_in.Goals as goal

pub overflow_cast-i : goal.overflow_cast-i
overflow_cast-i c = omega (arith, mask_lt (bit_xor c.args.r c.args.b) 8)

pub offset_bounds-table-i : goal.offset_bounds-table-i
offset_bounds-table-i c = omega (arith, mask_lt (bit_xor c.args.r c.args.b) 8)

pub bounds-table-i : goal.bounds-table-i
bounds-table-i c = mask_lt (bit_xor c.args.r c.args.b) 8

pub returns : goal.returns
unfolding IsTable
returns c =
    ap (bit_xor (c.args.r / 256))
    (c.requires (bit_and (bit_xor c.args.r c.args.b) 255) (mask_lt (bit_xor c.args.r c.args.b) 8))
    ∙ looked c.args.r c.args.b c.ranges.b.fits
