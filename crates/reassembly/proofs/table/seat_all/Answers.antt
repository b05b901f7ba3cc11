use native.Mathlib.Omega.{arith}
use mathlib.Core.Path.{◌≡◌}
use lib.ListN.{length}
use Rattle.reassembly.specs.Slots.{no_node, no_source}
use Rattle.reassembly.proofs.Fresh.{seat-none, seat-more}
use Rattle.reassembly.proofs.table.seat_all.Goals as goal

pub loop-i-init : goal.loop-i-init
unfolding no_source no_node
loop-i-init c = seat-none _

pub loop-i-preserved : goal.loop-i-preserved
loop-i-preserved c =
    let a = c.args in
    let n : length a.gateways ≡ 4 = c.well_formed.0.1.0.1 in
    rw (c.loop-i.invariant, c.of.ensures) (seat-more a.gateways c.loop-i.i _ n (omega (arith, c.requires)))

pub returns : goal.returns
returns c =
    let e : c.loop-i.i ≡ c.args.count = omega arith in
    rw (← e) c.loop-i.invariant
