use native.Mathlib.Omega.{arith}
use mathlib.Core.Path.{◌≡◌}
use lib.ListN.{length}
use Prim.Native.Nat.{◌≤◌}
use Rattle.words.proofs.Ages.{age-none, age-turn, age-end}
use Rattle.words.proofs.write.age.Goals as goal

pub loop-i-init : goal.loop-i-init
loop-i-init c = age-none c.args.t.now c.args.time

pub loop-i-preserved : goal.loop-i-preserved
loop-i-preserved c = age-turn c.args.t.now c.loop-i.t _ c.args.time c.loop-i.i (omega arith) c.loop-i.invariant c.age_slot.ensures

pub returns : goal.returns
returns c =
    let n : length c.loop-i.t ≡ 149 = omega arith in
    let h : 8 ≤ c.loop-i.i = omega arith in
    age-end c.args.t.now c.loop-i.t c.args.time c.loop-i.i n h c.loop-i.invariant
