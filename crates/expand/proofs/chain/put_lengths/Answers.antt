-- The payload lengths are put from the last place to the first.
use Prim.Native.Nat.{◌-◌}
use native.Mathlib.Omega.{arith}
use mathlib.Core.Path.{refl, sym, ◌∙◌}
use Rattle.expand.proofs.WalkLaws.{patches-back, patches-end}
use Rattle.expand.proofs.chain.put_lengths.Goals as goal

pub loop-i-init : goal.loop-i-init
loop-i-init c = refl

pub overflow_add-o : goal.overflow_add-o
overflow_add-o c = omega (arith, c.requires.1 (c.loop-i.i - 1) (omega (arith, c.loop-i.auto.i, c.loop-i-test.true)))

pub overflow_cast-o : goal.overflow_cast-o
overflow_cast-o c = omega (arith, c.requires.1 (c.loop-i.i - 1) (omega (arith, c.loop-i.auto.i, c.loop-i-test.true)))

pub overflow_add-o-in-loop-i : goal.overflow_add-o-in-loop-i
overflow_add-o-in-loop-i c = omega (arith, c.requires.1 (c.loop-i.i - 1) (omega (arith, c.loop-i.auto.i, c.loop-i-test.true)))

pub loop-i-preserved : goal.loop-i-preserved
loop-i-preserved c = c.loop-i.invariant ∙ patches-back c.args.total c.args.places.now c.loop-i.out c.loop-i.i _ _ c.loop-i-test.true (omega (arith, c.loop-i.auto.i, c.requires.0)) c.saturating_sub.ensures c.put_be16.ensures

pub returns : goal.returns
returns c = sym (patches-end c.args.total c.args.places.now c.loop-i.out c.loop-i.i _ (omega (arith, c.loop-i-test.false)) c.loop-i.invariant)
