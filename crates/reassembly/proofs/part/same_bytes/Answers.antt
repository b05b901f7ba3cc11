use mathlib.Core.Path.{refl, sym, ◌∙◌}
use native.Mathlib.Omega.{arith}
use Rattle.reassembly.proofs.Lists.{same_length, same-differ, same-agree, same_end}
use Rattle.reassembly.proofs.part.same_bytes.Goals as goal

pub returns-then-a-b : goal.returns-then-a-b
returns-then-a-b c = sym (same_length c.args.a.now c.args.b.now c.if-a-b.true)

pub loop-i-init : goal.loop-i-init
loop-i-init c = refl

pub returns-then-a-i : goal.returns-then-a-i
returns-then-a-i c = sym (c.loop-i.invariant ∙ same-differ c.args.a.now c.args.b.now c.loop-i.i (omega arith) (omega arith) c.if-a-i.true)

pub loop-i-preserved : goal.loop-i-preserved
loop-i-preserved c = c.loop-i.invariant ∙ same-agree c.args.a.now c.args.b.now c.loop-i.i (omega arith) (omega arith) c.if-a-i.false

pub returns : goal.returns
returns c = sym (c.loop-i.invariant ∙ same_end c.args.a.now c.args.b.now c.loop-i.i (omega arith) (omega arith))
