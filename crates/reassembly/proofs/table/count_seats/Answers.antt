use native.Mathlib.Omega.{arith}
use mathlib.Core.Path.{sym, ◌∙◌}
use Rattle.reassembly.specs.Slots.{same_node, same_source}
use Rattle.reassembly.proofs.Lists.{count-hit, count-miss, count-end}
use Rattle.reassembly.proofs.table.count_seats.Goals as goal
use Rattle.reassembly.proofs.table.count_seats.Goals.{then-eq, else-eq}

pub loop-i-preserved : goal.loop-i-preserved
unfolding same_source same_node
loop-i-preserved c =
    let l = c.args.seats.now in
    let f = same_source c.args.g in
    elim c.if-eq.branch [
      | then-eq w ↦ let k = count-hit f l c.loop-i.i _ c.loop-i-test.true (sym c.eq.ensures ∙ w.if-eq.true) in (omega arith, omega arith)
      | else-eq w ↦ let k = count-miss f l c.loop-i.i _ c.loop-i-test.true (sym c.eq.ensures ∙ w.if-eq.false) in (omega arith, omega arith)
    ]

pub returns : goal.returns
returns c = omega (arith, c.loop-i.invariant.1, count-end (same_source c.args.g) c.args.seats.now c.loop-i.i (omega arith))
