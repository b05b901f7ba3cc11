use native.Mathlib.Omega.{arith}
use mathlib.Core.Path.{sym, ◌∙◌}
use Rattle.reassembly.specs.Slots.{no_source}
use Rattle.words.proofs.Gates.{idle-seats}
use Rattle.words.specs.Words.{idle_seat, table_in}
use Rattle.words.proofs.Numbers.{seats-four}
use Rattle.words.proofs.Chains.{one_more, no_more, counted}
use Rattle.words.proofs.search.count_idle_others.Goals as goal
use Rattle.words.proofs.search.count_idle_others.Goals.{then-is_idle_other, else-is_idle_other}

pub loop-i-preserved : goal.loop-i-preserved
loop-i-preserved c =
    let f = idle_seat (table_in c.args.t.now).slots c.args.g in
    let l = (table_in c.args.t.now).gateways in
    let four = seats-four c.args.t.now in
    elim c.if-is_idle_other.branch [
      | then-is_idle_other w ↦ let k = one_more f l no_source 4 c.loop-i.i four c.loop-i.n c.loop-i.invariant.1 (omega arith) (sym c.is_idle_other.ensures ∙ w.if-is_idle_other.true) in (omega arith, omega arith)
      | else-is_idle_other w ↦ let k = no_more f l no_source 4 c.loop-i.i four c.loop-i.n c.loop-i.invariant.1 (omega arith) (sym c.is_idle_other.ensures ∙ w.if-is_idle_other.false) in (omega arith, omega arith)
    ]

pub returns : goal.returns
returns c =
    counted (idle_seat (table_in c.args.t.now).slots c.args.g) (table_in c.args.t.now).gateways no_source 4 c.loop-i.i (seats-four c.args.t.now) c.loop-i.n c.loop-i.invariant.1 (omega arith)
    ∙ sym (idle-seats (table_in c.args.t.now) c.args.g)
