use native.Mathlib.Omega.{arith}
use mathlib.Core.Path.{sym, ◌∙◌}
use Rattle.reassembly.specs.Slots.{free_slot, is_free, free}
use Rattle.words.specs.Words.{table_in}
use Rattle.words.proofs.Numbers.{slots-eight}
use Rattle.words.proofs.Chains.{one_more, no_more, counted}
use Rattle.words.proofs.search.count_free.Goals as goal
use Rattle.words.proofs.search.count_free.Goals.{then-is_free, else-is_free}

pub loop-i-preserved : goal.loop-i-preserved
loop-i-preserved c =
    let l = (table_in c.args.t.now).slots in
    let eight = slots-eight c.args.t.now in
    elim c.if-is_free.branch [
      | then-is_free w ↦ let k = one_more (is_free) l free_slot 8 c.loop-i.i eight c.loop-i.n c.loop-i.invariant.1 (omega arith) (sym c.is_free.ensures ∙ w.if-is_free.true) in (omega arith, omega arith)
      | else-is_free w ↦ let k = no_more (is_free) l free_slot 8 c.loop-i.i eight c.loop-i.n c.loop-i.invariant.1 (omega arith) (sym c.is_free.ensures ∙ w.if-is_free.false) in (omega arith, omega arith)
    ]

pub returns : goal.returns
unfolding free
returns c = counted (is_free) (table_in c.args.t.now).slots free_slot 8 c.loop-i.i (slots-eight c.args.t.now) c.loop-i.n c.loop-i.invariant.1 (omega arith)
