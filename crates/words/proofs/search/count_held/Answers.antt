use native.Mathlib.Omega.{arith}
use mathlib.Core.Path.{sym, ◌∙◌}
use Rattle.reassembly.specs.Slots.{free_slot, is_of, held}
use Rattle.words.specs.Words.{table_in}
use Rattle.words.proofs.Numbers.{slots-eight}
use Rattle.words.proofs.Chains.{one_more, no_more, counted}
use Rattle.words.proofs.search.count_held.Goals as goal
use Rattle.words.proofs.search.count_held.Goals.{then-is_of, else-is_of}

pub loop-i-preserved : goal.loop-i-preserved
loop-i-preserved c =
    let l = (table_in c.args.t.now).slots in
    let eight = slots-eight c.args.t.now in
    elim c.if-is_of.branch [
      | then-is_of w ↦ let k = one_more (is_of c.args.g) l free_slot 8 c.loop-i.i eight c.loop-i.n c.loop-i.invariant.1 (omega arith) (sym c.is_of.ensures ∙ w.if-is_of.true) in (omega arith, omega arith)
      | else-is_of w ↦ let k = no_more (is_of c.args.g) l free_slot 8 c.loop-i.i eight c.loop-i.n c.loop-i.invariant.1 (omega arith) (sym c.is_of.ensures ∙ w.if-is_of.false) in (omega arith, omega arith)
    ]

pub returns : goal.returns
unfolding held
returns c = counted (is_of c.args.g) (table_in c.args.t.now).slots free_slot 8 c.loop-i.i (slots-eight c.args.t.now) c.loop-i.n c.loop-i.invariant.1 (omega arith)
