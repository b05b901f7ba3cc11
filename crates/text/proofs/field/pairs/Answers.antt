use Rattle.std.proofs.Common.{eqb, ltb, refl, ap, ◌∙◌, arith, length-set}
use Rattle.text.specs.Fields.{stray_pairs}
use Rattle.text.proofs.Fields.{uncounted, all-counted, pair_step, pair-joins, pairs_start, strays-start, pairs-done, strays-done, no_room, no_pairs, are-pairs, pairs-in}
use Rattle.text.proofs.field.pairs.Goals as goal

pub returns-then-room-n : goal.returns-then-room-n
returns-then-room-n c = let a = c.args in no_room a.n a.s.now a.room.now (omega arith)

pub returns-then-s-n : goal.returns-then-s-n
returns-then-s-n c = let a = c.args in no_pairs a.n a.s.now a.room.now (omega arith) (omega arith)

pub loop-i-init : goal.loop-i-init
loop-i-init c =
    let a = c.args in
    (refl, pairs_start a.n a.s.now a.room.now, ap (λ k. eqb k 0) (strays-start a.n a.s.now))

pub loop-i-preserved : goal.loop-i-preserved
loop-i-preserved c =
    let a = c.args in
    let l = c.loop-i in (
      simp length-set l.invariant.0,
      pair_step a.n l.i c.nibble-hi.result c.nibble-lo.result a.s.now (omega arith) c.nibble-hi.ensures c.nibble-lo.ensures l.room ∙ l.invariant.1,
      pair-joins a.n l.i c.nibble-hi.result c.nibble-lo.result a.s.now (omega arith) c.nibble-hi.ensures c.nibble-lo.ensures l.worst ∙ l.invariant.2,
    )

pub returns : goal.returns
returns c =
    let a = c.args in
    let l = c.loop-i in (
      are-pairs a.n a.s.now a.room.now (omega arith) (omega arith) (ltb l.worst 16)
          (all-counted l.worst (stray_pairs a.n a.s.now) (ap (λ k. eqb (uncounted l.worst k) 0) (strays-done a.n l.i a.s.now (omega arith)) ∙ l.invariant.2)),
      pairs-done a.n l.i a.s.now l.room (omega arith) ∙ l.invariant.1 ∙ pairs-in a.n a.s.now a.room.now (omega arith) (omega arith),
    )
