use mathlib.Core.Path.{◌∙◌, ap}
use native.Mathlib.Omega.{arith}
use lib.ListN.{take, drop}
use Rattle.feed.specs.Feed.{going_on}
use Rattle.feed.proofs.Lists.{tail_all}
use Rattle.feed.proofs.Sorting.{is-good, is-bad, small, sort-short, sort-bad, sort-one, sort-one-bad, sort-two}
use Rattle.feed.proofs.reader.sort.Goals as goal

pub returns-then-s-lt-BLOCK : goal.returns-then-s-lt-BLOCK
returns-then-s-lt-BLOCK c = c.go_on.ensures ∙ sort-short c.args.block c.args.s.now c.if-s-lt-BLOCK.true

pub overflow_add-block : goal.overflow_add-block
overflow_add-block c = omega (arith, small c.args.block c.args.s.now (λ i. (c.type_inv.s i).fits) c.judge.ensures c.in-Ok.is)

pub returns-then-s-lt-TWO : goal.returns-then-s-lt-TWO
returns-then-s-lt-TWO c = let s = c.args.s.now in c.go_on-then-s-lt-TWO.ensures ∙ ap (going_on (take 512 s) 1 _) (tail_all 512 s) ∙ sort-one c.args.block s c.if-s-lt-BLOCK.false (is-good c.args.block (take 512 s) c.judge.ensures c.in-Ok.is) c.if-s-lt-TWO.true

pub overflow_add-block-in-Ok : goal.overflow_add-block-in-Ok
overflow_add-block-in-Ok c = omega (arith, small c.args.block c.args.s.now (λ i. (c.type_inv.s i).fits) c.judge.ensures c.in-Ok.is)

pub overflow_add-block-in-Ok-judge : goal.overflow_add-block-in-Ok-judge
overflow_add-block-in-Ok-judge c = omega (arith, small c.args.block c.args.s.now (λ i. (c.type_inv.s i).fits) c.judge.ensures c.in-Ok.is)

pub overflow_add-block-in-Err-judge : goal.overflow_add-block-in-Err-judge
overflow_add-block-in-Err-judge c = omega (arith, small c.args.block c.args.s.now (λ i. (c.type_inv.s i).fits) c.judge.ensures c.in-Ok.is)

pub returns-in-Ok-judge : goal.returns-in-Ok-judge
returns-in-Ok-judge c = let s = c.args.s.now in c.go_on-in-Ok-judge.ensures ∙ ap (going_on (take 1024 s) 2 _) (tail_all 1024 s) ∙ sort-two c.args.block s c.if-s-lt-BLOCK.false (is-good c.args.block (take 512 s) c.judge.ensures c.in-Ok.is) c.if-s-lt-TWO.false (omega arith) (is-good _ (take 512 (drop 512 s)) c.judge-in-Ok.ensures c.in-Ok-judge.is)

pub returns-in-Err-judge : goal.returns-in-Err-judge
returns-in-Err-judge c = let s = c.args.s.now in c.stop.ensures ∙ sort-one-bad c.args.block s c.if-s-lt-BLOCK.false (is-good c.args.block (take 512 s) c.judge.ensures c.in-Ok.is) c.if-s-lt-TWO.false (is-bad _ (take 512 (drop 512 s)) c.judge-in-Ok.ensures c.in-Err-judge.is)

pub returns-in-Err : goal.returns-in-Err
returns-in-Err c = let s = c.args.s.now in c.stop-in-Err.ensures ∙ sort-bad c.args.block s c.if-s-lt-BLOCK.false (is-bad c.args.block (take 512 s) c.judge.ensures c.in-Err.is)
