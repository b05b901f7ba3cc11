-- What is summed so far, with the words that are left, is the whole.
use mathlib.Core.Path.{◌≡◌, ap}
use Prim.Native.Nat.{◌+◌, ◌*◌, ◌/◌}
use native.Mathlib.Omega.{arith}
use lib.ListN.{length, drop}
use Rattle.expand.specs.Sum.{sum_words}
use Rattle.expand.proofs.SumLaws.{words-none, words_last, words_step}
use Rattle.expand.proofs.checksum.sum_words.Goals as goal

pub loop-k-init : goal.loop-k-init
loop-k-init c = (omega arith, omega arith)

pub loop-k-preserved : goal.loop-k-preserved
loop-k-preserved c =
    let l = c.loop-k in let s = c.args.s.now in
    let e : l.k * 2 + 2 ≡ (l.k + 1) * 2 = omega arith in
    (omega arith, omega (arith, words_step s (l.k * 2) (omega arith), ap (λ j. sum_words (drop j s)) e, l.invariant.1))

pub returns-then-i-s : goal.returns-then-i-s
returns-then-i-s c =
    let l = c.loop-k in let s = c.args.s.now in
    let e : l.k ≡ length s / 2 = omega arith in
    (omega (arith, words_last s (length s / 2 * 2) (omega arith), ap (λ k. sum_words (drop (k * 2) s)) e, l.invariant.1), omega arith)

pub returns-else-i-s : goal.returns-else-i-s
returns-else-i-s c =
    let l = c.loop-k in let s = c.args.s.now in
    (omega (arith, words-none s (l.k * 2) (omega arith), l.invariant.1), omega arith)
