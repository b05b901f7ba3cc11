-- What is summed so far, with the words that are left, is the whole.
use mathlib.Core.Path.{◌≡◌}
use Prim.Native.Nat.{◌+◌, ◌*◌, ◌≤◌}
use lib.ListN.{drop}
use Rattle.expand.specs.Sum.{sum_words}
use Rattle.expand.proofs.checksum.sum_words.Given as goal

abbrev pub invariant-loop-k : goal.invariant-loop-k
invariant-loop-k l = (l.x ≤ 65535 * l.k) × (l.x + sum_words (drop (l.k * 2) l.s) ≡ sum_words l.s)
