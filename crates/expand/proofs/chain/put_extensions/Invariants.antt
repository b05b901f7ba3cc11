-- Each extension header that is put brings the walk on; where another thing stands it has reached that.
use Prim.Native.Nat.{ℕ, ◌+◌, ◌-◌, ◌*◌, ◌≤◌}
use mathlib.Core.List.{List, []}
use mathlib.Core.Path.{◌≡◌}
use lib.ListN.{length}
use Rattle.expand.specs.Chain.{behind_next, chain}
use Rattle.expand.specs.Walk.{around, Onward}
use Rattle.expand.proofs.chain.put_extensions.Given as goal

abbrev pub invariant-loop-c : goal.invariant-loop-c
invariant-loop-c l = (length l.out ≡ length l.initial.out) × (l.way.left ≤ l.initial.way.left) × (l.initial.c.at ≤ l.c.at) × (l.way.at + 40 * l.way.left + (length l.frame - l.c.at) ≤ 447)
    × ((ctx : List ℕ) → Onward [] l.initial.way (behind_next l.initial.next (chain l.initial.way.left ctx (around l.initial.way)) l.frame l.initial.c.at) l.initial.out l.way (behind_next l.next (chain l.way.left ctx (around l.way)) l.frame l.c.at) l.out)

abbrev pub decreases-loop-c : goal.decreases-loop-c
decreases-loop-c l = l.way.left
