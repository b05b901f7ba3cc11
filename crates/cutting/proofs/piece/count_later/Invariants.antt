-- What is counted so far, with what remains, is the whole.
use Prim.Native.Nat.{◌+◌, ◌-◌, ◌≤◌, ◌<◌}
use lib.ListN.{length}
use Rattle.cutting.specs.Pieces.{later_pieces}
use Rattle.cutting.proofs.PieceLaws.{Counted}
use Rattle.cutting.proofs.piece.count_later.Given as goal

abbrev pub invariant-loop-from : goal.invariant-loop-from
invariant-loop-from l = (l.from < l.size) × (l.n ≤ l.from + 1) × Counted l.room l.size (length (later_pieces l.room l.size l.size l.at)) l.from l.n

abbrev pub decreases-loop-from : goal.decreases-loop-from
decreases-loop-from l = l.size - l.from
