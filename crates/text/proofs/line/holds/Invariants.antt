use Rattle.std.proofs.Common.{◌≡◌, ◌+◌, ◌-◌, ◌≤◌, false, length, drop}
use Rattle.text.specs.Bytes.{index_of}
use Rattle.text.proofs.line.holds.Given as goal

abbrev pub invariant-loop-x : goal.invariant-loop-x
invariant-loop-x l = (l.x-index ≤ length l.s) × (l.found ≡ false → index_of l.b l.s ≡ l.x-index + index_of l.b (drop l.x-index l.s))
