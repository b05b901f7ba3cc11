use Rattle.std.proofs.Common.{◌≤◌, ◌+◌, length}
use Rattle.text.proofs.input.answer_read.Given as goal

-- each line takes a byte at least
abbrev pub invariant-loop : goal.invariant-loop
invariant-loop g l = length l.input + l.counter ≤ length l.fn.input
