use Rattle.std.proofs.Common.{◌≡◌, length}
use Rattle.heard.proofs.run.Given as goal

abbrev pub invariant-loop : goal.invariant-loop
invariant-loop l = (length l.input ≡ length l.initial.input) × (length l.mem ≡ length l.initial.mem) × (length l.out ≡ length l.initial.out) × (length l.text ≡ length l.initial.text)
