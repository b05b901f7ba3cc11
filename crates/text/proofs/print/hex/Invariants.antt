use Rattle.std.proofs.Common.{◌≡◌, ◌+◌, ◌≤◌, length}
use Rattle.octets.specs.Write.{put}
use Rattle.io.specs.Digits.{last_digits}
use Rattle.text.proofs.print.hex.Given as goal

abbrev pub invariant-loop-i : goal.invariant-loop-i
invariant-loop-i l = (length l.out ≡ length l.initial.out) × (l.i ≤ l.n) × (l.at + l.n ≤ length l.initial.out) × (put l.at (last_digits 16 l.i l.rest) l.out ≡ put l.at (last_digits 16 l.n l.x) l.initial.out)
