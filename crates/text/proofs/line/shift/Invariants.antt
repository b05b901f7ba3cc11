use Rattle.std.proofs.Common.{◌≡◌, ◌-◌, drop}
use Rattle.octets.specs.Write.{put}
use Rattle.text.proofs.line.shift.Given as goal

abbrev pub invariant-loop-j : goal.invariant-loop-j
invariant-loop-j l = (drop (l.j - l.from) l.s ≡ drop (l.j - l.from) l.initial.s) × (put (l.j - l.from) (drop l.j l.initial.s) l.s ≡ put 0 (drop l.from l.initial.s) l.initial.s)
