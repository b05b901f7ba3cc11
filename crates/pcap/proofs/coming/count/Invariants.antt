use Rattle.pcap.specs.Moves.{counted}
use mathlib.Core.Path.{◌≡◌}
use Prim.Native.Nat.{◌+◌}
use Rattle.pcap.proofs.coming.count.Given as goal

abbrev pub invariant-loop-n : goal.invariant-loop-n
invariant-loop-n l = (l.number ≡ l.k + l.n) × (counted l.most l.k l.s l.n l.at ≡ counted l.most l.k l.s 0 l.initial.at)
