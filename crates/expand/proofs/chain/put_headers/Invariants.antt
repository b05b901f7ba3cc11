-- Layer by layer; where something else than an IPv6 header stands behind one, all headers but UDP's are put.
use Prim.Native.Nat.{ℕ, ◌+◌, ◌-◌, ◌*◌, ◌≤◌, ◌<◌}
use mathlib.Core.Path.{◌≡◌}
use lib.ListN.{length, get_or, take}
use Rattle.expand.specs.Chain.{header_then, chain, chained}
use Rattle.expand.specs.Walk.{start, Onward}
use Rattle.expand.proofs.chain.put_headers.Given as goal

abbrev pub invariant-loop-k : goal.invariant-loop-k
invariant-loop-k l = (length l.places ≡ 8) × (length l.out ≡ length l.initial.out) × (l.k + l.way.left ≤ 7) × (l.way.at + 40 * (l.way.left + 1) + (length l.frame - l.c.at) ≤ 447)
    × ((i : ℕ) → i < l.k → get_or l.places i 0 ≤ 447)
    × Onward (take l.k l.places) start (chained l.contexts l.initial.ll.src l.initial.ll.dst l.frame l.initial.c.at) l.initial.out l.way (header_then l.contexts l.ll.src l.ll.dst (chain l.way.left l.contexts) l.frame l.c.at) l.out
