-- A context's prefix is read from its own eight bytes: a longer list has the same one.
use Prim.Native.Nat.{ℕ, ◌+◌, ◌*◌, ◌≤◌}
use mathlib.Core.List.{List, ◌++◌}
use mathlib.Core.Path.{◌≡◌, ap}
use lib.ListN.{length}
use Rattle.octets.proofs.Ends.{full-be64}
use Rattle.iphc.specs.Context.{listed, context_at}

pub context-front : (x y : List ℕ) (id : ℕ) → id * 8 + 8 ≤ length x → context_at (x ++ y) id ≡ context_at x id
unfolding context_at
context-front x y id h = ap listed (full-be64.front x y (id * 8) h)
