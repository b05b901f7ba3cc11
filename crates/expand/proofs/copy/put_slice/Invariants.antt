-- What is put so far, with the bytes that are left to put, is the whole.
use Prim.Native.Nat.{◌+◌}
use mathlib.Core.Path.{◌≡◌}
use lib.ListN.{drop}
use Rattle.octets.specs.Write.{put}
use Rattle.expand.proofs.CopyLaws.{part}
use Rattle.expand.proofs.copy.put_slice.Given as goal

abbrev pub invariant-loop-i : goal.invariant-loop-i
invariant-loop-i l = put (l.at + l.i) (drop l.i (part l.s l.from l.n)) l.buf ≡ put l.at (part l.s l.from l.n) l.initial.buf
