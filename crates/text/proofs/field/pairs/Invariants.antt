use Rattle.std.proofs.Common.{◌≡◌, ◌-◌, ◌*◌, eqb, length, drop}
use Rattle.octets.specs.Write.{put}
use Rattle.text.specs.Fields.{pairs_of, stray_pairs}
use Rattle.text.proofs.Fields.{uncounted}
use Rattle.text.proofs.field.pairs.Given as goal

abbrev pub invariant-loop-i : goal.invariant-loop-i
invariant-loop-i l = (length l.room ≡ length l.initial.room) × (put l.i (pairs_of (l.n - l.i) (drop (l.i * 2) l.s)) l.room ≡ put 0 (pairs_of l.n l.s) l.initial.room) × (eqb (uncounted l.worst (stray_pairs (l.n - l.i) (drop (l.i * 2) l.s))) 0 ≡ eqb (stray_pairs l.n l.s) 0)
