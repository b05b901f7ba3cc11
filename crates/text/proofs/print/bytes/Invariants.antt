use Rattle.std.proofs.Common.{◌≡◌, ◌+◌, ◌-◌, ◌*◌, ◌≤◌, length, drop}
use Rattle.octets.specs.Write.{put}
use Rattle.text.specs.Text.{hex_bytes}
use Rattle.text.proofs.print.bytes.Given as goal

abbrev pub invariant-loop-i : goal.invariant-loop-i
invariant-loop-i l = (length l.out ≡ length l.initial.out) × (l.i ≤ length l.s) × (l.at + length l.s * 2 ≤ length l.initial.out) × (put (l.at + l.i * 2) (hex_bytes (drop l.i l.s)) l.out ≡ put l.at (hex_bytes l.s) l.initial.out)
