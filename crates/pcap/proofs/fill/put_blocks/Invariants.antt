use Rattle.pcap.specs.Frames.{blocks_from, blocks_of}
use Rattle.pcap.specs.Placing.{frames_at}
use Rattle.octets.specs.Write.{put}
use lib.ListN.{length}
use mathlib.Core.Path.{◌≡◌}
use Prim.Native.Nat.{◌*◌, ◌-◌, ◌≤◌}
use Rattle.pcap.proofs.fill.put_blocks.Given as goal

abbrev pub invariant-loop-number : goal.invariant-loop-number
invariant-loop-number l = (l.at ≤ length l.s) × ((length l.out ≡ length l.initial.out) × (put (512 * l.number) (blocks_from l.number (frames_at (l.total - 3 * l.number) l.s l.at)) l.out ≡ put 0 (blocks_of (frames_at l.total l.s l.from)) l.initial.out))
