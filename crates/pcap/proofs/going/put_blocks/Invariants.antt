use Rattle.pcap.specs.Moves.{carried_all}
use Rattle.octets.specs.Write.{put}
use Rattle.std.specs.Slice.Iter.{chunks_rest, chunks_size}
use mathlib.Core.Path.{◌≡◌}
use lib.ListN.{length}
use Prim.Native.Nat.{◌+◌, ◌≤◌}
use Rattle.pcap.proofs.going.put_blocks.Given as goal

abbrev pub invariant-loop-block : goal.invariant-loop-block
invariant-loop-block l = (chunks_size l.block-iterator ≡ 512) × ((length l.out ≡ length l.initial.out) × ((l.to + length (carried_all (chunks_rest l.block-iterator)) ≤ length l.out) × (put l.to (carried_all (chunks_rest l.block-iterator)) l.out ≡ put l.from (carried_all l.capture) l.initial.out)))
