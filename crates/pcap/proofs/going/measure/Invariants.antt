use Rattle.pcap.proofs.Carrying.{measured}
use Rattle.pcap.specs.Moves.{to_pcap, lengthed}
use Rattle.std.specs.Slice.Iter.{chunks_rest, chunks_size}
use mathlib.Core.Path.{◌≡◌}
use Prim.Native.Nat.{◌+◌, ◌*◌, ◌≤◌}
use lib.ListN.{length}
use Rattle.pcap.proofs.going.measure.Given as goal

abbrev pub invariant-loop-block : goal.invariant-loop-block
invariant-loop-block l = (chunks_size l.block-iterator ≡ 512) × ((512 * l.number + length (chunks_rest l.block-iterator) ≡ length l.capture) × ((l.n ≤ 24 + 429 * l.number) × (measured l.n l.number (chunks_rest l.block-iterator) ≡ lengthed (to_pcap l.capture))))
