use Rattle.std.proofs.Common.{◌≡◌, length}
use Rattle.to_pcap.proofs.move_all.Given as goal

abbrev pub invariant-loop-block : goal.invariant-loop-block
invariant-loop-block l = length l.out ≡ length l.initial.out
