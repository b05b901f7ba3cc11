use Rattle.std.proofs.Common.{◌≡◌, length}
use Rattle.from_pcap.proofs.move_all.Given as goal

abbrev pub invariant-loop : goal.invariant-loop
invariant-loop l = length l.out ≡ length l.initial.out
