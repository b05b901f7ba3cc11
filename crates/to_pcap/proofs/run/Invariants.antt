use Rattle.std.proofs.Common.{◌≡◌, length}
use Rattle.to_pcap.proofs.run.Given as goal

abbrev pub invariant-loop : goal.invariant-loop
invariant-loop l = (length l.input ≡ length l.initial.input) × (length l.out ≡ length l.initial.out)
