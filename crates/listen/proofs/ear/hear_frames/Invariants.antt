use Rattle.std.proofs.Common.{◌≡◌, length}
use Rattle.listen.proofs.Hearing.{listener, page, Going}
use Rattle.listen.proofs.ear.hear_frames.Given as goal

abbrev pub invariant-loop-k : goal.invariant-loop-k
invariant-loop-k l = (length l.mem ≡ length l.initial.mem) × (length l.out ≡ length l.initial.out) × (length l.text ≡ length l.initial.text) × Going l.block l.k (listener l.initial.e l.initial.mem l.initial.out) (listener l.e l.mem l.out) (page l.initial.text l.at) (page l.text l.to)
