use Rattle.listen.proofs.Blocks.{Onward}
use Rattle.listen.proofs.Hearing.{listener, page}
use Rattle.std.proofs.Common.{◌≡◌, true, length}
use Rattle.std.specs.Slice.Iter.{chunks_rest, chunks_size}
use Rattle.listen.proofs.ear.hear_all.Given as goal

abbrev pub invariant-loop-block : goal.invariant-loop-block
invariant-loop-block l = (chunks_size l.block-iterator ≡ 512) × (length l.mem ≡ length l.initial.mem) × (length l.out ≡ length l.initial.out) × (length l.text ≡ length l.initial.text) × (l.h.more ≡ true) × Onward l.capture (chunks_rest l.block-iterator) (listener l.initial.h.ear l.initial.mem l.initial.out) (listener l.h.ear l.mem l.out) (page l.initial.text l.at) (page l.text l.h.next)
