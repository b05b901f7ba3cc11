-- Any two answers that meet a contract are equal: each answer's meaning takes no two answers to one.
use Prim.Native.Nat.{ℕ}
use Rattle.octets.specs.Answers.{of_answer, of_read}
use Rattle.octets.proofs.Unique.{Injective, answer-one, read-one}
use Rattle.iphc.specs.declared.header.Repr.{Repr}

pub prefix-one : Injective (of_answer {A = ℕ})
prefix-one = answer-one

pub iphc-one : Injective (of_read {A = Repr})
iphc-one = read-one
