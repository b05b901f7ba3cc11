-- Any two answers of `emit` that meet its contract are equal, and so are the rooms afterwards. (A reader's answer is an equation on
-- `of_read`, which takes no two answers to one: `read-one` of octets.)
use Rattle.octets.specs.Answers.{of_answer}
use Rattle.std.specs.Prelude.{Result}
use Rattle.octets.specs.declared.refusal.Refusal.{Refusal}
use Prim.Native.Nat.{ℕ}
use mathlib.Core.List.{List}
use mathlib.Core.Path.{◌≡◌, sym, ◌∙◌}
use Rattle.octets.proofs.Unique.{unique, answer-one}
use Rattle.relay.specs.Headers.{relay_wrote, relay_over}
use Rattle.relay.specs.declared.headers.Relay.{Relay}

pub emit-one : (r : Relay) (room : List ℕ) (y z : Result ℕ Refusal) (l m : List ℕ) → (of_answer y ≡ relay_wrote r room) × (l ≡ relay_over r room) → (of_answer z ≡ relay_wrote r room) × (m ≡ relay_over r room) → (y ≡ z) × (l ≡ m)
emit-one r room y z l m p q = (unique of_answer answer-one (relay_wrote r room) y z p.0 q.0, p.1 ∙ sym q.1)
