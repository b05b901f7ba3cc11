-- Any two answers that meet a contract are equal.
use Rattle.octets.specs.Answers.{of_answer}
use Rattle.std.specs.Prelude.{Result, Ok, Err}
use Rattle.octets.specs.declared.refusal.Refusal.{Refusal}
use Prim.Native.Nat.{ℕ, ◌-◌, ◌≤◌}
use native.Mathlib.Omega.{arith}
use mathlib.Core.List.{List}
use mathlib.Core.Bool.{Bool, true, false}
use mathlib.Core.Path.{◌≡◌, sym, ap, ◌∙◌}
use lib.ListN.{length, take, drop, length-take, length-drop}
use lib.Dec.{eqb}
use Rattle.octets.specs.Read.{Answer, is, refused, choose}
use Rattle.octets.proofs.Unique.{Injective, refusal_of, refusal-back, answer-one}
use Rattle.incoming.specs.Incoming.{Brought, datagram, part, Brings}
use Rattle.incoming.specs.declared.arrival.Arrival.{Arrival}
use Rattle.incoming.specs.declared.payload.Payload.{Payload}

pub arrival-one : Injective (of_answer {A = Arrival})
arrival-one = answer-one

-- the way back from what the frame s brings
abbrev answer_to : List ℕ → Answer Brought → Result Payload Refusal
answer_to s (is (datagram d m)) = Ok (Payload.Whole (length d) m)
answer_to s (is (part size tag u bs e)) = Ok (Payload.Part size tag (record { 0 = u }) e (choose (eqb u 0) (length bs) (length s - length bs)))
answer_to s (refused n) = Err (refusal_of n)

taken : (n : ℕ) (l : List ℕ) → n ≤ length l → length (take n l) ≡ n
taken n l h = omega (arith, length-take n l)

dropped : (n : ℕ) (s : List ℕ) → n ≤ length s → length s - length (drop n s) ≡ n
dropped n s h = omega (arith, length-drop n s)

answer-is : (r : Result Payload Refusal) (room l s : List ℕ) (b : Answer Brought) → Brings r room l s b → answer_to s b ≡ r
answer-is (Ok (Payload.Whole n m)) room l s b B = rw (sym B.answer) (ap (λ k. Ok (Payload.Whole k m)) (taken n l B.within))
answer-is (Ok (Payload.Part size tag o m at)) room l s b B = rw (sym B.answer) (ap (λ k. Ok (Payload.Part size tag o m k)) (go (eqb o.0 0) B.within))
  where
    go : (t : Bool) → at ≤ choose t (length l) (length s) → choose t (length (choose t (take at l) (drop at s))) (length s - length (choose t (take at l) (drop at s))) ≡ at
    go true h = taken at l h
    go false h = dropped at s h
answer-is (Err e) room l s b B = rw (sym B.answer) (ap Err (refusal-back e))

pub payload-one : (room s : List ℕ) (b : Answer Brought) (y z : Result Payload Refusal) (l m : List ℕ) → Brings y room l s b → Brings z room m s b → (y ≡ z) × (l ≡ m)
payload-one room s b y z l m A B = (sym (answer-is y room l s b A) ∙ answer-is z room m s b B, A.scratch ∙ sym B.scratch)
