-- The steps of the header's reader, for `search`: what an answer that a match took apart says of the specification's next step.
use Rattle.std.specs.Prelude.{Option, None}
use Prim.Native.Nat.{ℕ, ◌≤◌}
use mathlib.Core.List.{List}
use mathlib.Core.Bool.{Bool, true, false}
use lib.ListN.{length, get_or, get_or-eq_default}
use mathlib.Core.Path.{◌≡◌, refl, sym, ap, ◌∙◌}
use Rattle.octets.specs.Read.{is, refused, Read, got, and_then, choose, byte, skip, ◌>>=◌}
use Rattle.ieee802154.specs.Addressing.{sides}
use Rattle.ieee802154.specs.Mac.{sequence, sequence_of, header_rest, after_control}
use Rattle.ieee802154.specs.Control.{omits_sequence}
use Rattle.ieee802154.specs.declared.control.AddressingMode.{AddressingMode}
use Rattle.ieee802154.specs.declared.control.Control.{Control}
use Rattle.ieee802154.specs.declared.control.Carried.{Carried}
use Rattle.ieee802154.specs.declared.addressing.Addressing.{Addressing}
use Rattle.ieee802154.specs.declared.header.Repr.{Repr}

-- a value that a call gave, passed on
pub skip-told : (n m : ℕ) (s : List ℕ) (at : ℕ) (r : Read (Unit {0})) → n ≡ m → r ≡ skip n s at → r ≡ skip m s at
skip-told n m s at r p e = e ∙ ap (λ z. skip z s at) p

pub sides-told : (p q : Carried) (d s : AddressingMode) (l : List ℕ) (at : ℕ) (r : Read Addressing) → p ≡ q → r ≡ sides p d s l at → r ≡ sides q d s l at
sides-told p q d s l at r h e = e ∙ ap (λ z. sides z d s l at) h

-- what follows the frame control field, by whether the sequence number is left out
pub after_is : (k : Control) (l : List ℕ) (at : ℕ) → after_control k l at ≡ choose (omits_sequence k) (header_rest k None l at) (◌>>=◌ byte (λ b. header_rest k (sequence_of k b)) l at)
unfolding after_control sequence
after_is k l at = by (omits_sequence k)
  where
    read : (m : Read ℕ) → and_then (and_then m (λ p. got (sequence_of k p.value) p.next)) (λ p. header_rest k p.value l p.next) ≡ and_then m (λ p. header_rest k (sequence_of k p.value) l p.next)
    read (is p) = refl
    read (refused n) = refl

    by : (t : Bool) → and_then (choose t (got None at) (◌>>=◌ byte (λ b. (λ m n. got (sequence_of k b) n)) l at)) (λ p. header_rest k p.value l p.next) ≡ choose t (header_rest k None l at) (◌>>=◌ byte (λ b. header_rest k (sequence_of k b)) l at)
    by true = refl
    by false = read (byte l at)

pub after-told : (k j : Control) (l : List ℕ) (at : ℕ) (r : Read Repr) → k ≡ j → r ≡ after_control k l at → r ≡ after_control j l at
after-told k j l at r h e = e ∙ ap (λ z. after_control z l at) h

pub sequence-told : (p q : Option ℕ) (n : ℕ) (r : Read (Option ℕ)) → p ≡ q → r ≡ got p n → r ≡ got q n
sequence-told p q n r h e = e ∙ ap (λ z. got z n) h

pub rest-told : (k : Control) (p q : Option ℕ) (l : List ℕ) (at : ℕ) (r : Read Repr) → p ≡ q → r ≡ header_rest k p l at → r ≡ header_rest k q l at
rest-told k p q l at r h e = e ∙ ap (λ z. header_rest k z l at) h

-- past the end stands 0
pub past_end : (s : List ℕ) (at : ℕ) → length s ≤ at → 0 ≡ get_or s at 0
past_end s at h = sym (get_or-eq_default s 0 h)

pub ruleset read-steps = (skip-told, sides-told, after-told, rest-told, sequence-told)
