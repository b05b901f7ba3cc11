-- What a frame is to the table, answer by answer.
use Rattle.octets.specs.Answers.{of_answer}
use Rattle.std.specs.Prelude.{Result, Ok, Err}
use Prim.Native.Nat.{ℕ, ◌-◌, ◌≤◌}
use mathlib.Core.List.{List}
use mathlib.Core.Bool.{Bool, true, false}
use mathlib.Core.Path.{◌≡◌, refl, sym, ap, ◌∙◌}
use lib.ListN.{length, take, drop, length-drop}
use lib.Seq.{take_all}
use borrow.Author.Tests.{eq-eqb, ne_eqb, le-leb}
use native.Mathlib.Nat.{sub-zero}
use native.Mathlib.Omega.{arith}
use lib.Dec.{eqb}
use Rattle.octets.specs.Read.{Answer, is, refused, choose}
use Rattle.octets.specs.Refusal.{number_of}
use Rattle.octets.specs.Write.{put}
use Rattle.octets.specs.declared.refusal.Refusal.{Refusal}
use Rattle.octets.specs.declared.refusal.Refusal.TheVariants.{BadChecksum}
use Rattle.expand.specs.Sum.{holds, holds_in}
use Rattle.expand.specs.declared.checksum.UdpSum.{UdpSum}
use Rattle.incoming.specs.Incoming.{arrival, Brought, datagram, part, bytes_of, payload_in, Brings}
use Rattle.incoming.specs.declared.arrival.Arrival.{Arrival}
use Rattle.incoming.specs.declared.payload.Payload.{Payload}
use Rattle.incoming.proofs.Steps.{in-room}
use Rattle.sixlowpan.specs.declared.frag.Units.{Units}
use Rattle.reassembly.specs.Slots.{owner, node_of, addressed, gates_of, is_gate}
use Rattle.reassembly.specs.Parts as Parts
use Rattle.reassembly.specs.Parts.{part_of, Hands}
use Rattle.reassembly.specs.Table.{State, other, from_gate, take_part, step}
use Rattle.reassembly.specs.declared.part.Outcome.{Outcome}
use Rattle.reassembly.specs.declared.slot.Node.{Node}
use Rattle.reassembly.specs.declared.slot.Source.{Source}
use Rattle.reassembly.specs.declared.slot.Key.{Key}
use Rattle.receiver.specs.Receive.{sender_of, key_of, content, tested, brings, frame_call}
use Rattle.receiver.specs.Steps.{TurnedAway, unread, stranger, nowhere, Admits, GateSays, GateBrings}

-- ---- who sends it to whom
pub arrives : (s : List ℕ) (y z : Result Arrival Refusal) → of_answer y ≡ arrival s → y ≡ z → arrival s ≡ of_answer z
arrives s y z p q = sym p ∙ ap of_answer q

-- and whether it is let in, by what the tests of its sender and its destination say
module _ (gs : List Source) (s : List ℕ) (y : Result Arrival Refusal) (p : of_answer y ≡ arrival s) where
  pub not-read : (e : Refusal) → y ≡ Err e → TurnedAway gs s (number_of e)
  not-read e q = unread (number_of e) (arrives s y (Err e) p q)

  module _ (a : Arrival) (q : y ≡ Ok a) (g : Source) (h : g ≡ sender_of a) (b : Bool) (k : b ≡ is_gate g gs) where
    gate-told : is_gate (sender_of a) gs ≡ b
    gate-told = ap (λ z. is_gate z gs) (sym h) ∙ sym k

    pub from-stranger : b ≡ false → TurnedAway gs s 9
    from-stranger f = stranger a (arrives s y (Ok a) p q) (gate-told ∙ f)

    module _ (f : b ≡ true) (n : Node) (i : n ≡ node_of a.dst) (d : Bool) (l : d ≡ addressed n) where
      present-told : addressed (node_of a.dst) ≡ d
      present-told = ap addressed (sym i) ∙ sym l

      pub to_nowhere : d ≡ false → TurnedAway gs s 6
      to_nowhere m = nowhere a (arrives s y (Ok a) p q) (gate-told ∙ f) (present-told ∙ m)

      pub admitted : d ≡ true → Admits gs s (is a)
      admitted m = (arrives s y (Ok a) p q, gate-told ∙ f, present-told ∙ m)

pub ruleset admits = (not-read, from-stranger, to_nowhere, admitted)

-- one that is not let in is to the table the refusal alone: a stranger's, 9, whatever it brings
pub turned-away : {n : ℕ} (σ : State) (ctx : List ℕ) (t : ℕ) (s : List ℕ) → TurnedAway (gates_of σ.table) s n → step σ (frame_call ctx t s) ≡ step σ (other t (Parts.refused n))
unfolding frame_call content key_of from_gate take_part step
turned-away σ ctx t s (unread n q) = rw q refl
turned-away σ ctx t s (stranger a q k) = rw q (go (content ctx a s))
  where
    go : (b : Answer Brought) → step σ (brings t a b) ≡ step σ (other t (Parts.refused 9))
    go (is (datagram d m)) = rw k refl
    go (is (part size tag u bs e)) = rw k refl
    go (refused n) = rw k refl
turned-away σ ctx t s (nowhere a q k d) = rw (q, d, k) refl

-- ---- what it brings
module _ (gs : List Source) (ctx s : List ℕ) (y : Result Arrival Refusal) (p : Admits gs s (of_answer y)) (a : Arrival) (q : y ≡ Ok a) (r : Result Payload Refusal) (room l : List ℕ) (big : 455 ≤ length room) (b : Brings r room l s (payload_in room ctx a s)) (t : ℕ) where
  came : Admits gs s (is a)
  came = rw q at p

  frame-brings : {x : Answer Brought} → x ≡ payload_in room ctx a s → frame_call ctx t s ≡ brings t a x
  unfolding frame_call content
  frame-brings e = rw (came.0, came.2) (ap (λ z. brings t a z) (sym (e ∙ in-room room ctx a s big)))

  pub frame-whole : (n : ℕ) (el : UdpSum) → r ≡ Ok (Payload.Whole n el) → GateSays gs ctx t s (tested el (take n l))
  frame-whole n el e = (sender_of a, came.1, frame-brings (rw e at b.answer))

  pub frame_refused : (e : Refusal) → r ≡ Err e → GateSays gs ctx t s (Parts.refused (number_of e))
  frame_refused x e = (sender_of a, came.1, frame-brings (rw e at b.answer))

  -- a part under the key k
  module _ (size tag : ℕ) (k : Key) (key : k ≡ key_of a size tag) where
    known : is_gate (owner k) gs ≡ true
    unfolding key_of
    known = rw key came.1

    pub frame-part : (u : Units) (el : UdpSum) (at : ℕ) → r ≡ Ok (Payload.Part size tag u el at) → (bs : List ℕ) → bs ≡ bytes_of u at l s → GateBrings gs ctx t s (part_of k u.0 el bs)
    frame-part u el at e bs w = (known, rw (key, w) (frame-brings (rw e at b.answer)))

-- the part of s from a place on, as a slice has it
pub rest-is : (from : ℕ) (s : List ℕ) → take (length s - from) (drop from s) ≡ drop from s
rest-is from s = take_all (length s - from) (drop from s) (omega (arith, length-drop from s))

-- ---- what its payload's answer points at
module _ (r : Result Payload Refusal) (room l s : List ℕ) (b : Answer Brought) (h : Brings r room l s b) where
  pub whole-within : (n : ℕ) (el : UdpSum) → r ≡ Ok (Payload.Whole n el) → n ≤ length l
  whole-within n el e = rw e at h.within

  pub part-within : (size tag : ℕ) (u : Units) (el : UdpSum) (at : ℕ) → r ≡ Ok (Payload.Part size tag u el at) → at ≤ choose (eqb u.0 0) (length l) (length s)
  part-within size tag u el at e = rw e at h.within

-- where a part's bytes stand, by whether it is at offset 0
module _ (u : Units) (at : ℕ) (l s : List ℕ) (h : at ≤ choose (eqb u.0 0) (length l) (length s)) where
  pub scratch-within : u.0 ≡ 0 → at ≤ length l
  scratch-within z = rw (eq-eqb u.0 0 z) at h

  pub scratch-bytes : u.0 ≡ 0 → take (at - 0) l ≡ bytes_of u at l s
  scratch-bytes z = rw (eq-eqb u.0 0 z, sub-zero at) refl

  pub frame-within : (u.0 ≡ 0 → ⊥) → at ≤ length s
  frame-within z = rw (ne_eqb u.0 0 z) at h

  pub frame-bytes : (u.0 ≡ 0 → ⊥) → take (length s - at) (drop at s) ≡ bytes_of u at l s
  frame-bytes z = rw (ne_eqb u.0 0 z) (rest-is at s)

pub ruleset bytes_told = (scratch-within, scratch-bytes, frame-within, frame-bytes)

-- ---- a datagram d that came whole, to the output o
holds-all : (m : UdpSum) (d : List ℕ) → holds_in m (length d) d ≡ holds m d
unfolding holds_in
holds-all m d = rw (le-leb (length d) (length d) (omega arith), take_all (length d) d (omega arith)) refl

module _ (m : UdpSum) (d o : List ℕ) (h : Bool) (e : h ≡ holds_in m (length d) d) where
  pub told-right : h ≡ true → (o' : List ℕ) → o' ≡ put 0 (take (length d) (drop 0 d)) o → Hands (Ok (Outcome.Out (length d))) o o' (tested m d)
  unfolding tested
  told-right q o' w = rw (sym (holds-all m d) ∙ sym e ∙ q) record { answer = refl; output = w ∙ ap (λ z. put 0 z o) (take_all (length d) d (omega arith)) }

  pub told-wrong : h ≡ false → Hands (Err BadChecksum) o o (tested m d)
  unfolding tested
  told-wrong q = rw (sym (holds-all m d) ∙ sym e ∙ q) record { answer = refl; output = refl }
