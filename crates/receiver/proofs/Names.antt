-- What a frame brings: its own time, and where it brings a part, one under the key that its headers name.
use Prim.Native.Nat.{ℕ}
use native.Mathlib.Omega.{arith}
use mathlib.Core.Path.{◌≡◌, refl, sym, ap, ap₂, ◌∙◌}
use mathlib.Core.Logic.{◌⊎◌}
use mathlib.Core.List.{List}
use lib.ListN.{length}
use Rattle.octets.specs.Read.{Answer, is, refused}
use Rattle.expand.specs.Sum.{holds}
use Rattle.expand.specs.declared.checksum.UdpSum.{UdpSum}
use Rattle.incoming.specs.Incoming.{arrival, Brought, datagram, payload}
use Rattle.incoming.specs.Incoming as Incoming
use Rattle.incoming.specs.declared.arrival.Arrival.{Arrival}
use Rattle.incoming.proofs.Names.{Headed, part-header}
use Rattle.incoming.proofs.Sized.{SizedBrought, payload-sized}
use Rattle.reassembly.specs.Slots.{node_of, addressed}
use Rattle.reassembly.specs.Parts as Parts
use Rattle.reassembly.specs.Parts.{Part}
use Rattle.reassembly.specs.Table.{Call, short, other, from, part, room_call, lent_call, step, At, after}
use Rattle.reassembly.specs.declared.table.Table.{Table}
use Rattle.reassembly.specs.declared.slot.Key.{Key}
use Rattle.reassembly.proofs.Tests.{by-test}
use Rattle.reassembly.proofs.Lent.{not-part, room_after, room-part}
use Rattle.reassembly.proofs.Runs.{at_after}
use Rattle.reassembly.proofs.Sized.{Sized, SizedCall, lent-sized}
use Rattle.receiver.specs.Receive.{key_of, content, tested, brings, carries, frame_call, call_of}
use Rattle.receiver.specs.Names.{named}

-- ---- a part that a call brings, and its time

abbrev time_in : Call → ℕ
time_in short = 0
time_in (other t a) = t
time_in (from t g a) = t
time_in (part t p) = t

abbrev key_in : Key → Call → Key
key_in k short = k
key_in k (other t a) = k
key_in k (from t g a) = k
key_in k (part t p) = p.key

-- ---- a frame that brings a part

-- the part p, at the time t, from the frame s
pub record Comes (t : ℕ) (s : List ℕ) (u : ℕ) (p : Part) : Type 0 where
  pub time : u ≡ t
  pub name : named s ≡ is p.key

named-is : (s : List ℕ) (a : Arrival) (size tag : ℕ) → arrival s ≡ is a → Headed s a.payload.at size tag → named s ≡ is (key_of a size tag)
unfolding named
named-is s a size tag e H = rw (e, H.header) (ap₂ (λ (x y : ℕ). is (key_of a x y)) H.size_is H.tag_is)

module _ (ctx : List ℕ) (t : ℕ) (s : List ℕ) (u : ℕ) (p : Part) where
  brings-part : (a : Arrival) → arrival s ≡ is a → brings t a (payload ctx a s) ≡ part u p → Comes t s u p
  brings-part a q e = go (payload ctx a s) refl e
    where
      go : (r : Answer Brought) → payload ctx a s ≡ r → brings t a r ≡ part u p → Comes t s u p
      go (is (datagram d m)) f e = not-part _ u p refl e
      go (is (Incoming.part size tag v bs el)) f e =
          let k : key_of a size tag ≡ p.key = ap (key_in (key_of a size tag)) e in
          record {
            time = sym (ap time_in e);
            name = named-is s a size tag q (part-header ctx a s size tag v bs el f) ∙ ap is k;
          }
      go (refused n) f e = not-part _ u p refl e

  pub frame-part : frame_call ctx t s ≡ part u p → Comes t s u p
  unfolding frame_call content
  frame-part e = go (arrival s) refl e
    where
      go : (r : Answer Arrival) → arrival s ≡ r → carries t ctx s r ≡ part u p → Comes t s u p
      go (is a) q e = by-test (addressed (node_of a.dst)) (λ y. brings-part a q (rw y at e)) (λ y. not-part _ u p refl (rw y at e))
      go (refused n) q e = not-part _ u p refl e

-- ---- its time

pub call-of : (m o ctx : List ℕ) (t : ℕ) (s : List ℕ) → lent_call m o (frame_call ctx t s) ≡ call_of m o ctx t s
unfolding call_of
call-of m o ctx t s = refl

pub frame_at : (ctx : List ℕ) (t : ℕ) (s : List ℕ) → At (frame_call ctx t s) t
unfolding frame_call
frame_at ctx t s = go (arrival s)
  where
    bring : (a : Arrival) (r : Answer Brought) → At (brings t a r) t
    bring a (is (datagram d m)) = refl
    bring a (is (Incoming.part size tag v bs el)) = refl
    bring a (refused r) = refl

    go : (r : Answer Arrival) → At (carries t ctx s r) t
    go (is a) = bring a (content ctx a s)
    go (refused r) = refl

-- ---- with the output o, where enough memory is lent

module _ (o ctx : List ℕ) (t : ℕ) (s : List ℕ) where
  -- a call that is refused 7 takes no time; every other takes its own
  pub call-after : (n : ℕ) → (after n (room_call o (frame_call ctx t s)) ≡ n) ⊎ (after n (room_call o (frame_call ctx t s)) ≡ t)
  call-after n = rw (at_after (frame_call ctx t s) n t (frame_at ctx t s)) at (room_after o (frame_call ctx t s) n)

  pub call-part : (u : ℕ) (p : Part) → room_call o (frame_call ctx t s) ≡ part u p → Comes t s u p
  call-part u p e = frame-part ctx t s u p (room-part o (frame_call ctx t s) u p e).0

-- ---- how long a datagram is that is handed out
tested-sized : (m : UdpSum) (d : List ℕ) → Sized (Parts.out d) → Sized (tested m d)
unfolding tested
tested-sized m d z = by-test (holds m d) (λ e. rw e z) (λ e. rw e tt)

brings-sized : (t : ℕ) (a : Arrival) (b : Answer Brought) → SizedBrought b → SizedCall (brings t a b)
brings-sized t a (is (datagram d m)) h = tested-sized m d (h.0, omega (arith, h.1))
brings-sized t a (is (Incoming.part size tag v bs el)) h = tt
brings-sized t a (refused r) h = tt

content-sized : (ctx : List ℕ) (a : Arrival) (s : List ℕ) → SizedBrought (content ctx a s)
unfolding content
content-sized ctx a s = by-test (addressed (node_of a.dst)) (λ e. rw e (payload-sized ctx a s)) (λ e. rw e tt)

frame-sized : (ctx : List ℕ) (t : ℕ) (s : List ℕ) → SizedCall (frame_call ctx t s)
unfolding frame_call
frame-sized ctx t s = go (arrival s)
  where
    go : (r : Answer Arrival) → SizedCall (carries t ctx s r)
    go (is a) = brings-sized t a (content ctx a s) (content-sized ctx a s)
    go (refused r) = tt

pub call-sized : (tb : Table) (m o ctx : List ℕ) (t : ℕ) (s : List ℕ) → length tb.slots ≡ 8 → Sized (step (record { table = tb; mem = m }) (call_of m o ctx t s)).reply
unfolding call_of
call-sized tb m o ctx t s eight = lent-sized tb m o (frame_call ctx t s) eight (frame-sized ctx t s)
