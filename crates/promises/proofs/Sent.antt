-- The frames of a cutting that we send, as the receiver's definitions read them: each brings its piece.
use Rattle.std.specs.Prelude.{Some}
use Prim.Native.Nat.{ℕ, ◌/◌, ◌≤◌, ◌<◌}
use native.Mathlib.Omega.{arith}
use mathlib.Core.List.{List, ◌++◌}
use mathlib.Core.Bool.{true}
use mathlib.Core.Path.{◌≡◌, refl, ◌∙◌}
use lib.ListN.{length}
use borrow.Author.Tests.{ne_eqb}
use Rattle.octets.specs.Read.{is}
use Rattle.octets.proofs.Steps.{and-true}
use Rattle.ieee802154.specs.Address.{is_present}
use Rattle.ieee802154.specs.declared.addr.Address.{Address}
use Rattle.ieee802154.specs.declared.addr.Address.TheVariants.{Absent, Short, Extended}
use Rattle.ieee802154.proofs.RoundTrips.{no-elements}
use Rattle.sixlowpan.specs.Dispatch.{dispatch}
use Rattle.sixlowpan.specs.declared.dispatch.SixlowpanPacket.{SixlowpanPacket}
use Rattle.sixlowpan.specs.declared.dispatch.SixlowpanPacket.TheVariants.{FragmentHeader, IphcHeader}
use Rattle.expand.proofs.SumLaws.{Bytes}
use Rattle.incoming.specs.Incoming.{framed, whole, piece, fragment, payload}
use Rattle.incoming.specs.declared.arrival.Arrival.{Arrival}
use Rattle.incoming.proofs.Relayed.{direct, dispatched}
use Rattle.reassembly.specs.Slots.{node_of, addressed}
use Rattle.receiver.specs.Receive.{key_of, content, frame_call, brings}
use Rattle.cutting.specs.Fields.{is_ours}
use Rattle.cutting.specs.Head.{mac_of, mac_length}
use Rattle.cutting.specs.Pieces.{pieces}
use Rattle.cutting.specs.Cut.{plan_of, middle, part_of, frame_of, has_both}
use Rattle.cutting.specs.declared.link.Link.{Link}
use Rattle.cutting.specs.declared.piece.Piece.{Piece}
use Rattle.cutting.specs.declared.piece.Piece.TheVariants.{Whole, First, Later}
use Rattle.cutting.specs.Cut.{Ready}
use Rattle.cutting.proofs.Backs.{ours-facts}
use Rattle.cutting.proofs.Tiling.{Each, FirstPart, whole-within, first-within, later-within, pieces-each}
use Rattle.cutting.proofs.Trips.{frame-mac, whole-dispatch, first-dispatch, later-dispatch, whole-expands, first_frag, later-frag, first-expands, later-part}
use Rattle.promises.specs.Sent.{call_for}

present-node : (a : Address) → is_present a ≡ true → addressed (node_of a) ≡ true
unfolding addressed
present-node Absent e = cc
present-node (Short a) e = refl
present-node (Extended a) e = refl

dst-present : (l : Link) → has_both l ≡ true → addressed (node_of l.dst) ≡ true
unfolding has_both
dst-present l e = present-node l.dst (and-true (is_present l.src) (is_present l.dst) e).1

-- a datagram that is cut: every number of it is a byte, and nothing is refused
pub record Cuts (l : Link) (d : List ℕ) : Type 0 where
  pub bytes : Bytes d
  pub ready : Ready l d
  pub both : has_both l ≡ true
  pub ours : is_ours d ≡ true

module _ (l : Link) (d : List ℕ) (K : Cuts l d) (ctx : List ℕ) (t : ℕ) where
  abbrev arrived : Arrival
  arrived = record { src = l.src; pan = Some l.pan; dst = l.dst; payload = record { at = mac_length l } }

  -- its MAC header is read; behind it stands what dispatch knows, so neither header of a relay
  bare : (p : Piece) → length (frame_of l d p) ≤ l.limit → framed (frame_of l d p) ≡ is arrived
  unfolding framed frame_of
  bare p h = rw (frame-mac l d p K.both (omega (arith, K.ready.3)), no-elements (mac_of l) (middle l d p ++ part_of d p)) refl

  called : (p : Piece) (k : SixlowpanPacket) → length (frame_of l d p) ≤ l.limit → dispatch (frame_of l d p) (mac_length l) ≡ is k
      → frame_call ctx t (frame_of l d p) ≡ brings t arrived (payload ctx arrived (frame_of l d p))
  unfolding frame_call content
  called p k h e = rw (direct (frame_of l d p) arrived (bare p h) (dispatched (frame_of l d p) (mac_length l) k e), dst-present l K.both) refl

  whole-brings : length (frame_of l d Whole) ≤ l.limit → frame_call ctx t (frame_of l d Whole) ≡ call_for l d t Whole
  unfolding payload whole
  whole-brings h = called Whole IphcHeader h (whole-dispatch l d) ∙ rw (whole-dispatch l d, whole-expands l d ctx K.bytes (ours-facts d K.ours) K.ready.0 (omega (arith, K.ready.3))) refl

  first-brings : (n : ℕ) → FirstPart l d n → length (frame_of l d (First n)) ≤ l.limit → frame_call ctx t (frame_of l d (First n)) ≡ call_for l d t (First n)
  unfolding payload fragment piece key_of
  first-brings n f h =
      called (First n) FragmentHeader h (first-dispatch l d n)
      ∙ rw (first-dispatch l d n, first_frag l d n K.ready.1, first-expands l d ctx n K.bytes (ours-facts d K.ours) K.ready.0 (omega (arith, K.ready.3)) (omega (arith, f.ends))) refl

  later-brings : (at n : ℕ) → 8 ≤ at → at < 2048 → length (frame_of l d (Later at n)) ≤ l.limit → frame_call ctx t (frame_of l d (Later at n)) ≡ call_for l d t (Later at n)
  unfolding payload fragment piece key_of
  later-brings at n a b h =
      let z : (at / 8 ≡ 0) → ⊥ = λ q. omega arith in
      called (Later at n) FragmentHeader h (later-dispatch l d at n) ∙ rw (later-dispatch l d at n, later-frag l d at n K.ready.1 b, ne_eqb (at / 8) 0 z, later-part l d at n) refl

  -- every frame brings its piece
  pub frames-bring : Each (λ p. frame_call ctx t (frame_of l d p) ≡ call_for l d t p) (pieces (plan_of l d))
  frames-bring =
      pieces-each l d K.ready (λ p. frame_call ctx t (frame_of l d p) ≡ call_for l d t p)
      (λ q. whole-brings (whole-within l d K.ready q))
      (λ n f. first-brings n f (first-within l d K.ready n f.held))
      (λ least at n b g. later-brings at n (omega (arith, g.begins, g.aligned)) (omega (arith, g.ends, g.some, K.ready.1)) (later-within l d K.ready at n g.held))
