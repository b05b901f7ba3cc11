-- An unfragmented datagram has 40 to 455 bytes.
use Rattle.std.specs.Prelude.{Some, None}
use Prim.Native.Nat.{ℕ, ◌≤◌}
use mathlib.Core.Path.{◌≡◌, refl}
use mathlib.Core.Bool.{Bool, true, false}
use mathlib.Core.List.{List}
use lib.ListN.{length, drop}
use lib.Dec.{eqb}
use Rattle.octets.specs.Read.{Answer, is, refused, and_then, choose}
use Rattle.sixlowpan.specs.declared.dispatch.SixlowpanPacket.{SixlowpanPacket}
use Rattle.sixlowpan.specs.declared.dispatch.SixlowpanPacket.TheVariants.{FragmentHeader, IphcHeader}
use Rattle.sixlowpan.specs.Dispatch.{dispatch}
use Rattle.sixlowpan.specs.Frag.{frag}
use Rattle.sixlowpan.specs.declared.frag.Repr.{Repr}
use Rattle.sixlowpan.specs.declared.frag.Repr.TheVariants.{FirstFragment, Fragment}
use Rattle.expand.specs.Sum.{no_sum}
use Rattle.expand.specs.Expand.{expansion}
use Rattle.expand.proofs.Datagrams.{expansion-made, at-least-40, at-most-455}
use Rattle.incoming.specs.Incoming.{Brought, datagram, part, whole, piece, fragment, by_kind, payload}
use Rattle.incoming.specs.declared.arrival.Arrival.{Arrival}

then-all : {A B : Type 0} (P : Answer B → Type 0) (m : Answer A) (k : A → Answer B) → ((n : ℕ) → P (refused n)) → ((a : A) → m ≡ is a → P (k a)) → P (and_then m k)
then-all P (is a) k f g = g a refl
then-all P (refused n) k f g = f n

-- a whole datagram
abbrev pub SizedBrought : Answer Brought → Type 0
SizedBrought (is (datagram d m)) = (40 ≤ length d) × (length d ≤ 455)
SizedBrought (is (part size tag u bs e)) = Unit {0}
SizedBrought (refused n) = Unit {0}

either : (b : Bool) (x y : Answer Brought) → SizedBrought x → SizedBrought y → SizedBrought (choose b x y)
either true x y h k = h
either false x y h k = k

module _ (ctx : List ℕ) (a : Arrival) (s : List ℕ) where
  whole-sized : SizedBrought (whole ctx a s)
  unfolding whole
  whole-sized =
      then-all SizedBrought (expansion ctx (Some a.src) (Some a.dst) None s a.payload.at) _ (λ n. tt)
      (λ e q.
      let made = expansion-made ctx _ _ _ s a.payload.at e q in
      (at-least-40 ctx _ _ _ s a.payload.at e made, at-most-455 ctx _ _ _ s a.payload.at e made))

  piece-sized : (h : Repr) (next : ℕ) → SizedBrought (piece ctx a h next s)
  unfolding piece
  piece-sized (FirstFragment size tag) next =
      then-all SizedBrought (expansion ctx (Some a.src) (Some a.dst) (Some size) s next) _ (λ n. tt) (λ e q. tt)
  piece-sized (Fragment size tag o) next = either (eqb o.0 0) (refused 10) (is (part size tag o.0 (drop next s) no_sum)) tt tt

  kind-sized : (k : SixlowpanPacket) → SizedBrought (by_kind k ctx a s)
  unfolding fragment
  kind-sized FragmentHeader = then-all SizedBrought (frag s a.payload.at) _ (λ n. tt) (λ p q. piece-sized p.value p.next)
  kind-sized IphcHeader = whole-sized

  pub payload-sized : SizedBrought (payload ctx a s)
  unfolding payload
  payload-sized = then-all SizedBrought (dispatch s a.payload.at) _ (λ n. tt) (λ k q. kind-sized k)
