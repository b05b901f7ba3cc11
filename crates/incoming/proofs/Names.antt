-- A frame that brings a part has a fragment header, and the part has its size and tag.
use Rattle.std.specs.Prelude.{Some, None}
use Prim.Native.Nat.{ℕ}
use native.Mathlib.Omega.{arith}
use mathlib.Core.Path.{◌≡◌, refl, ap}
use mathlib.Core.Bool.{Bool, true, false}
use mathlib.Core.List.{List}
use lib.ListN.{drop}
use lib.Dec.{eqb}
use Rattle.octets.specs.Read.{Answer, is, refused, Placed, and_then, choose}
use Rattle.octets.proofs.Spans.{not-refused}
use Rattle.sixlowpan.specs.Dispatch.{dispatch}
use Rattle.sixlowpan.specs.Frag.{frag, size_of, tag_of}
use Rattle.sixlowpan.specs.declared.dispatch.SixlowpanPacket.{SixlowpanPacket}
use Rattle.sixlowpan.specs.declared.dispatch.SixlowpanPacket.TheVariants.{FragmentHeader, IphcHeader}
use Rattle.sixlowpan.specs.declared.frag.Repr.{Repr}
use Rattle.sixlowpan.specs.declared.frag.Repr.TheVariants.{FirstFragment, Fragment}
use Rattle.expand.specs.Sum.{no_sum}
use Rattle.expand.specs.Expand.{Expansion, expansion}
use Rattle.expand.specs.declared.checksum.UdpSum.{UdpSum}
use Rattle.incoming.specs.Incoming.{Brought, datagram, part, whole, piece, fragment, by_kind, payload}
use Rattle.incoming.specs.declared.arrival.Arrival.{Arrival}

-- the fragment header at a place, which says size and tag
pub record Headed (s : List ℕ) (at size tag : ℕ) : Type 0 where
  pub placed : Placed Repr
  pub header : frag s at ≡ is placed
  pub size_is : size_of placed.value ≡ size
  pub tag_is : tag_of placed.value ≡ tag

abbrev size_in : Answer Brought → ℕ
size_in (is (part size tag u bs e)) = size
size_in (is (datagram d m)) = 0
size_in (refused n) = 0

abbrev tag_in : Answer Brought → ℕ
tag_in (is (part size tag u bs e)) = tag
tag_in (is (datagram d m)) = 0
tag_in (refused n) = 0

-- a datagram is no part
abbrev kind_of : Answer Brought → ℕ
kind_of (is (datagram d m)) = 0
kind_of (is (part size tag u bs e)) = 1
kind_of (refused n) = 2

no-datagram : {X : Type 0} (d : List ℕ) (m : UdpSum) (size tag u : ℕ) (bs : List ℕ) (e : UdpSum) → ◌≡◌ {A = Answer Brought} (is (datagram d m)) (is (part size tag u bs e)) → X
no-datagram d m size tag u bs e q = let z : ◌≡◌ {A = ℕ} 0 1 = ap kind_of q in absurd (omega arith)

module _ (ctx : List ℕ) (a : Arrival) (s : List ℕ) (size tag u : ℕ) (bs : List ℕ) (e : UdpSum) where
  no_whole : {X : Type 0} → whole ctx a s ≡ is (part size tag u bs e) → X
  unfolding whole
  no_whole q = go (expansion ctx (Some a.src) (Some a.dst) None s a.payload.at) q
    where
      go : {X : Type 0} (r : Answer Expansion) → and_then r (λ x. is (datagram x.bytes x.sum)) ≡ is (part size tag u bs e) → X
      go (is x) q = no-datagram x.bytes x.sum size tag u bs e q
      go (refused n) q = not-refused (part size tag u bs e) n q

  piece-header : (h : Repr) (n : ℕ) → piece ctx a h n s ≡ is (part size tag u bs e) → (size_of h ≡ size) × (tag_of h ≡ tag)
  unfolding piece
  piece-header (FirstFragment size' tag') n q = go (expansion ctx (Some a.src) (Some a.dst) (Some size') s n) q
    where
      go : (r : Answer Expansion) → and_then r (λ x. is (part size' tag' 0 x.bytes x.sum)) ≡ is (part size tag u bs e) → (size' ≡ size) × (tag' ≡ tag)
      go (is x) q = (ap size_in q, ap tag_in q)
      go (refused n) q = not-refused (part size tag u bs e) n q
  piece-header (Fragment size' tag' o) n q = go (eqb o.0 0) q
    where
      go : (b : Bool) → choose b (refused 10) (is (part size' tag' o.0 (drop n s) no_sum)) ≡ is (part size tag u bs e) → (size' ≡ size) × (tag' ≡ tag)
      go true q = not-refused (part size tag u bs e) 10 q
      go false q = (ap size_in q, ap tag_in q)

  fragment-header : fragment ctx a s ≡ is (part size tag u bs e) → Headed s a.payload.at size tag
  unfolding fragment
  fragment-header q = go (frag s a.payload.at) refl q
    where
      go : (r : Answer (Placed Repr)) → frag s a.payload.at ≡ r → and_then r (λ p. piece ctx a p.value p.next s) ≡ is (part size tag u bs e) → Headed s a.payload.at size tag
      go (is p) f q = let w = piece-header p.value p.next q in record { placed = p; header = f; size_is = w.0; tag_is = w.1 }
      go (refused n) f q = not-refused (part size tag u bs e) n q

  pub part-header : payload ctx a s ≡ is (part size tag u bs e) → Headed s a.payload.at size tag
  unfolding payload
  part-header q = go (dispatch s a.payload.at) q
    where
      go : (r : Answer SixlowpanPacket) → and_then r (λ k. by_kind k ctx a s) ≡ is (part size tag u bs e) → Headed s a.payload.at size tag
      go (is FragmentHeader) q = fragment-header q
      go (is IphcHeader) q = no_whole q
      go (refused n) q = not-refused (part size tag u bs e) n q
