-- What a step of a chain, read in code, says of the definition's next step. `search` proves from these a `returns` of the readers of chain.rt.
use Prim.Native.Nat.{ℕ, ◌+◌, ◌-◌}
use mathlib.Core.Bool.{Bool, true, false}
use mathlib.Core.List.{List}
use mathlib.Core.Path.{◌≡◌, refl, sym, ap, ◌∙◌}
use lib.ListN.{length, take, drop}
use lib.Dec.{leb}
use native.Mathlib.Omega.{arith}
use Rattle.octets.proofs.Spans.{not-refused}
use Rattle.expand.proofs.Inverting.{got-next}
use borrow.Author.Tests.{eq-eqb, ne_eqb}
use Rattle.octets.specs.Read.{Answer, is, refused, Placed, Read, got, and_then, choose, skip}
use Rattle.octets.specs.declared.cursor.Cursor.{Cursor}
use Rattle.sixlowpan.specs.Nhc.{nhc}
use Rattle.sixlowpan.specs.declared.protocol.NextHeader.{NextHeader}
use Rattle.sixlowpan.specs.declared.nhc.NhcPacket.{NhcPacket}
use Rattle.sixlowpan.specs.declared.nhc.NhcPacket.TheVariants.{ExtHeader, UdpHeader}
use Rattle.sixlowpan.specs.declared.nhc.ExtHeaderId.{ExtHeaderId}
use Rattle.expand.specs.Chain.{Link, ext_link, id_at, octets, ext_kind, udp_step, link_of}

-- ---- a step of a chain
-- so many bytes, from a call that passes over them
skip-past : (n : ℕ) (s : List ℕ) (at to : ℕ) → got {A = Unit {0}} tt to ≡ skip n s at → n ≡ to - at
unfolding skip
skip-past n s at to e = go (leb (at + n) (length s)) e
  where
    go : (t : Bool) → got {A = Unit {0}} tt to ≡ choose t (got tt (at + n)) (refused 1) → n ≡ to - at
    go true g = let z : to ≡ at + n = got-next {A = Unit {0}} tt tt to (at + n) g in omega arith
    go false g = not-refused _ 1 (sym g)

pub on-octets : {B : Type 0} {r : Answer B} (c : Cursor) (n : ℕ) (s : List ℕ) (at : ℕ) (k : Placed (List ℕ) → Answer B) → got {A = Unit {0}} tt c.at ≡ skip n s at → r ≡ k (record { value = take (c.at - at) (drop at s); next = c.at }) → r ≡ and_then (octets n s at) k
unfolding octets
on-octets c n s at k p e =
    let z : n ≡ c.at - at = skip-past n s at c.at p in
    rw (← p, z) e

pub no-octets : {B : Type 0} (x n : ℕ) (s : List ℕ) (at : ℕ) (k : Placed (List ℕ) → Answer B) → refused x ≡ skip n s at → refused x ≡ and_then (octets n s at) k
unfolding octets
no-octets x n s at k p = rw (← p) refl

pub link-told : (x y : ℕ) (d : List ℕ) (next : NextHeader) (at : ℕ) → x ≡ y → got (ext_link x d next) at ≡ got (ext_link y d next) at
link-told x y d next at h = ap (λ z. got (ext_link z d next) at) h

pub step-udp : (k : NhcPacket) (r : Read Link) (left : ℕ) (s : List ℕ) (at : ℕ) → k ≡ UdpHeader → r ≡ udp_step s at → r ≡ link_of k left s at
unfolding link_of
step-udp k r left s at q e = rw q e

pub step-ninth : (k : NhcPacket) (left : ℕ) (s : List ℕ) (at : ℕ) → k ≡ ExtHeader → left ≡ 0 → refused 3 ≡ link_of k left s at
unfolding link_of
step-ninth k left s at q e = rw (q, eq-eqb left 0 e) refl

pub step-ext : {id : ExtHeaderId} (k : NhcPacket) (r : Read Link) (left : ℕ) (s : List ℕ) (at : ℕ) → k ≡ ExtHeader → (left ≡ 0 → ⊥) → id ≡ id_at s at → r ≡ ext_kind id s at → r ≡ link_of k left s at
unfolding link_of
step-ext k r left s at q n i e = rw (q, ne_eqb left 0 n) (e ∙ ap (λ z. ext_kind z s at) i)

-- the header in front of which a step stands was told
pub on-nhc : {B : Type 0} {r : Answer B} (k : NhcPacket) (s : List ℕ) (at : ℕ) (f : NhcPacket → Answer B) → is k ≡ nhc s at → r ≡ f k → r ≡ and_then (nhc s at) f
on-nhc k s at f p e = rw (← p) e

pub ruleset chain_steps = (step-udp, step-ninth, step-ext)
