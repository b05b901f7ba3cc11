-- The change requests, item 7: a datagram that is handed out, whose checksum was carried and tested, has a right one. It is tested where its two
-- headers stand in the datagram (`stands`), and right is RFC 768's sum over pseudo-header, UDP header and data (`Right`, expand/proofs/Tested.antt).
use Prim.Native.Nat.{ℕ, ◌+◌}
use native.Mathlib.Omega.{arith}
use mathlib.Core.Path.{◌≡◌, refl, sym, ap, subst, ◌∙◌}
use mathlib.Core.Bool.{true}
use mathlib.Core.List.{List}
use lib.ListN.{length}
use borrow.Author.Tests.{eq-eqb, ne_eqb, eqb-true}
use Rattle.expand.specs.Sum.{stands, be16_at, checksum_at, summed_by, holds}
use Rattle.expand.specs.declared.checksum.UdpSum.{UdpSum}
use Rattle.expand.proofs.SumLaws.{Bytes, stands-facts}
use Rattle.expand.proofs.Tested.{Right, holds-right}
use Rattle.reassembly.specs.Parts as Parts
use Rattle.reassembly.specs.Parts.{Part, Reply}
use Rattle.reassembly.specs.Cover.{MadeOf}
use Rattle.reassembly.specs.declared.slot.Key.{Key}
use Rattle.reassembly.specs.declared.slot.Source.{Source}
use Rattle.reassembly.proofs.Tests.{by-test}
use Rattle.receiver.specs.Receive.{tested}
use Rattle.promises.specs.Frames.{Turn, HandedOut}

module _ (m : UdpSum) (d : List ℕ) (carried : m.kind ≡ 2) where
  not-summed : summed_by m d ≡ d
  unfolding summed_by
  not-summed = rw (ne_eqb m.kind 1 (λ e. omega arith)) refl

  module _ (st : stands m (length d) ≡ true) where
    same_number : holds m d ≡ true → be16_at (m.udp + 6) d ≡ checksum_at m.ip m.udp d
    unfolding holds
    same_number e = eqb-true _ _ (rw (eq-eqb m.kind 2 carried, st) at e)

    is_right : Bytes d → holds m d ≡ true → Right m.ip m.udp d
    is_right b e =
        let f = stands-facts m (length d) st in
        holds-right m.ip m.udp d (omega (arith, f)) (omega (arith, f)) (omega (arith, f)) b (same_number e)

-- put together from parts
pub made-right : (k : Key) (hs : List Part) (d : List ℕ) (M : MadeOf k hs d) → M.sum.kind ≡ 2 → stands M.sum (length d) ≡ true → Bytes d → Right M.sum.ip M.sum.udp d
made-right k hs d M c st b =
    let same : M.d₀ ≡ d = sym (M.made ∙ not-summed M.sum M.d₀ c) in
    is_right M.sum d c st b (subst (λ z. holds M.sum z ≡ true) same M.right)

-- of every call on a part that hands out, by `never-meet`
pub handed-right : (gs : List Source) (m : List ℕ) (k : Key) (hs : List Turn) (h : Turn) (n : ℕ) (H : HandedOut gs m k hs h n)
    → H.made.sum.kind ≡ 2 → stands H.made.sum (length H.datagram) ≡ true → Bytes H.datagram
    → Right H.made.sum.ip H.made.sum.udp H.datagram
handed-right gs m k hs h n H = made-right k _ H.datagram H.made

abbrev out_of : List ℕ → Reply (List ℕ) → List ℕ
out_of x Parts.kept = x
out_of x (Parts.out d) = d
out_of x (Parts.refused n) = x

abbrev kind_of : Reply (List ℕ) → ℕ
kind_of Parts.kept = 0
kind_of (Parts.out d) = 0
kind_of (Parts.refused n) = 1

-- that came whole
pub whole-right : (m : UdpSum) (d d' : List ℕ) → tested m d ≡ Parts.out d' → m.kind ≡ 2 → stands m (length d) ≡ true → Bytes d → (d ≡ d') × Right m.ip m.udp d
unfolding tested
whole-right m d d' e c st b =
    by-test (holds m d)
    (λ h. (ap (out_of d) (rw h at e), is_right m d c st b h))
    (λ h. let z : ◌≡◌ {A = ℕ} 1 0 = ap kind_of (rw h at e) in absurd (omega arith))
