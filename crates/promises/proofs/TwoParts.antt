-- The cutting of a datagram in two: all before a unit of 8 bytes, and the rest.
use Prim.Native.Nat.{ℕ, ◌+◌, ◌*◌, ◌-◌, ◌≤◌, ◌<◌}
use native.Mathlib.Omega.{arith}
use mathlib.Core.Path.{◌≡◌, refl, ap, ◌∙◌}
use mathlib.Core.Logic.{inl, inr}
use mathlib.Core.Bool.{true}
use Rattle.expand.specs.Sum.{no_sum, holds}
use Rattle.expand.specs.declared.checksum.UdpSum.{UdpSum}
use mathlib.Core.List.{List, [], ◌∷◌}
use lib.ListN.{length, get_or, take, drop, length-drop}
use lib.Seq.{get_or-take, get_or-drop, length-take-le}
use Rattle.reassembly.specs.Parts.{Part, part_of, fits, finish}
use Rattle.reassembly.specs.declared.slot.Key.{Key}
use Rattle.reassembly.proofs.Tests.{by_order}
use Rattle.reassembly.specs.Cover.{In, Has, Covers}
use Rattle.promises.specs.Cuttings.{zeroed, Cutting}
use Rattle.promises.proofs.Filling.{length-zeroed}

-- d in two from unit u on, under k; e: what is remembered of its checksum
abbrev pub low : Key → List ℕ → ℕ → UdpSum → Part
low k d u e = part_of k 0 e (take (u * 8) (zeroed e d))

abbrev pub high : Key → List ℕ → ℕ → UdpSum → Part
high k d u e = part_of k u no_sum (drop (u * 8) (zeroed e d))

module _ (k : Key) (d : List ℕ) (u : ℕ) (e : UdpSum) (sized : length d ≡ k.size) (inside : u * 8 < length d) (some : 1 ≤ u) where
  two {ℓ} : (P : Part → Type ℓ) → P (low k d u e) → P (high k d u e) → (p : Part) → In p (low k d u e ∷ high k d u e ∷ []) → P p
  two P a b p (inl z) = rw z a
  two P a b p (inr (inl z)) = rw z b
  two P a b p (inr (inr z)) = absurd z

  low-length : length (low k d u e).bytes ≡ u * 8
  low-length = length-take-le (u * 8) (zeroed e d) (omega (arith, length-zeroed e d))

  high-length : length (high k d u e).bytes ≡ k.size - u * 8
  high-length = length-drop (u * 8) (zeroed e d) ∙ omega (arith, length-zeroed e d)

  disjoint : {X : Type 0} (x : ℕ) → Has (low k d u e) x → Has (high k d u e) x → X
  disjoint x a b = absurd (omega (arith, low-length, a.1, b.0))

  low-bytes : (x : ℕ) → Has (low k d u e) x → get_or (low k d u e).bytes (x - 0 * 8) 0 ≡ get_or (zeroed e d) x 0
  low-bytes x h =
      let z : x - 0 * 8 ≡ x = omega arith in
      ap (λ (i : ℕ). get_or (take (u * 8) (zeroed e d)) i 0) z ∙ get_or-take (u * 8) (zeroed e d) x 0 (omega (arith, low-length, h.1))

  high-bytes : (x : ℕ) → Has (high k d u e) x → get_or (high k d u e).bytes (x - u * 8) 0 ≡ get_or (zeroed e d) x 0
  high-bytes x h =
      let z : u * 8 + (x - u * 8) ≡ x = omega (arith, h.0) in
      get_or-drop (u * 8) (zeroed e d) (x - u * 8) 0 ∙ ap (λ (i : ℕ). get_or (zeroed e d) i 0) z

  pub halves-cover : (ps : List Part) → In (low k d u e) ps → In (high k d u e) ps → Covers k.size ps
  halves-cover ps a b x h = by_order (u * 8) x
      (λ g. (high k d u e, b, (g, omega (arith, high-length))))
      (λ g. (low k d u e, a, (omega arith, omega (arith, low-length))))

  -- without the one or the other they do not
  pub low-missing : (ps : List Part) → ((p : Part) → In p ps → p ≡ high k d u e) → Covers k.size ps → ⊥
  low-missing ps f c =
      let w = c 0 (omega arith) in
      let g : Has (high k d u e) 0 = rw (f w.0 w.1) at w.2 in
      omega (arith, g.0)

  pub high-missing : (ps : List Part) → ((p : Part) → In p ps → p ≡ low k d u e) → Covers k.size ps → ⊥
  high-missing ps f c =
      let w = c (u * 8) (omega arith) in
      let g : Has (low k d u e) (u * 8) = rw (f w.0 w.1) at w.2 in
      omega (arith, low-length, g.1)

  module _ (a : fits (low k d u e) ≡ true) (b : fits (high k d u e) ≡ true) (s : finish e (zeroed e d) ≡ d) (r : holds e (zeroed e d) ≡ true) where
    pub halves : Cutting k d
    halves = record {
      parts = low k d u e ∷ high k d u e ∷ [];
      sum = e;
      sized = sized;
      keyed = two (λ p. p.key ≡ k) refl refl;
      pass10 = two (λ p. fits p ≡ true) a b;
      apart = λ p q mp mq. two (λ p'. (x : ℕ) → Has p' x → Has q x → p' ≡ q)
          (two (λ q'. (x : ℕ) → Has (low k d u e) x → Has q' x → low k d u e ≡ q') (λ x h g. refl) (λ x h g. disjoint x h g) q mq)
          (two (λ q'. (x : ℕ) → Has (high k d u e) x → Has q' x → high k d u e ≡ q') (λ x h g. disjoint x g h) (λ x h g. refl) q mq) p mp;
      fill = halves-cover (low k d u e ∷ high k d u e ∷ []) (inl refl) (inr (inl refl));
      bytes = two (λ p. (x : ℕ) → Has p x → get_or p.bytes (x - p.unit * 8) 0 ≡ get_or (zeroed e d) x 0) low-bytes high-bytes;
      flag = two (λ p. p.unit ≡ 0 → p.sum ≡ e) (λ z. refl) (λ z. absurd (omega arith));
      summed = s;
      right = r;
    }

    pub low-in : In (low k d u e) halves.parts
    unfolding halves
    low-in = inl refl

    pub high-in : In (high k d u e) halves.parts
    unfolding halves
    high-in = inr (inl refl)
