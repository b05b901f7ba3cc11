-- The gateway list as numbers, and what `words::begin` makes of it.
use Rattle.std.specs.Prelude.{Result, Ok, Err}
use Prim.Native.Nat.{ℕ, zero, suc, ◌+◌, ◌*◌, ◌/◌, ◌%◌, ◌≤◌, ◌<◌}
use native.Mathlib.Omega.{arith}
use mathlib.Core.Path.{◌≡◌, refl, sym, ap, ◌∙◌}
use mathlib.Core.Bool.{true, false}
use mathlib.Core.List.{List, [], ◌∷◌, map}
use lib.ListN.{length, get_or, take}
use lib.Seq.{take-length}
use Rattle.octets.specs.Refusal.{number_of}
use Rattle.octets.specs.declared.refusal.Refusal.{Refusal}
use Rattle.reassembly.specs.Fresh.{gate_of, sources, refused_list, fresh, made, Gateways, Begins}
use Rattle.reassembly.specs.declared.table.Table.{Table}
use Rattle.reassembly.specs.declared.table.Gateway.{Gateway}
use Rattle.reassembly.proofs.Tests.{by-test, by_order}
use Rattle.reassembly.proofs.Fresh.{accepted, sources-are, refuses-long, not-long, when-fit, when-accepted, when-refused}
use Rattle.lift.specs.Face.{no_gateway, gateway_of, listed, gateway_at, gateways, refuses_list, list_answer, table_begun}

-- ---- two numbers each
pub at_in : (l : List ℕ) (i : ℕ) → i * 2 + 1 < length l → gateway_at l i ≡ gateway_of (get_or l (i * 2) 0) (get_or l (i * 2 + 1) 0)
unfolding gateway_at listed
at_in [] i h = absurd (omega (arith, h))
at_in (k ∷ []) i h = absurd (omega (arith, h))
at_in (k ∷ n ∷ l) zero h = refl
at_in (k ∷ n ∷ l) (suc i) h =
    let e : suc i * 2 ≡ suc (suc (i * 2)) = omega arith in
    let f : suc (suc (i * 2)) + 1 ≡ suc (suc (i * 2 + 1)) = omega arith in
    rw (e, f) (at_in l i (omega (arith, h)))

pub at_out : (l : List ℕ) (i : ℕ) → length l ≤ i * 2 + 1 → gateway_at l i ≡ no_gateway
unfolding gateway_at listed
at_out [] i h = refl
at_out (k ∷ []) zero h = refl
at_out (k ∷ []) (suc i) h = refl
at_out (k ∷ n ∷ l) zero h = absurd (omega (arith, h))
at_out (k ∷ n ∷ l) (suc i) h = at_out l i (omega (arith, h))

pub how-many : (l : List ℕ) → length l / 2 + length l % 2 ≡ length (listed l)
unfolding listed
how-many [] = refl
how-many (k ∷ []) = refl
how-many (k ∷ n ∷ l) = let e = how-many l in omega (arith, e)

-- ---- four at most
four : (l : List Gateway) (d : Gateway) → length l ≤ 4 → take (length l) (get_or l 0 d ∷ get_or l 1 d ∷ get_or l 2 d ∷ get_or l 3 d ∷ []) ≡ l
four [] d h = refl
four (a ∷ []) d h = refl
four (a ∷ b ∷ []) d h = refl
four (a ∷ b ∷ c ∷ []) d h = refl
four (a ∷ b ∷ c ∷ e ∷ []) d h = refl
four (a ∷ b ∷ c ∷ e ∷ f ∷ l) d h = absurd (omega (arith, h))

pub four_is : (l : List ℕ) (a b c d : Gateway) → a ≡ gateway_at l 0 → b ≡ gateway_at l 1 → c ≡ gateway_at l 2 → d ≡ gateway_at l 3 → (a ∷ b ∷ c ∷ d ∷ []) ≡ (gateway_at l 0 ∷ gateway_at l 1 ∷ gateway_at l 2 ∷ gateway_at l 3 ∷ [])
four_is l a b c d p q r s = rw (p, q, r, s) refl

module _ (l : List ℕ) (four-of : List Gateway) (n : ℕ) (are : four-of ≡ gateway_at l 0 ∷ gateway_at l 1 ∷ gateway_at l 2 ∷ gateway_at l 3 ∷ []) (many : n ≡ length (listed l)) where
  same-sources : n ≤ 4 → sources n four-of ≡ gateways l
  unfolding gateways gateway_at
  same-sources h = sources-are n four-of ∙ rw (are, many) (ap (map gate_of) (four (listed l) no_gateway (omega (arith, h, many))))

  same-refusal : refused_list n (sources n four-of) ≡ refuses_list l
  unfolding refuses_list
  same-refusal =
      by_order n 4 (λ h. rw (same-sources h) (ap (λ z. refused_list z (gateways l)) many))
      (λ h. refuses-long n (sources n four-of) h ∙ sym (rw (sym many) (refuses-long n (gateways l) h)))

  module _ (t x : Table) (y : Result (Unit {0}) Refusal) (b : Begins y t x n four-of) where
    pub begun-list : y ≡ (Ok tt) → (0 ≡ list_answer l) × (x ≡ table_begun t l)
    unfolding list_answer table_begun
    begun-list e =
        let h = when-accepted n four-of y b.answer e in
        let k : refuses_list l ≡ false = sym same-refusal ∙ h in
        (rw k refl, rw k (when-fit n four-of y t x b h ∙ ap fresh (same-sources (not-long n (sources n four-of) h))))

    pub refused-list : (r : Refusal) → y ≡ Err r → (j : ℕ) → j ≡ number_of r → (j ≡ list_answer l) × (x ≡ table_begun t l)
    unfolding list_answer table_begun made
    refused-list r e j q =
        let h = when-refused n four-of y b.answer r e in
        let k : refuses_list l ≡ true = sym same-refusal ∙ h.0 in
        (rw k (q ∙ h.1), rw k (rw h.0 at b.table))

-- ---- a list that is accepted
fit-list : (l : List ℕ) → refuses_list l ≡ false → Gateways (gateways l)
unfolding refuses_list gateways
fit-list l k =
    let a = listed l in
    let e : sources (length a) a ≡ map gate_of a = sources-are (length a) a ∙ ap (map gate_of) (take-length a) in
    rw e at (accepted (length a) a (omega arith) (rw e k))

pub begun_fresh : (l : List ℕ) → list_answer l ≡ 0 → ((t : Table) → table_begun t l ≡ fresh (gateways l)) × Gateways (gateways l)
unfolding list_answer table_begun
begun_fresh l e = by-test (refuses_list l)
    (λ k. let z : ◌≡◌ {A = ℕ} 14 0 = rw k at e in absurd (omega (arith, z)))
    (λ k. (λ t. rw k refl, fit-list l k))

-- ---- what the check takes from here
pub ruleset at_told = (at_in, at_out)
