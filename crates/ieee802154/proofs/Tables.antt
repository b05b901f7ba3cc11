-- The branches of specs/Control.antt are the scope document's table of carried PANs and its rule for refusal 3 (specs/PanTable.antt).
use Prim.Native.Nat.{ℕ, ◌<◌}
use native.Mathlib.Omega.{arith}
use mathlib.Core.Path.{◌≡◌, refl}
use mathlib.Core.Bool.{Bool, true, false, not, ◌&&◌, ◌||◌}
use lib.Dec.{eqb}
use borrow.Author.Tests.{eqb-true, eqb-false, eq-eqb, ne_eqb}
use Rattle.octets.specs.Read.{choose}
use Rattle.ieee802154.specs.Control.{control_of, supported, pans, carried2}
use Rattle.ieee802154.specs.PanTable as Pair
use Rattle.ieee802154.specs.PanTable.{carried_by, pair_of, refused3}
use Rattle.ieee802154.specs.declared.control.AddressingMode.{AddressingMode}
use Rattle.ieee802154.specs.declared.control.Control.{Control}

by : {X : Type 0} (b : Bool) → (b ≡ true → X) → (b ≡ false → X) → X
by true f g = f refl
by false f g = g refl

-- the table, of every two modes
pub pan-table : (d s : AddressingMode) (c : Bool) → carried2 d s c ≡ carried_by (pair_of d s) c
unfolding carried2 pair_of
pan-table d s c = go (eqb d.0 0) (eqb s.0 0) (eqb d.0 3) (eqb s.0 3) c
  where
    go : (a b x y c : Bool)
        → choose a (choose b (pans c false) (pans false (not c)))
        (choose b (pans (not c) false) (choose x (choose y (pans (not c) false) (pans true (not c))) (pans true (not c))))
        ≡ carried_by (choose (a && b) Pair.neither (choose b Pair.dst-only (choose a Pair.src-only (choose (x && y) Pair.both-extended Pair.other-pair)))) c
    go true true x y true = refl
    go true true x y false = refl
    go true false x y true = refl
    go true false x y false = refl
    go false true x y true = refl
    go false true x y false = refl
    go false false true true true = refl
    go false false true true false = refl
    go false false true false true = refl
    go false false true false false = refl
    go false false false y true = refl
    go false false false y false = refl

-- the rule, of every frame control: its version has two bits
pub rule-3 : (k : Control) → k.frame_version.0 < 4 → supported k ≡ not (refused3 k)
unfolding supported refused3
rule-3 k low =
    let v = k.frame_version.0 in
    by (eqb v 3)
    (λ a. rw a refl)
    (λ a. by (eqb v 2)
    (λ b.
    let two : v ≡ 2 = eqb-true v 2 b in
    let n0 : eqb v 0 ≡ false = ne_eqb v 0 (omega (arith, two)) in
    let n1 : eqb v 1 ≡ false = ne_eqb v 1 (omega (arith, two)) in
    rw (a, b, n0, n1) (second (eqb k.dst_addr_mode.0 1) (eqb k.src_addr_mode.0 1)))
    (λ b.
    let old : (eqb v 0 || eqb v 1) ≡ true = early v low (eqb-false v 3 a) (eqb-false v 2 b) in
    rw (a, b, old) (first (eqb k.dst_addr_mode.0 1) (eqb k.src_addr_mode.0 1) k.pan_id_compression (eqb k.dst_addr_mode.0 0) (eqb k.src_addr_mode.0 0))))
  where
    early : (v : ℕ) → v < 4 → (v ≡ 3 → ⊥) → (v ≡ 2 → ⊥) → (eqb v 0 || eqb v 1) ≡ true
    early v l f g = by (eqb v 0) (λ e. rw e refl) (λ e.
        let n : v ≡ 1 = one v l f g (eqb-false v 0 e) in
        rw (e, eq-eqb v 1 n) refl)
      where
        one : (v : ℕ) → v < 4 → (v ≡ 3 → ⊥) → (v ≡ 2 → ⊥) → (v ≡ 0 → ⊥) → v ≡ 1
        one v l f g h = omega (arith, l, f, g, h)

    second : (x y : Bool) → choose x false (choose y false true) ≡ not ((x || y) || false)
    second true y = refl
    second false true = refl
    second false false = refl

    first : (x y c a b : Bool) → choose x false (choose y false (choose a (choose b (not c) true) true)) ≡ not ((x || y) || (c && (a && b)))
    first true y c a b = refl
    first false true c a b = refl
    first false false true true true = refl
    first false false true true false = refl
    first false false true false b = refl
    first false false false true true = refl
    first false false false true false = refl
    first false false false false b = refl

-- so of the control field of every frame
pub rule-3-read : (fc : ℕ) → supported (control_of fc) ≡ not (refused3 (control_of fc))
rule-3-read fc = rule-3 (control_of fc) (omega arith)
