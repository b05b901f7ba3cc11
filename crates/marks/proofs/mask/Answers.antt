use Prim.Native.Nat.{ℕ, ◌-◌, ◌≤◌, ◌^◌}
use native.Mathlib.Omega.{arith}
use Rattle.marks.specs.Marks.{within}
use Rattle.marks.proofs.Words.{within-le, within-mono, pow-le}
use lib.Pow.{pow_pos}
use mathlib.Core.Path.{◌≡◌, ap}
use Rattle.marks.proofs.mask.Goals as goal

-- a run that begins and ends at one place of the word has no bits in it
no_bits : (lo hi : ℕ) → lo ≡ hi → 0 ≡ 2 ^ hi - 2 ^ lo
no_bits lo hi h =
    let p : 2 ^ lo ≡ 2 ^ hi = ap (λ (x : ℕ). 2 ^ x) h in
    omega arith

pub returns-then-hi-eq0 : goal.returns-then-hi-eq0
returns-then-hi-eq0 c =
    let a = c.args in
    let m = within-mono a.base a.u a.e c.requires in
    let p : c.place-hi.result ≡ within a.base a.e = c.place-hi.ensures in
    let h : c.place-hi.result ≡ 0 = c.if-hi-eq0.true in
    no_bits (within a.base a.u) (within a.base a.e) (omega arith)

pub returns-then-lo-eq64 : goal.returns-then-lo-eq64
returns-then-lo-eq64 c =
    let a = c.args in
    let m = within-mono a.base a.u a.e c.requires in
    let l = within-le a.base a.e in
    let p : c.place-lo.result ≡ within a.base a.u = c.place-lo.ensures in
    let h : c.place-lo.result ≡ 64 = c.if-lo-eq64.true in
    no_bits (within a.base a.u) (within a.base a.e) (omega arith)

pub below-requires : goal.below-requires
below-requires c = rw c.place-hi.ensures (within-le _ _)

pub below-requires-2 : goal.below-requires-2
below-requires-2 c = rw c.place-lo.ensures (within-le _ _)

pub overflow_sub-result : goal.overflow_sub-result
overflow_sub-result c =
    let a = c.args in
    let p : 2 ^ within a.base a.u ≤ 2 ^ within a.base a.e = pow-le _ _ (within-mono a.base a.u a.e c.requires) in
    let q : c.below-2.result ≡ 2 ^ within a.base a.u - 1 = rw (← c.place-lo.ensures) c.below-2.ensures in
    let r : c.below.result ≡ 2 ^ within a.base a.e - 1 = rw (← c.place-hi.ensures) c.below.ensures in
    omega arith

pub returns : goal.returns
returns c =
    let a = c.args in
    let z = pow_pos (within a.base a.u) in
    let p : 2 ^ within a.base a.u ≤ 2 ^ within a.base a.e = pow-le _ _ (within-mono a.base a.u a.e c.requires) in
    let q : c.below-2.result ≡ 2 ^ within a.base a.u - 1 = rw (← c.place-lo.ensures) c.below-2.ensures in
    let r : c.below.result ≡ 2 ^ within a.base a.e - 1 = rw (← c.place-hi.ensures) c.below.ensures in
    omega arith
