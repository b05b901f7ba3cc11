use native.Mathlib.Omega.{arith}
use mathlib.Core.Path.{◌≡◌, ap}
use Prim.Native.Nat.{ℕ, ◌+◌, ◌-◌, ◌*◌, ◌≤◌, ◌^◌}
use lib.Pow.{shl_exact, pow-add}
use Rattle.marks.proofs.bit.Goals as goal

-- a bit of the high half
high_half : (h : ℕ) → 32 ≤ h → 1 * 2 ^ (h - 32) * 4294967296 ≡ 2 ^ h
high_half h l =
    let e : h - 32 + 32 ≡ h = omega arith in
    let p : 2 ^ (h - 32 + 32) ≡ 2 ^ (h - 32) * 4294967296 = pow-add 2 (h - 32) 32 in
    let q : 2 ^ (h - 32 + 32) ≡ 2 ^ h = ap (λ (x : ℕ). 2 ^ x) e in
    omega arith

pub returns-then-h-lt32 : goal.returns-then-h-lt32
returns-then-h-lt32 c = rw (shl_exact {a = 1} 1 c.args.h 32 (omega arith) (omega arith)) (omega arith)

pub returns : goal.returns
returns c =
    let h = c.args.h in
    rw (shl_exact {a = 1} 1 (h - 32) 32 (omega arith) (omega arith)) (high_half h (omega arith))
