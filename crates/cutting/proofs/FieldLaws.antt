-- A field of eight bytes, of what its bytes are.
use Prim.Native.Nat.{ℕ, ◌+◌, ◌*◌, ◌^◌, ◌≤◌, ◌<◌}
use native.Mathlib.Omega.{arith}
use mathlib.Core.List.{List}
use mathlib.Core.Path.{◌≡◌, refl, sym, ap}
use lib.ListN.{length, get_or}
use borrow.Author.Tests.{lt-ltb}
use Rattle.octets.specs.Read.{got, byte, be16, be32, be64}
use Rattle.octets.proofs.Ends.{full-be64}
use Rattle.cutting.specs.Fields.{or_zero}

-- ---- eight bytes, of two halves
module _ (d : List ℕ) where
  abbrev at0 : ℕ → ℕ
  at0 i = get_or d i 0

  be16-there : (at : ℕ) → at + 2 ≤ length d → be16 d at ≡ got (at0 at * 256 + at0 (at + 1)) (at + 2)
  unfolding be16 byte
  be16-there at h =
      let e : at + 1 + 1 ≡ at + 2 = omega arith in
      rw (lt-ltb at (length d) (omega arith), lt-ltb (at + 1) (length d) (omega arith)) (ap (got (at0 at * 256 + at0 (at + 1))) e)

  be32-there : (at : ℕ) → at + 4 ≤ length d → be32 d at ≡ got ((at0 at * 256 + at0 (at + 1)) * 2 ^ 16 + (at0 (at + 2) * 256 + at0 (at + 3))) (at + 4)
  unfolding be32
  be32-there at h =
      let e : at + 2 + 1 ≡ at + 3 = omega arith in
      let f : at + 2 + 2 ≡ at + 4 = omega arith in
      rw (be16-there at (omega arith), be16-there (at + 2) (omega arith), e, f) refl

  pub long-short : (at : ℕ) → length d < at + 8 → 0 ≡ or_zero (be64 d at)
  long-short at h = sym (ap or_zero (full-be64.ends d at h))

  pub long-there : (at x y : ℕ) → at + 8 ≤ length d → x ≡ at0 at * 2 ^ 24 + at0 (at + 1) * 2 ^ 16 + at0 (at + 2) * 2 ^ 8 + at0 (at + 3) → y ≡ at0 (at + 4) * 2 ^ 24 + at0 (at + 5) * 2 ^ 16 + at0 (at + 6) * 2 ^ 8 + at0 (at + 7) → x * 2 ^ 32 + y ≡ or_zero (be64 d at)
  unfolding be64
  long-there at x y h p q =
      let e : at + 4 + 1 ≡ at + 5 = omega arith in
      let f : at + 4 + 2 ≡ at + 6 = omega arith in
      let g : at + 4 + 3 ≡ at + 7 = omega arith in
      rw (be32-there at (omega arith), be32-there (at + 4) (omega arith), e, f, g) (omega arith)

pub ruleset long_told = (long-short, long-there)
