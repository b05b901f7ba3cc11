-- Where a reader ends. `Full m k`: m gives a value where k bytes are left from its place on, whatever follows those, and is refused, 1, where
-- fewer are.
use Prim.Native.Nat.{ℕ, zero, suc, ◌+◌, ◌*◌, ◌^◌, ◌≤◌, ◌<◌}
use native.Mathlib.Omega.{arith}
use native.Mathlib.Nat.{lt_of_not-le, not-suc-le-zero, le_of_suc-le-suc}
use native.Mathlib.Decide.{dec_le}
use mathlib.Core.List.{List, [], ◌∷◌, ◌++◌}
use mathlib.Core.Path.{◌≡◌, refl, ap}
use lib.ListN.{length, get_or, length-append}
use borrow.Author.Tests.{lt-ltb, le-ltb}
use Rattle.octets.specs.Read.{refused, Reader, got, ◌>>=◌, give, byte, be16, be32, be64}

pub record Full {A : Type 0} (m : Reader A) (k : ℕ) : Type 0 where
  pub reads : (s : List ℕ) (at : ℕ) → at + k ≤ length s → (x : A) × (m s at ≡ got x (at + k))
  pub ends : (s : List ℕ) (at : ℕ) → length s < at + k → m s at ≡ refused 1
  pub front : (s y : List ℕ) (at : ℕ) → at + k ≤ length s → m (s ++ y) at ≡ m s at

get_or-front : (s y : List ℕ) (at : ℕ) → at < length s → get_or (s ++ y) at 0 ≡ get_or s at 0
get_or-front [] y at h = absurd (not-suc-le-zero h)
get_or-front (a ∷ s) y zero h = refl
get_or-front (a ∷ s) y (suc at) h = get_or-front s y at (le_of_suc-le-suc h)

full-byte : Full byte 1
unfolding byte
full-byte = record {
  reads = λ s at h. (get_or s at 0, rw (lt-ltb at (length s) (omega arith)) refl);
  ends = λ s at h. rw (le-ltb at (length s) (omega arith)) refl;
  front = λ s y at h. rw (lt-ltb at (length s) (omega arith), lt-ltb at (length (s ++ y)) (omega (arith, length-append s y))) (ap (λ z. got z (at + 1)) (get_or-front s y at (omega arith)));
}

-- two fields of which a value is made
full-both : {A B C : Type 0} (m : Reader A) (k : Reader B) (f : A → B → C) (i j : ℕ) → Full m i → Full k j → Full (◌>>=◌ m (λ a. ◌>>=◌ k (λ b. give (f a b)))) (i + j)
full-both m k f i j v w = record {
  reads = λ s at h.
      let x = v.reads s at (omega arith) in
      let y = w.reads s (at + i) (omega arith) in
      let e : at + i + j ≡ at + (i + j) = omega arith in
      (f x.0 y.0, rw (x.1, y.1) (ap (got (f x.0 y.0)) e));
  ends = λ s at h. elim (dec_le (at + i) (length s)) [ yes q ↦ rw ((v.reads s at q).1, w.ends s (at + i) (omega arith)) refl | no q ↦ rw (v.ends s at (lt_of_not-le q)) refl ];
  front = λ s y at h.
      let x = v.reads s at (omega arith) in
      rw (v.front s y at (omega arith), x.1, w.front s y (at + i) (omega arith)) refl;
}

full-be16 : Full be16 2
unfolding be16
full-be16 = full-both byte byte (λ hi lo. hi * 256 + lo) 1 1 full-byte full-byte

full-be32 : Full be32 4
unfolding be32
full-be32 = full-both be16 be16 (λ hi lo. hi * 2 ^ 16 + lo) 2 2 full-be16 full-be16

pub full-be64 : Full be64 8
unfolding be64
full-be64 = full-both be32 be32 (λ hi lo. hi * 2 ^ 32 + lo) 4 4 full-be32 full-be32
