-- A part that passes check 10, and the units of 8 bytes that it takes.
use Prim.Native.Nat.{ℕ, ◌+◌, ◌*◌, ◌/◌, ◌%◌, ◌≤◌, ◌<◌}
use native.Mathlib.Omega.{arith}
use mathlib.Core.Path.{◌≡◌}
use mathlib.Core.Logic.{◌⊎◌, inl, inr}
use mathlib.Core.Bool.{true, ◌&&◌, ◌||◌}
use lib.ListN.{length}
use lib.Dec.{leb, eqb}
use borrow.Author.Tests.{leb-true, eqb-true}
use Rattle.reassembly.specs.Parts.{Part, units, fits_in, fits}
use Rattle.reassembly.proofs.Tests.{and_left, and_right, or_cases}
use Rattle.reassembly.specs.Cover.{Has}

pub record Fit (p : Part) : Type 0 where
  pub big : 40 ≤ p.key.size
  pub small : p.key.size ≤ 2047
  pub some : 1 ≤ length p.bytes
  pub ends : p.unit * 8 + length p.bytes ≤ p.key.size
  pub whole : (length p.bytes % 8 ≡ 0) ⊎ (p.unit * 8 + length p.bytes ≡ p.key.size)

pub fit : (p : Part) → fits p ≡ true → Fit p
unfolding fits_in
fit p e =
    let a = leb 40 p.key.size in
    let b = leb p.key.size 2047 in
    let c = leb 1 (length p.bytes) in
    let d = leb (p.unit * 8 + length p.bytes) p.key.size in
    let f = eqb (length p.bytes % 8) 0 in
    let g = eqb (p.unit * 8 + length p.bytes) p.key.size in
    let e1 : (b && (c && (d && (f || g)))) ≡ true = and_right a (b && (c && (d && (f || g)))) e in
    let e2 : (c && (d && (f || g))) ≡ true = and_right b (c && (d && (f || g))) e1 in
    let e3 : (d && (f || g)) ≡ true = and_right c (d && (f || g)) e2 in
    record {
      big = leb-true 40 p.key.size (and_left a (b && (c && (d && (f || g)))) e);
      small = leb-true p.key.size 2047 (and_left b (c && (d && (f || g))) e1);
      some = leb-true 1 (length p.bytes) (and_left c (d && (f || g)) e2);
      ends = leb-true (p.unit * 8 + length p.bytes) p.key.size (and_left d (f || g) e3);
      whole = or-fact (or_cases f g (and_right d (f || g) e3));
    }
  where
    or-fact : (eqb (length p.bytes % 8) 0 ≡ true) ⊎ (eqb (p.unit * 8 + length p.bytes) p.key.size ≡ true)
        → (length p.bytes % 8 ≡ 0) ⊎ (p.unit * 8 + length p.bytes ≡ p.key.size)
    or-fact (inl h) = inl (eqb-true (length p.bytes % 8) 0 h)
    or-fact (inr h) = inr (eqb-true (p.unit * 8 + length p.bytes) p.key.size h)

-- unit i is one of p's
abbrev pub HasUnit : Part → ℕ → Type 0
HasUnit p i = (p.unit ≤ i) × (i < p.unit + units (length p.bytes))

pub unit→byte : (p : Part) (i : ℕ) → HasUnit p i → Has p (i * 8)
unfolding units
unit→byte p i h = (omega arith, omega arith)

pub byte→unit : (p : Part) (x : ℕ) → Has p x → HasUnit p (x / 8)
unfolding units
byte→unit p x h = (omega arith, omega arith)

-- a byte of the datagram that lies in one of p's units is p's
pub unit→bytes : (p : Part) (x : ℕ) → Fit p → HasUnit p (x / 8) → x < p.key.size → Has p x
unfolding units
unit→bytes p x f h k = (omega arith, last f.whole)
  where
    last : (length p.bytes % 8 ≡ 0) ⊎ (p.unit * 8 + length p.bytes ≡ p.key.size) → x < p.unit * 8 + length p.bytes
    last (inl e) = omega arith
    last (inr e) = omega arith

pub units-end : (p : Part) → Fit p → p.unit + units (length p.bytes) ≤ 256
unfolding units
units-end p f = omega arith

pub units-pos : (p : Part) → Fit p → 1 ≤ units (length p.bytes)
unfolding units
units-pos p f = omega arith

-- parts of one size that begin alike and take as many units are as long
pub units-same : (u size m n : ℕ) → u * 8 + m ≤ size → u * 8 + n ≤ size → units n ≡ units m
    → (m % 8 ≡ 0) ⊎ (u * 8 + m ≡ size) → (n % 8 ≡ 0) ⊎ (u * 8 + n ≡ size) → n ≡ m
unfolding units
units-same u size m n a b e (inl x) (inl y) = omega arith
units-same u size m n a b e (inl x) (inr y) = omega arith
units-same u size m n a b e (inr x) (inl y) = omega arith
units-same u size m n a b e (inr x) (inr y) = omega arith
