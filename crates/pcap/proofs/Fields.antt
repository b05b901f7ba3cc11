-- What the functions of read need: the tests of a time, and the bytes of a frame.
use Prim.Native.Nat.{ℕ, ◌+◌, ◌*◌, ◌/◌, ◌%◌, ◌^◌, ◌≤◌, ◌<◌}
use mathlib.Core.Path.{◌≡◌, refl}
use mathlib.Core.Bool.{Bool, true, false, ◌&&◌}
use borrow.Author.Tests.{lt-ltb, le-ltb, eq-eqb, ne_eqb}
use Rattle.octets.specs.Read.{choose}
use Rattle.pcap.specs.Frames.{whole_time}

and-false : (a : Bool) → (a && false) ≡ false
and-false true = refl
and-false false = refl

module _ (sec micro : ℕ) where
  pub not-below : {A : Type 0} (x y : A) → 1000000 ≤ micro → y ≡ choose (whole_time sec micro) x y
  not-below x y h = rw (le-ltb micro 1000000 h) refl

  pub not-whole : {A : Type 0} (x y : A) → (micro % 1000 ≡ 0 → ⊥) → y ≡ choose (whole_time sec micro) x y
  not-whole x y h = rw (ne_eqb (micro % 1000) 0 h, and-false) refl

  pub not-small : {A : Type 0} (x y : A) → 2 ^ 32 ≤ sec * 1000 + micro / 1000 → y ≡ choose (whole_time sec micro) x y
  not-small x y h = rw (le-ltb (sec * 1000 + micro / 1000) (2 ^ 32) h, and-false, and-false) refl

  pub all-well : {A : Type 0} (x y : A) → micro < 1000000 → micro % 1000 ≡ 0 → sec * 1000 + micro / 1000 < 2 ^ 32 → x ≡ choose (whole_time sec micro) x y
  all-well x y a b c = rw (lt-ltb micro 1000000 a, eq-eqb (micro % 1000) 0 b, lt-ltb (sec * 1000 + micro / 1000) (2 ^ 32) c) refl
