-- A call with what is lent to it: where that is too little, 7, it takes no time and brings no part.
use Prim.Native.Nat.{ℕ, ◌≤◌}
use native.Mathlib.Omega.{arith}
use mathlib.Core.Path.{◌≡◌, refl, sym, ap, ◌∙◌}
use mathlib.Core.Logic.{◌⊎◌, inl, inr}
use mathlib.Core.List.{List}
use lib.ListN.{length}
use lib.Dec.{ltb}
use borrow.Author.Tests.{ltb-false, le-ltb}
use Rattle.reassembly.specs.Parts.{Part}
use Rattle.reassembly.specs.Table.{Call, short, other, from, part, room_call, lent_call, after}
use Rattle.reassembly.proofs.Tests.{by-test}

-- ---- a call that brings no part
abbrev pub parts : Call → ℕ
parts short = 0
parts (other t a) = 0
parts (from t g a) = 0
parts (part t p) = 1

pub not-part : {X : Type 0} (c : Call) (u : ℕ) (p : Part) → parts c ≡ 0 → c ≡ part u p → X
not-part c u p z e = absurd (omega (arith, sym z ∙ ap parts e))

-- ---- the output o
module _ (o : List ℕ) (c : Call) where
  -- refused, 7, a call takes no time; every other takes its own
  pub room_after : (n : ℕ) → (after n (room_call o c) ≡ n) ⊎ (after n (room_call o c) ≡ after n c)
  unfolding room_call
  room_after n = by-test (ltb (length o) 2047) (λ e. inl (rw e)) (λ e. inr (rw e refl))

  -- one that brings a part has room for every datagram
  pub room-part : (u : ℕ) (p : Part) → room_call o c ≡ part u p → (c ≡ part u p) × (2047 ≤ length o)
  unfolding room_call
  room-part u p e = by-test (ltb (length o) 2047) (λ x. not-part short u p refl (rw x at e)) (λ x. (rw x at e, ltb-false (length o) 2047 x))

  -- a call with room is what it is, and enough memory matters to none
  pub room-is : 2047 ≤ length o → room_call o c ≡ c
  unfolding room_call
  room-is h = rw (le-ltb (length o) 2047 h) refl

  pub lent-room : (m : List ℕ) → 16384 ≤ length m → lent_call m o c ≡ room_call o c
  unfolding lent_call room_call
  lent-room m h = rw (le-ltb (length m) 16384 h) refl
