use mathlib.Core.Path.{◌≡◌, refl, sym, ap, ◌∙◌}
use mathlib.Core.Bool.{Bool}
use mathlib.Core.List.{List}
use Prim.Native.Nat.{ℕ, ◌+◌}
use lib.Dec.{T, eqb, eqb→eq}
use lib.ListN.{length, drop, get_or}
use Rattle.capture.specs.Fcs.{byte_in, bits_in, fcs_from, IsTable}
use Rattle.capture.proofs.Register.{turn, end}
use Rattle.capture.proofs.Entries.{every, at}
use Rattle.capture.proofs.fcs.fcs.Goals as goal

-- an entry against its place
right : ℕ → ℕ → Bool
right n x = eqb x (byte_in 0 n)

is-table : (l : List ℕ) → length l ≡ 256 → T (every right 0 l) → IsTable l
unfolding IsTable right
is-table l e t n h = eqb→eq (get_or l n 0) (byte_in 0 n) (at right l t n (rw e h))

pub loop-b-init : goal.loop-b-init
loop-b-init c = refl

pub byte_in-r-requires : goal.byte_in-r-requires
unfolding bits_in right
byte_in-r-requires c = is-table _ refl tt

pub loop-b-preserved : goal.loop-b-preserved
loop-b-preserved c =
    let s = c.args.s.now in
    let i = c.loop-b.b-index in
    ap (λ (x : ℕ). fcs_from x (drop (i + 1) s)) c.byte_in-r.ensures ∙ turn s i c.loop-b.r c.loop-b-test.true ∙ c.loop-b.invariant

pub returns : goal.returns
returns c =
    sym (end c.args.s.now c.loop-b.b-index c.loop-b.r c.loop-b-test.false)
    ∙ c.loop-b.invariant
