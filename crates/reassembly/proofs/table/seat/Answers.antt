use Prim.Native.Nat.{ℕ, ◌-◌, ◌≤◌}
use native.Mathlib.Nat.{sub-zero}
use mathlib.Core.Path.{◌≡◌, sym, ap, ◌∙◌}
use mathlib.Core.Bool.{Bool}
use mathlib.Core.List.{List}
use native.Mathlib.Omega.{arith}
use lib.Dec.{leb}
use lib.ListN.{length, take}
use Rattle.octets.specs.Read.{is}
use Rattle.reassembly.specs.Lists.{count}
use Rattle.reassembly.specs.Fresh.{seats, sources, unfit}
use Rattle.reassembly.specs.declared.slot.Source.{Source}
use Rattle.reassembly.specs.declared.table.Gateway.{Gateway}
use Rattle.reassembly.proofs.Fresh.{take-seats, seated_long, seated_unfit, seated_fit}
use Rattle.reassembly.proofs.table.seat.Goals as goal

pub returns-then-count-gt4 : goal.returns-then-count-gt4
returns-then-count-gt4 c = sym (seated_long c.args.count c.args.gateways c.if-count-gt4.true)

-- the seats that are judged are those of the list
judged : (r : List Source) (n : ℕ) (l : List Gateway) (b : Bool) → r ≡ seats (sources n l) → n ≤ length l → b ≡ leb 1 (count (unfit (take (n - 0) r)) (take (n - 0) r))
    → b ≡ leb 1 (count (unfit (sources n l)) (sources n l))
judged r n l b e h u =
    let q : take (n - 0) r ≡ sources n l = ap (λ (k : ℕ). take k r) (sub-zero n) ∙ ap (take n) e ∙ take-seats n l h in
    rw q at u

pub returns-then-has_unfit : goal.returns-then-has_unfit
returns-then-has_unfit c =
    let a = c.args in
    let h : a.count ≤ length a.gateways = omega (arith, c.well_formed.0.1.0.1) in
    sym (seated_unfit a.count a.gateways c.if-count-gt4.false (sym (judged _ a.count a.gateways _ c.seat_all-seats.ensures h c.has_unfit.ensures) ∙ c.if-has_unfit.true))

pub returns : goal.returns
returns c =
    let a = c.args in
    let h : a.count ≤ length a.gateways = omega (arith, c.well_formed.0.1.0.1) in
    ap is c.seat_all-seats.ensures ∙ sym (seated_fit a.count a.gateways c.if-count-gt4.false (sym (judged _ a.count a.gateways _ c.seat_all-seats.ensures h c.has_unfit.ensures) ∙ c.if-has_unfit.false))
