use Rattle.pcap.proofs.Counting.{told-turn, told-full, told-stop, told-on, count-end, count_most}
use Rattle.pcap.proofs.Carrying.{handed}
use Rattle.octets.specs.Read.{is}
use Rattle.capture.specs.Made.{Bytes}
use mathlib.Core.Path.{◌≡◌, refl, sym, ap, ◌∙◌}
use native.Mathlib.Omega.{arith}
use Rattle.pcap.proofs.coming.count.Goals as goal

pub loop-n-init : goal.loop-n-init
loop-n-init c = (omega arith, refl)

pub returns-then-s-at : goal.returns-then-s-at
returns-then-s-at c = count-end _ _ c.args.s.now _ _ c.if-s-at.true ∙ c.loop-n.invariant.1

pub returns-in_err-f : goal.returns-in_err-f
returns-in_err-f c =
    sym (handed c.from_residual.result _ c.from_residual.ensures)
    ∙ told-stop _ _ _ _ _ c.loop-n-test.true c.if-s-at.false _ c.frame_at.ensures _ c.in_err-f.was
    ∙ c.loop-n.invariant.1

pub returns-then-number-ge-MOST : goal.returns-then-number-ge-MOST
returns-then-number-ge-MOST c = told-full _ _ _ _ _ c.loop-n-test.true c.if-s-at.false _ c.frame_at.ensures _ c.loop-n.invariant.0 _ c.in_ok-f.was c.if-number-ge-MOST.true ∙ c.loop-n.invariant.1

pub overflow_add-at : goal.overflow_add-at
overflow_add-at c =
    let s = c.args.s.now in
    let b : Bytes s = λ i. omega (arith, c.type_inv.s i) in
    let o = told-on _ 0 s _ _ c.loop-n-test.true c.if-s-at.false _ c.frame_at.ensures b _ c.in_ok-f.was in
    omega arith

pub overflow_add-number : goal.overflow_add-number
overflow_add-number c = let h = c.if-number-ge-MOST.false in omega arith

pub loop-n-preserved : goal.loop-n-preserved
loop-n-preserved c =
    let i = c.loop-n.invariant.0 in
    (omega arith, told-turn _ _ _ _ _ c.loop-n-test.true c.if-s-at.false _ c.frame_at.ensures _ c.loop-n.invariant.0 _ c.in_ok-f.was c.if-number-ge-MOST.false ∙ c.loop-n.invariant.1)

pub returns : goal.returns
returns c =
    let e : c.args.most ≡ c.loop-n.n = omega arith in
    ap is e ∙ count_most _ _ c.args.s.now _ _ c.loop-n-test.false ∙ c.loop-n.invariant.1
