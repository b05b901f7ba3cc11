-- Each extension header that is put brings the walk on; where another thing stands it has reached that.
use Rattle.std.proofs.lemmas.Result.{err_from_is_err_and}
use native.Mathlib.Omega.{arith}
use mathlib.Core.Path.{refl, sym, ◌∙◌}
use Rattle.expand.proofs.WalkLaws.{onward-same, onward_then, at_rest, at-refused, at-udp, at_inner, at-ext, ext-facts, inner-facts}
use Rattle.expand.proofs.chain.put_extensions.Goals as goal

pub loop-c-init : goal.loop-c-init
loop-c-init c = (refl, omega arith, omega arith, c.requires.0, λ ctx. onward-same _ _ _ _ refl)

pub returns-in_err-step : goal.returns-in_err-step
returns-in_err-step c = let p = err_from_is_err_and c.from_residual.result c.from_residual.ensures.1 in
    rw (p.1, p.2) (λ ctx size n. (onward_then (c.loop-c.invariant.4 ctx) (at-refused c.loop-c.way ctx c.args.frame.now c.loop-c.out c.loop-c.next c.loop-c.c.at (sym c.is_compressed.ensures ∙ c.loop-c-test.true) _ c.in_err-step.ensures)).answer size n, tt)

pub put_read-requires : goal.put_read-requires
put_read-requires c = let f = ext-facts c.loop-c.way.left c.args.frame.now c.loop-c.c.at c.in_ok-step.ensures c.in-Extension.is in
    (omega (arith, c.loop-c.invariant.3), f.1, c.requires.1)

pub past-way-requires : goal.past-way-requires
past-way-requires c = let f = ext-facts c.loop-c.way.left c.args.frame.now c.loop-c.c.at c.in_ok-step.ensures c.in-Extension.is in
    (omega (arith, c.loop-c.invariant.3, f, c.saturating_sub.ensures, c.requires.1), omega (arith, f, c.saturating_sub.ensures, c.requires.1), f.2)

pub loop-c-smaller : goal.loop-c-smaller
loop-c-smaller c = let f = ext-facts c.loop-c.way.left c.args.frame.now c.loop-c.c.at c.in_ok-step.ensures c.in-Extension.is in
    rw c.past-way.ensures (omega (arith, f))

pub loop-c-preserved : goal.loop-c-preserved
loop-c-preserved c = let f = ext-facts c.loop-c.way.left c.args.frame.now c.loop-c.c.at c.in_ok-step.ensures c.in-Extension.is in (
  omega (arith, c.loop-c.invariant.0),
  rw c.past-way.ensures (omega (arith, c.loop-c.invariant.1)),
  omega (arith, c.loop-c.invariant.2, f),
  rw c.past-way.ensures (omega (arith, c.loop-c.invariant.3, f, c.saturating_sub.ensures)),
  λ ctx. onward_then (c.loop-c.invariant.4 ctx) (at-ext c.loop-c.way ctx c.args.frame.now c.loop-c.out c.loop-c.next c.loop-c.c.at (sym c.is_compressed.ensures ∙ c.loop-c-test.true) _ c.in_ok-step.ensures _ _ _ _ c.in-Extension.is c.saturating_sub.ensures c.past-way.ensures c.put_read.ensures),
)

pub returns-in-Udp : goal.returns-in-Udp
returns-in-Udp c = (λ ctx. record { onward = onward_then (c.loop-c.invariant.4 ctx) (at-udp c.loop-c.way ctx c.args.frame.now c.loop-c.out c.loop-c.next c.loop-c.c.at (sym c.is_compressed.ensures ∙ c.loop-c-test.true) _ c.in_ok-step.ensures _ _ c.in-Udp.is); room = omega (arith, c.loop-c.invariant.3); left = c.loop-c.invariant.1 }, tt)

pub returns-in-Inner : goal.returns-in-Inner
returns-in-Inner c = let f = inner-facts c.loop-c.way.left c.args.frame.now c.loop-c.c.at c.in_ok-step.ensures c.in-Inner.is in
    (λ ctx. record { onward = onward_then (c.loop-c.invariant.4 ctx) (at_inner c.loop-c.way ctx c.args.frame.now c.loop-c.out c.loop-c.next c.loop-c.c.at (sym c.is_compressed.ensures ∙ c.loop-c-test.true) _ c.in_ok-step.ensures _ c.in-Inner.is); room = (omega (arith, c.loop-c.invariant.3, f), f.2); left = c.loop-c.invariant.1 }, (omega (arith, c.loop-c.invariant.2, f), f.1))

pub returns : goal.returns
returns c = (λ ctx. record { onward = onward_then (c.loop-c.invariant.4 ctx) (at_rest c.loop-c.way ctx c.args.frame.now c.loop-c.out c.loop-c.next c.loop-c.c.at (sym c.is_compressed.ensures ∙ c.loop-c-test.false)); room = omega (arith, c.loop-c.invariant.3); left = c.loop-c.invariant.1 }, tt)
