use borrow.Author.Tests.{not-true, not-false}
use Rattle.listen.proofs.Blocks.{onward, block-turn, block-stop, all-heard}
use Rattle.listen.proofs.Hearing.{listener}
use Rattle.std.proofs.Common.{refl, ap, ◌∙◌, rules, length}
use Rattle.std.specs.Slice.Iter.{chunks_rest, chunks_size}
use Prim.Native.Nat.{min}
use Rattle.listen.proofs.ear.hear_all.Goals as goal

pub loop-block-init : goal.loop-block-init
loop-block-init c =
    let e = c.into_iter-block-iterator.ensures.into_iter_gives in
    let h = c.chunks-block-items.ensures in
    (ap chunks_size e ∙ h.size, refl, refl, refl, refl, onward _ _ _ _ (ap chunks_rest e ∙ h.rest))

pub returns-then-not-h : goal.returns-then-not-h
returns-then-not-h c =
    let l = c.loop-block in
    let s = c.in-Some.ensures.steps.1 in
    let n = length (chunks_rest l.block-iterator) in
    block-stop _ _ _ s.0 (s.1 ∙ ap (λ z. min z n) l.invariant.0) s.2 (listener l.h.ear l.mem l.out) c.args.capture.now _ _ l.text l.h.next l.invariant.5 c.hear-h.result _ _ _ c.hear-h.ensures _ _ refl (not-true _ c.if-not-h.true)

pub loop-block-preserved : goal.loop-block-preserved
loop-block-preserved c =
    let l = c.loop-block in
    let s = c.in-Some.ensures.steps.1 in
    let n = length (chunks_rest l.block-iterator) in (
      c.in-Some.ensures.steps.0 ∙ l.invariant.0,
      search rules,
      search rules,
      search rules,
      (not-false _ c.if-not-h.false),
      block-turn _ _ _ s.0 (s.1 ∙ ap (λ z. min z n) l.invariant.0) s.2 (listener l.h.ear l.mem l.out) c.args.capture.now _ _ l.text l.h.next l.invariant.5 c.hear-h.result _ _ _ c.hear-h.ensures (not-false _ c.if-not-h.false),
    )

pub returns : goal.returns
returns c =
    let l = c.loop-block in
    all-heard c.args.capture.now _ _ l.h.ear l.mem l.out _ l.text _ l.h.next l.h.more l.invariant.4 l.invariant.5 c.in-None.ensures.steps.1.0
