use Rattle.pcap.proofs.Carrying.{measured, measure-start, measure-end, told-stop, told-room, told-turn}
use Rattle.std.specs.Slice.Iter.{chunks_rest, chunks_size}
use Prim.Native.Nat.{min}
use mathlib.Core.Path.{sym, ap, ◌∙◌}
use lib.ListN.{length}
use native.Mathlib.Omega.{arith}
use Rattle.pcap.proofs.going.measure.Goals as goal

pub loop-block-init : goal.loop-block-init
loop-block-init c =
    let e = c.into_iter-block-iterator.ensures.into_iter_gives in
    let h = c.chunks-block-items.ensures in
    let r = ap chunks_rest e ∙ h.rest in
    let l = ap length r in
    (ap chunks_size e ∙ h.size, (omega arith, (omega arith, ap (measured 24 0) r ∙ measure-start _)))

pub returns-then-not-is_good : goal.returns-then-not-is_good
returns-then-not-is_good c =
    let i = c.loop-block.invariant in
    let s = c.in-Some.ensures.steps.1 in
    let k = length (chunks_rest c.loop-block.block-iterator) in
    told-stop _ c.loop-block.n c.loop-block.number _ _ _ s.0 (s.1 ∙ ap (λ z. min z k) i.0) s.2 c.is_good.ensures c.if-not-is_good.true ∙ i.1.1.1

pub overflow_add-n : goal.overflow_add-n
overflow_add-n c =
    let i = c.loop-block.invariant in
    let s = c.in-Some.ensures.steps.1 in
    let k = length (chunks_rest c.loop-block.block-iterator) in
    let r = told-room _ c.loop-block.n c.loop-block.number _ _ _ s.0 (s.1 ∙ ap (λ z. min z k) i.0) s.2 c.is_good.ensures c.if-not-is_good.false in
    let b = c.block_len-n.ensures.1 in
    let i1 = i.1.0 in
    let i2 = i.1.1.0 in
    omega arith

pub overflow_add-number : goal.overflow_add-number
overflow_add-number c =
    let i = c.loop-block.invariant in
    let i1 = i.1.0 in
    omega arith

pub loop-block-preserved : goal.loop-block-preserved
loop-block-preserved c =
    let i = c.loop-block.invariant in
    let s = c.in-Some.ensures.steps.1 in
    let k = length (chunks_rest c.loop-block.block-iterator) in
    let e = s.1 ∙ ap (λ z. min z k) i.0 in
    let r = told-room _ c.loop-block.n c.loop-block.number _ _ _ s.0 e s.2 c.is_good.ensures c.if-not-is_good.false in
    let t = told-turn _ c.loop-block.n c.loop-block.number _ _ _ s.0 e s.2 c.is_good.ensures c.if-not-is_good.false _ c.block_len-n.ensures.0 in
    let b = c.block_len-n.ensures.1 in
    let i1 = i.1.0 in
    let i2 = i.1.1.0 in
    (c.in-Some.ensures.steps.0 ∙ i.0, (omega arith, (omega arith, t ∙ i.1.1.1)))

pub returns : goal.returns
returns c = sym (measure-end _ c.loop-block.n c.loop-block.number c.in-None.ensures.steps.1.0) ∙ c.loop-block.invariant.1.1.1
