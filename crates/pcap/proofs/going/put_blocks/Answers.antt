use Rattle.pcap.proofs.Carrying.{rest-room, rest_put, rest_end, length-put}
use Rattle.std.specs.Slice.Iter.{chunks_rest}
use Prim.Native.Nat.{min}
use mathlib.Core.Path.{sym, ap, ◌∙◌}
use lib.ListN.{length}
use native.Mathlib.Omega.{arith}
use Rattle.pcap.proofs.going.put_blocks.Goals as goal

pub put_block-to-requires : goal.put_block-to-requires
put_block-to-requires c =
    let i = c.loop-block.invariant in
    let s = c.in-Some.ensures.steps.1 in
    let n = length (chunks_rest c.loop-block.block-iterator) in
    rest-room _ _ _ s.0 (s.1 ∙ ap (λ z. min z n) i.0) s.2 c.loop-block.to 0 c.loop-block.out c.loop-block.out _ i.1.1.0

pub loop-block-preserved : goal.loop-block-preserved
loop-block-preserved c =
    let i = c.loop-block.invariant in
    let s = c.in-Some.ensures.steps.1 in
    let n = length (chunks_rest c.loop-block.block-iterator) in
    let r = rest_put _ _ _ s.0 (s.1 ∙ ap (λ z. min z n) i.0) s.2 c.loop-block.to _ c.loop-block.out _ c.put_block-to.ensures in
    let r0 = r.0 in
    let l = ap length c.put_block-to.ensures.1 ∙ length-put _ _ _ in
    let i2 = i.1.1.0 in
    (c.in-Some.ensures.steps.0 ∙ i.0, (l ∙ i.1.0, (omega arith, r.1 ∙ i.1.1.1)))

pub returns : goal.returns
returns c = sym (rest_end _ c.loop-block.to c.loop-block.out c.in-None.ensures.steps.1.0) ∙ c.loop-block.invariant.1.1.1
