use Rattle.pcap.proofs.Filling.{blocks-on, at-within, blocks_end}
use Rattle.pcap.proofs.Carrying.{length-put}
use Rattle.pcap.specs.Frames.{blocks_from}
use Rattle.pcap.specs.Placing.{frames_at}
use Rattle.octets.specs.Write.{put}
use Rattle.capture.specs.Made.{Bytes}
use Prim.Native.Nat.{◌+◌, ◌*◌, ◌-◌, ◌<◌}
use lib.ListN.{length}
use mathlib.Core.Path.{◌≡◌, refl, sym, ap, ap₂, ◌∙◌}
use native.Mathlib.Omega.{arith}
use Rattle.pcap.proofs.fill.put_blocks.Goals as goal

pub loop-number-init : goal.loop-number-init
loop-number-init c =
    let p0 = c.requires.0 in
    let e : c.args.total - 3 * 0 ≡ c.args.total = omega arith in
    (p0, (refl, ap (λ n. put 0 (blocks_from 0 (frames_at n c.args.s.now c.args.from)) c.args.out.now) e))

pub overflow_cast-number : goal.overflow_cast-number
overflow_cast-number c = let p = c.requires.1.0 in let h = c.loop-number-test.true in omega arith

pub put_block-at-requires : goal.put_block-at-requires
put_block-at-requires c =
    let p = c.requires.1.1 in
    let i0 = c.loop-number.invariant.0 in
    let i1 = c.loop-number.invariant.1.0 in
    let h = c.loop-number-test.true in
    let e = c.min-n.ensures in
    (omega arith, (i0, omega arith))

pub loop-number-preserved : goal.loop-number-preserved
loop-number-preserved c =
    let s = c.args.s.now in
    let b : Bytes s = λ i. omega (arith, c.type_inv.s i) in
    let i = c.loop-number.invariant in
    let k = c.loop-number.number in
    let left = c.args.total - 3 * k in
    let t = c.loop-number-test.true in
    let h : 0 < left = omega arith in
    let e = c.min-n.ensures in
    let l = ap length c.put_block-at.ensures.1 ∙ length-put _ _ _ in
    let a = at-within s left c.min-n.result k c.loop-number.at (512 * k) _ c.loop-number.out _ h e b i.0 c.put_block-at.ensures in
    let o = blocks-on s left c.min-n.result k c.loop-number.at (512 * k) _ c.loop-number.out _ h e b i.0 c.put_block-at.ensures in
    let x : 512 * (k + 1) ≡ 512 * k + 512 = omega arith in
    let y : c.args.total - 3 * (k + 1) ≡ left - c.min-n.result = omega arith in
    (a, (l ∙ i.1.0, ap₂ (λ m n. put m (blocks_from (k + 1) (frames_at n s c.put_block-at.result)) c.put_block-at.new.out) x y ∙ o ∙ i.1.1))

pub returns : goal.returns
returns c =
    let i = c.loop-number.invariant in
    let k = c.loop-number.number in
    let t = c.loop-number-test.false in
    sym (blocks_end (c.args.total - 3 * k) k c.args.s.now c.loop-number.at (512 * k) c.loop-number.out (omega arith)) ∙ i.1.1
