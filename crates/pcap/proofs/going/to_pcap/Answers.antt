use Rattle.pcap.proofs.Carrying.{handed, move-short, went-room, went-made, told-length, told-refused, length-put}
use Rattle.pcap.specs.Moves.{to_pcap}
use mathlib.Core.Path.{ap, sym, ◌∙◌}
use lib.ListN.{length}
use native.Mathlib.Omega.{arith}
use Rattle.pcap.proofs.going.to_pcap.Goals as goal

pub returns-then-out-n : goal.returns-then-out-n
returns-then-out-n c = let a = to_pcap c.args.capture.now in move-short a _ _ (told-length _ _ a c.measure.ensures c.in_ok-n.was) c.if-out-n.true

pub put_blocks-requires : goal.put_blocks-requires
put_blocks-requires c = let s = c.args.capture.now in let r = went-room s _ (told-length _ _ (to_pcap s) c.measure.ensures c.in_ok-n.was) (length c.args.out.now) c.if-out-n.false in let l = ap length c.put_head.ensures ∙ length-put _ _ _ in omega arith

pub returns : goal.returns
returns c = let s = c.args.capture.now in went-made s _ (told-length _ _ (to_pcap s) c.measure.ensures c.in_ok-n.was) _ _ _ c.if-out-n.false c.put_head.ensures c.put_blocks.ensures

pub returns-in_err-n : goal.returns-in_err-n
returns-in_err-n c =
    let t = told-refused _ _ (to_pcap c.args.capture.now) c.args.out.now c.measure.ensures c.in_err-n.was in
    (sym (handed c.from_residual.result _ c.from_residual.ensures) ∙ t.0, t.1)
