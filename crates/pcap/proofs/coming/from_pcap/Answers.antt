use Rattle.pcap.proofs.Filling.{came, came-short, came-made, start-within}
use Rattle.pcap.proofs.Counting.{head-none, count_none}
use Rattle.pcap.proofs.Carrying.{handed, move-refused}
use mathlib.Core.Path.{sym, ◌∙◌}
use Rattle.pcap.specs.Moves.{from_pcap}
use Rattle.capture.specs.Made.{Bytes}
use native.Mathlib.Omega.{arith}
use Rattle.pcap.proofs.coming.from_pcap.Goals as goal

pub overflow_add-n : goal.overflow_add-n
overflow_add-n c = let s = c.args.pcap.now in let b : Bytes s = λ i. omega (arith, c.type_inv.pcap i) in let r = (came s b _ c.head.ensures _ c.in_ok-c.was _ c.count.ensures _ c.in_ok-k.was).few in omega arith

pub overflow_mul-n : goal.overflow_mul-n
overflow_mul-n c = let s = c.args.pcap.now in let b : Bytes s = λ i. omega (arith, c.type_inv.pcap i) in let r = (came s b _ c.head.ensures _ c.in_ok-c.was _ c.count.ensures _ c.in_ok-k.was).few in omega arith

pub returns-then-out-n : goal.returns-then-out-n
returns-then-out-n c = let s = c.args.pcap.now in let b : Bytes s = λ i. omega (arith, c.type_inv.pcap i) in came-short s b _ c.head.ensures _ c.in_ok-c.was _ c.count.ensures _ c.in_ok-k.was _ c.if-out-n.true

pub put_blocks-requires : goal.put_blocks-requires
put_blocks-requires c = let s = c.args.pcap.now in let b : Bytes s = λ i. omega (arith, c.type_inv.pcap i) in (start-within s b _ c.head.ensures _ c.in_ok-c.was, ((came s b _ c.head.ensures _ c.in_ok-c.was _ c.count.ensures _ c.in_ok-k.was).few, c.if-out-n.false))

pub returns : goal.returns
returns c = let s = c.args.pcap.now in let b : Bytes s = λ i. omega (arith, c.type_inv.pcap i) in came-made s b _ c.head.ensures _ c.in_ok-c.was _ c.count.ensures _ c.in_ok-k.was _ _ c.if-out-n.false c.put_blocks.ensures

pub returns-in_err-k : goal.returns-in_err-k
returns-in_err-k c =
    let s = c.args.pcap.now in
    let b : Bytes s = λ i. omega (arith, c.type_inv.pcap i) in
    let t = move-refused (from_pcap s) _ c.args.out.now (count_none s b _ c.head.ensures _ c.in_ok-c.was _ c.count.ensures _ c.in_err-k.was) in
    (sym (handed c.from_residual-in_err-k.result _ c.from_residual-in_err-k.ensures) ∙ t.0, t.1)

pub returns-in_err-c : goal.returns-in_err-c
returns-in_err-c c =
    let s = c.args.pcap.now in
    let b : Bytes s = λ i. omega (arith, c.type_inv.pcap i) in
    let t = move-refused (from_pcap s) _ c.args.out.now (head-none s b _ c.head.ensures _ c.in_err-c.was) in
    (sym (handed c.from_residual.result _ c.from_residual.ensures) ∙ t.0, t.1)
