use Rattle.pcap.proofs.Passing.{bad-goes, short-goes, made-goes, due-small}
use Rattle.capture.specs.Made.{Bytes}
use native.Mathlib.Omega.{arith}
use Rattle.pcap.proofs.going.one_block.Goals as goal

pub returns-then-not-is_good : goal.returns-then-not-is_good
returns-then-not-is_good c = bad-goes _ _ _ _ c.is_good.ensures c.if-not-is_good.true _ _ c.stay.ensures

pub returns-then-out-n : goal.returns-then-out-n
returns-then-out-n c = short-goes _ _ _ _ c.is_good.ensures c.if-not-is_good.false _ c.block_len-n.ensures.0 c.if-out-n.true _ _ c.stay-then-out-n.ensures

pub overflow_add-result : goal.overflow_add-result
overflow_add-result c =
    let y : Bytes c.args.block.now = λ i. omega (arith, c.type_inv.block i) in
    let r = due-small _ _ y _ c.is_good.ensures c.if-not-is_good.false in
    omega arith

pub returns : goal.returns
returns c = made-goes _ _ _ _ c.is_good.ensures c.if-not-is_good.false _ c.block_len-n.ensures.0 c.if-out-n.false _ c.put_block.ensures.1
