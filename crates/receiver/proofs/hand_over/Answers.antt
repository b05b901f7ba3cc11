use Rattle.receiver.proofs.Steps.{told-right, told-wrong}
use Rattle.receiver.proofs.hand_over.Goals as goal

pub returns-then-is_right : goal.returns-then-is_right
returns-then-is_right c = told-right c.args.sum c.args.datagram.now c.args.out.now _ c.is_right.ensures c.if-is_right.true _ c.put_slice.ensures

pub returns-else-is_right : goal.returns-else-is_right
returns-else-is_right c = told-wrong c.args.sum c.args.datagram.now c.args.out.now _ c.is_right.ensures c.if-is_right.false
