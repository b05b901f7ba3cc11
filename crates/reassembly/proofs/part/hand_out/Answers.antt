use Rattle.reassembly.proofs.Parts.{hands-good, hands-bad}
use Rattle.reassembly.proofs.part.hand_out.Goals as goal

pub returns : goal.returns
returns c = hands-good c.args.sum c.args.size c.args.room.now c.args.out.now _ _ _ c.is_right.ensures c.if-not-is_right.false c.requires.1 c.requires.2 c.put_slice.ensures c.put_checksum.ensures

pub returns-then-not-is_right : goal.returns-then-not-is_right
returns-then-not-is_right c = hands-bad c.args.sum c.args.size c.args.room.now c.args.out.now _ c.is_right.ensures c.if-not-is_right.true c.requires.1
