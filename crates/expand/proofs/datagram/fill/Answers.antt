use lib.ListN.{length}
use Rattle.expand.specs.Expand.{expansion}
use native.Mathlib.Omega.{arith}
use Rattle.expand.proofs.FillLaws.{cleared, filled_on}
use Rattle.expand.proofs.datagram.fill.Goals as goal

pub returns-in-Ok : goal.returns-in-Ok
returns-in-Ok c = (c.in-Ok.ensures.0, filled_on (expansion c.args.contexts.now c.args.ll.src c.args.ll.dst c.args.size c.args.frame.now c.args.c.at) c.args.room.now _ _ c.in-Ok.ensures.0 c.in-Ok.ensures.1)

pub returns-in-Err : goal.returns-in-Err
returns-in-Err c = (c.in-Err.ensures.0, cleared (expansion c.args.contexts.now c.args.ll.src c.args.ll.dst c.args.size c.args.frame.now c.args.c.at) c.args.room.now _ _ (length c.fill_from.new.room) c.in-Err.ensures.0 c.clear.ensures (omega arith))
