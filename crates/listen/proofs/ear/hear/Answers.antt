use Rattle.listen.proofs.Hearing.{heard-good, heard-bad}
use Rattle.listen.proofs.ear.hear.Goals as goal

pub returns-in-Ok : goal.returns-in-Ok
returns-in-Ok c = search (heard-good) depth 8

pub returns-in-Err : goal.returns-in-Err
returns-in-Err c = let a = c.args in heard-bad a.ear a.mem.now a.out.now a.block.now c.judge.result _ _ _ _ _ c.judge.ensures c.in-Err.is c.put_bad-next.ensures
