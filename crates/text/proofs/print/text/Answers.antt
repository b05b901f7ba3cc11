use Rattle.std.proofs.Common.{refl, arith}
use Rattle.text.proofs.Printing.{printed-all, printed-none, copied}
use Rattle.text.proofs.print.text.Goals as goal

pub returns-then-out-s : goal.returns-then-out-s
returns-then-out-s c = let a = c.args in printed-none a.at a.s.now a.out.now (omega arith)

pub returns-then-out-s-2 : goal.returns-then-out-s-2
returns-then-out-s-2 c = let a = c.args in printed-none a.at a.s.now a.out.now (omega arith)

pub returns : goal.returns
returns c =
    let a = c.args in
    printed-all a.at a.s.now a.out.now _ _ (omega arith) (copied a.at _ a.s.now _ a.out.now (omega arith) (omega arith) c.copy_from_slice.ensures.after) refl
