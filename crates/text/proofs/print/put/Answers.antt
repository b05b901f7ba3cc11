use Rattle.std.proofs.Common.{[], ◌∷◌, refl, arith}
use Rattle.octets.specs.Write.{put}
use Rattle.text.proofs.Printing.{printed-all, printed-none}
use Rattle.text.proofs.print.put.Goals as goal

pub returns-then-at-out : goal.returns-then-at-out
unfolding put
returns-then-at-out c = let a = c.args in printed-all a.at (a.b ∷ []) a.out.now _ _ (omega arith) refl refl

pub returns : goal.returns
returns c = let a = c.args in printed-none a.at (a.b ∷ []) a.out.now (omega arith)
