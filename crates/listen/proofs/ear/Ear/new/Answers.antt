use Rattle.listen.proofs.Hearing.{begins}
use Rattle.listen.proofs.ear.Ear.new.Goals as goal

pub returns : goal.returns
returns c =
    let b = c in
    let a = b in
    begins _ _ _ (rw (a.listed_as-a.ensures, a.listed_as-b.ensures, a.listed_as-c.ensures, b.listed_as-d.ensures) at c.begin.ensures)
