use Rattle.std.proofs.lemmas.Result.{err_from_is_err_and}
use Rattle.incoming.proofs.Steps.{on-fragment, no-fragment}
use Rattle.incoming.proofs.payload.fragment_head.Goals as goal

pub returns-in_err-h : goal.returns-in_err-h
returns-in_err-h c = let p = err_from_is_err_and c.from_residual.result c.from_residual.ensures.1 in
    rw (p.1, p.2) (no-fragment _ _ _ c.read.ensures _ c.in_err-h.was)

pub returns : goal.returns
returns c = on-fragment _ _ _ c.read.ensures _ _ _ c.in_ok-h.was c.part_head.ensures
