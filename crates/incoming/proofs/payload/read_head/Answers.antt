use Rattle.std.proofs.lemmas.Result.{err_from_is_err_and}
use Rattle.incoming.proofs.Steps.{kind-fragment, kind-iphc, no_kind}
use Rattle.incoming.proofs.payload.read_head.Goals as goal

pub returns-in_err-dispatch_at : goal.returns-in_err-dispatch_at
returns-in_err-dispatch_at c = let p = err_from_is_err_and c.from_residual.result c.from_residual.ensures.1 in
    rw (p.1, p.2) (no_kind _ _ _ c.dispatch_at.ensures _ c.in_err-dispatch_at.was)

pub returns-in-FragmentHeader : goal.returns-in-FragmentHeader
returns-in-FragmentHeader c = kind-fragment _ _ _ c.dispatch_at.ensures _ _ c.in_ok-dispatch_at.was c.in-FragmentHeader.is c.fragment_head.ensures

pub returns-in-IphcHeader : goal.returns-in-IphcHeader
returns-in-IphcHeader c = kind-iphc _ _ _ c.dispatch_at.ensures 0 _ c.in_ok-dispatch_at.was c.in-IphcHeader.is
