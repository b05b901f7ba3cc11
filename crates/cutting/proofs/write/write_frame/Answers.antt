use Rattle.std.proofs.lemmas.Result.{err_from_is_err_and}
use Rattle.cutting.proofs.WriteLaws.{of-piece, past-last, not_ours, not-both}
use Rattle.cutting.proofs.write.write_frame.Goals as goal

pub returns-then-not-has_both : goal.returns-then-not-has_both
returns-then-not-has_both c = not-both _ _ _ _ _ c.requires c.has_both.ensures c.if-not-has_both.true

pub returns-then-not-is_ours : goal.returns-then-not-is_ours
returns-then-not-is_ours c = not_ours _ _ _ _ _ _ c.requires c.has_both.ensures c.if-not-has_both.false c.is_ours.ensures c.if-not-is_ours.true

pub returns-in_err-p : goal.returns-in_err-p
returns-in_err-p c = let p = err_from_is_err_and c.from_residual.result c.from_residual.ensures.1 in
    rw (p.1, p.2)
    (past-last _ _ _ _ _ _ _ _ _ c.requires c.has_both.ensures c.if-not-has_both.false c.is_ours.ensures c.if-not-is_ours.false c.plan_of-plan.ensures.0 c.piece_at.ensures c.in_err-p.was)

pub returns : goal.returns
returns c = of-piece _ _ _ _ _ _ _ _ _ _ _ c.requires c.has_both.ensures c.if-not-has_both.false c.is_ours.ensures c.if-not-is_ours.false c.plan_of-plan.ensures.0 c.piece_at.ensures c.in_ok-p.was c.write_piece.ensures.0 c.write_piece.ensures.1
