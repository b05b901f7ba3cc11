use mathlib.Core.Path.{ap, ◌∙◌}
use Rattle.std.specs.Prelude.{Ok}
use Rattle.std.proofs.lemmas.Result.{err_from_is_err_and}
use Rattle.incoming.proofs.Steps.{no-head, on-later, on-filled, no-filled}
use Rattle.incoming.proofs.payload.Payload.read.Goals as goal

pub returns-in_err-e-in-Ok-Compressed : goal.returns-in_err-e-in-Ok-Compressed
returns-in_err-e-in-Ok-Compressed c = let p = err_from_is_err_and c.from_residual.result c.from_residual.ensures.1 in
    rw (p.1, p.2)
    (no-filled _ _ _ _ c.if-scratch-lt-LONGEST.false _ c.read_head.ensures _ _ _ (c.in-Ok-Compressed.is ∙ ap Ok c.in-Ok-Compressed.field-0-is) _ c.link_addresses.ensures _ _ c.fill.ensures.0 c.fill.ensures.1 _ c.in_err-e-in-Ok-Compressed.was)

pub returns-in_ok-e-in-Ok-Compressed : goal.returns-in_ok-e-in-Ok-Compressed
returns-in_ok-e-in-Ok-Compressed c = on-filled _ _ _ _ c.if-scratch-lt-LONGEST.false _ c.read_head.ensures _ _ _ (c.in-Ok-Compressed.is ∙ ap Ok c.in-Ok-Compressed.field-0-is) _ c.link_addresses.ensures _ _ c.fill.ensures.0 c.fill.ensures.1 _ c.in_ok-e-in-Ok-Compressed.was _ c.expanded.ensures

pub returns-in-Ok-Later : goal.returns-in-Ok-Later
returns-in-Ok-Later c = on-later _ _ _ _ c.if-scratch-lt-LONGEST.false _ c.read_head.ensures _ _ _ _ (c.in-Ok-Later.is ∙ ap Ok c.in-Ok-Later.field-0-is)

pub returns-in-Err : goal.returns-in-Err
returns-in-Err c = no-head _ _ _ _ c.if-scratch-lt-LONGEST.false _ c.read_head.ensures _ c.in-Err.is _ c.clear-in-Err.ensures
