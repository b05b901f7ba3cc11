use Rattle.lift.proofs.Lists.{how-many, four_is, begun-list, refused-list}
use Rattle.lift.proofs.lift_begin_flat.Goals as goal

pub returns-in-Ok : goal.returns-in-Ok
returns-in-Ok c = let l = c.args.gateways.now in
    begun-list l _ _ (four_is _ _ _ _ _ c.gateway_at-a.ensures c.gateway_at-b.ensures c.gateway_at-c.ensures c.gateway_at-d.ensures) (how-many l) _ _ _ c.begin.ensures c.in-Ok.is

pub returns-in-Err : goal.returns-in-Err
returns-in-Err c = let l = c.args.gateways.now in
    refused-list l _ _ (four_is _ _ _ _ _ c.gateway_at-a.ensures c.gateway_at-b.ensures c.gateway_at-c.ensures c.gateway_at-d.ensures) (how-many l) _ _ _ c.begin.ensures _ c.in-Err.is _ c.number.ensures
