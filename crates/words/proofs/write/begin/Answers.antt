use Rattle.std.proofs.lemmas.Result.{err_from_is_err_and}
use Rattle.reassembly.proofs.Fresh.{begins-accepted, begins-refused}
use Rattle.words.specs.Words.{table_in}
use Rattle.words.proofs.write.begin.Goals as goal

pub returns-in_err-seat : goal.returns-in_err-seat
returns-in_err-seat c =
    let p = err_from_is_err_and c.from_residual.result c.from_residual.ensures.1 in
    rw (p.1, p.2) (begins-refused c.args.count c.args.gateways (table_in c.args.t.now) _ c.in_err-seat.ensures)

pub returns : goal.returns
returns c = begins-accepted c.args.count c.args.gateways (table_in c.args.t.now) _ c.in_ok-seat.ensures _ c.sit.ensures
