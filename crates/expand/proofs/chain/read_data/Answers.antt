use Rattle.std.proofs.lemmas.Result.{err_from_is_err_and}
use Rattle.octets.proofs.Steps.{flags}
use Rattle.expand.specs.Chain.{ext_data}
use Rattle.expand.proofs.Steps.{on-octets, no-octets, link-told}
use Rattle.expand.proofs.chain.read_data.Goals as goal

pub returns-then-is_bad : goal.returns-then-is_bad
unfolding ext_data
returns-then-is_bad c = search flags

pub returns-in_err-to : goal.returns-in_err-to
unfolding ext_data
returns-in_err-to c = let p = err_from_is_err_and c.from_residual.result c.from_residual.ensures.1 in
    rw (p.1, p.2) (search (flags, no-octets, c.in_err-to.ensures))

pub returns : goal.returns
unfolding ext_data
returns c = search (flags, on-octets, link-told, c.in_ok-to.ensures)
