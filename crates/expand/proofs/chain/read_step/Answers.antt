use Rattle.expand.specs.Chain.{link}
use Rattle.expand.proofs.Steps.{chain_steps, on-nhc}
use Rattle.expand.proofs.chain.read_step.Goals as goal

pub returns-then-left-eq0 : goal.returns-then-left-eq0
unfolding link
returns-then-left-eq0 c = search (chain_steps, on-nhc, c.in_ok-kind.ensures)

pub returns-in-UdpHeader : goal.returns-in-UdpHeader
unfolding link
returns-in-UdpHeader c = search (chain_steps, on-nhc, c.in_ok-kind.ensures)

pub returns-else-left-eq0 : goal.returns-else-left-eq0
unfolding link
returns-else-left-eq0 c = search (chain_steps, on-nhc, c.in_ok-kind.ensures)
