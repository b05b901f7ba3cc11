use Rattle.std.proofs.Common.{◌-◌, length}
use Rattle.expand.proofs.nested.+chain_header.Given as goal

-- the bytes that are left
abbrev pub decreases-chain : goal.decreases-chain
decreases-chain l = length l.frame.now - l.f.at.at

abbrev pub decreases-header : goal.decreases-header
decreases-header l = length l.frame.now - l.i.at.at
