use Rattle.pcap.proofs.Carrying.{block-sum}
use native.Mathlib.Omega.{arith}
use Rattle.pcap.proofs.going.block_len.Goals as goal

pub returns : goal.returns
returns c = (block-sum _ _ _ _ c.place_len.ensures.0 c.place_len-2.ensures.0 c.place_len-3.ensures.0, omega arith)
