use Rattle.octets.proofs.Puts.{puts}
use Rattle.pcap.specs.Frames.{head_bytes}
use Rattle.pcap.proofs.put.put_head.Goals as goal

pub returns : goal.returns
unfolding head_bytes
returns c = search puts depth 9
