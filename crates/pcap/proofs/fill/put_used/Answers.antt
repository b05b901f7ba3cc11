use mathlib.Core.Path.{refl}
use Rattle.pcap.proofs.Filling.{used-put}
use Rattle.pcap.proofs.fill.put_used.Goals as goal

pub returns : goal.returns
returns c = used-put _ _ _ _ _ _ _ _ _ refl c.put_le32.ensures c.put_byte.ensures c.put_all.ensures c.put_zeros.ensures
