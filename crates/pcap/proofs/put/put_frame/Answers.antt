use Rattle.pcap.proofs.Carrying.{frame-put}
use mathlib.Core.Path.{refl}
use native.Mathlib.Omega.{arith}
use Rattle.pcap.proofs.put.put_frame.Goals as goal

pub returns : goal.returns
returns c = (omega arith, frame-put _ _ _ _ _ _ _ _ _ _ refl c.put_le32.ensures c.put_le32-2.ensures c.put_le32-3.ensures c.put_le32-4.ensures c.put_all.ensures)
