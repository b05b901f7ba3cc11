use mathlib.Core.Path.{refl}
use Rattle.pcap.proofs.Carrying.{put-mid}
use Rattle.pcap.proofs.put.put_all.Goals as goal

pub returns : goal.returns
returns c = put-mid c.args.at _ c.args.s.now _ c.args.buf.now refl c.requires c.copy_from_slice.ensures.after
