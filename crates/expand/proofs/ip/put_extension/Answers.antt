use Rattle.expand.proofs.FullLaws.{ext-put}
use mathlib.Core.Path.{refl}
use Rattle.expand.proofs.ip.put_extension.Goals as goal

pub returns : goal.returns
returns c = ext-put _ _ _ c.args.len c.args.from _ c.args.frame.now _ _ _ _ _ c.requires.2 c.full_size-size.ensures.0 refl c.put_byte.ensures c.put_byte-2.ensures c.put_slice.ensures c.put_pad.ensures
