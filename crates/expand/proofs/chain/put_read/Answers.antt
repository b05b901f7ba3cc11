use native.Mathlib.Omega.{arith}
use Rattle.expand.proofs.chain.put_read.Goals as goal

pub put_extension-requires : goal.put_extension-requires
put_extension-requires c = (omega (arith, c.requires), omega (arith, c.requires, c.saturating_sub.ensures), omega (arith, c.requires, c.saturating_sub.ensures))

pub returns : goal.returns
returns c = rw (← c.next_number-number.ensures, ← c.saturating_sub.ensures) c.put_extension.ensures
