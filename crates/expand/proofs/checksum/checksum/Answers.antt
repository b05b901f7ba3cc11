use Rattle.expand.proofs.SumLaws.{at_ones, at_other}
use native.Mathlib.Omega.{arith}
use Rattle.expand.proofs.checksum.checksum.Goals as goal

pub returns-then-z-eq65535 : goal.returns-then-z-eq65535
returns-then-z-eq65535 c = at_ones c.args.ip c.args.udp c.args.d.now c.requires.0 c.requires.1 c.requires.2 _ _ _ c.sum_words.ensures.0 c.sum_words-2.ensures.0 c.sum_words-3.ensures.0 (omega arith) (λ i. omega (arith, c.type_inv.d i)) c.if-z-eq65535.true

pub returns : goal.returns
returns c = at_other c.args.ip c.args.udp c.args.d.now c.requires.0 c.requires.1 c.requires.2 _ _ _ c.sum_words.ensures.0 c.sum_words-2.ensures.0 c.sum_words-3.ensures.0 (omega arith) (λ i. omega (arith, c.type_inv.d i)) c.if-z-eq65535.false
