use Rattle.expand.proofs.Tested.{tests, tested, not-stood}
use Rattle.expand.proofs.SumLaws.{stands-facts}
use mathlib.Core.Path.{refl, sym, ◌∙◌}
use native.Mathlib.Omega.{arith}
use Rattle.expand.proofs.checksum.is_right.Goals as goal

pub returns-then-m-ne2 : goal.returns-then-m-ne2
returns-then-m-ne2 c = search tests

pub returns-then-buf-n : goal.returns-then-buf-n
returns-then-buf-n c = search tests

pub word_at-requires : goal.word_at-requires
word_at-requires c = omega (arith, stands-facts c.args.m c.args.n (sym c.stands.ensures ∙ c.if-stands.true))

pub checksum-requires : goal.checksum-requires
checksum-requires c = omega (arith, stands-facts c.args.m c.args.n (sym c.stands.ensures ∙ c.if-stands.true))

pub returns-then-stands : goal.returns-then-stands
returns-then-stands c = tested c.args.m c.args.n _ _ c.args.buf.now _ c.stands.ensures c.if-stands.true c.if-m-ne2.false c.if-buf-n.false c.word_at.ensures c.checksum.ensures refl

pub returns : goal.returns
returns c = not-stood c.args.m c.args.n c.args.buf.now c.stands.ensures c.if-stands.false c.if-m-ne2.false
