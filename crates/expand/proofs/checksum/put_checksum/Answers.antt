use Rattle.expand.proofs.SumLaws.{lent, not-standing, stands-facts, summed-in}
use mathlib.Core.Path.{sym, ◌∙◌}
use native.Mathlib.Omega.{arith}
use Rattle.expand.proofs.checksum.put_checksum.Goals as goal

pub returns-then-m-ne1 : goal.returns-then-m-ne1
returns-then-m-ne1 c = search lent

pub returns-then-buf-n : goal.returns-then-buf-n
returns-then-buf-n c = search lent

pub checksum-sum-requires : goal.checksum-sum-requires
checksum-sum-requires c = omega (arith, stands-facts c.args.m c.args.n (sym c.stands.ensures ∙ c.if-stands.true))

pub returns-then-stands : goal.returns-then-stands
returns-then-stands c = summed-in c.args.m c.args.n _ c.args.buf.now _ c.if-m-ne1.false (sym c.stands.ensures ∙ c.if-stands.true) c.if-buf-n.false c.checksum-sum.ensures c.put_be16.ensures

pub returns-else-stands : goal.returns-else-stands
returns-else-stands c = not-standing c.args.m c.args.n c.args.buf.now c.stands.ensures c.if-stands.false c.if-m-ne1.false
