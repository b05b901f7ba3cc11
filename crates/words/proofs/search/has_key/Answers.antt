use mathlib.Core.Path.{◌∙◌}
use Prim.Native.Nat.{◌<◌}
use native.Mathlib.Omega.{arith}
use borrow.Author.Tests.{ne_eqb}
use Rattle.reassembly.proofs.Tests.{and-told, and-stops}
use Rattle.words.proofs.Keys.{key-other, key-free, key-rest}
use Rattle.words.proofs.search.has_key.Goals as goal

pub returns-else-t-k : goal.returns-else-t-k
returns-else-t-k c = let a : c.args.key.size < 65536 = omega arith in
    let b : c.args.key.tag < 65536 = omega arith in
    rw (ne_eqb _ _ c.if-t-k.false) (key-other c.args.t.now c.args.i c.requires c.args.key a b c.if-t-k.false)

pub returns-else-t-k-eq1 : goal.returns-else-t-k-eq1
returns-else-t-k-eq1 c = let a : c.args.key.size < 65536 = omega arith in
    let b : c.args.key.tag < 65536 = omega arith in
    rw (ne_eqb _ _ c.if-t-k-eq1.false) (key-free c.args.t.now c.args.i c.requires c.args.key a b c.if-t-k-eq1.false)

pub returns-then-is_source : goal.returns-then-is_source
returns-then-is_source c = let a : c.args.key.size < 65536 = omega arith in
    let b : c.args.key.tag < 65536 = omega arith in
    and-told _ _ c.is_source.ensures c.if-is_source.true c.is_node.ensures ∙ key-rest c.args.t.now c.args.i c.requires c.args.key a b c.if-t-k.true c.if-t-k-eq1.true

pub returns-else-is_source : goal.returns-else-is_source
returns-else-is_source c = let a : c.args.key.size < 65536 = omega arith in
    let b : c.args.key.tag < 65536 = omega arith in
    and-stops _ _ c.is_source.ensures c.if-is_source.false ∙ key-rest c.args.t.now c.args.i c.requires c.args.key a b c.if-t-k.true c.if-t-k-eq1.true
