use Rattle.listen.specs.Lines.{decimal, newline}
use Rattle.std.proofs.Common.{◌++◌, refl, arith, length-append}
use Rattle.listen.proofs.Decimals.{decimal-small}
use Rattle.listen.proofs.Writing.{inside, told, two-numbers}
use Rattle.listen.proofs.line.put_two.Goals as goal

pub slice_bounds-text-end-2 : goal.slice_bounds-text-end-2
slice_bounds-text-end-2 c = let a = c.args in
    let B = two-numbers a.word.now _ _ _ _ _ a.n a.x _ _ _ _ (omega arith) (omega arith) c.requires refl c.decimal-a.ensures c.text-b.ensures c.decimal-c.ensures c.put-d.ensures in
    inside _ _ _ B (omega (arith, decimal-small a.n, decimal-small a.x, length-append (decimal a.n) (a.word.now ++ (decimal a.x ++ newline)), length-append a.word.now (decimal a.x ++ newline), length-append (decimal a.x) newline))

pub returns : goal.returns
returns c = let a = c.args in
    let B = two-numbers a.word.now _ _ _ _ _ a.n a.x _ _ _ _ (omega arith) (omega arith) c.requires refl c.decimal-a.ensures c.text-b.ensures c.decimal-c.ensures c.put-d.ensures in
    told _ _ _ _ _ _ _ B c.text.ensures
