use Rattle.listen.specs.Lines.{decimal}
use Rattle.std.proofs.Common.{◌++◌, refl, arith, length-append}
use Rattle.listen.proofs.Decimals.{decimal-small}
use Rattle.listen.proofs.Writing.{inside, told, one_number}
use Rattle.listen.proofs.line.put_one.Goals as goal

pub slice_bounds-text-end-3 : goal.slice_bounds-text-end-3
slice_bounds-text-end-3 c = let a = c.args in
    let B = one_number a.front.now a.back.now _ _ _ _ a.n _ _ _ (omega arith) c.requires.0 c.requires.1 refl c.text-a.ensures c.decimal-b.ensures c.text-c.ensures in
    inside _ _ _ B (omega (arith, decimal-small a.n, length-append a.front.now (decimal a.n ++ a.back.now), length-append (decimal a.n) a.back.now))

pub returns : goal.returns
returns c = let a = c.args in
    let B = one_number a.front.now a.back.now _ _ _ _ a.n _ _ _ (omega arith) c.requires.0 c.requires.1 refl c.text-a.ensures c.decimal-b.ensures c.text-c.ensures in
    told _ _ _ _ _ _ _ B c.text.ensures
