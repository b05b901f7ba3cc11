use Rattle.pcap.proofs.Passing.{few-told, held-told, none-comes, short-comes, made-comes, refused-comes, some}
use Rattle.capture.specs.Made.{Bytes}
use native.Mathlib.Omega.{arith}
use Rattle.pcap.proofs.coming.one_block.Goals as goal

pub returns-then-n-eq0 : goal.returns-then-n-eq0
returns-then-n-eq0 c = none-comes _ _ _ _ c.count.ensures _ c.in-Ok.is c.if-n-eq0.true _ _ _ c.stay.ensures

pub returns-then-out-lt-BLOCK : goal.returns-then-out-lt-BLOCK
returns-then-out-lt-BLOCK c = let y : Bytes c.args.part.now = λ i. omega (arith, c.type_inv.part i) in short-comes _ _ _ _ c.count.ensures _ c.in-Ok.is y (some _ c.if-n-eq0.false) c.if-out-lt-BLOCK.true _ _ _ c.stay-then-out-lt-BLOCK.ensures

pub overflow_cast-c : goal.overflow_cast-c
overflow_cast-c c = let r = held-told _ _ c.args.out.now _ c.count.ensures _ c.in-Ok.is (some _ c.if-n-eq0.false) in omega arith

pub put_block-used-requires : goal.put_block-used-requires
put_block-used-requires c = let h = c.if-out-lt-BLOCK.false in (few-told _ _ c.args.out.now _ c.count.ensures _ c.in-Ok.is, (omega arith, omega arith))

pub overflow_add-result : goal.overflow_add-result
overflow_add-result c = let r = held-told _ _ c.args.out.now _ c.count.ensures _ c.in-Ok.is (some _ c.if-n-eq0.false) in omega arith

pub returns-else-out-lt-BLOCK : goal.returns-else-out-lt-BLOCK
returns-else-out-lt-BLOCK c = let y : Bytes c.args.part.now = λ i. omega (arith, c.type_inv.part i) in made-comes _ _ _ _ c.count.ensures _ c.in-Ok.is y (some _ c.if-n-eq0.false) c.if-out-lt-BLOCK.false _ _ c.put_block-used.ensures

pub returns-in-Err : goal.returns-in-Err
returns-in-Err c = refused-comes _ _ _ _ c.count.ensures _ c.in-Err.is _ _ _ c.stay-in-Err.ensures
