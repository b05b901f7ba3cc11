use Rattle.std.proofs.lemmas.Result.{err_from_is_err_and}
use mathlib.Core.Path.{refl}
use Rattle.expand.proofs.FillLaws.{expansion-long, walk_refused, walk-answered, walk-written}
use Rattle.expand.proofs.datagram.fill_from.Goals as goal

pub returns-then-frame-gt127 : goal.returns-then-frame-gt127
returns-then-frame-gt127 c = let e = expansion-long c.args.contexts.now c.args.ll.src c.args.ll.dst c.args.size c.args.frame.now c.args.c.at c.if-frame-gt127.true in (rw e refl, tt)

pub returns-in_err-end : goal.returns-in_err-end
returns-in_err-end c = let p = err_from_is_err_and c.from_residual.result c.from_residual.ensures.1 in
    rw (p.1, p.2) (walk_refused c.args.contexts.now c.args.ll.src c.args.ll.dst c.args.size c.args.frame.now c.args.c.at c.if-frame-gt127.false c.args.room.now _ _ c.in_err-end.ensures, tt)

pub returns : goal.returns
returns c = (
  walk-answered c.args.contexts.now c.args.ll.src c.args.ll.dst c.args.size c.args.frame.now c.args.c.at c.if-frame-gt127.false c.args.room.now _ _ c.in_ok-end.ensures,
  walk-written c.args.contexts.now c.args.ll.src c.args.ll.dst c.args.size c.args.frame.now c.args.c.at c.if-frame-gt127.false c.args.room.now _ _ c.in_ok-end.ensures _ c.put_elided.ensures,
)
