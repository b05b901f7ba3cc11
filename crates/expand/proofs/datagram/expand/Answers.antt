use Rattle.std.proofs.lemmas.Result.{err_from_is_err_and}
use native.Mathlib.Omega.{arith}
use mathlib.Core.Path.{sym}
use lib.ListN.{replicate, length-replicate}
use Prim.Native.Nat.{ℕ}
use Rattle.expand.specs.Expand.{expansion}
use Rattle.expand.proofs.Datagrams.{room-enough, refused-unwritten}
use Rattle.expand.proofs.FillLaws.{filled_on, copied-refused, copied-short, copied-answer, copied-bytes}
use Rattle.expand.proofs.datagram.expand.Goals as goal

pub returns-in_err-x : goal.returns-in_err-x
returns-in_err-x c = let p = err_from_is_err_and c.from_residual.result c.from_residual.ensures.1 in
    let m = expansion c.args.contexts.now c.args.ll.src c.args.ll.dst c.args.size c.args.frame.now c.args.c.at in
    let big = room-enough c.args.contexts.now c.args.ll.src c.args.ll.dst c.args.size c.args.frame.now c.args.c.at (replicate 455 0) (omega (arith, length-replicate {A = ℕ} 455 0)) in
    rw (p.1, p.2) (copied-refused m (replicate 455 0) c.args.out.now _ big c.in_err-x.ensures.0)

pub returns-then-out-x : goal.returns-then-out-x
returns-then-out-x c = let m = expansion c.args.contexts.now c.args.ll.src c.args.ll.dst c.args.size c.args.frame.now c.args.c.at in
    let big = room-enough c.args.contexts.now c.args.ll.src c.args.ll.dst c.args.size c.args.frame.now c.args.c.at (replicate 455 0) (omega (arith, length-replicate {A = ℕ} 455 0)) in
    let z = filled_on m (replicate 455 0) _ _ c.in_ok-x.ensures.0 c.in_ok-x.ensures.1 in
    let q = copied-short m (replicate 455 0) _ c.args.out.now _ _ big c.in_ok-x.ensures.0 z c.if-out-x.true in
    (q, sym (refused-unwritten m c.args.out.now 7 (sym q)))

pub returns : goal.returns
returns c = let m = expansion c.args.contexts.now c.args.ll.src c.args.ll.dst c.args.size c.args.frame.now c.args.c.at in
    let big = room-enough c.args.contexts.now c.args.ll.src c.args.ll.dst c.args.size c.args.frame.now c.args.c.at (replicate 455 0) (omega (arith, length-replicate {A = ℕ} 455 0)) in
    let z = filled_on m (replicate 455 0) _ _ c.in_ok-x.ensures.0 c.in_ok-x.ensures.1 in
    (copied-answer m (replicate 455 0) _ c.args.out.now _ _ big c.in_ok-x.ensures.0 z c.if-out-x.false, copied-bytes m (replicate 455 0) _ c.args.out.now _ _ big c.in_ok-x.ensures.0 z c.if-out-x.false _ c.put_slice.ensures)
