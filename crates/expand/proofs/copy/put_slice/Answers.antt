-- What is put so far, with the bytes that are left to put, is the whole.
use Prim.Native.Nat.{◌<◌, ◌≤◌, ◌-◌, min}
use native.Mathlib.Nat.{add-zero}
use native.Mathlib.Omega.{arith}
use mathlib.Core.Path.{◌≡◌, sym, ap, ◌∙◌}
use lib.ListN.{length}
use Rattle.octets.specs.Write.{put}
use Rattle.expand.proofs.CopyLaws.{part, part_length, part-fits, put-more, put-end}
use Rattle.expand.proofs.copy.put_slice.Goals as goal

pub loop-i-init : goal.loop-i-init
loop-i-init c = let a = c.args in ap (λ k. put k (part a.s.now a.from a.n) a.buf.now) (add-zero a.at)

pub overflow_add-buf : goal.overflow_add-buf
overflow_add-buf c =
    let a = c.args in
    let q : c.min-m.result ≡ min (length (part a.s.now a.from a.n)) (length a.buf.now - a.at) = part-fits a.s.now a.buf.now a.at a.from a.n _ (rw (← c.left.ensures, ← c.left-2.ensures, ← c.min.ensures) c.min-m.ensures) in
    omega (arith, part_length a.s.now a.from a.n)

pub bounds-s-from : goal.bounds-s-from
bounds-s-from c =
    let a = c.args in
    let q : c.min-m.result ≡ min (length (part a.s.now a.from a.n)) (length a.buf.now - a.at) = part-fits a.s.now a.buf.now a.at a.from a.n _ (rw (← c.left.ensures, ← c.left-2.ensures, ← c.min.ensures) c.min-m.ensures) in
    omega (arith, part_length a.s.now a.from a.n)

pub loop-i-preserved : goal.loop-i-preserved
loop-i-preserved c =
    let a = c.args in
    let q : c.min-m.result ≡ min (length (part a.s.now a.from a.n)) (length a.buf.now - a.at) = part-fits a.s.now a.buf.now a.at a.from a.n _ (rw (← c.left.ensures, ← c.left-2.ensures, ← c.min.ensures) c.min-m.ensures) in
    let k : c.loop-i.i < length (part a.s.now a.from a.n) = omega arith in
    sym (put-more a.s.now c.loop-i.buf a.at a.from a.n c.loop-i.i k) ∙ c.loop-i.invariant

pub returns : goal.returns
returns c =
    let a = c.args in
    let q : c.min-m.result ≡ min (length (part a.s.now a.from a.n)) (length a.buf.now - a.at) = part-fits a.s.now a.buf.now a.at a.from a.n _ (rw (← c.left.ensures, ← c.left-2.ensures, ← c.min.ensures) c.min-m.ensures) in
    let e : c.min-m.result ≡ min (length (part a.s.now a.from a.n)) (length c.loop-i.buf - a.at) = omega arith in
    sym (put-end (part a.s.now a.from a.n) c.loop-i.buf a.at c.loop-i.i _ e (omega arith)) ∙ c.loop-i.invariant
