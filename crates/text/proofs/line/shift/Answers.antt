use Rattle.std.proofs.Common.{◌≡◌, ◌+◌, ◌-◌, ℕ, List, get_or, drop, set, sym, refl, ap, ◌∙◌, arith}
use Rattle.octets.specs.Write.{put}
use Rattle.text.proofs.Lines.{unmoved, move_step, tail_step, move-done, moved_none}
use Rattle.text.proofs.line.shift.Goals as goal

pub returns-then-from-eq0 : goal.returns-then-from-eq0
returns-then-from-eq0 c = rw c.if-from-eq0.true (moved_none c.args.s.now)

pub loop-j-init : goal.loop-j-init
loop-j-init c =
    let a = c.args in
    let z : a.from - a.from ≡ 0 = omega arith in
    (refl, ap (λ k. put k (drop a.from a.s.now) a.s.now) z)

pub loop-j-preserved : goal.loop-j-preserved
loop-j-preserved c =
    let a = c.args in
    let l = c.loop-j in
    let was = a.s.now in
    let f : l.j ≡ l.j - a.from + a.from = omega (arith, l.auto.j) in
    let b : l.j - a.from + a.from ≡ l.j = omega (arith, l.auto.j) in
    let n : l.j - a.from + 1 ≡ l.j + 1 - a.from = omega (arith, l.auto.j) in
    let x = get_or l.s l.j 0 in
    let s : List ℕ = set l.s (l.j - a.from) x in
    let e : get_or l.s l.j 0 ≡ get_or was l.j 0 =
    ap (λ k. get_or l.s k 0) f ∙ unmoved was l.s (l.j - a.from) a.from l.invariant.0 ∙ ap (λ k. get_or was k 0) b in (
      rw n at (tail_step was l.s (l.j - a.from) x l.invariant.0),
      rw n at (move_step was l.s (l.j - a.from) l.j x c.loop-j-test.true e) ∙ l.invariant.1,
    )

pub returns : goal.returns
returns c =
    let a = c.args in
    let l = c.loop-j in
    sym (move-done a.s.now l.s (l.j - a.from) l.j c.loop-j-test.false) ∙ l.invariant.1
