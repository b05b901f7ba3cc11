use Rattle.std.proofs.Common.{refl, ap, arith, rules}
use Rattle.listen.proofs.Hearing.{going, turn, gone}
use Rattle.listen.proofs.ear.hear_frames.Goals as goal

pub loop-k-init : goal.loop-k-init
loop-k-init c = (refl, refl, refl, going _ _ _)

pub loop-k-preserved : goal.loop-k-preserved
loop-k-preserved c = let a = c.args in
    let l = c.loop-k in (
      search rules,
      search rules,
      search rules,
      turn a.block.now l.k _ l.e l.mem l.out _ l.text l.to c.receive-answer.result _ _ _ _ _ _ _ _ l.invariant.3 (omega (arith, c.count-k-end.ensures, c.loop-k-test.true)) c.time.ensures c.frame.ensures c.receive-answer.ensures c.wrapping_add_u64.ensures.value c.put_frame-to.ensures,
    )

pub returns : goal.returns
returns c = let a = c.args in
    let l = c.loop-k in
    let d = gone a.block.now l.k _ _ _ _ l.invariant.3 (omega (arith, c.count-k-end.ensures, c.loop-k-test.false)) in
    record { ear = ap (λ x. x.ear) d.0; memory = ap (λ x. x.mem) d.0; output = ap (λ x. x.out) d.0; more = refl; text = d.1 }
