use mathlib.Core.Path.{◌≡◌, refl, sym, ap, ◌∙◌}
use lib.ListN.{length}
use Rattle.std.specs.Prelude.{Err}
use Rattle.std.proofs.lemmas.Result.{err_from_is_err_and}
use Rattle.octets.specs.Read.{is}
use Rattle.octets.specs.Answers.{of_answer}
use Rattle.words.specs.Words.{table_in}
use Rattle.words.proofs.Numbers.{slots-eight}
use Rattle.receiver.specs.Steps.{judged}
use Rattle.receiver.proofs.Turns.{not_taken, room_for, timed, gives_of}
use Rattle.receiver.proofs.receive.Goals as goal

pub receive_timed-requires : goal.receive_timed-requires
receive_timed-requires c = let a = c.args in
    let e : is tt ≡ judged (table_in a.t.now).last a.time (length a.mem.now) (length a.out.now) = ap of_answer (sym c.in_ok-judge.was) ∙ (rw c.last.ensures at c.judge.ensures) in
    room_for (table_in a.t.now) a.time a.mem.now a.out.now e

pub returns-in_err-judge : goal.returns-in_err-judge
returns-in_err-judge c = let a = c.args in
    let p = err_from_is_err_and c.from_residual.result c.from_residual.ensures.1 in
    rw (p.1, p.2)
    (gives_of _ _ (table_in a.t.now) _ _ _ (not_taken (table_in a.t.now) a.time a.frame.now a.contexts.now a.mem.now a.out.now _ (ap of_answer (sym c.in_err-judge.was) ∙ (rw c.last.ensures at c.judge.ensures))) (Err _) refl refl)

pub returns : goal.returns
returns c = let a = c.args in
    let tb = table_in a.t.now in
    let e : is tt ≡ judged tb.last a.time (length a.mem.now) (length a.out.now) = ap of_answer (sym c.in_ok-judge.was) ∙ (rw c.last.ensures at c.judge.ensures) in
    c.receive_timed.ensures tb (timed tb a.time a.mem.now a.out.now e (slots-eight a.t.now) _ c.age.ensures)
