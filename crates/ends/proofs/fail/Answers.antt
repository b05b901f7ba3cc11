use Rattle.std.proofs.lemmas.Result.{on_ok_weaker}
use Rattle.ends.proofs.Lines.{appends-appends}
use Rattle.ends.proofs.fail.Goals as goal

pub returns : goal.returns
returns g c =
    let two = appends-appends _ _ _ _ _ c.in_ok-label.ensures.bytes c.in_ok-colon.ensures.bytes in
    let three = appends-appends _ _ _ _ _ two c.in_ok-words.ensures.bytes in
    on_ok_weaker c.write_all-end.result (λ four. (c.upto.result.now, appends-appends _ _ _ _ _ three four)) c.write_all-end.ensures.bytes
