use Rattle.text.proofs.print.decimal.Goals as goal

pub returns : goal.returns
returns c =
    let d = c.decimal-k in
    record { count = d.result; fewest = d.ensures.len; printed = rw d.ensures.digits at c.text.ensures }
