use Rattle.std.proofs.Common.{◌≡◌, ◌+◌, ◌-◌, ◌<◌, ◌≤◌, length, sym, ap, ◌∙◌, arith}
use Rattle.text.specs.Bytes.{index_of}
use Rattle.text.proofs.Splitting.{feed_scanned, feed_found, feed_within, none_ended, none_scanned}
use Rattle.text.proofs.input.Input.line_len.Goals as goal

pub invariant_of-self : goal.invariant_of-self
invariant_of-self c =
    let i = c.self.inside in (
      omega arith,
      omega arith,
      omega arith,
      feed_scanned i.room i.start i.from i.have c.find-end.result (omega arith) (omega arith) (omega arith) c.self.invariant.3 c.find-end.ensures (omega arith),
    )

pub returns-then-end-self-clause-some : goal.returns-then-end-self-clause-some
returns-then-end-self-clause-some c =
    let i = c.self.inside in (
      feed_found i.room i.start i.from i.have c.find-end.result (omega arith) (omega arith) (omega arith) c.self.invariant.3 c.find-end.ensures (omega arith) ∙ ap (index_of 10) c.self.view_is,
      rw c.self.view_is at (feed_within i.room i.start i.from i.have c.find-end.result (omega arith) (omega arith) (omega arith) c.self.invariant.3 c.find-end.ensures (omega arith)),
    )

pub invariant_of-self-2 : goal.invariant_of-self-2
invariant_of-self-2 c =
    let i = c.self.inside in (
      omega arith,
      omega arith,
      omega arith,
      none_scanned i.room i.start i.from i.have c.find-end.result (omega arith) (omega arith) (omega arith) c.self.invariant.3 c.find-end.ensures (omega arith),
    )

pub returns-clause-none : goal.returns-clause-none
returns-clause-none c =
    let i = c.self.inside in
    ap (index_of 10) (sym c.self.view_is)
    ∙ none_ended i.room i.start i.from i.have c.find-end.result (omega arith) (omega arith) (omega arith) c.self.invariant.3 c.find-end.ensures (omega arith)
    ∙ ap length c.self.view_is
