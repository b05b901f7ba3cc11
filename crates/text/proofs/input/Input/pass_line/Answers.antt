use Rattle.std.proofs.Common.{◌≡◌, ◌+◌, ◌-◌, ◌<◌, ◌≤◌, length, take, drop, ap, ◌∙◌, arith, length-drop, length-take-le}
use Rattle.text.proofs.Splitting.{none_yet}
use Rattle.text.proofs.input.Input.pass_line.Goals as goal

pub invariant_of-self : goal.invariant_of-self
invariant_of-self c =
    let i = c.self.inside in
    let w : length (drop i.start (take i.have i.room)) ≡ i.have - i.start = length-drop i.start (take i.have i.room) ∙ ap (λ n. n - i.start) (length-take-le i.have i.room (omega arith)) in
    let v : length (drop i.start (take i.have i.room)) ≡ length c.args.self.now = ap length c.self.view_is in
    (omega arith, omega arith, omega arith, none_yet i.room (i.start + c.args.n + 1))
