use Prim.Native.Nat.{◌+◌, ◌-◌}
use native.Mathlib.Omega.{arith}
use native.Mathlib.Decide.{dec_le}
use native.Mathlib.Nat.{lt_of_not-le}
use mathlib.Core.Path.{sym, ◌∙◌}
use lib.ListN.{length}
use borrow.Author.Tests.{lt-ltb, le-ltb}
use Rattle.octets.proofs.cursor.lacks_eight.Goals as goal

pub returns-then-s-lt8 : goal.returns-then-s-lt8
returns-then-s-lt8 c = sym (lt-ltb (length c.args.s.now) (c.args.at + 8) (omega (arith, c.if-s-lt8.true)))

pub returns : goal.returns
returns c =
    let n = length c.args.s.now in
    let at = c.args.at in
    elim (dec_le (at + 8) n) [ yes h ↦ le-ltb (n - 8) at (omega arith) ∙ sym (le-ltb n (at + 8) h) | no h ↦ lt-ltb (n - 8) at (omega (arith, c.if-s-lt8.false, lt_of_not-le h)) ∙ sym (lt-ltb n (at + 8) (lt_of_not-le h)) ]
