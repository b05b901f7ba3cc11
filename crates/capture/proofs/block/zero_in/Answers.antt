use mathlib.Core.Path.{◌∙◌}
use Prim.Native.Nat.{◌-◌}
use lib.Dec.{eqb}
use lib.ListN.{take, drop}
use borrow.Author.Tests.{tests}
use Rattle.std.proofs.Common.{rules}
use Rattle.std.proofs.lemmas.Iterator.{YieldsList-from_slice}
use Rattle.std.proofs.lemmas.Iterator.Search.{all_from_yields_List}
use Rattle.capture.proofs.BlockSteps.{zero_in-is}
use Rattle.capture.proofs.block.zero_in.Goals as goal

pub returns : goal.returns
returns c =
    let s = c.args.s.now in
    all_from_yields_List (λ b. eqb b 0) _ _ _ c.all.ensures.ran (YieldsList-from_slice (take (c.args.to - c.args.from) (drop c.args.from s)) (cc)) (λ x b q k. search (rules, tests))
    ∙ zero_in-is c.args.from c.args.to s c.requires.0
