use mathlib.Core.Path.{sym, ◌∙◌}
use borrow.Author.Tests.{ltb-true}
use Rattle.octets.proofs.Ends.{full-be64}
use Rattle.octets.proofs.cursor.Cursor.be64.Goals as goal

pub returns-then-lacks_eight : goal.returns-then-lacks_eight
returns-then-lacks_eight c = sym (full-be64.ends _ _ (ltb-true _ _ (sym c.lacks_eight.ensures ∙ c.if-lacks_eight.true)))
