use Rattle.std.proofs.Common.{rules, ◌≡◌, true, false, get_or}
use Rattle.std.proofs.lemmas.Iterator.{first_from_Range}
use Rattle.reassembly.specs.Slots.{free_slot, is_key}
use Rattle.words.specs.Words.{table_in}
use Rattle.words.proofs.Numbers.{slots-eight}
use Rattle.words.proofs.Chains.{find-first}
use Rattle.words.proofs.search.find.Goals as goal

pub returns : goal.returns
returns c =
    let l = (table_in c.args.t.now).slots in
    let f = is_key c.args.key in
    find-first f free_slot l (slots-eight c.args.t.now) _
    (first_from_Range _ _ _ _ (λ i. f (get_or l i free_slot) ≡ true) (λ i. f (get_or l i free_slot) ≡ false) c.find.ensures.ran (λ x q k. search rules) (λ x q k. search rules))
