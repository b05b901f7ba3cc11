use Rattle.std.proofs.Common.{rules, ◌≡◌, ◌∙◌, ap, refl, true, false, get_or, leb}
use Rattle.std.proofs.lemmas.Iterator.{cases_from_any, YieldsList-from_range}
use Rattle.std.specs.List.{range_with_len}
use Rattle.reassembly.specs.Slots.{no_source}
use Rattle.words.proofs.Gates.{gates-told}
use Rattle.words.specs.Words.{seat, table_in}
use Rattle.words.proofs.Numbers.{seats-four}
use Rattle.words.proofs.Chains.{any-counted, count-places}
use Rattle.words.proofs.search.is_gateway.Goals as goal

pub returns : goal.returns
returns c =
    let l = (table_in c.args.t.now).gateways in
    let f = seat c.args.a in
    any-counted (λ i. f (get_or l i no_source)) (range_with_len 0 4) _
    (cases_from_any _ _ _ (λ i. f (get_or l i no_source) ≡ true) (λ i. f (get_or l i no_source) ≡ false) c.any.ensures.ran (YieldsList-from_range 0 4 4 refl refl) (λ x q k. search rules) (λ x q k. search rules))
    ∙ ap (leb 1) (count-places f no_source l 4 (seats-four c.args.t.now)) ∙ gates-told (table_in c.args.t.now) c.args.a
