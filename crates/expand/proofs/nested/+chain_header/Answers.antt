use Rattle.std.proofs.lemmas.Result.{err_from_is_err_and}
use native.Mathlib.Omega.{arith}
use mathlib.Core.Path.{ap}
use mathlib.Core.List.{[], ◌∷◌}
use Rattle.expand.proofs.WalkLaws.{inner-on, inner_room, walked-so, walked-refused, header-facts, header-on, header_refused, walked_on, walked-no, patch-one}
use Rattle.expand.proofs.nested.+chain_header.Goals as goal

pub chain-returns-in_err-r : goal.chain-returns-in_err-r
chain-returns-in_err-r t c = let p = err_from_is_err_and c.from_residual.result c.from_residual.ensures.1 in
    rw (p.1, p.2) (walked-refused c.args.size c.args.out.now _ _ _ _ (c.in_err-r.ensures.0 c.args.contexts.now))

pub chain-end_rest-requires : goal.chain-end_rest-requires
chain-end_rest-requires t c = (rw c.in-Rest.is at (c.in_ok-r.ensures.0 c.args.contexts.now).room, c.requires.1)

pub chain-end_udp-requires : goal.chain-end_udp-requires
chain-end_udp-requires t c = (rw c.in-Udp.is at (c.in_ok-r.ensures.0 c.args.contexts.now).room, c.requires.1)

pub chain-fewer-requires : goal.chain-fewer-requires
chain-fewer-requires t c = (inner_room c.args.frame.now c.in_ok-r.r _ c.in-Inner.is (c.in_ok-r.ensures.0 c.args.contexts.now).room).1

pub chain-header-requires : goal.chain-header-requires
chain-header-requires t c = let r = inner_room c.args.frame.now c.in_ok-r.r _ c.in-Inner.is (c.in_ok-r.ensures.0 c.args.contexts.now).room in
    let b = rw c.in-Inner.is at c.in_ok-r.ensures.1 in
    omega (arith, r, b, c.requires, ap (λ z. z.at) c.fewer.ensures, ap (λ z. z.left) c.fewer.ensures)

pub chain-returns-in-Rest : goal.chain-returns-in-Rest
chain-returns-in-Rest t c = walked-so c.args.size c.args.out.now _ _ _ _ _ (rw c.in-Rest.is at (c.in_ok-r.ensures.0 c.args.contexts.now).onward) (omega arith) _ _ c.end_rest.ensures

pub chain-returns-in-Udp : goal.chain-returns-in-Udp
chain-returns-in-Udp t c = walked-so c.args.size c.args.out.now _ _ _ _ _ (rw c.in-Udp.is at (c.in_ok-r.ensures.0 c.args.contexts.now).onward) (omega arith) _ _ c.end_udp.ensures

pub chain-returns-in-Inner : goal.chain-returns-in-Inner
chain-returns-in-Inner t c = walked-so c.args.size c.args.out.now _ _ _ _ _ (inner-on c.args.contexts.now c.args.frame.now _ (c.in_ok-r.ensures.0 c.args.contexts.now).onward c.in-Inner.is c.fewer.ensures c.links_inside-ll.ensures) (omega arith) _ _ c.header.ensures

pub header-returns-in_err-ip : goal.header-returns-in_err-ip
header-returns-in_err-ip t c = let p = err_from_is_err_and c.from_residual.result c.from_residual.ensures.1 in
    rw (p.1, p.2) (walked-refused c.args.size c.args.out.now _ _ _ _ (λ size n. (header_refused c.args.contexts.now c.args.frame.now c.args.i.ll.src c.args.i.ll.dst c.args.i.at.at c.args.w c.args.out.now _ c.in_err-ip.ensures).answer size n))

pub header-chain-requires : goal.header-chain-requires
header-chain-requires t c = let f = header-facts c.args.contexts.now c.args.frame.now c.args.i.ll.src c.args.i.ll.dst c.args.i.at.at _ c.in_ok-ip.ensures in
    omega (arith, f, c.requires, ap (λ z. z.at) c.within.ensures, ap (λ z. z.left) c.within.ensures)

pub header-returns-in_err-end : goal.header-returns-in_err-end
header-returns-in_err-end t c = let p = err_from_is_err_and c.from_residual-in_err-end.result c.from_residual-in_err-end.ensures.1 in
    rw (p.1, p.2) (walked-no c.args.size (c.args.w.at ∷ []) c.args.out.now _ c.args.w _ _ _ (header-on c.args.contexts.now c.args.frame.now c.args.i.ll.src c.args.i.ll.dst c.args.i.at.at c.args.w c.args.out.now _ _ _ c.in_ok-ip.ensures c.within.ensures c.put_ipv6.ensures) (omega arith) _ _ _ c.in_err-end.ensures)

pub header-returns : goal.header-returns
header-returns t c = walked_on c.args.size (c.args.w.at ∷ []) c.args.out.now _ c.args.w _ _ _ (header-on c.args.contexts.now c.args.frame.now c.args.i.ll.src c.args.i.ll.dst c.args.i.at.at c.args.w c.args.out.now _ _ _ c.in_ok-ip.ensures c.within.ensures c.put_ipv6.ensures) (omega arith) _ _ _ _ c.in_ok-end.ensures c.total_of.ensures (patch-one _ _ _ _ _ c.saturating_sub.ensures c.put_be16.ensures)
