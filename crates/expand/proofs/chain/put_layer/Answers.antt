use Rattle.std.proofs.lemmas.Result.{err_from_is_err_and}
use mathlib.Core.Path.{ap}
use native.Mathlib.Omega.{arith}
use Rattle.expand.proofs.WalkLaws.{reaches-on, header-facts, header_refused, header-on}
use Rattle.expand.proofs.chain.put_layer.Goals as goal

pub returns-in_err-ip : goal.returns-in_err-ip
returns-in_err-ip c = let p = err_from_is_err_and c.from_residual.result c.from_residual.ensures.1 in
    rw (p.1, p.2) (λ size n. (header_refused c.args.contexts.now c.args.frame.now c.args.ll.src c.args.ll.dst c.args.c.at c.args.w c.args.out.now _ c.in_err-ip.ensures).answer size n)

pub put_extensions-requires : goal.put_extensions-requires
put_extensions-requires c = let f = header-facts c.args.contexts.now c.args.frame.now c.args.ll.src c.args.ll.dst c.args.c.at _ c.in_ok-ip.ensures in
    (rw c.within.ensures (omega (arith, c.requires.0, f)), c.requires.1)

pub returns : goal.returns
returns c = reaches-on c.args.contexts.now c.args.frame.now _ c.put_extensions.result (header-on c.args.contexts.now c.args.frame.now c.args.ll.src c.args.ll.dst c.args.c.at c.args.w c.args.out.now _ _ _ c.in_ok-ip.ensures c.within.ensures c.put_ipv6.ensures) (omega (arith, ap (λ z. z.left) c.within.ensures)) (c.put_extensions.ensures.0 c.args.contexts.now)
