-- Layer by layer; where something else than an IPv6 header stands behind one, all headers but UDP's are put.
use Prim.Native.Nat.{◌<◌}
use native.Mathlib.Omega.{arith}
use mathlib.Core.Path.{refl, ◌∙◌}
use lib.ListN.{length, length-set}
use Rattle.expand.proofs.WalkLaws.{from_start, small-more, layer-on, lays, inner-on, inner_room}
use Rattle.expand.proofs.chain.put_headers.Goals as goal

pub loop-k-init : goal.loop-k-init
loop-k-init c = (c.requires.1, refl, omega arith, omega (arith, c.requires.0), λ i h. absurd (omega (arith, h)), from_start c.args.contexts.now c.args.frame.now c.args.out.now c.args.links.src c.args.links.dst c.args.from.at)

pub fewer-way-requires : goal.fewer-way-requires
fewer-way-requires c = (inner_room c.args.frame.now c.in_ok-reached.reached _ c.in-Inner.is c.in_ok-reached.ensures.room).1

pub loop-k-preserved : goal.loop-k-preserved
loop-k-preserved c = let r = inner_room c.args.frame.now c.in_ok-reached.reached _ c.in-Inner.is c.in_ok-reached.ensures.room in
    let n = c.loop-k.k in let ps = c.loop-k.places in
    let h : n < length ps = omega (arith, c.loop-k.invariant.0, c.loop-k-test.true) in (
      length-set ps n c.loop-k.way.at ∙ c.loop-k.invariant.0,
      omega (arith, c.loop-k.invariant.1),
      rw c.fewer-way.ensures (omega (arith, c.loop-k.invariant.2, c.in_ok-reached.ensures.left, r)),
      rw c.fewer-way.ensures (omega (arith, r)),
      small-more ps n c.loop-k.way.at h c.loop-k.invariant.4 (omega (arith, c.loop-k.invariant.3)),
      inner-on c.args.contexts.now c.args.frame.now _ (layer-on ps n c.loop-k.way.at h c.loop-k.invariant.5 c.in_ok-reached.ensures.onward) c.in-Inner.is c.fewer-way.ensures c.links_inside-ll.ensures,
    )

pub returns-in-Rest : goal.returns-in-Rest
returns-in-Rest c = lays c.loop-k.places c.loop-k.k (omega (arith, c.loop-k.invariant.0, c.loop-k-test.true)) c.loop-k.invariant.4 (omega (arith, c.loop-k.invariant.3)) c.loop-k.invariant.2 c.loop-k.invariant.5 c.in_ok-reached.ensures (rw c.in-Rest.is tt)

pub returns-in-Udp : goal.returns-in-Udp
returns-in-Udp c = lays c.loop-k.places c.loop-k.k (omega (arith, c.loop-k.invariant.0, c.loop-k-test.true)) c.loop-k.invariant.4 (omega (arith, c.loop-k.invariant.3)) c.loop-k.invariant.2 c.loop-k.invariant.5 c.in_ok-reached.ensures (rw c.in-Udp.is tt)
