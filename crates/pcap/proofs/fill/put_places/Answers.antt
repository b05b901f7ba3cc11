use lib.Dec.{ltb}
use Rattle.pcap.proofs.Filling.{places-put, used-within}
use Rattle.pcap.proofs.Carrying.{length-put}
use Rattle.capture.specs.Made.{Bytes}
use lib.ListN.{length}
use mathlib.Core.Path.{ap, ◌∙◌}
use native.Mathlib.Omega.{arith}
use Rattle.pcap.proofs.fill.put_places.Goals as goal

pub put_place-b-requires : goal.put_place-b-requires
put_place-b-requires c = let s = c.args.s.now in let b : Bytes s = λ i. omega (arith, c.type_inv.s i) in let l = ap length c.put_place-a.ensures.1 ∙ length-put _ _ _ in let r = c.requires.1.1 in (used-within (ltb 0 c.args.n) s _ _ b c.requires.1.0 c.put_place-a.ensures.0, omega arith)

pub put_place-requires : goal.put_place-requires
put_place-requires c = let s = c.args.s.now in let b : Bytes s = λ i. omega (arith, c.type_inv.s i) in let l = ap length c.put_place-a.ensures.1 ∙ length-put _ _ _ in let m = ap length c.put_place-b.ensures.1 ∙ length-put _ _ _ in let r = c.requires.1.1 in (used-within (ltb 1 c.args.n) s _ _ b (used-within (ltb 0 c.args.n) s _ _ b c.requires.1.0 c.put_place-a.ensures.0) c.put_place-b.ensures.0, omega arith)

pub returns : goal.returns
returns c = let s = c.args.s.now in let b : Bytes s = λ i. omega (arith, c.type_inv.s i) in places-put s b c.args.n c.args.at _ _ _ _ c.requires.0 c.requires.1.0 _ _ _ _ c.put_place-a.ensures c.put_place-b.ensures c.put_place.ensures
