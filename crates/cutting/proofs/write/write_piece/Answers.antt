use native.Mathlib.Omega.{arith}
use Rattle.cutting.proofs.HeadLaws.{head-most}
use Rattle.cutting.proofs.WriteLaws.{plan-mac, plan-head, mac-most, middle-told, part-told, frame-short, frame-there}
use Rattle.cutting.proofs.write.write_piece.Goals as goal

pub middle_len-middle-requires : goal.middle_len-middle-requires
middle_len-middle-requires c = let h = plan-head _ _ c.args.plan c.requires.2 in omega (arith, head-most c.args.l c.args.d.now)

pub part_len-part-requires : goal.part_len-part-requires
part_len-part-requires c = part-told c.args.l c.args.d.now c.args.plan c.requires.2 c.args.p _ c.part_at-from.ensures

pub overflow_add-n-2 : goal.overflow_add-n-2
overflow_add-n-2 c = let m = plan-mac _ _ c.args.plan c.requires.2 in omega (arith, mac-most c.args.l)

pub returns-then-out-n : goal.returns-then-out-n
returns-then-out-n c = frame-short _ _ _ _ _ _ _ (plan-mac _ _ c.args.plan c.requires.2) (middle-told c.args.l c.args.d.now c.args.plan c.requires.2 c.args.p _ c.middle_len-middle.ensures.0) c.part_len-part.ensures.0 c.if-out-n.true

pub put_mac-requires : goal.put_mac-requires
put_mac-requires c = let m = plan-mac _ _ c.args.plan c.requires.2 in omega arith

pub put_middle-requires : goal.put_middle-requires
put_middle-requires c = let m = middle-told c.args.l c.args.d.now c.args.plan c.requires.2 c.args.p _ c.middle_len-middle.ensures.0 in record { d_len_bound = (c.requires.0, c.requires.1); p_in_bounds = omega arith }

pub overflow_add-plan : goal.overflow_add-plan
overflow_add-plan c = let m = plan-mac _ _ c.args.plan c.requires.2 in omega (arith, mac-most c.args.l)

pub returns : goal.returns
returns c = frame-there _ _ _ _ _ _ _ (plan-mac _ _ c.args.plan c.requires.2) (middle-told c.args.l c.args.d.now c.args.plan c.requires.2 c.args.p _ c.middle_len-middle.ensures.0) c.part_len-part.ensures.0 _ _ _ _ (part-told c.args.l c.args.d.now c.args.plan c.requires.2 c.args.p _ c.part_at-from.ensures) c.if-out-n.false c.put_mac.ensures c.put_middle.ensures c.put_slice.ensures
