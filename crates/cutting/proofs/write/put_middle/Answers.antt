use native.Mathlib.Omega.{arith}
use Rattle.cutting.proofs.WriteLaws.{room_whole, room-first, room-later, put-middle-whole, put-middle-first, put-middle-later}
use Rattle.cutting.proofs.write.put_middle.Goals as goal

pub put_head-requires : goal.put_head-requires
put_head-requires c = (c.requires.d_len_bound.1, room_whole c.args.l c.args.d.now c.args.p c.args.at c.args.buf.now c.requires.p_in_bounds c.in-Whole.is)

pub put_frag-requires : goal.put_frag-requires
put_frag-requires c = let r = room-first c.args.l c.args.d.now c.args.p c.args.at c.args.buf.now c.requires.p_in_bounds _ c.in-First.is in omega arith

pub put_head-requires-in-First : goal.put_head-requires-in-First
put_head-requires-in-First c = let r = room-first c.args.l c.args.d.now c.args.p c.args.at c.args.buf.now c.requires.p_in_bounds _ c.in-First.is in (c.requires.d_len_bound.1, omega arith)

pub put_frag-requires-in-Later : goal.put_frag-requires-in-Later
put_frag-requires-in-Later c = room-later c.args.l c.args.d.now c.args.p c.args.at c.args.buf.now c.requires.p_in_bounds _ _ c.in-Later.is

pub returns-in-Whole : goal.returns-in-Whole
returns-in-Whole c = put-middle-whole _ _ _ _ _ _ c.in-Whole.is c.put_head.ensures

pub returns-in-First : goal.returns-in-First
returns-in-First c = put-middle-first _ _ _ _ _ _ _ _ c.in-First.is c.put_frag.ensures c.put_head-in-First.ensures

pub returns-in-Later : goal.returns-in-Later
returns-in-Later c = put-middle-later _ _ _ _ _ _ _ _ c.in-Later.is c.put_frag-in-Later.ensures
