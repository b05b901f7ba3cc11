use Prim.Native.Nat.{◌-◌}
use native.Mathlib.Omega.{arith}
use mathlib.Core.Path.{◌≡◌}
use Rattle.iphc.specs.Emit.{length_of}
use Rattle.iphc.proofs.Puts.{length-bytes}
use Rattle.cutting.proofs.HeadLaws.{head-addresses, head-len, head-udp, head-sum, size-told, put-emitted, put-head-done}
use Rattle.cutting.proofs.head.put_head.Goals as goal

pub ip_of-ip-requires : goal.ip_of-ip-requires
ip_of-ip-requires c = head-addresses _ _ c.args.h c.requires.0

pub overflow_sub-end : goal.overflow_sub-end
overflow_sub-end c = let s = head-sum _ _ c.args.h c.requires.0 _ _ c.ip_of-ip.ensures c.udp_len.ensures.0 in omega arith

pub overflow_add-end : goal.overflow_add-end
overflow_add-end c = let s = head-len _ _ c.args.h c.requires.0 in omega arith

pub slice_bounds-emit-end : goal.slice_bounds-emit-end
slice_bounds-emit-end c = let s = head-len _ _ c.args.h c.requires.0 in omega arith

pub put_udp-requires : goal.put_udp-requires
put_udp-requires c = let s = head-len _ _ c.args.h c.requires.0 in
    let t = head-sum _ _ c.args.h c.requires.0 _ _ c.ip_of-ip.ensures c.udp_len.ensures.0 in
    let z = size-told _ c.args.h.udp (head-udp _ _ c.args.h c.requires.0) in
    omega arith

pub returns : goal.returns
returns c = let s = head-len _ _ c.args.h c.requires.0 in
    let t = head-sum _ _ c.args.h c.requires.0 _ _ c.ip_of-ip.ensures c.udp_len.ensures.0 in
    let n : c.args.h.len - c.udp_len.result ≡ length_of c.ip_of-ip.result = omega arith in
    put-head-done _ _ c.ip_of-ip.result _ _ _ _ _ c.args.h.udp c.ip_of-ip.ensures n (head-udp _ _ c.args.h c.requires.0) (put-emitted _ _ _ _ _ _ (length-bytes c.ip_of-ip.result) (omega arith) (omega arith) c.emit.ensures.1) c.put_udp.ensures
