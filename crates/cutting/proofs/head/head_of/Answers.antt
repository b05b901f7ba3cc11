use mathlib.Core.Path.{◌∙◌}
use native.Mathlib.Omega.{arith}
use Rattle.iphc.proofs.Lengths.{at-most-36}
use Rattle.cutting.proofs.HeadLaws.{address-told, size-told, head-told}
use Rattle.cutting.proofs.head.head_of.Goals as goal

pub ip_of-ip-requires : goal.ip_of-ip-requires
ip_of-ip-requires c = (address-told _ _ _ _ c.long_at.ensures c.long_at-2.ensures, address-told _ _ _ _ c.long_at-3.ensures c.long_at-4.ensures)

pub overflow_add-len : goal.overflow_add-len
overflow_add-len c = omega (arith, at-most-36 c.ip_of-ip.result)

pub returns : goal.returns
returns c = head-told _ _ _ _ _ _ _ _ (address-told _ _ _ _ c.long_at.ensures c.long_at-2.ensures) (address-told _ _ _ _ c.long_at-3.ensures c.long_at-4.ensures) c.udp_of-udp.ensures c.ip_of-ip.ensures c.buffer_len.ensures (c.udp_len.ensures.0 ∙ size-told _ _ c.udp_of-udp.ensures)
