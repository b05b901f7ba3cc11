use Prim.Native.Nat.{◌+◌, ◌-◌}
use mathlib.Core.Path.{◌≡◌, ap, ◌∙◌}
use native.Mathlib.Omega.{arith}
use lib.ListN.{length, take, drop, replicate, length-replicate, length-take, length-drop}
use Rattle.pcap.proofs.Carrying.{put-mid}
use Rattle.pcap.proofs.fill.put_zeros.Goals as goal

pub returns : goal.returns
returns c =
    let a = c.args in
    let k = a.at + a.n - a.at in
    let e : length (take k (drop a.at a.buf.now)) ≡ a.n = omega (arith, length-take k (drop a.at a.buf.now), length-drop a.at a.buf.now) in
    put-mid a.at a.n (replicate a.n 0) _ a.buf.now (length-replicate a.n 0) c.requires (c.fill.ensures.after (λ y p. p) ∙ ap (λ i. replicate i 0) e)
