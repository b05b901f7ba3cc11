use native.Mathlib.Omega.{arith}
use mathlib.Core.List.{List}
use Prim.Native.Nat.{ℕ, ◌+◌, ◌*◌, ◌≤◌}
use lib.ListN.{length}
use Rattle.reassembly.specs.Parts.{with_bytes, offer}
use Rattle.reassembly.proofs.Parts.{offer-length}
use Rattle.reassembly.proofs.Memory.{lands}
use Rattle.reassembly.proofs.table.offer_at.Goals as goal

pub returns : goal.returns
returns c =
    let a = c.args in
    let p = with_bytes a.part a.bytes.now in
    let h : a.i * 2048 + 2048 ≤ length a.mem.now = omega (arith, c.requires.i_bound) in
    lands (λ (b : List ℕ). offer a.s b p) (λ b. offer-length a.s b p) _ a.i a.mem.now _ a.out.now _ h c.offer_part.ensures
