-- A datagram that is handed out has 40 to 2,047 bytes, so its length fits the low half of an answer's number.
use Prim.Native.Nat.{ℕ, ◌≤◌}
use native.Mathlib.Omega.{arith}
use mathlib.Core.Path.{◌≡◌, ap, subst, ◌∙◌}
use mathlib.Core.List.{List}
use lib.ListN.{length}
use Rattle.reassembly.specs.Parts as Parts
use Rattle.reassembly.specs.Parts.{Reply, kept, out, told, of_outcome}
use Rattle.reassembly.specs.Table.{Received, Gives, step}
use Rattle.reassembly.specs.declared.table.Table.{Table}
use Rattle.reassembly.proofs.Sized.{Sized}
use Rattle.receiver.specs.Receive.{call_of}
use Rattle.receiver.proofs.Names.{call-sized}
use Rattle.lift.specs.Face.{packed, InHalf, received, Answers}

in-half : (r : Reply (List ℕ)) → Sized r → InHalf (told r)
in-half kept h = tt
in-half (out d) h = omega arith
in-half (Parts.refused n) h = tt

pub received-length : (t : Table) (at : ℕ) (s ctx m o : List ℕ) → length t.slots ≡ 8 → (d : List ℕ) → (received t at s ctx m o).reply ≡ out d → (40 ≤ length d) × (length d ≤ 2047)
unfolding received
received-length t at s ctx m o eight d q = subst Sized q (call-sized t m o ctx at s eight)

-- so does an answer's, as a call says it
pub answer-half : (tb : Table) (at : ℕ) (s ctx m o : List ℕ) → length tb.slots ≡ 8 → (r : Received) (m' o' : List ℕ) → Gives r m' o o' (step (record { table = tb; mem = m }) (call_of m o ctx at s)) → InHalf (of_outcome r.answer)
answer-half tb at s ctx m o eight r m' o' G = rw G.answer (in-half (step (record { table = tb; mem = m }) (call_of m o ctx at s)).reply (call-sized tb m o ctx at s eight))

-- and what it comes to, as numbers
pub answers-as : (tb : Table) (at : ℕ) (s ctx m o : List ℕ) (r : Received) (m' o' : List ℕ) → Gives r m' o o' (step (record { table = tb; mem = m }) (call_of m o ctx at s)) → (n : ℕ) → n ≡ packed (of_outcome r.answer)
    → Answers n r.table m' o o' (received tb at s ctx m o)
unfolding received
answers-as tb at s ctx m o r m' o' G n e = record { answer = e ∙ ap packed G.answer; table = G.table; memory = G.memory; output = G.output }
