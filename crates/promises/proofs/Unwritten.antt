-- Demand 1, "a refusal writes no lent byte", as the change requests amend it ("no refusal but 17"), of the whole call: of `receive` and of
-- `lift_receive`, the lent memory and the output, on every table, frame, context and lent slice, of every answer that meets the contract. 17 too
-- leaves the output as it was, and the memory outside the part's own range in one slot. With it what a repeat and a part that is taken write.
use Rattle.std.specs.Prelude.{Ok, Err}
use Prim.Native.Nat.{ℕ, ◌+◌}
use native.Mathlib.Omega.{arith}
use mathlib.Core.Path.{◌≡◌, refl, sym, ap, subst, ◌∙◌}
use mathlib.Core.Bool.{true}
use mathlib.Core.List.{List}
use lib.ListN.{length, get_or}
use Rattle.octets.specs.Refusal.{number_of}
use Rattle.octets.specs.declared.refusal.Refusal.{Refusal}
use Rattle.reassembly.specs.Slots.{owner, gates_of, is_gate}
use Rattle.reassembly.specs.Parts.{Part, Reply, kept, out, refused, told, of_outcome, output_after}
use Rattle.reassembly.specs.Table.{Received, Call, part, State, step, Gives}
use Rattle.reassembly.specs.declared.part.Outcome.{Outcome}
use Rattle.reassembly.specs.declared.table.Table.{Table}
use Rattle.reassembly.proofs.Promises.{outcome-one}
use Rattle.reassembly.proofs.Unwritten.{refused-unwritten}
use Rattle.promises.proofs.Writes.{Writes, step-writes, Inside, writes-inside, writes_nothing, Repeated, repeat-unwritten}
use Rattle.receiver.specs.Receive.{call_of}
use Rattle.lift.specs.Face.{packed, Answers, received}
use Rattle.lift.proofs.Lengths.{received-length}

told-refused : (n : ℕ) (r : Reply (List ℕ)) → refused n ≡ told r → r ≡ refused n
told-refused n kept e = cc
told-refused n (out d) e = cc
told-refused n (refused k) e = let q : n ≡ k = cc in ap refused (sym q)

-- ---- a call c to σ that leaves the memory m' and the output o', o before, whatever form its answer has

module _ (σ : State) (c : Call) (m' o o' : List ℕ) (mem : m' ≡ (step σ c).state.mem) (output : o' ≡ output_after (step σ c).reply o) where
  of-refusal : (n : ℕ) → (step σ c).reply ≡ refused n → ((n ≡ 17 → ⊥) → m' ≡ σ.mem) × (o' ≡ o)
  of-refusal n q = (λ k. mem ∙ refused-unwritten σ c n q k, output ∙ ap (λ (r : Reply (List ℕ)). output_after r o) q)

  of-repeat : (t : ℕ) (p : Part) → c ≡ part t p → Repeated σ t p → ((step σ c).reply ≡ kept) × (m' ≡ σ.mem) × (o' ≡ o)
  of-repeat t p b R =
      let w = repeat-unwritten σ t p R in
      let k : (step σ c).reply ≡ kept = ap (λ (x : Call). (step σ x).reply) b ∙ w.0 in (
        k,
        mem ∙ ap (λ (x : Call). (step σ x).state.mem) b ∙ w.1,
        output ∙ ap (λ (r : Reply (List ℕ)). output_after r o) k,
      )

  of-writes : Writes (gates_of σ.table) c σ.mem m' (step σ c).took
  of-writes = subst (λ (x : List ℕ). Writes (gates_of σ.table) c σ.mem x (step σ c).took) (sym mem) (step-writes σ c)

  of_part : (t : ℕ) (p : Part) → c ≡ part t p → (i : ℕ) × ((x : ℕ) → (Inside p i x → ⊥) → get_or m' x 0 ≡ get_or σ.mem x 0)
  of_part t p b = writes-inside (gates_of σ.table) t p σ.mem m' (step σ c).took (subst (λ (x : Call). Writes (gates_of σ.table) x σ.mem m' (step σ c).took) b of-writes)

  of_none : ((t : ℕ) (p : Part) → c ≡ part t p → is_gate (owner p.key) (gates_of σ.table) ≡ true → ⊥) → m' ≡ σ.mem
  of_none f = writes_nothing (gates_of σ.table) c σ.mem m' (step σ c).took of-writes f

-- ---- the table tb, the time t, the frame s, the contexts ctx, the lent memory m and the output o

module _ (tb : Table) (t : ℕ) (s ctx m o : List ℕ) where
  abbrev σ : State
  σ = record { table = tb; mem = m }

  abbrev call : Call
  call = call_of m o ctx t s

  -- `receive` answers r, and leaves the memory m' and the output o'
  module _ (r : Received) (m' o' : List ℕ) (G : Gives r m' o o' (step (record { table = tb; mem = m }) (call_of m o ctx t s))) where
    -- "no refusal but 17 writes a lent byte", and none writes the output
    pub receive-unwritten : (e : Refusal) → r.answer ≡ Err e → ((number_of e ≡ 17 → ⊥) → m' ≡ m) × (o' ≡ o)
    receive-unwritten e a =
        of-refusal σ call m' o o' G.memory G.output (number_of e) (told-refused (number_of e) (step σ call).reply (sym (ap of_outcome a) ∙ G.answer))

    -- a repeat is kept, and writes nothing
    pub receive-repeat : (u : ℕ) (p : Part) → call ≡ part u p → Repeated (record { table = tb; mem = m }) u p → (r.answer ≡ Ok Outcome.Kept) × (m' ≡ m) × (o' ≡ o)
    receive-repeat u p b R =
        let w = of-repeat σ call m' o o' G.memory G.output u p b R in
        (outcome-one r.answer (Ok Outcome.Kept) (G.answer ∙ ap told w.0), w.1, w.2)

    -- a part changes no byte of the memory outside its own range in one slot
    pub receive_inside : (u : ℕ) (p : Part) → call ≡ part u p → (i : ℕ) × ((x : ℕ) → (Inside p i x → ⊥) → get_or m' x 0 ≡ get_or m x 0)
    receive_inside = of_part σ call m' o o' G.memory G.output

    -- what brings no part of a gateway writes nothing of the memory
    pub receive-elsewhere : ((u : ℕ) (p : Part) → call ≡ part u p → is_gate (owner p.key) (gates_of tb) ≡ true → ⊥) → m' ≡ m
    receive-elsewhere = of_none σ call m' o o' G.memory G.output

  -- `lift_receive` answers a, and leaves the table tb', the memory m' and the output o'; every table has eight slots
  module _ (a : ℕ) (tb' : Table) (m' o' : List ℕ) (A : Answers a tb' m' o o' (received tb t s ctx m o)) where
    memory-so : m' ≡ (step σ call).state.mem
    unfolding received
    memory-so = A.memory

    output-so : o' ≡ output_after (step σ call).reply o
    unfolding received
    output-so = A.output

    answer-so : a ≡ packed (told (step σ call).reply)
    unfolding received
    answer-so = A.answer

    -- an answer LIFT_REFUSED with the number n
    pub lift-unwritten : length tb.slots ≡ 8 → (n : ℕ) → a ≡ 131072 + n → ((n ≡ 17 → ⊥) → m' ≡ m) × (o' ≡ o)
    unfolding received
    lift-unwritten eight n e = of-refusal σ call m' o o' memory-so output-so n (go (step σ call).reply refl (sym e ∙ answer-so))
      where
        go : (q : Reply (List ℕ)) → (step (record { table = tb; mem = m }) (call_of m o ctx t s)).reply ≡ q → 131072 + n ≡ packed (told q) → q ≡ refused n
        go kept z h = absurd (omega (arith, h))
        go (out d) z h = absurd (omega (arith, h, (received-length tb t s ctx m o eight d z).1))
        go (refused k) z h = let w : k ≡ n = omega (arith, h) in ap refused w

    pub lift-repeat : (u : ℕ) (p : Part) → call ≡ part u p → Repeated (record { table = tb; mem = m }) u p → (a ≡ 0) × (m' ≡ m) × (o' ≡ o)
    lift-repeat u p b R =
        let w = of-repeat σ call m' o o' memory-so output-so u p b R in
        (answer-so ∙ ap (λ (q : Reply (List ℕ)). packed (told q)) w.0, w.1, w.2)

    pub lift-inside : (u : ℕ) (p : Part) → call ≡ part u p → (i : ℕ) × ((x : ℕ) → (Inside p i x → ⊥) → get_or m' x 0 ≡ get_or m x 0)
    lift-inside = of_part σ call m' o o' memory-so output-so

    pub lift-elsewhere : ((u : ℕ) (p : Part) → call ≡ part u p → is_gate (owner p.key) (gates_of tb) ≡ true → ⊥) → m' ≡ m
    lift-elsewhere = of_none σ call m' o o' memory-so output-so
