-- Demand 3 over runs of calls: the main theorem (Engine.antt, at Instance.antt) and its companions.
use Prim.Native.Nat.{ℕ, ◌+◌, ◌<◌}
use mathlib.Core.Path.{◌≡◌, refl, sym, ap, ap₂, ◌∙◌}
use mathlib.Core.Bool.{true}
use mathlib.Core.List.{List, [], ◌∷◌, ◌++◌}
use Rattle.reassembly.specs.Slots.{owner, gates_of, is_gate, held}
use Rattle.reassembly.specs.Parts.{Part}
use Rattle.reassembly.specs.Table.{Call, part, State, after, Ready, comes, next, run}
use Rattle.reassembly.specs.Fresh.{begun}
use Rattle.reassembly.specs.declared.slot.Source.{Source}
use Rattle.reassembly.specs.declared.slot.Key.{Key}
use Rattle.reassembly.proofs.Fresh.{fresh-last}
use Rattle.reassembly.proofs.Runs.{gates-fresh, fresh-good, run-good, run-gates, comes-part, none-ready, none_before}
use Rattle.promises.specs.Cuttings.{Cutting}
use Rattle.promises.specs.Runs.{came, CallsForward, AllKept, CallsSupposed, CallsConcluded}
use Rattle.promises.proofs.Engine as Engine
use Rattle.promises.proofs.Instance.{engine, Fine, laws}

-- ---- a run of calls is a run of the engine

module _ (k : Key) where
  run_is : (cs : List Call) (σ : State) → Engine.runs (engine k) σ cs ≡ run σ cs
  unfolding Engine.runs run
  run_is [] σ = refl
  run_is (c ∷ cs) σ = run_is cs (next σ c)

  came-is : (cs : List Call) → Engine.came (engine k) cs ≡ came k cs
  unfolding Engine.came came
  came-is [] = refl
  came-is (c ∷ cs) = ap (λ (ps : List Part). comes k c ++ ps) (came-is cs)

  pub came-append : (cs ds : List Call) → came k (cs ++ ds) ≡ came k cs ++ came k ds
  came-append cs ds = sym (came-is (cs ++ ds)) ∙ Engine.came-append (engine k) cs ds ∙ ap₂ (λ (ps qs : List Part). ps ++ qs) (came-is cs) (came-is ds)

  clock-is : (cs : List Call) (n : ℕ) → CallsForward n cs → Engine.Clock (engine k) n cs
  unfolding Engine.Clock CallsForward
  clock-is [] n f = tt
  clock-is (c ∷ cs) n f = (f.0, clock-is cs (after n c) f.1)

  kept-is : (cs : List Call) (σ : State) → Engine.AllKept (engine k) σ cs → AllKept k σ cs
  unfolding Engine.AllKept AllKept
  kept-is [] σ a = tt
  kept-is (c ∷ cs) σ a = (a.0, kept-is cs (next σ c) a.1)

  clock-end : (mid : List Call) (t n : ℕ) (q : Part) → Engine.clock (engine k) n (mid ++ (part t q ∷ [])) ≡ t
  unfolding Engine.clock
  clock-end [] t n q = refl
  clock-end (c ∷ cs) t n q = clock-end cs t (after n c) q

-- ---- the main theorem

module _ (gs : List Source) (m : List ℕ) (k : Key) (d : List ℕ) (C : Cutting k d) (past mid : List Call) (t : ℕ) (q : Part)
    (H : CallsSupposed gs m k d C past mid t q) (R : Ready k (run (begun gs m) past) H.t₀) where
  σ : State
  σ = run (begun gs m) past

  window : List Call
  window = mid ++ (part t q ∷ [])

  fine₀ : Fine k d C (begun gs m)
  fine₀ = record { good = fresh-good gs m H.gateways H.enough; gate = rw (gates-fresh gs H.gateways) H.gate }

  fine : Fine k d C σ
  unfolding σ
  fine = record {
    good = run-good past (begun gs m) fine₀.good;
    gate = rw (run-gates past (begun gs m) fine₀.good) fine₀.gate;
  }

  clock : Engine.Clock (engine k) 0 (past ++ window)
  unfolding window
  clock = clock-is k (past ++ (mid ++ (part t q ∷ []))) 0 H.forward

  last-is : σ.table.last ≡ Engine.clock (engine k) 0 past
  unfolding laws σ
  last-is =
      let z : (begun gs m).table.last ≡ 0 = fresh-last gs in
      let e : (Engine.runs (engine k) (begun gs m) past).table.last ≡ Engine.clock (engine k) (begun gs m).table.last past =
      Engine.runs_last (engine k) C.parts d k.size 60000 (laws k d C) past (begun gs m) fine₀
      (rw z (Engine.Clock-left (engine k) past window 0 clock)) (λ x y. tt) in
      let f : σ.table.last ≡ Engine.clock (engine k) (begun gs m).table.last past = rw (run_is k past (begun gs m)) at e in
      f ∙ ap (λ n. Engine.clock (engine k) n past) z

  forward : Engine.Clock (engine k) σ.table.last window
  forward = rw last-is (Engine.Clock-right (engine k) past window 0 clock)

  starts : Engine.Starts (engine k) C.parts d k.size 60000 (laws k d C) σ window
  unfolding Engine.Starts laws σ window
  starts = rw H.earliest (R, (H.p₀, comes-part k H.t₀ H.p₀ (C.keyed H.p₀ H.earliest-part) (C.pass10 H.p₀ H.earliest-part)))

  in-time : Engine.clock (engine k) σ.table.last window < Engine.begun (engine k) C.parts d k.size 60000 (laws k d C) σ.table.last window + 60000
  unfolding Engine.begun window
  in-time = rw (clock-end k mid t σ.table.last q, H.earliest) H.soon

  handed : Engine.Handed (engine k) C.parts d k.size 60000 (laws k d C) σ mid (part t q)
  unfolding laws window
  handed = Engine.reassembles (engine k) C.parts d k.size 60000 (laws k d C) mid (part t q) σ fine starts forward in-time
      (λ p i. H.of-cutting p (rw (came-is k window) at i)) (λ c. H.not-before (rw (came-is k mid) at c)) (λ x y. tt) (rw (came-is k window) H.cover)

  -- DEMAND 3, with the wider premise: the key is not open and the opening rule lets its gateway open a slot, as the call finds the table once
  -- it has freed the slots that are 60,000 ms old
  pub calls-demand-3-ready : CallsConcluded (run (begun gs m) past) k d mid t q
  unfolding σ
  calls-demand-3-ready = record {
    none_before = kept-is k mid σ handed.before;
    exactly = rw (run_is k mid σ) at handed.covering;
  }

-- DEMAND 3: "if a gateway holds no slot when the earliest part of a datagram comes, [..]"
pub calls-demand-3 : (gs : List Source) (m : List ℕ) (k : Key) (d : List ℕ) (C : Cutting k d) (past mid : List Call) (t : ℕ) (q : Part)
    → CallsSupposed gs m k d C past mid t q → held (owner k) (run (begun gs m) past).table.slots ≡ 0 → CallsConcluded (run (begun gs m) past) k d mid t q
calls-demand-3 gs m k d C past mid t q H z =
    let σ = run (begun gs m) past in
    let G₀ = fresh-good gs m H.gateways H.enough in
    let gate : is_gate (owner k) (gates_of σ.table) ≡ true = rw (run-gates past (begun gs m) G₀, gates-fresh gs H.gateways) H.gate in
    calls-demand-3-ready gs m k d C past mid t q H
    (none-ready k σ H.t₀ (run-good past (begun gs m) G₀) gate (none_before (owner k) σ H.t₀ z))
