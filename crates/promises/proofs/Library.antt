-- Demand 3 for the library: runs of `lift_receive`, by what runs reply whatever form the answer has (proofs/Frames.antt).
use Prim.Native.Nat.{ℕ, ◌+◌, ◌≤◌, ◌<◌}
use native.Mathlib.Omega.{arith}
use mathlib.Core.Path.{◌≡◌, sym, ap, ◌∙◌}
use mathlib.Core.Logic.{inl, inr}
use mathlib.Core.Bool.{false}
use mathlib.Core.List.{List, [], ◌∷◌, ◌++◌, map, map-append}
use lib.ListN.{length}
use Rattle.octets.specs.Read.{is}
use Rattle.reassembly.specs.Slots.{owner, is_gate, held}
use Rattle.reassembly.specs.Parts.{Reply, kept, out, refused, told, output_after}
use Rattle.reassembly.specs.Table.{State, step, Ready}
use Rattle.reassembly.specs.Fresh.{gate_of, Gateways, begun}
use Rattle.reassembly.specs.declared.slot.Source.{Source}
use Rattle.reassembly.specs.declared.slot.Key.{Key}
use Rattle.reassembly.specs.declared.table.Table.{Table}
use Rattle.reassembly.specs.Cover.{In}
use Rattle.receiver.specs.Names.{named}
use Rattle.lift.specs.Face.{packed, gateway_of, gateways, list_answer, table_begun, Answers, received}
use Rattle.lift.proofs.Lists.{begun_fresh}
use Rattle.promises.specs.Cuttings.{Cutting}
use Rattle.promises.specs.Frames.{Turn, left, call_in, end_of, Supposed}
use Rattle.promises.specs.Library.{LiftTurn, as_turn, RanIn, ConcludedIn}
use Rattle.promises.specs.Demands.{LiftDemand3, LiftAtMostThree, LiftEightSlots, LiftNeverMeet}
use Rattle.promises.proofs.Frames.{Went, KeptIn, Replies, replies, replies-ready, out-front, went-three, went-none, went-eight, went-apart}

-- ---- "From a fresh table": where `lift_begin` answers 0, it leaves such a table, of gateways that `Supposed` asks for, whatever it was before

pub lift-begun : (t : Table) (l m : List ℕ) → list_answer l ≡ 0 → (record { table = table_begun t l; mem = m } ≡ begun (gateways l) m) × Gateways (gateways l)
lift-begun t l m e = let w = begun_fresh l e in (ap (λ (x : Table). record { table = x; mem = m }) (w.0 t), w.1)

-- ---- a run of `lift_receive` goes as a run of `receive` does

pub in-went : (hs : List LiftTurn) (σ : State) → RanIn σ hs → Went σ (map as_turn hs)
unfolding RanIn Went received call_in
in-went [] σ R = tt
in-went (h ∷ hs) σ R = (R.0.table, R.0.memory, in-went hs (left (as_turn h)) R.1)

pub in_left : (hs js : List LiftTurn) (σ : State) → RanIn σ (hs ++ js) → RanIn σ hs
unfolding RanIn
in_left [] js σ R = tt
in_left (h ∷ hs) js σ R = (R.0, in_left hs js (left (as_turn h)) R.1)

pub in_right : (hs js : List LiftTurn) (σ : State) → RanIn σ (hs ++ js) → RanIn (end_of σ (map as_turn hs)) js
unfolding RanIn end_of
in_right [] js σ R = R
in_right (h ∷ hs) js σ R = in_right hs js (left (as_turn h)) R.1

-- the last call of a run
in-last : (h : LiftTurn) (σ : State) → RanIn σ (h ∷ []) → Answers h.answer h.table h.memory h.before h.output (step σ (call_in σ (as_turn h)))
unfolding RanIn received call_in
in-last h σ R = R.0

-- ---- the main theorem

kept-so : (k : Key) (hs : List LiftTurn) (σ : State) → RanIn σ hs → KeptIn k σ (map as_turn hs)
    → (h : LiftTurn) → In h hs → named h.frame ≡ is k → (h.answer ≡ 0) × (h.output ≡ h.before)
unfolding RanIn KeptIn received call_in
kept-so k [] σ R A h i n = absurd i
kept-so k (x ∷ hs) σ R A h (inl z) n =
    let e = A.0 (rw z at n) in
    rw z (R.0.answer ∙ ap (λ (r : Reply (List ℕ)). packed (told r)) e, R.0.output ∙ ap (λ (r : Reply (List ℕ)). output_after r x.before) e)
kept-so k (x ∷ hs) σ R A h (inr i) n = kept-so k hs (left (as_turn x)) R.1 A.1 h i n

module _ (gs : List Source) (m : List ℕ) (k : Key) (d : List ℕ) (C : Cutting k d) (past mid : List LiftTurn) (c : LiftTurn)
    (H : Supposed gs m k d C (map as_turn past) (map as_turn mid) (as_turn c)) (R : RanIn (begun gs m) (past ++ (mid ++ (c ∷ [])))) where
  abbrev σ₁ : State
  σ₁ = end_of (begun gs m) (map as_turn past)

  abbrev σ₂ : State
  σ₂ = end_of (end_of (begun gs m) (map as_turn past)) (map as_turn mid)

  went : Went (begun gs m) (map as_turn past ++ (map as_turn mid ++ (as_turn c ∷ [])))
  went =
      let e : map as_turn (past ++ (mid ++ (c ∷ []))) ≡ map as_turn past ++ (map as_turn mid ++ (as_turn c ∷ [])) =
      map-append as_turn past (mid ++ (c ∷ [])) ∙ ap (λ (x : List Turn). map as_turn past ++ x) (map-append as_turn mid (c ∷ [])) in
      rw e at (in-went (past ++ (mid ++ (c ∷ []))) (begun gs m) R)

  ran₁ : RanIn σ₁ (mid ++ (c ∷ []))
  ran₁ = in_right past (mid ++ (c ∷ [])) (begun gs m) R

  concluded : Replies k d σ₁ (map as_turn mid) (as_turn c) → ConcludedIn k d mid c
  concluded D =
      let A = in-last c σ₂ (in_right mid (c ∷ []) σ₁ ran₁) in
      record {
        none_before = kept-so k mid σ₁ (in_left mid (c ∷ []) σ₁ ran₁) D.none_before;
        answer = A.answer ∙ ap (λ (r : Reply (List ℕ)). packed (told r)) D.exactly;
        output = out-front d c.before c.output _ A.output D.exactly D.room;
      }

  -- DEMAND 3, with the wider premise, as `demand-3-ready` has it
  pub lift-demand-3-ready : Ready k (end_of (begun gs m) (map as_turn past)) H.first.time → ConcludedIn k d mid c
  lift-demand-3-ready r = concluded (replies-ready gs m k d C (map as_turn past) (map as_turn mid) (as_turn c) H went r)

  hands_out : held (owner k) (end_of (begun gs m) (map as_turn past)).table.slots ≡ 0 → ConcludedIn k d mid c
  hands_out z = concluded (replies gs m k d C (map as_turn past) (map as_turn mid) (as_turn c) H went z)

-- ---- the four, each of its type (specs/Demands.antt); a run up to any moment is a run (`in_left`)

pub lift-demand-3 : LiftDemand3
lift-demand-3 = hands_out

pub lift-at-most-three : LiftAtMostThree
lift-at-most-three gs m W room hs R = went-three gs m W room (map as_turn hs) (in-went hs (begun gs m) R)

pub lift-eight-slots : LiftEightSlots
lift-eight-slots gs m W room hs R = went-eight gs m W room (map as_turn hs) (in-went hs (begun gs m) R)

pub lift-never-meet : LiftNeverMeet
lift-never-meet gs m W room hs h R p b n a l =
    let σ = end_of (begun gs m) (map as_turn hs) in
    let A = in-last h σ (in_right hs (h ∷ []) (begun gs m) R) in
    let L : Went (begun gs m) (map as_turn hs ++ (as_turn h ∷ [])) = rw (map-append as_turn hs (h ∷ [])) at (in-went (hs ++ (h ∷ [])) (begun gs m) R) in
    went-apart gs m W room (map as_turn hs) (as_turn h) L p b n (unpacked n (told (step σ (call_in σ (as_turn h))).reply) l (sym a ∙ A.answer)) A.output
  where
    unpacked : (n : ℕ) (r : Reply ℕ) → n < 65536 → 65536 + n ≡ packed r → out n ≡ r
    unpacked n kept l e = absurd (omega (arith, e))
    unpacked n (out j) l e = let q : n ≡ j = omega (arith, e) in ap out q
    unpacked n (refused j) l e = absurd (omega (arith, e, l))

-- "0 for anything that is no gateway" (include/lift.h, lift_held): what `lift_held` answers, by its contract, for a kind and a number that are none
pub lift-held-none : (gs : List Source) (m : List ℕ) → Gateways gs → 16384 ≤ length m → (hs : List LiftTurn) → RanIn (begun gs m) hs
    → (kind number : ℕ) → is_gate (gate_of (gateway_of kind number)) gs ≡ false
    → held (gate_of (gateway_of kind number)) (end_of (begun gs m) (map as_turn hs)).table.slots ≡ 0
lift-held-none gs m W room hs R kind number = went-none gs m W room (map as_turn hs) (in-went hs (begun gs m) R) (gate_of (gateway_of kind number))
