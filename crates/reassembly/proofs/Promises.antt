-- What the slot table promises of every run of calls, from a fresh table with a gateway list that 14 lets pass; and that the contracts
-- leave no second answer.
use Rattle.std.specs.Prelude as Std
use Rattle.std.specs.Prelude.{Ok, Err}
use Rattle.octets.specs.declared.refusal.Refusal.{Refusal}
use Prim.Native.Nat.{ℕ, ◌+◌, ◌*◌, ◌-◌, ◌≤◌, ◌<◌}
use native.Mathlib.Omega.{arith}
use mathlib.Core.Path.{◌≡◌, refl, sym, ap, ap₂, ◌∙◌}
use mathlib.Core.Logic.{◌⊎◌}
use mathlib.Core.Bool.{true, false}
use mathlib.Core.List.{List, [], ◌∷◌, ◌++◌}
use lib.ListN.{length, get_or}
use Rattle.octets.specs.Refusal.{number_of}
use Rattle.octets.specs.Answers.{of_answer}
use Rattle.octets.proofs.Unique.{number-one, answer-one}
use Rattle.reassembly.specs.declared.table.Gateway.{Gateway}
use Rattle.reassembly.specs.Lists.{count}
use Rattle.reassembly.specs.Slots.{opened, is_free, expired, gates_of, is_gate, held, free, may_open, opening}
use Rattle.reassembly.specs.Parts.{Part, out, Answered, of_outcome, Put}
use Rattle.reassembly.specs.Table.{Call, part, Result, slots_at, step, run, opens_in, ends_in, taken_since, Lands, Received, Gives}
use Rattle.reassembly.specs.Cover.{In, Has, MadeOf}
use Rattle.reassembly.specs.Fresh.{sources, seated, Begins, Gateways, begun}
use Rattle.reassembly.specs.declared.slot.Source.{Source}
use Rattle.reassembly.specs.declared.slot.Key.{Key}
use Rattle.reassembly.specs.declared.slot.Slot.{Slot}
use Rattle.reassembly.specs.declared.part.Outcome.{Outcome}
use Rattle.reassembly.specs.declared.part.InSlot.{InSlot}
use Rattle.reassembly.specs.declared.table.Table.{Table}
use Rattle.reassembly.proofs.Lists.{first_at-found}
use Rattle.reassembly.proofs.Gateways.{idle, free-for-idle, may_open-none, may_open-rule}
use Rattle.expand.specs.Sum.{was_elided}
use Rattle.reassembly.proofs.Parts.{finish-byte}
use Rattle.reassembly.proofs.Origin.{did_made, run-told, fresh-told, taken-snoc}
use Rattle.reassembly.proofs.Runs.{Good, good-at, step-did, fresh-good, fresh-free, run-good, run-count}

module _ (gs : List Source) (m : List ℕ) (W : Gateways gs) (h : 16384 ≤ length m) (cs : List Call) where
  good : Good (run (begun gs m) cs)
  good = run-good cs (begun gs m) (fresh-good gs m W h)

  -- "No gateway ever holds over three slots."
  pub three : (g : Source) → held g (run (begun gs m) cs).table.slots ≤ 3
  three g = good.sound.cap g

  -- the free slots are never fewer than the gateways that hold none
  pub reserved : idle (gates_of (run (begun gs m) cs).table) (run (begun gs m) cs).table.slots ≤ free (run (begun gs m) cs).table.slots
  reserved = free-for-idle (gates_of (run (begun gs m) cs).table) (run (begun gs m) cs).table.slots good.sound

  -- a gateway that holds none, once a call at t has freed the old slots, can open one
  pub can-open : (t : ℕ) (g : Source) → is_gate g (gates_of (run (begun gs m) cs).table) ≡ true → held g (slots_at t (run (begun gs m) cs)) ≡ 0
      → opening g (gates_of (run (begun gs m) cs).table) (slots_at t (run (begun gs m) cs)) < 8
  unfolding opening free
  can-open t g k z =
      let σ = run (begun gs m) cs in
      let S = good-at σ t good in
      let e : may_open g (gates_of σ.table) (slots_at t σ) ≡ true = may_open-none g (gates_of σ.table) (slots_at t σ) S k z in
      let r : 1 ≤ count is_free (slots_at t σ) = (may_open-rule g (gates_of σ.table) (slots_at t σ) e).room in
      rw e (omega (arith, S.eight, first_at-found is_free (slots_at t σ) r))

  -- "At every moment openings so far less endings so far, plus free slots, is 8."
  pub tally : opens_in (begun gs m) cs + free (run (begun gs m) cs).table.slots ≡ 8 + ends_in (begun gs m) cs
  tally = omega (arith, run-count cs (begun gs m) (fresh-good gs m W h), fresh-free gs)

  -- "bytes of two such keys never meet in one datagram", in 01's words: "each byte handed out from a slot, a computed checksum aside, is the
  -- byte at its place of a part taken under that slot's key since the slot's opening." A part p that makes the table hand out d: d is made of
  -- the parts taken under p's key since its slot's opening, p among them.
  pub never-meet : (t : ℕ) (p : Part) (d : List ℕ) → (step (run (begun gs m) cs) (part t p)).reply ≡ out d
      → MadeOf p.key (taken_since p.key (begun gs m) (cs ++ (part t p ∷ [])) []) d
  never-meet t p d a =
      let σ = run (begun gs m) cs in
      let T = run-told cs p.key (begun gs m) [] (fresh-good gs m W h) (fresh-told gs m p.key) in
      rw (taken-snoc p.key cs (part t p) (begun gs m) [])
      (did_made p.key σ (taken_since p.key (begun gs m) cs []) d good (step-did σ (part t p) good) T refl a)

-- byte by byte: of a datagram made of the parts hs each byte but a computed checksum's is that of one of them at its place
pub each-byte : (k : Key) (hs : List Part) (d : List ℕ) (M : MadeOf k hs d) (x : ℕ) → x < k.size → (was_elided M.sum ≡ true → (x < M.sum.udp + 6) ⊎ (M.sum.udp + 8 ≤ x))
    → (q : Part) × In q hs × (q.key ≡ k) × Has q x × (get_or d x 0 ≡ get_or q.bytes (x - q.unit * 8) 0)
each-byte k hs d M x l a =
    let w = M.each x l in
    (w.0, w.1, w.2, w.3, ap (λ (z : List ℕ). get_or z x 0) M.made ∙ finish-byte M.sum M.d₀ x a ∙ w.4)

-- K12: a slot opened at 0 is held at 59,999, gone at 60,000
pub k12-held : (k : Key) → expired 59999 (opened k 0) ≡ false
unfolding expired opened
k12-held k = refl

pub k12-gone : (k : Key) → expired 60000 (opened k 0) ≡ true
unfolding expired opened
k12-gone k = refl

-- ---- any two answers are equal

pub outcome-one : (y z : Answered) → of_outcome y ≡ of_outcome z → y ≡ z
outcome-one (Ok Outcome.Kept) (Ok Outcome.Kept) e = refl
outcome-one (Ok Outcome.Kept) (Ok (Outcome.Out n)) e = cc
outcome-one (Ok Outcome.Kept) (Err r) e = cc
outcome-one (Ok (Outcome.Out n)) (Ok Outcome.Kept) e = cc
outcome-one (Ok (Outcome.Out n)) (Ok (Outcome.Out k)) e = let q : n ≡ k = cc in ap (λ (x : ℕ). Ok (Outcome.Out x)) q
outcome-one (Ok (Outcome.Out n)) (Err r) e = cc
outcome-one (Err r) (Ok Outcome.Kept) e = cc
outcome-one (Err r) (Ok (Outcome.Out n)) e = cc
outcome-one (Err r) (Err s) e = let q : number_of r ≡ number_of s = cc in ap Err (number-one r s q)

pub listed-one : (y z : Std.Result (Unit {0}) Refusal) → of_answer y ≡ of_answer z → y ≡ z
listed-one = answer-one

-- two answers, memories and outputs that meet the contract of a call are one
pub received-one : (q : Result) (o₀ : List ℕ) (y z : Received) (m m' o o' : List ℕ) → Gives y m o₀ o q → Gives z m' o₀ o' q → (y ≡ z) × (m ≡ m') × (o ≡ o')
received-one q o₀ y z m m' o o' A B =
    let a : y.answer ≡ z.answer = outcome-one y.answer z.answer (A.answer ∙ sym B.answer) in
    let t : y.table ≡ z.table = A.table ∙ sym B.table in
    (ap₂ (λ (x : Answered) (u : Table). record { answer = x; table = u }) a t, A.memory ∙ sym B.memory, A.output ∙ sym B.output)

-- as for a part to one slot
pub lands-one : (q : Put) (i : ℕ) (m₀ o₀ : List ℕ) (y z : InSlot) (m m' o o' : List ℕ) → Lands y i m₀ m o₀ o q → Lands z i m₀ m' o₀ o' q → (y ≡ z) × (m ≡ m') × (o ≡ o')
lands-one q i m₀ o₀ y z m m' o o' A B =
    let a : y.outcome ≡ z.outcome = outcome-one y.outcome z.outcome (A.answer ∙ sym B.answer) in
    let t : y.slot ≡ z.slot = A.slot ∙ sym B.slot in
    (ap₂ (λ (x : Answered) (u : Slot). record { outcome = x; slot = u }) a t, A.memory ∙ sym B.memory, A.output ∙ sym B.output)

-- as for the seats of a list
pub sits-one : (n : ℕ) (l : List Gateway) (y z : Std.Result (List Source) Refusal) → of_answer y ≡ seated n (sources n l) → of_answer z ≡ seated n (sources n l) → y ≡ z
sits-one n l y z A B = answer-one y z (A ∙ sym B)

pub begun-one : (n : ℕ) (l : List Gateway) (y z : Std.Result (Unit {0}) Refusal) (t x u : Table) → Begins y t x n l → Begins z t u n l → (y ≡ z) × (x ≡ u)
begun-one n l y z t x u A B = (listed-one y z (A.answer ∙ sym B.answer), A.table ∙ sym B.table)
