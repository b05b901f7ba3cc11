-- Demand 3 over frames: runs of the public call `receive`, by the theorem on runs of calls (proofs/Runs.antt).
use Rattle.std.specs.Prelude.{Ok}
use Prim.Native.Nat.{ℕ, ◌+◌, ◌≤◌}
use native.Mathlib.Omega.{arith}
use mathlib.Core.Path.{◌≡◌, refl, sym, ap, ◌∙◌}
use mathlib.Core.Logic.{◌⊎◌, inl, inr}
use mathlib.Core.Bool.{false}
use mathlib.Core.List.{List, [], ◌∷◌, ◌++◌, map, map-append, append-nil}
use lib.ListN.{length, drop}
use Rattle.octets.specs.Read.{is}
use Rattle.octets.proofs.Puts.{put_front}
use Rattle.reassembly.specs.Slots.{owner, gates_of, is_gate, held, free}
use Rattle.reassembly.specs.Parts.{Part, Reply, kept, out, refused, told, of_outcome, output_after}
use Rattle.reassembly.specs.Table.{Call, part, State, step, after, Ready, comes, next, run, opens_in, ends_in}
use Rattle.reassembly.specs.Fresh.{Gateways, begun}
use Rattle.reassembly.specs.declared.slot.Source.{Source}
use Rattle.reassembly.specs.declared.slot.Key.{Key}
use Rattle.reassembly.specs.declared.part.Outcome.{Outcome}
use Rattle.reassembly.proofs.Parts.{length-finish}
use Rattle.reassembly.proofs.Runs.{Good, step-did, did-good, gates-fresh, fresh-good, run-good, run-gates, run_length, comes-one, comes-brought, comes-part}
use Rattle.reassembly.proofs.Lent.{room-part, lent-room}
use Rattle.reassembly.proofs.Promises.{three, tally, outcome-one}
use Rattle.reassembly.proofs.Promises as Table
use Rattle.reassembly.specs.Cover.{In, Covers, MadeOf}
use Rattle.promises.specs.Cuttings.{Cutting}
use Rattle.promises.specs.Runs.{came, AllKept, CallsForward, CallsSupposed, CallsConcluded}
use Rattle.promises.specs.Frames.{Turn, left, call_in, Ran, end_of, openings, endings, Forward, meant, MeansPart, parts_of, taken_of, Supposed, Concluded, HandedOut}
use Rattle.promises.specs.Demands.{Demand3, AtMostThree, EightSlots, NeverMeet}
use Rattle.reassembly.proofs.Fits.{fit}
use Rattle.promises.proofs.Strangers.{no-stranger}
use Rattle.promises.proofs.Engine.{In-left}
use Rattle.receiver.specs.Receive.{frame_call, call_of}
use Rattle.receiver.specs.Names.{named}
use Rattle.receiver.proofs.Names.{call-after, call-part}
use Rattle.promises.proofs.Runs as Runs

-- ---- a run of `receive` is a run of calls

-- the calls leave table and memory as the contract says, whatever form the answer has: runs of the library go so too (proofs/Library.antt)
unfoldable pub Went : State → List Turn → Type 0
Went σ [] = Unit {0}
Went σ (h ∷ hs) = (h.returned.table ≡ (step σ (call_in σ h)).state.table) × (h.memory ≡ (step σ (call_in σ h)).state.mem) × Went (left h) hs

pub ran-went : (hs : List Turn) (σ : State) → Ran σ hs → Went σ hs
unfolding Ran Went
ran-went [] σ R = tt
ran-went (h ∷ hs) σ R = (R.0.table, R.0.memory, ran-went hs (left h) R.1)

-- what comes to a table that a run can come to is what is meant: the table does not matter, and its memory is enough
pub call-is : (σ : State) (h : Turn) → Good σ → call_in σ h ≡ meant h
unfolding call_in call_of
call-is σ h G = lent-room h.before (frame_call h.contexts h.time h.frame) σ.mem G.room

pub good-next : (σ : State) (c : Call) → Good σ → Good (next σ c)
unfolding next
good-next σ c G = did-good σ G (step-did σ c G)

-- the first call of a run, as a call that comes to σ
module _ (σ : State) (h : Turn) (hs : List Turn) (G : Good σ) (L : Went σ (h ∷ hs)) where
  left_is : left h ≡ next σ (meant h)
  unfolding Went next
  left_is =
      let c = call-is σ h G in
      let a : h.returned.table ≡ (step σ (meant h)).state.table = rw c at L.0 in
      let b : h.memory ≡ (step σ (meant h)).state.mem = rw c at L.1 in
      λ i. record { table = a i; mem = b i }

  left-good : Good (left h)
  left-good = rw left_is (good-next σ (meant h) G)

  left-went : Went (left h) hs
  unfolding Went
  left-went = L.2

pub ran-left : (hs js : List Turn) (σ : State) → Ran σ (hs ++ js) → Ran σ hs
unfolding Ran
ran-left [] js σ R = tt
ran-left (h ∷ hs) js σ R = (R.0, ran-left hs js (left h) R.1)

pub ran-right : (hs js : List Turn) (σ : State) → Ran σ (hs ++ js) → Ran (end_of σ hs) js
unfolding Ran end_of
ran-right [] js σ R = R
ran-right (h ∷ hs) js σ R = ran-right hs js (left h) R.1

went-left : (hs js : List Turn) (σ : State) → Went σ (hs ++ js) → Went σ hs
unfolding Went
went-left [] js σ L = tt
went-left (h ∷ hs) js σ L = (L.0, L.1, went-left hs js (left h) L.2)

went-right : (hs js : List Turn) (σ : State) → Went σ (hs ++ js) → Went (end_of σ hs) js
unfolding Went end_of
went-right [] js σ L = L
went-right (h ∷ hs) js σ L = went-right hs js (left h) L.2

went-is : (hs : List Turn) (σ : State) → Good σ → Went σ hs → end_of σ hs ≡ run σ (map meant hs)
unfolding end_of run
went-is [] σ G L = refl
went-is (h ∷ hs) σ G L =
    went-is hs (left h) (left-good σ h hs G L) (left-went σ h hs G L) ∙ ap (λ (z : State). run z (map meant hs)) (left_is σ h hs G L)

went-good : (hs : List Turn) (σ : State) → Good σ → Went σ hs → Good (end_of σ hs)
went-good hs σ G L = rw (went-is hs σ G L) (run-good (map meant hs) σ G)

openings-are : (hs : List Turn) (σ : State) → Good σ → Went σ hs → openings σ hs ≡ opens_in σ (map meant hs)
unfolding openings opens_in
openings-are [] σ G L = refl
openings-are (h ∷ hs) σ G L =
    rw (call-is σ h G, openings-are hs (left h) (left-good σ h hs G L) (left-went σ h hs G L), left_is σ h hs G L)

endings-are : (hs : List Turn) (σ : State) → Good σ → Went σ hs → endings σ hs ≡ ends_in σ (map meant hs)
unfolding endings ends_in
endings-are [] σ G L = refl
endings-are (h ∷ hs) σ G L =
    rw (call-is σ h G, endings-are hs (left h) (left-good σ h hs G L) (left-went σ h hs G L), left_is σ h hs G L)

-- a clock that goes forward over all the calls does so over those that take their time
forward-is : (hs : List Turn) (n k : ℕ) → k ≤ n → Forward n hs → CallsForward k (map meant hs)
unfolding Forward CallsForward
forward-is [] n k l f = tt
forward-is (h ∷ hs) n k l f = go (call-after h.before h.contexts h.time h.frame k) f.0 (λ j l'. forward-is hs h.time j l' f.1)
  where
    go : (after k (meant h) ≡ k) ⊎ (after k (meant h) ≡ h.time) → n ≤ h.time → ((j : ℕ) → j ≤ h.time → CallsForward j (map meant hs))
        → (k ≤ after k (meant h)) × CallsForward (after k (meant h)) (map meant hs)
    go (inl e) a ih = rw e (omega arith, ih k (omega arith))
    go (inr e) a ih = rw e (omega arith, ih h.time (omega arith))

-- ---- what came

pub part-one : (t u : ℕ) (p q : Part) → part t p ≡ part u q → p ≡ q
part-one t u p q e = cc

module _ (k : Key) where
  -- a part came in one of the calls
  pub came-in : (hs : List Turn) (p : Part) → In p (came k (map meant hs)) → (h : Turn) × In h hs × (comes k (meant h) ≡ p ∷ [])
  unfolding came
  came-in [] p i = absurd i
  came-in (h ∷ hs) p i = go (comes-one k (meant h)) (λ j. came-in hs p j)
    where
      go : (comes k (meant h) ≡ []) ⊎ ((q : Part) × (comes k (meant h) ≡ q ∷ []))
          → (In p (came k (map meant hs)) → (x : Turn) × In x hs × (comes k (meant x) ≡ p ∷ []))
          → (x : Turn) × In x (h ∷ hs) × (comes k (meant x) ≡ p ∷ [])
      go (inl e) ih =
          let j : In p (came k (map meant hs)) = rw e at i in
          let w = ih j in (w.0, inr w.1, w.2)
      go (inr (q, e)) ih = one (rw e at i)
        where
          one : In p (q ∷ came k (map meant hs)) → (x : Turn) × In x (h ∷ hs) × (comes k (meant x) ≡ p ∷ [])
          one (inl z) = (h, inl refl, rw z e)
          one (inr j) = let w = ih j in (w.0, inr w.1, w.2)

  -- the call that covers brings a part
  covering-brings : (mid : List Turn) (c : Turn) → Covers k.size (came k (map meant (mid ++ (c ∷ [])))) → (Covers k.size (came k (map meant mid)) → ⊥)
      → (q : Part) × (comes k (meant c) ≡ q ∷ [])
  unfolding came
  covering-brings mid c C nc = go (comes-one k (meant c))
    where
      nothing-new : comes k (meant c) ≡ [] → came k (map meant (mid ++ (c ∷ []))) ≡ came k (map meant mid)
      nothing-new e =
          ap (came k) (map-append meant mid (c ∷ [])) ∙ Runs.came-append k (map meant mid) (meant c ∷ [])
          ∙ rw e (append-nil (came k (map meant mid)))

      go : (comes k (meant c) ≡ []) ⊎ ((q : Part) × (comes k (meant c) ≡ q ∷ [])) → (q : Part) × (comes k (meant c) ≡ q ∷ [])
      go (inl e) = absurd (nc (rw (nothing-new e) at C))
      go (inr w) = w

-- ---- what the calls of demand 3 reply, whatever form the answer has

-- each call for k in a run from σ replies that its part is kept
unfoldable pub KeptIn : Key → State → List Turn → Type 0
KeptIn k σ [] = Unit {0}
KeptIn k σ (h ∷ hs) = (named h.frame ≡ is k → (step σ (call_in σ h)).reply ≡ kept) × KeptIn k (left h) hs

-- none before it, and the covering call hands out d, for which the output has room
pub record Replies (k : Key) (d : List ℕ) (σ : State) (mid : List Turn) (c : Turn) : Type 0 where
  pub none_before : KeptIn k σ mid
  pub exactly : (step (end_of σ mid) (call_in (end_of σ mid) c)).reply ≡ out d
  pub room : length d ≤ length c.before

kept_in : (k : Key) (hs : List Turn) (σ : State) → Good σ → Went σ hs → AllKept k σ (map meant hs)
    → ((h : Turn) → In h hs → named h.frame ≡ is k → (p : Part) × (comes k (meant h) ≡ p ∷ [])) → KeptIn k σ hs
unfolding AllKept KeptIn
kept_in k [] σ F L A B = tt
kept_in k (h ∷ hs) σ F L A B = (
  λ n. let w = B h (inl refl) n in rw (call-is σ h F) (A.0 w.0 w.1),
  kept_in k hs (left h) (left-good σ h hs F L) (left-went σ h hs F L) (rw (left_is σ h hs F L) A.1) (λ x i. B x (inr i)),
)

-- what `receive` answers then, and the output
kept-so : (k : Key) (hs : List Turn) (σ : State) → Ran σ hs → KeptIn k σ hs
    → (h : Turn) → In h hs → named h.frame ≡ is k → (h.returned.answer ≡ Ok Outcome.Kept) × (h.output ≡ h.before)
unfolding Ran KeptIn
kept-so k [] σ R A h i n = absurd i
kept-so k (x ∷ hs) σ R A h (inl z) n =
    let e = A.0 (rw z at n) in
    rw z (outcome-one x.returned.answer (Ok Outcome.Kept) (R.0.answer ∙ ap told e), R.0.output ∙ ap (λ (z : Reply (List ℕ)). output_after z x.before) e)
kept-so k (x ∷ hs) σ R A h (inr i) n = kept-so k hs (left x) R.1 A.1 h i n

-- a datagram that is handed out stands at the output's start
pub out-front : (d b o : List ℕ) (r : Reply (List ℕ)) → o ≡ output_after r b → r ≡ out d → length d ≤ length b → o ≡ d ++ drop (length d) b
out-front d b o r a e l = a ∙ ap (λ (z : Reply (List ℕ)). output_after z b) e ∙ put_front d b l

-- ---- the main theorem

module _ (gs : List Source) (m : List ℕ) (k : Key) (d : List ℕ) (C : Cutting k d) (past mid : List Turn) (c : Turn) (H : Supposed gs m k d C past mid c) where
  calls : List Turn → List Call
  calls hs = map meant hs

  -- what came under the key is of the cutting
  of-cutting : (h : Turn) → In h (mid ++ (c ∷ [])) → (p : Part) → comes k (meant h) ≡ p ∷ [] → In p C.parts
  of-cutting h i p e =
      let B = comes-brought k (meant h) p e in
      let P = call-part h.before h.contexts h.time h.frame B.time p B.call in
      let w = H.of-cutting h i (P.name ∙ ap is B.key) in
      let same : w.0 ≡ p = part-one h.time B.time w.0 p (sym w.2 ∙ B.call) in
      rw (← same) w.1

  -- the earliest part
  first-in : In H.first (mid ++ (c ∷ []))
  first-in = rw H.earliest (inl refl)

  p₀ : Part
  p₀ = (H.of-cutting H.first first-in H.earliest-named).0

  p₀-in : In p₀ C.parts
  unfolding p₀
  p₀-in = (H.of-cutting H.first first-in H.earliest-named).1

  p₀-brought : meant H.first ≡ part H.first.time p₀
  unfolding p₀
  p₀-brought = (H.of-cutting H.first first-in H.earliest-named).2

  -- the covering part
  covering : (q : Part) × (comes k (meant c) ≡ q ∷ [])
  covering = covering-brings k mid c (unfold parts_of in H.cover) (unfold parts_of in H.not-before)

  q : Part
  q = covering.0

  q-comes : comes k (meant c) ≡ q ∷ []
  unfolding q
  q-comes = covering.1

  q-brought : meant c ≡ part c.time q
  q-brought =
      let B = comes-brought k (meant c) q q-comes in
      B.call ∙ ap (λ (t : ℕ). part t q) (call-part c.before c.contexts c.time c.frame B.time q B.call).time

  window : calls (mid ++ (c ∷ [])) ≡ calls mid ++ (part c.time q ∷ [])
  unfolding calls
  window = map-append meant mid (c ∷ []) ∙ ap (λ (x : Call). map meant mid ++ (x ∷ [])) q-brought

  run-of-calls : calls (past ++ (mid ++ (c ∷ []))) ≡ calls past ++ (calls mid ++ (part c.time q ∷ []))
  unfolding calls
  run-of-calls = map-append meant past (mid ++ (c ∷ [])) ∙ ap (λ (xs : List Call). map meant past ++ xs) (unfold calls in window)

  supposed : CallsSupposed gs m k d C (calls past) (calls mid) c.time q
  unfolding calls parts_of
  supposed = record {
    gateways = H.gateways;
    enough = H.enough;
    forward = rw (← run-of-calls) (forward-is (past ++ (mid ++ (c ∷ []))) 0 0 (omega arith) H.forward);
    gate = H.gate;
    t₀ = H.first.time;
    p₀ = p₀;
    then = map meant H.then;
    earliest = sym window ∙ ap (map meant) H.earliest ∙ ap (λ (x : Call). x ∷ map meant H.then) p₀-brought;
    earliest-part = p₀-in;
    of-cutting = λ p i.
        let w = came-in k (mid ++ (c ∷ [])) p (rw window i) in
        of-cutting w.0 w.1 p w.2;
    cover = rw (← window) H.cover;
    not-before = H.not-before;
    soon = H.soon;
  }

  -- what the theorem on runs of calls says of them
  pub as-calls : held (owner k) (run (begun gs m) (map meant past)).table.slots ≡ 0
      → (p : Part) × (meant c ≡ part c.time p) × CallsConcluded (run (begun gs m) (map meant past)) k d (map meant mid) c.time p
  unfolding calls
  as-calls z = (q, q-brought, Runs.calls-demand-3 gs m k d C (calls past) (calls mid) c.time q supposed z)

  fits-output : length d ≤ length c.before
  fits-output =
      let B = comes-brought k (meant c) q q-comes in
      let f = fit q B.fit in
      let z : q.key.size ≡ k.size = ap (λ (x : Key). x.size) B.key in
      omega (arith, C.sized, f.small, (room-part c.before _ c.time q q-brought).1)

  -- the table and the memory when the earliest part comes, and when the covering call does
  abbrev σ₁ : State
  σ₁ = end_of (begun gs m) past

  abbrev σ₂ : State
  σ₂ = end_of (end_of (begun gs m) past) mid

  module _ (L : Went (begun gs m) (past ++ (mid ++ (c ∷ [])))) where
    good₀ : Good (begun gs m)
    good₀ = fresh-good gs m H.gateways H.enough

    went₀ : Went (begun gs m) past
    went₀ = went-left past (mid ++ (c ∷ [])) (begun gs m) L

    good₁ : Good σ₁
    good₁ = went-good past (begun gs m) good₀ went₀

    σ₁-is : σ₁ ≡ run (begun gs m) (calls past)
    unfolding calls
    σ₁-is = went-is past (begun gs m) good₀ went₀

    went₁ : Went σ₁ mid
    went₁ = went-left mid (c ∷ []) σ₁ (went-right past (mid ++ (c ∷ [])) (begun gs m) L)

    good₂ : Good σ₂
    good₂ = went-good mid σ₁ good₁ went₁

    σ₂-is : σ₂ ≡ run σ₁ (calls mid)
    unfolding calls
    σ₂-is = went-is mid σ₁ good₁ went₁

    replied : CallsConcluded (run (begun gs m) (calls past)) k d (calls mid) c.time q → Replies k d σ₁ mid c
    unfolding calls
    replied D = record {
      none_before = kept_in k mid σ₁ good₁ went₁ (rw σ₁-is D.none_before) (λ h i n.
          let w = H.of-cutting h (In-left h mid (c ∷ []) i) n in
          (w.0, rw w.2 (comes-part k h.time w.0 (C.keyed w.0 w.1) (C.pass10 w.0 w.1))));
      exactly = rw (call-is σ₂ c good₂, σ₂-is, σ₁-is, q-brought) D.exactly;
      room = fits-output;
    }

    pub replies-ready : Ready k (end_of (begun gs m) past) H.first.time → Replies k d (end_of (begun gs m) past) mid c
    unfolding supposed
    replies-ready r = replied (Runs.calls-demand-3-ready gs m k d C (calls past) (calls mid) c.time q supposed (rw (← σ₁-is) r))

    pub replies : held (owner k) (end_of (begun gs m) past).table.slots ≡ 0 → Replies k d (end_of (begun gs m) past) mid c
    replies z = replied (Runs.calls-demand-3 gs m k d C (calls past) (calls mid) c.time q supposed (rw (← σ₁-is) z))

  module _ (R : Ran (begun gs m) (past ++ (mid ++ (c ∷ [])))) where
    ran₁ : Ran σ₁ (mid ++ (c ∷ []))
    ran₁ = ran-right past (mid ++ (c ∷ [])) (begun gs m) R

    ran₂ : Ran σ₂ (c ∷ [])
    ran₂ = ran-right mid (c ∷ []) σ₁ ran₁

    concluded : Replies k d σ₁ mid c → Concluded k d mid c
    unfolding Ran
    concluded D = record {
      none_before = kept-so k mid σ₁ (ran-left mid (c ∷ []) σ₁ ran₁) D.none_before;
      answer = outcome-one c.returned.answer (Ok (Outcome.Out (length d))) (ran₂.0.answer ∙ ap told D.exactly);
      output = out-front d c.before c.output _ ran₂.0.output D.exactly D.room;
    }

    -- DEMAND 3, with the wider premise: as the call with the earliest part finds the table, once it has freed the slots that are 60,000 ms
    -- old, the key is not open and the opening rule lets its gateway open a slot
    pub demand-3-ready : Ready k (end_of (begun gs m) past) H.first.time → Concluded k d mid c
    demand-3-ready r = concluded (replies-ready (ran-went (past ++ (mid ++ (c ∷ []))) (begun gs m) R) r)

    hands_out : held (owner k) (end_of (begun gs m) past).table.slots ≡ 0 → Concluded k d mid c
    hands_out z = concluded (replies (ran-went (past ++ (mid ++ (c ∷ []))) (begun gs m) R) z)

-- ---- companions, over every run from a fresh table; a run up to any moment is a run (`ran-left`)

made-small : (k : Key) (ps : List Part) (d : List ℕ) → MadeOf k ps d → length d ≤ 2047
made-small k ps d M = omega (arith, ap length M.made, length-finish M.sum M.d₀, M.sized, M.bounded)

module _ (gs : List Source) (m : List ℕ) (W : Gateways gs) (h : 16384 ≤ length m) (hs : List Turn) where
  module _ (L : Went (begun gs m) hs) where
    pub went-three : (g : Source) → held g (end_of (begun gs m) hs).table.slots ≤ 3
    went-three g = rw (went-is hs (begun gs m) (fresh-good gs m W h) L) (three gs m W h (map meant hs) g)

    pub went-none : (g : Source) → is_gate g gs ≡ false → held g (end_of (begun gs m) hs).table.slots ≡ 0
    went-none g n = rw (went-is hs (begun gs m) (fresh-good gs m W h) L) (no-stranger gs m W h (map meant hs) g n)

    pub went-eight : openings (begun gs m) hs + free (end_of (begun gs m) hs).table.slots ≡ 8 + endings (begun gs m) hs
    went-eight =
        let F = fresh-good gs m W h in
        rw (openings-are hs (begun gs m) F L, endings-are hs (begun gs m) F L, went-is hs (begun gs m) F L) (tally gs m W h (map meant hs))

  module _ (R : Ran (begun gs m) hs) where
    end_is : end_of (begun gs m) hs ≡ run (begun gs m) (map meant hs)
    end_is = went-is hs (begun gs m) (fresh-good gs m W h) (ran-went hs (begun gs m) R)

    -- the gateways stay, and the lent memory keeps its length
    pub gateways-stay : gates_of (end_of (begun gs m) hs).table ≡ gs
    gateways-stay = rw end_is (run-gates (map meant hs) (begun gs m) (fresh-good gs m W h) ∙ gates-fresh gs W)

    pub memory-stays : length (end_of (begun gs m) hs).mem ≡ length m
    memory-stays = rw end_is (run_length (map meant hs) (begun gs m) (fresh-good gs m W h))

-- "bytes of two such keys never meet in one datagram", in 01's words: "each byte handed out from a slot, a computed checksum aside, is the byte
-- at its place of a part taken under that slot's key since the slot's opening"
module _ (gs : List Source) (m : List ℕ) (W : Gateways gs) (room : 16384 ≤ length m) (hs : List Turn) (h : Turn) where
  -- of the call's reply, whatever form the answer has
  module _ (L : Went (begun gs m) (hs ++ (h ∷ []))) where
    pub went-apart : (p : Part) → MeansPart h p → (n : ℕ) → out n ≡ told (step (end_of (begun gs m) hs) (call_in (end_of (begun gs m) hs) h)).reply
        → h.output ≡ output_after (step (end_of (begun gs m) hs) (call_in (end_of (begun gs m) hs) h)).reply h.before → HandedOut gs m p.key hs h n
    unfolding taken_of
    went-apart p b n a o =
        let F = fresh-good gs m W room in
        let L₁ = went-left hs (h ∷ []) (begun gs m) L in
        let σ = end_of (begun gs m) hs in
        let σ-is = went-is hs (begun gs m) F L₁ in
        let c = call-is σ h (went-good hs (begun gs m) F L₁) in
        let D = out-told n (step σ (call_in σ h)).reply a in
        let e : (step (run (begun gs m) (map meant hs)) (part h.time p)).reply ≡ out D.0 = rw (← σ-is, ← b, ← c) D.1 in
        let M = Table.never-meet gs m W room (map meant hs) h.time p D.0 e in
        let w : map meant (hs ++ (h ∷ [])) ≡ map meant hs ++ (part h.time p ∷ []) =
        map-append meant hs (h ∷ []) ∙ ap (λ (x : Call). map meant hs ++ (x ∷ [])) b in
        let l : length D.0 ≤ length h.before = omega (arith, made-small _ _ D.0 M, (room-part h.before _ h.time p b).1) in
        record {
          datagram = D.0;
          length-is = D.2;
          output = out-front D.0 h.before h.output _ o D.1 l ∙ ap (λ (x : ℕ). D.0 ++ drop x h.before) D.2;
          made = rw w M;
        }
      where
        out-told : (n : ℕ) (r : Reply (List ℕ)) → out n ≡ told r → (d : List ℕ) × (r ≡ out d) × (length d ≡ n)
        out-told n kept e = let z : ◌≡◌ {A = ℕ} 0 1 = cc in absurd (omega arith)
        out-told n (out d) e = (d, refl, cc)
        out-told n (refused r) e = let z : ◌≡◌ {A = ℕ} 0 1 = cc in absurd (omega arith)

  module _ (R : Ran (begun gs m) (hs ++ (h ∷ []))) where
    apart : (p : Part) → MeansPart h p → (n : ℕ) → h.returned.answer ≡ Ok (Outcome.Out n) → HandedOut gs m p.key hs h n
    unfolding Ran
    apart p b n a =
        let G = (ran-right hs (h ∷ []) (begun gs m) R).0 in
        went-apart (ran-went (hs ++ (h ∷ [])) (begun gs m) R) p b n (sym (ap of_outcome a) ∙ G.answer) G.output

-- ---- the four, each of its type (specs/Demands.antt)

pub demand-3 : Demand3
demand-3 = hands_out

pub at-most-three : AtMostThree
at-most-three gs m W room hs R = went-three gs m W room hs (ran-went hs (begun gs m) R)

pub eight-slots : EightSlots
eight-slots gs m W room hs R = went-eight gs m W room hs (ran-went hs (begun gs m) R)

pub never-meet : NeverMeet
never-meet = apart

-- what is no gateway holds no slot
pub no-stranger-holds : (gs : List Source) (m : List ℕ) → Gateways gs → 16384 ≤ length m → (hs : List Turn) → Ran (begun gs m) hs
    → (g : Source) → is_gate g gs ≡ false → held g (end_of (begun gs m) hs).table.slots ≡ 0
no-stranger-holds gs m W room hs R = went-none gs m W room hs (ran-went hs (begun gs m) R)
