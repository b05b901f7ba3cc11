-- The slot table as an engine that meets the laws (Engine.antt), for every key and every cutting of a datagram under it.
use Prim.Native.Nat.{ℕ, ◌+◌, ◌≤◌, ◌<◌}
use native.Mathlib.Omega.{arith}
use mathlib.Core.Path.{◌≡◌, ◌∙◌}
use mathlib.Core.Bool.{true}
use mathlib.Core.List.{List, [], ◌∷◌}
use Rattle.reassembly.specs.Slots.{owner, opened, is_key, gates_of, is_gate}
use Rattle.reassembly.specs.Parts.{Part, kept, out, place, offer}
use Rattle.reassembly.specs.Table.{Call, State, step, after, Ready, comes, next}
use Rattle.reassembly.specs.declared.slot.Key.{Key}
use Rattle.reassembly.specs.declared.slot.Slot.{Slot}
use Rattle.reassembly.proofs.Gateways.{is_key-of}
use Rattle.reassembly.proofs.Runs.{Good, step-did, did-good, did-gates, did-last, did-other, Holding, Comes, own-offered, own-opens, at_after, comes-one, Brought, comes-brought}
use Rattle.reassembly.specs.Cover.{In, Covers}
use Rattle.promises.specs.Cuttings.{Cutting}
use Rattle.reassembly.proofs.OneSlot.{opened-clear}
use Rattle.promises.proofs.Filling.{Progress, start, place-keeps, place-hands-out, offer-keeps, offer-hands-out}
use Rattle.promises.proofs.Engine.{Engine, Laws}

-- the table, as an engine that looks at the key k
abbrev pub engine : Key → Engine
engine k = record {
  State = State;
  Call = Call;
  next = next;
  reply = λ σ c. (step σ c).reply;
  last = λ σ. σ.table.last;
  after = after;
  comes = comes k;
}

module _ (k : Key) (d : List ℕ) (C : Cutting k d) where
  pub record Fine (σ : State) : Type 0 where
    pub good : Good σ
    pub gate : is_gate (owner k) (gates_of σ.table) ≡ true

  pub record Filling (σ : State) (t : ℕ) (ps : List Part) : Type 0 where
    pub place : ℕ
    pub slot : Slot
    pub bytes : List ℕ
    pub holding : Holding k σ place slot bytes
    pub progress : Progress k d C t ps slot bytes

  pub fine-next : (σ : State) (c : Call) → Fine σ → Fine (next σ c)
  unfolding next
  fine-next σ c F = record {
    good = did-good σ F.good (step-did σ c F.good);
    gate = rw (did-gates σ (step-did σ c F.good)) F.gate;
  }

  pub ticks : (σ : State) (c : Call) → Fine σ → σ.table.last ≤ after σ.table.last c → (next σ c).table.last ≡ after σ.table.last c
  unfolding next
  ticks σ c F h = did-last σ (step-did σ c F.good) h

  pub elsewhere : (σ : State) (c : Call) (t : ℕ) (ps : List Part) → Fine σ → Filling σ t ps → σ.table.last ≤ after σ.table.last c
      → after σ.table.last c < t + 60000 → comes k c ≡ [] → Filling (next σ c) t ps
  unfolding next
  elsewhere σ c t ps G F h y e = record {
    place = F.place;
    slot = F.slot;
    bytes = F.bytes;
    holding = did-other k σ F.place F.slot F.bytes G.good (step-did σ c G.good) F.holding e
        (λ u w. omega (arith, at_after c σ.table.last u w, F.progress.since));
    progress = F.progress;
  }

  -- a slot in which parts are kept is k's
  still : (t : ℕ) (ps : List Part) (s : Slot) (b : List ℕ) → Progress k d C t ps s b → is_key k s ≡ true
  still t ps s b P = is_key-of k s P.busy P.key

  comes-so : (σ : State) (c : Call) (q : Part) (B : Brought k c q) → Fine σ → σ.table.last ≤ after σ.table.last c → Comes k σ B.time q
  comes-so σ c q B G h = record {
    clock = rw B.call at h;
    gate = G.gate;
    key = B.key;
    fit = B.fit;
  }

  pub more : (σ : State) (c : Call) (t : ℕ) (ps : List Part) (q : Part) → Fine σ → Filling σ t ps → σ.table.last ≤ after σ.table.last c
      → after σ.table.last c < t + 60000 → comes k c ≡ q ∷ [] → In q C.parts → (Covers k.size (q ∷ ps) → ⊥)
      → ((step σ c).reply ≡ kept) × Filling (next σ c) t (q ∷ ps)
  unfolding next
  more σ c t ps q G F h y e m nc =
      let B = comes-brought k c q e in
      let y' : B.time < t + 60000 = rw B.call at y in
      let T = own-offered k σ B.time q F.place F.slot F.bytes G.good F.holding (comes-so σ c q B G h) (omega (arith, F.progress.since)) in
      let r = offer-keeps k d C t ps F.slot F.bytes F.progress q m nc in
      rw B.call (
        T.reply ∙ r.0,
        record {
          place = F.place;
          slot = (offer F.slot F.bytes q).slot;
          bytes = (offer F.slot F.bytes q).bytes;
          holding = T.holding (still t (q ∷ ps) (offer F.slot F.bytes q).slot (offer F.slot F.bytes q).bytes r.1);
          progress = r.1;
        },
      )

  pub done : (σ : State) (c : Call) (t : ℕ) (ps : List Part) (q : Part) → Fine σ → Filling σ t ps → σ.table.last ≤ after σ.table.last c
      → after σ.table.last c < t + 60000 → comes k c ≡ q ∷ [] → In q C.parts → (Covers k.size ps → ⊥) → Covers k.size (q ∷ ps)
      → (step σ c).reply ≡ out d
  done σ c t ps q G F h y e m nc cv =
      let B = comes-brought k c q e in
      let y' : B.time < t + 60000 = rw B.call at y in
      let T = own-offered k σ B.time q F.place F.slot F.bytes G.good F.holding (comes-so σ c q B G h) (omega (arith, F.progress.since)) in
      rw B.call (T.reply ∙ offer-hands-out k d C t ps F.slot F.bytes F.progress q m nc cv)

  -- k is not open as this call finds the table, and its gateway may open a slot
  abbrev pub ReadyFor : State → Call → Type 0
  ReadyFor σ c = Ready k σ (after σ.table.last c)

  pub first : (σ : State) (c : Call) (q : Part) → Fine σ → ReadyFor σ c → σ.table.last ≤ after σ.table.last c
      → comes k c ≡ q ∷ [] → In q C.parts → (Covers k.size (q ∷ []) → ⊥)
      → ((step σ c).reply ≡ kept) × Filling (next σ c) (after σ.table.last c) (q ∷ [])
  unfolding next
  first σ c q G R h e m nc =
      let B = comes-brought k c q e in
      let t = B.time in
      let R' : Ready k σ t = rw B.call at R in
      let O = own-opens k σ t q G.good (comes-so σ c q B G h) R' in
      let b = O.1 in
      let T = O.3 in
      let P = start k d C t b O.2 in
      let r = place-keeps k d C t [] (opened k t) b P q m (opened-clear k t q) nc in
      rw B.call (
        T.reply ∙ r.0,
        record {
          place = O.0;
          slot = (place (opened k t) b q).slot;
          bytes = (place (opened k t) b q).bytes;
          holding = T.holding (still t (q ∷ []) (place (opened k t) b q).slot (place (opened k t) b q).bytes r.1);
          progress = r.1;
        },
      )

  pub at_once : (σ : State) (c : Call) (q : Part) → Fine σ → ReadyFor σ c → σ.table.last ≤ after σ.table.last c
      → comes k c ≡ q ∷ [] → In q C.parts → Covers k.size (q ∷ []) → (step σ c).reply ≡ out d
  at_once σ c q G R h e m cv =
      let B = comes-brought k c q e in
      let t = B.time in
      let R' : Ready k σ t = rw B.call at R in
      let O = own-opens k σ t q G.good (comes-so σ c q B G h) R' in
      let P = start k d C t O.1 O.2 in
      rw B.call (O.3.reply ∙ place-hands-out k d C t [] (opened k t) O.1 P q m (opened-clear k t q) cv)

  unfoldable pub laws : Laws (engine k) C.parts d k.size 60000
  laws = record {
    Good = Fine;
    Ready = ReadyFor;
    Filling = Filling;
    Allowed = λ c. Unit {0};
    one = comes-one k;
    good = λ σ c F a. fine-next σ c F;
    ticks = ticks;
    elsewhere = λ σ c t ps G F h y e a. elsewhere σ c t ps G F h y e;
    more = more;
    done = done;
    first = first;
    at_once = at_once;
  }
