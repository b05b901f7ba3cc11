-- Where the bytes of a datagram that is handed out come from: the parts taken under its key since its slot was opened.
use Prim.Native.Nat.{ℕ, ◌<◌}
use native.Mathlib.Decide.{ℕ_discrete}
use native.Mathlib.Omega.{arith}
use mathlib.Core.Path.{◌≡◌, refl, sym, ap, ◌∙◌}
use mathlib.Core.Logic.{◌≢◌}
use mathlib.Core.Bool.{true, false}
use mathlib.Core.List.{List, [], ◌∷◌, ◌++◌}
use lib.ListN.{length, get_or, set, take, replicate, length-replicate}
use lib.Seq.{get_or-set_same, get_or-set_other, get_or-take, length-take-le}
use Rattle.reassembly.specs.Lists.{count}
use Rattle.reassembly.specs.Slots.{same_key, free_slot, opened, is_key, expired, expire1, expire}
use Rattle.reassembly.specs.Parts.{Part, Reply, kept, out, refused, fits, repeats, touches, taken_in, taken, written, full, handed, Put, place, offer}
use Rattle.reassembly.specs.Table.{Call, short, other, from, part, State, Result, chunk, splice, with_slots, untouched, slots_at, pass, land, offer_at, open_at, step, next, run, note, taken_since}
use Rattle.reassembly.specs.Fresh.{fresh, begun}
use Rattle.reassembly.specs.declared.slot.Source.{Source}
use Rattle.reassembly.specs.declared.slot.Key.{Key}
use Rattle.reassembly.specs.declared.slot.Slot.{Slot}
use Rattle.reassembly.proofs.Tests.{no_both, by-test, not-true-false}
use Rattle.reassembly.proofs.Lists.{count_at, count-replicate, first_at-only}
use Rattle.reassembly.proofs.Slots.{same_key-eq, same_key-refl}
use Rattle.reassembly.proofs.Gateways.{is_key-key, is_key-of, free_slot-key, get_or-expire, expire1-young, After, freed, stays}
use Rattle.reassembly.proofs.Parts.{handed_out, place-length, offer-length, offer-repeat, offer-clash, offer-clear}
use Rattle.reassembly.proofs.Memory.{chunk-same, chunk-other}
use Rattle.reassembly.proofs.Runs.{offer-after, place_after, Good, good-at, Offered, Opens, Did, lacking, stale, passed, offered, opens, Says, step-did, did-good, Holding, chunk-len, len-at}
use Rattle.reassembly.specs.Cover.{MadeOf}
use Rattle.reassembly.proofs.Fits.{fit}
use Rattle.reassembly.proofs.OneSlot.{Holds, holds-nothing, opened-clear, taking, full→covers}

-- wherever k is open, its slot and memory hold the parts h
abbrev pub Told : Key → State → List Part → Type 0
Told k σ h = (i : ℕ) (s : Slot) (b : List ℕ) → Holding k σ i s b → Holds k h s b

note-no : (k : Key) (c : Call) (r : Result) (h : List Part) → r.took ≡ false → note k c r h ≡ h
unfolding note
note-no k short r h e = refl
note-no k (other t a) r h e = refl
note-no k (from t g a) r h e = refl
note-no k (part t p) r h e = rw e

note-other : (k : Key) (t : ℕ) (p : Part) (r : Result) (h : List Part) → same_key p.key k ≡ false → note k (part t p) r h ≡ h
unfolding note
note-other k t p r h e = by-test r.took (λ x. rw (x, e)) (λ x. rw x)

note-more : (k : Key) (t : ℕ) (p : Part) (r : Result) (h : List Part) → p.key ≡ k → r.took ≡ true → r.opens ≡ 0 → note k (part t p) r h ≡ p ∷ h
unfolding note
note-more k t p r h e x z = let g : same_key p.key k ≡ true = rw e (same_key-refl k) in rw (x, g, z)

note-new : (k : Key) (t : ℕ) (p : Part) (r : Result) (h : List Part) → p.key ≡ k → r.took ≡ true → r.opens ≡ 1 → note k (part t p) r h ≡ p ∷ []
unfolding note
note-new k t p r h e x z = let g : same_key p.key k ≡ true = rw e (same_key-refl k) in rw (x, g, z)

-- a slot that holds k as the call finds it held k before
was-held : (k : Key) (σ : State) (t i : ℕ) → Good σ → i < 8 → is_key k (get_or (slots_at t σ) i free_slot) ≡ true
    → Holding k σ i (get_or (slots_at t σ) i free_slot) (chunk i σ.mem)
unfolding slots_at
was-held k σ t i G low e =
    let x = get_or σ.table.slots i free_slot in
    let q : get_or (expire t σ.table.slots) i free_slot ≡ expire1 t x = get_or-expire t σ.table.slots i (omega (arith, G.sound.eight)) in
    let same : x ≡ get_or (expire t σ.table.slots) i free_slot = by-test (expired t x)
    (λ y.
    let z : expire1 t x ≡ free_slot = unfold expire1 in (rw y) in
    let w : is_key k free_slot ≡ true = rw (q, z) at e in
    no_both (is_key k free_slot) w (free_slot-key k))
    (λ y. sym (q ∙ expire1-young t x y)) in
    record { low = low; slot = same; mem = refl; key = e }

-- two slots that hold k are one
one_place : (k : Key) (σ : State) (t i j : ℕ) → Good σ → i < 8 → j < 8 → is_key k (get_or (slots_at t σ) i free_slot) ≡ true
    → is_key k (get_or (slots_at t σ) j free_slot) ≡ true → i ≡ j
one_place k σ t i j G li lj ei ej =
    let S = good-at σ t G in
    sym (first_at-only (is_key k) (slots_at t σ) i free_slot (omega (arith, S.eight)) ei (S.unique k))
    ∙ first_at-only (is_key k) (slots_at t σ) j free_slot (omega (arith, S.eight)) ej (S.unique k)

-- ---- what a part makes of the parts held

place-told : (k : Key) (h : List Part) (s : Slot) (b : List ℕ) (p : Part) → Holds k h s b → p.key ≡ k → fits p ≡ true → touches s p ≡ false
    → is_key k (place s b p).slot ≡ true → Holds k (p ∷ h) (place s b p).slot (place s b p).bytes
unfolding place
place-told k h s b p H e f c y = by-test (full (taken s p))
    (λ x. let z : is_key k free_slot ≡ true = rw x at y in no_both (is_key k free_slot) z (free_slot-key k))
    (λ x. rw x (taking k h s b H p e f c))

place-took : (s : Slot) (b : List ℕ) (p : Part) → (place s b p).took ≡ true
unfolding place
place-took s b p = by-test (full (taken s p)) (λ x. rw x) (λ x. rw x)

pub data OfferCase (s : Slot) (b : List ℕ) (p : Part) : Type 0 where
  repeated : offer s b p ≡ record { reply = kept; slot = s; bytes = b; ended = 0; took = false } → OfferCase s b p
  clashed : offer s b p ≡ record { reply = refused 11; slot = free_slot; bytes = b; ended = 1; took = false } → OfferCase s b p
  placed : touches s p ≡ false → offer s b p ≡ place s b p → OfferCase s b p

pub offer-case : (s : Slot) (b : List ℕ) (p : Part) → OfferCase s b p
offer-case s b p = by-test (repeats s b p)
    (λ e. repeated (offer-repeat s b p e))
    (λ e. by-test (touches s p) (λ c. clashed (offer-clash s b p e c)) (λ c. placed c (offer-clear s b p e c)))

offer-told : (k : Key) (h : List Part) (s : Slot) (b : List ℕ) (t : ℕ) (p : Part) (r : Result) → Holds k h s b → p.key ≡ k → fits p ≡ true
    → r.took ≡ (offer s b p).took → r.opens ≡ 0 → is_key k (offer s b p).slot ≡ true
    → Holds k (note k (part t p) r h) (offer s b p).slot (offer s b p).bytes
offer-told k h s b t p r H e f tk op y = go (offer-case s b p)
  where
    go : OfferCase s b p → Holds k (note k (part t p) r h) (offer s b p).slot (offer s b p).bytes
    go (repeated q) =
        let n = note-no k (part t p) r h (tk ∙ ap (λ (z : Put). z.took) q) in
        rw (n, q) H
    go (clashed q) =
        let z : is_key k free_slot ≡ true = rw q at y in
        no_both (is_key k free_slot) z (free_slot-key k)
    go (placed c q) =
        let n = note-more k t p r h e (tk ∙ ap (λ (z : Put). z.took) q ∙ place-took s b p) op in
        let y' : is_key k (place s b p).slot ≡ true = rw q at y in
        rw (n, q) (place-told k h s b p H e f c y')

-- what land leaves in the slot that it does not touch, and in the one that it does
land-slot : (k : Key) (σ : State) (t j o : ℕ) (r : Put) (i : ℕ) (s : Slot) (b : List ℕ) → Good σ → j < 8 → length r.bytes ≡ 2048 → i ≢ j
    → Holding k (land σ t j o r).state i s b → Holding k σ i s b
unfolding land with_slots
land-slot k σ t j o r i s b G lj lb d H =
    let e : get_or (slots_at t σ) i free_slot ≡ s = sym (get_or-set_other (slots_at t σ) j i r.slot free_slot d) ∙ H.slot in
    let m : chunk i σ.mem ≡ b = sym (chunk-other σ.mem j i r.bytes (omega (arith, lj, G.room)) (omega (arith, H.low, G.room)) lb (λ z. d (sym z))) ∙ H.mem in
    let W = was-held k σ t i G H.low (rw e H.key) in
    rw (e, m) at W

land-here : (k : Key) (σ : State) (t j o : ℕ) (r : Put) (i : ℕ) (s : Slot) (b : List ℕ) → Good σ → j < 8 → length r.bytes ≡ 2048 → i ≡ j
    → Holding k (land σ t j o r).state i s b → (r.slot ≡ s) × (r.bytes ≡ b)
unfolding land with_slots
land-here k σ t j o r i s b G lj lb d H =
    let e : get_or (set (slots_at t σ) j r.slot) j free_slot ≡ s = rw d at H.slot in
    let m : chunk j (splice σ.mem j r.bytes) ≡ b = rw d at H.mem in (
      sym (get_or-set_same (slots_at t σ) j r.slot free_slot (omega (arith, len-at σ t G))) ∙ e,
      sym (chunk-same σ.mem j r.bytes (omega (arith, G.room)) lb) ∙ m,
    )

-- a slot that is still k's was k's
after-key : (j k : Key) (x s : Slot) → After x s → is_key j s ≡ true → is_key k x ≡ true → j ≡ k
after-key j k x s (freed q) e y = let z : is_key k free_slot ≡ true = rw q at y in no_both (is_key k free_slot) z (free_slot-key k)
after-key j k x s (stays p q) e y = sym (is_key-key j s e) ∙ sym q ∙ is_key-key k x y

opened-is : (k : Key) (t : ℕ) → is_key k (opened k t) ≡ true
unfolding opened
opened-is k t = is_key-of k (opened k t) refl refl

land-took : (σ : State) (t i o : ℕ) (r : Put) → ((land σ t i o r).took ≡ r.took) × ((land σ t i o r).opens ≡ o)
unfolding land
land-took σ t i o r = (refl, refl)

-- no key differs from itself
not_key : (k j : Key) → (j ≡ k → ⊥) → same_key j k ≡ false
not_key k j f = not-true-false (same_key j k) (λ e. f (same_key-eq j k e))

-- the slot that land leaves, as the call found it
land-found : (k : Key) (σ : State) (t j o : ℕ) (r : Put) (i : ℕ) (s : Slot) (b : List ℕ) → i ≢ j
    → Holding k (land σ t j o r).state i s b → is_key k (get_or (slots_at t σ) i free_slot) ≡ true
unfolding land with_slots
land-found k σ t j o r i s b d H =
    let e : get_or (slots_at t σ) i free_slot ≡ s = sym (get_or-set_other (slots_at t σ) j i r.slot free_slot d) ∙ H.slot in
    rw e H.key

-- (`rw` would rewrite the record that the field belongs to as well)
holds-cast : (k : Key) (h : List Part) (s s' : Slot) (b b' : List ℕ) → s ≡ s' → b ≡ b' → Holds k h s b → Holds k h s' b'
holds-cast k h s s' b b' p q H = rw (← p, ← q) H

told-offered : (k : Key) (σ : State) (h : List Part) → Good σ → (t : ℕ) (p : Part) (j : ℕ) → Offered σ t p j → Told k σ h
    → (i : ℕ) (s : Slot) (b : List ℕ)
    → Holding k (land σ t j 0 (offer (get_or (slots_at t σ) j free_slot) (chunk j σ.mem) p)).state i s b
    → Holds k (note k (part t p) (land σ t j 0 (offer (get_or (slots_at t σ) j free_slot) (chunk j σ.mem) p)) h) s b
told-offered k σ h G t p j O T i s b H =
    let s₀ = get_or (slots_at t σ) j free_slot in
    let b₀ = chunk j σ.mem in
    let lb : length (offer s₀ b₀ p).bytes ≡ 2048 = offer-length s₀ b₀ p ∙ chunk-len σ j G O.low in
    elim (ℕ_discrete i j) [
      | yes d ↦ (
          let L = land-here k σ t j 0 (offer s₀ b₀ p) i s b G O.low lb d H in
          let y : is_key k (offer s₀ b₀ p).slot ≡ true = rw L.0 H.key in
          let e = after-key p.key k (offer s₀ b₀ p).slot s₀ (offer-after s₀ b₀ p) O.here y in
          let here : is_key k s₀ ≡ true = rw e at O.here in
          let old = T j s₀ b₀ (was-held k σ t j G O.low here) in
          let K = land-took σ t j 0 (offer s₀ b₀ p) in
          let N = offer-told k h s₀ b₀ t p (land σ t j 0 (offer s₀ b₀ p)) old e O.fit K.0 K.1 y in
          holds-cast k _ _ s _ b L.0 L.1 N)
      | no d ↦ (
          let W = land-slot k σ t j 0 (offer s₀ b₀ p) i s b G O.low lb d H in
          let other_key = not_key k p.key (λ e.
          let here : is_key k s₀ ≡ true = rw e at O.here in
          d (one_place k σ t i j G H.low O.low (land-found k σ t j 0 (offer s₀ b₀ p) i s b d H) here)) in
          rw (note-other k t p (land σ t j 0 (offer s₀ b₀ p)) h other_key) (T i s b W))
    ]

told-opens : (k : Key) (σ : State) (h : List Part) → Good σ → (t : ℕ) (p : Part) (j : ℕ) → Opens σ t p j → Told k σ h
    → (i : ℕ) (s : Slot) (b : List ℕ)
    → Holding k (land σ t j 1 (place (opened p.key t) (chunk j σ.mem) p)).state i s b
    → Holds k (note k (part t p) (land σ t j 1 (place (opened p.key t) (chunk j σ.mem) p)) h) s b
told-opens k σ h G t p j O T i s b H =
    let s₀ = opened p.key t in
    let b₀ = chunk j σ.mem in
    let lb : length (place s₀ b₀ p).bytes ≡ 2048 = place-length s₀ b₀ p ∙ chunk-len σ j G O.low in
    elim (ℕ_discrete i j) [
      | yes d ↦ (
          let L = land-here k σ t j 1 (place s₀ b₀ p) i s b G O.low lb d H in
          let y : is_key k (place s₀ b₀ p).slot ≡ true = rw L.0 H.key in
          let e = after-key p.key k (place s₀ b₀ p).slot s₀ (place_after s₀ b₀ p) (opened-is p.key t) y in
          let K = land-took σ t j 1 (place s₀ b₀ p) in
          let n = note-new k t p (land σ t j 1 (place s₀ b₀ p)) h e (K.0 ∙ place-took s₀ b₀ p) K.1 in
          let none : Holds k [] s₀ b₀ = rw (← e) (holds-nothing p.key t b₀ (chunk-len σ j G O.low)) in
          let N = place-told k [] s₀ b₀ p none e O.fit (opened-clear p.key t p) y in
          rw n (holds-cast k (p ∷ []) _ s _ b L.0 L.1 N))
      | no d ↦ (
          let W = land-slot k σ t j 1 (place s₀ b₀ p) i s b G O.low lb d H in
          let found = land-found k σ t j 1 (place s₀ b₀ p) i s b d H in
          let other_key = not_key k p.key (λ e.
          let z : count (is_key k) (slots_at t σ) ≡ 0 = rw e at O.closed in
          omega (arith, count_at (is_key k) (slots_at t σ) i free_slot (omega (arith, H.low, len-at σ t G)) found)) in
          rw (note-other k t p (land σ t j 1 (place s₀ b₀ p)) h other_key) (T i s b W))
    ]

pub did-told : {c : Call} (k : Key) (σ : State) {r : Result} (h : List Part) → Good σ → Did σ c r → Told k σ h → Told k r.state (note k c r h)
unfolding untouched pass offer_at open_at with_slots
did-told {c} k σ {r} h G lacking T i s b H = rw (note-no k short (untouched σ 7) h (unfold untouched in refl)) (T i s b H)
did-told {c} k σ {r} h G (stale t l w) T i s b H = rw (note-no k c (untouched σ 8) h (unfold untouched in refl)) (T i s b H)
did-told {c} k σ {r} h G (passed t a l w v) T i s b H =
    let W = was-held k σ t i G H.low (rw H.slot H.key) in
    let W' : Holding k σ i s b = rw (H.slot, H.mem) at W in
    rw (note-no k c (pass σ t a) h (unfold pass in refl)) (T i s b W')
did-told k σ h G (offered t p j O) T i s b H = told-offered k σ h G t p j O T i s b H
did-told k σ h G (opens t p j O) T i s b H = told-opens k σ h G t p j O T i s b H

pub run-told : (cs : List Call) (k : Key) (σ : State) (h : List Part) → Good σ → Told k σ h → Told k (run σ cs) (taken_since k σ cs h)
unfolding run taken_since next
run-told [] k σ h G T = T
run-told (c ∷ cs) k σ h G T =
    run-told cs k (next σ c) (note k c (step σ c) h) (did-good σ G (step-did σ c G)) (did-told k σ h G (step-did σ c G) T)

pub taken-snoc : (k : Key) (cs : List Call) (c : Call) (σ : State) (h : List Part)
    → taken_since k σ (cs ++ (c ∷ [])) h ≡ note k c (step (run σ cs) c) (taken_since k σ cs h)
unfolding taken_since run
taken-snoc k [] c σ h = refl
taken-snoc k (x ∷ cs) c σ h = taken-snoc k cs c (next σ x) (note k x (step σ x) h)

-- ---- a datagram handed out

placed-made : (k : Key) (h : List Part) (s : Slot) (b : List ℕ) (p : Part) (d : List ℕ) → Holds k h s b → p.key ≡ k → fits p ≡ true
    → touches s p ≡ false → s.key ≡ k → (place s b p).reply ≡ out d → MadeOf k (p ∷ h) d
unfolding place
placed-made k h s b p d H e f c sk a = by-test (full (taken s p))
    (λ x.
    let H' = taking k h s b H p e f c in
    let tk : (taken s p).key ≡ k = unfold taken_in in sk in
    let kz : (taken s p).key.size ≡ k.size = ap (λ (z : Key). z.size) tk in
    let y : handed (taken s p).sum (take (taken s p).key.size (written b p)) ≡ out d = rw x at a in
    let y' = handed_out (taken s p).sum (take (taken s p).key.size (written b p)) d y in
    let F = fit p f in
    let ps : p.key.size ≡ k.size = ap (λ (z : Key). z.size) e in
    record {
      sum = (taken s p).sum;
      d₀ = take (taken s p).key.size (written b p);
      made = y'.1;
      right = y'.0;
      sized = length-take-le (taken s p).key.size (written b p) (omega (arith, H'.bytes-len, F.small)) ∙ kz;
      bounded = omega (arith, F.small);
      each = λ i hi.
          let w = full→covers k (p ∷ h) (taken s p) (written b p) H' tk x i hi in (
            w.0,
            w.1,
            H'.keyed w.0 w.1,
            w.2,
            get_or-take (taken s p).key.size (written b p) i 0 (omega arith) ∙ H'.bytes w.0 w.1 i w.2,
          );
      when = λ el. let w = H'.flag-from el in (w.0, w.1, w.2, sym (H'.flag w.0 w.1 w.2));
    })
    (λ x.
    let y : kept ≡ out d = rw x at a in
    let z : ◌≡◌ {A = ℕ} 0 1 = cc in
    absurd (omega arith))

-- a call that brings a part under k
abbrev pub Under : Key → Call → Type 0
Under k short = ⊥
Under k (other t a) = ⊥
Under k (from t g a) = ⊥
Under k (part t p) = p.key ≡ k

not-out : {X : Type 0} (n : ℕ) (a : Reply (List ℕ)) (d : List ℕ) → a ≡ refused n → a ≡ out d → X
not-out n a d p q = let z : ◌≡◌ {A = ℕ} 0 1 = cc in absurd (omega arith)

under-says : (k : Key) (σ : State) (c : Call) (a : Reply (List ℕ)) → Under k c → Says σ c a → (n : ℕ) × (a ≡ refused n)
under-says k σ short a u v = absurd u
under-says k σ (other t x) a u v = absurd u
under-says k σ (from t g x) a u v = absurd u
under-says k σ (part t p) a u v = v

made-offered : (k : Key) (σ : State) (h : List Part) (d : List ℕ) → Good σ → (t : ℕ) (p : Part) (j : ℕ) → Offered σ t p j → Told k σ h → p.key ≡ k
    → (offer (get_or (slots_at t σ) j free_slot) (chunk j σ.mem) p).reply ≡ out d
    → MadeOf k (note k (part t p) (land σ t j 0 (offer (get_or (slots_at t σ) j free_slot) (chunk j σ.mem) p)) h) d
made-offered k σ h d G t p j O T e a = go (offer-case (get_or (slots_at t σ) j free_slot) (chunk j σ.mem) p)
  where
    s₀ : Slot
    s₀ = get_or (slots_at t σ) j free_slot

    b₀ : List ℕ
    b₀ = chunk j σ.mem

    here : is_key k (get_or (slots_at t σ) j free_slot) ≡ true
    here = rw e at O.here

    go : OfferCase (get_or (slots_at t σ) j free_slot) (chunk j σ.mem) p
        → MadeOf k (note k (part t p) (land σ t j 0 (offer (get_or (slots_at t σ) j free_slot) (chunk j σ.mem) p)) h) d
    go (repeated q) =
        let y : kept ≡ out d = sym (ap (λ (z : Put). z.reply) q) ∙ a in
        let z : ◌≡◌ {A = ℕ} 0 1 = cc in
        absurd (omega arith)
    go (clashed q) = not-out 11 _ d (ap (λ (z : Put). z.reply) q) a
    go (placed c q) =
        let K = land-took σ t j 0 (offer s₀ b₀ p) in
        let n = note-more k t p (land σ t j 0 (offer s₀ b₀ p)) h e (K.0 ∙ ap (λ (z : Put). z.took) q ∙ place-took s₀ b₀ p) K.1 in
        rw n (placed-made k h s₀ b₀ p d (T j s₀ b₀ (was-held k σ t j G O.low here)) e O.fit c (is_key-key k s₀ here)
        (sym (ap (λ (z : Put). z.reply) q) ∙ a))

made-opens : (k : Key) (σ : State) (h : List Part) (d : List ℕ) → Good σ → (t : ℕ) (p : Part) (j : ℕ) → Opens σ t p j → p.key ≡ k
    → (place (opened p.key t) (chunk j σ.mem) p).reply ≡ out d
    → MadeOf k (note k (part t p) (land σ t j 1 (place (opened p.key t) (chunk j σ.mem) p)) h) d
made-opens k σ h d G t p j O e a =
    let s₀ = opened p.key t in
    let b₀ = chunk j σ.mem in
    let K = land-took σ t j 1 (place s₀ b₀ p) in
    let n = note-new k t p (land σ t j 1 (place s₀ b₀ p)) h e (K.0 ∙ place-took s₀ b₀ p) K.1 in
    let none : Holds k [] s₀ b₀ = rw (← e) (holds-nothing p.key t b₀ (chunk-len σ j G O.low)) in
    let sk : s₀.key ≡ k = is_key-key p.key s₀ (opened-is p.key t) ∙ e in
    rw n (placed-made k [] s₀ b₀ p d none e O.fit (opened-clear p.key t p) sk a)

pub did_made : {c : Call} (k : Key) (σ : State) {r : Result} (h : List Part) (d : List ℕ) → Good σ → Did σ c r → Told k σ h → Under k c
    → r.reply ≡ out d → MadeOf k (note k c r h) d
unfolding untouched pass offer_at open_at land
did_made k σ h d G lacking T u a = absurd u
did_made k σ h d G (stale t l w) T u a = not-out 8 (refused 8) d refl a
did_made {c} k σ h d G (passed t x l w v) T u a = let n = under-says k σ c x u v in not-out n.0 x d n.1 a
did_made k σ h d G (offered t p j O) T u a = made-offered k σ h d G t p j O T u a
did_made k σ h d G (opens t p j O) T u a = made-opens k σ h d G t p j O u a

-- nothing is open in a fresh table
pub fresh-told : (gs : List Source) (m : List ℕ) (k : Key) → Told k (begun gs m) []
unfolding fresh
fresh-told gs m k i s b H =
    let z = count-replicate (is_key k) free_slot 8 (free_slot-key k) in
    let e : is_key k (get_or (replicate 8 free_slot) i free_slot) ≡ true = rw H.slot H.key in
    absurd (omega (arith, count_at (is_key k) (replicate 8 free_slot) i free_slot (omega (arith, H.low, length-replicate {A = Slot} 8 free_slot)) e))
