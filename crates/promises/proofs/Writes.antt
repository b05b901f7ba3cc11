-- What a call writes of the lent memory: nothing, or one part at its place in one slot's 2,048 bytes. Of every call, on every table and memory.
use Prim.Native.Nat.{ℕ, suc, ◌+◌, ◌*◌, ◌-◌, ◌≤◌, ◌<◌, min}
use native.Mathlib.Omega.{arith}
use mathlib.Core.Path.{◌≡◌, refl, sym, ap, ◌∙◌}
use mathlib.Core.Logic.{◌⊎◌, inl, inr}
use mathlib.Core.Bool.{Bool, true, false}
use mathlib.Core.List.{List, [], ◌∷◌}
use lib.ListN.{length, get_or, set, drop, length-set, length-take, length-drop}
use lib.Seq.{ext_get_or, get_or-set_same, get_or-set_other, get_or-take, get_or-drop}
use lib.Dec.{ltb}
use borrow.Author.Tests.{lt-ltb, le-ltb}
use Rattle.octets.specs.Read.{choose}
use Rattle.octets.specs.Write.{put}
use Rattle.expand.proofs.CopyLaws.{length-put}
use Rattle.reassembly.specs.Slots.{owner, free_slot, opened, gates_of, is_gate, may_open}
use Rattle.reassembly.specs.Parts.{Part, Reply, kept, refused, fits, repeats, taken, written, full, Put, place, offer}
use Rattle.reassembly.specs.Table as Table
use Rattle.reassembly.specs.Table.{Call, short, other, part, State, Result, chunk, splice, untouched, slots_at, pass, land, where_key, where_free, offer_at, open_at, take_part, step}
use Rattle.reassembly.specs.declared.slot.Slot.{Slot}
use Rattle.reassembly.specs.declared.slot.Source.{Source}
use Rattle.reassembly.proofs.Tests.{no_both, by-test, by_order}
use Rattle.reassembly.proofs.Parts.{offer-repeat}
use Rattle.reassembly.proofs.Fits.{fit}
use Rattle.reassembly.proofs.AtSlot.{put_back}
use Rattle.reassembly.proofs.Origin.{OfferCase, repeated, clashed, placed, offer-case}

-- ---- bytes put into a room, byte by byte

pub get_or-out : (bs l : List ℕ) (at x : ℕ) → (x < at) ⊎ (at + length bs ≤ x) → get_or (put at bs l) x 0 ≡ get_or l x 0
unfolding put
get_or-out [] l at x h = refl
get_or-out (b ∷ bs) l at x (inl h) = get_or-out bs (set l at b) (at + 1) x (inl (omega arith)) ∙ get_or-set_other l at x b 0 (omega arith)
get_or-out (b ∷ bs) l at x (inr h) = get_or-out bs (set l at b) (at + 1) x (inr (omega arith)) ∙ get_or-set_other l at x b 0 (omega arith)

get_or-in : (bs l : List ℕ) (at x : ℕ) → at ≤ x → x < at + length bs → x < length l → get_or (put at bs l) x 0 ≡ get_or bs (x - at) 0
unfolding put
get_or-in [] l at x h k m = absurd (omega arith)
get_or-in (b ∷ bs) l at x h k m = by_order x at
    (λ e.
    let xi : x ≡ at = omega arith in
    let z : x - at ≡ 0 = omega arith in
    get_or-out bs (set l at b) (at + 1) x (inl (omega arith)) ∙ rw (z, xi) (get_or-set_same l at b 0 (omega arith)))
    (λ e.
    let z : x - at ≡ suc (x - (at + 1)) = omega arith in
    get_or-in bs (set l at b) (at + 1) x (omega arith) (omega arith) (omega (arith, length-set l at b)) ∙ rw z refl)

-- ---- a part at its place in a slot is that part at its place in the memory

module _ (m : List ℕ) (i u : ℕ) (bs : List ℕ) (small : u + length bs ≤ 2048) where
  abbrev from : ℕ
  from = i * 2048

  abbrev now : List ℕ
  now = put u bs (chunk i m)

  now-length : length now ≡ min 2048 (length m - i * 2048)
  unfolding chunk
  now-length = length-put u bs (chunk i m) ∙ length-take 2048 (drop (i * 2048) m) ∙ ap (min 2048) (length-drop (i * 2048) m)

  get_or-slot : (x : ℕ) → i * 2048 ≤ x → x < i * 2048 + 2048 → get_or (chunk i m) (x - i * 2048) 0 ≡ get_or m x 0
  unfolding chunk
  get_or-slot x h k =
      let z : i * 2048 + (x - i * 2048) ≡ x = omega arith in
      get_or-take 2048 (drop (i * 2048) m) (x - i * 2048) 0 (omega arith) ∙ get_or-drop (i * 2048) m (x - i * 2048) 0 ∙ ap (λ n. get_or m n 0) z

  -- outside the part the memory is as it was
  outside : (x : ℕ) → x < length m → (x < from + u) ⊎ (from + u + length bs ≤ x) → get_or (put from now m) x 0 ≡ get_or m x 0
  outside x low h = by_order from x
      (λ a. by_order (from + length now) x
      (λ b. get_or-out now m from x (inr b))
      (λ b.
      let inner : x < from + 2048 = omega (arith, now-length, b) in
      get_or-in now m from x a b low ∙ get_or-out bs (chunk i m) u (x - from) (side h a) ∙ get_or-slot x a inner))
      (λ a. get_or-out now m from x (inl a))
    where
      side : (x < from + u) ⊎ (from + u + length bs ≤ x) → from ≤ x → (x - from < u) ⊎ (u + length bs ≤ x - from)
      side (inl q) a = inl (omega (arith, q, a))
      side (inr q) a = inr (omega (arith, q, a))

  -- inside it stands the part
  inside : (x : ℕ) → x < length m → from + u ≤ x → x < from + u + length bs → get_or (put from now m) x 0 ≡ get_or bs (x - (from + u)) 0
  inside x low h k =
      let a : from ≤ x = omega (arith, h) in
      let b : x < from + length now = omega (arith, now-length, small, low, k) in
      let c : x - from < length (chunk i m) = omega (arith, length-put u bs (chunk i m), b, a) in
      let z : x - from - u ≡ x - (from + u) = omega arith in
      get_or-in now m from x a b low ∙ get_or-in bs (chunk i m) u (x - from) (omega (arith, h)) (omega (arith, h, k)) c ∙ ap (λ n. get_or bs n 0) z

  pub splice-put : splice m i (put u bs (chunk i m)) ≡ put (i * 2048 + u) bs m
  unfolding splice
  splice-put =
      let l : length (put from now m) ≡ length m = length-put from now m in
      ext_get_or 0 (put from now m) (put (from + u) bs m) (l ∙ sym (length-put (from + u) bs m)) (λ x hx.
      let low : x < length m = omega (arith, l, hx) in
      by_order (from + u) x
      (λ a. by_order (from + u + length bs) x
      (λ b. outside x low (inr b) ∙ sym (get_or-out bs m (from + u) x (inr b)))
      (λ b. inside x low a b ∙ sym (get_or-in bs m (from + u) x a b low)))
      (λ a. outside x low (inl a) ∙ sym (get_or-out bs m (from + u) x (inl a))))

splice-back : (m : List ℕ) (i : ℕ) → splice m i (chunk i m) ≡ m
unfolding splice chunk
splice-back m i = put_back 2048 (i * 2048) m

-- ---- what a call writes

-- the call c, the memory m before and m' after: nothing is taken and the memory is as it was; or the part, of a gateway of gs, is taken, and stands
-- at its place in slot i
pub data Writes (gs : List Source) (c : Call) (m m' : List ℕ) (took : Bool) : Type 0 where
  nothing : took ≡ false → m' ≡ m → Writes gs c m m' took
  own : (t : ℕ) (p : Part) (i : ℕ) → c ≡ part t p → took ≡ true → is_gate (owner p.key) gs ≡ true → fits p ≡ true → m' ≡ put (i * 2048 + p.unit * 8) p.bytes m
      → Writes gs c m m' took

abbrev pub Wrote : State → Call → Result → Type 0
Wrote σ c r = Writes (gates_of σ.table) c σ.mem r.state.mem r.took

place-bytes : (s : Slot) (b : List ℕ) (p : Part) → ((place s b p).bytes ≡ written b p) × ((place s b p).took ≡ true)
unfolding place
place-bytes s b p = by-test (full (taken s p)) (λ x. rw x (refl, refl)) (λ x. rw x (refl, refl))

module _ (σ : State) (t : ℕ) (p : Part) (gate : is_gate (owner p.key) (gates_of σ.table) ≡ true) (ok : fits p ≡ true) where
  -- what is put in slot i, o the slots that it opened
  land-placed : (i o : ℕ) (s : Slot) (r : Put) → r ≡ place s (chunk i σ.mem) p → Wrote σ (part t p) (land σ t i o r)
  unfolding land
  land-placed i o s r q =
      let w = place-bytes s (chunk i σ.mem) p in
      let F = fit p ok in
      own t p i refl (ap (λ (z : Put). z.took) q ∙ w.1) gate ok
      (ap (λ (z : Put). splice σ.mem i z.bytes) q ∙ ap (splice σ.mem i) w.0
      ∙ splice-put σ.mem i (p.unit * 8) p.bytes (omega (arith, F.ends, F.small)))

  land-back : (i o : ℕ) (r : Put) → r.took ≡ false → r.bytes ≡ chunk i σ.mem → Wrote σ (part t p) (land σ t i o r)
  unfolding land
  land-back i o r k q = nothing k (ap (splice σ.mem i) q ∙ splice-back σ.mem i)

  offer-writes : (i : ℕ) → Wrote σ (part t p) (offer_at σ t p i)
  unfolding offer_at
  offer-writes i = go (offer-case (get_or (slots_at t σ) i free_slot) (chunk i σ.mem) p)
    where
      go : OfferCase (get_or (slots_at t σ) i free_slot) (chunk i σ.mem) p
          → Wrote σ (part t p) (land σ t i 0 (offer (get_or (slots_at t σ) i free_slot) (chunk i σ.mem) p))
      go (repeated q) = land-back i 0 _ (ap (λ (z : Put). z.took) q) (ap (λ (z : Put). z.bytes) q)
      go (clashed q) = land-back i 0 _ (ap (λ (z : Put). z.took) q) (ap (λ (z : Put). z.bytes) q)
      go (placed c q) = land-placed i 0 (get_or (slots_at t σ) i free_slot) _ q

  open-writes : (i : ℕ) → Wrote σ (part t p) (open_at σ t p i)
  unfolding open_at
  open-writes i = land-placed i 1 (opened p.key t) _ refl

pass-writes : (σ : State) (t : ℕ) (a : Reply (List ℕ)) (c : Call) → Wrote σ c (pass σ t a)
unfolding pass
pass-writes σ t a c = nothing refl refl

untouched-writes : (σ : State) (n : ℕ) (c : Call) → Wrote σ c (untouched σ n)
unfolding untouched
untouched-writes σ n c = nothing refl refl

either : {A : Type 0} (P : A → Type 0) (b : Bool) (x y : A) → (b ≡ true → P x) → P y → P (choose b x y)
either P true x y p q = p refl
either P false x y p q = q

part-writes : (σ : State) (t : ℕ) (p : Part) → Wrote σ (part t p) (take_part σ t p)
unfolding take_part
part-writes σ t p =
    let W : Result → Type 0 = Wrote σ (part t p) in
    either W (is_gate (owner p.key) (gates_of σ.table)) _ _
    (λ g. either W (fits p) _ _
    (λ ok. either W (ltb (where_key p.key t σ) 8) _ _
    (λ h. offer-writes σ t p g ok (where_key p.key t σ))
    (either W (may_open (owner p.key) (gates_of σ.table) (slots_at t σ)) _ _
    (λ h. open-writes σ t p g ok (where_free t σ))
    (pass-writes σ t (refused 12) (part t p))))
    (pass-writes σ t (refused 10) (part t p)))
    (pass-writes σ t (refused 9) (part t p))

pub step-writes : (σ : State) (c : Call) → Wrote σ c (step σ c)
unfolding step
step-writes σ short = untouched-writes σ 7 short
step-writes σ (other t a) = either (Wrote σ _) (ltb t σ.table.last) _ _ (λ h. untouched-writes σ 8 _) (pass-writes σ t a _)
step-writes σ (Table.from t g a) = either (Wrote σ _) (ltb t σ.table.last) _ _ (λ h. untouched-writes σ 8 _) (pass-writes σ t _ _)
step-writes σ (part t p) = either (Wrote σ _) (ltb t σ.table.last) _ _ (λ h. untouched-writes σ 8 _) (part-writes σ t p)

-- what is not taken, a repeat among it, writes nothing
pub untaken-unwritten : (gs : List Source) (c : Call) (m m' : List ℕ) (took : Bool) → Writes gs c m m' took → took ≡ false → m' ≡ m
untaken-unwritten gs c m m' took (nothing k w) e = w
untaken-unwritten gs c m m' took (own t p i q k g ok w) e = no_both took k e

-- byte x of the memory is one of p's, in slot i
pub record Inside (p : Part) (i x : ℕ) : Type 0 where
  pub begins : i * 2048 + p.unit * 8 ≤ x
  pub ends : x < i * 2048 + p.unit * 8 + length p.bytes

-- a part goes to one slot, and changes no byte outside its own range there
pub writes-inside : (gs : List Source) (t : ℕ) (p : Part) (m m' : List ℕ) (took : Bool) → Writes gs (part t p) m m' took
    → (i : ℕ) × ((x : ℕ) → (Inside p i x → ⊥) → get_or m' x 0 ≡ get_or m x 0)
writes-inside gs t p m m' took (nothing k w) = (0, λ x h. ap (λ (l : List ℕ). get_or l x 0) w)
writes-inside gs t p m m' took (own u q i z k g ok w) =
    let r : q ≡ p = cc in
    (i, λ x h. ap (λ (l : List ℕ). get_or l x 0) w ∙ outside_of q i x (rw r h))
  where
    outside_of : (q : Part) (i x : ℕ) → (Inside q i x → ⊥) → get_or (put (i * 2048 + q.unit * 8) q.bytes m) x 0 ≡ get_or m x 0
    outside_of q i x h = by_order (i * 2048 + q.unit * 8) x
        (λ a. by_order (i * 2048 + q.unit * 8 + length q.bytes) x
        (λ b. get_or-out q.bytes m (i * 2048 + q.unit * 8) x (inr b))
        (λ b. absurd (h (record { begins = a; ends = b }))))
        (λ a. get_or-out q.bytes m (i * 2048 + q.unit * 8) x (inl a))

-- what brings no part of a gateway writes nothing
pub writes_nothing : (gs : List Source) (c : Call) (m m' : List ℕ) (took : Bool) → Writes gs c m m' took → ((t : ℕ) (p : Part) → c ≡ part t p → is_gate (owner p.key) gs ≡ true → ⊥) → m' ≡ m
writes_nothing gs c m m' took (nothing k w) f = w
writes_nothing gs c m m' took (own t p i q k g ok w) f = absurd (f t p q g)

-- ---- a repeat: "same first byte, length and bytes as a part taken: kept, nothing written"

-- p comes at t to σ, passes 8, 9 and 10, and repeats what the slot of its key holds
pub record Repeated (σ : State) (t : ℕ) (p : Part) : Type 0 where
  pub clock : σ.table.last ≤ t
  pub gate : is_gate (owner p.key) (gates_of σ.table) ≡ true
  pub fit : fits p ≡ true
  pub here : where_key p.key t σ < 8
  pub same : repeats (get_or (slots_at t σ) (where_key p.key t σ) free_slot) (chunk (where_key p.key t σ) σ.mem) p ≡ true

offered-at : (σ : State) (t : ℕ) (p : Part) → Repeated σ t p → step σ (part t p) ≡ offer_at σ t p (where_key p.key t σ)
unfolding step take_part
offered-at σ t p R = rw (le-ltb t σ.table.last R.clock, R.gate, R.fit, lt-ltb (where_key p.key t σ) 8 R.here)

offer-reply : (σ : State) (t : ℕ) (p : Part) (i : ℕ) → (offer_at σ t p i).reply ≡ (offer (get_or (slots_at t σ) i free_slot) (chunk i σ.mem) p).reply
unfolding offer_at land
offer-reply σ t p i = refl

offer-took : (σ : State) (t : ℕ) (p : Part) (i : ℕ) → (offer_at σ t p i).took ≡ (offer (get_or (slots_at t σ) i free_slot) (chunk i σ.mem) p).took
unfolding offer_at land
offer-took σ t p i = refl

pub repeat-unwritten : (σ : State) (t : ℕ) (p : Part) → Repeated σ t p
    → ((step σ (part t p)).reply ≡ kept) × ((step σ (part t p)).state.mem ≡ σ.mem)
repeat-unwritten σ t p R =
    let i = where_key p.key t σ in
    let o = offer-repeat (get_or (slots_at t σ) i free_slot) (chunk i σ.mem) p R.same in
    let at : step σ (part t p) ≡ offer_at σ t p i = offered-at σ t p R in (
      ap (λ (r : Result). r.reply) at ∙ offer-reply σ t p i ∙ ap (λ (z : Put). z.reply) o,
      untaken-unwritten _ (part t p) σ.mem (step σ (part t p)).state.mem (step σ (part t p)).took (step-writes σ (part t p))
          (ap (λ (r : Result). r.took) at ∙ offer-took σ t p i ∙ ap (λ (z : Put). z.took) o),
    )
