-- Any two answers that meet a contract are equal: each answer's meaning, `of..`, takes no two answers to one.
use Prim.Native.Nat.{ℕ, ◌-◌}
use mathlib.Core.List.{List, [], ◌∷◌}
use lib.ListN.{get_or}
use mathlib.Core.Path.{◌≡◌, refl, sym, ap, ◌∙◌}
use Rattle.octets.specs.Read.{Answer, is, refused, Placed}
use Rattle.octets.specs.Refusal.{number_of}
use Rattle.octets.specs.Answers.{of_answer, of_read, of_skip}
use Rattle.octets.specs.Write.{wrote, Emits}
use Rattle.std.specs.Prelude.{Result, Ok, Err}
use Rattle.octets.specs.declared.cursor.Cursor.{Cursor}
use Rattle.octets.specs.declared.refusal.Refusal.{Refusal}
use Rattle.octets.specs.declared.refusal.Refusal.TheVariants.{Ended, NotThisHeader, Unsupported, BadLength, NoContext, NoAddress, NoRoom, EarlierTime, NotGateway, BadPart, Clash, NoSlot, NotExpanded, BadGateways, BadBlock, NotCut, BadChecksum, NotHeld}

abbrev pub Injective : {X A : Type 0} → (X → A) → Type 0
Injective {X} f = (y z : X) → f y ≡ f z → y ≡ z

-- two answers of one meaning m are one
pub unique : {X A : Type 0} (f : X → A) → Injective f → (m : A) (y z : X) → f y ≡ m → f z ≡ m → y ≡ z
unique f inj m y z p q = inj y z (p ∙ sym q)

-- the refusals, in the order of their numbers from 1
abbrev refusals : List Refusal
refusals = Ended ∷ NotThisHeader ∷ Unsupported ∷ BadLength ∷ NoContext ∷ NoAddress ∷ NoRoom ∷ EarlierTime ∷ NotGateway ∷ BadPart ∷ Clash ∷ NoSlot ∷ NotExpanded ∷ BadGateways ∷ BadBlock ∷ NotCut ∷ BadChecksum ∷ NotHeld ∷ []

abbrev pub refusal_of : ℕ → Refusal
refusal_of n = get_or refusals (n - 1) Ended

pub refusal-back : (e : Refusal) → refusal_of (number_of e) ≡ e
refusal-back Ended = refl
refusal-back NotThisHeader = refl
refusal-back Unsupported = refl
refusal-back BadLength = refl
refusal-back NoContext = refl
refusal-back NoAddress = refl
refusal-back NoRoom = refl
refusal-back EarlierTime = refl
refusal-back NotGateway = refl
refusal-back BadPart = refl
refusal-back Clash = refl
refusal-back NoSlot = refl
refusal-back NotExpanded = refl
refusal-back BadGateways = refl
refusal-back BadBlock = refl
refusal-back NotCut = refl
refusal-back BadChecksum = refl
refusal-back NotHeld = refl

pub number-one : Injective number_of
number-one e f h = sym (refusal-back e) ∙ ap refusal_of h ∙ refusal-back f

-- the way back from a meaning: by the case that holds a value, and by the case that holds a refusal
abbrev pub back : {X A : Type 0} → (A → X) → (Refusal → X) → Answer A → X
back some none (is a) = some a
back some none (refused n) = none (refusal_of n)

pub one : {X A : Type 0} (f : X → Answer A) (some : A → X) (none : Refusal → X) → ((y : X) → back some none (f y) ≡ y) → Injective f
one f some none inv y z h = sym (inv y) ∙ ap (back some none) h ∙ inv z

-- ---- the answers
pub answer-one : {A : Type 0} → Injective (of_answer {A = A})
answer-one {A} = one of_answer Ok Err inv
  where
    inv : (y : Result A Refusal) → back Ok Err (of_answer y) ≡ y
    inv (Ok a) = refl
    inv (Err e) = ap Err (refusal-back e)

pub read-one : {A : Type 0} → Injective (of_read {A = A})
read-one {A} = one of_read (λ (p : Placed A). Ok (p.value, record { at = p.next })) Err inv
  where
    inv : (y : Result (A × Cursor) Refusal) → back (λ (p : Placed A). Ok (p.value, record { at = p.next })) Err (of_read y) ≡ y
    inv (Ok p) = refl
    inv (Err e) = ap Err (refusal-back e)

pub skip-one : Injective of_skip
skip-one = one of_skip (λ (p : Placed (Unit {0})). Ok (record { at = p.next })) Err inv
  where
    inv : (y : Result Cursor Refusal) → back (λ (p : Placed (Unit {0})). Ok (record { at = p.next })) Err (of_skip y) ≡ y
    inv (Ok c) = refl
    inv (Err e) = ap Err (refusal-back e)

-- as for the contract of an `emit`: the answer, and the room afterwards
pub emit-one : (n : ℕ) (bs room : List ℕ) (y z : Result ℕ Refusal) (l m : List ℕ) → Emits y n bs room l → Emits z n bs room m → (y ≡ z) × (l ≡ m)
emit-one n bs room y z l m p q = (unique of_answer answer-one (wrote n room) y z p.0 q.0, p.1 ∙ sym q.1)
