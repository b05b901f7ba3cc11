-- The frames that we send, to the library: runs of `lift_receive`.
use Prim.Native.Nat.{ℕ, ◌+◌, ◌-◌, ◌≤◌, ◌<◌}
use native.Mathlib.Omega.{arith}
use mathlib.Core.List.{List, [], ◌∷◌, ◌++◌, map, reverse, reverse_aux}
use mathlib.Core.Bool.{true}
use mathlib.Core.Logic.{◌⊎◌, inl, inr}
use mathlib.Core.Path.{◌≡◌, refl, sym, ap, subst, ◌∙◌}
use lib.ListN.{length, drop, replicate, length-replicate}
use Rattle.octets.specs.Read.{is}
use Rattle.expand.proofs.SumLaws.{Bytes}
use Rattle.reassembly.specs.Cover.{In}
use Rattle.reassembly.specs.Fresh.{Gateways, fresh, begun}
use Rattle.reassembly.specs.Lists.{count}
use Rattle.reassembly.specs.Parts.{Reply, out, told}
use Rattle.reassembly.specs.Slots.{owner, free_slot, is_of, gates_of, is_gate, held}
use Rattle.reassembly.specs.Table.{State, step}
use Rattle.reassembly.specs.declared.slot.Source.{Source}
use Rattle.cutting.specs.Head.{mac_length, head_length, covers}
use Rattle.cutting.specs.Cut.{cut}
use Rattle.cutting.specs.declared.link.Link.{Link}
use Rattle.cutting.proofs.Cuttings.{cut-ready}
use Rattle.lift.specs.Face.{packed, Answers, received}
use Rattle.promises.specs.Frames.{Turn, Forward, call_in, left, end_of}
use Rattle.promises.specs.Library.{LiftTurn, as_turn, RanIn, ConcludedIn}
use Rattle.promises.specs.Sent.{sender, key_for, SumRight, SentSupposed, fed_turn, fed}
use Rattle.promises.proofs.Engine.{In-left, In-right}
use Rattle.promises.proofs.Frames.{out-front}
use Rattle.promises.proofs.Library.{lift-demand-3}
use Rattle.promises.proofs.SentParts.{parts_cut}
use Rattle.promises.proofs.SentRuns.{cuts, sent-supposed, whole-reply}
use Rattle.promises.proofs.SentApart.{frames-apart}

-- ---- a datagram in more than one frame
module _ (gs : List Source) (m : List ℕ) (l : Link) (d : List ℕ) (fs : List (List ℕ)) (b : Bytes d) (e : cut l d ≡ is fs) (more : l.limit < mac_length l + (head_length l d + (length d - covers d))) where
  -- "these frames in any order, each at least once, fed as demand 3 asks to a table that lists the source with its PAN, hand out the same datagram"
  pub lift-sent-handed-out : (past mid : List LiftTurn) (c : LiftTurn) → SentSupposed gs m l d fs (map as_turn past) (map as_turn mid) (as_turn c)
      → RanIn (begun gs m) (past ++ (mid ++ (c ∷ []))) → held (owner (key_for l d)) (end_of (begun gs m) (map as_turn past)).table.slots ≡ 0 → ConcludedIn (key_for l d) d mid c
  lift-sent-handed-out past mid c H R z =
      lift-demand-3 gs m (key_for l d) d (parts_cut l d (cuts l d fs b e).ready H.right) past mid c
      (sent-supposed gs m l d fs b e more (map as_turn past) (map as_turn mid) (as_turn c) H) R z

-- ---- a datagram in one frame, whatever the table σ holds
module _ (σ : State) (l : Link) (d : List ℕ) (fs : List (List ℕ)) (b : Bytes d) (e : cut l d ≡ is fs) (one : mac_length l + (head_length l d + (length d - covers d)) ≤ l.limit) (lists : is_gate (sender l) (gates_of σ.table) ≡ true) (enough : 16384 ≤ length σ.mem) (right : SumRight d) (h : LiftTurn) (sent : In h.frame fs) (time : σ.table.last ≤ h.time) (room : 2047 ≤ length h.before) where
  pub lift-whole-handed-out : Answers h.answer h.table h.memory h.before h.output (received σ.table h.time h.frame h.contexts σ.mem h.before)
      → (h.answer ≡ 65536 + length d) × (h.output ≡ d ++ drop (length d) h.before)
  unfolding received call_in
  lift-whole-handed-out A =
      let r : (step σ (call_in σ (as_turn h))).reply ≡ out d = whole-reply σ l d fs b e one lists enough right (as_turn h) sent time room in (
        A.answer ∙ ap (λ (x : Reply (List ℕ)). packed (told x)) r,
        out-front d h.before h.output _ A.output r (omega (arith, (cut-ready l d fs e).1)),
      )

-- ---- the runs that the definitions themselves give: frames one after the other, to a table and a memory σ, at the time 0
fed-ran : (xs : List (List ℕ)) (σ : State) → RanIn σ (fed σ xs)
unfolding RanIn fed received
fed-ran [] σ = tt
fed-ran (x ∷ xs) σ = (record { answer = refl; table = refl; memory = refl; output = refl }, fed-ran xs (left (as_turn (fed_turn σ x))))

fed_then : (xs : List (List ℕ)) (y : List ℕ) (σ : State) → fed σ (xs ++ (y ∷ [])) ≡ fed σ xs ++ (fed_turn (end_of σ (map as_turn (fed σ xs))) y ∷ [])
unfolding fed end_of
fed_then [] y σ = refl
fed_then (x ∷ xs) y σ = ap (λ z. fed_turn σ x ∷ z) (fed_then xs y (left (as_turn (fed_turn σ x))))

fresh-held : (g : Source) (gs : List Source) → held g (fresh gs).slots ≡ 0
unfolding fresh held count is_of free_slot
fresh-held g gs = refl

-- each call of it, as a turn: its frame is one of them, its time is 0, it has room
record Fed (xs : List (List ℕ)) (h : Turn) : Type 0 where
  pub frame : In h.frame xs
  pub time : h.time ≡ 0
  pub room : 2047 ≤ length h.before

fed-each : (xs : List (List ℕ)) (σ : State) (h : Turn) → In h (map as_turn (fed σ xs)) → Fed xs h
unfolding fed
fed-each [] σ h i = absurd i
fed-each (x ∷ xs) σ h (inl q) =
    let r : length {A = ℕ} (replicate 2047 0) ≡ 2047 = length-replicate {A = ℕ} 2047 0 in
    rw q (record { frame = inl refl; time = refl; room = omega arith })
fed-each (x ∷ xs) σ h (inr i) =
    let w = fed-each xs (left (as_turn (fed_turn σ x))) h i in
    record { frame = inr w.frame; time = w.time; room = w.room }

fed-has : (xs : List (List ℕ)) (σ : State) (x : List ℕ) → In x xs → (h : Turn) × In h (map as_turn (fed σ xs)) × (h.frame ≡ x)
unfolding fed
fed-has [] σ x i = absurd i
fed-has (y ∷ xs) σ x (inl q) = (as_turn (fed_turn σ y), inl refl, sym q)
fed-has (y ∷ xs) σ x (inr i) = let (h, j, e) = fed-has xs (left (as_turn (fed_turn σ y))) x i in (h, inr j, e)

still : (hs : List Turn) → ((h : Turn) → In h hs → h.time ≡ 0) → Forward 0 hs
unfolding Forward
still [] f = tt
still (h ∷ hs) f =
    let z : h.time ≡ 0 = f h (inl refl) in
    (omega arith, subst (λ n. Forward n hs) (sym z) (still hs (λ g i. f g (inr i))))

in_split : {A : Type 0} (a : A) (xs ys : List A) → In a (xs ++ ys) → In a xs ⊎ In a ys
in_split a [] ys i = inr i
in_split a (x ∷ xs) ys (inl q) = inl (inl q)
in_split a (x ∷ xs) ys (inr i) = go (in_split a xs ys i)
  where
    go : In a xs ⊎ In a ys → ((a ≡ x) ⊎ In a xs) ⊎ In a ys
    go (inl j) = inl (inr j)
    go (inr j) = inr j

-- the frames ys, of which x is none, then x: all of the cutting, in any order, some of them more than once
module _ (gs : List Source) (m : List ℕ) (l : Link) (d : List ℕ) (fs : List (List ℕ)) (b : Bytes d) (e : cut l d ≡ is fs) (more : l.limit < mac_length l + (head_length l d + (length d - covers d)))
    (W : Gateways gs) (lists : is_gate (sender l) gs ≡ true) (enough : 16384 ≤ length m) (right : SumRight d)
    (ys : List (List ℕ)) (x : List ℕ) (only : (y : List ℕ) → In y ys → In y fs) (last : In x fs) (new : In x ys → ⊥) (each : (f : List ℕ) → In f fs → In f ys ⊎ (f ≡ x)) where
  abbrev σ₀ : State
  σ₀ = begun gs m

  abbrev mid : List LiftTurn
  mid = fed (begun gs m) ys

  abbrev end : LiftTurn
  end = fed_turn (end_of (begun gs m) (map as_turn (fed (begun gs m) ys))) x

  abbrev all : List Turn
  all = map as_turn (fed (begun gs m) ys) ++ (as_turn end ∷ [])

  of-all : (h : Turn) → In h all → Fed fs h
  of-all h i = go (in_split h (map as_turn mid) (as_turn end ∷ []) i)
    where
      go : In h (map as_turn mid) ⊎ In h (as_turn end ∷ []) → Fed fs h
      go (inl j) = let w = fed-each ys σ₀ h j in record { frame = only h.frame w.frame; time = w.time; room = w.room }
      go (inr (inl q)) =
          let r : length {A = ℕ} (replicate 2047 0) ≡ 2047 = length-replicate {A = ℕ} 2047 0 in
          rw q (record { frame = last; time = refl; room = omega arith })
      go (inr (inr j)) = absurd j

  head : (hs : List Turn) (c : Turn) → (h : Turn) × (t : List Turn) × (hs ++ (c ∷ []) ≡ h ∷ t)
  head [] c = (c, [], refl)
  head (h ∷ hs) c = (h, hs ++ (c ∷ []), refl)

  abbrev first : Turn
  first = (head (map as_turn mid) (as_turn end)).0

  first-in : In first all
  first-in = subst (In (head (map as_turn mid) (as_turn end)).0) (sym (head (map as_turn mid) (as_turn end)).2) (inl refl)

  here : (f : List ℕ) → In f fs → (h : Turn) × In h all × (h.frame ≡ f)
  here f i = go (each f i)
    where
      go : In f ys ⊎ (f ≡ x) → (h : Turn) × In h all × (h.frame ≡ f)
      go (inl j) = let (h, k, q) = fed-has ys σ₀ f j in (h, In-left h (map as_turn mid) (as_turn end ∷ []) k, q)
      go (inr q) = (as_turn end, In-right (as_turn end) (map as_turn mid) (as_turn end ∷ []) (inl refl), sym q)

  supposed : SentSupposed gs m l d fs [] (map as_turn mid) (as_turn end)
  supposed = record {
    gateways = W;
    lists = lists;
    enough = enough;
    right = right;
    forward = still all (λ h i. (of-all h i).time);
    first = first;
    then = (head (map as_turn mid) (as_turn end)).1;
    earliest = (head (map as_turn mid) (as_turn end)).2;
    earliest-sent = (of-all first first-in).frame;
    only = λ h i n. (of-all h i).frame;
    room = λ h i n. (of-all h i).room;
    each = here;
    last = last;
    new = λ h i q. new (subst (λ z. In z ys) q (fed-each ys σ₀ h i).frame);
    soon = omega arith;
  }

  -- of these very calls, the last hands the datagram out and none before it
  pub fed-whole : ConcludedIn (key_for l d) d mid end
  unfolding end_of fresh
  fed-whole =
      lift-sent-handed-out gs m l d fs b e more [] mid end supposed (subst (RanIn σ₀) (fed_then ys x σ₀) (fed-ran (ys ++ (x ∷ [])) σ₀))
      (fresh-held (sender l) gs)

-- ---- backwards, the last frame first
turned : {A : Type 0} (a : A) (xs r : List A) → In a (reverse_aux xs r) → In a xs ⊎ In a r
turned a [] r i = inr i
turned a (x ∷ xs) r i = go (turned a xs (x ∷ r) i)
  where
    go : In a xs ⊎ In a (x ∷ r) → In a (x ∷ xs) ⊎ In a r
    go (inl j) = inl (inr j)
    go (inr (inl q)) = inl (inl q)
    go (inr (inr j)) = inr j

turned-back : {A : Type 0} (a : A) (xs r : List A) → In a xs ⊎ In a r → In a (reverse_aux xs r)
turned-back a [] r (inl i) = absurd i
turned-back a [] r (inr i) = i
turned-back a (x ∷ xs) r (inl (inl q)) = turned-back a xs (x ∷ r) (inr (inl q))
turned-back a (x ∷ xs) r (inl (inr i)) = turned-back a xs (x ∷ r) (inl i)
turned-back a (x ∷ xs) r (inr i) = turned-back a xs (x ∷ r) (inr (inr i))

in-reverse : {A : Type 0} (a : A) (xs : List A) → In a (reverse xs) → In a xs
in-reverse a xs i = go (turned a xs [] i)
  where
    go : In a xs ⊎ In a [] → In a xs
    go (inl j) = j
    go (inr j) = absurd j

module _ (gs : List Source) (m : List ℕ) (l : Link) (d f : List ℕ) (rest : List (List ℕ)) (b : Bytes d) (e : cut l d ≡ is (f ∷ rest)) (more : l.limit < mac_length l + (head_length l d + (length d - covers d)))
    (W : Gateways gs) (lists : is_gate (sender l) gs ≡ true) (enough : 16384 ≤ length m) (right : SumRight d) where
  pub fed-backwards : ConcludedIn (key_for l d) d (fed (begun gs m) (reverse rest)) (fed_turn (end_of (begun gs m) (map as_turn (fed (begun gs m) (reverse rest)))) f)
  fed-backwards =
      fed-whole gs m l d (f ∷ rest) b e more W lists enough right (reverse rest) f
      (λ y i. inr (in-reverse y rest i))
      (inl refl)
      (λ i. (frames-apart l d (f ∷ rest) b e).0 (in-reverse f rest i))
      (λ y i. split y i)
    where
      split : (y : List ℕ) → In y (f ∷ rest) → In y (reverse rest) ⊎ (y ≡ f)
      split y (inl q) = inr q
      split y (inr i) = inl (turned-back y rest [] (inl i))
