-- The frames that we send, in any order, each at least once, fed as demand 3 asks to a table that lists the source address, hand out the same
-- datagram.
use Rattle.std.specs.Prelude.{Ok}
use Prim.Native.Nat.{ℕ, ◌+◌, ◌-◌, ◌≤◌, ◌<◌}
use native.Mathlib.Omega.{arith}
use mathlib.Core.List.{List, [], ◌∷◌, ◌++◌, map}
use mathlib.Core.Bool.{true}
use mathlib.Core.Logic.{inl, inr}
use mathlib.Core.Path.{◌≡◌, refl, sym, ap, subst, ◌∙◌}
use lib.ListN.{length, drop}
use borrow.Author.Tests.{le-leb, le-ltb}
use Rattle.octets.specs.Read.{is}
use Rattle.expand.proofs.SumLaws.{Bytes}
use Rattle.reassembly.specs.Cover.{In, Has, Covers}
use Rattle.reassembly.specs.Fresh.{begun}
use Rattle.reassembly.specs.Parts.{Part, fits, out, told}
use Rattle.reassembly.specs.Slots.{owner, gates_of, is_gate, held}
use Rattle.reassembly.specs.Table.{part, from, State, lent_call, comes, pass, from_gate, step, Gives}
use Rattle.reassembly.specs.declared.slot.Key.{Key}
use Rattle.reassembly.specs.declared.slot.Source.{Source}
use Rattle.reassembly.specs.declared.part.Outcome.{Outcome}
use Rattle.reassembly.proofs.Promises.{outcome-one}
use Rattle.reassembly.proofs.Runs.{comes-brought, comes-part}
use Rattle.reassembly.proofs.Lent.{room-is}
use Rattle.receiver.specs.Names.{named}
use Rattle.receiver.specs.Receive.{tested, frame_call, call_of}
use Rattle.receiver.proofs.Names.{frame-part, call-part}
use Rattle.cutting.specs.Head.{mac_length, head_length, covers}
use Rattle.cutting.specs.Pieces.{whole_length, pieces}
use Rattle.cutting.specs.Cut.{plan_of, frame_of, cut}
use Rattle.cutting.specs.declared.link.Link.{Link}
use Rattle.cutting.specs.declared.piece.Piece.{Piece}
use Rattle.cutting.specs.declared.piece.Piece.TheVariants.{Whole}
use Rattle.cutting.proofs.Cuttings.{cut-was, cut-ready}
use Rattle.cutting.proofs.Tiling.{Each, pieces-each, start_of, pieces-chain}
use Rattle.promises.specs.Runs.{came}
use Rattle.promises.specs.Frames.{Turn, call_in, Ran, end_of as ends_at, meant, MeansPart, parts_of, Supposed, Concluded}
use Rattle.promises.specs.Sent.{sender, key_for, part_for, call_for, SumRight, SentSupposed}
use Rattle.promises.proofs.Engine.{In-left, In-right}
use Rattle.promises.proofs.Frames.{part-one, came-in, out-front, demand-3}
use Rattle.promises.proofs.Sent.{Cuts, frames-bring}
use Rattle.promises.proofs.SentParts.{each_in, in_map, map-in, Stands, stands, each-some, all-stand, fits-is, chain-apart, parts_cut}

-- ---- what a cutting says: nothing was refused
pub cuts : (l : Link) (d : List ℕ) (fs : List (List ℕ)) → Bytes d → cut l d ≡ is fs → Cuts l d
cuts l d fs b e =
    let w = cut-was l d fs e in
    record { bytes = b; ready = cut-ready l d fs e; both = w.both; ours = w.ours }

-- ---- what a call brings came
came-has : (k : Key) (hs : List Turn) (h : Turn) (p : Part) → In h hs → MeansPart h p → p.key ≡ k → fits p ≡ true → In p (came k (map meant hs))
unfolding came
came-has k [] h p i b e f = absurd i
came-has k (g ∷ hs) h p (inl q) b e f =
    let c : comes k (meant g) ≡ p ∷ [] = ap (λ z. comes k (meant z)) (sym q) ∙ ap (comes k) b ∙ comes-part k h.time p e f in
    rw c (inl refl)
came-has k (g ∷ hs) h p (inr i) b e f = In-right p (comes k (meant g)) (came k (map meant hs)) (came-has k hs h p i b e f)

-- ---- a datagram in more than one frame
module _ (gs : List Source) (m : List ℕ) (l : Link) (d : List ℕ) (fs : List (List ℕ)) (b : Bytes d) (e : cut l d ≡ is fs) (more : l.limit < mac_length l + (head_length l d + (length d - covers d))) (past mid : List Turn) (c : Turn) (H : SentSupposed gs m l d fs past mid c) where
  abbrev ps : List Piece
  ps = pieces (plan_of l d)

  abbrev K : Cuts l d
  K = cuts l d fs b e

  frames-are : fs ≡ map (frame_of l d) ps
  frames-are = (cut-was l d fs e).frames

  stand : (x : Piece) → In x ps → Stands l d x
  stand x i = stands l d K.ready x i

  -- a frame of the cutting is a piece's
  of-frame : (f : List ℕ) → In f fs → (x : Piece) × In x ps × (f ≡ frame_of l d x)
  of-frame f i = in_map (frame_of l d) ps f (rw frames-are at i)

  as-part : (t : ℕ) → Each (λ x. call_for l d t x ≡ part t (part_for l d x)) ps
  as-part t = pieces-each l d K.ready (λ x. call_for l d t x ≡ part t (part_for l d x)) (λ q. absurd (omega arith)) (λ n f. refl) (λ least at n z g. refl)

  brought : (h : Turn) (x : Piece) → In x ps → h.frame ≡ frame_of l d x → frame_call h.contexts h.time h.frame ≡ part h.time (part_for l d x)
  brought h x i q =
      ap (frame_call h.contexts h.time) q
      ∙ each_in (λ z. frame_call h.contexts h.time (frame_of l d z) ≡ call_for l d h.time z) ps x (frames-bring l d K h.contexts h.time) i
      ∙ each_in (λ z. call_for l d h.time z ≡ part h.time (part_for l d z)) ps x (as-part h.time) i

  name : (h : Turn) (x : Piece) → In x ps → h.frame ≡ frame_of l d x → named h.frame ≡ is (key_for l d)
  name h x i q = (frame-part h.contexts h.time h.frame h.time (part_for l d x) (brought h x i q)).name ∙ ap is (stand x i).key

  lent : (h : Turn) (x : Piece) → In x ps → h.frame ≡ frame_of l d x → 2047 ≤ length h.before → MeansPart h (part_for l d x)
  lent h x i q r = room-is h.before _ r ∙ brought h x i q

  -- a call with a frame of the cutting brings its part
  brings-frame : (h : Turn) → In h (mid ++ (c ∷ [])) → In h.frame fs → (x : Piece) × In x ps × (h.frame ≡ frame_of l d x) × MeansPart h (part_for l d x)
  brings-frame h j i = let (x, n, q) = of-frame h.frame i in (x, n, q, lent h x n q (H.room h j i))

  covered : Covers (length d) (parts_of (key_for l d) (mid ++ (c ∷ [])))
  unfolding parts_of parts_cut
  covered y k =
      let (p, i, has) = (parts_cut l d K.ready H.right).fill y k in
      let (x, j, q) = in_map (part_for l d) ps p i in
      let (h, n, f) = H.each (frame_of l d x) (subst (In (frame_of l d x)) (sym frames-are) (map-in (frame_of l d) ps x j)) in
      let s = stand x j in
      let r = lent h x j f (H.room h n (subst (λ z. In z fs) (sym f) (subst (In (frame_of l d x)) (sym frames-are) (map-in (frame_of l d) ps x j)))) in
      (part_for l d x, came-has (key_for l d) (mid ++ (c ∷ [])) h (part_for l d x) n r s.key (fits-is l d K.ready x s), subst (λ z. Has z y) q has)

  -- before the last, its first byte is missing
  not_covered : Covers (length d) (parts_of (key_for l d) mid) → ⊥
  unfolding parts_of
  not_covered C =
      let (x, i, q) = of-frame c.frame H.last in
      let s = stand x i in
      let (p, j, has) = C (start_of x) (omega (arith, s.some, s.within)) in
      let (h, n, o) = came-in (key_for l d) mid p j in
      let B = comes-brought (key_for l d) (meant h) p o in
      let N = call-part h.before h.contexts h.time h.frame B.time p B.call in
      let n' : In h (mid ++ (c ∷ [])) = In-left h mid (c ∷ []) n in
      let (w, v, f, r) = brings-frame h n' (H.only h n' (N.name ∙ ap is B.key)) in
      let same : part_for l d w ≡ p = part-one h.time B.time (part_for l d w) p (sym r ∙ B.call) in
      let t = stand w v in
      let has' : Has (part_for l d w) (start_of x) = subst (λ z. Has z (start_of x)) (sym same) has in
      let g : w ≡ x = chain-apart d ps 0 (start_of x) w x (pieces-chain l d K.ready) (each-some l d K.ready ps (all-stand l d K.ready)) v i (omega (arith, t.begins)) (omega (arith, t.begins, t.ends)) (omega arith) (omega (arith, s.some)) in
      H.new h n (f ∙ ap (frame_of l d) g ∙ sym q)

  -- what demand 3 supposes
  pub sent-supposed : Supposed gs m (key_for l d) d (parts_cut l d K.ready H.right) past mid c
  unfolding parts_cut
  sent-supposed = record {
    gateways = H.gateways;
    enough = H.enough;
    forward = H.forward;
    gate = H.lists;
    first = H.first;
    then = H.then;
    earliest = H.earliest;
    earliest-named = let (x, i, q) = of-frame H.first.frame H.earliest-sent in name H.first x i q;
    of-cutting = λ h j n.
        let (x, i, q, r) = brings-frame h j (H.only h j n) in
        (part_for l d x, map-in (part_for l d) ps x i, r);
    cover = covered;
    not-before = not_covered;
    soon = H.soon;
  }

  -- the same datagram is handed out, by the call with the last frame and none before it
  pub sent-handed-out : Ran (begun gs m) (past ++ (mid ++ (c ∷ []))) → held (owner (key_for l d)) (ends_at (begun gs m) past).table.slots ≡ 0 → Concluded (key_for l d) d mid c
  sent-handed-out R z = demand-3 gs m (key_for l d) d (parts_cut l d K.ready H.right) past mid c sent-supposed R z

-- ---- a datagram in one frame
one_piece : (l : Link) (d : List ℕ) → mac_length l + (head_length l d + (length d - covers d)) ≤ l.limit → pieces (plan_of l d) ≡ Whole ∷ []
unfolding pieces whole_length plan_of
one_piece l d h = rw (le-leb (mac_length l + (head_length l d + (length d - covers d))) l.limit h) refl

-- whatever the table σ holds: it lists the source address, its time is not past, and memory and output are long enough
module _ (σ : State) (l : Link) (d : List ℕ) (fs : List (List ℕ)) (b : Bytes d) (e : cut l d ≡ is fs) (one : mac_length l + (head_length l d + (length d - covers d)) ≤ l.limit) (lists : is_gate (sender l) (gates_of σ.table) ≡ true) (enough : 16384 ≤ length σ.mem) (right : SumRight d) (h : Turn) (sent : In h.frame fs) (time : σ.table.last ≤ h.time) (room : 2047 ≤ length h.before) where
  whole-frame : h.frame ≡ frame_of l d Whole
  whole-frame = go (in_map (frame_of l d) (Whole ∷ []) h.frame (rw ((cut-was l d fs e).frames, one_piece l d one) at sent))
    where
      go : (x : Piece) × In x (Whole ∷ []) × (h.frame ≡ frame_of l d x) → h.frame ≡ frame_of l d Whole
      go (x, inl q, f) = f ∙ ap (frame_of l d) q
      go (x, inr i, f) = absurd i

  whole-call : frame_call h.contexts h.time h.frame ≡ from h.time (sender l) (out d)
  unfolding tested
  whole-call =
      let E = frames-bring l d (cuts l d fs b e) h.contexts h.time in
      ap (frame_call h.contexts h.time) whole-frame
      ∙ each_in (λ z. frame_call h.contexts h.time (frame_of l d z) ≡ call_for l d h.time z) (pieces (plan_of l d)) Whole E (rw (one_piece l d one) (inl refl))
      ∙ rw right refl

  pub whole-reply : (step σ (call_in σ h)).reply ≡ out d
  unfolding call_in call_of lent_call from_gate step pass
  whole-reply = rw (le-ltb (length σ.mem) 16384 enough, le-ltb (length h.before) 2047 room, whole-call, le-ltb h.time σ.table.last time, lists) refl

  -- the call hands the same datagram out
  pub whole-handed-out : Gives h.returned h.memory h.before h.output (step σ (call_in σ h)) → (h.returned.answer ≡ Ok (Outcome.Out (length d))) × (h.output ≡ d ++ drop (length d) h.before)
  whole-handed-out G =
      let R = (cuts l d fs b e).ready in (
        outcome-one h.returned.answer (Ok (Outcome.Out (length d))) (G.answer ∙ ap told whole-reply),
        out-front d h.before h.output _ G.output whole-reply (omega (arith, R.1)),
      )
