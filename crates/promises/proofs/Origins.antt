-- Each byte handed out from a slot came in a frame of the run, whose headers name the key.
use Rattle.std.specs.Prelude.{Ok}
use Prim.Native.Nat.{ℕ, ◌+◌, ◌*◌, ◌-◌, ◌≤◌, ◌<◌}
use mathlib.Core.Path.{◌≡◌, refl, sym, ap, ◌∙◌}
use mathlib.Core.Logic.{◌⊎◌, inl, inr}
use mathlib.Core.Bool.{Bool, true, false, ◌&&◌}
use mathlib.Core.List.{List, [], ◌∷◌, ◌++◌, map}
use lib.ListN.{length, get_or}
use lib.Dec.{eqb}
use Rattle.octets.specs.Read.{is, choose}
use Rattle.expand.specs.Sum.{was_elided}
use Rattle.reassembly.specs.Slots.{same_key}
use Rattle.reassembly.specs.Parts.{Part}
use Rattle.reassembly.specs.Table.{Call, short, other, from, part, State, Result, step, next, note, taken_since}
use Rattle.reassembly.specs.Fresh.{Gateways, begun}
use Rattle.reassembly.specs.declared.slot.Source.{Source}
use Rattle.reassembly.specs.declared.slot.Key.{Key}
use Rattle.reassembly.specs.declared.part.Outcome.{Outcome}
use Rattle.reassembly.specs.Cover.{In, Has}
use Rattle.reassembly.proofs.Promises.{each-byte}
use Rattle.receiver.specs.Names.{named}
use Rattle.receiver.proofs.Names.{call-part}
use Rattle.promises.specs.Frames.{Turn, Ran, meant, MeansPart, taken_of, HandedOut}
use Rattle.promises.proofs.Frames.{never-meet}

either : (b : Bool) (q : Part) (x y : List Part) {X : Type 0} → (In q x → X) → (In q y → X) → In q (choose b x y) → X
either true q x y f g i = f i
either false q x y f g i = g i

note-in : (k : Key) (c : Call) (r : Result) (h : List Part) (q : Part) → In q (note k c r h) → In q h ⊎ ((t : ℕ) × (c ≡ part t q))
unfolding note
note-in k short r h q i = inl i
note-in k (other t a) r h q i = inl i
note-in k (from t g a) r h q i = inl i
note-in k (part t p) r h q i =
    either (r.took && same_key p.key k) q (choose (eqb r.opens 1) (p ∷ []) (p ∷ h)) h
    (either (eqb r.opens 1) q (p ∷ []) (p ∷ h) one more) (λ j. inl j) i
  where
    one : In q (p ∷ []) → In q h ⊎ ((u : ℕ) × (part t p ≡ part u q))
    one (inl z) = inr (t, ap (part t) (sym z))
    one (inr z) = absurd z

    more : In q (p ∷ h) → In q h ⊎ ((u : ℕ) × (part t p ≡ part u q))
    more (inl z) = inr (t, ap (part t) (sym z))
    more (inr z) = inl z

-- a part that was taken came in one of the calls
taken-came : (k : Key) (hs : List Turn) (σ : State) (h : List Part) (q : Part) → In q (taken_since k σ (map meant hs) h)
    → In q h ⊎ ((x : Turn) × In x hs × ((t : ℕ) × (meant x ≡ part t q)))
unfolding taken_since
taken-came k [] σ h q i = inl i
taken-came k (x ∷ hs) σ h q i = go (taken-came k hs (next σ (meant x)) (note k (meant x) (step σ (meant x)) h) q i)
  where
    here : In q h ⊎ ((t : ℕ) × (meant x ≡ part t q)) → In q h ⊎ ((y : Turn) × In y (x ∷ hs) × ((t : ℕ) × (meant y ≡ part t q)))
    here (inl j) = inl j
    here (inr w) = inr (x, inl refl, w)

    go : In q (note k (meant x) (step σ (meant x)) h) ⊎ ((y : Turn) × In y hs × ((t : ℕ) × (meant y ≡ part t q)))
        → In q h ⊎ ((y : Turn) × In y (x ∷ hs) × ((t : ℕ) × (meant y ≡ part t q)))
    go (inl j) = here (note-in k (meant x) (step σ (meant x)) h q j)
    go (inr w) = inr (w.0, inr w.1, w.2)

-- x is the byte at its place of a part that a frame of the run brought, whose headers name k
pub record Sent (k : Key) (hs : List Turn) (d : List ℕ) (x : ℕ) : Type 0 where
  pub turn : Turn
  pub among : In turn hs
  pub name : named turn.frame ≡ is k
  pub part_of : Part
  pub brings : MeansPart turn part_of
  pub has : Has part_of x
  pub byte : get_or d x 0 ≡ get_or part_of.bytes (x - part_of.unit * 8) 0

pub each-sent : (gs : List Source) (m : List ℕ) → Gateways gs → 16384 ≤ length m → (hs : List Turn) (h : Turn) → Ran (begun gs m) (hs ++ (h ∷ [])) → (p : Part) → MeansPart h p
    → (n : ℕ) → h.returned.answer ≡ Ok (Outcome.Out n)
    → (H : HandedOut gs m p.key hs h n) × ((x : ℕ) → x < p.key.size → (was_elided H.made.sum ≡ true → (x < H.made.sum.udp + 6) ⊎ (H.made.sum.udp + 8 ≤ x)) → Sent p.key (hs ++ (h ∷ [])) H.datagram x)
unfolding taken_of
each-sent gs m W room hs h R p b n a =
    let H = never-meet gs m W room hs h R p b n a in (
      H,
      λ x l e.
          let w = each-byte p.key (taken_of gs m p.key (hs ++ (h ∷ []))) H.datagram H.made x l e in
          go H x w (taken-came p.key (hs ++ (h ∷ [])) (begun gs m) [] w.0 w.1),
    )
  where
    go : (H : HandedOut gs m p.key hs h n) (x : ℕ)
        → (w : (q : Part) × In q (taken_of gs m p.key (hs ++ (h ∷ []))) × (q.key ≡ p.key) × Has q x × (get_or H.datagram x 0 ≡ get_or q.bytes (x - q.unit * 8) 0))
        → In w.0 [] ⊎ ((y : Turn) × In y (hs ++ (h ∷ [])) × ((t : ℕ) × (meant y ≡ part t w.0))) → Sent p.key (hs ++ (h ∷ [])) H.datagram x
    go H x w (inl z) = absurd z
    go H x w (inr (y, i, (t, e))) =
        let c = call-part y.before y.contexts y.time y.frame t w.0 e in
        record {
          turn = y;
          among = i;
          name = c.name ∙ ap is w.2;
          part_of = w.0;
          brings = e ∙ ap (λ (u : ℕ). part u w.0) c.time;
          has = w.3;
          byte = w.4;
        }
