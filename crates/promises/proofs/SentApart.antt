-- No two frames of a cutting are equal: each brings its own part, and no two parts begin at one place.
use Prim.Native.Nat.{ℕ, ◌*◌, ◌≤◌}
use native.Mathlib.Omega.{arith}
use mathlib.Core.List.{List, [], ◌∷◌, map}
use mathlib.Core.Logic.{inl, inr}
use mathlib.Core.Path.{◌≡◌, refl, sym, ap, subst, ◌∙◌}
use Rattle.octets.specs.Read.{is}
use Rattle.expand.proofs.SumLaws.{Bytes}
use Rattle.reassembly.specs.Cover.{In}
use Rattle.reassembly.specs.Table.{Call, part, from, other, short}
use Rattle.receiver.specs.Receive.{frame_call}
use Rattle.cutting.specs.Pieces.{pieces}
use Rattle.cutting.specs.Cut.{plan_of, frame_of, cut}
use Rattle.cutting.specs.declared.link.Link.{Link}
use Rattle.cutting.specs.declared.piece.Piece.{Piece}
use Rattle.cutting.specs.declared.piece.Piece.TheVariants.{Whole, First, Later}
use Rattle.cutting.proofs.Tiling.{Each, start_of, end_of, Chain, pieces-chain}
use Rattle.cutting.proofs.Cuttings.{cut-was}
use Rattle.promises.specs.Sent.{call_for, Distinct}
use Rattle.promises.proofs.Sent.{Cuts, frames-bring}
use Rattle.promises.proofs.SentParts.{each_in, in_map, Some, chain-least, Stands, stands, each-some, all-stand}
use Rattle.promises.proofs.SentRuns.{cuts}

-- where what comes begins
abbrev begins_at : Call → ℕ
begins_at (part t p) = p.unit * 8
begins_at (other t r) = 0
begins_at (from t g r) = 0
begins_at short = 0

begins-told : (l : Link) (d : List ℕ) (x : Piece) → Stands l d x → begins_at (call_for l d 0 x) ≡ start_of x
begins-told l d Whole s = refl
begins-told l d (First n) s = s.begins
begins-told l d (Later at n) s = s.begins

module _ (l : Link) (d : List ℕ) (K : Cuts l d) where
  abbrev ps : List Piece
  ps = pieces (plan_of l d)

  told : (x : Piece) → In x ps → begins_at (frame_call [] 0 (frame_of l d x)) ≡ start_of x
  told x i =
      let E = frames-bring l d K [] 0 in
      ap begins_at (each_in (λ z. frame_call [] 0 (frame_of l d z) ≡ call_for l d 0 z) ps x E i)
      ∙ begins-told l d x (stands l d K.ready x i)

  same : (x y : Piece) → In x ps → In y ps → frame_of l d x ≡ frame_of l d y → start_of x ≡ start_of y
  same x y i j e = sym (told x i) ∙ ap (λ f. begins_at (frame_call [] 0 f)) e ∙ told y j

  apart : (xs : List Piece) (b : ℕ) → Chain d b xs → Each (Some d) xs → ((x : Piece) → In x xs → In x ps) → Distinct (map (frame_of l d) xs)
  apart [] b c e s = tt
  apart (x ∷ xs) b c e s = (
    λ i.
        let (y, j, q) = in_map (frame_of l d) xs (frame_of l d x) i in
        let h : start_of x ≡ start_of y = same x y (s x (inl refl)) (s y (inr j)) q in
        let k : end_of d x ≤ start_of y = chain-least d xs (end_of d x) y c.1 e.1 j in
        absurd (omega (arith, e.0)),
    apart xs (end_of d x) c.1 e.1 (λ z i. s z (inr i)),
  )

-- no two frames of the cutting are equal
pub frames-apart : (l : Link) (d : List ℕ) (fs : List (List ℕ)) → Bytes d → cut l d ≡ is fs → Distinct fs
frames-apart l d fs b e =
    let K = cuts l d fs b e in
    subst Distinct (sym (cut-was l d fs e).frames)
    (apart l d K (pieces (plan_of l d)) 0 (pieces-chain l d K.ready) (each-some l d K.ready (pieces (plan_of l d)) (all-stand l d K.ready)) (λ x i. i))
