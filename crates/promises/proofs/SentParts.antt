-- The parts that a receiver makes of the frames that we send are a cutting of the datagram.
use Prim.Native.Nat.{ℕ, ◌+◌, ◌-◌, ◌*◌, ◌%◌, ◌≤◌, ◌<◌}
use native.Mathlib.Nat.{lt_of_not-le}
use native.Mathlib.Decide.{dec_le}
use native.Mathlib.Omega.{arith}
use mathlib.Core.List.{List, [], ◌∷◌, map}
use mathlib.Core.Bool.{Bool, true, false, ◌||◌}
use mathlib.Core.Logic.{◌⊎◌, inl, inr}
use mathlib.Core.Path.{◌≡◌, refl, sym, ap, subst, ◌∙◌}
use lib.Dec.{eqb}
use lib.ListN.{length, get_or, take, drop, length-take, length-drop}
use lib.Seq.{get_or-take, get_or-drop, take_all}
use borrow.Author.Tests.{le-leb, eq-eqb}
use Rattle.octets.specs.Read.{choose}
use Rattle.reassembly.specs.Cover.{In, Has}
use Rattle.reassembly.specs.Parts.{Part, fits_in, fits}
use Rattle.expand.specs.Sum.{no_sum, carried_at, was_elided, summed_by}
use Rattle.cutting.specs.Fields.{is_udp}
use Rattle.cutting.specs.Head.{covers, sum_sent}
use Rattle.cutting.specs.Pieces.{pieces}
use Rattle.cutting.specs.Cut.{plan_of}
use Rattle.cutting.specs.declared.link.Link.{Link}
use Rattle.cutting.specs.declared.piece.Piece.{Piece}
use Rattle.cutting.specs.declared.piece.Piece.TheVariants.{Whole, First, Later}
use Rattle.cutting.specs.Cut.{Ready}
use Rattle.cutting.proofs.Tiling.{Each, Good, FirstPart, pieces-each, covers-least, start_of, end_of, Chain, pieces-chain}
use Rattle.promises.specs.Cuttings.{zeroed, Cutting}
use Rattle.promises.specs.Sent.{key_for, part_for, SumRight}

-- ---- lists
pub each_in : {A : Type 0} (P : A → Type 0) (xs : List A) (x : A) → Each P xs → In x xs → P x
each_in P [] x e i = absurd i
each_in P (y ∷ ys) x e (inl q) = subst P (sym q) e.0
each_in P (y ∷ ys) x e (inr i) = each_in P ys x e.1 i

pub in_map : {A B : Type 0} (f : A → B) (xs : List A) (b : B) → In b (map f xs) → (x : A) × In x xs × (b ≡ f x)
in_map f [] b i = absurd i
in_map f (y ∷ ys) b (inl q) = (y, inl refl, q)
in_map f (y ∷ ys) b (inr i) = let (x, j, e) = in_map f ys b i in (x, inr j, e)

pub map-in : {A B : Type 0} (f : A → B) (xs : List A) (x : A) → In x xs → In (f x) (map f xs)
map-in f [] x i = absurd i
map-in f (y ∷ ys) x (inl q) = inl (ap f q)
map-in f (y ∷ ys) x (inr i) = inr (map-in f ys x i)

-- ---- pieces one after the other
module _ (d : List ℕ) where
  abbrev pub Some : Piece → Type 0
  Some x = start_of x < end_of d x

  pub chain-least : (xs : List Piece) (b : ℕ) (p : Piece) → Chain d b xs → Each Some xs → In p xs → b ≤ start_of p
  chain-least [] b p c e i = absurd i
  chain-least (y ∷ ys) b p c e (inl q) = rw q (omega (arith, c.0))
  chain-least (y ∷ ys) b p c e (inr i) = omega (arith, c.0, e.0, chain-least ys (end_of d y) p c.1 e.1 i)

  -- every byte is one's
  pub chain-has : (xs : List Piece) (b x : ℕ) → Chain d b xs → b ≤ x → x < length d → (p : Piece) × In p xs × (start_of p ≤ x) × (x < end_of d p)
  chain-has [] b x c h k = absurd (omega arith)
  chain-has (y ∷ ys) b x c h k =
      elim (dec_le (end_of d y) x) [
        | yes q ↦ let (p, i, m, n) = chain-has ys (end_of d y) x c.1 q k in (p, inr i, m, n)
        | no q ↦ (y, inl refl, omega (arith, c.0), lt_of_not-le q)
      ]

  -- and no other's
  pub chain-apart : (xs : List Piece) (b x : ℕ) (p q : Piece) → Chain d b xs → Each Some xs → In p xs → In q xs → start_of p ≤ x → x < end_of d p → start_of q ≤ x → x < end_of d q → p ≡ q
  chain-apart [] b x p q c e i j h1 h2 h3 h4 = absurd i
  chain-apart (y ∷ ys) b x p q c e (inl i) (inl j) h1 h2 h3 h4 = i ∙ sym j
  chain-apart (y ∷ ys) b x p q c e (inl i) (inr j) h1 h2 h3 h4 =
      let m : x < end_of d y = subst (λ z. x < end_of d z) i h2 in
      absurd (omega (arith, chain-least ys (end_of d y) q c.1 e.1 j))
  chain-apart (y ∷ ys) b x p q c e (inr i) (inl j) h1 h2 h3 h4 =
      let m : x < end_of d y = subst (λ z. x < end_of d z) j h4 in
      absurd (omega (arith, chain-least ys (end_of d y) p c.1 e.1 i))
  chain-apart (y ∷ ys) b x p q c e (inr i) (inr j) h1 h2 h3 h4 = chain-apart ys (end_of d y) x p q c.1 e.1 i j h1 h2 h3 h4

-- ---- a piece as a part
pub record Stands (l : Link) (d : List ℕ) (x : Piece) : Type 0 where
  pub key : (part_for l d x).key ≡ key_for l d
  pub carried : (part_for l d x).unit ≡ 0 → (part_for l d x).sum ≡ sum_sent d
  pub begins : (part_for l d x).unit * 8 ≡ start_of x
  pub ends : start_of x + length (part_for l d x).bytes ≡ end_of d x
  pub some : start_of x < end_of d x
  pub within : end_of d x ≤ length d
  pub whole : (length (part_for l d x).bytes % 8 ≡ 0) ⊎ (end_of d x ≡ length d)
  pub bytes : (part_for l d x).bytes ≡ take (length (part_for l d x).bytes) (drop (start_of x) d)

module _ (l : Link) (d : List ℕ) (h : Ready l d) where
  whole-stands : Stands l d Whole
  whole-stands = record {
    key = refl;
    carried = λ z. refl;
    begins = refl;
    ends = omega arith;
    some = omega (arith, h.0);
    within = omega arith;
    whole = inr refl;
    bytes = sym (take_all (length d) d (omega arith));
  }

  first-stands : (n : ℕ) → FirstPart l d n → Stands l d (First n)
  first-stands n f =
      let e : length (take (covers d + n) d) ≡ covers d + n = omega (arith, length-take (covers d + n) d, f.ends) in
      let a : length (take (covers d + n) d) % 8 ≡ 0 = rw e f.aligned in
      record {
        key = refl;
        carried = λ z. refl;
        begins = refl;
        ends = omega arith;
        some = omega (arith, covers-least d);
        within = omega (arith, f.ends);
        whole = inl a;
        bytes = ap (λ k. take k d) (sym e);
      }

  later-stands : (room least at n : ℕ) → 1 ≤ least → Good room (length d) least at n → Stands l d (Later at n)
  later-stands room least at n k g =
      let e : length (take n (drop at d)) ≡ n = omega (arith, length-take n (drop at d), length-drop at d, g.ends) in
      record {
        key = refl;
        carried = λ z. absurd (omega (arith, z, k, g.begins, g.aligned));
        begins = omega (arith, g.aligned);
        ends = omega arith;
        some = omega (arith, g.some);
        within = omega (arith, g.ends);
        whole = ends-go g.whole e;
        bytes = ap (λ k. take k (drop at d)) (sym e);
      }
    where
      ends-go : (n % 8 ≡ 0) ⊎ (at + n ≡ length d) → length (take n (drop at d)) ≡ n → (length (take n (drop at d)) % 8 ≡ 0) ⊎ (at + n ≡ length d)
      ends-go (inl q) e = inl (rw e q)
      ends-go (inr q) e = inr q

  pub all-stand : Each (Stands l d) (pieces (plan_of l d))
  all-stand = pieces-each l d h (Stands l d) (λ q. whole-stands) first-stands (λ least at n b g. later-stands _ least at n b g)

  pub stands : (x : Piece) → In x (pieces (plan_of l d)) → Stands l d x
  stands x i = each_in (Stands l d) (pieces (plan_of l d)) x all-stand i

  pub each-some : (xs : List Piece) → Each (Stands l d) xs → Each (λ x. start_of x < end_of d x) xs
  each-some [] e = tt
  each-some (x ∷ xs) e = (e.0.some, each-some xs e.1)

  fits-go : (size u n : ℕ) → 40 ≤ size → size ≤ 2047 → 1 ≤ n → u * 8 + n ≤ size → (n % 8 ≡ 0) ⊎ (u * 8 + n ≡ size) → fits_in size u n ≡ true
  unfolding fits_in
  fits-go size u n a b c e (inl q) = rw (le-leb 40 size a, le-leb size 2047 b, le-leb 1 n c, le-leb (u * 8 + n) size e, eq-eqb (n % 8) 0 q) refl
  fits-go size u n a b c e (inr q) = rw (le-leb 40 size a, le-leb size 2047 b, le-leb 1 n c, le-leb (u * 8 + n) size e, eq-eqb (u * 8 + n) size q) (or-true (eqb (n % 8) 0))
    where
      or-true : (t : Bool) → (t || true) ≡ true
      or-true true = refl
      or-true false = refl

  pub fits-is : (x : Piece) → Stands l d x → fits (part_for l d x) ≡ true
  fits-is x s =
      let p : Part = part_for l d x in
      let n : ℕ = length p.bytes in
      let u : ℕ = p.unit in
      let w : (n % 8 ≡ 0) ⊎ (u * 8 + n ≡ length d) = ends-go s.whole in
      ap (λ k. fits_in k.size u n) s.key ∙ fits-go (length d) u n h.0 h.1 (omega (arith, s.ends, s.some)) (omega (arith, s.begins, s.ends, s.within)) w
    where
      ends-go : (length (part_for l d x).bytes % 8 ≡ 0) ⊎ (end_of d x ≡ length d) → (length (part_for l d x).bytes % 8 ≡ 0) ⊎ ((part_for l d x).unit * 8 + length (part_for l d x).bytes ≡ length d)
      ends-go (inl q) = inl q
      ends-go (inr q) = inr (ap (λ z. z + length (part_for l d x).bytes) s.begins ∙ s.ends ∙ q)

  pub bytes-at : (x : Piece) → Stands l d x → (i : ℕ) → Has (part_for l d x) i → get_or (part_for l d x).bytes (i - (part_for l d x).unit * 8) 0 ≡ get_or d i 0
  bytes-at x s i (a, b) =
      let p : Part = part_for l d x in
      let n : ℕ = length p.bytes in
      let j : ℕ = i - p.unit * 8 in
      let k : j < n = omega arith in
      let m : start_of x + j ≡ i = omega (arith, s.begins) in
      ap (λ z. get_or z j 0) s.bytes ∙ get_or-take n (drop (start_of x) d) j 0 k ∙ get_or-drop (start_of x) d j 0 ∙ ap (λ z. get_or d z 0) m

  -- ---- the cutting
  not-elided : (t : Bool) → was_elided (choose t (carried_at 0 40) no_sum) ≡ false
  not-elided true = refl
  not-elided false = refl

  sent-not : was_elided (sum_sent d) ≡ false
  unfolding sum_sent
  sent-not = not-elided (is_udp d)

  pub zeroed-not : zeroed (sum_sent d) d ≡ d
  unfolding zeroed
  zeroed-not = rw sent-not refl

  pub summed-not : summed_by (sum_sent d) d ≡ d
  unfolding summed_by
  summed-not = rw sent-not refl

  unfoldable pub parts_cut : SumRight d → Cutting (key_for l d) d
  parts_cut right = record {
    parts = map (part_for l d) (pieces (plan_of l d));
    sum = sum_sent d;
    sized = refl;
    keyed = λ p i. let (x, j, e) = in_map (part_for l d) (pieces (plan_of l d)) p i in ap (λ z. z.key) e ∙ (stands x j).key;
    pass10 = λ p i. let (x, j, e) = in_map (part_for l d) (pieces (plan_of l d)) p i in ap fits e ∙ fits-is x (stands x j);
    apart = λ p q i j y a b.
        let (v, m, e) = in_map (part_for l d) (pieces (plan_of l d)) p i in
        let (w, n, f) = in_map (part_for l d) (pieces (plan_of l d)) q j in
        let s = stands v m in
        let t = stands w n in
        let a' : Has (part_for l d v) y = subst (λ z. Has z y) e a in
        let b' : Has (part_for l d w) y = subst (λ z. Has z y) f b in
        let g : v ≡ w = chain-apart d (pieces (plan_of l d)) 0 y v w (pieces-chain l d h) (each-some (pieces (plan_of l d)) all-stand) m n (omega (arith, s.begins)) (omega (arith, s.begins, s.ends)) (omega (arith, t.begins)) (omega (arith, t.begins, t.ends)) in
        e ∙ ap (part_for l d) g ∙ sym f;
    fill = λ y k.
        let (x, i, a, b) = chain-has d (pieces (plan_of l d)) 0 y (pieces-chain l d h) (omega arith) k in
        let s = stands x i in
        (part_for l d x, map-in (part_for l d) (pieces (plan_of l d)) x i, (omega (arith, s.begins), omega (arith, s.begins, s.ends)));
    bytes = λ p i y a.
        let (x, j, e) = in_map (part_for l d) (pieces (plan_of l d)) p i in
        ap (λ z. get_or z.bytes (y - z.unit * 8) 0) e ∙ bytes-at x (stands x j) y (subst (λ z. Has z y) e a) ∙ ap (λ z. get_or z y 0) (sym zeroed-not);
    flag = λ p i u. let (x, j, e) = in_map (part_for l d) (pieces (plan_of l d)) p i in ap (λ z. z.sum) e ∙ (stands x j).carried (ap (λ z. z.unit) (sym e) ∙ u);
    summed = rw zeroed-not summed-not;
    right = rw zeroed-not right;
  }
