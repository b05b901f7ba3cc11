-- Demand 3 over runs of any engine, from laws about one step. Nothing here knows of frames, tables, slots or marks: an engine that meets the
-- laws for the parts of one cutting hands the datagram out at the covering call and not before. The slot table is such an engine
-- (Instance.antt); the laws rest on the three that reassembly/proofs/Runs.antt proves of `step`.
use Prim.Native.Nat.{ℕ, ◌+◌, ◌≤◌, ◌<◌}
use native.Mathlib.Omega.{arith}
use mathlib.Core.Path.{◌≡◌, refl, sym, ap, ◌∙◌}
use mathlib.Core.Logic.{◌⊎◌, inl, inr}
use mathlib.Core.List.{List, [], ◌∷◌, ◌++◌, append_assoc}
use Rattle.reassembly.specs.Parts.{Part, Reply, kept, out}
use Rattle.reassembly.specs.Cover.{In, Covers}

-- An engine: its states and calls, what a call does and replys, the clock after a call, and what a call brings under one key.
pub record Engine : Type 1 where
  pub State : Type 0
  pub Call : Type 0
  pub next : State → Call → State
  pub reply : State → Call → Reply (List ℕ)
  pub last : State → ℕ
  pub after : ℕ → Call → ℕ
  pub comes : Call → List Part

module _ (E : Engine) where
  -- the state after a run
  unfoldable pub runs : E.State → List E.Call → E.State
  runs σ [] = σ
  runs σ (c ∷ cs) = runs (E.next σ c) cs

  -- what a run brings under the key
  unfoldable pub came : List E.Call → List Part
  came [] = []
  came (c ∷ cs) = E.comes c ++ came cs

  -- the clock never goes back
  unfoldable pub Clock : ℕ → List E.Call → Type 0
  Clock n [] = Unit {0}
  Clock n (c ∷ cs) = (n ≤ E.after n c) × Clock (E.after n c) cs

  -- the clock after a run
  unfoldable pub clock : ℕ → List E.Call → ℕ
  clock n [] = n
  clock n (c ∷ cs) = clock (E.after n c) cs

  -- every call of a run that brings a part under the key keeps it: none of them hands anything out
  unfoldable pub AllKept : E.State → List E.Call → Type 0
  AllKept σ [] = Unit {0}
  AllKept σ (c ∷ cs) = ((p : Part) → E.comes c ≡ p ∷ [] → E.reply σ c ≡ kept) × AllKept (E.next σ c) cs

-- The laws, for the parts of a cutting of d (size bytes long, gap ms of patience). Ready: the gateway holds no slot as this call finds
-- the table. Filling t ps: a slot opened at t holds the parts ps, and they do not cover the datagram.
pub record Laws (E : Engine) (parts : List Part) (d : List ℕ) (size gap : ℕ) : Type 1 where
  pub Good : E.State → Type 0
  pub Ready : E.State → E.Call → Type 0
  pub Filling : E.State → ℕ → List Part → Type 0
  -- a call that leaves the key's gateway listed: every call, as long as the gateways are fixed
  pub Allowed : E.Call → Type 0
  -- a call brings one part at most
  pub one : (c : E.Call) → (E.comes c ≡ []) ⊎ ((p : Part) × (E.comes c ≡ p ∷ []))
  pub good : (σ : E.State) (c : E.Call) → Good σ → Allowed c → Good (E.next σ c)
  pub ticks : (σ : E.State) (c : E.Call) → Good σ → E.last σ ≤ E.after (E.last σ) c → E.last (E.next σ c) ≡ E.after (E.last σ) c
  -- law 1
  pub elsewhere : (σ : E.State) (c : E.Call) (t : ℕ) (ps : List Part) → Good σ → Filling σ t ps → E.last σ ≤ E.after (E.last σ) c
      → E.after (E.last σ) c < t + gap → E.comes c ≡ [] → Allowed c → Filling (E.next σ c) t ps
  -- law 2
  pub more : (σ : E.State) (c : E.Call) (t : ℕ) (ps : List Part) (q : Part) → Good σ → Filling σ t ps → E.last σ ≤ E.after (E.last σ) c
      → E.after (E.last σ) c < t + gap → E.comes c ≡ q ∷ [] → In q parts → (Covers size (q ∷ ps) → ⊥)
      → (E.reply σ c ≡ kept) × Filling (E.next σ c) t (q ∷ ps)
  pub done : (σ : E.State) (c : E.Call) (t : ℕ) (ps : List Part) (q : Part) → Good σ → Filling σ t ps → E.last σ ≤ E.after (E.last σ) c
      → E.after (E.last σ) c < t + gap → E.comes c ≡ q ∷ [] → In q parts → (Covers size ps → ⊥) → Covers size (q ∷ ps) → E.reply σ c ≡ out d
  -- law 3
  pub first : (σ : E.State) (c : E.Call) (q : Part) → Good σ → Ready σ c → E.last σ ≤ E.after (E.last σ) c
      → E.comes c ≡ q ∷ [] → In q parts → (Covers size (q ∷ []) → ⊥)
      → (E.reply σ c ≡ kept) × Filling (E.next σ c) (E.after (E.last σ) c) (q ∷ [])
  pub at_once : (σ : E.State) (c : E.Call) (q : Part) → Good σ → Ready σ c → E.last σ ≤ E.after (E.last σ) c
      → E.comes c ≡ q ∷ [] → In q parts → Covers size (q ∷ []) → E.reply σ c ≡ out d

-- ---- coverage goes by membership

pub covers-by : (size : ℕ) (ps qs : List Part) → ((p : Part) → In p ps → In p qs) → Covers size ps → Covers size qs
covers-by size ps qs f c x h = let w = c x h in (w.0, f w.0 w.1, w.2)

pub In-left : {A : Type 0} (a : A) (ps qs : List A) → In a ps → In a (ps ++ qs)
In-left a [] qs m = absurd m
In-left a (p ∷ ps) qs (inl e) = inl e
In-left a (p ∷ ps) qs (inr m) = inr (In-left a ps qs m)

pub In-right : {A : Type 0} (a : A) (ps qs : List A) → In a qs → In a (ps ++ qs)
In-right a [] qs m = m
In-right a (p ∷ ps) qs m = inr (In-right a ps qs m)

pub In-cases : {A : Type 0} (a : A) (ps qs : List A) → In a (ps ++ qs) → In a ps ⊎ In a qs
In-cases a [] qs m = inr m
In-cases a (p ∷ ps) qs (inl e) = inl (inl e)
In-cases a (p ∷ ps) qs (inr m) = go (In-cases a ps qs m)
  where
    go : In a ps ⊎ In a qs → In a (p ∷ ps) ⊎ In a qs
    go (inl h) = inl (inr h)
    go (inr h) = inr h

-- ---- a run in two pieces

module _ (E : Engine) where
  clock-grows : (n : ℕ) (cs : List E.Call) → Clock E n cs → n ≤ clock E n cs
  unfolding Clock clock
  clock-grows n [] k = omega arith
  clock-grows n (c ∷ cs) k = let r = clock-grows (E.after n c) cs k.1 in omega (arith, k.0)

  pub clock-append : (xs ys : List E.Call) (n : ℕ) → clock E n (xs ++ ys) ≡ clock E (clock E n xs) ys
  unfolding clock
  clock-append [] ys n = refl
  clock-append (x ∷ xs) ys n = clock-append xs ys (E.after n x)

  pub Clock-left : (xs ys : List E.Call) (n : ℕ) → Clock E n (xs ++ ys) → Clock E n xs
  unfolding Clock
  Clock-left [] ys n k = tt
  Clock-left (x ∷ xs) ys n k = (k.0, Clock-left xs ys (E.after n x) k.1)

  pub Clock-right : (xs ys : List E.Call) (n : ℕ) → Clock E n (xs ++ ys) → Clock E (clock E n xs) ys
  unfolding Clock clock
  Clock-right [] ys n k = k
  Clock-right (x ∷ xs) ys n k = Clock-right xs ys (E.after n x) k.1

  pub came-append : (xs ys : List E.Call) → came E (xs ++ ys) ≡ came E xs ++ came E ys
  unfolding came
  came-append [] ys = refl
  came-append (x ∷ xs) ys =
      ap (λ (ps : List Part). E.comes x ++ ps) (came-append xs ys) ∙ sym (append_assoc (E.comes x) (came E xs) (came E ys))

module _ (E : Engine) (parts : List Part) (d : List ℕ) (size gap : ℕ) (L : Laws E parts d size gap) where
  -- what is left of a run after the earliest part, while the parts that came do not cover
  pub record Filled (cs : List E.Call) (σ : E.State) (t : ℕ) (ps : List Part) : Type 0 where
    pub all-kept : AllKept E σ cs
    pub good : L.Good (runs E σ cs)
    pub time : E.last (runs E σ cs) ≡ clock E (E.last σ) cs
    pub held : List Part
    pub fills : L.Filling (runs E σ cs) t held
    pub down : (p : Part) → In p held → In p (came E cs ++ ps)
    pub up : (p : Part) → In p (came E cs ++ ps) → In p held

  abbrev Fills : List E.Call → Type 0
  Fills cs = (σ : E.State) (t : ℕ) (ps : List Part) → L.Good σ → L.Filling σ t ps
      → Clock E (E.last σ) cs → clock E (E.last σ) cs < t + gap
      → ((p : Part) → In p (came E cs) → In p parts)
      → (Covers size (came E cs ++ ps) → ⊥)
      → ((x : E.Call) → In x cs → L.Allowed x)
      → Filled cs σ t ps

  module _ (c : E.Call) (cs : List E.Call) (ih : Fills cs) (σ : E.State) (t : ℕ) (ps : List Part) (G : L.Good σ) (F : L.Filling σ t ps)
      (k : Clock E (E.last σ) (c ∷ cs)) (y : clock E (E.last σ) (c ∷ cs) < t + gap)
      (cut : (p : Part) → In p (came E (c ∷ cs)) → In p parts) (nc : Covers size (came E (c ∷ cs) ++ ps) → ⊥)
      (al : (x : E.Call) → In x (c ∷ cs) → L.Allowed x) where
    le : E.last σ ≤ E.after (E.last σ) c
    unfolding Clock
    le = k.0

    tick : E.last (E.next σ c) ≡ E.after (E.last σ) c
    tick = L.ticks σ c G le

    rest-clock : Clock E (E.last (E.next σ c)) cs
    unfolding Clock
    rest-clock = rw tick k.1

    rest-time : clock E (E.last (E.next σ c)) cs < t + gap
    unfolding clock
    rest-time = rw tick y

    now-time : E.after (E.last σ) c < t + gap
    unfolding clock Clock
    now-time = omega (arith, clock-grows E (E.after (E.last σ) c) cs k.1, y)

    -- a part of the rest, or of what came before, is one of the whole
    later : (p : Part) → In p (came E cs) → In p (came E (c ∷ cs) ++ ps)
    unfolding came
    later p m = In-left p (E.comes c ++ came E cs) ps (In-right p (E.comes c) (came E cs) m)

    earlier : (p : Part) → In p ps → In p (came E (c ∷ cs) ++ ps)
    earlier p m = In-right p (came E (c ∷ cs)) ps m

    cut-rest : (p : Part) → In p (came E cs) → In p parts
    unfolding came
    cut-rest p m = cut p (In-right p (E.comes c) (came E cs) m)

    -- a call that brings nothing under the key
    skip : E.comes c ≡ [] → Filled (c ∷ cs) σ t ps
    unfolding AllKept runs clock came
    skip e =
        let R = ih (E.next σ c) t ps (L.good σ c G (al c (inl refl))) (L.elsewhere σ c t ps G F le now-time e (al c (inl refl))) rest-clock rest-time cut-rest
        (λ C. nc (covers-by size (came E cs ++ ps) (came E (c ∷ cs) ++ ps) up' C)) (λ x m. al x (inr m)) in
        record {
          all-kept = ((λ p e'. let z : ◌≡◌ {A = List Part} [] (p ∷ []) = sym e ∙ e' in let w : ◌≡◌ {A = ℕ} 0 1 = cc in absurd (omega arith)), R.all-kept);
          good = R.good;
          time = rw tick at R.time;
          held = R.held;
          fills = R.fills;
          down = λ p m. up' p (R.down p m);
          up = λ p m. R.up p (back p m);
        }
      where
        up' : (p : Part) → In p (came E cs ++ ps) → In p (came E (c ∷ cs) ++ ps)
        up' p m = go (In-cases p (came E cs) ps m)
          where
            go : In p (came E cs) ⊎ In p ps → In p (came E (c ∷ cs) ++ ps)
            go (inl h) = later p h
            go (inr h) = earlier p h

        back : (p : Part) → In p (came E (c ∷ cs) ++ ps) → In p (came E cs ++ ps)
        back p m = rw e at m

    -- a call that brings a part of the cutting, which does not yet cover
    take-one : (q : Part) → E.comes c ≡ q ∷ [] → Filled (c ∷ cs) σ t ps
    unfolding AllKept runs clock came
    take-one q e =
        let r = L.more σ c t ps q G F le now-time e (cut q mine) nc-now in
        let R = ih (E.next σ c) t (q ∷ ps) (L.good σ c G (al c (inl refl))) r.1 rest-clock rest-time cut-rest
        (λ C. nc (covers-by size (came E cs ++ (q ∷ ps)) (came E (c ∷ cs) ++ ps) up' C)) (λ x m. al x (inr m)) in
        record {
          all-kept = ((λ p e'. r.0), R.all-kept);
          good = R.good;
          time = rw tick at R.time;
          held = R.held;
          fills = R.fills;
          down = λ p m. up' p (R.down p m);
          up = λ p m. R.up p (back p (rw e at m));
        }
      where
        mine : In q (E.comes c ++ came E cs)
        mine = rw e (inl refl)

        here : In q (came E (c ∷ cs) ++ ps)
        here = In-left q (E.comes c ++ came E cs) ps mine

        up-q : (p : Part) → In p (q ∷ ps) → In p (came E (c ∷ cs) ++ ps)
        up-q p (inl z) = rw z here
        up-q p (inr m) = earlier p m

        up' : (p : Part) → In p (came E cs ++ (q ∷ ps)) → In p (came E (c ∷ cs) ++ ps)
        up' p m = go (In-cases p (came E cs) (q ∷ ps) m)
          where
            go : In p (came E cs) ⊎ In p (q ∷ ps) → In p (came E (c ∷ cs) ++ ps)
            go (inl h) = later p h
            go (inr h) = up-q p h

        nc-now : Covers size (q ∷ ps) → ⊥
        nc-now C = nc (covers-by size (q ∷ ps) (came E (c ∷ cs) ++ ps) up-q C)

        back : (p : Part) → In p ((q ∷ came E cs) ++ ps) → In p (came E cs ++ (q ∷ ps))
        back p (inl z) = In-right p (came E cs) (q ∷ ps) (inl z)
        back p (inr m) = go (In-cases p (came E cs) ps m)
          where
            go : In p (came E cs) ⊎ In p ps → In p (came E cs ++ (q ∷ ps))
            go (inl h) = In-left p (came E cs) (q ∷ ps) h
            go (inr h) = In-right p (came E cs) (q ∷ ps) (inr h)

    fill_step : Filled (c ∷ cs) σ t ps
    fill_step = go (L.one c)
      where
        go : (E.comes c ≡ []) ⊎ ((p : Part) × (E.comes c ≡ p ∷ [])) → Filled (c ∷ cs) σ t ps
        go (inl e) = skip e
        go (inr e) = take-one e.0 e.1

  -- Calls after the earliest part: while the parts that came do not cover, each is kept, and the slot fills.
  pub filling : (cs : List E.Call) → Fills cs
  unfolding AllKept runs clock came
  filling [] = λ σ t ps G F k y cut nc al. record {
    all-kept = tt;
    good = G;
    time = refl;
    held = ps;
    fills = F;
    down = λ p m. m;
    up = λ p m. m;
  }
  filling (c ∷ cs) = λ σ t ps G F k y cut nc al. fill_step c cs (filling cs) σ t ps G F k y cut nc al

  pub runs_last : (cs : List E.Call) (σ : E.State) → L.Good σ → Clock E (E.last σ) cs → ((x : E.Call) → In x cs → L.Allowed x)
      → E.last (runs E σ cs) ≡ clock E (E.last σ) cs
  unfolding runs clock Clock
  runs_last [] σ G k al = refl
  runs_last (c ∷ cs) σ G k al =
      let e = L.ticks σ c G k.0 in
      rw e at (runs_last cs (E.next σ c) (L.good σ c G (al c (inl refl))) (rw e k.1) (λ x m. al x (inr m)))

  -- ---- from the earliest part to the covering call

  pub record Handed (σ : E.State) (mid : List E.Call) (c : E.Call) : Type 0 where
    -- no call for the key before the covering one hands anything out
    pub before : AllKept E σ mid
    -- the covering call hands out the datagram
    pub covering : E.reply (runs E σ mid) c ≡ out d

  -- the run's first call brings a part under the key, and its gateway is ready
  unfoldable pub Starts : E.State → List E.Call → Type 0
  Starts σ [] = ⊥
  Starts σ (c ∷ cs) = L.Ready σ c × ((q : Part) × (E.comes c ≡ q ∷ []))

  -- the clock at that first call
  unfoldable pub begun : ℕ → List E.Call → ℕ
  begun n [] = n
  begun n (c ∷ cs) = E.after n c

  alone : (c : E.Call) (σ : E.State) → L.Good σ → Starts σ (c ∷ []) → Clock E (E.last σ) (c ∷ [])
      → ((p : Part) → In p (came E (c ∷ [])) → In p parts) → Covers size (came E (c ∷ [])) → Handed σ [] c
  unfolding Starts Clock came AllKept runs
  alone c σ G S k cut C =
      let q = S.1.0 in
      let e : E.comes c ≡ q ∷ [] = S.1.1 in
      record {
        before = tt;
        covering = L.at_once σ c q G S.0 k.0 e (cut q (rw e (inl refl)))
            (covers-by size (E.comes c ++ []) (q ∷ []) (λ p m. rw e at m) C);
      }

  module _ (f : E.Call) (ms : List E.Call) (c : E.Call) (σ : E.State) (G : L.Good σ) (S : Starts σ (f ∷ (ms ++ (c ∷ []))))
      (k : Clock E (E.last σ) (f ∷ (ms ++ (c ∷ []))))
      (y : clock E (E.last σ) (f ∷ (ms ++ (c ∷ []))) < E.after (E.last σ) f + gap)
      (cut : (p : Part) → In p (came E (f ∷ (ms ++ (c ∷ [])))) → In p parts)
      (nc : Covers size (came E (f ∷ ms)) → ⊥)
      (al : (x : E.Call) → In x (f ∷ (ms ++ (c ∷ []))) → L.Allowed x)
      (C : Covers size (came E (f ∷ (ms ++ (c ∷ []))))) where
    σ₁ : E.State
    σ₁ = E.next σ f

    q₁ : Part
    unfolding Starts
    q₁ = S.1.0

    brings : E.comes f ≡ q₁ ∷ []
    unfolding Starts q₁
    brings = S.1.1

    le₁ : E.last σ ≤ E.after (E.last σ) f
    unfolding Clock
    le₁ = k.0

    tick₁ : E.last σ₁ ≡ E.after (E.last σ) f
    unfolding σ₁
    tick₁ = L.ticks σ f G le₁

    clock₁ : Clock E (E.last σ₁) (ms ++ (c ∷ []))
    unfolding Clock
    clock₁ = rw tick₁ k.1

    time₁ : clock E (clock E (E.last σ₁) ms) (c ∷ []) < E.after (E.last σ) f + gap
    unfolding clock
    time₁ = rw (tick₁, ← clock-append E ms (c ∷ []) (E.after (E.last σ) f)) y

    after_first : (E.reply σ f ≡ kept) × L.Filling σ₁ (E.after (E.last σ) f) (q₁ ∷ [])
    unfolding Starts came σ₁
    after_first = L.first σ f q₁ G S.0 le₁ brings (cut q₁ (rw brings (inl refl)))
        (λ C₁. nc (covers-by size (q₁ ∷ []) (E.comes f ++ came E ms) (λ p m. In-left p (E.comes f) (came E ms) (rw brings m)) C₁))

    -- what came before the covering call, two ways
    to-mid : (p : Part) → In p (came E ms ++ (q₁ ∷ [])) → In p (came E (f ∷ ms))
    unfolding came
    to-mid p m = go (In-cases p (came E ms) (q₁ ∷ []) m)
      where
        go : In p (came E ms) ⊎ In p (q₁ ∷ []) → In p (E.comes f ++ came E ms)
        go (inl h) = In-right p (E.comes f) (came E ms) h
        go (inr h) = In-left p (E.comes f) (came E ms) (rw brings h)

    from-mid : (p : Part) → In p (came E (f ∷ ms)) → In p (came E ms ++ (q₁ ∷ []))
    unfolding came
    from-mid p m = go (In-cases p (E.comes f) (came E ms) m)
      where
        go : In p (E.comes f) ⊎ In p (came E ms) → In p (came E ms ++ (q₁ ∷ []))
        go (inl h) = In-right p (came E ms) (q₁ ∷ []) (rw brings at h)
        go (inr h) = In-left p (came E ms) (q₁ ∷ []) h

    filled : Filled ms σ₁ (E.after (E.last σ) f) (q₁ ∷ [])
    unfolding came clock Clock
    filled = filling ms σ₁ (E.after (E.last σ) f) (q₁ ∷ []) (unfold σ₁ in (L.good σ f G (al f (inl refl)))) after_first.1
        (Clock-left E ms (c ∷ []) (E.last σ₁) clock₁)
        (omega (arith, time₁, (Clock-right E ms (c ∷ []) (E.last σ₁) clock₁).0))
        (λ p m. cut p (In-right p (E.comes f) (came E (ms ++ (c ∷ []))) (rw (came-append E ms (c ∷ [])) (In-left p (came E ms) (came E (c ∷ [])) m))))
        (λ C₁. nc (covers-by size (came E ms ++ (q₁ ∷ [])) (came E (f ∷ ms)) to-mid C₁))
        (λ x m. al x (inr (In-left x ms (c ∷ []) m)))

    last-time : E.last (runs E σ₁ ms) ≡ clock E (E.last σ₁) ms
    last-time = filled.time

    le₂ : E.last (runs E σ₁ ms) ≤ E.after (E.last (runs E σ₁ ms)) c
    unfolding Clock
    le₂ = rw last-time (Clock-right E ms (c ∷ []) (E.last σ₁) clock₁).0

    time₂ : E.after (E.last (runs E σ₁ ms)) c < E.after (E.last σ) f + gap
    unfolding clock
    time₂ = rw last-time time₁

    -- every part of the whole run came before the covering call or with it
    whole-cases : (p : Part) → In p (came E (f ∷ (ms ++ (c ∷ [])))) → In p (came E (f ∷ ms)) ⊎ In p (E.comes c)
    unfolding came
    whole-cases p m = go (In-cases p (E.comes f) (came E (ms ++ (c ∷ []))) m)
      where
        end : In p (E.comes c ++ []) → In p (E.comes c)
        end h = go₀ (In-cases p (E.comes c) [] h)
          where
            go₀ : In p (E.comes c) ⊎ In p [] → In p (E.comes c)
            go₀ (inl g) = g
            go₀ (inr g) = absurd g

        go₁ : In p (came E ms) ⊎ In p (E.comes c ++ []) → In p (E.comes f ++ came E ms) ⊎ In p (E.comes c)
        go₁ (inl h) = inl (In-right p (E.comes f) (came E ms) h)
        go₁ (inr h) = inr (end h)

        go : In p (E.comes f) ⊎ In p (came E (ms ++ (c ∷ []))) → In p (E.comes f ++ came E ms) ⊎ In p (E.comes c)
        go (inl h) = inl (In-left p (E.comes f) (came E ms) h)
        go (inr h) = go₁ (In-cases p (came E ms) (came E (c ∷ [])) (rw (came-append E ms (c ∷ [])) at h))

    last-call : E.reply (runs E σ₁ ms) c ≡ out d
    unfolding came
    last-call = go (L.one c)
      where
        go : (E.comes c ≡ []) ⊎ ((q : Part) × (E.comes c ≡ q ∷ [])) → E.reply (runs E σ₁ ms) c ≡ out d
        go (inl e) = absurd (nc (covers-by size (came E (f ∷ (ms ++ (c ∷ [])))) (came E (f ∷ ms)) (λ p m. pick p (whole-cases p m)) C))
          where
            pick : (p : Part) → In p (came E (f ∷ ms)) ⊎ In p (E.comes c) → In p (came E (f ∷ ms))
            pick p (inl h) = h
            pick p (inr h) = let z : In p [] = rw e at h in absurd z
        go (inr w) = L.done (runs E σ₁ ms) c (E.after (E.last σ) f) filled.held w.0 filled.good filled.fills le₂ time₂ w.1
            (cut w.0 (In-right w.0 (E.comes f) (came E (ms ++ (c ∷ []))) (rw (came-append E ms (c ∷ [])) (In-right w.0 (came E ms) (came E (c ∷ [])) brings-q))))
            (λ C₁. nc (covers-by size filled.held (came E (f ∷ ms)) (λ p m. to-mid p (filled.down p m)) C₁))
            (covers-by size (came E (f ∷ (ms ++ (c ∷ [])))) (w.0 ∷ filled.held) (λ p m. pick p (whole-cases p m)) C)
          where
            brings-q : In w.0 (E.comes c ++ [])
            brings-q = rw w.1 (inl refl)

            pick : (p : Part) → In p (came E (f ∷ ms)) ⊎ In p (E.comes c) → In p (w.0 ∷ filled.held)
            pick p (inl h) = inr (filled.up p (from-mid p h))
            pick p (inr h) = go₂ (rw w.1 at h)
              where
                go₂ : In p (w.0 ∷ []) → In p (w.0 ∷ filled.held)
                go₂ (inl z) = inl z
                go₂ (inr z) = absurd z

    several : Handed σ (f ∷ ms) c
    unfolding AllKept runs σ₁
    several = record {
      before = ((λ p e. after_first.0), filled.all-kept);
      covering = last-call;
    }

  -- From a good state: if the run begins with a part and a ready gateway, every part under the key is of the cutting, the parts before
  -- the last call do not cover and with it they do, and it comes less than gap after the first, then the last call hands out the
  -- datagram, and none before it does.
  pub reassembles : (mid : List E.Call) (c : E.Call) (σ : E.State) → L.Good σ → Starts σ (mid ++ (c ∷ []))
      → Clock E (E.last σ) (mid ++ (c ∷ []))
      → clock E (E.last σ) (mid ++ (c ∷ [])) < begun (E.last σ) (mid ++ (c ∷ [])) + gap
      → ((p : Part) → In p (came E (mid ++ (c ∷ []))) → In p parts)
      → (Covers size (came E mid) → ⊥)
      → ((x : E.Call) → In x (mid ++ (c ∷ [])) → L.Allowed x)
      → Covers size (came E (mid ++ (c ∷ [])))
      → Handed σ mid c
  unfolding begun
  reassembles [] c σ G S k y cut nc al C = alone c σ G S k cut C
  reassembles (f ∷ ms) c σ G S k y cut nc al C = several f ms c σ G S k y cut nc al C
