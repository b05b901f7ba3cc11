-- What the contracts come to. For every cutting of a file into chunks of at most 600 bytes the frames, the times and the first thing that
-- went wrong are those of the whole file, and the last readers agree; a refused call changes nothing; and no contract leaves a second answer.
use Prim.Native.Nat.{ℕ, ◌-◌, ◌≤◌}
use mathlib.Core.Bool.{Bool, true, false}
use mathlib.Core.List.{List, [], ◌∷◌, ◌++◌, append_assoc, append-nil}
use mathlib.Core.Path.{◌≡◌, refl, sym, ap, ap₂, ◌∙◌}
use lib.ListN.{length, replicate}
use lib.Dec.{ltb}
use borrow.Author.Tests.{le-ltb}
use Rattle.octets.specs.Read.{choose}
use Rattle.octets.specs.Refusal.{number_of}
use Rattle.octets.specs.declared.refusal.Refusal.{Refusal}
use Rattle.octets.specs.declared.refusal.Refusal.TheVariants.{BadBlock}
use Rattle.capture.specs.Block.{Timed, frames_of}
use Rattle.capture.specs.File.{First, none, bad_at, refusal, FramesTold, pieces, whole_file, joined}
use Rattle.feed.specs.Reading.{Reading, behind, read_blocks, read_on}
use Rattle.feed.specs.Feed.{padded, live, closed, starting, going_on, stopped, complete, declined, answer_of, taken, after_chunk, finished, after_end}
use Rattle.feed.specs.Runs.{first_in, frames_all, frames_in, told_in, first_of, and_told, feed_all, and_end, feed_file, Short}
use Rattle.feed.specs.declared.reader.Status.{Status}
use Rattle.feed.specs.declared.reader.Reader.{Reader}
use Rattle.feed.specs.declared.reader.Fed.{Fed}
use Rattle.feed.proofs.Lists.{take-pad}
use Rattle.feed.proofs.Blocks.{onward, read-append, pieces-back, first_by, told_by, tell-is}

-- ---- any two answers are equal
pub chunk-one : (f : Reader) (s : List ℕ) (y z : Fed) → y ≡ after_chunk f s → z ≡ after_chunk f s → y ≡ z
chunk-one f s y z p q = p ∙ sym q

pub end-one : (f : Reader) (y z : Fed) → y ≡ after_end f → z ≡ after_end f → y ≡ z
end-one f y z p q = p ∙ sym q

-- ---- the reader that has read r, and what was told up to there
abbrev pub reader_of : Reading → Reader
reader_of r = (answer_of r).reader

abbrev pub part_by : Reading → FramesTold
part_by r = record { frames = frames_all r.blocks; first = first_by r }

-- ---- an answer tells what was read
frames-go : (t : Bool) (bs : List (List ℕ)) (d : ℕ) (s : List ℕ) → frames_in (answer_of (record { blocks = bs; due = d; bad = t; rest = s })) ≡ frames_all (pieces (length bs) (padded 1024 (joined bs)))
unfolding frames_in answer_of going_on stopped
frames-go true bs d s = refl
frames-go false bs d s = refl

frames-read : (b : ℕ) (s : List ℕ) → frames_in (answer_of (read_on b s)) ≡ frames_all (read_on b s).blocks
unfolding padded
frames-read b s =
    let r = read_on b s in
    frames-go r.bad r.blocks r.due r.rest
    ∙ ap frames_all (pieces-back b s (replicate (1024 - length (joined r.blocks)) 0))

first-go : (t : Bool) (bs : List (List ℕ)) (d : ℕ) (s : List ℕ) → first_in (answer_of (record { blocks = bs; due = d; bad = t; rest = s })).found ≡ choose t (bad_at d) none
unfolding answer_of going_on stopped
first-go true bs d s = refl
first-go false bs d s = refl

told-read : (b : ℕ) (s : List ℕ) → told_in (answer_of (read_on b s)) ≡ part_by (read_on b s)
told-read b s =
    let r = read_on b s in
    ap₂ (λ (x : List Timed) (y : First). record { frames = x; first = y }) (frames-read b s) (first-go r.bad r.blocks r.due r.rest)

-- ---- one chunk
chunk-live : (d : ℕ) (s c : List ℕ) → length c ≤ 600 → after_chunk (live d s) c ≡ answer_of (read_on d (s ++ c))
unfolding after_chunk taken
chunk-live d s c h = rw (le-ltb 600 (length c) h) (ap (λ x. answer_of (read_on d (x ++ c))) (take-pad 512 s))

chunk-bad : (d : ℕ) (c : List ℕ) → length c ≤ 600 → after_chunk (closed d Status.Bad) c ≡ declined (closed d Status.Bad) BadBlock
unfolding after_chunk
chunk-bad d c h = rw (le-ltb 600 (length c) h) refl

frames-append : (bs cs : List (List ℕ)) → frames_all (bs ++ cs) ≡ frames_all bs ++ frames_all cs
unfolding frames_all
frames-append [] cs = refl
frames-append (b ∷ bs) cs = ap (λ x. frames_of b ++ x) (frames-append bs cs) ∙ sym (append_assoc (frames_of b) (frames_all bs) (frames_all cs))

behind_go : (t : Bool) (bs cs : List (List ℕ)) (d : ℕ) (s : List ℕ) → reader_of (record { blocks = cs; due = d; bad = t; rest = s }) ≡ reader_of (record { blocks = bs ++ cs; due = d; bad = t; rest = s })
unfolding answer_of going_on stopped
behind_go true bs cs d s = refl
behind_go false bs cs d s = refl

reader-behind : (bs : List (List ℕ)) (r : Reading) → reader_of r ≡ reader_of (behind bs r)
reader-behind bs r = behind_go r.bad bs r.blocks r.due r.rest

reader-go : (t : Bool) (bs : List (List ℕ)) (d : ℕ) (s c : List ℕ) → length c ≤ 600
    → (after_chunk (reader_of (record { blocks = bs; due = d; bad = t; rest = s })) c).reader ≡ reader_of (onward (record { blocks = bs; due = d; bad = t; rest = s }) c)
unfolding answer_of going_on stopped declined
reader-go true bs d s c h = ap (λ (a : Fed). a.reader) (chunk-bad d c h)
reader-go false bs d s c h = ap (λ (a : Fed). a.reader) (chunk-live d s c h) ∙ reader-behind bs (read_on d (s ++ c))

told-declined : (x : FramesTold) (f : Reader) (e : Refusal) → and_told x (told_in (declined f e)) ≡ record { frames = x.frames; first = first_of x.first (refusal (number_of e)) }
unfolding declined frames_in frames_all pieces
told-declined x f e = ap (λ (l : List Timed). record { frames = l; first = first_of x.first (refusal (number_of e)) }) (append-nil x.frames)

told-go : (t : Bool) (bs : List (List ℕ)) (d : ℕ) (s c : List ℕ) → length c ≤ 600
    → and_told (part_by (record { blocks = bs; due = d; bad = t; rest = s })) (told_in (after_chunk (reader_of (record { blocks = bs; due = d; bad = t; rest = s })) c))
    ≡ part_by (onward (record { blocks = bs; due = d; bad = t; rest = s }) c)
unfolding answer_of going_on stopped
told-go true bs d s c h =
    let x : FramesTold = record { frames = frames_all bs; first = bad_at d } in
    ap (λ (a : Fed). and_told x (told_in a)) (chunk-bad d c h) ∙ told-declined x (closed d Status.Bad) BadBlock
told-go false bs d s c h =
    let q = read_on d (s ++ c) in
    let x : FramesTold = record { frames = frames_all bs; first = none } in
    ap (λ (a : Fed). and_told x (told_in a)) (chunk-live d s c h)
    ∙ ap (and_told x) (told-read d (s ++ c))
    ∙ ap (λ (l : List Timed). record { frames = l; first = first_by q }) (sym (frames-append bs q.blocks))

module _ (r : Reading) (c : List ℕ) (h : length c ≤ 600) where
  reader-on : (after_chunk (reader_of r) c).reader ≡ reader_of (onward r c)
  reader-on = reader-go r.bad r.blocks r.due r.rest c h

  told-on : and_told (part_by r) (told_in (after_chunk (reader_of r) c)) ≡ part_by (onward r c)
  told-on = told-go r.bad r.blocks r.due r.rest c h

-- ---- the end
end-go : (t u : Bool) (bs : List (List ℕ)) (d : ℕ) (s : List ℕ) → ltb 0 (length s) ≡ u
    → and_told (part_by (record { blocks = bs; due = d; bad = t; rest = s })) (told_in (after_end (reader_of (record { blocks = bs; due = d; bad = t; rest = s })))) ≡ told_by (record { blocks = bs; due = d; bad = t; rest = s })
unfolding answer_of going_on stopped complete after_end finished declined frames_in frames_all pieces
end-go true u bs d s g = ap (λ (l : List Timed). record { frames = l; first = bad_at d }) (append-nil (frames_all bs))
end-go false true bs d s g = rw g (ap (λ (l : List Timed). record { frames = l; first = bad_at d }) (append-nil (frames_all bs)))
end-go false false bs d s g = rw g (ap (λ (l : List Timed). record { frames = l; first = none }) (append-nil (frames_all bs)))

told-end : (r : Reading) → and_told (part_by r) (told_in (after_end (reader_of r))) ≡ told_by r
told-end r = end-go r.bad (ltb 0 (length r.rest)) r.blocks r.due r.rest refl

-- ---- chunk after chunk
unfoldable on_all : Reading → List (List ℕ) → Reading
on_all r [] = r
on_all r (c ∷ cs) = on_all (onward r c) cs

read_all : (b : ℕ) (s : List ℕ) (cs : List (List ℕ)) → on_all (read_on b s) cs ≡ read_on b (s ++ joined cs)
unfolding on_all joined
read_all b s [] = sym (ap (read_on b) (append-nil s))
read_all b s (c ∷ cs) = ap (λ r. on_all r cs) (sym (read-append b s c)) ∙ read_all b (s ++ c) cs ∙ ap (read_on b) (append_assoc s c (joined cs))

first-assoc : (x y z : First) → first_of x (first_of y z) ≡ first_of (first_of x y) z
first-assoc none y z = refl
first-assoc (bad_at b) y z = refl
first-assoc (refusal n) y z = refl

first-none : (x : First) → first_of x none ≡ x
first-none none = refl
first-none (bad_at b) = refl
first-none (refusal n) = refl

told-assoc : (x y z : FramesTold) → and_told x (and_told y z) ≡ and_told (and_told x y) z
told-assoc x y z =
    ap₂ (λ (l : List Timed) (f : First). record { frames = l; first = f }) (sym (append_assoc x.frames y.frames z.frames)) (first-assoc x.first y.first z.first)

readers : (r : Reading) (cs : List (List ℕ)) → Short cs → (feed_all (reader_of r) cs).reader ≡ reader_of (on_all r cs)
unfolding feed_all on_all Short
readers r [] h = refl
readers r (c ∷ cs) h = ap (λ f. (feed_all f cs).reader) (reader-on r c h.0) ∙ readers (onward r c) cs h.1

tellings : (r : Reading) (cs : List (List ℕ)) → Short cs → and_told (part_by r) (feed_all (reader_of r) cs).told ≡ part_by (on_all r cs)
unfolding feed_all on_all Short
tellings r [] h = ap (λ (l : List Timed). record { frames = l; first = first_of (first_by r) none }) (append-nil (frames_all r.blocks)) ∙ ap (λ (f : First). record { frames = frames_all r.blocks; first = f }) (first-none (first_by r))
tellings r (c ∷ cs) h =
    told-assoc (part_by r) (told_in (after_chunk (reader_of r) c)) (feed_all (after_chunk (reader_of r) c).reader cs).told
    ∙ ap₂ (λ x f. and_told x (feed_all f cs).told) (told-on r c h.0) (reader-on r c h.0)
    ∙ tellings (onward r c) cs h.1

-- ---- every cutting
begun : starting ≡ reader_of (read_on 0 [])
unfolding answer_of going_on padded read_blocks
begun = refl

nothing : (x : FramesTold) → and_told (part_by (read_on 0 [])) x ≡ x
unfolding read_blocks frames_all
nothing x = refl

module _ (cs : List (List ℕ)) (h : Short cs) where
  -- up to the end: what was told, and the reader, are those of the bytes
  pub told-so-far : (feed_all starting cs).told ≡ part_by (read_on 0 (joined cs))
  told-so-far =
      sym (nothing (feed_all starting cs).told)
      ∙ ap (λ f. and_told (part_by (read_on 0 [])) (feed_all f cs).told) begun
      ∙ tellings (read_on 0 []) cs h
      ∙ ap part_by (read_all 0 [] cs)

  pub reader-so-far : (feed_all starting cs).reader ≡ reader_of (read_on 0 (joined cs))
  reader-so-far = ap (λ f. (feed_all f cs).reader) begun ∙ readers (read_on 0 []) cs h ∙ ap reader_of (read_all 0 [] cs)

  -- the frames, the times and the first refusal are those of the whole file
  pub every-cutting : (feed_file starting cs).told ≡ whole_file (joined cs)
  unfolding whole_file
  every-cutting =
      let r = read_on 0 (joined cs) in
      ap₂ (λ x f. and_told x (told_in (after_end f))) told-so-far reader-so-far
      ∙ told-end r
      ∙ sym (tell-is 0 (joined cs))

-- the last readers agree, before the end and behind it
pub last-readers : (cs ds : List (List ℕ)) → Short cs → Short ds → joined cs ≡ joined ds → (feed_all starting cs ≡ feed_all starting ds) × (feed_file starting cs ≡ feed_file starting ds)
last-readers cs ds h k e =
    let t = told-so-far cs h ∙ ap (λ s. part_by (read_on 0 s)) e ∙ sym (told-so-far ds k) in
    let f = reader-so-far cs h ∙ ap (λ s. reader_of (read_on 0 s)) e ∙ sym (reader-so-far ds k) in
    let q : feed_all starting cs ≡ feed_all starting ds = ap₂ (λ (x : FramesTold) (y : Reader). record { told = x; reader = y }) t f in
    (q, ap and_end q)
