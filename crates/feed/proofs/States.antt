-- The states: each has one value; a refused call changes nothing, and which calls are refused; a partial block waits for the end.
use Prim.Native.Nat.{ℕ, ◌+◌, ◌≤◌, ◌<◌}
use native.Mathlib.Omega.{arith}
use mathlib.Core.Bool.{Bool, true, false}
use mathlib.Core.List.{List, [], ◌++◌}
use mathlib.Core.Path.{◌≡◌, refl, sym, ap, ◌∙◌}
use lib.ListN.{length, length-append, length-take}
use lib.Dec.{ltb}
use borrow.Author.Tests.{lt-ltb, le-ltb}
use Rattle.octets.specs.Read.{choose}
use Rattle.octets.specs.declared.refusal.Refusal.{Refusal}
use Rattle.octets.specs.declared.refusal.Refusal.TheVariants.{BadLength, BadBlock}
use Rattle.capture.specs.File.{pieces}
use Rattle.feed.specs.Reading.{read_on}
use Rattle.feed.specs.Feed.{padded, held_by, closed, starting, Canonical, going_on, stopped, complete, declined, answer_of, taken, while_live, after_chunk, finished, after_end}
use Rattle.feed.specs.Runs.{count_in, frames_all, frames_in}
use Rattle.feed.specs.declared.reader.Status.{Status}
use Rattle.feed.specs.declared.reader.Reader.{Reader}
use Rattle.std.specs.Prelude.{Err}
use Rattle.feed.specs.declared.reader.Fed.{Fed}
use Rattle.feed.proofs.Lists.{take-pad}
use Rattle.feed.proofs.Blocks.{rest-short, blocks-few}
use Rattle.feed.proofs.Sorting.{sort-short}

-- ---- one value for each state
canonical-closed : (b : ℕ) (x : Status) → Canonical (closed b x)
unfolding padded
canonical-closed b x = record { zeros = refl; short = omega arith; empty = λ _. refl }

pub canonical-start : Canonical starting
unfolding padded
canonical-start = record { zeros = refl; short = omega arith; empty = λ _. refl }

answer-go : (t : Bool) (bs : List (List ℕ)) (d : ℕ) (s : List ℕ) → length s < 512 → Canonical (answer_of (record { blocks = bs; due = d; bad = t; rest = s })).reader
unfolding answer_of going_on stopped
answer-go true bs d s h = canonical-closed d Status.Bad
answer-go false bs d s h = record { zeros = ap (padded 512) (sym (take-pad 512 s)); short = h; empty = λ n. absurd (n refl) }

canonical-taken : (f : Reader) (s : List ℕ) → Canonical (taken f s).reader
unfolding taken
canonical-taken f s =
    let r = read_on f.block (held_by f ++ s) in
    answer-go r.bad r.blocks r.due r.rest (rest-short f.block (held_by f ++ s))

module _ (f : Reader) (k : Canonical f) where
  declined-go : (e : Refusal) → Canonical (declined f e).reader
  unfolding declined
  declined-go e = k

  status-go : (x : Status) (a : Fed) → Canonical a.reader → Canonical (while_live x a (declined f BadBlock)).reader
  status-go Status.Live a h = h
  status-go Status.Ended a h = declined-go BadBlock
  status-go Status.Bad a h = declined-go BadBlock

  long-go : (t : Bool) (a : Fed) → Canonical a.reader → Canonical (choose t (declined f BadLength) a).reader
  long-go true a h = declined-go BadLength
  long-go false a h = h

  pub canonical-chunk : (s : List ℕ) → Canonical (after_chunk f s).reader
  unfolding after_chunk
  canonical-chunk s =
      long-go (ltb 600 (length s)) (while_live f.status (taken f s) (declined f BadBlock)) (status-go f.status (taken f s) (canonical-taken f s))

  finished-go : (t : Bool) → Canonical (choose t (stopped [] 0 f.block) (complete f.block)).reader
  unfolding stopped complete
  finished-go true = canonical-closed f.block Status.Bad
  finished-go false = canonical-closed f.block Status.Ended

  pub canonical-end : Canonical (after_end f).reader
  unfolding after_end finished
  canonical-end = status-go f.status (finished f) (finished-go (ltb 0 f.len))

  -- ---- at most two blocks: 511 + 600 < 3 * 512
  few-go : (t : Bool) (bs : List (List ℕ)) (d : ℕ) (s : List ℕ) → count_in (answer_of (record { blocks = bs; due = d; bad = t; rest = s })).found ≡ length bs
  unfolding answer_of going_on stopped
  few-go true bs d s = refl
  few-go false bs d s = refl

  few-live : (s : List ℕ) → length s ≤ 600 → count_in (taken f s).found ≤ 2
  unfolding taken
  few-live s h =
      let t = held_by f ++ s in
      let r = read_on f.block t in
      let a : length t ≤ 511 + 600 = omega (arith, length-append (held_by f) s, length-take f.len f.held, k.short) in
      let b : length r.blocks ≤ 2 = omega (arith, blocks-few f.block t) in
      rw (few-go r.bad r.blocks r.due r.rest) b

  few-status : (x : Status) (a : Fed) → count_in a.found ≤ 2 → count_in (while_live x a (declined f BadBlock)).found ≤ 2
  unfolding declined
  few-status Status.Live a h = h
  few-status Status.Ended a h = omega arith
  few-status Status.Bad a h = omega arith

  pub at_most_two : (s : List ℕ) → length s ≤ 600 → count_in (after_chunk f s).found ≤ 2
  unfolding after_chunk
  at_most_two s h = rw (le-ltb 600 (length s) h) (few-status f.status (taken f s) (few-live s h))

-- ---- what is refused
pub long-refused : (f : Reader) (s : List ℕ) → 600 < length s → after_chunk f s ≡ declined f BadLength
unfolding after_chunk
long-refused f s h = rw (lt-ltb 600 (length s) h) refl

not_live : (x : Status) (a b : Fed) → (x ≡ Status.Live → ⊥) → while_live x a b ≡ b
not_live Status.Live a b n = absurd (n refl)
not_live Status.Ended a b n = refl
not_live Status.Bad a b n = refl

pub closed-refused : (f : Reader) (s : List ℕ) → length s ≤ 600 → (f.status ≡ Status.Live → ⊥) → after_chunk f s ≡ declined f BadBlock
unfolding after_chunk
closed-refused f s h n = rw (le-ltb 600 (length s) h) (not_live f.status (taken f s) (declined f BadBlock) n)

pub end_refused : (f : Reader) → (f.status ≡ Status.Live → ⊥) → after_end f ≡ declined f BadBlock
unfolding after_end
end_refused f n = not_live f.status (finished f) (declined f BadBlock) n

-- a refusal changes nothing, and holds no frame
pub declined-stays : (f : Reader) (e : Refusal) → ((declined f e).reader ≡ f) × (frames_in (declined f e) ≡ [])
unfolding declined frames_in frames_all pieces
declined-stays f e = (refl, refl)

-- nothing else is refused
module _ (f : Reader) (e : Refusal) where
  found-go : (t : Bool) (bs : List (List ℕ)) (d : ℕ) (s : List ℕ) (a : Fed) → (answer_of (record { blocks = bs; due = d; bad = t; rest = s })).found ≡ Err e → answer_of (record { blocks = bs; due = d; bad = t; rest = s }) ≡ a
  unfolding answer_of going_on stopped
  found-go true bs d s a p = let z : ◌≡◌ {A = ℕ} 0 1 = cc in absurd (omega arith)
  found-go false bs d s a p = let z : ◌≡◌ {A = ℕ} 0 1 = cc in absurd (omega arith)

  same-go : (g : Refusal) → (declined f g).found ≡ Err e → declined f g ≡ declined f e
  unfolding declined
  same-go g p = let q : g ≡ e = cc in ap (λ (x : Refusal). declined f x) q

  taken-found : (s : List ℕ) → (taken f s).found ≡ Err e → taken f s ≡ declined f e
  unfolding taken
  taken-found s p = let r = read_on f.block (held_by f ++ s) in found-go r.bad r.blocks r.due r.rest (declined f e) p

  status-found : (x : Status) (a : Fed) → (a.found ≡ Err e → a ≡ declined f e) → (while_live x a (declined f BadBlock)).found ≡ Err e → while_live x a (declined f BadBlock) ≡ declined f e
  status-found Status.Live a h p = h p
  status-found Status.Ended a h p = same-go BadBlock p
  status-found Status.Bad a h p = same-go BadBlock p

  long-found : (t : Bool) (a : Fed) → (a.found ≡ Err e → a ≡ declined f e) → (choose t (declined f BadLength) a).found ≡ Err e → choose t (declined f BadLength) a ≡ declined f e
  long-found true a h p = same-go BadLength p
  long-found false a h p = h p

  -- a refused chunk, and a refused end: the reader stays
  pub refused-stays : (s : List ℕ) → (after_chunk f s).found ≡ Err e → after_chunk f s ≡ declined f e
  unfolding after_chunk
  refused-stays s p = long-found (ltb 600 (length s)) _ (status-found f.status (taken f s) (taken-found s)) p

  end-go : (t : Bool) (a : Fed) → (choose t (stopped [] 0 f.block) (complete f.block)).found ≡ Err e → choose t (stopped [] 0 f.block) (complete f.block) ≡ a
  unfolding stopped complete
  end-go true a p = let z : ◌≡◌ {A = ℕ} 0 1 = cc in absurd (omega arith)
  end-go false a p = let z : ◌≡◌ {A = ℕ} 0 1 = cc in absurd (omega arith)

  pub end_stays : (after_end f).found ≡ Err e → after_end f ≡ declined f e
  unfolding after_end finished
  end_stays p = status-found f.status (finished f) (end-go (ltb 0 f.len) (declined f e)) p

-- ---- a partial block: it waits while more is to come, and is bad at the end
pub partial-waits : (f : Reader) (s : List ℕ) → length s ≤ 600 → f.status ≡ Status.Live → length (held_by f ++ s) < 512 → after_chunk f s ≡ going_on [] 0 f.block (held_by f ++ s)
unfolding after_chunk taken
partial-waits f s h e k =
    let a : while_live f.status (taken f s) (declined f BadBlock) ≡ taken f s = ap (λ x. while_live x (taken f s) (declined f BadBlock)) e in
    ap (λ t. choose t (declined f BadLength) (while_live f.status (taken f s) (declined f BadBlock))) (le-ltb 600 (length s) h)
    ∙ a
    ∙ sym (sort-short f.block (held_by f ++ s) k)

pub partial-ends : (f : Reader) → f.status ≡ Status.Live → 0 < f.len → after_end f ≡ stopped [] 0 f.block
unfolding after_end finished
partial-ends f e h =
    ap (λ x. while_live x (finished f) (declined f BadBlock)) e
    ∙ ap (λ t. choose t (stopped [] 0 f.block) (complete f.block)) (lt-ltb 0 f.len h)
