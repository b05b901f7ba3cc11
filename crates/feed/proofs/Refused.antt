-- A refused call changes nothing: a run with refused calls is the run without them, and chunks that are too long,
-- wherever they come, leave the frames of the whole file as they are.
use Prim.Native.Nat.{ℕ}
use native.Mathlib.Omega.{arith}
use mathlib.Core.Bool.{Bool, true, false}
use mathlib.Core.List.{List, [], ◌∷◌, ◌++◌}
use mathlib.Core.Path.{◌≡◌, refl, sym, ap, ap₂, ◌∙◌}
use lib.ListN.{length}
use lib.Dec.{leb}
use borrow.Author.Tests.{leb-true, leb-false}
use Rattle.octets.specs.declared.refusal.Refusal.{Refusal}
use Rattle.octets.specs.declared.refusal.Refusal.TheVariants.{BadLength}
use Rattle.capture.specs.Block.{Timed}
use Rattle.capture.specs.File.{FramesTold, joined, whole_file}
use Rattle.feed.specs.Feed.{starting, declined, after_chunk, after_end}
use Rattle.feed.specs.Runs.{frames_in, feed_all, feed_file, Short, short_ones, Alike}
use Rattle.feed.specs.Runs.{Call, piece, finish, answered, Session, call_all}
use Rattle.feed.specs.Runs.{is_refused, accepted, granted, without_refused}
use Rattle.feed.specs.declared.reader.Reader.{Reader}
use Rattle.std.specs.Prelude.{Result, Ok, Err}
use Rattle.feed.specs.declared.reader.Found.{Found}
use Rattle.feed.specs.declared.reader.Fed.{Fed}
use Rattle.feed.proofs.States.{long-refused, refused-stays, end_stays, declined-stays}
use Rattle.feed.proofs.Promises.{every-cutting}

-- ---- one call
module _ (f : Reader) where
  declined-of : (e : Refusal) (c : Call) → (answered f c).found ≡ Err e → answered f c ≡ declined f e
  declined-of e (piece s) p = refused-stays f e s p
  declined-of e finish p = end_stays f e p

  reader-of : (c : Call) (x : Result Found Refusal) → (answered f c).found ≡ x → is_refused x ≡ true → (answered f c).reader ≡ f
  reader-of c (Ok (Found.Blocks n)) p t = let z : ◌≡◌ {A = ℕ} 0 1 = cc in absurd (omega arith)
  reader-of c (Ok (Found.Bad n b)) p t = let z : ◌≡◌ {A = ℕ} 0 1 = cc in absurd (omega arith)
  reader-of c (Err e) p t = ap (λ (a : Fed). a.reader) (declined-of e c p) ∙ (declined-stays f e).0

  pub refused-call : (c : Call) → is_refused (answered f c).found ≡ true → (answered f c).reader ≡ f
  refused-call c t = reader-of c (answered f c).found refl t

-- ---- any calls, in any order
abbrev on : Reader → Call → Reader
on f c = (answered f c).reader

step : (t : Bool) (f : Reader) (c : Call) (cs : List Call) → is_refused (answered f c).found ≡ t
    → call_all (on f c) (accepted (on f c) cs) ≡ without_refused (call_all (on f c) cs)
    → call_all f (accepted f (c ∷ cs)) ≡ without_refused (call_all f (c ∷ cs))
unfolding call_all accepted granted
step true f c cs t h = rw t (ap (λ (x : Reader). call_all x (accepted (on f c) cs)) (sym (refused-call f c t)) ∙ h)
step false f c cs t h =
    rw t (ap (λ (q : Session). record { answers = answered f c ∷ q.answers; reader = q.reader }) h)

-- the run of the calls that are not refused has the other answers, and the last reader is the same
pub without-refused : (f : Reader) (cs : List Call) → call_all f (accepted f cs) ≡ without_refused (call_all f cs)
unfolding call_all accepted granted
without-refused f [] = refl
without-refused f (c ∷ cs) = step (is_refused (answered f c).found) f c cs refl (without-refused (on f c) cs)

-- ---- chunks that are too long, among others
short-go : (t : Bool) (s : List ℕ) (ss : List (List ℕ)) → leb (length s) 600 ≡ t
    → Short (short_ones ss)
    → Short (short_ones (s ∷ ss))
unfolding Short short_ones
short-go true s ss e h = rw e (leb-true (length s) 600 e, h)
short-go false s ss e h = rw e h

short-ones : (cs : List (List ℕ)) → Short (short_ones cs)
unfolding Short short_ones
short-ones [] = tt
short-ones (s ∷ ss) = short-go (leb (length s) 600) s ss refl (short-ones ss)

alike-go : (t : Bool) (f : Reader) (s : List ℕ) (ss : List (List ℕ)) → leb (length s) 600 ≡ t
    → ((g : Reader) → Alike (feed_all g ss) (feed_all g (short_ones ss)))
    → Alike (feed_all f (s ∷ ss)) (feed_all f (short_ones (s ∷ ss)))
unfolding feed_all short_ones
alike-go true f s ss e h =
    let k = h (after_chunk f s).reader in
    rw e (ap (λ (l : List Timed). frames_in (after_chunk f s) ++ l) k.0, k.1)
alike-go false f s ss e h =
    let p = long-refused f s (leb-false (length s) 600 e) in
    let a : (after_chunk f s).reader ≡ f = ap (λ (x : Fed). x.reader) p ∙ (declined-stays f BadLength).0 in
    let b : frames_in (after_chunk f s) ≡ [] = ap frames_in p ∙ (declined-stays f BadLength).1 in
    let l = ap₂ (λ (x : List Timed) (g : Reader). x ++ (feed_all g ss).told.frames) b a in
    rw e (l ∙ (h f).0, ap (λ (g : Reader). (feed_all g ss).reader) a ∙ (h f).1)

pub long-ones-out : (f : Reader) (cs : List (List ℕ)) → Alike (feed_all f cs) (feed_all f (short_ones cs))
unfolding feed_all short_ones
long-ones-out f [] = (refl, refl)
long-ones-out f (s ∷ ss) = alike-go (leb (length s) 600) f s ss refl (λ g. long-ones-out g ss)

module _ (cs : List (List ℕ)) where
  pub ends-alike : Alike (feed_file starting cs) (feed_file starting (short_ones cs))
  ends-alike =
      let h = long-ones-out starting cs in
      let l = ap₂ (λ (x : List Timed) (g : Reader). x ++ frames_in (after_end g)) h.0 h.1 in
      (l, ap (λ (g : Reader). (after_end g).reader) h.1)

  -- the frames and times are those of the file that the chunks of at most 600 bytes make
  pub every-cutting-among : (feed_file starting cs).told.frames ≡ (whole_file (joined (short_ones cs))).frames
  every-cutting-among =
      ends-alike.0 ∙ ap (λ (x : FramesTold). x.frames) (every-cutting (short_ones cs) (short-ones cs))
