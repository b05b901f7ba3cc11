-- A block's frames, one turn of the loop at a time: what is done, with what is left to do, is all.
use Rattle.std.specs.Prelude.{Result, Ok, Err}
use Rattle.std.proofs.Common.{◌≡◌, ℕ, ◌+◌, ◌<◌, ◌≤◌, Bool, true, false, leb, List, [], ◌∷◌, length, drop, sym, refl, ap, ◌∙◌, ap₂, add-one, arith, drop_of_length-le, drop-cons}
use Rattle.octets.specs.Read.{choose}
use Rattle.octets.specs.declared.refusal.Refusal.{Refusal}
use Rattle.octets.specs.Write.{put}
use Rattle.text.specs.Text.{Printed}
use Rattle.capture.specs.Block.{Timed, count_of, time_of, frame_of, timed_of, frames_of, good_block, judged}
use Rattle.octets.specs.Answers.{of_answer}
use Rattle.capture.specs.Made.{no_frame}
use Rattle.capture.proofs.Exact.{frames-length, frames-at}
use Rattle.capture.proofs.Unique.{told-good, told-bad}
use Rattle.reassembly.specs.Lists.{count}
use Rattle.reassembly.specs.Slots.{same_node, same_source, addressed, present}
use Rattle.reassembly.specs.Parts.{Answered, of_outcome}
use Rattle.reassembly.specs.Table.{Received, step, Gives}
use Rattle.reassembly.specs.Fresh.{fresh, sources, unfit, refused_list, Begins}
use Rattle.reassembly.proofs.Fresh.{sources-are, when-fit}
use Rattle.reassembly.specs.declared.table.Table.{Table}
use Rattle.words.specs.Words.{table_in}
use Rattle.receiver.specs.Receive.{call_of}
use Rattle.listen.specs.Lines.{frame_line, bad_line, Page, put_line, put_lines}
use Rattle.listen.specs.Heard.{Standing, standing, Listener, next, frame_result, after_frame, said_of, after_frames, said_of_all, block_on, hear_block, gateways, starting, Hears}
use Rattle.listen.specs.declared.ear.Ear.{Ear}
use Rattle.listen.specs.declared.ear.Heard.{Heard}

abbrev pub listener : Ear → List ℕ → List ℕ → Listener
listener e m o = record { ear = standing e; mem = m; out = o }

abbrev pub page : List ℕ → ℕ → Page
page room at = record { room = room; at = at }

-- what a printer says, as a page
page-go : (t : Bool) (x y : List ℕ) (m n : ℕ) (room : List ℕ) (at : ℕ) → room ≡ choose t x y → at ≡ choose t m n → page room at ≡ choose t (page x m) (page y n)
page-go true x y m n room at p q = ap₂ page p q
page-go false x y m n room at p q = ap₂ page p q

pub page-is : (t was room : List ℕ) (at n : ℕ) → Printed at t was room n → page room n ≡ put_line t (page was at)
unfolding put_line
page-is t was room at n h = page-go (leb (at + length t) (length was)) (put at t was) was (at + length t) at room n h.filled h.behind

-- ---- one frame
abbrev listens : Table → ℕ → ℕ → List ℕ → List ℕ → Listener
listens t n b m o = record { ear = record { table = t; frames = n; block = b }; mem = m; out = o }

module _ (x : Listener) (f : Timed) (r : Received) (m o : List ℕ) (n : ℕ) (G : Gives r m x.out o (frame_result x f)) (N : n ≡ next x.ear.frames) where
  after_is : record { ear = record { table = r.table; frames = n; block = x.ear.block }; mem = m; out = o } ≡ after_frame x f
  unfolding after_frame
  after_is =
      ap (λ t. listens t n x.ear.block m o) G.table
      ∙ ap (λ k. listens (frame_result x f).state.table k x.ear.block m o) N
      ∙ ap (λ l. listens (frame_result x f).state.table (next x.ear.frames) x.ear.block l o) G.memory
      ∙ ap (λ l. listens (frame_result x f).state.table (next x.ear.frames) x.ear.block (frame_result x f).state.mem l) G.output

  said-is : frame_line n (of_outcome r.answer) ≡ said_of x f
  unfolding said_of
  said-is = ap₂ frame_line N G.answer

-- ---- the loop: from x and p on the frames from place k on come to what all come to from x₀ and p₀
pub record Going (s : List ℕ) (k : ℕ) (x₀ x : Listener) (p₀ p : Page) : Type 0 where
  pub after : after_frames x (drop k (frames_of s)) ≡ after_frames x₀ (frames_of s)
  pub said : put_lines (said_of_all x (drop k (frames_of s))) p ≡ put_lines (said_of_all x₀ (frames_of s)) p₀

pub going : (s : List ℕ) (x : Listener) (p : Page) → Going s 0 x x p p
going s x p = record { after = refl; said = refl }

rest : (s : List ℕ) (k : ℕ) → k < count_of s → drop k (frames_of s) ≡ timed_of k s ∷ drop (k + 1) (frames_of s)
rest s k h =
    let l : k < length (frames_of s) = omega (arith, frames-length s) in
    drop-cons (frames_of s) k no_frame l ∙ ap₂ (λ f j. f ∷ drop j (frames_of s)) (frames-at s k h) (sym (add-one k))

module _ (s : List ℕ) (k : ℕ) (x₀ : Listener) (e : Ear) (m o : List ℕ) (p₀ : Page) (was : List ℕ) (at : ℕ) (y : Answered) (w m' o' : List ℕ) (t : ℕ) (f : List ℕ) (n : ℕ) (room : List ℕ) (to : ℕ) where
  pub turn : Going s k x₀ (listener e m o) p₀ (page was at) → k < count_of s → t ≡ time_of k s → f ≡ frame_of k s
      → Gives (record { answer = y; table = table_in w }) m' o o' (step (record { table = table_in e.table; mem = m }) (call_of m o [] t f))
      → n ≡ next e.frames → Printed at (frame_line n (of_outcome y)) was room to
      → Going s (k + 1) x₀ (listener (record { table = w; frames = n; block = e.block }) m' o') p₀ (page room to)
  unfolding frame_result after_frames said_of_all put_lines
  turn g h T F G N P =
      let x : Listener = listener e m o in
      let r : Received = record { answer = y; table = table_in w } in
      let G' : Gives r m' o o' (frame_result x (timed_of k s)) = rw (T, F) at G in
      let a = after_is x (timed_of k s) r m' o' n G' N in
      let q : page room to ≡ put_line (said_of x (timed_of k s)) (page was at) = page-is (frame_line n (of_outcome y)) was room at to P ∙ ap (λ l. put_line l (page was at)) (said-is x (timed_of k s) r m' o' n G' N) in
      record {
        after = ap (λ y. after_frames y (drop (k + 1) (frames_of s))) a ∙ sym (ap (after_frames x) (rest s k h)) ∙ g.after;
        said = ap₂ (λ y z. put_lines (said_of_all y (drop (k + 1) (frames_of s))) z) a q ∙ sym (ap (λ l. put_lines (said_of_all x l) (page was at)) (rest s k h)) ∙ g.said;
      }

-- none is left
pub gone : (s : List ℕ) (k : ℕ) (x₀ x : Listener) (p₀ p : Page) → Going s k x₀ x p₀ p → count_of s ≤ k → (x ≡ after_frames x₀ (frames_of s)) × (p ≡ put_lines (said_of_all x₀ (frames_of s)) p₀)
unfolding after_frames said_of_all put_lines
gone s k x₀ x p₀ p g h =
    let l : length (frames_of s) ≤ k = omega (arith, frames-length s) in
    let e : drop k (frames_of s) ≡ [] = drop_of_length-le (frames_of s) l in
    (sym (ap (after_frames x) e) ∙ g.after, sym (ap (λ q. put_lines (said_of_all x q) p) e) ∙ g.said)

-- ---- a block
-- the frames heard, the next block is due
pub heard-good : (x : Listener) (s : List ℕ) (j : Result ℕ Refusal) (n : ℕ) (r : Heard) (m o was room : List ℕ) (at b : ℕ) → of_answer j ≡ judged x.ear.block s → j ≡ Ok n
    → Hears r m o was room at (record { after = after_frames x (frames_of s); said = said_of_all x (frames_of s); more = true }) → b ≡ next r.ear.block
    → Hears (record { ear = record { table = r.ear.table; frames = r.ear.frames; block = b }; more = true; next = r.next }) m o was room at (hear_block x s)
unfolding hear_block
heard-good x s j n r m o was room at b p q h e =
    let g : good_block x.ear.block s ≡ true = (told-good j x.ear.block s p n q).0 in
    let w : record { table = table_in r.ear.table; frames = r.ear.frames; block = b } ≡ (block_on (after_frames x (frames_of s))).ear =
    ap (λ k. record { table = table_in r.ear.table; frames = r.ear.frames; block = k }) e
    ∙ ap (λ (y : Standing). record { table = y.table; frames = y.frames; block = next y.block }) h.ear in
    rw g (record { ear = w; memory = h.memory; output = h.output; more = refl; text = h.text })

pub heard-bad : (e : Ear) (m o : List ℕ) (s : List ℕ) (j : Result ℕ Refusal) (a : Refusal) (was room : List ℕ) (at to : ℕ) → of_answer j ≡ judged e.block s → j ≡ Err a
    → Printed at (bad_line e.block) was room to
    → Hears (record { ear = e; more = false; next = to }) m o was room at (hear_block (listener e m o) s)
unfolding hear_block put_lines
heard-bad e m o s j a was room at to p q h =
    let g : good_block e.block s ≡ false = told-bad j e.block s p a q in
    rw g (record { ear = refl; memory = refl; output = refl; more = refl; text = page-is (bad_line e.block) was room at to h })

-- ---- the beginning
-- 14 lets the four pass: computed
four-fit : refused_list 4 (sources 4 gateways) ≡ false
unfolding refused_list sources unfit same_source same_node present addressed count
four-fit = refl

pub begins : (y : Result (Unit {0}) Refusal) (t x : Table) → Begins y t x 4 gateways → record { table = x; frames = 0; block = 0 } ≡ starting
unfolding starting
begins y t x b = ap (λ (z : Table). record { table = z; frames = 0; block = 0 }) (when-fit 4 gateways y t x b four-fit ∙ ap fresh (sources-are 4 gateways))
