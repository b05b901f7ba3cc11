-- A capture, one block at a time: what is done, with what is left to do, is all.
use Rattle.std.proofs.Common.{◌≡◌, ℕ, ◌<◌, Bool, true, false, List, [], ◌∷◌, ◌++◌, length, sym, refl, ap, ◌∙◌, ap₂, arith}
use Prim.Native.Nat.{min}
use Rattle.octets.specs.Read.{choose}
use Rattle.capture.specs.File.{pieces}
use Rattle.capture.proofs.File.{cut, chunk-front, chunk-back}
use Rattle.listen.specs.Lines.{Page, put_line, put_lines}
use Rattle.listen.specs.Heard.{Standing, Listener, Listened, hear_block, then_heard, hear_blocks, hear_all, Hears}
use Rattle.listen.specs.declared.ear.Ear.{Ear}
use Rattle.listen.specs.declared.ear.Heard.{Heard}
use Rattle.listen.proofs.Hearing.{listener, page}

-- ---- the loop: t is left of s
pub record Onward (s t : List ℕ) (x₀ x : Listener) (p₀ p : Page) : Type 0 where
  pub after : (hear_all x t).after ≡ (hear_all x₀ s).after
  pub more : (hear_all x t).more ≡ (hear_all x₀ s).more
  pub said : put_lines (hear_all x t).said p ≡ put_lines (hear_all x₀ s).said p₀

pub onward : (s t : List ℕ) (x : Listener) (p : Page) → t ≡ s → Onward s t x x p p
onward s t x p e = record { after = ap (λ z. (hear_all x z).after) e; more = ap (λ z. (hear_all x z).more) e; said = ap (λ z. put_lines (hear_all x z).said p) e }

put-lines : (us vs : List (List ℕ)) (p : Page) → put_lines (us ++ vs) p ≡ put_lines vs (put_lines us p)
unfolding put_lines
put-lines [] vs p = refl
put-lines (u ∷ us) vs p = put-lines us vs (put_line u p)

then-on : (a b : Listened) → a.more ≡ true → then_heard a b ≡ record { after = b.after; said = a.said ++ b.said; more = b.more }
then-on a b e = ap (λ t. choose t (record { after = b.after; said = a.said ++ b.said; more = b.more }) a) e

then-off : (a b : Listened) → a.more ≡ false → then_heard a b ≡ a
then-off a b e = ap (λ t. choose t (record { after = b.after; said = a.said ++ b.said; more = b.more }) a) e

abbrev listens : Standing → List ℕ → List ℕ → Listener
listens e m o = record { ear = e; mem = m; out = o }

-- the block u that is due, and then v, which is left behind it
module _ (t u v : List ℕ) (a : t ≡ u ++ v) (l : length u ≡ min 512 (length t)) (k : 0 < length t) (x : Listener) where
  abbrev due : Listened
  due = hear_block x u

  abbrev behind : Listener → Listened
  behind y = hear_all y v

  due-first : hear_all x t ≡ then_heard due (behind due.after)
  unfolding hear_blocks
  due-first =
      ap (hear_blocks x) (cut t k)
      ∙ ap₂ (λ m n. then_heard (hear_block x m) (hear_all (hear_block x m).after n)) (sym (chunk-front t u v a l)) (sym (chunk-back t u v a l))

  module _ (s : List ℕ) (x₀ : Listener) (p₀ : Page) (was : List ℕ) (at : ℕ) (G : Onward s t x₀ x p₀ (page was at)) (r : Heard) (m o room : List ℕ) (D : Hears r m o was room at (hear_block x u)) where
    pub block-turn : r.more ≡ true → Onward s v x₀ (listener r.ear m o) p₀ (page room r.next)
    block-turn e =
        let y : listener r.ear m o ≡ due.after = ap₂ (λ (u : Standing) (v : List ℕ). listens u v o) D.ear D.memory ∙ ap (listens due.after.ear due.after.mem) D.output in
        let w = due-first ∙ then-on due (behind due.after) (sym D.more ∙ e) in
        record {
          after = ap (λ z. (behind z).after) y ∙ sym (ap (λ u. u.after) w) ∙ G.after;
          more = ap (λ z. (behind z).more) y ∙ sym (ap (λ u. u.more) w) ∙ G.more;
          said = ap₂ (λ z w. put_lines (behind z).said w) y D.text ∙ sym (put-lines due.said (behind due.after).said (page was at)) ∙ sym (ap (λ u. put_lines u.said (page was at)) w) ∙ G.said;
        }

    pub block-stop : (was₀ : List ℕ) (at₀ : ℕ) → p₀ ≡ page was₀ at₀ → r.more ≡ false → Hears r m o was₀ room at₀ (hear_all x₀ s)
    block-stop was₀ at₀ z e =
        let w = due-first ∙ then-off due (behind due.after) (sym D.more ∙ e) in
        let a : due.after ≡ (hear_all x₀ s).after = sym (ap (λ u. u.after) w) ∙ G.after in
        record {
          ear = D.ear ∙ ap (λ u. u.ear) a;
          memory = D.memory ∙ ap (λ u. u.mem) a;
          output = D.output ∙ ap (λ u. u.out) a;
          more = D.more ∙ sym (ap (λ u. u.more) w) ∙ G.more;
          text = D.text ∙ sym (ap (λ u. put_lines u.said (page was at)) w) ∙ G.said ∙ ap (put_lines (hear_all x₀ s).said) z;
        }

-- nothing is left
pub all-heard : (s t : List ℕ) (x₀ : Listener) (e : Ear) (m o was room : List ℕ) (at to : ℕ) (b : Bool) → b ≡ true → Onward s t x₀ (listener e m o) (page was at) (page room to) → length t ≡ 0
    → Hears (record { ear = e; more = b; next = to }) m o was room at (hear_all x₀ s)
unfolding pieces hear_blocks put_lines
all-heard s [] x₀ e m o was room at to b T G z =
    record {
      ear = ap (λ u. u.ear) G.after;
      memory = ap (λ u. u.mem) G.after;
      output = ap (λ u. u.out) G.after;
      more = T ∙ G.more;
      text = G.said;
    }
all-heard s (y ∷ t) x₀ e m o was room at to b T G z = absurd (omega arith)
