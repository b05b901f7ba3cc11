-- What the contracts come to: they leave no second answer; where there is room the text is that of the definition; and a capture may be heard
-- part by part.
use Rattle.std.proofs.Common.{◌≡◌, ℕ, zero, suc, ◌+◌, ◌*◌, ◌/◌, ◌^◌, ◌<◌, ◌≤◌, Bool, true, false, List, [], ◌∷◌, ◌++◌, length, get_or, take, drop, sym, refl, ap, ◌∙◌, subst, ap₂, append_assoc, add-zero, arith, length-append, length-drop, le-leb}
use lib.Seq.{take-append-le, drop-append-le}
use Rattle.octets.specs.Write.{put}
use Rattle.octets.proofs.Puts.{put-append}
use Rattle.expand.proofs.CopyLaws.{length-put}
use Rattle.io.specs.Digits.{last_digits}
use Rattle.text.specs.Text.{Printed, Decimal}
use Rattle.words.proofs.Unique.{table-one}
use Rattle.listen.specs.Lines.{put_line, put_lines}
use Rattle.capture.specs.File.{pieces, blocks_of, joined}
use Rattle.listen.specs.Heard.{Standing, standing, Listener, Listened, hear_block, then_heard, hear_blocks, hear_all, last_line, beginning, heard, Hears}
use Rattle.listen.specs.declared.ear.Ear.{Ear}
use Rattle.listen.specs.declared.ear.Heard.{Heard}
use Rattle.listen.proofs.Hearing.{page}
use Rattle.capture.proofs.File.{cut}
use Rattle.listen.proofs.Decimals.{fewest-one}

-- ---- any two answers are equal, and so are the lent bytes after them
-- an ear's table, as every one in code has it: 149 numbers of 64 bits
pub record Numbers (ws : List ℕ) : Type 0 where
  pub count : length ws ≡ 149
  pub fit : (k : ℕ) → k < 149 → get_or ws k 0 < 2 ^ 64

ear-one : (d e : Ear) → Numbers d.table → Numbers e.table → standing d ≡ standing e → d ≡ e
ear-one d e N M q =
    ap (λ (ws : List ℕ). record { table = ws; frames = d.frames; block = d.block }) (table-one d.table e.table N.count M.count N.fit M.fit (ap (λ (s : Standing). s.table) q))
    ∙ ap₂ (λ (n b : ℕ). record { table = e.table; frames = n; block = b }) (ap (λ (s : Standing). s.frames) q) (ap (λ (s : Standing). s.block) q)

pub hears-one : (q : Listened) (was : List ℕ) (at : ℕ) (y z : Heard) (m m' o o' x x' : List ℕ) → Numbers y.ear.table → Numbers z.ear.table → Hears y m o was x at q → Hears z m' o' was x' at q
    → (y ≡ z) × (m ≡ m') × (o ≡ o') × (x ≡ x')
hears-one q was at y z m m' o o' x x' N M A B =
    let t = A.text ∙ sym B.text in
    let e : y.ear ≡ z.ear = ear-one y.ear z.ear N M (A.ear ∙ sym B.ear) in
    let n : y.next ≡ z.next = ap (λ p. p.at) t in
    let h : y.more ≡ z.more = A.more ∙ sym B.more in (
      ap (λ (u : Ear). record { ear = u; more = y.more; next = y.next }) e
          ∙ ap₂ (λ (u : Bool) (k : ℕ). record { ear = z.ear; more = u; next = k }) h n,
      A.memory ∙ sym B.memory,
      A.output ∙ sym B.output,
      ap (λ p. p.room) t,
    )

-- as for a line
pub printed-one : (at : ℕ) (t was : List ℕ) (x x' : List ℕ) (n n' : ℕ) → Printed at t was x n → Printed at t was x' n' → (x ≡ x') × (n ≡ n')
printed-one at t was x x' n n' A B = (A.filled ∙ sym B.filled, A.behind ∙ sym B.behind)

-- and for a number in decimal
pub decimal-one : (at k : ℕ) (was : List ℕ) (x x' : List ℕ) (n n' : ℕ) → Decimal at k was x n → Decimal at k was x' n' → (x ≡ x') × (n ≡ n')
decimal-one at k was x x' n n' A B =
    let e = fewest-one k A.count B.count A.fewest B.fewest in
    printed-one at (last_digits 10 B.count k) was x x' n n' (subst (λ j. Printed at (last_digits 10 j k) was x n) e A.printed) B.printed

-- ---- where the room holds them, lines stand one behind the other
fitted : (t room : List ℕ) (at : ℕ) → at + length t ≤ length room → put_line t (page room at) ≡ page (put at t room) (at + length t)
unfolding put_line
fitted t room at h = rw (le-leb (at + length t) (length room) h) refl

pub all_fit : (ts : List (List ℕ)) (room : List ℕ) (at : ℕ) → at + length (joined ts) ≤ length room → put_lines ts (page room at) ≡ page (put at (joined ts) room) (at + length (joined ts))
unfolding put_lines joined put
all_fit [] room at h = ap (page room) (sym (add-zero at))
all_fit (t ∷ ts) room at h =
    let l = length-append t (joined ts) in
    let a : at + length t ≤ length room = omega (arith, l) in
    let b : at + length t + length (joined ts) ≤ length (put at t room) = omega (arith, l, length-put at t room) in
    let n : at + length t + length (joined ts) ≡ at + length (t ++ joined ts) = omega (arith, l) in
    ap (put_lines ts) (fitted t room at a)
    ∙ all_fit ts (put at t room) (at + length t) b
    ∙ ap₂ page (sym (put-append at t (joined ts) room)) n

-- `hear_all` from the beginning, and then the last line: the text is `heard`
pub heard-in-full : (s room : List ℕ) (at : ℕ) → at + length (heard s) ≤ length room
    → put_line (last_line (hear_all beginning s)) (put_lines (hear_all beginning s).said (page room at)) ≡ page (put at (heard s) room) (at + length (heard s))
unfolding heard
heard-in-full s room at h =
    let ts = joined (hear_all beginning s).said in
    let t = last_line (hear_all beginning s) in
    let l = length-append ts t in
    let a : at + length ts ≤ length room = omega (arith, l) in
    let b : at + length ts + length t ≤ length (put at ts room) = omega (arith, l, length-put at ts room) in
    let n : at + length ts + length t ≡ at + length (ts ++ t) = omega (arith, l) in
    ap (put_line t) (all_fit (hear_all beginning s).said room at a)
    ∙ fitted t (put at ts room) (at + length ts) b
    ∙ ap₂ page (sym (put-append at ts t room)) n

-- ---- part by part
-- block after block: the first blocks, and then the others
assoc-go : (t u : Bool) (x y z : Listener) (p q r : List (List ℕ)) (w : Bool)
    → then_heard (record { after = x; said = p; more = t }) (then_heard (record { after = y; said = q; more = u }) (record { after = z; said = r; more = w }))
    ≡ then_heard (then_heard (record { after = x; said = p; more = t }) (record { after = y; said = q; more = u })) (record { after = z; said = r; more = w })
assoc-go true true x y z p q r w = ap (λ l. record { after = z; said = l; more = w }) (sym (append_assoc p q r))
assoc-go true false x y z p q r w = refl
assoc-go false u x y z p q r w = refl

then-assoc : (a b c : Listened) → then_heard a (then_heard b c) ≡ then_heard (then_heard a b) c
then-assoc a b c = assoc-go a.more b.more a.after b.after c.after a.said b.said c.said c.more

after-go : (t : Bool) (x y : Listener) (p q : List (List ℕ)) (u : Bool) (f : Listener → Listened)
    → then_heard (then_heard (record { after = x; said = p; more = t }) (record { after = y; said = q; more = u })) (f y)
    ≡ then_heard (then_heard (record { after = x; said = p; more = t }) (record { after = y; said = q; more = u })) (f (then_heard (record { after = x; said = p; more = t }) (record { after = y; said = q; more = u })).after)
after-go true x y p q u f = refl
after-go false x y p q u f = refl

pub parts : (x : Listener) (us vs : List (List ℕ)) → hear_blocks x (us ++ vs) ≡ then_heard (hear_blocks x us) (hear_blocks (hear_blocks x us).after vs)
unfolding hear_blocks
parts x [] vs = refl
parts x (s ∷ us) vs =
    let q = hear_block x s in
    let d = hear_blocks q.after us in
    ap (then_heard q) (parts q.after us vs)
    ∙ then-assoc q d (hear_blocks d.after vs)
    ∙ after-go q.more q.after d.after q.said d.said d.more (λ y. hear_blocks y vs)

-- n blocks, and what comes behind them
pieces-append : (n : ℕ) (s t : List ℕ) → length s ≡ n * 512 → blocks_of (s ++ t) ≡ pieces n s ++ blocks_of t
unfolding pieces
pieces-append zero [] t h = refl
pieces-append zero (b ∷ s) t h = absurd (omega (arith, h))
pieces-append (suc n) s t h =
    let l = length-append s t in
    let some : 0 < length (s ++ t) = omega (arith, l) in
    let k : 512 ≤ length s = omega arith in
    let d : length (drop 512 s) ≡ n * 512 = omega (arith, length-drop 512 s) in
    cut (s ++ t) some
    ∙ ap₂ (λ u v. u ∷ blocks_of v) (take-append-le 512 s t k) (drop-append-le 512 s t k)
    ∙ ap (λ v. take 512 s ∷ v) (pieces-append n (drop 512 s) t d)

-- a capture cut where a block ends: its first part, and then, where reading goes on, the rest
pub heard-apart : (x : Listener) (n : ℕ) (s t : List ℕ) → length s ≡ n * 512 → hear_all x (s ++ t) ≡ then_heard (hear_all x s) (hear_all (hear_all x s).after t)
heard-apart x n s t h =
    let e : (length s + 511) / 512 ≡ n = omega arith in
    ap (hear_blocks x) (pieces-append n s t h ∙ ap (λ k. pieces k s ++ blocks_of t) (sym e))
    ∙ parts x (blocks_of s) (blocks_of t)
