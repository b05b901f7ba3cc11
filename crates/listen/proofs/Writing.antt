-- A line composed piece by piece in a room of 64 bytes, and then put into the lent room.
use Rattle.std.proofs.Common.{◌≡◌, ℕ, ◌+◌, ◌-◌, ◌^◌, ◌<◌, ◌≤◌, List, [], ◌++◌, length, take, drop, sym, refl, ap, ◌∙◌, append_assoc, arith, length-append, take_at, le-leb}
use Rattle.octets.specs.Write.{put}
use Rattle.expand.proofs.CopyLaws.{put-inside, length-put}
use Rattle.text.specs.Text.{Printed, Decimal}
use Rattle.octets.specs.Refusal.{number_of}
use Rattle.octets.specs.declared.refusal.Refusal.{Refusal}
use Rattle.std.specs.Prelude.{Ok, Err}
use Rattle.reassembly.specs.Parts.{Answered, of_outcome}
use Rattle.reassembly.specs.declared.part.Outcome.{Outcome}
use Rattle.listen.specs.Lines.{decimal, newline, out_word, kept_word, no_word, frame_line}
use Rattle.listen.proofs.Decimals.{decimal-small, decimal-printed}

-- the first n of the room's 64 bytes are the text
pub record Begun (text room : List ℕ) (n : ℕ) : Type 0 where
  pub size : length room ≡ 64
  pub count : n ≡ length text
  pub front : take n room ≡ text

pub begun : (room : List ℕ) → length room ≡ 64 → Begun [] room 0
begun room h = record { size = h; count = refl; front = refl }

-- one piece more
pub grown : (p t was room : List ℕ) (at next : ℕ) → Begun p was at → Printed at t was room next → length p + length t ≤ 64 → Begun (p ++ t) room next
grown p t was room at next b h k =
    let fit : at + length t ≤ length was = omega (arith, b.count, b.size) in
    let f = le-leb (at + length t) (length was) fit in
    let r : room ≡ put at t was = rw f at h.filled in
    let n : next ≡ at + length t = rw f at h.behind in
    let c : next ≡ length (p ++ t) = n ∙ ap (λ j. j + length t) b.count ∙ sym (length-append p t) in
    let e : room ≡ (p ++ t) ++ drop (at + length t) was = r ∙ put-inside at t was fit ∙ ap (λ q. q ++ (t ++ drop (at + length t) was)) b.front ∙ sym (append_assoc p t (drop (at + length t) was)) in
    record { size = ap length r ∙ length-put at t was ∙ b.size; count = c; front = ap (take next) e ∙ take_at (p ++ t) (drop (at + length t) was) next (sym c) }

-- a composed line, put
pub told : (t line was room : List ℕ) (n at next : ℕ) → Begun t line n → Printed at (take (n - 0) (drop 0 line)) was room next → Printed at t was room next
told t line was room n at next b h = let e : n - 0 ≡ n = omega arith in rw (e, b.front) at h

pub inside : (t line : List ℕ) (n : ℕ) → Begun t line n → length t ≤ 64 → n ≤ length line
inside t line n b h = omega (arith, b.size, b.count)

-- ---- a word, a number, a word
pub one_number : (front back r₀ r₁ r₂ r₃ : List ℕ) (n a b c : ℕ) → n < 2 ^ 64 → length front ≤ 8 → length back ≤ 8 → length r₀ ≡ 64
    → Printed 0 front r₀ r₁ a → Decimal a n r₁ r₂ b → Printed b back r₂ r₃ c → Begun (front ++ (decimal n ++ back)) r₃ c
one_number front back r₀ r₁ r₂ r₃ n a b c h i j k p q r =
    let x : Begun front r₁ a = grown [] front r₀ r₁ 0 a (begun r₀ k) p (omega arith) in
    let y : Begun (front ++ decimal n) r₂ b = grown front (decimal n) r₁ r₂ a b x (decimal-printed a n r₁ r₂ b h q) (omega (arith, decimal-small n)) in
    let z : Begun ((front ++ decimal n) ++ back) r₃ c = grown (front ++ decimal n) back r₂ r₃ b c y r (omega (arith, decimal-small n, length-append front (decimal n))) in
    rw (append_assoc front (decimal n) back) at z

-- ---- a number, a word, a number, and the line's end
pub two-numbers : (word r₀ r₁ r₂ r₃ r₄ : List ℕ) (n x a b c d : ℕ) → n < 2 ^ 64 → x < 2 ^ 64 → length word ≤ 8 → length r₀ ≡ 64
    → Decimal 0 n r₀ r₁ a → Printed a word r₁ r₂ b → Decimal b x r₂ r₃ c → Printed c newline r₃ r₄ d → Begun (decimal n ++ (word ++ (decimal x ++ newline))) r₄ d
two-numbers word r₀ r₁ r₂ r₃ r₄ n x a b c d h l i k p q r s =
    let A : Begun (decimal n) r₁ a = grown [] (decimal n) r₀ r₁ 0 a (begun r₀ k) (decimal-printed 0 n r₀ r₁ a h p) (omega (arith, decimal-small n)) in
    let B : Begun (decimal n ++ word) r₂ b = grown (decimal n) word r₁ r₂ a b A q (omega (arith, decimal-small n)) in
    let m : length (decimal n ++ word) ≤ 28 = omega (arith, decimal-small n, length-append (decimal n) word) in
    let C : Begun ((decimal n ++ word) ++ decimal x) r₃ c = grown (decimal n ++ word) (decimal x) r₂ r₃ b c B (decimal-printed b x r₂ r₃ c l r) (omega (arith, decimal-small x)) in
    let o : length ((decimal n ++ word) ++ decimal x) ≤ 48 = omega (arith, decimal-small x, length-append (decimal n ++ word) (decimal x)) in
    let D : Begun (((decimal n ++ word) ++ decimal x) ++ newline) r₄ d = grown ((decimal n ++ word) ++ decimal x) newline r₃ r₄ c d C s (omega arith) in
    rw (append_assoc (decimal n ++ word) (decimal x) newline, append_assoc (decimal n) word (decimal x ++ newline)) at D

-- ---- what a frame came to, by the case that a match found
pub kept-told : (at n next : ℕ) (was room : List ℕ) (r : Answered) → r ≡ Ok Outcome.Kept → Printed at (decimal n ++ (kept_word ++ newline)) was room next → Printed at (frame_line n (of_outcome r)) was room next
kept-told at n next was room r e h = rw e h

pub out-told : (at n next l : ℕ) (was room : List ℕ) (r : Answered) → r ≡ Ok (Outcome.Out l) → Printed at (decimal n ++ (out_word ++ (decimal l ++ newline))) was room next → Printed at (frame_line n (of_outcome r)) was room next
out-told at n next l was room r e h = rw e h

pub refused-told : (at n next x : ℕ) (was room : List ℕ) (why : Refusal) (r : Answered) → r ≡ Err why → x ≡ number_of why → Printed at (decimal n ++ (no_word ++ (decimal x ++ newline))) was room next → Printed at (frame_line n (of_outcome r)) was room next
refused-told at n next x was room why r e f h = rw (e, ← f) h
