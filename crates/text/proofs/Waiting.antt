-- What a printer leaves at the front of a room of 65,536 bytes.
use Rattle.std.proofs.Common.{◌≡◌, ℕ, ◌+◌, ◌<◌, ◌≤◌, Bool, true, false, leb, List, [], ◌∷◌, ◌++◌, length, take, drop, set, sym, refl, ap, ◌∙◌, append-nil, append_assoc, add-one, arith, length-append, le-leb, leb-true, leb-false}
use lib.ListN.{length-take}
use lib.Seq.{take_at}
use borrow.Author.Tests.{lt-leb}
use Rattle.octets.specs.Read.{choose}
use Rattle.octets.specs.Write.{put}
use Rattle.text.specs.Text.{Printed}
use Rattle.text.proofs.Printing.{put-inside}
use Rattle.std.specs.Prelude.{None, Some}
use Rattle.std.specs.Io.KnownBytes.{Appends}
use Rattle.std.specs.declared.option.Option.{Option}
use Rattle.text.specs.Waiting.{with_text, Grows}

module _ (len : ℕ) (t was room : List ℕ) (next : ℕ) (f : length was ≡ 65536) (h : len ≤ 65536) where
  width : length (take len was) ≡ len
  width = omega (arith, length-take len was)

  front : len + length t ≤ length was → take (len + length t) (put len t was) ≡ take len was ++ t
  front g =
      let n : length (take len was ++ t) ≡ len + length t = omega (arith, width, length-append (take len was) t) in
      ap (take (len + length t)) (put-inside len t was g) ∙ take_at (take len was ++ t) (drop (len + length t) was) (len + length t) n

  fits : room ≡ put len t was → next ≡ len + length t → len + length t ≤ length was → take next room ≡ with_text (take len was) t
  fits p q g =
      ap (λ k. take k room) q
      ∙ ap (take (len + length t)) p
      ∙ front g
      ∙ sym (ap (λ b. choose b (take len was ++ t) (take len was)) (le-leb (length (take len was) + length t) 65536 (omega (arith, width))))

  fits_not : room ≡ was → next ≡ len → length was < len + length t → take next room ≡ with_text (take len was) t
  fits_not p q g =
      ap (λ k. take k room) q
      ∙ ap (take len) p
      ∙ sym (ap (λ b. choose b (take len was ++ t) (take len was)) (lt-leb (length (take len was) + length t) 65536 (omega (arith, width))))

  by_room : (b : Bool) → leb (len + length t) (length was) ≡ b → room ≡ choose b (put len t was) was → next ≡ choose b (len + length t) len → take next room ≡ with_text (take len was) t
  by_room true e p q = fits p q (leb-true (len + length t) (length was) e)
  by_room false e p q = fits_not p q (leb-false (len + length t) (length was) e)

  pub waits : Printed len t was room next → take next room ≡ with_text (take len was) t
  waits p = by_room (leb (len + length t) (length was)) refl p.filled p.behind

  within : (b : Bool) → leb (len + length t) (length was) ≡ b → next ≡ choose b (len + length t) len → next ≤ 65536
  within true e q = omega (arith, leb-true (len + length t) (length was) e)
  within false e q = omega arith

  pub waits_within : Printed len t was room next → next ≤ 65536
  waits_within p = within (leb (len + length t) (length was)) refl p.behind

-- ---- what a writer holds only grows
pub grows_same : (o : Option (List ℕ)) → Grows o o
grows_same None = ([], tt)
grows_same (Some xs) = ([], sym (append-nil xs))

join : (a b c : Option (List ℕ)) (s t : List ℕ) → Appends a b s → Appends b c t → Appends a c (s ++ t)
join None b c s t p q = tt
join (Some xs) None c s t p q = absurd p
join (Some xs) (Some ys) None s t p q = absurd q
join (Some xs) (Some ys) (Some zs) s t p q = q ∙ ap (λ l. l ++ t) p ∙ append_assoc xs s t

pub grows_more : (a b c : Option (List ℕ)) → Grows a b → Grows b c → Grows a c
grows_more a b c p q = (p.0 ++ q.0, join a b c p.0 q.0 p.1 q.1)
