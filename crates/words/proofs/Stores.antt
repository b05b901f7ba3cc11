-- A slot's numbers, stored part by part.
use Prim.Native.Nat.{ℕ, ◌+◌}
use native.Mathlib.Omega.{arith}
use mathlib.Core.Path.{◌≡◌, refl, ap, ◌∙◌}
use mathlib.Core.List.{List, ◌++◌}
use lib.ListN.{set}
use Rattle.octets.specs.Write.{put}
use Rattle.octets.proofs.Puts.{more}
use Rattle.reassembly.specs.declared.slot.Slot.{Slot}
use Rattle.words.specs.Words.{four_in, source_words, head_words, tail_words, slot_words}

moved : (a b : ℕ) (bs l m : List ℕ) → a ≡ b → m ≡ put a bs l → m ≡ put b bs l
moved a b bs l m h e = e ∙ ap (λ x. put x bs l) h

tail-stored : (k : ℕ) (s : Slot) (l : List ℕ) → set (set l (k + 15) s.live) (k + 16) s.sum.kind ≡ put (k + 15) (tail_words s) l
unfolding tail_words put
tail-stored k s l =
    let e : k + 16 ≡ k + 15 + 1 = omega arith in
    ap (λ x. set (set l (k + 15) s.live) x s.sum.kind) e

pub slot-stored : (k : ℕ) (s : Slot) (l m n o p : List ℕ) → m ≡ put k (source_words s.key.src) l → n ≡ put (k + 3) (head_words s) m
    → o ≡ put (k + 7) (four_in s.covered 0) n → p ≡ put (k + 11) (four_in s.starts 0) o
    → set (set p (k + 15) s.live) (k + 16) s.sum.kind ≡ put k (slot_words s) l
unfolding source_words head_words four_in slot_words
slot-stored k s l m n o p a b c d =
    let r = set (set p (k + 15) s.live) (k + 16) s.sum.kind in
    let u = four_in s.starts 0 ++ tail_words s in
    let v = four_in s.covered 0 ++ u in
    more l m r k 3 (source_words s.key.src) (head_words s ++ v) refl a
    (more m n r (k + 3) 4 (head_words s) v refl b
    (more n o r (k + 3 + 4) 4 (four_in s.covered 0) u refl (moved (k + 7) (k + 3 + 4) (four_in s.covered 0) n o (omega arith) c)
    (more o p r (k + 3 + 4 + 4) 4 (four_in s.starts 0) (tail_words s) refl (moved (k + 11) (k + 3 + 4 + 4) (four_in s.starts 0) o p (omega arith) d)
    (moved (k + 15) (k + 3 + 4 + 4 + 4) (tail_words s) p r (omega arith) (tail-stored k s p)))))
