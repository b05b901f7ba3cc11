-- What frames say beside the datagram, read from numbers; a frame's length and a count of frames fit the low half of an answer's number.
use Prim.Native.Nat.{ℕ, ◌%◌}
use native.Mathlib.Omega.{arith}
use mathlib.Core.List.{List}
use mathlib.Core.Path.{◌≡◌, refl, sym, ap, ◌∙◌}
use lib.ListN.{get_or}
use Rattle.octets.specs.Read.{Answer, is, refused}
use Rattle.ieee802154.specs.declared.addr.Address.{Address}
use Rattle.cutting.specs.Cut.{cut_frame, cut_count, answered, written}
use Rattle.cutting.specs.declared.link.Link.{Link}
use Rattle.cutting.proofs.Cuttings.{answered-short, count_most}
use Rattle.lift.specs.Face.{address_of}
use Rattle.lift.specs.Send.{link_of, packed_answer, InLow}

-- eight numbers, and the two addresses that four of them say
pub link-told : (l : List ℕ) (a b c d e f g h : ℕ) (src dst : Address) → a ≡ get_or l 0 0 → b ≡ get_or l 1 0 → c ≡ get_or l 2 0 → d ≡ get_or l 3 0 → e ≡ get_or l 4 0 → f ≡ get_or l 5 0 → g ≡ get_or l 6 0 → h ≡ get_or l 7 0
    → src ≡ address_of b c → dst ≡ address_of d e → record { pan = record { 0 = a % 65536 }; src = src; dst = dst; sequence = f % 256; tag = g % 65536; limit = h } ≡ link_of l
unfolding link_of
link-told l a b c d e f g h src dst p0 p1 p2 p3 p4 p5 p6 p7 q r = rw (q, r, p0, p1, p2, p3, p4, p5, p6, p7) refl

written-go : (l : Link) (d : List ℕ) (k : ℕ) (room : List ℕ) (m : Answer ℕ) → answered (cut_frame l d k) room ≡ m → InLow m
written-go l d k room (is n) e = omega (arith, answered-short l d k room n e)
written-go l d k room (refused n) e = tt

-- of an answer m that means what `frame` answers
pub written_low : (l : Link) (d : List ℕ) (k : ℕ) (room : List ℕ) (m : Answer ℕ) → m ≡ answered (cut_frame l d k) room → InLow m
written_low l d k room m e = written-go l d k room m (sym e)

counted-go : (l : Link) (d : List ℕ) (m : Answer ℕ) → cut_count l d ≡ m → InLow m
counted-go l d (is n) e = omega (arith, count_most l d n e)
counted-go l d (refused n) e = tt

pub counted-low : (l : Link) (d : List ℕ) (m : Answer ℕ) → m ≡ cut_count l d → InLow m
counted-low l d m e = counted-go l d m (sym e)

-- what the calls answer, from what the steps gave: the link l is read, the answer means m, and its number is r
pub cut-told : (link d room after : List ℕ) (k r : ℕ) (l : Link) (m : Answer ℕ) → l ≡ link_of link → m ≡ answered (cut_frame l d k) room → after ≡ written (cut_frame l d k) room → r ≡ packed_answer m
    → (r ≡ packed_answer (answered (cut_frame (link_of link) d k) room)) × (after ≡ written (cut_frame (link_of link) d k) room)
cut-told link d room after k r l m e f g h = (
  h ∙ ap packed_answer f ∙ ap (λ z. packed_answer (answered (cut_frame z d k) room)) e,
  g ∙ ap (λ z. written (cut_frame z d k) room) e,
)

pub count-told : (link d : List ℕ) (r : ℕ) (l : Link) (m : Answer ℕ) → l ≡ link_of link → m ≡ cut_count l d → r ≡ packed_answer m → r ≡ packed_answer (cut_count (link_of link) d)
count-told link d r l m e f h = h ∙ ap packed_answer f ∙ ap (λ z. packed_answer (cut_count z d)) e
