-- Cutting what we send: every frame of a datagram, in order, and the refusals.
use Rattle.std.specs.Prelude.{ℕ, ◌+◌, ◌/◌, ◌%◌, ◌≤◌, List, ◌++◌, map, Bool, ◌&&◌, leb, length, take, drop}
use Rattle.octets.specs.Read.{Answer, is, refused, and_then, choose}
use Rattle.octets.specs.Write.{wrote, over}
use Rattle.ieee802154.specs.Address.{is_present}
use Rattle.sixlowpan.specs.Frag as Frag
use Rattle.sixlowpan.specs.declared.frag.Repr.TheVariants.{FirstFragment, Fragment}
use Rattle.cutting.specs.Fields.{is_ours}
use Rattle.cutting.specs.Head.{mac_length, mac_bytes, head_length, head_bytes, covers}
use Rattle.cutting.specs.Pieces.{pieces, nth}
use Rattle.cutting.specs.declared.link.Link.{Link}
use Rattle.cutting.specs.declared.piece.Plan.{Plan}
use Rattle.cutting.specs.declared.piece.Piece.{Piece}
use Rattle.cutting.specs.declared.piece.Piece.TheVariants.{Whole, First, Later}

unfoldable pub plan_of : Link → List ℕ → Plan
plan_of l d = record { mac = mac_length l; head = head_length l d; covers = covers d; size = length d; limit = l.limit }

-- ---- a frame: the MAC header, what stands before the part, and the part (RFC 4944, 5.3; the offset in units of 8 octets)
unfoldable pub middle : Link → List ℕ → Piece → List ℕ
middle l d Whole = head_bytes l d
middle l d (First n) = Frag.bytes_of (FirstFragment (length d) l.tag) ++ head_bytes l d
middle l d (Later at n) = Frag.bytes_of (Fragment (length d) l.tag (record { 0 = at / 8 % 256 }))

unfoldable pub part_of : List ℕ → Piece → List ℕ
part_of d Whole = drop (covers d) d
part_of d (First n) = take n (drop (covers d) d)
part_of d (Later at n) = take n (drop at d)

-- how long what stands before the part is, of the compressed headers' length; and where the part begins
abbrev pub middle_length : ℕ → Piece → ℕ
middle_length head Whole = head
middle_length head (First n) = 4 + head
middle_length head (Later at n) = 5

abbrev pub part_at : ℕ → Piece → ℕ
part_at covers Whole = covers
part_at covers (First n) = covers
part_at covers (Later at n) = at

unfoldable pub frame_of : Link → List ℕ → Piece → List ℕ
frame_of l d p = mac_bytes l ++ (middle l d p ++ part_of d p)

-- ---- the refusals, in their order
unfoldable pub in_range : Link → List ℕ → Bool
in_range l d = leb 40 (length d) && (leb (length d) 2047 && (leb 80 l.limit && leb l.limit 127))

-- its ranges
abbrev pub Ready : Link → List ℕ → Type 0
Ready l d = (40 ≤ length d) × (length d ≤ 2047) × (80 ≤ l.limit) × (l.limit ≤ 127)

unfoldable pub has_both : Link → Bool
has_both l = is_present l.src && is_present l.dst

-- every frame of the datagram d, in order
unfoldable pub cut : Link → List ℕ → Answer (List (List ℕ))
cut l d =
    choose (in_range l d)
    (choose (has_both l)
    (choose (is_ours d) (is (map (frame_of l d) (pieces (plan_of l d)))) (refused 16))
    (refused 6))
    (refused 4)

-- the frame of a number, from 0: 10 past the last
unfoldable pub cut_frame : Link → List ℕ → ℕ → Answer (List ℕ)
cut_frame l d k = and_then (cut l d) (λ fs. nth fs k)

-- how many frames there are
unfoldable pub cut_count : Link → List ℕ → Answer ℕ
cut_count l d = and_then (cut l d) (λ fs. is (length fs))

-- ---- a frame that is written: last of all 7, where the room is too small
abbrev pub answered : Answer (List ℕ) → List ℕ → Answer ℕ
answered m room = and_then m (λ f. wrote (length f) room)

abbrev pub written : Answer (List ℕ) → List ℕ → List ℕ
written (is f) room = over (length f) f room
written (refused n) room = room
