-- A datagram of 1,280 bytes, in bytes, cut at 127 and at 80: twelve and twenty frames, which go to a fresh table backwards and come out whole.
use Rattle.std.specs.Prelude.{Some}
use Prim.Native.Nat.{ℕ, ◌+◌, ◌-◌, ◌≤◌, ◌<◌}
use native.Mathlib.Omega.{arith}
use mathlib.Core.List.{List, [], ◌∷◌, map, reverse}
use mathlib.Core.Bool.{Bool, true, false, ◌&&◌}
use mathlib.Core.Path.{◌≡◌, refl, ap, ◌∙◌}
use lib.Dec.{ltb}
use lib.ListN.{length, replicate}
use borrow.Author.Tests.{ltb-true}
use Rattle.octets.specs.Read.{is, byte, be16, be32, be64}
use Rattle.octets.specs.Write.{be16_bytes, be32_bytes}
use Rattle.octets.proofs.Steps.{and-true}
use Rattle.ieee802154.specs.Mac.{suppresses, length_of as macLengthOf}
use Rattle.ieee802154.specs.declared.addr.Address.TheVariants.{Short}
use Rattle.sixlowpan.specs.NhcUdp.{form_of}
use Rattle.iphc.specs.Emit.{iid_form, src_form, dst_form, multicast_form, length_of}
use Rattle.expand.specs.Sum.{words, ones_sum, pseudo, covered, udp_checksum, seen, checksum_at, holds}
use Rattle.expand.proofs.SumLaws.{Bytes, bytes-nil, bytes-cons}
use Rattle.reassembly.specs.Fresh.{Gateways, begun}
use Rattle.reassembly.specs.Lists.{bit, count, those}
use Rattle.reassembly.specs.Slots.{source_of, same_node, same_source, addressed, present, is_gate}
use Rattle.reassembly.specs.declared.slot.Source.{Source}
use Rattle.cutting.specs.Fields.{is_ours, is_udp}
use Rattle.cutting.specs.Head.{mac_length, head_length, covers, next_of, ip_of, udp_of, udp_part_length, sum_sent}
use Rattle.cutting.specs.Pieces.{piece_from, later_pieces, whole_length, first_part, later_room, pieces}
use Rattle.cutting.specs.Cut.{plan_of, frame_of, in_range, has_both, cut}
use Rattle.cutting.specs.declared.link.Link.{Link}
use Rattle.cutting.specs.declared.piece.Piece.{Piece}
use Rattle.cutting.specs.declared.piece.Piece.TheVariants.{First, Later}
use Rattle.promises.specs.Frames.{end_of}
use Rattle.promises.specs.Library.{as_turn, ConcludedIn}
use Rattle.promises.specs.Sent.{key_for, fed_turn, fed, SumRight}
use Rattle.promises.proofs.SentLibrary.{fed-backwards}

-- from fe80::ff:fe00:1 to fe80::ff:fe00:2, hop limit 64, UDP from port f0b1 to f0b2, and 1,232 bytes more
unfoldable pub block : List ℕ
block =
    0x60 ∷ 0 ∷ 0 ∷ 0 ∷ 0x04 ∷ 0xd8 ∷ 17 ∷ 64
    ∷ 0xfe ∷ 0x80 ∷ 0 ∷ 0 ∷ 0 ∷ 0 ∷ 0 ∷ 0 ∷ 0 ∷ 0 ∷ 0 ∷ 0xff ∷ 0xfe ∷ 0 ∷ 0 ∷ 1
    ∷ 0xfe ∷ 0x80 ∷ 0 ∷ 0 ∷ 0 ∷ 0 ∷ 0 ∷ 0 ∷ 0 ∷ 0 ∷ 0 ∷ 0xff ∷ 0xfe ∷ 0 ∷ 0 ∷ 2
    ∷ 0xf0 ∷ 0xb1 ∷ 0xf0 ∷ 0xb2 ∷ 0x04 ∷ 0xd8 ∷ 0xb0 ∷ 0x6b
    ∷ replicate 1232 0x5a

-- from short 0001 to short 0002 in PAN abcd
abbrev pub over : ℕ → Link
over n = record { pan = record { 0 = 0xabcd }; src = Short 1; dst = Short 2; sequence = 5; tag = 7; limit = n }

abbrev pub here : Source
here = source_of (Short 1) (Some (record { 0 = 0xabcd }))

abbrev pub gate : List Source
gate = here ∷ []

-- ---- what is computed
abbrev small : List ℕ → Bool
small [] = true
small (x ∷ xs) = ltb x 256 && small xs

small_bytes : (s : List ℕ) → small s ≡ true → Bytes s
small_bytes [] e = bytes-nil
small_bytes (x ∷ xs) e = let w = and-true (ltb x 256) (small xs) e in bytes-cons x xs (ltb-true x 256 w.0) (small_bytes xs w.1)

block-bytes : Bytes block
unfolding block
block-bytes = small_bytes block refl

block-length : length block ≡ 1280
unfolding block
block-length = refl

block-covers : covers block ≡ 48
unfolding block covers is_udp byte be16
block-covers = refl

block-ours : is_ours block ≡ true
unfolding block is_ours be16 be32 byte
block-ours = refl

-- the checksum b06b is right
block-right : SumRight block
unfolding block sum_sent is_udp byte be16 holds checksum_at seen udp_checksum covered pseudo words ones_sum be16_bytes be32_bytes
block-right = refl

module _ (n : ℕ) where
  mac-length : mac_length (over n) ≡ 9
  unfolding macLengthOf suppresses
  mac-length = refl

  head-length : head_length (over n) block ≡ 6
  unfolding block head_length ip_of next_of udp_of udp_part_length is_udp byte be16 be32 be64 length_of src_form dst_form iid_form multicast_form form_of
  head-length = refl

  plan-is : plan_of (over n) block ≡ record { mac = 9; head = 6; covers = 48; size = 1280; limit = n }
  unfolding plan_of
  plan-is = rw (mac-length, head-length, block-covers, block-length) refl

  over-both : has_both (over n) ≡ true
  unfolding has_both
  over-both = refl

  more : n ≤ 127 → n < mac_length (over n) + (head_length (over n) block + (length block - covers block))
  more h = omega (arith, h, mac-length, head-length, block-covers, block-length)

cut-made : (l : Link) (d : List ℕ) (ps : List Piece) → in_range l d ≡ true → has_both l ≡ true → is_ours d ≡ true → pieces (plan_of l d) ≡ ps → cut l d ≡ is (map (frame_of l d) ps)
unfolding cut
cut-made l d ps r b o e = rw (r, b, o, e) refl

bit-most : (t : Bool) → bit t + 0 ≤ 1
bit-most true = omega arith
bit-most false = omega arith

gate-once : (g : Source) → count (same_source g) gate ≤ 1
unfolding count
gate-once g = bit-most (same_source g here)

gate-good : Gateways gate
unfolding those addressed present
gate-good = record { four = omega arith; seated = refl; distinct = gate-once }

gate-lists : is_gate here gate ≡ true
unfolding is_gate count same_node same_source
gate-lists = refl

-- ---- backwards: the frames of `later`, the last one first, and then the first part
abbrev Backwards : ℕ → ℕ → List Piece → List ℕ → Type 0
Backwards n first later m =
    ConcludedIn (key_for (over n) block) block (fed (begun gate m) (reverse (map (frame_of (over n) block) later)))
    (fed_turn (end_of (begun gate m) (map as_turn (fed (begun gate m) (reverse (map (frame_of (over n) block) later))))) (frame_of (over n) block (First first)))

turned : (n first : ℕ) (later : List Piece) (m : List ℕ) → n ≤ 127 → in_range (over n) block ≡ true → pieces (plan_of (over n) block) ≡ First first ∷ later → 16384 ≤ length m → Backwards n first later m
turned n first later m h r e k =
    fed-backwards gate m (over n) block (frame_of (over n) block (First first)) (map (frame_of (over n) block) later) block-bytes
    (cut-made (over n) block (First first ∷ later) r (over-both n) block-ours e) (more n h) gate-good gate-lists k block-right

abbrev later-127 : List Piece
later-127 = Later 152 112 ∷ Later 264 112 ∷ Later 376 112 ∷ Later 488 112 ∷ Later 600 112 ∷ Later 712 112 ∷ Later 824 112 ∷ Later 936 112 ∷ Later 1048 112 ∷ Later 1160 112 ∷ Later 1272 8 ∷ []

pieces-127 : pieces (plan_of (over 127) block) ≡ First 104 ∷ later-127
unfolding pieces whole_length first_part later_room later_pieces piece_from
pieces-127 = ap pieces (plan-is 127) ∙ refl

range-127 : in_range (over 127) block ≡ true
unfolding in_range
range-127 = rw block-length refl

-- twelve frames
pub backwards-127 : (m : List ℕ) → 16384 ≤ length m → Backwards 127 104 later-127 m
backwards-127 m k = turned 127 104 later-127 m (omega arith) range-127 pieces-127 k

abbrev later-80 : List Piece
later-80 = Later 104 64 ∷ Later 168 64 ∷ Later 232 64 ∷ Later 296 64 ∷ Later 360 64 ∷ Later 424 64 ∷ Later 488 64 ∷ Later 552 64 ∷ Later 616 64 ∷ Later 680 64 ∷ Later 744 64 ∷ Later 808 64 ∷ Later 872 64 ∷ Later 936 64 ∷ Later 1000 64 ∷ Later 1064 64 ∷ Later 1128 64 ∷ Later 1192 64 ∷ Later 1256 24 ∷ []

pieces-80 : pieces (plan_of (over 80) block) ≡ First 56 ∷ later-80
unfolding pieces whole_length first_part later_room later_pieces piece_from
pieces-80 = ap pieces (plan-is 80) ∙ refl

range-80 : in_range (over 80) block ≡ true
unfolding in_range
range-80 = rw block-length refl

-- twenty frames
pub backwards-80 : (m : List ℕ) → 16384 ≤ length m → Backwards 80 56 later-80 m
backwards-80 m k = turned 80 56 later-80 m (omega arith) range-80 pieces-80 k
