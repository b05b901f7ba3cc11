-- The scope document's printed example: one block with two frames at time 0, and its three lines.
use Rattle.std.specs.Prelude.{Some}
use Rattle.std.proofs.Common.{◌≡◌, ℕ, zero, suc, ◌+◌, ◌/◌, ◌<◌, ◌≤◌, true, false, List, [], ◌∷◌, ◌++◌, length, get_or, take, replicate, sym, refl, ap, ◌∙◌, arith, le-ltb}
use lib.ListN.{length-replicate}
use lib.Seq.{take-length}
use Rattle.octets.specs.Read.{Answer, is, refused, and_then, byte, le16}
use Rattle.octets.specs.Write.{put}
use Rattle.capture.specs.Block.{Timed}
use Rattle.capture.specs.Made.{no_frame, block_of}
use Rattle.capture.proofs.BlockSteps.{count-whole}
use Rattle.capture.proofs.Made.{made-count, made-good, made-frames}
use Rattle.ieee802154.specs.Control.{supported, says_elements, has_sequence, omits_sequence, has_addressing, carried01, carried}
use Rattle.ieee802154.specs.Addressing.{pan_field, address_field, side, sides, addressing}
use Rattle.ieee802154.specs.Security.{auxiliary}
use Rattle.ieee802154.specs.Mac.{sequence, sequence_of, repr_of, header_rest, after_control, header, mac}
use Rattle.ieee802154.specs.declared.addr.Address.TheVariants.{Short}
use Rattle.relay.specs.Headers.{mesh_field, broadcast_field, relay}
use Rattle.sixlowpan.specs.Dispatch.{dispatch_of, dispatch}
use Rattle.expand.specs.Sum.{holds}
use Rattle.expand.specs.Expand.{Expansion}
use Rattle.expand.proofs.CopyLaws.{length-put}
use Rattle.expand.proofs.Examples.{printed-example}
use Rattle.incoming.specs.Incoming.{framed, arrival, Brought, datagram, part, whole, payload}
use Rattle.incoming.specs.declared.arrival.Arrival.{Arrival}
use Rattle.reassembly.specs.Lists.{count, those}
use Rattle.reassembly.specs.Slots.{no_node, no_source, no_key, same_node, same_source, addressed, present, free_slot, expired, expire1, expire, gates_of, is_gate}
use Rattle.reassembly.specs.Parts as Parts
use Rattle.reassembly.specs.Parts.{Reply, output_after}
use Rattle.reassembly.specs.Table.{Call, State, Result, from, slots_at, aged, with_slots, pass, from_gate, take_part, step, lent_call}
use Rattle.reassembly.specs.Fresh.{gate_of, seats, fresh}
use Rattle.receiver.specs.Receive.{key_of, content, brings, frame_call, call_of, tested}
use Rattle.listen.specs.Lines.{width_in, decimal}
use Rattle.capture.specs.File.{pieces, blocks_of, joined}
use Rattle.listen.specs.Heard.{listed_as, Listener, Listened, frame_result, after_frame, said_of, after_frames, said_of_all, hear_block, starting, hear_blocks, hear_all, last_line, beginning, heard}

-- ---- the frames: from 0001, and the same from 1234
abbrev frame_from : ℕ → ℕ → Timed
frame_from lo hi = record {
  time = 0;
  frame = 0x41 ∷ 0x88 ∷ 0x05 ∷ 0xcd ∷ 0xab ∷ 0xff ∷ 0xff ∷ lo ∷ hi ∷ 0x7a ∷ 0x33 ∷ 0x3a ∷ 0x01 ∷ 0x02 ∷ 0x03 ∷ 0x04 ∷ [];
}

abbrev pub frames : List Timed
frames = frame_from 0x01 0x00 ∷ frame_from 0x34 0x12 ∷ []

-- the datagram of the first: fe80::ff:fe00:1 to fe80::ff:fe00:ffff, and four bytes of ICMPv6
abbrev handed : List ℕ
handed =
    0x60 ∷ 0x00 ∷ 0x00 ∷ 0x00 ∷ 0x00 ∷ 0x04 ∷ 0x3a ∷ 0x40
    ∷ 0xfe ∷ 0x80 ∷ 0x00 ∷ 0x00 ∷ 0x00 ∷ 0x00 ∷ 0x00 ∷ 0x00 ∷ 0x00 ∷ 0x00 ∷ 0x00 ∷ 0xff ∷ 0xfe ∷ 0x00 ∷ 0x00 ∷ 0x01
    ∷ 0xfe ∷ 0x80 ∷ 0x00 ∷ 0x00 ∷ 0x00 ∷ 0x00 ∷ 0x00 ∷ 0x00 ∷ 0x00 ∷ 0x00 ∷ 0x00 ∷ 0xff ∷ 0xfe ∷ 0x00 ∷ 0xff ∷ 0xff
    ∷ 0x01 ∷ 0x02 ∷ 0x03 ∷ 0x04 ∷ []

abbrev arrives : ℕ → Arrival
arrives n = record { src = Short n; pan = Some (record { 0 = 0xabcd }); dst = Short 0xffff; payload = record { at = 9 } }

arrived : (arrival (frame_from 0x01 0x00).frame ≡ is (arrives 1)) × (arrival (frame_from 0x34 0x12).frame ≡ is (arrives 0x1234))
unfolding arrival framed relay mesh_field broadcast_field mac header byte le16 sequence header_rest after_control supported says_elements omits_sequence addressing has_addressing sides side carried carried01 pan_field address_field auxiliary repr_of sequence_of has_sequence
arrived = (refl, refl)

brought : frame_call [] 0 (frame_from 0x01 0x00).frame ≡ from 0 (gate_of (listed_as 1)) (Parts.out handed)
unfolding frame_call content payload whole dispatch dispatch_of byte addressed tested holds
brought = rw arrived.0 (ap (λ (e : Answer Expansion). brings 0 (arrives 1) (and_then e (λ (x : Expansion). is (datagram x.bytes x.sum)))) printed-example)

-- "1 out 44", "2 no 9"
abbrev lines : List (List ℕ)
lines =
    (0x31 ∷ 0x20 ∷ 0x6f ∷ 0x75 ∷ 0x74 ∷ 0x20 ∷ 0x34 ∷ 0x34 ∷ 0x0a ∷ [])
    ∷ (0x32 ∷ 0x20 ∷ 0x6e ∷ 0x6f ∷ 0x20 ∷ 0x39 ∷ 0x0a ∷ []) ∷ []

-- ---- what they come to at the beginning
module _ (m : List ℕ) (M : 16384 ≤ length m) where
  abbrev after : ℕ → List ℕ → Listener
  after n o = record { ear = record { table = starting.table; frames = n; block = 0 }; mem = m; out = o }

  abbrev at_first : State
  at_first = record { table = starting.table; mem = m }

  abbrev passed : Reply (List ℕ) → Result
  passed a = record { reply = a; state = record { table = starting.table; mem = m }; opens = 0; ends = 0; took = false }

  -- a gateway's is answered; a stranger's is refused, 9, whatever it is
  answered : step at_first (from 0 (gate_of (listed_as 1)) (Parts.out handed)) ≡ passed (Parts.out handed)
  unfolding step pass with_slots slots_at aged expire expire1 expired count gates_of those present addressed starting fresh seats free_slot no_key no_source no_node from_gate is_gate same_source same_node
  answered = refl

  turned-away : (b : Answer Brought) → step at_first (brings 0 (arrives 0x1234) b) ≡ passed (Parts.refused 9)
  unfolding step take_part pass with_slots slots_at aged expire expire1 expired count gates_of those present addressed starting fresh seats free_slot no_key no_source no_node from_gate is_gate same_source same_node key_of
  turned-away (is (datagram d u)) = refl
  turned-away (is (part size tag u bs e)) = refl
  turned-away (refused n) = refl

  module _ (n : ℕ) (o : List ℕ) (O : 2047 ≤ length o) (f : List ℕ) (c : Call) (C : frame_call [] 0 f ≡ c) (a : Reply (List ℕ)) (S : step at_first c ≡ passed a) where
    came : frame_result (after n o) (record { time = 0; frame = f }) ≡ passed a
    unfolding frame_result call_of lent_call
    came = rw (le-ltb (length m) 16384 M, le-ltb (length o) 2047 O, C) S

  module _ (o : List ℕ) (O : 2047 ≤ length o) where
    o' : List ℕ
    o' = put 0 handed o

    O' : 2047 ≤ length o'
    unfolding o'
    O' = omega (arith, length-put 0 handed o)

    first : frame_result (after 0 o) (frame_from 0x01 0x00) ≡ passed (Parts.out handed)
    first = came 0 o O (frame_from 0x01 0x00).frame _ brought (Parts.out handed) answered

    second : frame_result (after 1 o') (frame_from 0x34 0x12) ≡ passed (Parts.refused 9)
    unfolding frame_call
    second = came 1 o' O' (frame_from 0x34 0x12).frame _ (rw arrived.1 refl) (Parts.refused 9) (turned-away (content [] (arrives 0x1234) (frame_from 0x34 0x12).frame))

    after_first : after_frame (after 0 o) (frame_from 0x01 0x00) ≡ after 1 o'
    unfolding after_frame o'
    after_first = rw first refl

    after-second : after_frame (after 1 o') (frame_from 0x34 0x12) ≡ after 2 o'
    unfolding after_frame
    after-second = rw second refl

    said : said_of_all (after 0 o) frames ≡ lines
    unfolding said_of_all said_of decimal width_in
    said = rw (after_first, first, second) refl

    ended : after_frames (after 0 o) frames ≡ after 2 o'
    unfolding after_frames
    ended = rw (after_first, after-second) refl

-- ---- the block
each : (k : ℕ) → k < length frames → length (get_or frames k no_frame).frame ≤ 127
each zero h = omega arith
each (suc zero) h = omega arith
each (suc (suc k)) h = absurd (omega (arith, h))

few : length frames ≤ 3
few = omega arith

abbrev pub block : List ℕ
block = block_of 0 frames

long : length block ≡ 512
long = count-whole block 0 (rw (made-count 0 frames few each) (omega arith))

one_block : blocks_of block ≡ block ∷ []
unfolding pieces
one_block =
    let e : (length block + 511) / 512 ≡ 1 = omega (arith, long) in
    ap (λ n. pieces n block) e ∙ ap (λ n. take n block ∷ []) (sym long) ∙ ap (λ l. l ∷ []) (take-length block)

-- what it says to whoever begins with memory and output enough
module _ (m o : List ℕ) (M : 16384 ≤ length m) (O : 2047 ≤ length o) where
  abbrev begun : Listener
  begun = record { ear = starting; mem = m; out = o }

  abbrev told : Listened
  told = record { after = record { ear = record { table = starting.table; frames = 2; block = 1 }; mem = m; out = put 0 handed o }; said = lines; more = true }

  heard-block : hear_block begun block ≡ told
  unfolding hear_block starting o'
  heard-block = rw (made-good 0 frames few each, made-frames 0 frames few each, ended m M o O, said m M o O) refl

  heard_all : hear_all begun block ≡ told
  unfolding hear_blocks
  heard_all = rw (one_block, heard-block) refl

-- "1 out 44", "2 no 9", "end 2"
pub printed : heard block ≡
    0x31 ∷ 0x20 ∷ 0x6f ∷ 0x75 ∷ 0x74 ∷ 0x20 ∷ 0x34 ∷ 0x34 ∷ 0x0a
    ∷ 0x32 ∷ 0x20 ∷ 0x6e ∷ 0x6f ∷ 0x20 ∷ 0x39 ∷ 0x0a
    ∷ 0x65 ∷ 0x6e ∷ 0x64 ∷ 0x20 ∷ 0x32 ∷ 0x0a ∷ []
unfolding heard beginning joined decimal width_in
printed =
    let zeros : ℕ → List ℕ = λ n. replicate n 0 in
    let z : ℕ = 0 in
    let M : 16384 ≤ length (zeros 16384) = omega (arith, length-replicate 16384 z) in
    let O : 2047 ≤ length (zeros 2047) = omega (arith, length-replicate 2047 z) in
    ap (λ (q : Listened). joined q.said ++ last_line q) (heard_all (zeros 16384) (zeros 2047) M O)
