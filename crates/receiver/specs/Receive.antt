-- What a frame is to the slot table, whatever table it comes to: the checks of the scope document in its order ("Expansion and the slot table"),
-- and what it is that then comes. Whether its sender is a gateway, 9, the table is asked: `step` (reassembly/specs/Table.antt).
use Rattle.std.specs.Prelude.{ℕ, List}
use Rattle.octets.specs.Read.{Answer, is, refused, choose}
use Rattle.incoming.specs.Incoming.{arrival, Brought, datagram, part, payload}
use Rattle.expand.specs.Sum.{holds}
use Rattle.expand.specs.declared.checksum.UdpSum.{UdpSum}
use Rattle.incoming.specs.declared.arrival.Arrival.{Arrival}
use Rattle.reassembly.specs.Slots.{node_of, addressed, source_of}
use Rattle.reassembly.specs.Parts as Parts
use Rattle.reassembly.specs.Parts.{part_of}
use Rattle.reassembly.specs.Table as Table
use Rattle.reassembly.specs.Table.{Call, other, from, lent_call}
use Rattle.reassembly.specs.declared.slot.Source.{Source}
use Rattle.reassembly.specs.declared.slot.Key.{Key}

-- who sends: the source with its PAN
abbrev pub sender_of : Arrival → Source
sender_of a = source_of a.src a.pan

-- the key is source with PAN, destination, size, tag
unfoldable pub key_of : Arrival → ℕ → ℕ → Key
key_of a size tag = record { src = sender_of a; dst = node_of a.dst; size = size; tag = tag }

-- 6: the destination is absent; then the payload
unfoldable pub content : List ℕ → Arrival → List ℕ → Answer Brought
content ctx a s = choose (addressed (node_of a.dst)) (payload ctx a s) (refused 6)

-- the change requests, item 7: a datagram that came whole is handed out, but not one whose carried checksum does not hold, 17
unfoldable pub tested : UdpSum → List ℕ → Parts.Reply (List ℕ)
tested m d = choose (holds m d) (Parts.out d) (Parts.refused 17)

-- what that is to the table, at the time t, with its sender: a datagram to hand out, a part under its key, or a refusal
abbrev pub brings : ℕ → Arrival → Answer Brought → Call
brings t a (is (datagram d m)) = from t (sender_of a) (tested m d)
brings t a (is (part size tag u bs e)) = Table.part t (part_of (key_of a size tag) u e bs)
brings t a (refused n) = from t (sender_of a) (Parts.refused n)

-- the MAC header's refusals and 13 go before 9
abbrev pub carries : ℕ → List ℕ → List ℕ → Answer Arrival → Call
carries t ctx s (is a) = brings t a (content ctx a s)
carries t ctx s (refused n) = other t (Parts.refused n)

-- the frame s at the time t
unfoldable pub frame_call : List ℕ → ℕ → List ℕ → Call
frame_call ctx t s = carries t ctx s (arrival s)

-- with the lent memory m and the output o
unfoldable pub call_of : List ℕ → List ℕ → List ℕ → ℕ → List ℕ → Call
call_of m o ctx t s = lent_call m o (frame_call ctx t s)
