-- The slot table in the 149 numbers of 64 bits that its caller keeps (include/lift.h, `lift_table`).
--
--     slot i, from 17 * i on                             136    gateway seat i, from 137 + 3 * i on
--     0 source: kind  1 number  2 PAN                    last   0 kind  1 number  2 PAN
--     3 destination: kind  4 number                      time
--     5 size + tag * 2^16 + sum.ip * 2^32 + sum.udp * 2^48
--     6 since   7..10 covered   11..14 starts   15 live   16 sum.kind
use Rattle.std.specs.Prelude.{ℕ, zero, suc, ◌+◌, ◌*◌, ◌/◌, ◌%◌, List, [], ◌∷◌, ◌++◌, get_or, set, eqb, ltb, Bool, not, ◌&&◌, Option, Some, None}
use Rattle.octets.specs.Read.{choose}
use Rattle.reassembly.specs.Slots.{same_source, present, held}
use Rattle.expand.specs.declared.checksum.UdpSum.{UdpSum}
use Rattle.reassembly.specs.declared.slot.Node.{Node}
use Rattle.reassembly.specs.declared.slot.Source.{Source}
use Rattle.reassembly.specs.declared.slot.Key.{Key}
use Rattle.reassembly.specs.declared.slot.Slot.{Slot}
use Rattle.reassembly.specs.declared.table.Table.{Table}

-- n values of f, from i on
unfoldable pub each : {A : Type 0} → ℕ → ℕ → (ℕ → A) → List A
each zero i f = []
each (suc n) i f = f i ∷ each n (suc i) f

-- ---- what stands at a place: an address, a sender, four numbers of marks, a slot
unfoldable pub node_in : List ℕ → ℕ → Node
node_in ws at = record { kind = get_or ws at 0; number = get_or ws (at + 1) 0 }

unfoldable pub source_in : List ℕ → ℕ → Source
source_in ws at = record { node = node_in ws at; pan = get_or ws (at + 2) 0 }

unfoldable pub four_in : List ℕ → ℕ → List ℕ
four_in ws at = get_or ws at 0 ∷ get_or ws (at + 1) 0 ∷ get_or ws (at + 2) 0 ∷ get_or ws (at + 3) 0 ∷ []

-- the packed number w: its four fields of 16 bits, the low one first
unfoldable pub key_of : Source → Node → ℕ → Key
key_of s d w = record { src = s; dst = d; size = w % 65536; tag = w / 65536 % 65536 }

unfoldable pub sum_of : ℕ → ℕ → UdpSum
sum_of k w = record { kind = k; ip = w / 4294967296 % 65536; udp = w / 281474976710656 % 65536 }

unfoldable pub slot_in : List ℕ → ℕ → Slot
slot_in ws at = record {
  key = key_of (source_in ws at) (node_in ws (at + 3)) (get_or ws (at + 5) 0);
  since = get_or ws (at + 6) 0;
  covered = four_in ws (at + 7);
  starts = four_in ws (at + 11);
  live = get_or ws (at + 15) 0;
  sum = sum_of (get_or ws (at + 16) 0) (get_or ws (at + 5) 0);
}

-- ---- the table
unfoldable pub slots_in : List ℕ → List Slot
slots_in ws = each 8 0 (λ i. slot_in ws (i * 17))

unfoldable pub seats_in : List ℕ → List Source
seats_in ws = each 4 0 (λ i. source_in ws (137 + i * 3))

unfoldable pub table_in : List ℕ → Table
table_in ws = record { slots = slots_in ws; last = get_or ws 136 0; gateways = seats_in ws }

-- the slot of a number, and none where the number is 8 or more
unfoldable pub found : ℕ → Option ℕ
found i = choose (ltb i 8) (Some i) None

-- ---- the tests of a seat: it is a's; it is that of another gateway than g that holds no slot
abbrev pub seat : Source → Source → Bool
seat a g = present g && same_source a g

abbrev pub idle_seat : List Slot → Source → Source → Bool
idle_seat l g h = present h && (not (same_source h g) && eqb (held h l) 0)

-- ---- the table after a store: slot i is s; seat i is s. There is no slot 8 and no seat 4, and nothing is stored there
unfoldable pub with_slot : Table → ℕ → Slot → Table
with_slot t i s = record { slots = set t.slots i s; last = t.last; gateways = t.gateways }

unfoldable pub with_seat : Table → ℕ → Source → Table
with_seat t i s = record { slots = t.slots; last = t.last; gateways = set t.gateways i s }

-- ---- the numbers of a sender and of a slot, as they are stored
unfoldable pub source_words : Source → List ℕ
source_words s = s.node.kind ∷ s.node.number ∷ s.pan ∷ []

unfoldable pub packed : ℕ → ℕ → ℕ → ℕ → ℕ
packed size tag ip udp = size + tag * 65536 + ip * 4294967296 + udp * 281474976710656

-- a slot's numbers between its source and its marks, and behind them
unfoldable pub head_words : Slot → List ℕ
head_words s =
    s.key.dst.kind ∷ s.key.dst.number ∷ packed s.key.size s.key.tag s.sum.ip s.sum.udp ∷ s.since ∷ []

unfoldable pub tail_words : Slot → List ℕ
tail_words s = s.live ∷ s.sum.kind ∷ []

unfoldable pub slot_words : Slot → List ℕ
slot_words s = source_words s.key.src ++ (head_words s ++ (four_in s.covered 0 ++ (four_in s.starts 0 ++ tail_words s)))
