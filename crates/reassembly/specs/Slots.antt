-- Addresses, keys, slots and gateways as the table holds them (the scope document, "Expansion and the slot table").
use Rattle.ieee802154.specs.declared.addr.Pan.{Pan}
use Rattle.std.specs.Prelude.{ℕ, ◌-◌, Bool, not, ◌&&◌, ◌||◌, List, [], ◌∷◌, replicate, eqb, ltb, leb, Option}
use Rattle.octets.specs.Read.{choose}
use Rattle.ieee802154.specs.declared.addr.Address.{Address}
use Rattle.ieee802154.specs.declared.addr.Address.TheVariants.{Absent, Short, Extended}
use Rattle.ieee802154.specs.Addressing.{pan_number}
use Rattle.expand.specs.Sum.{no_sum}
use Rattle.reassembly.specs.Lists.{count, first_at, those}
use Rattle.reassembly.specs.declared.slot.Node.{Node}
use Rattle.reassembly.specs.declared.slot.Source.{Source}
use Rattle.reassembly.specs.declared.slot.Key.{Key}
use Rattle.reassembly.specs.declared.slot.Slot.{Slot}
use Rattle.reassembly.specs.declared.table.Table.{Table}

-- ---- addresses: 0 an absent one, 1 a short one, 2 an extended one
abbrev pub node_of : Address → Node
node_of Absent = record { kind = 0; number = 0 }
node_of (Short a) = record { kind = 1; number = a }
node_of (Extended a) = record { kind = 2; number = a }

unfoldable pub no_node : Node
no_node = record { kind = 0; number = 0 }

unfoldable pub same_node : Node → Node → Bool
same_node a b = eqb a.kind b.kind && eqb a.number b.number

unfoldable pub addressed : Node → Bool
addressed a = not (eqb a.kind 0)

-- ---- who sends: an address with its PAN, or with none
abbrev pub source_of : Address → Option Pan → Source
source_of a p = record { node = node_of a; pan = pan_number p }

unfoldable pub no_source : Source
no_source = record { node = no_node; pan = 0 }

unfoldable pub same_source : Source → Source → Bool
same_source a b = same_node a.node b.node && eqb a.pan b.pan

unfoldable pub present : Source → Bool
present a = addressed a.node

-- ---- the key is source, destination, size, tag
unfoldable pub same_key : Key → Key → Bool
same_key a b = same_source a.src b.src && (same_node a.dst b.dst && (eqb a.size b.size && eqb a.tag b.tag))

-- whose slots a key's slot counts among: its source
abbrev pub owner : Key → Source
owner k = k.src

unfoldable pub no_key : Key
no_key = record { src = no_source; dst = no_node; size = 0; tag = 0 }

-- ---- slots
abbrev pub busy : Slot → Bool
busy s = eqb s.live 1

-- a free slot has this one value
unfoldable pub free_slot : Slot
free_slot = record { key = no_key; since = 0; covered = replicate 4 0; starts = replicate 4 0; live = 0; sum = no_sum }

-- a slot as it is opened under k at t
unfoldable pub opened : Key → ℕ → Slot
opened k t = record { key = k; since = t; covered = replicate 4 0; starts = replicate 4 0; live = 1; sum = no_sum }

unfoldable pub is_free : Slot → Bool
is_free s = not (busy s)

-- open under k
unfoldable pub is_key : Key → Slot → Bool
is_key k s = busy s && same_key s.key k

-- open under a key of the gateway g
unfoldable pub is_of : Source → Slot → Bool
is_of g s = busy s && same_source (owner s.key) g

-- open, and 60,000 ms or more past its opening
unfoldable pub expired : ℕ → Slot → Bool
expired t s = busy s && leb 60000 (t - s.since)

unfoldable pub expire1 : ℕ → Slot → Slot
expire1 t s = choose (expired t s) free_slot s

unfoldable pub expire : ℕ → List Slot → List Slot
expire t [] = []
expire t (s ∷ l) = expire1 t s ∷ expire t l

-- ---- gateways
-- the table's gateways: a seat without one holds an absent address
unfoldable pub gates_of : Table → List Source
gates_of t = those present t.gateways

unfoldable pub is_gate : Source → List Source → Bool
is_gate g gs = leb 1 (count (same_source g) gs)

-- how many slots g holds, and how many are free
unfoldable pub held : Source → List Slot → ℕ
held g l = count (is_of g) l

unfoldable pub free : List Slot → ℕ
free l = count is_free l

-- how many of the gateways other than g hold none
unfoldable pub idle_others : Source → List Source → List Slot → ℕ
idle_others g gs l = count (λ h. not (same_source h g) && eqb (held h l) 0) gs

-- g opens a slot if it holds none; or if it holds fewer than three and the free slots outnumber the other gateways that hold none
unfoldable pub may_open : Source → List Source → List Slot → Bool
may_open g gs l = leb 1 (free l) && (eqb (held g l) 0 || (ltb (held g l) 3 && ltb (idle_others g gs l) (free l)))

-- the slot that g opens, the lowest free one; 8 where it may not
unfoldable pub opening : Source → List Source → List Slot → ℕ
opening g gs l = choose (may_open g gs l) (first_at is_free l) 8
