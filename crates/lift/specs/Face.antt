-- What crosses the boundary to C, as numbers: answers and gateways.
use Rattle.ieee802154.specs.declared.addr.Pan.{Pan}
use Rattle.std.specs.Prelude.{ℕ, ◌+◌, ◌-◌, ◌/◌, ◌%◌, ◌≤◌, ◌≡◌, Bool, List, [], ◌∷◌, map, length, get_or, eqb, ltb, leb, Option, Some, None}
use Rattle.octets.specs.Read.{choose}
use Rattle.ieee802154.specs.declared.addr.Address.{Address}
use Rattle.ieee802154.specs.declared.addr.Address.TheVariants.{Absent, Short, Extended}
use Rattle.reassembly.specs.Parts.{Reply, kept, out, refused, told, output_after}
use Rattle.reassembly.specs.Table.{Result, step}
use Rattle.reassembly.specs.Fresh.{gate_of, refused_list, fresh}
use Rattle.reassembly.specs.declared.slot.Source.{Source}
use Rattle.reassembly.specs.declared.table.Table.{Table}
use Rattle.reassembly.specs.declared.table.Gateway.{Gateway}
use Rattle.receiver.specs.Receive.{call_of}

-- ---- an answer as one number: its kind in the high half (0 kept, 1 a datagram, 2 refused), and in the low half the datagram's length
-- or the refusal's number
abbrev pub packed : Reply ℕ → ℕ
packed kept = 0
packed (out n) = 65536 + n
packed (refused n) = 131072 + n

-- a length that the low half has room for
abbrev pub InHalf : Reply ℕ → Type 0
InHalf kept = Unit {0}
InHalf (out n) = n ≤ 65535
InHalf (refused n) = Unit {0}

-- ---- an address as two numbers: 1 and a short one, below 65,536; 2 and an extended one; anything else is no address
unfoldable pub address_of : ℕ → ℕ → Address
address_of k n = choose (eqb k 1) (choose (ltb n 65536) (Short n) Absent) (choose (eqb k 2) (Extended n) Absent)

-- a PAN as one number: 0 is none, and every PAN one more than its identifier
unfoldable pub pan_from : ℕ → Option Pan
pan_from n = choose (eqb n 0) None (Some (record { 0 = n - 1 }))

-- no gateway: an absent address
abbrev pub no_gateway : Gateway
no_gateway = record { addr = Absent; pan = None }

-- a gateway as two numbers: its PAN in the first, from bit 16 on, over the kind of its address; then the address
unfoldable pub gateway_of : ℕ → ℕ → Gateway
gateway_of k n = choose (leb (k / 65536) 65536) (record { addr = address_of (k % 65536) n; pan = pan_from (k / 65536) }) no_gateway

-- two numbers for each gateway; a last one alone is none
unfoldable pub listed : List ℕ → List Gateway
listed [] = []
listed (k ∷ []) = no_gateway ∷ []
listed (k ∷ n ∷ l) = gateway_of k n ∷ listed l

-- the i-th of them
unfoldable pub gateway_at : List ℕ → ℕ → Gateway
gateway_at l i = get_or (listed l) i no_gateway

unfoldable pub gateways : List ℕ → List Source
gateways l = map gate_of (listed l)

-- 14: over four, two equal, or an absent address
unfoldable pub refuses_list : List ℕ → Bool
refuses_list l = refused_list (length (listed l)) (gateways l)

-- the answer: 0, or 14
unfoldable pub list_answer : List ℕ → ℕ
list_answer l = choose (refuses_list l) 14 0

-- the table afterwards, t before: a refused list leaves it as it was
unfoldable pub table_begun : Table → List ℕ → Table
table_begun t l = choose (refuses_list l) t (fresh (gateways l))

-- ---- a frame s at the time at, to the table t with the memory m, the output o and the contexts ctx
unfoldable pub received : Table → ℕ → List ℕ → List ℕ → List ℕ → List ℕ → Result
received t at s ctx m o = step (record { table = t; mem = m }) (call_of m o ctx at s)

-- the answer r, and afterwards the table t, the memory m and the output o, o₀ before, are as q says
pub record Answers (r : ℕ) (t : Table) (m o₀ o : List ℕ) (q : Result) : Type 0 where
  pub answer : r ≡ packed (told q.reply)
  pub table : t ≡ q.state.table
  pub memory : m ≡ q.state.mem
  pub output : o ≡ output_after q.reply o₀
