-- A table's beginning: the gateway list, 14 where it is refused, and eight free slots.
use Rattle.octets.specs.declared.refusal.Refusal.{Refusal}
use Rattle.std.specs.Prelude.{ℕ, ◌-◌, ◌≤◌, Bool, not, ◌||◌, ◌≡◌, List, ◌++◌, map, length, take, replicate, ltb, leb, Result}
use Rattle.octets.specs.Read.{Answer, is, refused, choose}
use Rattle.octets.specs.Answers.{of_answer}
use Rattle.reassembly.specs.Lists.{count, those}
use Rattle.reassembly.specs.Slots.{source_of, no_source, same_source, present, free_slot}
use Rattle.reassembly.specs.Table.{State}
use Rattle.reassembly.specs.declared.slot.Source.{Source}
use Rattle.reassembly.specs.declared.table.Table.{Table}
use Rattle.reassembly.specs.declared.table.Gateway.{Gateway}

-- the seats of these gateways: four, an absent address in those that are left
unfoldable pub seats : List Source → List Source
seats gs = gs ++ replicate (4 - length gs) no_source

-- a table of these gateways, at its beginning: eight free slots, the last time 0
unfoldable pub fresh : List Source → Table
fresh gs = record { slots = replicate 8 free_slot; last = 0; gateways = seats gs }

-- and the lent memory as it happens to be
abbrev pub begun : List Source → List ℕ → State
begun gs m = record { table = fresh gs; mem = m }

-- a gateway, and the first n of a list, as the table holds them
abbrev pub gate_of : Gateway → Source
gate_of g = source_of g.addr g.pan

unfoldable pub sources : ℕ → List Gateway → List Source
sources n l = map gate_of (take n l)

-- a gateway of the list whose address is absent, or that stands in it twice
unfoldable pub unfit : List Source → Source → Bool
unfit gs g = not (present g) || ltb 1 (count (same_source g) gs)

-- 14: over four, two equal, or an absent address
unfoldable pub refused_list : ℕ → List Source → Bool
refused_list n gs = ltb 4 n || leb 1 (count (unfit gs) gs)

-- a list that 14 lets pass: at most four, each present, no two equal
pub record Gateways (gs : List Source) : Type 0 where
  pub four : length gs ≤ 4
  pub seated : those present gs ≡ gs
  pub distinct : (g : Source) → count (same_source g) gs ≤ 1

unfoldable pub listed : ℕ → List Source → Answer (Unit {0})
listed n gs = choose (refused_list n gs) (refused 14) (is tt)

-- what `seat` answers: the seats of the list
unfoldable pub seated : ℕ → List Source → Answer (List Source)
seated n gs = choose (refused_list n gs) (refused 14) (is (seats gs))

-- what a list of n gateways makes of the table t: a refused list leaves it as it was
unfoldable pub made : Table → ℕ → List Source → Table
made t n gs = choose (refused_list n gs) t (fresh gs)

-- the answer to a list, and the table afterwards, t before
pub record Begins (y : Result (Unit {0}) Refusal) (t x : Table) (n : ℕ) (l : List Gateway) : Type 0 where
  pub answer : of_answer y ≡ listed n (sources n l)
  pub table : x ≡ made t n (sources n l)
