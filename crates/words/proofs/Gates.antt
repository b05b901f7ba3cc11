-- The gateways among the seats: tests of a gateway are tests of the seats.
use mathlib.Core.Path.{◌≡◌, sym, ap, ◌∙◌}
use mathlib.Core.Bool.{not, ◌&&◌}
use lib.Dec.{eqb, leb}
use Rattle.reassembly.specs.Lists.{count}
use Rattle.reassembly.specs.Slots.{same_source, present, gates_of, is_gate, held, idle_others}
use Rattle.reassembly.specs.declared.slot.Source.{Source}
use Rattle.reassembly.specs.declared.table.Table.{Table}
use Rattle.reassembly.proofs.Lists.{count-those}
use Rattle.reassembly.proofs.Slots.{gates-are}
use Rattle.words.specs.Words.{seat, idle_seat}

pub gates-told : (t : Table) (a : Source) → leb 1 (count (seat a) t.gateways) ≡ is_gate a (gates_of t)
unfolding is_gate
gates-told t a = sym (ap (leb 1) (count-those (same_source a) present t.gateways)) ∙ ap (is_gate a) (gates-are t)

pub idle-seats : (t : Table) (g : Source) → idle_others g (gates_of t) t.slots ≡ count (idle_seat t.slots g) t.gateways
unfolding idle_others gates_of
idle-seats t g = count-those (λ h. not (same_source h g) && eqb (held h t.slots) 0) present t.gateways
