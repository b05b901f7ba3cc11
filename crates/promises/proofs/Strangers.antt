-- "0 for anything that is no gateway" (include/lift.h): only gateways hold slots.
use Prim.Native.Nat.{ℕ, ◌≤◌}
use native.Mathlib.Omega.{arith}
use mathlib.Core.Path.{◌≡◌, refl, ◌∙◌}
use mathlib.Core.Bool.{true, false}
use mathlib.Core.List.{List, [], ◌∷◌}
use lib.ListN.{length}
use Rattle.reassembly.specs.Lists.{bit, count}
use Rattle.reassembly.specs.Slots.{same_source, owner, busy, is_of, gates_of, is_gate, held}
use Rattle.reassembly.specs.Table.{Call, run}
use Rattle.reassembly.specs.Fresh.{Gateways, begun}
use Rattle.reassembly.specs.declared.slot.Source.{Source}
use Rattle.reassembly.specs.declared.slot.Slot.{Slot}
use Rattle.reassembly.proofs.Tests.{by-test, and_left, and_right}
use Rattle.reassembly.proofs.Slots.{same_source-eq}
use Rattle.reassembly.proofs.Gateways.{stray}
use Rattle.reassembly.proofs.Runs.{gates-fresh, fresh-good, run-good, run-gates}

-- a slot of what is no gateway is a stray one
strays : (gs : List Source) (g : Source) (s : Slot) → is_gate g gs ≡ false → is_of g s ≡ true → stray gs s ≡ true
unfolding stray is_of
strays gs g s n e =
    let b = and_left (busy s) (same_source (owner s.key) g) e in
    let o : owner s.key ≡ g = same_source-eq (owner s.key) g (and_right (busy s) (same_source (owner s.key) g) e) in
    rw (b, o, n) refl

none-held : (gs : List Source) (g : Source) → is_gate g gs ≡ false → (l : List Slot) → count (stray gs) l ≡ 0 → held g l ≡ 0
unfolding held count
none-held gs g n [] z = refl
none-held gs g n (s ∷ l) z =
    let ih : count (is_of g) l ≡ 0 = unfold held in (none-held gs g n l (omega (arith, z))) in
    by-test (is_of g s)
    (λ e. let w : bit (stray gs s) ≡ 1 = rw (strays gs g s n e) refl in absurd (omega (arith, z, w)))
    (λ e. rw (e, ih) refl)

-- after every run of calls from a fresh table
pub no-stranger : (gs : List Source) (m : List ℕ) → Gateways gs → 16384 ≤ length m → (cs : List Call) (g : Source) → is_gate g gs ≡ false
    → held g (run (begun gs m) cs).table.slots ≡ 0
no-stranger gs m W h cs g n =
    let σ = run (begun gs m) cs in
    let G₀ = fresh-good gs m W h in
    let G = run-good cs (begun gs m) G₀ in
    let e : gates_of σ.table ≡ gs = run-gates cs (begun gs m) G₀ ∙ gates-fresh gs W in
    none-held (gates_of σ.table) g (rw e n) σ.table.slots G.sound.owned
