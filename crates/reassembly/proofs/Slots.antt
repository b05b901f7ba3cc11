-- Nodes, sources, keys and the opening rule: equality as a test, and the rule answer by answer.
use Rattle.ieee802154.specs.declared.addr.Pan.{Pan}
use Rattle.std.specs.Prelude.{Option, Some, None}
use Prim.Native.Nat.{ℕ, ◌≤◌, ◌<◌}
use native.Mathlib.Omega.{arith}
use mathlib.Core.Path.{◌≡◌, refl, ap, ap₂, ◌∙◌}
use mathlib.Core.Bool.{Bool, true, false, ◌&&◌}
use mathlib.Core.List.{List}
use lib.ListN.{length}
use lib.Dec.{eqb, ltb, leb}
use borrow.Author.Tests.{eqb-true, eq-eqb, ne_eqb, le-leb, lt-leb, lt-ltb, le-ltb}
use Rattle.reassembly.specs.Lists.{count, first_at, those}
use Rattle.reassembly.specs.Slots.{node_of, same_node, source_of, same_source, present, same_key, is_free, gates_of, held, free, idle_others, may_open, opening}
use Rattle.reassembly.specs.declared.slot.Node.{Node}
use Rattle.reassembly.specs.declared.slot.Source.{Source}
use Rattle.reassembly.specs.declared.slot.Key.{Key}
use Rattle.reassembly.specs.declared.slot.Slot.{Slot}
use Rattle.reassembly.specs.declared.table.Table.{Table}
use Rattle.ieee802154.specs.declared.addr.Address.{Address}
use Rattle.ieee802154.specs.Addressing.{pan_number}
use Rattle.ieee802154.specs.declared.addr.Address.TheVariants.{Absent, Short, Extended}
use Rattle.reassembly.proofs.Tests.{by_order, and_left, and_right}
use Rattle.reassembly.proofs.Lists.{first_at-none}

-- ---- equality as a test

pub same_node-eq : (a b : Node) → same_node a b ≡ true → a ≡ b
unfolding same_node
same_node-eq a b e =
    ap₂ (λ (k n : ℕ). record { kind = k; number = n })
    (eqb-true a.kind b.kind (and_left (eqb a.kind b.kind) (eqb a.number b.number) e))
    (eqb-true a.number b.number (and_right (eqb a.kind b.kind) (eqb a.number b.number) e))

pub same_node-refl : (a : Node) → same_node a a ≡ true
unfolding same_node
same_node-refl a = rw (eq-eqb a.kind a.kind refl, eq-eqb a.number a.number refl)

pub same_source-eq : (a b : Source) → same_source a b ≡ true → a ≡ b
unfolding same_source
same_source-eq a b e =
    ap₂ (λ n p. record { node = n; pan = p })
    (same_node-eq a.node b.node (and_left (same_node a.node b.node) (eqb a.pan b.pan) e))
    (eqb-true a.pan b.pan (and_right (same_node a.node b.node) (eqb a.pan b.pan) e))

pub same_source-refl : (a : Source) → same_source a a ≡ true
unfolding same_source
same_source-refl a = rw (same_node-refl a.node, eq-eqb a.pan a.pan refl)

pub same_key-eq : (a b : Key) → same_key a b ≡ true → a ≡ b
unfolding same_key
same_key-eq a b e =
    let x1 = same_source a.src b.src in
    let x2 = same_node a.dst b.dst in
    let x3 = eqb a.size b.size in
    let x4 = eqb a.tag b.tag in
    let r1 : (x2 && (x3 && x4)) ≡ true = and_right x1 (x2 && (x3 && x4)) e in
    let r2 : (x3 && x4) ≡ true = and_right x2 (x3 && x4) r1 in
    let e1 : a.src ≡ b.src = same_source-eq a.src b.src (and_left x1 (x2 && (x3 && x4)) e) in
    let e2 : a.dst ≡ b.dst = same_node-eq a.dst b.dst (and_left x2 (x3 && x4) r1) in
    let e3 : a.size ≡ b.size = eqb-true a.size b.size (and_left x3 x4 r2) in
    let e4 : a.tag ≡ b.tag = eqb-true a.tag b.tag (and_right x3 x4 r2) in
    λ i. record { src = e1 i; dst = e2 i; size = e3 i; tag = e4 i }

pub same_key-refl : (a : Key) → same_key a a ≡ true
unfolding same_key
same_key-refl a = rw (same_source-refl a.src, same_node-refl a.dst, eq-eqb a.size a.size refl, eq-eqb a.tag a.tag refl)

-- two addresses that the table holds alike are one
pub node-one : (a b : Address) → node_of a ≡ node_of b → a ≡ b
node-one Absent Absent e = refl
node-one Absent (Short y) e = cc (ap (λ (n : Node). n.kind) e)
node-one Absent (Extended y) e = cc (ap (λ (n : Node). n.kind) e)
node-one (Short x) Absent e = cc (ap (λ (n : Node). n.kind) e)
node-one (Short x) (Short y) e = ap Short (ap (λ (n : Node). n.number) e)
node-one (Short x) (Extended y) e = cc (ap (λ (n : Node). n.kind) e)
node-one (Extended x) Absent e = cc (ap (λ (n : Node). n.kind) e)
node-one (Extended x) (Short y) e = cc (ap (λ (n : Node). n.kind) e)
node-one (Extended x) (Extended y) e = ap Extended (ap (λ (n : Node). n.number) e)

-- two PANs, or none, that the table holds alike are one
pan-one : (p q : Option Pan) → pan_number p ≡ pan_number q → p ≡ q
pan-one None None e = refl
pan-one None (Some y) e = absurd (omega arith)
pan-one (Some x) None e = absurd (omega arith)
pan-one (Some x) (Some y) e = let h : x.0 ≡ y.0 = omega arith in ap (λ (n : ℕ). Some (record { 0 = n })) h

-- "none" is a value and no wildcard: two senders that the table holds alike have one address and one PAN, or both have none
pub source_one : (a b : Address) (p q : Option Pan) → source_of a p ≡ source_of b q → (a ≡ b) × (p ≡ q)
source_one a b p q e = (node-one a b (ap (λ (s : Source). s.node) e), pan-one p q (ap (λ (s : Source). s.pan) e))

-- ---- the gateways among the seats

pub gates-are : (t : Table) → those present t.gateways ≡ gates_of t
unfolding gates_of
gates-are t = refl

-- ---- the opening rule

module _ (g : Source) (gs : List Source) (l : List Slot) where
  pub opening-first : held g l ≡ 0 → length l ≡ 8 → first_at is_free l ≡ opening g gs l
  unfolding opening may_open free
  opening-first z n = by_order 1 (count is_free l)
      (λ h. rw (le-leb 1 (count is_free l) h, eq-eqb (held g l) 0 z))
      (λ h. let e : count is_free l ≡ 0 = omega arith in rw (lt-leb 1 (count is_free l) h) (first_at-none is_free l e ∙ n))

  module _ (some : held g l ≡ 0 → ⊥) where
    pub opening-more : held g l < 3 → idle_others g gs l < free l → first_at is_free l ≡ opening g gs l
    unfolding opening may_open
    opening-more few h =
        let r : 1 ≤ free l = omega arith in
        rw (le-leb 1 (free l) r, ne_eqb (held g l) 0 some, lt-ltb (held g l) 3 few, lt-ltb (idle_others g gs l) (free l) h)

    pub opening-short : free l ≤ idle_others g gs l → 8 ≡ opening g gs l
    unfolding opening may_open
    opening-short h =
        let e : may_open g gs l ≡ false = rw (ne_eqb (held g l) 0 some, le-ltb (idle_others g gs l) (free l) h) (none (leb 1 (free l)) (ltb (held g l) 3)) in
        rw e
      where
        none : (x y : Bool) → (x && (y && false)) ≡ false
        none true true = refl
        none true false = refl
        none false y = refl

    pub opening-full : 3 ≤ held g l → 8 ≡ opening g gs l
    unfolding opening may_open
    opening-full h =
        let e : may_open g gs l ≡ false = rw (ne_eqb (held g l) 0 some, le-ltb (held g l) 3 h) (none (leb 1 (free l))) in
        rw e
      where
        none : (x : Bool) → (x && false) ≡ false
        none true = refl
        none false = refl
