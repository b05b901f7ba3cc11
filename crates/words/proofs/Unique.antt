-- The numbers and the table are one to one: two runs of 149 numbers of 64 bits that are one table are one. So the contracts, which speak of
-- the table, fix every number.
use Prim.Native.Nat.{ℕ, ◌+◌, ◌*◌, ◌-◌, ◌/◌, ◌%◌, ◌^◌, ◌≤◌, ◌<◌}
use native.Mathlib.Nat.{add-zero}
use native.Mathlib.Omega.{arith}
use mathlib.Core.Path.{◌≡◌, sym, ap, ◌∙◌}
use mathlib.Core.List.{List}
use lib.ListN.{length, get_or}
use lib.Seq.{ext_get_or}
use Rattle.reassembly.specs.Slots.{no_source, free_slot}
use Rattle.reassembly.specs.declared.slot.Node.{Node}
use Rattle.reassembly.specs.declared.slot.Source.{Source}
use Rattle.reassembly.specs.declared.slot.Slot.{Slot}
use Rattle.reassembly.specs.declared.table.Table.{Table}
use Rattle.reassembly.proofs.Tests.{by_order}
use Rattle.words.specs.Words.{node_in, source_in, four_in, key_of, sum_of, slot_in, table_in}
use Rattle.words.proofs.Numbers.{Same, slot_is, seat-is, last-is}

-- ---- the packed number

low-one : (w v : ℕ) → w % 65536 ≡ v % 65536 → w / 65536 ≡ v / 65536 → w ≡ v
low-one w v a b = omega arith

second : (w : ℕ) → w / 4294967296 ≡ w / 65536 / 65536
second w = omega arith

third : (w : ℕ) → w / 281474976710656 ≡ w / 65536 / 65536 / 65536
third w = omega arith

top_one : (w v : ℕ) → w < 2 ^ 64 → v < 2 ^ 64 → w / 281474976710656 % 65536 ≡ v / 281474976710656 % 65536 → w / 281474976710656 ≡ v / 281474976710656
top_one w v a b e = omega arith

packed-one : (w v : ℕ) → w < 2 ^ 64 → v < 2 ^ 64 → w % 65536 ≡ v % 65536 → w / 65536 % 65536 ≡ v / 65536 % 65536
    → w / 4294967296 % 65536 ≡ v / 4294967296 % 65536 → w / 281474976710656 % 65536 ≡ v / 281474976710656 % 65536 → w ≡ v
packed-one w v f g a b c d =
    let t : w / 65536 / 65536 / 65536 ≡ v / 65536 / 65536 / 65536 = sym (third w) ∙ top_one w v f g d ∙ third v in
    let s : w / 65536 / 65536 % 65536 ≡ v / 65536 / 65536 % 65536 = ap (λ x. x % 65536) (sym (second w)) ∙ c ∙ ap (λ x. x % 65536) (second v) in
    low-one w v a (low-one (w / 65536) (v / 65536) b (low-one (w / 65536 / 65536) (v / 65536 / 65536) s t))

-- ---- two places that say the same have the same numbers

module _ (ws us : List ℕ) where
  one : (a b : ℕ) → get_or ws a 0 ≡ get_or us b 0 → Same 1 ws a us b
  one a b e d h =
      let z : d ≡ 0 = omega arith in
      rw (z, add-zero a, add-zero b) e

  -- the numbers from k on, among those from a place on
  within : (at to k m : ℕ) → Same m ws (at + k) us (to + k) → (d : ℕ) → k ≤ d → d < k + m → get_or ws (at + d) 0 ≡ get_or us (to + d) 0
  within at to k m s d a b =
      let p : at + d ≡ at + k + (d - k) = omega arith in
      let q : to + k + (d - k) ≡ to + d = omega arith in
      ap (λ x. get_or ws x 0) p ∙ s (d - k) (omega arith) ∙ ap (λ x. get_or us x 0) q

  module _ (at to : ℕ) where
    first : get_or ws at 0 ≡ get_or us to 0 → (d : ℕ) → d < 1 → get_or ws (at + d) 0 ≡ get_or us (to + d) 0
    first e d h = one at to e d h

    node-one : node_in ws at ≡ node_in us to → Same 2 ws at us to
    unfolding node_in
    node-one e d h = by_order 1 d
        (λ l. within at to 1 1 (one (at + 1) (to + 1) (ap (λ (n : Node). n.number) e)) d l h)
        (λ l. first (ap (λ (n : Node). n.kind) e) d l)

    source_one : source_in ws at ≡ source_in us to → Same 3 ws at us to
    unfolding source_in
    source_one e d h = by_order 2 d
        (λ l. within at to 2 1 (one (at + 2) (to + 2) (ap (λ (s : Source). s.pan) e)) d l h)
        (λ l. node-one (ap (λ (s : Source). s.node) e) d l)

    four-one : four_in ws at ≡ four_in us to → Same 4 ws at us to
    unfolding four_in
    four-one e d h = by_order 1 d
        (λ a. by_order 2 d
        (λ b. by_order 3 d
        (λ c. within at to 3 1 (one (at + 3) (to + 3) (ap (λ (l : List ℕ). get_or l 3 0) e)) d c h)
        (λ c. within at to 2 1 (one (at + 2) (to + 2) (ap (λ (l : List ℕ). get_or l 2 0) e)) d b c))
        (λ b. within at to 1 1 (one (at + 1) (to + 1) (ap (λ (l : List ℕ). get_or l 1 0) e)) d a b))
        (λ a. first (ap (λ (l : List ℕ). get_or l 0 0) e) d a)

  module _ (at to : ℕ) (f : get_or ws (at + 5) 0 < 2 ^ 64) (g : get_or us (to + 5) 0 < 2 ^ 64) (e : slot_in ws at ≡ slot_in us to) where
    word-one : get_or ws (at + 5) 0 ≡ get_or us (to + 5) 0
    unfolding slot_in key_of sum_of
    word-one = packed-one (get_or ws (at + 5) 0) (get_or us (to + 5) 0) f g (ap (λ (s : Slot). s.key.size) e) (ap (λ (s : Slot). s.key.tag) e) (ap (λ (s : Slot). s.sum.ip) e) (ap (λ (s : Slot). s.sum.udp) e)

    slot-one : Same 17 ws at us to
    unfolding slot_in key_of sum_of
    slot-one d h = by_order 3 d
        (λ a. by_order 5 d
        (λ b. by_order 6 d
        (λ c. by_order 7 d
        (λ i. by_order 11 d
        (λ j. by_order 15 d
        (λ k. by_order 16 d
        (λ l. within at to 16 1 (one (at + 16) (to + 16) (ap (λ (s : Slot). s.sum.kind) e)) d l h)
        (λ l. within at to 15 1 (one (at + 15) (to + 15) (ap (λ (s : Slot). s.live) e)) d k l))
        (λ k. within at to 11 4 (four-one (at + 11) (to + 11) (ap (λ (s : Slot). s.starts) e)) d j k))
        (λ j. within at to 7 4 (four-one (at + 7) (to + 7) (ap (λ (s : Slot). s.covered) e)) d i j))
        (λ i. within at to 6 1 (one (at + 6) (to + 6) (ap (λ (s : Slot). s.since) e)) d c i))
        (λ c. within at to 5 1 (one (at + 5) (to + 5) word-one) d b c))
        (λ b. within at to 3 2 (node-one (at + 3) (to + 3) (ap (λ (s : Slot). s.key.dst) e)) d a b))
        (λ a. source_one at to (ap (λ (s : Slot). s.key.src) e) d a)

  -- ---- the table

  module _ (n : length ws ≡ 149) (m : length us ≡ 149) (f : (k : ℕ) → k < 149 → get_or ws k 0 < 2 ^ 64) (g : (k : ℕ) → k < 149 → get_or us k 0 < 2 ^ 64) (e : table_in ws ≡ table_in us) where
    in-slot : (i : ℕ) → i < 8 → Same 17 ws (i * 17) us (i * 17)
    in-slot i h = slot-one (i * 17) (i * 17) (f (i * 17 + 5) (omega arith)) (g (i * 17 + 5) (omega arith))
        (sym (slot_is ws i free_slot h) ∙ ap (λ (t : Table). get_or t.slots i free_slot) e ∙ slot_is us i free_slot h)

    in-seat : (i : ℕ) → i < 4 → Same 3 ws (137 + i * 3) us (137 + i * 3)
    in-seat i h = source_one (137 + i * 3) (137 + i * 3)
        (sym (seat-is ws i no_source h) ∙ ap (λ (t : Table). get_or t.gateways i no_source) e ∙ seat-is us i no_source h)

    word_of : (k : ℕ) → k < 149 → get_or ws k 0 ≡ get_or us k 0
    word_of k h = by_order 136 k
        (λ a. by_order 137 k
        (λ b. let z : 137 + (k - 137) / 3 * 3 + (k - 137) % 3 ≡ k = omega arith in
        rw z at (in-seat ((k - 137) / 3) (omega arith) ((k - 137) % 3) (omega arith)))
        (λ b. let z : k ≡ 136 = omega arith in
        rw z (last-is ws ∙ ap (λ (t : Table). t.last) e ∙ sym (last-is us))))
        (λ a. let z : k / 17 * 17 + k % 17 ≡ k = omega arith in
        rw z at (in-slot (k / 17) (omega arith) (k % 17) (omega arith)))

    pub table-one : ws ≡ us
    table-one = ext_get_or 0 ws us (n ∙ sym m) (λ k h. word_of k (omega arith))
