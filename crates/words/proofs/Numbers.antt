-- The table that the numbers are: what stands at a place, and the table after a run of stores.
use Prim.Native.Nat.{ℕ, ◌+◌, ◌*◌, ◌-◌, ◌/◌, ◌%◌, ◌≤◌, ◌<◌}
use native.Mathlib.Nat.{add-zero, zero-add}
use native.Mathlib.Omega.{arith}
use mathlib.Core.Path.{◌≡◌, refl, sym, ap, ap₂, ◌∙◌}
use mathlib.Core.List.{List, [], ◌∷◌}
use lib.ListN.{length, get_or, replicate, get_or-replicate}
use lib.Seq.{set_out}
use Rattle.octets.specs.Write.{put}
use Rattle.reassembly.specs.Slots.{no_node, no_source, no_key, free_slot}
use Rattle.reassembly.specs.Table.{with_slots}
use Rattle.expand.specs.declared.checksum.UdpSum.{UdpSum}
use Rattle.reassembly.specs.declared.slot.Node.{Node}
use Rattle.reassembly.specs.declared.slot.Source.{Source}
use Rattle.reassembly.specs.declared.slot.Key.{Key}
use Rattle.reassembly.specs.declared.slot.Slot.{Slot}
use Rattle.reassembly.specs.declared.table.Table.{Table}
use Rattle.reassembly.proofs.Tests.{by_order}
use Rattle.reassembly.proofs.Lists.{put-sets, get_or-sets-before, get_or-sets-after, get_or-sets-in}
use Rattle.words.specs.Words.{node_in, source_in, four_in, key_of, sum_of, slot_in, slots_in, seats_in, table_in, with_slot, with_seat, source_words, packed, head_words, tail_words, slot_words}
use Rattle.words.proofs.Each.{length-each, get_or-each, each-is, each_same, each_set}

-- ---- two places whose next n numbers are the same

abbrev pub Same : ℕ → List ℕ → ℕ → List ℕ → ℕ → Type 0
Same n ws at vs to = (d : ℕ) → d < n → get_or ws (at + d) 0 ≡ get_or vs (to + d) 0

module _ (ws vs : List ℕ) (at to : ℕ) where
  same_first : (n : ℕ) → 0 < n → Same n ws at vs to → get_or ws at 0 ≡ get_or vs to 0
  same_first n k h = ap (λ x. get_or ws x 0) (sym (add-zero at)) ∙ h 0 k ∙ ap (λ x. get_or vs x 0) (add-zero to)

  same-part : (n k m : ℕ) → k + m ≤ n → Same n ws at vs to → Same m ws (at + k) vs (to + k)
  same-part n k m l h d b =
      let e : at + k + d ≡ at + (k + d) = omega arith in
      let f : to + (k + d) ≡ to + k + d = omega arith in
      ap (λ x. get_or ws x 0) e ∙ h (k + d) (omega arith) ∙ ap (λ x. get_or vs x 0) f

  pub node-same : Same 2 ws at vs to → node_in ws at ≡ node_in vs to
  unfolding node_in
  node-same h = ap₂ (λ (k n : ℕ). record { kind = k; number = n }) (same_first 2 (omega arith) h) (h 1 (omega arith))

  pub source-same : Same 3 ws at vs to → source_in ws at ≡ source_in vs to
  unfolding source_in
  source-same h = ap₂ (λ (n : Node) (p : ℕ). record { node = n; pan = p }) (node-same (λ d b. h d (omega arith))) (h 2 (omega arith))

  four_same : Same 4 ws at vs to → four_in ws at ≡ four_in vs to
  unfolding four_in
  four_same h =
      let a = same_first 4 (omega arith) h in
      let b = h 1 (omega arith) in
      let c = h 2 (omega arith) in
      let d = h 3 (omega arith) in
      λ i. a i ∷ b i ∷ c i ∷ d i ∷ []

pub slot_same : (ws vs : List ℕ) (at to : ℕ) → Same 17 ws at vs to → slot_in ws at ≡ slot_in vs to
unfolding slot_in
slot_same ws vs at to h =
    let s = source-same ws vs at to (λ d b. h d (omega arith)) in
    let n = node-same ws vs (at + 3) (to + 3) (same-part ws vs at to 17 3 2 (omega arith) h) in
    let w = h 5 (omega arith) in
    let q = h 6 (omega arith) in
    let c = four_same ws vs (at + 7) (to + 7) (same-part ws vs at to 17 7 4 (omega arith) h) in
    let t = four_same ws vs (at + 11) (to + 11) (same-part ws vs at to 17 11 4 (omega arith) h) in
    let l = h 15 (omega arith) in
    let k = h 16 (omega arith) in
    λ i. record { key = key_of (s i) (n i) (w i); since = q i; covered = c i; starts = t i; live = l i; sum = sum_of (k i) (w i) }

-- a record that is read field by field
pub slot_read : (ws : List ℕ) (k : ℕ) (src : Source) (key : Key) (c s : List ℕ) (m : UdpSum) → src ≡ source_in ws k
    → key ≡ key_of src (record { kind = get_or ws (k + 3) 0; number = get_or ws (k + 4) 0 }) (get_or ws (k + 5) 0)
    → c ≡ four_in ws (k + 7) → s ≡ four_in ws (k + 11) → m ≡ sum_of (get_or ws (k + 16) 0) (get_or ws (k + 5) 0)
    → record { key = key; since = get_or ws (k + 6) 0; covered = c; starts = s; live = get_or ws (k + 15) 0; sum = m } ≡ slot_in ws k
unfolding slot_in node_in
slot_read ws k src key c s m e f g h q =
    let z : k + 4 ≡ k + 3 + 1 = omega arith in
    let n : key ≡ key_of (source_in ws k) (record { kind = get_or ws (k + 3) 0; number = get_or ws (k + 3 + 1) 0 }) (get_or ws (k + 5) 0) =
    f ∙ (λ i. key_of (e i) (record { kind = get_or ws (k + 3) 0; number = get_or ws (z i) 0 }) (get_or ws (k + 5) 0)) in
    λ i. record { key = n i; since = get_or ws (k + 6) 0; covered = g i; starts = h i; live = get_or ws (k + 15) 0; sum = q i }

-- ---- the table

pub slots-eight : (ws : List ℕ) → length (table_in ws).slots ≡ 8
unfolding table_in slots_in
slots-eight ws = length-each 8 0 (λ i. slot_in ws (i * 17))

pub slot_is : (ws : List ℕ) (i : ℕ) (d : Slot) → i < 8 → get_or (table_in ws).slots i d ≡ slot_in ws (i * 17)
unfolding table_in slots_in
slot_is ws i d h = get_or-each 8 i (λ j. slot_in ws (j * 17)) d h

pub seats-four : (ws : List ℕ) → length (table_in ws).gateways ≡ 4
unfolding table_in seats_in
seats-four ws = length-each 4 0 (λ i. source_in ws (137 + i * 3))

pub seat-is : (ws : List ℕ) (i : ℕ) (d : Source) → i < 4 → get_or (table_in ws).gateways i d ≡ source_in ws (137 + i * 3)
unfolding table_in seats_in
seat-is ws i d h = get_or-each 4 i (λ j. source_in ws (137 + j * 3)) d h

pub last-is : (ws : List ℕ) → get_or ws 136 0 ≡ (table_in ws).last
unfolding table_in
last-is ws = refl

-- ---- reading after a run of stores

module _ (k : ℕ) (vs ws : List ℕ) (room : k + length vs ≤ length ws) where
  put_in : (n : ℕ) → length vs ≡ n → Same n (put k vs ws) k vs 0
  put_in n e d h =
      let z : k + d - k ≡ d = omega arith in
      ap (λ l. get_or l (k + d) 0) (put-sets k vs ws room)
      ∙ get_or-sets-in vs ws k (k + d) 0 (omega arith) (omega arith) (omega arith)
      ∙ ap (λ x. get_or vs x 0) (z ∙ sym (zero-add d))

  put-before : (x : ℕ) → x < k → get_or (put k vs ws) x 0 ≡ get_or ws x 0
  put-before x h = ap (λ l. get_or l x 0) (put-sets k vs ws room) ∙ get_or-sets-before vs ws k x 0 h

  put-after : (x : ℕ) → k + length vs ≤ x → get_or (put k vs ws) x 0 ≡ get_or ws x 0
  put-after x h = ap (λ l. get_or l x 0) (put-sets k vs ws room) ∙ get_or-sets-after vs ws k x 0 h

-- ---- the table after a run of stores

module _ (ws : List ℕ) (all : length ws ≡ 149) (vs : List ℕ) where
  -- the seventeen numbers of slot i
  module _ (n : length vs ≡ 17) (i : ℕ) (h : i < 8) where
    room : i * 17 + length vs ≤ length ws
    room = omega arith

    other-slot : (j : ℕ) → j < 8 → (j ≡ i → ⊥) → slot_in ws (j * 17) ≡ slot_in (put (i * 17) vs ws) (j * 17)
    other-slot j k o = sym (slot_same (put (i * 17) vs ws) ws (j * 17) (j * 17)
        (λ d b. by_order i j
        (λ l. put-after (i * 17) vs ws room (j * 17 + d) (omega (arith, o)))
        (λ l. put-before (i * 17) vs ws room (j * 17 + d) (omega arith))))

    other-seat : (j : ℕ) → j < 4 → source_in (put (i * 17) vs ws) (137 + j * 3) ≡ source_in ws (137 + j * 3)
    other-seat j k = source-same (put (i * 17) vs ws) ws (137 + j * 3) (137 + j * 3)
        (λ d b. put-after (i * 17) vs ws room (137 + j * 3 + d) (omega arith))

    pub table-slot : table_in (put (i * 17) vs ws) ≡ with_slot (table_in ws) i (slot_in vs 0)
    unfolding table_in slots_in seats_in with_slot
    table-slot =
        let s = sym (each_set 8 i (slot_in vs 0) (λ j. slot_in ws (j * 17)) (λ j. slot_in (put (i * 17) vs ws) (j * 17)) h
        (sym (slot_same (put (i * 17) vs ws) vs (i * 17) 0 (put_in (i * 17) vs ws room 17 n))) other-slot) in
        let l = put-after (i * 17) vs ws room 136 (omega arith) in
        let g = each_same no_source 4 (λ j. source_in (put (i * 17) vs ws) (137 + j * 3)) (λ j. source_in ws (137 + j * 3)) other-seat in
        λ x. record { slots = s x; last = l x; gateways = g x }

  -- the three numbers of seat i
  module _ (n : length vs ≡ 3) (i : ℕ) (h : i < 4) where
    place : 137 + i * 3 + length vs ≤ length ws
    place = omega arith

    same-slot : (j : ℕ) → j < 8 → slot_in (put (137 + i * 3) vs ws) (j * 17) ≡ slot_in ws (j * 17)
    same-slot j k = slot_same (put (137 + i * 3) vs ws) ws (j * 17) (j * 17)
        (λ d b. put-before (137 + i * 3) vs ws place (j * 17 + d) (omega arith))

    seat-beside : (j : ℕ) → j < 4 → (j ≡ i → ⊥) → source_in ws (137 + j * 3) ≡ source_in (put (137 + i * 3) vs ws) (137 + j * 3)
    seat-beside j k o = sym (source-same (put (137 + i * 3) vs ws) ws (137 + j * 3) (137 + j * 3)
        (λ d b. by_order i j
        (λ l. put-after (137 + i * 3) vs ws place (137 + j * 3 + d) (omega (arith, o)))
        (λ l. put-before (137 + i * 3) vs ws place (137 + j * 3 + d) (omega arith))))

    pub table-seat : table_in (put (137 + i * 3) vs ws) ≡ with_seat (table_in ws) i (source_in vs 0)
    unfolding table_in slots_in seats_in with_seat
    table-seat =
        let s = each_same free_slot 8 (λ j. slot_in (put (137 + i * 3) vs ws) (j * 17)) (λ j. slot_in ws (j * 17)) same-slot in
        let l = put-before (137 + i * 3) vs ws place 136 (omega arith) in
        let g = sym (each_set 4 i (source_in vs 0) (λ j. source_in ws (137 + j * 3)) (λ j. source_in (put (137 + i * 3) vs ws) (137 + j * 3)) h
        (sym (source-same (put (137 + i * 3) vs ws) vs (137 + i * 3) 0 (put_in (137 + i * 3) vs ws place 3 n))) seat-beside) in
        λ x. record { slots = s x; last = l x; gateways = g x }

  -- the last time
  module _ (n : length vs ≡ 1) where
    time-place : 136 + length vs ≤ length ws
    time-place = omega arith

    pub table-last : table_in (put 136 vs ws) ≡ with_slots (table_in ws) (get_or vs 0 0) (table_in ws).slots
    unfolding table_in slots_in seats_in with_slots
    table-last =
        let s = each_same free_slot 8 (λ j. slot_in (put 136 vs ws) (j * 17)) (λ j. slot_in ws (j * 17))
        (λ j k. slot_same (put 136 vs ws) ws (j * 17) (j * 17) (λ d b. put-before 136 vs ws time-place (j * 17 + d) (omega arith))) in
        let l : get_or (put 136 vs ws) 136 0 ≡ get_or vs 0 0 = put_in 136 vs ws time-place 1 n 0 (omega arith) in
        let g = each_same no_source 4 (λ j. source_in (put 136 vs ws) (137 + j * 3)) (λ j. source_in ws (137 + j * 3))
        (λ j k. source-same (put 136 vs ws) ws (137 + j * 3) (137 + j * 3) (λ d b. put-after 136 vs ws time-place (137 + j * 3 + d) (omega arith))) in
        λ x. record { slots = s x; last = l x; gateways = g x }

pub no_slot : (ws : List ℕ) (i : ℕ) (s : Slot) → 8 ≤ i → table_in ws ≡ with_slot (table_in ws) i s
unfolding with_slot
no_slot ws i s h =
    let e = set_out (table_in ws).slots i s (omega (arith, slots-eight ws)) in
    λ x. record { slots = sym e x; last = (table_in ws).last; gateways = (table_in ws).gateways }

zero-slot : slot_in [] 0 ≡ free_slot
unfolding slot_in source_in node_in four_in key_of sum_of free_slot no_key no_source no_node
zero-slot = refl

zero-source : source_in [] 0 ≡ no_source
unfolding source_in node_in no_source no_node
zero-source = refl

-- numbers that are all 0
pub table-clear : (ws : List ℕ) → ws ≡ replicate 149 0 → table_in ws ≡ record { slots = replicate 8 free_slot; last = 0; gateways = replicate 4 no_source }
unfolding table_in slots_in seats_in
table-clear ws e =
    let z : (k : ℕ) → k < 149 → get_or ws k 0 ≡ 0 = λ k b. ap (λ (l : List ℕ). get_or l k 0) e ∙ get_or-replicate 149 k 0 0 b in
    let s = sym (each-is free_slot (replicate 8 free_slot) 8 (λ j. slot_in ws (j * 17)) refl
    (λ j k. get_or-replicate 8 j free_slot free_slot k ∙ sym (slot_same ws [] (j * 17) 0 (λ d b. z (j * 17 + d) (omega arith)) ∙ zero-slot))) in
    let l = z 136 (omega arith) in
    let g = sym (each-is no_source (replicate 4 no_source) 4 (λ j. source_in ws (137 + j * 3)) refl
    (λ j k. get_or-replicate 4 j no_source no_source k ∙ sym (source-same ws [] (137 + j * 3) 0 (λ d b. z (137 + j * 3 + d) (omega arith)) ∙ zero-source))) in
    λ x. record { slots = s x; last = l x; gateways = g x }

-- four seats, stored one after the other in a table that has none
pub table-begun : (l : List Source) → length l ≡ 4 → (a b c d e : Table)
    → a ≡ record { slots = replicate 8 free_slot; last = 0; gateways = replicate 4 no_source }
    → b ≡ with_seat a 0 (get_or l 0 no_source) → c ≡ with_seat b 1 (get_or l 1 no_source) → d ≡ with_seat c 2 (get_or l 2 no_source) → e ≡ with_seat d 3 (get_or l 3 no_source)
    → e ≡ record { slots = replicate 8 free_slot; last = 0; gateways = l }
unfolding with_seat
table-begun [] n a b c d e p q r s t = absurd (omega arith)
table-begun (u ∷ []) n a b c d e p q r s t = absurd (omega arith)
table-begun (u ∷ v ∷ []) n a b c d e p q r s t = absurd (omega arith)
table-begun (u ∷ v ∷ w ∷ []) n a b c d e p q r s t = absurd (omega arith)
table-begun (u ∷ v ∷ w ∷ x ∷ []) n a b c d e p q r s t =
    t ∙ ap (λ z. with_seat z 3 x) (s ∙ ap (λ z. with_seat z 2 w) (r ∙ ap (λ z. with_seat z 1 v) (q ∙ ap (λ z. with_seat z 0 u) p)))
table-begun (u ∷ v ∷ w ∷ x ∷ y ∷ l) n a b c d e p q r s t = absurd (omega arith)

-- ---- the numbers of a slot say the slot

pub four_is : (l : List ℕ) → length l ≡ 4 → four_in l 0 ≡ l
unfolding four_in
four_is [] e = absurd (omega arith)
four_is (a ∷ []) e = absurd (omega arith)
four_is (a ∷ b ∷ []) e = absurd (omega arith)
four_is (a ∷ b ∷ c ∷ []) e = absurd (omega arith)
four_is (a ∷ b ∷ c ∷ d ∷ []) e = refl
four_is (a ∷ b ∷ c ∷ d ∷ f ∷ l) e = absurd (omega arith)

module _ (size tag ip udp : ℕ) (a : size < 65536) (b : tag < 65536) (c : ip < 65536) (d : udp < 65536) where
  packed-size : packed size tag ip udp % 65536 ≡ size
  unfolding packed
  packed-size = omega arith

  packed-tag : packed size tag ip udp / 65536 % 65536 ≡ tag
  unfolding packed
  packed-tag = omega arith

  packed-ip : packed size tag ip udp / 4294967296 % 65536 ≡ ip
  unfolding packed
  packed-ip = omega arith

  packed-udp : packed size tag ip udp / 281474976710656 % 65536 ≡ udp
  unfolding packed
  packed-udp = omega arith

-- a slot that a program can hold
pub record Held (s : Slot) : Type 0 where
  pub size : s.key.size < 65536
  pub tag : s.key.tag < 65536
  pub ip : s.sum.ip < 65536
  pub udp : s.sum.udp < 65536
  pub covered : length s.covered ≡ 4
  pub starts : length s.starts ≡ 4

pub slot-back : (s : Slot) → Held s → slot_in (slot_words s) 0 ≡ s
unfolding slot_in source_in node_in key_of sum_of slot_words source_words head_words tail_words four_in
slot-back s h =
    let a = packed-size s.key.size s.key.tag s.sum.ip s.sum.udp h.size h.tag h.ip h.udp in
    let b = packed-tag s.key.size s.key.tag s.sum.ip s.sum.udp h.size h.tag h.ip h.udp in
    let c = packed-ip s.key.size s.key.tag s.sum.ip s.sum.udp h.size h.tag h.ip h.udp in
    let d = packed-udp s.key.size s.key.tag s.sum.ip s.sum.udp h.size h.tag h.ip h.udp in
    let m = four_is s.covered h.covered in
    let n = four_is s.starts h.starts in
    λ i. record {
      key = record { src = s.key.src; dst = s.key.dst; size = a i; tag = b i };
      since = s.since;
      covered = m i;
      starts = n i;
      live = s.live;
      sum = record { kind = s.sum.kind; ip = c i; udp = d i };
    }

pub slot-words : (s : Slot) → length (slot_words s) ≡ 17
unfolding slot_words source_words head_words tail_words four_in
slot-words s = refl

pub source-back : (s : Source) → source_in (source_words s) 0 ≡ s
unfolding source_in node_in source_words
source-back s = refl
