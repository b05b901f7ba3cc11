-- A slot's tests, made where its numbers lie.
use Prim.Native.Nat.{ℕ, ◌+◌, ◌*◌, ◌/◌, ◌%◌, ◌<◌}
use native.Mathlib.Omega.{arith}
use mathlib.Core.Path.{◌≡◌, refl, sym, ◌∙◌}
use mathlib.Core.Bool.{Bool, true, false, not, ◌&&◌}
use mathlib.Core.List.{List}
use lib.ListN.{get_or}
use lib.Dec.{eqb}
use borrow.Author.Tests.{eqb-true, eq-eqb, ne_eqb}
use Rattle.reassembly.specs.Slots.{same_node, same_source, same_key, free_slot, is_free, is_key, is_of}
use Rattle.reassembly.specs.declared.slot.Source.{Source}
use Rattle.reassembly.specs.declared.slot.Key.{Key}
use Rattle.reassembly.proofs.Tests.{by-test, and_left, and_right}
use Rattle.words.specs.Words.{node_in, source_in, key_of, slot_in, table_in}
use Rattle.words.proofs.Numbers.{slot_is}

and_none : (a : Bool) → (a && false) ≡ false
and_none true = refl
and_none false = refl

-- size and tag in the low 32 bits of one number
low-two : (w a b : ℕ) → w % 65536 ≡ a → w / 65536 % 65536 ≡ b → w % 4294967296 ≡ a + b * 65536
low-two w a b p q = omega arith

low-size : (w a b : ℕ) → a < 65536 → b < 65536 → w % 4294967296 ≡ a + b * 65536 → w % 65536 ≡ a
low-size w a b g h e = omega arith

low-tag : (w a b : ℕ) → a < 65536 → b < 65536 → w % 4294967296 ≡ a + b * 65536 → w / 65536 % 65536 ≡ b
low-tag w a b g h e = omega arith

module _ (ws : List ℕ) (i : ℕ) (h : i < 8) where
  pub free-is : not (eqb (get_or ws (i * 17 + 15) 0) 1) ≡ is_free (get_or (table_in ws).slots i free_slot)
  unfolding is_free slot_in
  free-is = rw (slot_is ws i free_slot h) refl

  pub of_is : (g : Source) → (eqb (get_or ws (i * 17 + 15) 0) 1 && same_source (source_in ws (i * 17)) g) ≡ is_of g (get_or (table_in ws).slots i free_slot)
  unfolding is_of slot_in key_of
  of_is g = rw (slot_is ws i free_slot h) refl

  module _ (k : Key) (a : k.size < 65536) (b : k.tag < 65536) where
    key-is : is_key k (get_or (table_in ws).slots i free_slot) ≡ (eqb (get_or ws (i * 17 + 15) 0) 1 && (same_source (source_in ws (i * 17)) k.src && (same_node (node_in ws (i * 17 + 3)) k.dst && (eqb (get_or ws (i * 17 + 5) 0 % 65536) k.size && eqb (get_or ws (i * 17 + 5) 0 / 65536 % 65536) k.tag))))
    unfolding is_key same_key slot_in key_of
    key-is = rw (slot_is ws i free_slot h) refl

    pub key-other : (get_or ws (i * 17 + 5) 0 % 4294967296 ≡ k.size + k.tag * 65536 → ⊥) → false ≡ is_key k (get_or (table_in ws).slots i free_slot)
    key-other o =
        let w = get_or ws (i * 17 + 5) 0 in
        let n : (eqb (w % 65536) k.size && eqb (w / 65536 % 65536) k.tag) ≡ false =
        by-test (eqb (w % 65536) k.size && eqb (w / 65536 % 65536) k.tag)
        (λ e. absurd (o (low-two w k.size k.tag (eqb-true _ _ (and_left _ _ e)) (eqb-true _ _ (and_right (eqb (w % 65536) k.size) _ e)))))
        (λ e. e) in
        sym (key-is ∙ rw (n, and_none (same_node (node_in ws (i * 17 + 3)) k.dst), and_none (same_source (source_in ws (i * 17)) k.src), and_none (eqb (get_or ws (i * 17 + 15) 0) 1)) refl)

    pub key-free : (get_or ws (i * 17 + 15) 0 ≡ 1 → ⊥) → false ≡ is_key k (get_or (table_in ws).slots i free_slot)
    key-free o = sym (key-is ∙ rw (ne_eqb (get_or ws (i * 17 + 15) 0) 1 o) refl)

    module _ (e : get_or ws (i * 17 + 5) 0 % 4294967296 ≡ k.size + k.tag * 65536) (l : get_or ws (i * 17 + 15) 0 ≡ 1) where
      pub key-rest : (same_source (source_in ws (i * 17)) k.src && same_node (node_in ws (i * 17 + 3)) k.dst) ≡ is_key k (get_or (table_in ws).slots i free_slot)
      key-rest =
          let w = get_or ws (i * 17 + 5) 0 in
          sym (key-is ∙ rw (eq-eqb (get_or ws (i * 17 + 15) 0) 1 l, eq-eqb (w % 65536) k.size (low-size w k.size k.tag a b e), eq-eqb (w / 65536 % 65536) k.tag (low-tag w k.size k.tag a b e)) (ends (same_source (source_in ws (i * 17)) k.src) (same_node (node_in ws (i * 17 + 3)) k.dst)))
        where
          ends : (x y : Bool) → (x && (y && true)) ≡ (x && y)
          ends true true = refl
          ends true false = refl
          ends false y = refl
