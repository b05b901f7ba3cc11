-- The steps of the writers, for `search`; and the length of what each writes.
use Rattle.std.specs.Prelude.{Option, Some, None}
use Prim.Native.Nat.{ℕ, ◌+◌, ◌≤◌}
use native.Mathlib.Nat.{zero-add}
use native.Mathlib.Omega.{arith}
use mathlib.Core.List.{List, ◌++◌}
use mathlib.Core.Bool.{Bool, true, false}
use mathlib.Core.Path.{◌≡◌, refl, sym, ap, ◌∙◌}
use lib.ListN.{length, length-append}
use Rattle.octets.specs.Read.{choose}
use Rattle.octets.specs.Write.{put, byte_bytes, be16_bytes, be32_bytes, be64_bytes, le16_bytes, le32_bytes, le64_bytes}
use Rattle.octets.proofs.Puts.{more}
use Rattle.ieee802154.specs.Address.{address_length, address_bytes}
use Rattle.ieee802154.specs.Addressing.{pan_or, mode_of, field_length, field_bytes}
use Rattle.ieee802154.specs.Control.{word_of}
use Rattle.ieee802154.specs.Mac.{sequence_or, suppresses, control_with, control_for, front_length, length_of, front_bytes, source_bytes, back_bytes, bytes_of}
use Rattle.ieee802154.specs.declared.addr.Address.{Address}
use Rattle.ieee802154.specs.declared.addr.Address.TheVariants.{Absent, Short, Extended}
use Rattle.ieee802154.specs.declared.control.Control.{Control}
use Rattle.ieee802154.specs.declared.header.Repr.{Repr}

-- ---- addresses
pub length-address : (a : Address) → length (address_bytes a) ≡ address_length a
unfolding be64_bytes be32_bytes be16_bytes
length-address Absent = refl
length-address (Short x) = refl
length-address (Extended x) = refl

pub length-field : (a : Option Address) → length (field_bytes a) ≡ field_length a
unfolding le64_bytes le32_bytes le16_bytes
length-field None = refl
length-field (Some Absent) = refl
length-field (Some (Short x)) = refl
length-field (Some (Extended x)) = refl

pub more-field : (l m n : List ℕ) (at k : ℕ) (a : Option Address) (bs : List ℕ) → k ≡ field_length a → m ≡ put at (field_bytes a) l → n ≡ put (at + k) bs m → n ≡ put at (field_bytes a ++ bs) l
more-field l m n at k a bs h p q = more l m n at k (field_bytes a) bs (length-field a ∙ sym h) p q

-- ---- the header
front-go : (t : Bool) (w q p : ℕ) → length (le16_bytes w ++ choose t (le16_bytes p) (byte_bytes q ++ le16_bytes p)) ≡ choose t 4 5
unfolding byte_bytes le16_bytes
front-go true w q p = refl
front-go false w q p = refl

pub length_front : (h : Repr) → length (front_bytes h) ≡ front_length h
unfolding front_bytes
length_front h = front-go (suppresses h) (word_of (control_for h)) (sequence_or h.sequence_number) (pan_or h.dst_pan_id)

pub more-front : (l m n : List ℕ) (h : Repr) (bs : List ℕ) → m ≡ put 0 (front_bytes h) l → n ≡ put (front_length h) bs m → n ≡ put 0 (front_bytes h ++ bs) l
more-front l m n h bs p q = more l m n 0 (front_length h) (front_bytes h) bs (length_front h) p (q ∙ ap (λ i. put i bs m) (sym (zero-add (front_length h))))

-- from a place that a call gave
pub put-from : (l n : List ℕ) (a b : ℕ) (bs : List ℕ) → a ≡ b → n ≡ put a bs l → n ≡ put b bs l
put-from l n a b bs p q = q ∙ ap (λ i. put i bs l) p

-- by a test whose outcome a call gave
pub put-told : {b : Bool} (t : Bool) (at : ℕ) (cs bs l n : List ℕ) → b ≡ t → b ≡ true → n ≡ put at cs l → n ≡ put at (choose t cs bs) l
put-told t at cs bs l n p h e = rw (← p, h) e

pub put-told-not : {b : Bool} (t : Bool) (at : ℕ) (cs bs l n : List ℕ) → b ≡ t → b ≡ false → n ≡ put at bs l → n ≡ put at (choose t cs bs) l
put-told-not t at cs bs l n p h e = rw (← p, h) e

-- the frame control field of a header, as calls give its parts
pub control-told : (h : Repr) (t : Bool) (d s : ℕ) → t ≡ suppresses h → d ≡ mode_of h.dst_addr → s ≡ mode_of h.src_addr → control_with h t d s ≡ control_for h
control-told h t d s r p q =
    ap (λ z. control_with h z d s) r ∙ ap (λ z. control_with h (suppresses h) z s) p ∙ ap (λ z. control_with h (suppresses h) (mode_of h.dst_addr) z) q

pub word-told : {w : ℕ} {k : Control} (h : Repr) → w ≡ word_of k → k ≡ control_for h → w ≡ word_of (control_for h)
word-told h p q = p ∙ ap word_of q

length-source : (t : Bool) (n : ℕ) (a : Option Address) → length (choose t (field_bytes a) (le16_bytes n ++ field_bytes a)) ≡ choose t 0 2 + field_length a
unfolding le16_bytes
length-source true n a = omega (arith, length-field a)
length-source false n a = omega (arith, length-field a)

length-sources : (h : Repr) → length (source_bytes h) ≡ choose h.pan_id_compression 0 2 + field_length h.src_addr
unfolding source_bytes
length-sources h = length-source h.pan_id_compression _ h.src_addr

pub length-bytes : (h : Repr) → length (bytes_of h) ≡ length_of h
unfolding bytes_of back_bytes length_of
length-bytes h =
    let d = field_bytes h.dst_addr in
    omega (arith, length-append (front_bytes h) (d ++ source_bytes h), length-append d (source_bytes h), length_front h, length-field h.dst_addr, length-sources h)

pub length-le16 : (x : ℕ) → length (le16_bytes x) ≡ 2
unfolding le16_bytes
length-le16 x = refl

-- ---- no header is longer than 23 bytes: a sequence number, two extended addresses, uncompressed
field-most : (a : Option Address) → field_length a ≤ 8
field-most None = omega arith
field-most (Some Absent) = omega arith
field-most (Some (Short x)) = omega arith
field-most (Some (Extended x)) = omega arith

pub length_most : (h : Repr) → length_of h ≤ 23
unfolding length_of
length_most h = go (suppresses h) h.pan_id_compression (field_length h.dst_addr) (field_length h.src_addr) (field-most h.dst_addr) (field-most h.src_addr)
  where
    go : (t c : Bool) (d s : ℕ) → d ≤ 8 → s ≤ 8 → choose t 4 5 + choose c 0 2 + (d + s) ≤ 23
    go true true d s p q = omega arith
    go true false d s p q = omega arith
    go false true d s p q = omega arith
    go false false d s p q = omega arith
