-- The steps of the compressed header's writer, for `search`, and the lengths of what it writes.
use Prim.Native.Nat.{ℕ, ◌+◌}
use native.Mathlib.Omega.{arith}
use mathlib.Core.List.{List, [], ◌++◌}
use mathlib.Core.Bool.{Bool, true, false}
use mathlib.Core.Path.{◌≡◌, refl, sym, ap, ◌∙◌}
use lib.ListN.{length, length-append}
use lib.Dec.{eqb}
use Rattle.octets.specs.Read.{choose}
use Rattle.octets.specs.Write.{put, byte_bytes, be16_bytes, be32_bytes, be64_bytes}
use Rattle.octets.proofs.Puts.{more, put-none, put-nil, more-be16, more-be64, room-short, room-enough, written_over}
use Rattle.iphc.specs.Emit.{inline_length, inline_bytes, hop_bits, hop_length, hop_bytes, front_length, front_bytes, addresses_length, addresses_bytes, source_form, dest_form, length_of, bytes_of}
use Rattle.sixlowpan.specs.declared.protocol.NextHeader.{NextHeader}
use Rattle.sixlowpan.proofs.NextLaws.{length-next, more-next}
use Rattle.sixlowpan.specs.Next.{next_bytes}
use Rattle.iphc.specs.declared.form.Inline.{Inline}
use Rattle.iphc.specs.declared.form.Inline.TheVariants.{Nothing, Bits8, Bits16, Bits32, Bits48, Bits64, Bits128}
use Rattle.iphc.specs.declared.form.Form.{Form}
use Rattle.iphc.specs.declared.header.Repr.{Repr}

-- ---- lengths
pub length-inline : (i : Inline) → length (inline_bytes i) ≡ inline_length i
unfolding byte_bytes be16_bytes be32_bytes be64_bytes
length-inline Nothing = refl
length-inline (Bits8 x) = refl
length-inline (Bits16 x) = refl
length-inline (Bits32 x) = refl
length-inline (Bits48 x y) = refl
length-inline (Bits64 x) = refl
length-inline (Bits128 x y) = refl

pub length-hop : (h : ℕ) → length (hop_bytes h) ≡ hop_length h
unfolding byte_bytes
length-hop h = go (eqb (hop_bits h) 0)
  where
    go : (t : Bool) → length (choose t (byte_bytes h) []) ≡ choose t 1 0
    go true = refl
    go false = refl

pub length_front : (n : NextHeader) (h : ℕ) (s d : Form) → length (front_bytes n h s d) ≡ front_length n h
unfolding front_bytes be16_bytes
length_front n h s d = omega (arith, length-append (next_bytes n) (hop_bytes h), length-next n, length-hop h)

pub length-addresses : (s d : Form) → length (addresses_bytes s d) ≡ addresses_length s d
unfolding addresses_bytes
length-addresses s d = omega (arith, length-append (inline_bytes s.inline) (inline_bytes d.inline), length-inline s.inline, length-inline d.inline)

pub length-bytes : (r : Repr) → length (bytes_of r) ≡ length_of r
unfolding bytes_of length_of
length-bytes r =
    let s = source_form r in
    let d = dest_form r in
    let n = r.next_header in
    let h = r.hop_limit in
    omega (arith, length-append (front_bytes n h s d) (addresses_bytes s d), length_front n h s d, length-addresses s d)

-- ---- a field after a field, as a call says it
pub more-inline : (l m k : List ℕ) (at a : ℕ) (i : Inline) (bs : List ℕ) → a ≡ inline_length i → m ≡ put at (inline_bytes i) l → k ≡ put (at + a) bs m → k ≡ put at (inline_bytes i ++ bs) l
more-inline l m k at a i bs h p q = more l m k at a (inline_bytes i) bs (length-inline i ∙ sym h) p q

pub more-word : (l m k : List ℕ) (at x y : ℕ) (bs : List ℕ) → x ≡ y → m ≡ put at (be16_bytes x) l → k ≡ put (at + 2) bs m → k ≡ put at (be16_bytes y ++ bs) l
unfolding be16_bytes
more-word l m k at x y bs h p q = more l m k at 2 (be16_bytes y) bs refl (p ∙ ap (λ z. put at (be16_bytes z) l) h) q

-- ---- the whole header, with the forms and the lengths that calls gave
pub emit-length : (r : Repr) (s d : Form) (f a : ℕ) → s ≡ source_form r → d ≡ dest_form r → f ≡ front_length r.next_header r.hop_limit → a ≡ addresses_length s d → f + a ≡ length_of r
unfolding length_of
emit-length r s d f a es ed ef ea = rw (ef, ea, es, ed) refl

pub emit-bytes : (r : Repr) (s d : Form) (f : ℕ) (l m k : List ℕ) → s ≡ source_form r → d ≡ dest_form r → f ≡ front_length r.next_header r.hop_limit → m ≡ put 0 (front_bytes r.next_header r.hop_limit s d) l → k ≡ put f (addresses_bytes s d) m → k ≡ put 0 (bytes_of r) l
unfolding bytes_of
emit-bytes r s d f l m k es ed ef p q =
    let n = r.next_header in
    let h = r.hop_limit in
    let b : length (front_bytes n h s d) ≡ f = length_front n h s d ∙ sym ef in
    let e : put f (addresses_bytes s d) m ≡ put (0 + f) (addresses_bytes s d) m = ap (λ z. put z (addresses_bytes s d) m) (omega arith) in
    more l m k 0 f (front_bytes n h s d) (addresses_bytes s d) b p (q ∙ e) ∙ ap (λ z. put 0 (front_bytes n h z d ++ addresses_bytes z d) l) es ∙ ap (λ z. put 0 (front_bytes n h (source_form r) z ++ addresses_bytes (source_form r) z) l) ed

pub ruleset iphc_puts = (put-none, more-next, more-inline, more-word)

pub ruleset inline_puts = (put-none, put-nil, more-be16, more-be64)

pub ruleset emit_puts = (room-short, room-enough, written_over, emit-length, emit-bytes, length-bytes)
