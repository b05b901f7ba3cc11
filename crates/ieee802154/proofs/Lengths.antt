-- How long a header is. Its length is the sum of the widths of its fields, which the bytes read say, and it ends within the frame.
use Rattle.ieee802154.specs.declared.addr.Address.{Address}
use Rattle.std.specs.Prelude.{Option, Some, None}
use Prim.Native.Nat.{ℕ, ◌+◌, ◌*◌, ◌≤◌}
use native.Mathlib.Omega.{arith}
use mathlib.Core.List.{List}
use mathlib.Core.Bool.{Bool, true, false}
use mathlib.Core.Path.{◌≡◌, refl, sym, ap, subst, ◌∙◌}
use lib.ListN.{length, get_or}
use lib.Dec.{eqb, ltb}
use borrow.Author.Tests.{ltb-false}
use Rattle.octets.specs.Read.{is, refused, Placed, Read, Reader, got, and_then, choose, branch, ◌>>=◌, give, refuse, byte, le16, le64, skip}
use Rattle.octets.proofs.Spans.{Spans, not-refused, spans-give, spans-refuse, spans-then, spans-branch, spans-byte, spans-skip, spans-le16, spans-le64}
use Rattle.ieee802154.specs.Control.{control_of, supported, omits_sequence, has_addressing, carried}
use Rattle.ieee802154.specs.Addressing.{pan_field, address_field, side, sides, addressing}
use Rattle.ieee802154.specs.Security.{auxiliary_length, auxiliary}
use Rattle.ieee802154.proofs.ReadSteps.{after_is}
use Rattle.ieee802154.specs.Mac.{sequence_of, repr_of, header_rest, after_control, header, mac}
use Rattle.ieee802154.specs.declared.addr.Address.TheVariants.{Short, Extended}
use Rattle.ieee802154.specs.declared.control.AddressingMode.{AddressingMode}
use Rattle.ieee802154.specs.declared.control.Control.{Control}
use Rattle.ieee802154.specs.declared.control.Carried.{Carried}
use Rattle.ieee802154.specs.declared.addressing.Addressing.{Addressing}
use Rattle.ieee802154.specs.declared.header.Repr.{Repr}

-- ---- the widths of the fields
abbrev pub pan_width : Bool → ℕ
pan_width t = choose t 2 0

abbrev pub address_width : AddressingMode → ℕ
address_width m = choose (eqb m.0 0) 0 (choose (eqb m.0 2) 2 (choose (eqb m.0 3) 8 0))

abbrev pub sides_width : Carried → AddressingMode → AddressingMode → ℕ
sides_width p d s = (pan_width p.dst + address_width d) + (pan_width p.src + address_width s)

abbrev pub addressing_width : Control → ℕ
addressing_width k = choose (has_addressing k) (sides_width (carried k) k.dst_addr_mode k.src_addr_mode) 0

-- of the auxiliary security header whose security control byte stands at a place
abbrev pub auxiliary_width : Bool → List ℕ → ℕ → ℕ
auxiliary_width t s at = choose t (1 + auxiliary_length (get_or s at 0)) 0

-- where the addressing fields begin: behind the frame control field, and the sequence number unless it is left out
abbrev pub fields_at : Control → ℕ
fields_at k = 2 + choose (omits_sequence k) 0 1

-- the byte as a field, unless it is left out
abbrev pub sequence_in : Control → ℕ → Option ℕ
sequence_in k q = choose (omits_sequence k) None (sequence_of k q)

-- frame control, sequence number, addressing fields, auxiliary security header
abbrev pub control_in : List ℕ → Control
control_in s = control_of (get_or s 0 0 + get_or s 1 0 * 256)

abbrev pub header_length : List ℕ → ℕ
header_length s =
    let k = control_in s in
    let at = fields_at k + addressing_width k in
    at + auxiliary_width k.security_enabled s at

-- ---- how far each reader goes
spans-pan : (t : Bool) → Spans (pan_field t) (pan_width t)
unfolding pan_field
spans-pan t = spans-branch t (◌>>=◌ le16 (λ x. give (Some (record { 0 = x })))) (give None) 2 0 (spans-then le16 (λ x. give _) 2 0 spans-le16 (λ x. spans-give _)) (spans-give _)

spans-address : (m : AddressingMode) → Spans (address_field m) (address_width m)
unfolding address_field
spans-address m =
    spans-branch (eqb m.0 0) (give _) (branch (eqb m.0 2) short (branch (eqb m.0 3) long (refuse 3))) 0 (choose (eqb m.0 2) 2 (choose (eqb m.0 3) 8 0)) (spans-give _)
    (spans-branch (eqb m.0 2) short (branch (eqb m.0 3) long (refuse 3)) 2 (choose (eqb m.0 3) 8 0) (spans-then le16 (λ x. give _) 2 0 spans-le16 (λ x. spans-give _))
    (spans-branch (eqb m.0 3) long (refuse 3) 8 0 (spans-then le64 (λ x. give _) 8 0 spans-le64 (λ x. spans-give _)) (spans-refuse 3 0)))
  where
    short : Reader (Option Address)
    short = ◌>>=◌ le16 (λ x. give (Some (Short x)))

    long : Reader (Option Address)
    long = ◌>>=◌ le64 (λ x. give (Some (Extended x)))

pub spans-side : (t : Bool) (m : AddressingMode) → Spans (side t m) (pan_width t + (address_width m + 0))
unfolding side
spans-side t m =
    spans-then (pan_field t) (λ p. ◌>>=◌ (address_field m) (λ a. give _)) (pan_width t) (address_width m + 0) (spans-pan t)
    (λ p. spans-then (address_field m) (λ a. give _) (address_width m) 0 (spans-address m) (λ a. spans-give _))

spans-sides : (p : Carried) (d s : AddressingMode) → Spans (sides p d s) ((pan_width p.dst + (address_width d + 0)) + ((pan_width p.src + (address_width s + 0)) + 0))
unfolding sides
spans-sides p d s =
    spans-then (side p.dst d) (λ a. ◌>>=◌ (side p.src s) (λ b. give _)) _ ((pan_width p.src + (address_width s + 0)) + 0) (spans-side p.dst d)
    (λ a. spans-then (side p.src s) (λ b. give _) (pan_width p.src + (address_width s + 0)) 0 (spans-side p.src s) (λ b. spans-give _))

pub spans-addressing : (k : Control) → Spans (addressing k) (addressing_width k)
unfolding addressing
spans-addressing k =
    spans-branch (has_addressing k) (sides (carried k) k.dst_addr_mode k.src_addr_mode) (give _) (sides_width (carried k) k.dst_addr_mode k.src_addr_mode) 0
    (λ s at a n h e. let w = spans-sides (carried k) k.dst_addr_mode k.src_addr_mode s at a n h e in omega arith) (spans-give _)

-- ---- what a header that was read says of the bytes
-- a reader after a reader: what the first gave, and what the rest gave from there
pub record Split {A B : Type 0} (m : Reader A) (f : A → Reader B) (s : List ℕ) (at : ℕ) (b : B) (n : ℕ) : Type 0 where
  pub part : A
  pub after : ℕ
  pub first : m s at ≡ got part after
  pub rest : f part s after ≡ got b n

split-go : {A B : Type 0} (m : Reader A) (f : A → Reader B) (s : List ℕ) (at : ℕ) (b : B) (n : ℕ) (r : Read A) → m s at ≡ r → and_then r (λ p. f p.value s p.next) ≡ got b n → Split m f s at b n
split-go m f s at b n (is p) q e = record { part = p.value; after = p.next; first = q; rest = e }
split-go m f s at b n (refused x) q e = not-refused _ x e

pub split : {A B : Type 0} (m : Reader A) (f : A → Reader B) (s : List ℕ) (at : ℕ) (b : B) (n : ℕ) → ◌>>=◌ m f s at ≡ got b n → Split m f s at b n
split m f s at b n e = split-go m f s at b n (m s at) refl e

-- what was given, and where it ends, are one each
abbrev placed : {A : Type 0} → A → ℕ → Placed A
placed a n = record { value = a; next = n }

pub got-one : {A : Type 0} (a b : A) (m n : ℕ) → got a m ≡ got b n → (a ≡ b) × (m ≡ n)
got-one a b m n e = let r : placed a m ≡ placed b n = cc in (ap (λ p. p.value) r, ap (λ p. p.next) r)

-- the byte that was read stands at the place
byte-go : (s : List ℕ) (at b n : ℕ) (t : Bool) → choose t (got (get_or s at 0) (at + 1)) (refused 1) ≡ got b n → (b ≡ get_or s at 0) × (n ≡ at + 1)
byte-go s at b n true e = let g = got-one (get_or s at 0) b (at + 1) n e in (sym g.0, sym g.1)
byte-go s at b n false e = not-refused _ 1 e

byte_at : (s : List ℕ) (at b n : ℕ) → byte s at ≡ got b n → (b ≡ get_or s at 0) × (n ≡ at + 1)
unfolding byte
byte_at s at b n e = byte-go s at b n (ltb at (length s)) e

le16-at : (s : List ℕ) (w n : ℕ) → le16 s 0 ≡ got w n → (w ≡ get_or s 0 0 + get_or s 1 0 * 256) × (n ≡ 2)
unfolding le16
le16-at s w n e =
    let x = split byte (λ lo. ◌>>=◌ byte (λ hi. give (lo + hi * 256))) s 0 w n e in
    let y = split byte (λ hi. give (x.part + hi * 256)) s x.after w n x.rest in
    let p = byte_at s 0 x.part x.after x.first in
    let q = byte_at s x.after y.part y.after y.first in
    let z = got-one (x.part + y.part * 256) w y.after n y.rest in
    let g : get_or s x.after 0 ≡ get_or s 1 0 = ap (λ i. get_or s i 0) p.1 in
    omega arith

-- what was read from a place on, after a frame control field k and a sequence number q
pub record RestIn (k : Control) (q : Option ℕ) (at : ℕ) (s : List ℕ) (h : Repr) (n : ℕ) : Type 0 where
  pub fields : Addressing
  pub is-supported : supported k ≡ true
  pub fields_read : addressing k s at ≡ got fields (at + addressing_width k)
  pub fields_within : at + addressing_width k ≤ length s
  pub auxiliary-read : auxiliary k.security_enabled s (at + addressing_width k) ≡ got tt n
  pub is-header : h ≡ repr_of k q fields

-- what was read after a frame control field k
pub record HeaderIn (k : Control) (s : List ℕ) (h : Repr) (n : ℕ) : Type 0 where
  pub sequence : ℕ
  pub rest : RestIn k (sequence_in k sequence) (fields_at k) s h n

rest-go : (k : Control) (q : Option ℕ) (at : ℕ) (s : List ℕ) (h : Repr) (n : ℕ) (t : Bool) → supported k ≡ t → at ≤ length s → choose t (◌>>=◌ (addressing k) (λ a. ◌>>=◌ (auxiliary k.security_enabled) (λ u. give (repr_of k q a))) s at) (refused 3) ≡ got h n → RestIn k q at s h n
rest-go k q at s h n true t l e =
    let x = split (addressing k) (λ a. ◌>>=◌ (auxiliary k.security_enabled) (λ u. give (repr_of k q a))) s at h n e in
    let y = split (auxiliary k.security_enabled) (λ u. give (repr_of k q x.part)) s x.after h n x.rest in
    let w = spans-addressing k s at x.part x.after l x.first in
    let z = got-one (repr_of k q x.part) h y.after n y.rest in
    record {
      fields = x.part;
      is-supported = t;
      fields_read = x.first ∙ ap (λ i. got x.part i) w.0;
      fields_within = omega arith;
      auxiliary-read = subst (λ i. auxiliary k.security_enabled s i ≡ got tt n) w.0 (y.first ∙ ap (λ i. got tt i) z.1);
      is-header = sym z.0;
    }
rest-go k q at s h n false t l e = not-refused _ 3 e

rest_in : (k : Control) (q : Option ℕ) (at : ℕ) (s : List ℕ) (h : Repr) (n : ℕ) → at ≤ length s → header_rest k q s at ≡ got h n → RestIn k q at s h n
unfolding header_rest
rest_in k q at s h n l e = rest-go k q at s h n (supported k) refl l e

after-go : (k : Control) (s : List ℕ) (h : Repr) (n : ℕ) (t : Bool) → omits_sequence k ≡ t → 2 ≤ length s → choose t (header_rest k None s 2) (◌>>=◌ byte (λ q. header_rest k (sequence_of k q)) s 2) ≡ got h n → HeaderIn k s h n
after-go k s h n true t l e = record { sequence = 0; rest = rw t (rest_in k None 2 s h n l e) }
after-go k s h n false t l e =
    let y = split byte (λ q. header_rest k (sequence_of k q)) s 2 h n e in
    let v = spans-byte s 2 y.part y.after l y.first in
    let d : y.after ≡ 3 = omega arith in
    record { sequence = y.part; rest = rw t (rest_in k (sequence_of k y.part) 3 s h n (omega arith) (rw d at y.rest)) }

after-in : (k : Control) (s : List ℕ) (h : Repr) (n : ℕ) → 2 ≤ length s → after_control k s 2 ≡ got h n → HeaderIn k s h n
after-in k s h n l e = after-go k s h n (omits_sequence k) refl l (sym (after_is k s 2) ∙ e)

pub header-in : (s : List ℕ) (h : Repr) (n : ℕ) → header s 0 ≡ got h n → HeaderIn (control_in s) s h n
unfolding header
header-in s h n e =
    let x = split le16 (λ fc. after_control (control_of fc)) s 0 h n e in
    let p = le16-at s x.part x.after x.first in
    let l = spans-le16 s 0 x.part x.after (omega arith) x.first in
    subst (λ w. HeaderIn (control_of w) s h n) p.0 (after-in (control_of x.part) s h n (omega arith) (rw p.1 at x.rest))

-- ---- the length
pub auxiliary-length : (t : Bool) (s : List ℕ) (at n : ℕ) → at ≤ length s → auxiliary t s at ≡ got tt n → (n ≡ at + auxiliary_width t s at) × (n ≤ length s)
unfolding auxiliary
auxiliary-length true s at n h e =
    let x = split byte (λ b. skip (auxiliary_length b)) s at tt n e in
    let p = byte_at s at x.part x.after x.first in
    let v = spans-byte s at x.part x.after h x.first in
    let w = spans-skip (auxiliary_length x.part) s x.after tt n v.1 x.rest in
    let g : auxiliary_length x.part ≡ auxiliary_length (get_or s at 0) = ap (λ b. auxiliary_length b) p.0 in
    omega arith
auxiliary-length false s at n h e = spans-give tt s at tt n h e

-- the length that `parse` answers: the sum of the widths, and not past the end
pub header-length : (s : List ℕ) (h : Repr) (n : ℕ) → header s 0 ≡ got h n → (n ≡ header_length s) × (n ≤ length s)
header-length s h n e =
    let x = header-in s h n e in
    auxiliary-length (control_in s).security_enabled s (fields_at (control_in s) + addressing_width (control_in s)) n x.rest.fields_within x.rest.auxiliary-read

mac-go : (s : List ℕ) (h : Repr) (n : ℕ) (t u : Bool) → choose t (refused 1) (choose u (refused 4) (header s 0)) ≡ got h n → header s 0 ≡ got h n
mac-go s h n true u e = not-refused _ 1 e
mac-go s h n false true e = not-refused _ 4 e
mac-go s h n false false e = e

pub mac-length : (s : List ℕ) (h : Repr) (n : ℕ) → mac s ≡ got h n → (n ≡ header_length s) × (n ≤ length s)
unfolding mac
mac-length s h n e = header-length s h n (mac-go s h n (ltb (length s) 3) (ltb 127 (length s)) e)

-- a frame of over 127 bytes has no header
over-go : (s : List ℕ) (h : Repr) (n : ℕ) (t u : Bool) → choose t (refused 1) (choose u (refused 4) (header s 0)) ≡ got h n → u ≡ false
over-go s h n true u e = not-refused _ 1 e
over-go s h n false true e = not-refused _ 4 e
over-go s h n false false e = refl

pub mac-short : (s : List ℕ) (h : Repr) (n : ℕ) → mac s ≡ got h n → length s ≤ 127
unfolding mac
mac-short s h n e = ltb-false 127 (length s) (over-go s h n (ltb (length s) 3) (ltb 127 (length s)) e)
