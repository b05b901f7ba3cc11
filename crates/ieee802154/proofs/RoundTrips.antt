-- Written, then read: exactly the headers that `round_trips` admits come back as they were, with just the bytes written, wherever these stand
-- and whatever follows.
use Rattle.ieee802154.specs.declared.addr.Pan.{Pan}
use Rattle.std.specs.Prelude.{Option, Some, None}
use Prim.Native.Nat.{ℕ, ◌+◌, ◌/◌, ◌%◌, ◌≤◌, ◌<◌}
use native.Mathlib.Nat.{zero-add}
use native.Mathlib.Omega.{arith}
use mathlib.Core.List.{List, [], ◌++◌, append_assoc}
use mathlib.Core.Bool.{Bool, true, false, not}
use mathlib.Core.Path.{◌≡◌, refl, sym, ap, subst, ◌∙◌}
use lib.ListN.{length, get_or, drop, length-append, length-drop}
use lib.Dec.{eqb, ltb}
use borrow.Author.Tests.{ltb-true, lt-ltb, le-ltb, eqb-true, eq-eqb, ne_eqb, not-true, le-leb}
use Rattle.octets.specs.Read.{is, refused, Reader, got, choose, branch, give, refuse, ◌>>=◌, byte, le16, le64}
use Rattle.octets.specs.Write.{over, byte_bytes, be16_bytes, be32_bytes, be64_bytes, le16_bytes, le64_bytes}
use Rattle.octets.proofs.Steps.{and-true}
use Rattle.octets.proofs.RoundTrip.{Reads, reads_then, reads-map, reads-give, reads_byte, reads-be16, reads-be64, reads-le16, reads-le64}
use Rattle.ieee802154.specs.Address.{is_present, from_bytes, address_bytes}
use Rattle.ieee802154.specs.declared.addr.Address.{Address}
use Rattle.ieee802154.specs.Control.{bit, bit_of, control_of, word_of, supported, has_sequence, says_elements, has_elements, may_omit, omits_sequence, has_addressing, pans, carried01, carried2, carried}
use Rattle.ieee802154.specs.Addressing.{pan_field, address_field, side, sides, addressing, pan_or, mode_of, field_length, field_bytes}
use Rattle.ieee802154.specs.Security.{auxiliary}
use Rattle.ieee802154.specs.Mac.{sequence_of, repr_of, header_rest, after_control, header, mac, sequence_or, has_byte, suppresses, control_for, length_of, front_bytes, source_bytes, back_bytes, bytes_of}
use Rattle.ieee802154.specs.RoundTrips.{has_pan, has_address, same, pans_stand, round_trips}
use Rattle.ieee802154.specs.declared.addr.Address.TheVariants.{Absent, Short, Extended}
use Rattle.ieee802154.specs.declared.control.Control.{Control}
use Rattle.ieee802154.specs.declared.control.Carried.{Carried}
use Rattle.ieee802154.specs.declared.addressing.Side.{Side}
use Rattle.ieee802154.specs.declared.addressing.Addressing.{Addressing}
use Rattle.ieee802154.specs.declared.header.Repr.{Repr}
use Rattle.ieee802154.proofs.ReadSteps.{after_is}
use Rattle.ieee802154.proofs.WriteSteps.{length-bytes}

-- ---- an address as bytes
-- a present one comes back; of an absent one there are no bytes, which are refused, 4
pub address-back : (a : Address) → from_bytes (address_bytes a) ≡ choose (is_present a) (is a) (refused 4)
unfolding from_bytes be64_bytes be32_bytes be16_bytes
address-back Absent = refl
address-back (Short x) = rw (reads-be16 x [] [] 0 refl)
address-back (Extended x) = rw (reads-be64 x [] [] 0 refl)

-- ---- tests
pub same-is : (t u : Bool) → same t u ≡ true → t ≡ u
same-is true u e = sym e
same-is false u e = sym (not-true u e)

bit-back : (t : Bool) (n : ℕ) → n ≡ bit_of t → eqb n 1 ≡ t
bit-back true n e = eq-eqb n 1 e
bit-back false n e = ne_eqb n 1 (λ z. omega arith)

bit-small : (t : Bool) → bit_of t ≤ 1
bit-small true = omega arith
bit-small false = omega arith

-- ---- the frame control field: what is read is what was written, each part within its bits
module _ (k : Control) where
  bits : (bit_of k.security_enabled ≤ 1) × (bit_of k.frame_pending ≤ 1) × (bit_of k.ack_request ≤ 1) × (bit_of k.pan_id_compression ≤ 1) × (bit_of k.sequence_suppressed ≤ 1)
  bits = (bit-small k.security_enabled, bit-small k.frame_pending, bit-small k.ack_request, bit-small k.pan_id_compression, bit-small k.sequence_suppressed)

  word-type : word_of k % 8 ≡ k.frame_type.0 % 8
  unfolding word_of
  word-type = omega (arith, bits)

  word-security : bit (word_of k / 8) ≡ k.security_enabled
  unfolding word_of
  word-security = bit-back k.security_enabled (word_of k / 8 % 2) (omega (arith, bits))

  word-pending : bit (word_of k / 16) ≡ k.frame_pending
  unfolding word_of
  word-pending = bit-back k.frame_pending (word_of k / 16 % 2) (omega (arith, bits))

  word-ack : bit (word_of k / 32) ≡ k.ack_request
  unfolding word_of
  word-ack = bit-back k.ack_request (word_of k / 32 % 2) (omega (arith, bits))

  word-compression : bit (word_of k / 64) ≡ k.pan_id_compression
  unfolding word_of
  word-compression = bit-back k.pan_id_compression (word_of k / 64 % 2) (omega (arith, bits))

  word-suppressed : bit (word_of k / 256) ≡ k.sequence_suppressed
  unfolding word_of
  word-suppressed = bit-back k.sequence_suppressed (word_of k / 256 % 2) (omega (arith, bits))

  word-elements : word_of k / 256 / 2 % 2 ≡ 0
  unfolding word_of
  word-elements = omega (arith, bits)

  word-dst : word_of k / 1024 % 4 ≡ k.dst_addr_mode.0 % 4
  unfolding word_of
  word-dst = omega (arith, bits)

  word-version : word_of k / 4096 % 4 ≡ k.frame_version.0 % 4
  unfolding word_of
  word-version = omega (arith, bits)

  word-src : word_of k / 16384 % 4 ≡ k.src_addr_mode.0 % 4
  unfolding word_of
  word-src = omega (arith, bits)

abbrev pub masked : Control → Control
masked k =
    record {
      frame_type = record { 0 = k.frame_type.0 % 8 };
      security_enabled = k.security_enabled;
      frame_pending = k.frame_pending;
      ack_request = k.ack_request;
      pan_id_compression = k.pan_id_compression;
      sequence_suppressed = k.sequence_suppressed;
      dst_addr_mode = record { 0 = k.dst_addr_mode.0 % 4 };
      frame_version = record { 0 = k.frame_version.0 % 4 };
      src_addr_mode = record { 0 = k.src_addr_mode.0 % 4 };
    }

pub control-back : (k : Control) → control_of (word_of k) ≡ masked k
control-back k = cc (word-type k, word-security k, word-pending k, word-ack k, word-compression k, word-suppressed k, word-dst k, word-version k, word-src k)

mode_small : (a : Option Address) → mode_of a % 4 ≡ mode_of a
mode_small None = refl
mode_small (Some Absent) = refl
mode_small (Some (Short x)) = refl
mode_small (Some (Extended x)) = refl

pub masked_same : (h : Repr) → h.frame_type.0 < 8 → h.frame_version.0 < 4 → masked (control_for h) ≡ control_for h
masked_same h t v =
    let e : h.frame_type.0 % 8 ≡ h.frame_type.0 = omega arith in
    let f : h.frame_version.0 % 4 ≡ h.frame_version.0 = omega arith in
    rw (e, f, mode_small h.dst_addr, mode_small h.src_addr)

-- ---- the addressing fields
abbrev pub pan_bytes : Option Pan → List ℕ
pan_bytes None = []
pan_bytes (Some x) = le16_bytes x.0

reads-pan : (p : Option Pan) → Reads (pan_field (has_pan p)) (pan_bytes p) p
unfolding pan_field
reads-pan None = reads-give None
reads-pan (Some x) = reads-map le16 (λ n. Some (record { 0 = n })) (le16_bytes x.0) x.0 (reads-le16 x.0)

reads-address : (a : Option Address) → has_address a ≡ true → Reads (address_field (record { 0 = mode_of a })) (field_bytes a) a
unfolding address_field
reads-address None h = absurd (omega (arith, ap bit_of h))
reads-address (Some Absent) h = reads-give (Some Absent)
reads-address (Some (Short x)) h = reads-map le16 (λ n. Some (Short n)) (le16_bytes x) x (reads-le16 x)
reads-address (Some (Extended x)) h = reads-map le64 (λ n. Some (Extended n)) (le64_bytes x) x (reads-le64 x)

abbrev pub side_of : Option Pan → Option Address → Side
side_of p a = record { pan = p; addr = a }

abbrev pub sides_of : Side → Side → Addressing
sides_of a b = record { dst = a; src = b }

reads-side : (p : Option Pan) (a : Option Address) → has_address a ≡ true → Reads (side (has_pan p) (record { 0 = mode_of a })) (pan_bytes p ++ field_bytes a) (side_of p a)
unfolding side
reads-side p a h =
    reads_then (pan_field (has_pan p)) (λ q. ◌>>=◌ (address_field (record { 0 = mode_of a })) (λ b. give (side_of q b))) (pan_bytes p) (field_bytes a) p (side_of p a) (reads-pan p)
    (reads-map (address_field (record { 0 = mode_of a })) (λ b. side_of p b) (field_bytes a) a (reads-address a h))

-- what is written of the addressing fields
abbrev pub written_fields : Bool → Option Pan → Option Address → Option Pan → Option Address → List ℕ
written_fields c dp da sp sa = le16_bytes (pan_or dp) ++ (field_bytes da ++ choose c (field_bytes sa) (le16_bytes (pan_or sp) ++ field_bytes sa))

-- it is what the reader looks for
written_is : (c : Bool) (dp : Option Pan) (da : Option Address) (sp : Option Pan) (sa : Option Address) → bit_of (has_pan dp) + bit_of (has_pan sp) ≡ choose c 1 2 → (has_pan dp ≡ false → pan_or sp ≡ 0) → (has_pan dp ≡ false → field_bytes da ≡ []) → (pan_bytes dp ++ field_bytes da) ++ (pan_bytes sp ++ field_bytes sa) ≡ written_fields c dp da sp sa
written_is true (Some x) da None sa n z d = append_assoc (le16_bytes x.0) (field_bytes da) (field_bytes sa)
written_is false (Some x) da (Some y) sa n z d = append_assoc (le16_bytes x.0) (field_bytes da) (le16_bytes y.0 ++ field_bytes sa)
written_is true None da (Some y) sa n z d = rw (z refl, d refl)
written_is true None da None sa n z d = absurd (omega arith)
written_is false None da None sa n z d = absurd (omega arith)
written_is true (Some x) da (Some y) sa n z d = absurd (omega arith)
written_is false (Some x) da None sa n z d = absurd (omega arith)
written_is false None da (Some y) sa n z d = absurd (omega arith)

reads-fields : (c : Bool) (dp : Option Pan) (da : Option Address) (sp : Option Pan) (sa : Option Address) → has_address da ≡ true → has_address sa ≡ true → bit_of (has_pan dp) + bit_of (has_pan sp) ≡ choose c 1 2 → (has_pan dp ≡ false → pan_or sp ≡ 0) → (has_pan dp ≡ false → field_bytes da ≡ []) → Reads (sides (pans (has_pan dp) (has_pan sp)) (record { 0 = mode_of da }) (record { 0 = mode_of sa })) (written_fields c dp da sp sa) (sides_of (side_of dp da) (side_of sp sa))
unfolding sides
reads-fields c dp da sp sa hd hs n z d =
    let src = side (has_pan sp) (record { 0 = mode_of sa }) in
    subst (λ bs. Reads (◌>>=◌ (side (has_pan dp) (record { 0 = mode_of da })) (λ a. ◌>>=◌ src (λ b. give (sides_of a b)))) bs (sides_of (side_of dp da) (side_of sp sa))) (written_is c dp da sp sa n z d)
    (reads_then (side (has_pan dp) (record { 0 = mode_of da })) (λ a. ◌>>=◌ src (λ b. give (sides_of a b))) (pan_bytes dp ++ field_bytes da) (pan_bytes sp ++ field_bytes sa) (side_of dp da) (sides_of (side_of dp da) (side_of sp sa)) (reads-side dp da hd)
    (reads-map src (λ b. sides_of (side_of dp da) b) (pan_bytes sp ++ field_bytes sa) (side_of sp sa) (reads-side sp sa hs)))

-- the source's PAN alone is carried only where there is no destination
only-source-go : (v d s e f c : Bool) → choose v (choose d (choose s (pans c false) (pans false (not c))) (choose s (pans (not c) false) (choose e (choose f (pans (not c) false) (pans true (not c))) (pans true (not c))))) (choose d (pans false (not s)) (choose s (pans true false) (pans true (not c)))) ≡ pans false true → d ≡ true
only-source-go v true s e f c h = refl
only-source-go true false true e f c h = ap (λ p. p.src) h
only-source-go true false false true true c h = ap (λ p. p.src) h
only-source-go true false false true false c h = sym (ap (λ p. p.dst) h)
only-source-go true false false false f c h = sym (ap (λ p. p.dst) h)
only-source-go false false true e f c h = sym (ap (λ p. p.dst) h)
only-source-go false false false e f c h = sym (ap (λ p. p.dst) h)

only-source : (k : Control) → carried k ≡ pans false true → k.dst_addr_mode.0 ≡ 0
unfolding carried carried2 carried01
only-source k h = eqb-true k.dst_addr_mode.0 0 (only-source-go (eqb k.frame_version.0 2) (eqb k.dst_addr_mode.0 0) (eqb k.src_addr_mode.0 0) (eqb k.dst_addr_mode.0 3) (eqb k.src_addr_mode.0 3) k.pan_id_compression h)

no_bytes : (a : Option Address) → mode_of a ≡ 0 → field_bytes a ≡ []
no_bytes None h = refl
no_bytes (Some Absent) h = refl
no_bytes (Some (Short x)) h = absurd (omega arith)
no_bytes (Some (Extended x)) h = absurd (omega arith)

-- ---- the domain, test by test
pub record PansStand (c : Bool) (p : Carried) (d s : Option Pan) : Type 0 where
  pub are-carried : p ≡ pans (has_pan d) (has_pan s)
  pub are-counted : bit_of (has_pan d) + bit_of (has_pan s) ≡ choose c 1 2
  pub source-zero : has_pan d ≡ false → pan_or s ≡ 0

pub record Domain (h : Repr) : Type 0 where
  pub unsecured : h.security_enabled ≡ false
  pub version : h.frame_version.0 < 4
  pub is-supported : supported (control_for h) ≡ true
  pub is-addressed : has_addressing (control_for h) ≡ true
  pub sequence : choose (suppresses h) true (has_byte h.sequence_number) ≡ true
  pub dst : has_address h.dst_addr ≡ true
  pub src : has_address h.src_addr ≡ true
  pub pans-stand : PansStand h.pan_id_compression (carried (control_for h)) h.dst_pan_id h.src_pan_id

pub pans-eta : (p : Carried) (a b : Bool) → a ≡ p.dst → b ≡ p.src → p ≡ pans a b
pans-eta p a b e f = rw (e, f)

zero_of : (t : Bool) (n : ℕ) → choose t true (eqb n 0) ≡ true → t ≡ false → n ≡ 0
zero_of true n e f = absurd (omega (arith, ap bit_of f))
zero_of false n e f = eqb-true n 0 e

pans-of : (c : Bool) (p : Carried) (d s : Option Pan) → pans_stand c p d s ≡ true → PansStand c p d s
unfolding pans_stand
pans-of c p d s e =
    let x = and-true (same (has_pan d) p.dst) _ e in
    let y = and-true (same (has_pan s) p.src) _ x.1 in
    let z = and-true (eqb (bit_of (has_pan d) + bit_of (has_pan s)) (choose c 1 2)) (choose (has_pan d) true (eqb (pan_or s) 0)) y.1 in
    record {
      are-carried = pans-eta p (has_pan d) (has_pan s) (same-is (has_pan d) p.dst x.0) (same-is (has_pan s) p.src y.0);
      are-counted = eqb-true _ _ z.0;
      source-zero = zero_of (has_pan d) (pan_or s) z.1;
    }

domain : (h : Repr) → round_trips h ≡ true → Domain h
unfolding round_trips
domain h e =
    let a = and-true _ _ e in
    let b = and-true _ _ a.1 in
    let c = and-true _ _ b.1 in
    let d = and-true _ _ c.1 in
    let f = and-true _ _ d.1 in
    let g = and-true _ _ f.1 in
    let i = and-true _ _ g.1 in
    record {
      unsecured = not-true h.security_enabled a.0;
      version = ltb-true h.frame_version.0 4 b.0;
      is-supported = c.0;
      is-addressed = d.0;
      sequence = f.0;
      dst = g.0;
      src = i.0;
      pans-stand = pans-of h.pan_id_compression (carried (control_for h)) h.dst_pan_id h.src_pan_id i.1;
    }

-- ---- it suffices
addressed-go : (t : ℕ) (a b v : Bool) → choose a v (choose b false (ltb t 6)) ≡ true → (a ≡ true → t ≡ 2) → (t ≡ 2 → b ≡ false) → choose b false (ltb t 6) ≡ true
addressed-go t true true v e f g = sym (g (f refl))
addressed-go t true false v e f g = lt-ltb t 6 (omega (arith, f refl))
addressed-go t false b v e f g = e

-- a frame type with addressing has a sequence number
pub addressed-sequence : (k : Control) → has_addressing k ≡ true → has_sequence k ≡ true
unfolding has_addressing has_sequence
addressed-sequence k e = let t = k.frame_type.0 in addressed-go t (eqb t 2) (eqb t 4) (eqb k.frame_version.0 2) e (λ z. eqb-true t 2 z) (λ z. ne_eqb t 4 (λ y. omega arith))

type-go : (t : ℕ) (b : Bool) → choose b false (ltb t 6) ≡ true → t < 8
type-go t true e = absurd (omega (arith, ap bit_of e))
type-go t false e = omega (arith, ltb-true t 6 e)

sequence-type : (k : Control) → has_sequence k ≡ true → k.frame_type.0 < 8
unfolding has_sequence
sequence-type k e = type-go k.frame_type.0 (eqb k.frame_type.0 4) e

-- where one PAN at least is written, and it is not the destination's, it is the source's
source-alone : (c d s : Bool) → bit_of d + bit_of s ≡ choose c 1 2 → d ≡ false → s ≡ true
source-alone c d true n e = refl
source-alone c true false n e = sym e
source-alone true false false n e = absurd (omega arith)
source-alone false false false n e = absurd (omega arith)

abbrev pub fields_of : Repr → Addressing
fields_of h = sides_of (side_of h.dst_pan_id h.dst_addr) (side_of h.src_pan_id h.src_addr)

abbrev pub after_sequence : Repr → List ℕ
after_sequence h = written_fields h.pan_id_compression h.dst_pan_id h.dst_addr h.src_pan_id h.src_addr

-- the sequence number's byte, unless it is left out
abbrev pub sequence_bytes : Bool → Option ℕ → List ℕ
sequence_bytes t q = choose t [] (byte_bytes (sequence_or q))

bytes-go : (t : Bool) (w p r : List ℕ) (q : Option ℕ) → w ++ (sequence_bytes t q ++ (p ++ r)) ≡ (w ++ choose t p (byte_bytes (sequence_or q) ++ p)) ++ r
bytes-go true w p r q = sym (append_assoc w p r)
bytes-go false w p r q = let b = byte_bytes (sequence_or q) in ap (λ z. w ++ z) (sym (append_assoc b p r)) ∙ sym (append_assoc w (b ++ p) r)

pub bytes-are : (h : Repr) → le16_bytes (word_of (control_for h)) ++ (sequence_bytes (suppresses h) h.sequence_number ++ after_sequence h) ≡ bytes_of h
unfolding bytes_of front_bytes back_bytes source_bytes
bytes-are h = bytes-go (suppresses h) (le16_bytes (word_of (control_for h))) (le16_bytes (pan_or h.dst_pan_id)) _ h.sequence_number

-- what is written says of itself whether the number is left out; and then there is none
omits-go : (q m : Bool) → choose (choose q false m) m false ≡ choose q false m
omits-go true m = refl
omits-go false true = refl
omits-go false false = refl

pub omits-is : (h : Repr) → omits_sequence (control_for h) ≡ suppresses h
unfolding omits_sequence suppresses
omits-is h = omits-go (has_byte h.sequence_number) (may_omit h.frame_version.0 h.frame_type.0)

none-go : (q m : Bool) → choose q false m ≡ true → q ≡ false
none-go true m e = sym e
none-go false m e = refl

suppresses-none : (h : Repr) → suppresses h ≡ true → has_byte h.sequence_number ≡ false
unfolding suppresses
suppresses-none h e = none-go (has_byte h.sequence_number) (may_omit h.frame_version.0 h.frame_type.0) e

reads-addressing : (h : Repr) → Domain h → Reads (addressing (control_for h)) (after_sequence h) (fields_of h)
unfolding addressing
reads-addressing h d =
    let s = d.pans-stand in
    let absent : has_pan h.dst_pan_id ≡ false → field_bytes h.dst_addr ≡ [] = λ z. no_bytes h.dst_addr (only-source (control_for h) (rw (z, source-alone h.pan_id_compression (has_pan h.dst_pan_id) (has_pan h.src_pan_id) s.are-counted z) at s.are-carried)) in
    rw (d.is-addressed, s.are-carried) (reads-fields h.pan_id_compression h.dst_pan_id h.dst_addr h.src_pan_id h.src_addr d.dst d.src s.are-counted s.source-zero absent)

sequence-go : (k : Control) (t : Bool) (f : Option ℕ) → has_sequence k ≡ true → choose t true (has_byte f) ≡ true → (t ≡ true → has_byte f ≡ false) → choose t None (sequence_of k (sequence_or f)) ≡ f
unfolding sequence_of
sequence-go k true None e h n = refl
sequence-go k true (Some x) e h n = absurd (omega (arith, ap bit_of (n refl)))
sequence-go k false None e h n = absurd (omega (arith, ap bit_of h))
sequence-go k false (Some x) e h n = rw e

sequence-back : (h : Repr) → Domain h → choose (suppresses h) None (sequence_of (control_for h) (sequence_or h.sequence_number)) ≡ h.sequence_number
sequence-back h d = sequence-go (control_for h) (suppresses h) h.sequence_number (addressed-sequence (control_for h) d.is-addressed) d.sequence (suppresses-none h)

-- the fields that were read make the header
header-back : (h : Repr) → repr_of (control_for h) h.sequence_number (fields_of h) ≡ h
unfolding repr_of
header-back h = refl

rest-go : (m : Reader Addressing) (f : Addressing → Repr) (bs : List ℕ) (a : Addressing) (s t : Bool) → s ≡ true → t ≡ false → Reads m bs a → Reads (branch s (◌>>=◌ m (λ x. ◌>>=◌ (auxiliary t) (λ u. give (f x)))) (refuse 3)) bs (f a)
unfolding auxiliary
rest-go m f bs a true false e g r = reads-map m f bs a r
rest-go m f bs a true true e g r = absurd (omega (arith, ap bit_of g))
rest-go m f bs a false t e g r = absurd (omega (arith, ap bit_of e))

reads-rest : (h : Repr) → Domain h → Reads (header_rest (control_for h) h.sequence_number) (after_sequence h) h
unfolding header_rest
reads-rest h d =
    let k = control_for h in
    let q = h.sequence_number in
    subst (λ x. Reads (header_rest k q) (after_sequence h) x) (header-back h)
    (rest-go (addressing k) (repr_of k q) (after_sequence h) (fields_of h) (supported k) h.security_enabled d.is-supported d.unsecured (reads-addressing h d))

after-go : (h : Repr) → Domain h → (t : Bool) → choose t None (sequence_of (control_for h) (sequence_or h.sequence_number)) ≡ h.sequence_number → Reads (branch t (header_rest (control_for h) None) (◌>>=◌ byte (λ b. header_rest (control_for h) (sequence_of (control_for h) b)))) (sequence_bytes t h.sequence_number ++ after_sequence h) h
after-go h d true e = subst (λ z. Reads (header_rest (control_for h) z) (after_sequence h) h) (sym e) (reads-rest h d)
after-go h d false e =
    let k = control_for h in
    let q = sequence_or h.sequence_number in
    reads_then byte (λ b. header_rest k (sequence_of k b)) (byte_bytes q) (after_sequence h) q h (reads_byte q) (subst (λ z. Reads (header_rest k z) (after_sequence h) h) (sym e) (reads-rest h d))

reads-after : (h : Repr) → Domain h → Reads (after_control (control_for h)) (sequence_bytes (suppresses h) h.sequence_number ++ after_sequence h) h
reads-after h d =
    let k = control_for h in
    let m = header_rest k None in
    let f = ◌>>=◌ byte (λ b. header_rest k (sequence_of k b)) in
    let bs = sequence_bytes (suppresses h) h.sequence_number ++ after_sequence h in
    let r : Reads (branch (omits_sequence k) m f) bs h = subst (λ t. Reads (branch t m f) bs h) (sym (omits-is h)) (after-go h d (suppresses h) (sequence-back h d)) in
    λ p q n e. after_is k (p ++ (bs ++ q)) n ∙ r p q n e

pub suffices : (h : Repr) → round_trips h ≡ true → Reads header (bytes_of h) h
unfolding header
suffices h e =
    let d = domain h e in
    let k = control_for h in
    let same-control : control_of (word_of k) ≡ k = control-back k ∙ masked_same h (sequence-type k (addressed-sequence k d.is-addressed)) d.version in
    subst (λ bs. Reads header bs h) (bytes-are h)
    (reads_then le16 (λ fc. after_control (control_of fc)) (le16_bytes (word_of k)) (sequence_bytes (suppresses h) h.sequence_number ++ after_sequence h) (word_of k) h (reads-le16 (word_of k)) (rw same-control (reads-after h d)))

-- ---- nothing that is written says that information elements follow
elements-go : (b : ℕ) (t : Bool) → b / 2 % 2 ≡ 0 → choose t (bit (b / 2)) false ≡ false
elements-go b true e = ne_eqb (b / 2 % 2) 1 (λ z. omega arith)
elements-go b false e = refl

high_byte : (h : Repr) (r : List ℕ) → get_or (bytes_of h ++ r) 1 0 ≡ word_of (control_for h) / 256
unfolding bytes_of front_bytes le16_bytes
high_byte h r = refl

pub no-elements : (h : Repr) (r : List ℕ) → has_elements (bytes_of h ++ r) ≡ false
unfolding says_elements
no-elements h r = let b = word_of (control_for h) / 256 in rw (high_byte h r) (elements-go b (eqb (b / 16 % 4) 2) (word-elements (control_for h)))

-- ---- as the frame's whole bytes, and in the room that `emit` leaves
mac-is : (s : List ℕ) → 3 ≤ length s → length s ≤ 127 → mac s ≡ header s 0
unfolding mac
mac-is s l u = rw (le-ltb (length s) 3 l, le-ltb 127 (length s) u)

pub length-least : (h : Repr) → 4 ≤ length_of h
unfolding length_of
length-least h = go (suppresses h) (choose h.pan_id_compression 0 2) (field_length h.dst_addr + field_length h.src_addr)
  where
    go : (t : Bool) (c n : ℕ) → 4 ≤ choose t 4 5 + c + n
    go true c n = omega arith
    go false c n = omega arith

pub reads-back : (h : Repr) (payload : List ℕ) → round_trips h ≡ true → length_of h + length payload ≤ 127 → mac (bytes_of h ++ payload) ≡ got h (length_of h)
reads-back h payload e l =
    let n : length (bytes_of h ++ payload) ≡ length_of h + length payload = length-append (bytes_of h) payload ∙ ap (λ k. k + length payload) (length-bytes h) in
    mac-is (bytes_of h ++ payload) (omega (arith, length-least h)) (omega arith) ∙ suffices h e [] payload 0 refl ∙ ap (λ k. got h k) (zero-add (length (bytes_of h)) ∙ length-bytes h)

pub emit-then-parse : (h : Repr) (room : List ℕ) → round_trips h ≡ true → length_of h ≤ length room → length room ≤ 127 → mac (over (length_of h) (bytes_of h) room) ≡ got h (length_of h)
emit-then-parse h room e l u = rw (le-leb (length_of h) (length room) l) (reads-back h (drop (length_of h) room) e (omega (arith, length-drop (length_of h) room)))
