-- Nothing else reads back: a header that is read from just the bytes that are written for it is one that `round_trips` admits.
use Rattle.ieee802154.specs.declared.addr.Address.{Address}
use Rattle.std.specs.Prelude.{Option, Some, None}
use Prim.Native.Nat.{ℕ, ◌+◌, ◌*◌, ◌/◌, ◌%◌, ◌^◌, ◌<◌}
use native.Mathlib.Nat.{add-zero, zero-add}
use native.Mathlib.Omega.{arith}
use mathlib.Core.List.{List, [], ◌∷◌, ◌++◌, append_assoc, append-nil}
use mathlib.Core.Bool.{Bool, true, false, not, ◌&&◌}
use mathlib.Core.Path.{◌≡◌, refl, sym, ap, subst, ◌∙◌}
use lib.ListN.{length, get_or, length-append}
use lib.Seq.{get_or_at}
use lib.Dec.{eqb}
use borrow.Author.Tests.{lt-ltb, eq-eqb}
use Rattle.octets.specs.Read.{Reader, got, refused, choose, give, ◌>>=◌, le16, le64}
use Rattle.octets.specs.Write.{byte_bytes, le16_bytes, le32_bytes, le64_bytes}
use Rattle.octets.proofs.RoundTrip.{Reads, reads-le16, reads-le64}
use Rattle.octets.proofs.Spans.{not-refused}
use Rattle.ieee802154.specs.Control.{bit_of, control_of, word_of, has_sequence, has_addressing, pans, carried}
use Rattle.ieee802154.specs.Addressing.{pan_field, address_field, side, sides, no_side, addressing, pan_or, mode_of, field_length, field_bytes}
use Rattle.ieee802154.specs.Security.{counter_length, key_length, auxiliary_length}
use Rattle.ieee802154.specs.Mac.{sequence_of, repr_of, header, sequence_or, has_byte, suppresses, control_for, length_of, front_bytes, bytes_of}
use Rattle.ieee802154.specs.RoundTrips.{has_pan, has_address, same, pans_stand, round_trips}
use Rattle.ieee802154.specs.declared.addr.Address.TheVariants.{Absent, Short, Extended}
use Rattle.ieee802154.specs.declared.addr.Pan.{Pan}
use Rattle.ieee802154.specs.declared.control.AddressingMode.{AddressingMode}
use Rattle.ieee802154.specs.declared.control.Carried.{Carried}
use Rattle.ieee802154.specs.declared.addressing.Side.{Side}
use Rattle.ieee802154.specs.declared.addressing.Addressing.{Addressing}
use Rattle.ieee802154.specs.declared.header.Repr.{Repr}
use Rattle.ieee802154.proofs.Lengths.{pan_width, address_width, addressing_width, auxiliary_width, control_in, split, got-one, RestIn, HeaderIn, header-in, spans-side, auxiliary-length}
use Rattle.ieee802154.proofs.RoundTrips.{pans-eta, addressed-sequence, PansStand, Domain, masked, pan_bytes, side_of, sides_of, written_fields, fields_of, sequence_bytes, bytes-are, omits-is, control-back, masked_same, suffices}
use Rattle.ieee802154.proofs.WriteSteps.{length-field, length-bytes}

-- ---- two bytes of 0 from a place on, and then r
record Zeros (s : List ℕ) (at : ℕ) (r : List ℕ) : Type 0 where
  front : List ℕ
  stands : s ≡ front ++ (le16_bytes 0 ++ r)
  ends : length front ≡ at

zeros-le16 : (s : List ℕ) (at : ℕ) (r : List ℕ) → Zeros s at r → le16 s at ≡ got 0 (at + 2)
unfolding le16_bytes
zeros-le16 s at r z = rw z.stands (reads-le16 0 z.front r at z.ends)

-- an extended address that is read two bytes of 0 too early: its four words, the low one first, each a place higher
shift : ℕ → ℕ → ℕ → ℕ
shift a b c = a * 2 ^ 16 + b * 2 ^ 32 + c * 2 ^ 48

module _ (a b c : ℕ) (ha : a < 2 ^ 16) (hb : b < 2 ^ 16) where
  shift-low : shift a b c % 2 ^ 32 ≡ a * 2 ^ 16
  unfolding shift
  shift-low = omega arith

  shift-high : shift a b c / 2 ^ 32 ≡ b + c * 2 ^ 16
  unfolding shift
  shift-high = omega arith

  shift-words : (shift a b c % 2 ^ 32 % 2 ^ 16 ≡ 0) × (shift a b c % 2 ^ 32 / 2 ^ 16 ≡ a) × (shift a b c / 2 ^ 32 % 2 ^ 16 ≡ b) × (shift a b c / 2 ^ 32 / 2 ^ 16 ≡ c)
  shift-words = rw (shift-low, shift-high) (omega arith, omega arith, omega arith, omega arith)

shifted : ℕ → ℕ
shifted x = shift (x % 2 ^ 32 % 2 ^ 16) (x % 2 ^ 32 / 2 ^ 16) (x / 2 ^ 32 % 2 ^ 16)

shifted-bytes : (x : ℕ) (q : List ℕ) → le64_bytes (shifted x) ++ (le16_bytes (x / 2 ^ 32 / 2 ^ 16) ++ q) ≡ le16_bytes 0 ++ (le64_bytes x ++ q)
unfolding shifted le64_bytes le32_bytes le16_bytes
shifted-bytes x q =
    let w = shift-words (x % 2 ^ 32 % 2 ^ 16) (x % 2 ^ 32 / 2 ^ 16) (x / 2 ^ 32 % 2 ^ 16) (omega arith) (omega arith) in
    rw (w.0, w.1, w.2, w.3)

-- so it is 0
low-zero : (a n m k : ℕ) → a < 2 ^ 16 → k ≡ n * 2 ^ 16 → k ≡ a + m * 2 ^ 16 → (a ≡ 0) × (n ≡ m)
low-zero a n m k h e f =
    let x : k % 2 ^ 16 ≡ 0 = rw e (omega arith) in
    let y : k % 2 ^ 16 ≡ a = rw f (omega arith) in
    omega arith

shift_zero : (a b c d k : ℕ) → a < 2 ^ 16 → b < 2 ^ 16 → c < 2 ^ 16 → k ≡ a * 2 ^ 16 + b * 2 ^ 32 + c * 2 ^ 48 → k ≡ a + b * 2 ^ 16 + c * 2 ^ 32 + d * 2 ^ 48 → k ≡ 0
shift_zero a b c d k ha hb hc e f =
    let x = low-zero a (a + b * 2 ^ 16 + c * 2 ^ 32) (b + c * 2 ^ 16 + d * 2 ^ 32) k ha (omega arith) (omega arith) in
    let y = low-zero b (b + c * 2 ^ 16) (c + d * 2 ^ 16) (b + c * 2 ^ 16 + d * 2 ^ 32) hb (omega arith) (omega arith) in
    let z = low-zero c c d (c + d * 2 ^ 16) hc (omega arith) (omega arith) in
    omega arith

shifted-zero : (x : ℕ) → shifted x ≡ x → x ≡ 0
unfolding shifted shift
shifted-zero x e =
    let w : x ≡ x % 2 ^ 32 % 2 ^ 16 + x % 2 ^ 32 / 2 ^ 16 * 2 ^ 16 + x / 2 ^ 32 % 2 ^ 16 * 2 ^ 32 + x / 2 ^ 32 / 2 ^ 16 * 2 ^ 48 = omega arith in
    shift_zero (x % 2 ^ 32 % 2 ^ 16) (x % 2 ^ 32 / 2 ^ 16) (x / 2 ^ 32 % 2 ^ 16) (x / 2 ^ 32 / 2 ^ 16) x (omega arith) (omega arith) (omega arith) (sym e) w

zeros-le64 : (s : List ℕ) (at x : ℕ) (q : List ℕ) → Zeros s at (le64_bytes x ++ q) → le64 s at ≡ got (shifted x) (at + 8)
unfolding le64_bytes le32_bytes le16_bytes
zeros-le64 s at x q z = rw (z.stands, ← shifted-bytes x q) (reads-le64 (shifted x) z.front (le16_bytes (x / 2 ^ 32 / 2 ^ 16) ++ q) at z.ends)

-- ---- past a field of zeros
zeros-pass : (s : List ℕ) (at n : ℕ) (bs q : List ℕ) → le16_bytes 0 ++ (bs ++ q) ≡ bs ++ (le16_bytes 0 ++ q) → at + length bs ≡ n → Zeros s at (bs ++ q) → Zeros s n q
zeros-pass s at n bs q c l z =
    record {
      front = z.front ++ bs;
      stands = z.stands ∙ ap (λ r. z.front ++ r) c ∙ sym (append_assoc z.front bs (le16_bytes 0 ++ q));
      ends = length-append z.front bs ∙ ap (λ k. k + length bs) z.ends ∙ l;
    }

zeros-pan : (s : List ℕ) (at n : ℕ) (x : Option Pan) (q : List ℕ) → Zeros s at q → pan_field (has_pan x) s at ≡ got x n → (pan_or x ≡ 0) × (n ≡ at + pan_width (has_pan x))
unfolding pan_field
zeros-pan s at n None q z e = (refl, omega (arith, (got-one None None at n e).1))
zeros-pan s at n (Some x) q z e =
    let g = got-one (Some (record { 0 = 0 })) (Some x) (at + 2) n (rw (zeros-le16 s at q z) at e) in
    (sym (ap pan_or g.0), sym g.1)

zeros-address : (a : Option Address) (s : List ℕ) (at n : ℕ) (q : List ℕ) → Zeros s at (field_bytes a ++ q) → address_field (record { 0 = mode_of a }) s at ≡ got a n → Zeros s n q
unfolding address_field le64_bytes le32_bytes le16_bytes
zeros-address None s at n q z e =
    let g = got-one (Some Absent) None at n e in
    absurd (omega (arith, ap (λ a. bit_of (has_address a)) g.0))
zeros-address (Some Absent) s at n q z e = subst (λ i. Zeros s i q) (got-one (Some Absent) (Some Absent) at n e).1 z
zeros-address (Some (Short x)) s at n q z e =
    let g = got-one (Some (Short 0)) (Some (Short x)) (at + 2) n (rw (zeros-le16 s at (le16_bytes x ++ q) z) at e) in
    let o : x ≡ 0 = cc in
    zeros-pass s at n (le16_bytes 0) q refl g.1 (rw o at z)
zeros-address (Some (Extended x)) s at n q z e =
    let g = got-one (Some (Extended (shifted x))) (Some (Extended x)) (at + 8) n (rw (zeros-le64 s at x q z) at e) in
    let o : shifted x ≡ x = cc in
    zeros-pass s at n (le64_bytes 0) q refl g.1 (rw (shifted-zero x o) at z)

-- ---- no security control byte of 0 stands before the last byte
zeros-end : (s : List ℕ) (at : ℕ) → Zeros s at [] → length s ≡ at + (1 + auxiliary_length (get_or s at 0)) → ⊥
unfolding le16_bytes counter_length key_length
zeros-end s at z e =
    let b : get_or s at 0 ≡ 0 = rw z.stands (get_or_at z.front 0 (0 ∷ []) 0 at z.ends) in
    let l : length s ≡ length z.front + 2 = rw z.stands (length-append z.front (0 ∷ 0 ∷ [])) in
    let c : auxiliary_length (get_or s at 0) ≡ 4 = rw b in
    omega (arith, z.ends)

-- ---- the fields that were read, one by one
record TwoIn {A B : Type 0} (m : Reader A) (k : Reader B) (s : List ℕ) (at : ℕ) (a : A) (b : B) (n : ℕ) : Type 0 where
  middle : ℕ
  first_read : m s at ≡ got a middle
  second-read : k s middle ≡ got b n

-- two parts made into one, f, from which l and r take them out again
two_in : {A B C : Type 0} (m : Reader A) (k : Reader B) (f : A → B → C) (l : C → A) (r : C → B) → ((x : A) (y : B) → l (f x y) ≡ x) → ((x : A) (y : B) → r (f x y) ≡ y) → (s : List ℕ) (at : ℕ) (c : C) (n : ℕ) → ◌>>=◌ m (λ x. ◌>>=◌ k (λ y. give (f x y))) s at ≡ got c n → TwoIn m k s at (l c) (r c) n
two_in m k f l r u v s at c n e =
    let a = split m (λ x. ◌>>=◌ k (λ y. give (f x y))) s at c n e in
    let b = split k (λ y. give (f a.part y)) s a.after c n a.rest in
    let g = got-one (f a.part b.part) c b.after n b.rest in
    let x : a.part ≡ l c = sym (u a.part b.part) ∙ ap l g.0 in
    let y : b.part ≡ r c = sym (v a.part b.part) ∙ ap r g.0 in
    record { middle = a.after; first_read = a.first ∙ ap (λ z. got z a.after) x; second-read = b.first ∙ cc }

side-in : (t : Bool) (m : AddressingMode) (s : List ℕ) (at : ℕ) (x : Side) (n : ℕ) → side t m s at ≡ got x n → TwoIn (pan_field t) (address_field m) s at x.pan x.addr n
unfolding side
side-in t m s at x n e = two_in (pan_field t) (address_field m) side_of (λ y. y.pan) (λ y. y.addr) (λ p a. refl) (λ p a. refl) s at x n e

sides-in : (p : Carried) (d r : AddressingMode) (s : List ℕ) (at : ℕ) (x : Addressing) (n : ℕ) → sides p d r s at ≡ got x n → TwoIn (side p.dst d) (side p.src r) s at x.dst x.src n
unfolding sides
sides-in p d r s at x n e = two_in (side p.dst d) (side p.src r) sides_of (λ y. y.dst) (λ y. y.src) (λ a b. refl) (λ a b. refl) s at x n e

-- a PAN is there where it is carried, and an address always
pan-has : (t : Bool) (s : List ℕ) (at : ℕ) (p : Option Pan) (n : ℕ) → pan_field t s at ≡ got p n → has_pan p ≡ t
unfolding pan_field
pan-has true s at p n e =
    let a = split le16 (λ x. give (Some (record { 0 = x }))) s at p n e in
    sym (ap has_pan (got-one (Some (record { 0 = a.part })) p a.after n a.rest).0)
pan-has false s at p n e = sym (ap has_pan (got-one None p at n e).0)

address-has : (m : AddressingMode) (s : List ℕ) (at : ℕ) (a : Option Address) (n : ℕ) → address_field m s at ≡ got a n → has_address a ≡ true
unfolding address_field
address-has m s at a n e = go (eqb m.0 0) (eqb m.0 2) (eqb m.0 3) e
  where
    given : (x a : Option Address) (k n : ℕ) → has_address x ≡ true → got x k ≡ got a n → has_address a ≡ true
    given x a k n h e = sym (ap has_address (got-one x a k n e).0) ∙ h

    go : (t u v : Bool) → choose t (got (Some Absent) at) (choose u (◌>>=◌ le16 (λ x. give (Some (Short x))) s at) (choose v (◌>>=◌ le64 (λ x. give (Some (Extended x))) s at) (refused 3))) ≡ got a n → has_address a ≡ true
    go true u v e = given (Some Absent) a at n refl e
    go false true v e = let b = split le16 (λ x. give (Some (Short x))) s at a n e in given (Some (Short b.part)) a b.after n refl b.rest
    go false false true e = let b = split le64 (λ x. give (Some (Extended x))) s at a n e in given (Some (Extended b.part)) a b.after n refl b.rest
    go false false false e = not-refused _ 3 e

-- a side that is read two bytes of 0 too early leaves two bytes of 0
zeros-side : (p : Option Pan) (a : Option Address) (s : List ℕ) (at n : ℕ) (q : List ℕ) → Zeros s at (pan_bytes p ++ (field_bytes a ++ q)) → side (has_pan p) (record { 0 = mode_of a }) s at ≡ got (side_of p a) n → Zeros s n q
unfolding le16_bytes
zeros-side None a s at n q z e =
    let x = side-in false (record { 0 = mode_of a }) s at (side_of None a) n e in
    let y = zeros-pan s at x.middle None (field_bytes a ++ q) z x.first_read in
    let m : x.middle ≡ at = omega arith in
    zeros-address a s at n q z (rw m at x.second-read)
zeros-side (Some w) a s at n q z e =
    let x = side-in true (record { 0 = mode_of a }) s at (side_of (Some w) a) n e in
    let y = zeros-pan s at x.middle (Some w) (le16_bytes w.0 ++ (field_bytes a ++ q)) z x.first_read in
    zeros-address a s x.middle n q (zeros-pass s at x.middle (le16_bytes 0) (field_bytes a ++ q) refl (sym y.1) (rw y.0 at z)) x.second-read

-- ---- security is off: no auxiliary security header is written, and none can be read from what is
auxiliary-not-three : (b : ℕ) → auxiliary_length b ≡ 3 → ⊥
unfolding counter_length key_length
auxiliary-not-three b e = go (eqb (b / 32 % 2) 1) (eqb (b / 8 % 4) 0) (eqb (b / 8 % 4) 1) (eqb (b / 8 % 4) 2) e
  where
    go : (t u v w : Bool) → choose t 0 4 + choose u 0 (choose v 1 (choose w 5 9)) ≡ 3 → ⊥
    go true true v w e = omega arith
    go true false true w e = omega arith
    go true false false true e = omega arith
    go true false false false e = omega arith
    go false true v w e = omega arith
    go false false true w e = omega arith
    go false false false true e = omega arith
    go false false false false e = omega arith

width_is : (a : Option Address) → address_width (record { 0 = mode_of a }) ≡ field_length a
width_is None = refl
width_is (Some Absent) = refl
width_is (Some (Short x)) = refl
width_is (Some (Extended x)) = refl

-- the fields behind the first bytes, two or three, read as they were written
record Fields (c : Bool) (dp : Option Pan) (da : Option Address) (sp : Option Pan) (sa : Option Address) (s : List ℕ) (f m : ℕ) : Type 0 where
  front : List ℕ
  in-front : length front ≡ f
  stands : s ≡ front ++ written_fields c dp da sp sa
  is-long : length s ≡ f + (choose c 2 4 + (field_length da + field_length sa))
  ends : m ≡ f + ((pan_width (has_pan dp) + field_length da) + (pan_width (has_pan sp) + field_length sa))
  are-read : TwoIn (side (has_pan dp) (record { 0 = mode_of da })) (side (has_pan sp) (record { 0 = mode_of sa })) s f (side_of dp da) (side_of sp sa) m

-- without a destination PAN two bytes of 0 stand in its place, and the destination is read too early
zeros-source : (c : Bool) (da : Option Address) (sp : Option Pan) (sa : Option Address) (s : List ℕ) (f m : ℕ) (x : Fields c None da sp sa s f m) → Zeros s x.are-read.middle (choose c (field_bytes sa) (le16_bytes (pan_or sp) ++ field_bytes sa))
zeros-source c da sp sa s f m x =
    zeros-side None da s f x.are-read.middle (choose c (field_bytes sa) (le16_bytes (pan_or sp) ++ field_bytes sa)) (record { front = x.front; stands = x.stands; ends = x.in-front }) x.are-read.first_read

-- with one, the source PAN that is not there is written as two bytes of 0
zeros-behind : (w : Pan) (da sa : Option Address) (s : List ℕ) (f m : ℕ) (x : Fields false (Some w) da None sa s f m) → Zeros s x.are-read.middle (field_bytes sa)
unfolding le16_bytes
zeros-behind w da sa s f m x =
    let y = spans-side true (record { 0 = mode_of da }) s f (side_of (Some w) da) x.are-read.middle (omega (arith, x.is-long)) x.are-read.first_read in
    let b = le16_bytes w.0 ++ field_bytes da in
    record {
      front = x.front ++ b;
      stands = x.stands ∙ simp append_assoc;
      ends = length-append x.front b ∙ omega (arith, y.0, x.in-front, length-field da, width_is da);
    }

never-secured : (c : Bool) (dp : Option Pan) (da : Option Address) (sp : Option Pan) (sa : Option Address) (s : List ℕ) (f m : ℕ) → Fields c dp da sp sa s f m → length s ≡ m + (1 + auxiliary_length (get_or s m 0)) → ⊥
never-secured true (Some w) da None sa s f m x e = omega (arith, x.is-long, x.ends)
never-secured true (Some w) da (Some v) sa s f m x e = omega (arith, x.is-long, x.ends)
never-secured true None da (Some v) sa s f m x e = omega (arith, x.is-long, x.ends)
never-secured false (Some w) da (Some v) sa s f m x e = omega (arith, x.is-long, x.ends)
never-secured false None da None sa s f m x e = auxiliary-not-three (get_or s m 0) (omega (arith, x.is-long, x.ends))
never-secured true None da None sa s f m x e =
    let z = zeros-source true da None sa s f m x in
    zeros-end s m (zeros-side None sa s x.are-read.middle m [] (rw (append-nil (field_bytes sa)) z) x.are-read.second-read) e
never-secured false None da (Some v) sa s f m x e =
    let z = zeros-source false da (Some v) sa s f m x in
    zeros-end s m (zeros-side (Some v) sa s x.are-read.middle m [] (rw (append-nil (field_bytes sa)) z) x.are-read.second-read) e
never-secured false (Some w) da None sa s f m x e =
    let z = zeros-behind w da sa s f m x in
    zeros-end s m (zeros-side None sa s x.are-read.middle m [] (rw (append-nil (field_bytes sa)) z) x.are-read.second-read) e

secured-not : (t c : Bool) (dp : Option Pan) (da : Option Address) (sp : Option Pan) (sa : Option Address) (s : List ℕ) (f m : ℕ) → Fields c dp da sp sa s f m → length s ≡ m + auxiliary_width t s m → t ≡ false
secured-not true c dp da sp sa s f m x e = absurd (never-secured c dp da sp sa s f m x e)
secured-not false c dp da sp sa s f m x e = refl

-- ---- the PANs stand where they are looked for
counted : (c d s : Bool) (f a b : ℕ) → f + (choose c 2 4 + (a + b)) ≡ f + ((pan_width d + a) + (pan_width s + b)) → bit_of d + bit_of s ≡ choose c 1 2
counted true true true f a b e = absurd (omega arith)
counted true true false f a b e = refl
counted true false true f a b e = refl
counted true false false f a b e = absurd (omega arith)
counted false true true f a b e = refl
counted false true false f a b e = absurd (omega arith)
counted false false true f a b e = absurd (omega arith)
counted false false false f a b e = absurd (omega arith)

source-zero : (c : Bool) (dp : Option Pan) (da : Option Address) (sp : Option Pan) (sa : Option Address) (s : List ℕ) (f m : ℕ) → Fields c dp da sp sa s f m → has_pan dp ≡ false → pan_or sp ≡ 0
source-zero c (Some w) da sp sa s f m x h = absurd (omega (arith, ap bit_of h))
source-zero c None da sp sa s f m x h =
    let y = side-in (has_pan sp) (record { 0 = mode_of sa }) s x.are-read.middle (side_of sp sa) m x.are-read.second-read in
    (zeros-pan s x.are-read.middle y.middle sp (choose c (field_bytes sa) (le16_bytes (pan_or sp) ++ field_bytes sa)) (zeros-source c da sp sa s f m x) y.first_read).0

-- ---- the header as a whole
in_bytes : (h : Repr) → control_in (bytes_of h) ≡ masked (control_for h)
unfolding bytes_of front_bytes byte_bytes le16_bytes
in_bytes h =
    let w = word_of (control_for h) in
    let e : w % 256 + w / 256 * 256 ≡ w = omega arith in
    ap control_of e ∙ control-back (control_for h)

within-bits : (s : List ℕ) (h : Repr) (n : ℕ) → HeaderIn (control_in s) s h n → (h.frame_type.0 < 8) × (h.frame_version.0 < 4)
unfolding repr_of
within-bits s h n x =
    let t = ap (λ r. r.frame_type.0) x.rest.is-header in
    let v = ap (λ r. r.frame_version.0) x.rest.is-header in
    (omega arith, omega arith)

-- where the addressing fields begin in what is written for a header, and what was read from there
abbrev after_front : Repr → ℕ
after_front h = 2 + choose (suppresses h) 0 1

abbrev Rested : Repr → ℕ → Type 0
Rested h q = RestIn (control_for h) (choose (suppresses h) None (sequence_of (control_for h) q)) (after_front h) (bytes_of h) h (length_of h)

fields-are : (h : Repr) (q : ℕ) (x : Rested h q) → x.fields ≡ fields_of h
unfolding repr_of
fields-are h q x = sym (ap fields_of x.is-header)

-- a sequence number was read unless it was left out
sequence-has : (h : Repr) (q : ℕ) → Rested h q → has_sequence (control_for h) ≡ true → choose (suppresses h) true (has_byte h.sequence_number) ≡ true
unfolding repr_of sequence_of
sequence-has h q x e = go (suppresses h) h.sequence_number (ap (λ r. r.sequence_number) x.is-header ∙ rw e)
  where
    go : (t : Bool) (f : Option ℕ) → f ≡ choose t None (Some q) → choose t true (has_byte f) ≡ true
    go true f e = refl
    go false f e = ap has_byte e

length-is : (h : Repr) → length_of h ≡ after_front h + (choose h.pan_id_compression 2 4 + (field_length h.dst_addr + field_length h.src_addr))
unfolding length_of
length-is h = go (suppresses h) h.pan_id_compression (field_length h.dst_addr + field_length h.src_addr)
  where
    go : (t c : Bool) (n : ℕ) → choose t 4 5 + choose c 0 2 + n ≡ 2 + choose t 0 1 + (choose c 2 4 + n)
    go true true n = omega arith
    go true false n = omega arith
    go false true n = omega arith
    go false false n = omega arith

-- the frame type has addressing: without, two bytes of 0 follow the sequence number at least, and they are no auxiliary security header
unaddressed-go : (c t : Bool) (a b f : ℕ) (s : List ℕ) → a ≡ 0 → b ≡ 0 → get_or s f 0 ≡ 0 → f + (choose c 2 4 + (a + b)) ≡ f + auxiliary_width t s f → ⊥
unfolding counter_length key_length
unaddressed-go true true a b f s p q r e = let z : auxiliary_length (get_or s f 0) ≡ 4 = rw r in omega arith
unaddressed-go false true a b f s p q r e = let z : auxiliary_length (get_or s f 0) ≡ 4 = rw r in omega arith
unaddressed-go true false a b f s p q r e = omega arith
unaddressed-go false false a b f s p q r e = omega arith

pan-byte-go : (t : Bool) (w q p : ℕ) (r : List ℕ) → get_or ((le16_bytes w ++ choose t (le16_bytes p) (byte_bytes q ++ le16_bytes p)) ++ r) (2 + choose t 0 1) 0 ≡ p % 256
unfolding byte_bytes le16_bytes
pan-byte-go true w q p r = refl
pan-byte-go false w q p r = refl

pan-byte : (h : Repr) → get_or (bytes_of h) (after_front h) 0 ≡ pan_or h.dst_pan_id % 256
unfolding bytes_of front_bytes
pan-byte h = pan-byte-go (suppresses h) (word_of (control_for h)) (sequence_or h.sequence_number) (pan_or h.dst_pan_id) _

unaddressed : (h : Repr) (m : ℕ) → got (sides_of no_side no_side) (after_front h) ≡ got (fields_of h) m → length_of h ≡ m + auxiliary_width h.security_enabled (bytes_of h) m → ⊥
unaddressed h m e l =
    let g = got-one (sides_of no_side no_side) (fields_of h) (after_front h) m e in
    let d : field_length h.dst_addr ≡ 0 = sym (ap (λ x. field_length x.dst.addr) g.0) in
    let s : field_length h.src_addr ≡ 0 = sym (ap (λ x. field_length x.src.addr) g.0) in
    let z : pan_or h.dst_pan_id ≡ 0 = sym (ap (λ x. pan_or x.dst.pan) g.0) in
    unaddressed-go h.pan_id_compression h.security_enabled (field_length h.dst_addr) (field_length h.src_addr) (after_front h) (bytes_of h) d s (pan-byte h ∙ ap (λ n. n % 256) z) (sym (length-is h) ∙ rw (← g.1) at l)

front-go : (t : Bool) (w : ℕ) (q : Option ℕ) → length (le16_bytes w ++ sequence_bytes t q) ≡ 2 + choose t 0 1
unfolding byte_bytes le16_bytes
front-go true w q = refl
front-go false w q = refl

-- the fields of a frame type with addressing
fields_in : (h : Repr) (m : ℕ) → TwoIn (side (has_pan h.dst_pan_id) (record { 0 = mode_of h.dst_addr })) (side (has_pan h.src_pan_id) (record { 0 = mode_of h.src_addr })) (bytes_of h) (after_front h) (fields_of h).dst (fields_of h).src m → Fields h.pan_id_compression h.dst_pan_id h.dst_addr h.src_pan_id h.src_addr (bytes_of h) (after_front h) m
fields_in h m x =
    let s = bytes_of h in
    let w = le16_bytes (word_of (control_for h)) in
    let q = sequence_bytes (suppresses h) h.sequence_number in
    let l = length-bytes h ∙ length-is h in
    let y = spans-side (has_pan h.dst_pan_id) (record { 0 = mode_of h.dst_addr }) s (after_front h) (fields_of h).dst x.middle (omega arith) x.first_read in
    let z = spans-side (has_pan h.src_pan_id) (record { 0 = mode_of h.src_addr }) s x.middle (fields_of h).src m y.1 x.second-read in
    record {
      front = w ++ q;
      in-front = front-go (suppresses h) (word_of (control_for h)) h.sequence_number;
      stands = sym (append_assoc w q _ ∙ bytes-are h);
      is-long = l;
      ends = omega (arith, width_is h.dst_addr, width_is h.src_addr);
      are-read = x;
    }

-- what a frame type with addressing was read to have
record AddressedIn (h : Repr) (m : ℕ) : Type 0 where
  are-carried : carried (control_for h) ≡ pans (has_pan h.dst_pan_id) (has_pan h.src_pan_id)
  dst : has_address h.dst_addr ≡ true
  src : has_address h.src_addr ≡ true
  are-fields : Fields h.pan_id_compression h.dst_pan_id h.dst_addr h.src_pan_id h.src_addr (bytes_of h) (after_front h) m

addressed-in : (h : Repr) (m : ℕ) → sides (carried (control_for h)) (record { 0 = mode_of h.dst_addr }) (record { 0 = mode_of h.src_addr }) (bytes_of h) (after_front h) ≡ got (fields_of h) m → AddressedIn h m
addressed-in h m e =
    let p = carried (control_for h) in
    let d : AddressingMode = record { 0 = mode_of h.dst_addr } in
    let r : AddressingMode = record { 0 = mode_of h.src_addr } in
    let x = sides-in p d r (bytes_of h) (after_front h) (fields_of h) m e in
    let y = side-in p.dst d (bytes_of h) (after_front h) (fields_of h).dst x.middle x.first_read in
    let z = side-in p.src r (bytes_of h) x.middle (fields_of h).src m x.second-read in
    let u = pan-has p.dst (bytes_of h) (after_front h) h.dst_pan_id y.middle y.first_read in
    let v = pan-has p.src (bytes_of h) x.middle h.src_pan_id z.middle z.first_read in
    record {
      are-carried = pans-eta p (has_pan h.dst_pan_id) (has_pan h.src_pan_id) u v;
      dst = address-has d (bytes_of h) y.middle h.dst_addr x.middle y.second-read;
      src = address-has r (bytes_of h) z.middle h.src_addr m z.second-read;
      are-fields = fields_in h m (rw (u, v) x);
    }

addressing-go : (h : Repr) (m : ℕ) (t : Bool) → length_of h ≡ m + auxiliary_width h.security_enabled (bytes_of h) m → choose t (sides (carried (control_for h)) (record { 0 = mode_of h.dst_addr }) (record { 0 = mode_of h.src_addr }) (bytes_of h) (after_front h)) (got (sides_of no_side no_side) (after_front h)) ≡ got (fields_of h) m → (t ≡ true) × AddressedIn h m
addressing-go h m true l e = (refl, addressed-in h m e)
addressing-go h m false l e = absurd (unaddressed h m e l)

addressing-in : (h : Repr) (m : ℕ) → length_of h ≡ m + auxiliary_width h.security_enabled (bytes_of h) m → addressing (control_for h) (bytes_of h) (after_front h) ≡ got (fields_of h) m → (has_addressing (control_for h) ≡ true) × AddressedIn h m
unfolding addressing
addressing-in h m l e = addressing-go h m (has_addressing (control_for h)) l e

pans-in : (h : Repr) (m : ℕ) → length_of h ≡ m → AddressedIn h m → PansStand h.pan_id_compression (carried (control_for h)) h.dst_pan_id h.src_pan_id
pans-in h m l x =
    let f = x.are-fields in
    record {
      are-carried = x.are-carried;
      are-counted = counted h.pan_id_compression (has_pan h.dst_pan_id) (has_pan h.src_pan_id) (after_front h) (field_length h.dst_addr) (field_length h.src_addr) (sym (length-is h) ∙ l ∙ f.ends);
      source-zero = source-zero h.pan_id_compression h.dst_pan_id h.dst_addr h.src_pan_id h.src_addr (bytes_of h) (after_front h) m f;
    }

domain-in : (h : Repr) → header (bytes_of h) 0 ≡ got h (length_of h) → Domain h
domain-in h e =
    let s = bytes_of h in
    let y = header-in s h (length_of h) e in
    let b = within-bits s h (length_of h) y in
    let k = control_for h in
    let z : HeaderIn k s h (length_of h) = subst (λ j. HeaderIn j s h (length_of h)) (in_bytes h ∙ masked_same h b.0 b.1) y in
    let q = z.sequence in
    let x : Rested h q = subst (λ t. RestIn k (choose t None (sequence_of k q)) (2 + choose t 0 1) s h (length_of h)) (omits-is h) z.rest in
    let m = after_front h + addressing_width k in
    let l = auxiliary-length h.security_enabled s m (length_of h) x.fields_within x.auxiliary-read in
    let a = addressing-in h m l.0 (x.fields_read ∙ ap (λ i. got i m) (fields-are h q x)) in
    let c = h.pan_id_compression in
    let n = secured-not h.security_enabled c h.dst_pan_id h.dst_addr h.src_pan_id h.src_addr s (after_front h) m a.1.are-fields (length-bytes h ∙ l.0) in
    record {
      unsecured = n;
      version = b.1;
      is-supported = x.is-supported;
      is-addressed = a.0;
      sequence = sequence-has h q x (addressed-sequence k a.0);
      dst = a.1.dst;
      src = a.1.src;
      pans-stand = pans-in h m (l.0 ∙ ap (λ t. m + auxiliary_width t s m) n ∙ add-zero m) a.1;
    }

-- ---- each test holds
and : (t u : Bool) → t ≡ true → u ≡ true → (t && u) ≡ true
and true u e f = f
and false u e f = e

same_of : (t u : Bool) → u ≡ t → same t u ≡ true
same_of true u e = e
same_of false u e = ap not e

zero_test : (t : Bool) (n : ℕ) → (t ≡ false → n ≡ 0) → choose t true (eqb n 0) ≡ true
zero_test true n e = refl
zero_test false n e = eq-eqb n 0 (e refl)

pans-admitted : (c : Bool) (p : Carried) (d s : Option Pan) → PansStand c p d s → pans_stand c p d s ≡ true
unfolding pans_stand
pans-admitted c p d s x =
    and _ _ (same_of (has_pan d) p.dst (ap (λ y. y.dst) x.are-carried))
    (and _ _ (same_of (has_pan s) p.src (ap (λ y. y.src) x.are-carried))
    (and _ _ (eq-eqb _ _ x.are-counted) (zero_test (has_pan d) (pan_or s) x.source-zero)))

-- what reads back, even with nothing behind it, is in the domain
pub needed : (h : Repr) → header (bytes_of h) 0 ≡ got h (length_of h) → round_trips h ≡ true
unfolding round_trips
needed h e =
    let x = domain-in h e in
    and _ _ (ap not x.unsecured)
    (and _ _ (lt-ltb h.frame_version.0 4 x.version)
    (and _ _ x.is-supported
    (and _ _ x.is-addressed
    (and _ _ x.sequence
    (and _ _ x.dst
    (and _ _ x.src (pans-admitted h.pan_id_compression (carried (control_for h)) h.dst_pan_id h.src_pan_id x.pans-stand)))))))

-- the domain is exact
pub exact : (h : Repr) → (round_trips h ≡ true → Reads header (bytes_of h) h) × (Reads header (bytes_of h) h → round_trips h ≡ true)
exact h = (suffices h, λ r. needed h (rw (append-nil (bytes_of h), zero-add (length (bytes_of h)), length-bytes h) at (r [] [] 0 refl)))
