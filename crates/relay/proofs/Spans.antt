-- How far the headers go: the first byte of each says it, and they end within the bytes. Where the bytes end first they are refused, 1.
use Rattle.std.specs.Prelude.{Option, Some, None}
use Prim.Native.Nat.{ℕ, ◌+◌, ◌/◌, ◌%◌, ◌≤◌, ◌<◌}
use native.Mathlib.Nat.{add-zero, lt_of_not-le}
use native.Mathlib.Omega.{arith}
use native.Mathlib.Decide.{dec_le}
use mathlib.Core.List.{List}
use mathlib.Core.Bool.{Bool, true, false}
use mathlib.Core.Logic.{◌⊎◌, inl, inr}
use mathlib.Core.Path.{◌≡◌, refl, sym, ap, ◌∙◌}
use lib.Dec.{eqb, ltb}
use lib.ListN.{length, get_or}
use borrow.Author.Tests.{lt-ltb, eqb-true}
use Rattle.octets.specs.Read.{Answer, is, refused, Read, Reader, got, and_then, choose, branch, give, refuse, byte, be16, be32, be64, ◌>>=◌}
use Rattle.octets.proofs.Spans.{Spans, First, not-refused, spans-first, spans-then, spans-both, spans-map, spans-branch, spans-guard, spans-give, spans-byte, spans-be16, spans-be64}
use Rattle.ieee802154.specs.declared.addr.Address.TheVariants.{Short, Extended}
use Rattle.relay.specs.Mesh.{address, hops_left, mesh_rest, mesh, is_mesh, address_width, mesh_width}
use Rattle.relay.specs.Broadcast.{broadcast, is_broadcast, broadcast_length}
use Rattle.relay.specs.Headers.{is_either, mesh_field, broadcast_field, relay}
use Rattle.relay.specs.declared.mesh.Mesh.{Mesh}
use Rattle.relay.specs.declared.headers.Relay.{Relay}
use Rattle.std.proofs.lemmas.List.{get_or_past}
use Rattle.relay.proofs.Parts.{next_of, value_of, both_of, parts, mesh_of}

-- ---- a mesh header
spans-address : (short : ℕ) → Spans (address short) (address_width short)
unfolding address
spans-address short = spans-branch (eqb short 1) _ _ 2 8 (spans-map be16 Short 2 spans-be16) (spans-map be64 Extended 8 spans-be64)

spans-hops : (bits : ℕ) → Spans (hops_left bits) (choose (eqb bits 0b1111) 1 0)
unfolding hops_left
spans-hops bits = spans-branch (eqb bits 0b1111) byte (give bits) 1 0 spans-byte (spans-give bits)

spans-rest : (b : ℕ) → Spans (mesh_rest b) (mesh_width b)
unfolding mesh_rest
spans-rest b =
    let o = address (b / 32 % 2) in
    let d = address (b / 16 % 2) in
    spans-then (hops_left (b % 16)) (λ h. ◌>>=◌ o (λ y. ◌>>=◌ d (λ z. give (mesh_of h y z)))) _ _ (spans-hops (b % 16))
    (λ h. spans-both o d (mesh_of h) (address_width (b / 32 % 2)) (address_width (b / 16 % 2)) (spans-address (b / 32 % 2)) (spans-address (b / 16 % 2)))

-- the place after the header is past its first byte b by mesh_width b
pub mesh-length : (s : List ℕ) (at n : ℕ) (m : Mesh) → at ≤ length s → mesh s at ≡ got m n → First byte 1 mesh_width s at n
unfolding mesh
mesh-length s at n m e r = spans-first byte (λ b. branch (is_mesh b) (mesh_rest b) (refuse 2)) 1 mesh_width spans-byte (λ b. spans-guard (is_mesh b) (mesh_rest b) 2 (mesh_width b) (spans-rest b)) s at m n e r

-- ---- a broadcast header
spans-broadcast : Spans broadcast 2
unfolding broadcast
spans-broadcast = spans-then byte (λ b. branch (is_broadcast b) byte (refuse 2)) 1 1 spans-byte (λ b. spans-guard (is_broadcast b) byte 2 1 spans-byte)

-- ---- both
byte-go : (s : List ℕ) (at x n : ℕ) (t : Bool) → choose t (got (get_or s at 0) (at + 1)) (refused 1) ≡ got x n → get_or s at 0 ≡ x
byte-go s at x n true e = ap (value_of x) e
byte-go s at x n false e = not-refused _ 1 e

byte-is : (s : List ℕ) (at x n : ℕ) → byte s at ≡ got x n → get_or s at 0 ≡ x
unfolding byte
byte-is s at x n e = byte-go s at x n (ltb at (length s)) e

-- how many bytes a mesh header takes whose first byte, if there is one, is b
abbrev pub field_width : ℕ → ℕ
field_width b = choose (is_mesh b) (1 + mesh_width b) 0

field-length : (s : List ℕ) (at n : ℕ) (f : Option Mesh) → at ≤ length s → mesh_field s at ≡ got f n → (n ≡ at + field_width (get_or s at 0)) × (n ≤ length s)
unfolding mesh_field
field-length s at n f l e = by (is_mesh (get_or s at 0)) e
  where
    by : (t : Bool) → choose t (◌>>=◌ mesh (λ m. give (Some m)) s at) (got None at) ≡ got f n → (n ≡ at + choose t (1 + mesh_width (get_or s at 0)) 0) × (n ≤ length s)
    by true e =
        let c = both_of mesh (λ m. give (Some m)) s at f n e in
        let z : c.place ≡ n = ap next_of c.is-then in
        let w = mesh-length s at c.place c.first l c.is-first in
        let b : mesh_width (get_or s at 0) ≡ mesh_width w.field = ap mesh_width (byte-is s at w.field (at + 1) w.is_read) in
        (sym z ∙ w.length-is ∙ ap (λ k. at + (1 + k)) (sym b), omega (arith, w.within))
    by false e = let z : at ≡ n = ap next_of e in (omega arith, omega arith)

sequence-length : (s : List ℕ) (at n : ℕ) (x : Option ℕ) → at ≤ length s → broadcast_field s at ≡ got x n → (n ≡ at + broadcast_length x) × (n ≤ length s)
unfolding broadcast_field
sequence-length s at n x l e = by (is_broadcast (get_or s at 0)) e
  where
    by : (t : Bool) → choose t (◌>>=◌ broadcast (λ y. give (Some y)) s at) (got None at) ≡ got x n → (n ≡ at + broadcast_length x) × (n ≤ length s)
    by true e =
        let c = both_of broadcast (λ y. give (Some y)) s at x n e in
        let z : c.place ≡ n = ap next_of c.is-then in
        let v : Some c.first ≡ x = ap (value_of x) c.is-then in
        let w = spans-broadcast s at c.first c.place l c.is-first in
        (sym z ∙ w.0 ∙ ap (λ y. at + broadcast_length y) v, omega (arith, w.1))
    by false e =
        let z : at ≡ n = ap next_of e in
        let v : None ≡ x = ap (value_of x) e in
        (sym z ∙ sym (add-zero at) ∙ ap (λ y. at + broadcast_length y) v, omega arith)

-- the place after the headers is past the place that they began at by the mesh header's width and the broadcast header's
pub relay-length : (s : List ℕ) (at n : ℕ) (r : Relay) → at ≤ length s → relay s at ≡ got r n → (n ≡ at + (field_width (get_or s at 0) + broadcast_length r.broadcast)) × (n ≤ length s)
relay-length s at n r l e =
    let c = parts s at r n e in
    let f = field-length s at c.place r.mesh l c.is-mesh in
    let b = sequence-length s c.place n r.broadcast f.1 c.is-broadcast in
    (omega arith, b.1)

-- ---- where the bytes end first
-- every refusal of m is k
abbrev Only : {A : Type 0} → Reader A → ℕ → Type 0
Only m k = (s : List ℕ) (at j : ℕ) → m s at ≡ refused j → j ≡ k

not-got : {A X : Type 0} (a : A) (n j : ℕ) → got a n ≡ refused j → X
not-got a n j e = not-refused _ j (sym e)

abbrev number_in : {A : Type 0} → Answer A → ℕ
number_in (is a) = 0
number_in (refused n) = n

only-go : {A B : Type 0} (m : Reader A) (f : A → Reader B) (k : ℕ) → Only m k → ((a : A) → Only (f a) k) → (s : List ℕ) (at j : ℕ) (r : Read A) → m s at ≡ r → and_then r (λ p. f p.value s p.next) ≡ refused j → j ≡ k
only-go m f k v w s at j (is p) q e = w p.value s p.next j e
only-go m f k v w s at j (refused i) q e = sym (ap number_in e) ∙ v s at i q

only_then : {A B : Type 0} (m : Reader A) (f : A → Reader B) (k : ℕ) → Only m k → ((a : A) → Only (f a) k) → Only (◌>>=◌ m f) k
only_then m f k v w s at j e = only-go m f k v w s at j (m s at) refl e

only-give : {A : Type 0} (x : A) (k : ℕ) → Only (give x) k
only-give x k s at j e = not-got x at j e

only-branch : {A : Type 0} (t : Bool) (m f : Reader A) (k : ℕ) → Only m k → Only f k → Only (branch t m f) k
only-branch true m f k v w s at j e = v s at j e
only-branch false m f k v w s at j e = w s at j e

only-both : {A B C : Type 0} (m : Reader A) (n : Reader B) (f : A → B → C) (k : ℕ) → Only m k → Only n k → Only (◌>>=◌ m (λ a. ◌>>=◌ n (λ b. give (f a b)))) k
only-both m n f k v w = only_then m (λ a. ◌>>=◌ n (λ b. give (f a b))) k v (λ a. only_then n (λ b. give (f a b)) k w (λ b. only-give (f a b) k))

only-byte : Only byte 1
unfolding byte
only-byte s at j e = by (ltb at (length s)) e
  where
    by : (t : Bool) → choose t (got (get_or s at 0) (at + 1)) (refused 1) ≡ refused j → j ≡ 1
    by true e = not-got (get_or s at 0) (at + 1) j e
    by false e = sym (ap number_in e)

only-be16 : Only be16 1
unfolding be16
only-be16 = only-both byte byte (λ hi lo. _) 1 only-byte only-byte

only-be32 : Only be32 1
unfolding be32
only-be32 = only-both be16 be16 (λ hi lo. _) 1 only-be16 only-be16

only-be64 : Only be64 1
unfolding be64
only-be64 = only-both be32 be32 (λ hi lo. _) 1 only-be32 only-be32

only-address : (short : ℕ) → Only (address short) 1
unfolding address
only-address short =
    only-branch (eqb short 1) _ _ 1
    (only_then be16 (λ x. give (Short x)) 1 only-be16 (λ x. only-give (Short x) 1))
    (only_then be64 (λ x. give (Extended x)) 1 only-be64 (λ x. only-give (Extended x) 1))

only-hops : (bits : ℕ) → Only (hops_left bits) 1
unfolding hops_left
only-hops bits = only-branch (eqb bits 0b1111) byte (give bits) 1 only-byte (only-give bits 1)

only-rest : (b : ℕ) → Only (mesh_rest b) 1
unfolding mesh_rest
only-rest b =
    let o = address (b / 32 % 2) in
    let d = address (b / 16 % 2) in
    only_then (hops_left (b % 16)) (λ h. ◌>>=◌ o (λ y. ◌>>=◌ d (λ z. give (mesh_of h y z)))) 1 (only-hops (b % 16))
    (λ h. only-both o d (mesh_of h) 1 (only-address (b / 32 % 2)) (only-address (b / 16 % 2)))

-- a byte that is looked at and is not 0 is there
there : (s : List ℕ) (at : ℕ) → (0 ≡ get_or s at 0 → ⊥) → at < length s
there s at h = elim (dec_le (length s) at) [ yes q ↦ absurd (h (sym (get_or_past s at 0 q))) | no q ↦ lt_of_not-le q ]

byte-there : (s : List ℕ) (at : ℕ) → at < length s → byte s at ≡ got (get_or s at 0) (at + 1)
unfolding byte
byte-there s at h = rw (lt-ltb at (length s) h) refl

mesh-there : (s : List ℕ) (at : ℕ) → is_mesh (get_or s at 0) ≡ true → at < length s
mesh-there s at e = there s at (λ z. omega (arith, eqb-true (get_or s at 0 / 64) 0b10 e))

broadcast-there : (s : List ℕ) (at : ℕ) → is_broadcast (get_or s at 0) ≡ true → at < length s
broadcast-there s at e = there s at (λ z. omega (arith, eqb-true (get_or s at 0) 0b01010000 e))

only-mesh : (s : List ℕ) (at j : ℕ) → is_mesh (get_or s at 0) ≡ true → mesh s at ≡ refused j → j ≡ 1
unfolding mesh
only-mesh s at j h e = only-rest (get_or s at 0) s (at + 1) j (rw (byte-there s at (mesh-there s at h), h) at e)

only-broadcast : (s : List ℕ) (at j : ℕ) → is_broadcast (get_or s at 0) ≡ true → broadcast s at ≡ refused j → j ≡ 1
unfolding broadcast
only-broadcast s at j h e = only-byte s (at + 1) j (rw (byte-there s at (broadcast-there s at h), h) at e)

-- a mesh header that is cut, and a broadcast header that is cut
pub mesh-ends : (s : List ℕ) (at : ℕ) → is_mesh (get_or s at 0) ≡ true → length s < at + (1 + mesh_width (get_or s at 0)) → mesh s at ≡ refused 1
mesh-ends s at h l = by (mesh s at) refl
  where
    by : (r : Read Mesh) → mesh s at ≡ r → r ≡ refused 1
    by (refused j) e = ap refused (only-mesh s at j h e)
    by (is p) e =
        let w = mesh-length s at p.next p.value (omega (arith, mesh-there s at h)) e in
        let b : mesh_width (get_or s at 0) ≡ mesh_width w.field = ap mesh_width (byte-is s at w.field (at + 1) w.is_read) in
        absurd (omega (arith, w.length-is, w.within, b))

pub broadcast-ends : (s : List ℕ) (at : ℕ) → is_broadcast (get_or s at 0) ≡ true → length s < at + 2 → broadcast s at ≡ refused 1
broadcast-ends s at h l = by (broadcast s at) refl
  where
    by : (r : Read ℕ) → broadcast s at ≡ r → r ≡ refused 1
    by (refused j) e = ap refused (only-broadcast s at j h e)
    by (is p) e = absurd (omega (arith, spans-broadcast s at p.value p.next (omega (arith, broadcast-there s at h)) e))

-- so are the headers of a frame that begins with one
pub relay-ends : (s : List ℕ) (at : ℕ) → is_mesh (get_or s at 0) ≡ true → length s < at + (1 + mesh_width (get_or s at 0)) → relay s at ≡ refused 1
unfolding relay mesh_field
relay-ends s at h l = rw (h, mesh-ends s at h l) refl

-- ---- every refusal is 1 or 3
-- what is made of a field is refused as the field is
map-refused : {A B : Type 0} (m : Reader A) (f : A → B) (s : List ℕ) (at j : ℕ) (r : Read A) → r ≡ m s at → and_then r (λ p. got (f p.value) p.next) ≡ refused j → m s at ≡ refused j
map-refused m f s at j (is p) q e = not-got (f p.value) p.next j e
map-refused m f s at j (refused i) q e = sym q ∙ ap refused (ap number_in e)

only-field : Only mesh_field 1
unfolding mesh_field
only-field s at j e = by (is_mesh (get_or s at 0)) refl e
  where
    by : (t : Bool) → is_mesh (get_or s at 0) ≡ t → choose t (◌>>=◌ mesh (λ m. give (Some m)) s at) (got None at) ≡ refused j → j ≡ 1
    by true h e = only-mesh s at j h (map-refused mesh Some s at j (mesh s at) refl e)
    by false h e = not-got None at j e

only-sequence : Only broadcast_field 1
unfolding broadcast_field
only-sequence s at j e = by (is_broadcast (get_or s at 0)) refl e
  where
    by : (t : Bool) → is_broadcast (get_or s at 0) ≡ t → choose t (◌>>=◌ broadcast (λ x. give (Some x)) s at) (got None at) ≡ refused j → j ≡ 1
    by true h e = only-broadcast s at j h (map-refused broadcast Some s at j (broadcast s at) refl e)
    by false h e = not-got None at j e

abbrev relay_of : Option Mesh → Option ℕ → Relay
relay_of m x = record { mesh = m; broadcast = x }

last-refused : (r : Relay) (n j : ℕ) (t : Bool) → choose t (refused 3) (got r n) ≡ refused j → (j ≡ 1) ⊎ (j ≡ 3)
last-refused r n j true e = inr (sym (ap number_in e))
last-refused r n j false e = not-got r n j e

pub relay-refused : (s : List ℕ) (at j : ℕ) → relay s at ≡ refused j → (j ≡ 1) ⊎ (j ≡ 3)
unfolding relay
relay-refused s at j e = on-mesh (mesh_field s at) refl e
  where
    on-broadcast : (m : Option Mesh) (k : ℕ) (r : Read (Option ℕ)) → broadcast_field s k ≡ r → and_then r (λ x. choose (is_either (get_or s x.next 0)) (refused 3) (got (relay_of m x.value) x.next)) ≡ refused j → (j ≡ 1) ⊎ (j ≡ 3)
    on-broadcast m k (is x) q e = last-refused (relay_of m x.value) x.next j (is_either (get_or s x.next 0)) e
    on-broadcast m k (refused i) q e = inl (sym (ap number_in e) ∙ only-sequence s k i q)

    on-mesh : (r : Read (Option Mesh)) → mesh_field s at ≡ r → and_then r (λ m. and_then (broadcast_field s m.next) (λ x. choose (is_either (get_or s x.next 0)) (refused 3) (got (relay_of m.value x.value) x.next))) ≡ refused j → (j ≡ 1) ⊎ (j ≡ 3)
    on-mesh (is m) q e = on-broadcast m.value m.next (broadcast_field s m.next) refl e
    on-mesh (refused i) q e = inl (sym (ap number_in e) ∙ only-field s at i q)
