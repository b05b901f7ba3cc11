-- The headers come back as they were written, wherever their bytes stand, exactly where no further header of the two follows; so do those
-- that `emit` leaves in any room.
use Rattle.std.specs.Prelude.{Option, Some, None}
use Prim.Native.Nat.{ℕ, ◌+◌, ◌*◌, ◌/◌, ◌%◌, ◌≤◌, ◌<◌}
use native.Mathlib.Nat.{add-zero, zero-add}
use native.Mathlib.Omega.{arith}
use mathlib.Core.List.{List, [], ◌∷◌, ◌++◌, append_assoc, append-nil}
use mathlib.Core.Bool.{Bool, true, false, false≢true}
use mathlib.Core.Path.{◌≡◌, refl, sym, ap, ◌∙◌}
use lib.ListN.{length, get_or, drop, length-append}
use lib.Dec.{eqb}
use Rattle.std.proofs.lemmas.List.{get_or-drop}
use borrow.Author.Tests.{leb-false, le-leb, eqb-true, eq-eqb, ne_eqb}
use Rattle.octets.specs.Read.{Reader, Read, refused, got, choose, branch, give, byte, be16, be64, ◌>>=◌}
use Rattle.octets.specs.Write.{byte_bytes, be16_bytes, be64_bytes}
use Rattle.octets.proofs.RoundTrip.{Reads, reads_then, reads-map, reads_both, reads-give, reads-if-not, reads_first, reads_byte, reads-be16, reads-be64}
use Rattle.octets.proofs.Steps.{and-true}
use Rattle.ieee802154.specs.Address.{address_bytes, is_present}
use Rattle.ieee802154.specs.declared.addr.Address.{Address}
use Rattle.ieee802154.specs.declared.addr.Address.TheVariants.{Absent, Short, Extended}
use Rattle.relay.specs.Mesh.{address, hops_left, mesh_rest, mesh, is_mesh, is_deep, hops_bits, hops_bytes, short_bit, mesh_first, mesh_bytes, has_both}
use Rattle.relay.specs.Broadcast.{broadcast, is_broadcast, broadcast_bytes}
use Rattle.relay.specs.Headers.{is_either, mesh_field, broadcast_field, relay, has_addresses, field_bytes, relay_length, relay_bytes, relay_over}
use Rattle.relay.specs.declared.mesh.Mesh.{Mesh}
use Rattle.relay.specs.declared.headers.Relay.{Relay}
use Rattle.relay.proofs.Puts.{length-relay}
use Rattle.relay.proofs.Parts.{mesh_of, followed}

-- ---- a mesh header
reads-hops : (h : ℕ) → Reads (hops_left (hops_bits h)) (hops_bytes h) h
unfolding hops_left hops_bytes
reads-hops h = by (is_deep h) refl
  where
    by : (t : Bool) → is_deep h ≡ t → Reads (branch (eqb (choose t 0b1111 h) 0b1111) byte (give (choose t 0b1111 h))) (choose t (byte_bytes h) []) h
    by true e = reads_byte h
    by false e = reads-if-not (eqb h 0b1111) byte (give h) [] h (ne_eqb h 15 (λ z. omega (arith, leb-false 15 h e))) (reads-give h)

reads-address : (a : Address) → is_present a ≡ true → Reads (address (short_bit a)) (address_bytes a) a
unfolding address
reads-address Absent h = absurd (false≢true h)
reads-address (Short x) h = reads-map be16 Short (be16_bytes x) x (reads-be16 x)
reads-address (Extended x) h = reads-map be64 Extended (be64_bytes x) x (reads-be64 x)

-- the fields of a first byte
record Fields (b v f h : ℕ) : Type 0 where
  lead : b / 64 ≡ 0b10
  origin : b / 32 % 2 ≡ v
  final : b / 16 % 2 ≡ f
  hops : b % 16 ≡ h

fields : (v f h : ℕ) → v < 2 → f < 2 → h < 16 → Fields (0b10 * 64 + v * 32 + f * 16 + h) v f h
fields v f h i j k = record { lead = omega arith; origin = omega arith; final = omega arith; hops = omega arith }

bit-lt : (a : Address) → short_bit a < 2
bit-lt Absent = omega arith
bit-lt (Short x) = omega arith
bit-lt (Extended x) = omega arith

bits-lt : (h : ℕ) → hops_bits h < 16
bits-lt h = by (is_deep h) refl
  where
    by : (t : Bool) → is_deep h ≡ t → choose t 0b1111 h < 16
    by true e = omega arith
    by false e = omega (arith, leb-false 15 h e)

-- the first byte of a header whose four bits of hops are h
abbrev first_with : Mesh → ℕ → ℕ
first_with m h = 0b10 * 64 + short_bit m.origin * 32 + short_bit m.destination * 16 + h

fields-of : (m : Mesh) (h : ℕ) → h < 16 → Fields (first_with m h) (short_bit m.origin) (short_bit m.destination) h
fields-of m h k = fields (short_bit m.origin) (short_bit m.destination) h (bit-lt m.origin) (bit-lt m.destination) k

-- whatever bits and bytes stand for the hops
mesh-reads : (m : Mesh) (h : ℕ) (hs : List ℕ) → h < 16 → has_both m ≡ true → Reads (hops_left h) hs m.hops → Reads mesh (byte_bytes (first_with m h) ++ (hs ++ (address_bytes m.origin ++ address_bytes m.destination))) m
unfolding mesh mesh_rest
mesh-reads m h hs k e r =
    let f = fields-of m h k in
    let a = and-true (is_present m.origin) (is_present m.destination) e in
    let o = address (short_bit m.origin) in
    let d = address (short_bit m.destination) in
    reads_first (first_with m h) 0b10 2 mesh_rest (λ b. b / 64) (hs ++ (address_bytes m.origin ++ address_bytes m.destination)) m f.lead
    (rw (f.hops, f.origin, f.final)
    (reads_then (hops_left h) (λ x. ◌>>=◌ o (λ y. ◌>>=◌ d (λ z. give (mesh_of x y z)))) hs (address_bytes m.origin ++ address_bytes m.destination) m.hops m r
    (reads_both o d (mesh_of m.hops) (address_bytes m.origin) (address_bytes m.destination) m.origin m.destination (reads-address m.origin a.0) (reads-address m.destination a.1))))

pub mesh-trip : (m : Mesh) → has_both m ≡ true → Reads mesh (mesh_bytes m) m
mesh-trip m e = mesh-reads m (hops_bits m.hops) (hops_bytes m.hops) (bits-lt m.hops) e (reads-hops m.hops)

-- hops below 15 in a byte of their own are read too, though never written
pub deep-trip : (m : Mesh) → has_both m ≡ true → Reads mesh (byte_bytes (first_with m 0b1111) ++ (byte_bytes m.hops ++ (address_bytes m.origin ++ address_bytes m.destination))) m
unfolding hops_left
deep-trip m e = mesh-reads m 0b1111 (byte_bytes m.hops) (omega arith) e (reads_byte m.hops)

-- ---- a broadcast header
pub broadcast-trip : (x : ℕ) → Reads broadcast (0b01010000 ∷ x ∷ []) x
unfolding broadcast byte_bytes
broadcast-trip x = reads_first 0b01010000 0b01010000 2 (λ b. byte) (λ b. b) (byte_bytes x) x refl (reads_byte x)

-- ---- both, as far as what follows lets them: `Before m bs x q` is `Reads m bs x` where q follows
abbrev pub Before : {A : Type 0} → Reader A → List ℕ → A → List ℕ → Type 0
Before m bs x q = (p : List ℕ) (n : ℕ) → length p ≡ n → m (p ++ (bs ++ q)) n ≡ got x (n + length bs)

-- the reader goes on behind its bytes
then_at : {A B : Type 0} (m : Reader A) (k : A → Reader B) (cs : List ℕ) (x : A) (q : List ℕ) (g : ℕ → Read B) → Before m cs x q → ((p : List ℕ) (n : ℕ) → length p ≡ n → k x (p ++ q) n ≡ g n) → (p : List ℕ) (n : ℕ) → length p ≡ n → ◌>>=◌ m k (p ++ (cs ++ q)) n ≡ g (n + length cs)
then_at m k cs x q g f h p n e =
    let i : length (p ++ cs) ≡ n + length cs = length-append p cs ∙ ap (λ z. z + length cs) e in
    rw (f p n e) (rw (← append_assoc p cs q) (h (p ++ cs) (n + length cs) i))

peek-at : (p q : List ℕ) (n : ℕ) → length p ≡ n → get_or (p ++ q) n 0 ≡ get_or q 0 0
peek-at [] q n e = rw (← e) refl
peek-at (a ∷ p) q n e = rw (← e) (peek-at p q (length p) refl)

mesh-first : (m : Mesh) (q : List ℕ) → is_mesh (get_or (mesh_bytes m ++ q) 0 0) ≡ true
unfolding byte_bytes
mesh-first m q = eq-eqb (mesh_first m / 64) 0b10 (fields-of m (hops_bits m.hops) (bits-lt m.hops)).lead

field-trip : (f : Option Mesh) (q : List ℕ) → has_addresses f ≡ true → (f ≡ None → is_mesh (get_or q 0 0) ≡ false) → Before mesh_field (field_bytes f) f q
unfolding mesh_field
field-trip None q e h p n i = rw (peek-at p q n i, h refl) (ap (got None) (sym (add-zero n)))
field-trip (Some m) q e h p n i = rw (peek-at p (mesh_bytes m ++ q) n i, mesh-first m q) (reads-map mesh Some (mesh_bytes m) m (mesh-trip m e) p q n i)

sequence-trip : (x : Option ℕ) (q : List ℕ) → (x ≡ None → is_broadcast (get_or q 0 0) ≡ false) → Before broadcast_field (broadcast_bytes x) x q
unfolding broadcast_field
sequence-trip None q h p n i = rw (peek-at p q n i, h refl) (ap (got None) (sym (add-zero n)))
sequence-trip (Some x) q h p n i = rw (peek-at p (0b01010000 ∷ x ∷ q) n i) (reads-map broadcast Some (0b01010000 ∷ x ∷ []) x (broadcast-trip x) p q n i)

-- the reader comes as far as what follows: it gives the headers, or is refused
relay-at : (r : Relay) (q : List ℕ) (t : Bool) → has_addresses r.mesh ≡ true → (r.mesh ≡ None → is_mesh (get_or (broadcast_bytes r.broadcast ++ q) 0 0) ≡ false) → (r.broadcast ≡ None → is_broadcast (get_or q 0 0) ≡ false) → is_either (get_or q 0 0) ≡ t → (p : List ℕ) (n : ℕ) → length p ≡ n → relay (p ++ (relay_bytes r ++ q)) n ≡ choose t (refused 3) (got r (n + length (relay_bytes r)))
unfolding relay
relay-at r q t e f g h p n i =
    let F = field_bytes r.mesh in
    let B = broadcast_bytes r.broadcast in
    let ended : ℕ → Read Relay = λ k. choose t (refused 3) (got r k) in
    let last : Option Mesh → Option ℕ → Reader Relay = λ m x s at. choose (is_either (get_or s at 0)) (refused 3) (got (record { mesh = m; broadcast = x }) at) in
    let d : n + length F + length B ≡ n + length (F ++ B) = omega (arith, length-append F B) in
    rw (append_assoc F B q)
    (then_at mesh_field (λ m. ◌>>=◌ broadcast_field (last m)) F r.mesh (B ++ q) (λ k. ended (k + length B)) (field-trip r.mesh (B ++ q) e f)
    (then_at broadcast_field (last r.mesh) B r.broadcast q ended (sequence-trip r.broadcast q g) (λ z k w. rw (peek-at z q k w, h) refl)) p n i
    ∙ ap ended d)

either-mesh : (b : ℕ) → is_either b ≡ false → is_mesh b ≡ false
either-mesh b e = by (is_mesh b) e
  where
    by : (t : Bool) → choose t true (is_broadcast b) ≡ false → t ≡ false
    by true e = e
    by false e = refl

either-broadcast : (b : ℕ) → is_either b ≡ false → is_broadcast b ≡ false
either-broadcast b e = by (is_mesh b) e
  where
    by : (t : Bool) → choose t true (is_broadcast b) ≡ false → is_broadcast b ≡ false
    by true e = absurd (false≢true (sym e))
    by false e = e

no-mesh-behind : (x : Option ℕ) (q : List ℕ) → is_mesh (get_or q 0 0) ≡ false → is_mesh (get_or (broadcast_bytes x ++ q) 0 0) ≡ false
no-mesh-behind None q e = e
no-mesh-behind (Some x) q e = refl

-- the round trip, where neither header follows
pub relay-trip : (r : Relay) (q : List ℕ) → has_addresses r.mesh ≡ true → is_either (get_or q 0 0) ≡ false → Before relay (relay_bytes r) r q
relay-trip r q e f p n i = relay-at r q false e (λ _. no-mesh-behind r.broadcast q (either-mesh (get_or q 0 0) f)) (λ _. either-broadcast (get_or q 0 0) f) f p n i

-- a second mesh header is refused, 3
pub second-mesh : (m : Mesh) (q : List ℕ) → has_both m ≡ true → is_mesh (get_or q 0 0) ≡ true → (p : List ℕ) (n : ℕ) → length p ≡ n → relay (p ++ (mesh_bytes m ++ q)) n ≡ refused 3
second-mesh m q e f p n i =
    let r : Relay = record { mesh = Some m; broadcast = None } in
    let z : get_or q 0 0 / 64 ≡ 0b10 = eqb-true (get_or q 0 0 / 64) 0b10 f in
    let g : is_broadcast (get_or q 0 0) ≡ false = ne_eqb (get_or q 0 0) 0b01010000 (λ w. omega arith) in
    let h : is_either (get_or q 0 0) ≡ true = rw f refl in
    rw (← append-nil (mesh_bytes m)) (relay-at r q true e (λ w. cc) (λ _. g) h p n i)

-- either header behind a broadcast one is refused, 3
pub after-broadcast : (f : Option Mesh) (x : ℕ) (q : List ℕ) → has_addresses f ≡ true → is_either (get_or q 0 0) ≡ true → (p : List ℕ) (n : ℕ) → length p ≡ n → relay (p ++ ((field_bytes f ++ (0b01010000 ∷ x ∷ [])) ++ q)) n ≡ refused 3
after-broadcast f x q e g p n i = relay-at (record { mesh = f; broadcast = Some x }) q true e (λ _. refl) (λ w. cc) g p n i

-- ---- in the room that `emit` leaves, whatever else the room holds
pub emit-then-read : (r : Relay) (room : List ℕ) → has_addresses r.mesh ≡ true → relay_length r ≤ length room → is_either (get_or room (relay_length r) 0) ≡ false → relay (relay_over r room) 0 ≡ got r (relay_length r)
emit-then-read r room e l f =
    rw (e, le-leb (relay_length r) (length room) l)
    (relay-trip r (drop (relay_length r) room) e (ap is_either (get_or-drop (relay_length r) room 0 0 ∙ ap (λ k. get_or room k 0) (add-zero (relay_length r))) ∙ f) [] 0 refl ∙ ap (got r) (zero-add (length (relay_bytes r)) ∙ length-relay r))

-- and only there: the condition on what follows is exact
pub only-before : (r : Relay) (p q : List ℕ) (n : ℕ) → length p ≡ n → relay (p ++ (relay_bytes r ++ q)) n ≡ got r (n + length (relay_bytes r)) → is_either (get_or q 0 0) ≡ false
only-before r p q n i e =
    let k : length (p ++ relay_bytes r) ≡ n + length (relay_bytes r) = length-append p (relay_bytes r) ∙ ap (λ z. z + length (relay_bytes r)) i in
    ap is_either (sym (peek-at (p ++ relay_bytes r) q (n + length (relay_bytes r)) k)) ∙ rw (append_assoc p (relay_bytes r) q) (followed (p ++ (relay_bytes r ++ q)) n r (n + length (relay_bytes r)) e)

-- where neither header stands, nothing is read and nothing passed over
pub relay-none : (s : List ℕ) (at : ℕ) → is_either (get_or s at 0) ≡ false → relay s at ≡ got (record { mesh = None; broadcast = None }) at
unfolding relay mesh_field broadcast_field
relay-none s at e = rw (either-mesh (get_or s at 0) e, either-broadcast (get_or s at 0) e) (rw e refl)
