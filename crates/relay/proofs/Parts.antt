-- The headers that were read, taken apart: each as its own reader gives it, no third behind them, and no address of them absent.
use Rattle.std.specs.Prelude.{Option, Some, None}
use Prim.Native.Nat.{ℕ, ◌/◌, ◌%◌}
use mathlib.Core.List.{List}
use mathlib.Core.Bool.{Bool, true, false}
use mathlib.Core.Path.{◌≡◌, refl, sym, ap, subst, ◌∙◌}
use lib.Dec.{eqb}
use lib.ListN.{get_or}
use Rattle.octets.specs.Read.{is, refused, Read, Reader, got, and_then, choose, branch, give, refuse, byte, be16, be64, ◌>>=◌}
use Rattle.octets.proofs.Spans.{not-refused}
use Rattle.ieee802154.specs.Address.{is_present}
use Rattle.ieee802154.specs.declared.addr.Address.{Address}
use Rattle.ieee802154.specs.declared.addr.Address.TheVariants.{Short, Extended}
use Rattle.relay.specs.Mesh.{address, hops_left, mesh_rest, mesh, is_mesh, has_both}
use Rattle.relay.specs.Headers.{is_either, mesh_field, broadcast_field, relay, has_addresses}
use Rattle.relay.specs.declared.mesh.Mesh.{Mesh}
use Rattle.relay.specs.declared.headers.Relay.{Relay}

abbrev pub next_of : {A : Type 0} → Read A → ℕ
next_of (is p) = p.next
next_of (refused n) = 0

abbrev pub value_of : {A : Type 0} → A → Read A → A
value_of d (is p) = p.value
value_of d (refused n) = d

-- ---- what a reader gives that goes by steps
pub record Both {A B : Type 0} (m : Reader A) (f : A → Reader B) (s : List ℕ) (at : ℕ) (b : B) (n : ℕ) : Type 0 where
  pub first : A
  pub place : ℕ
  pub is-first : m s at ≡ got first place
  pub is-then : f first s place ≡ got b n

both_go : {A B : Type 0} (m : Reader A) (f : A → Reader B) (s : List ℕ) (at : ℕ) (b : B) (n : ℕ) (r : Read A) → m s at ≡ r → and_then r (λ p. f p.value s p.next) ≡ got b n → Both m f s at b n
both_go m f s at b n (is p) q e = record { first = p.value; place = p.next; is-first = q; is-then = e }
both_go m f s at b n (refused k) q e = not-refused _ k e

pub both_of : {A B : Type 0} (m : Reader A) (f : A → Reader B) (s : List ℕ) (at : ℕ) (b : B) (n : ℕ) → ◌>>=◌ m f s at ≡ got b n → Both m f s at b n
both_of m f s at b n e = both_go m f s at b n (m s at) refl e

-- ---- the headers
pub record Parts (s : List ℕ) (at : ℕ) (r : Relay) (n : ℕ) : Type 0 where
  pub place : ℕ
  pub is-mesh : mesh_field s at ≡ got r.mesh place
  pub is-broadcast : broadcast_field s place ≡ got r.broadcast n
  pub no_third : is_either (get_or s n 0) ≡ false

abbrev last : Option Mesh → Option ℕ → Reader Relay
last m x s at = choose (is_either (get_or s at 0)) (refused 3) (got (record { mesh = m; broadcast = x }) at)

last-go : (s : List ℕ) (at n : ℕ) (r : Relay) (m : Option Mesh) (x : Option ℕ) (t : Bool) → is_either (get_or s at 0) ≡ t → choose t (refused 3) (got (record { mesh = m; broadcast = x }) at) ≡ got r n → (m ≡ r.mesh) × (x ≡ r.broadcast) × (at ≡ n) × (is_either (get_or s n 0) ≡ false)
last-go s at n r m x true q e = not-refused _ 3 e
last-go s at n r m x false q e =
    let v : ◌≡◌ {A = Relay} (record { mesh = m; broadcast = x }) r = ap (value_of r) e in
    let z : at ≡ n = ap next_of e in
    (ap (λ y. y.mesh) v, ap (λ y. y.broadcast) v, z, ap (λ k. is_either (get_or s k 0)) (sym z) ∙ q)

pub parts : (s : List ℕ) (at : ℕ) (r : Relay) (n : ℕ) → relay s at ≡ got r n → Parts s at r n
unfolding relay
parts s at r n e =
    let a = both_of mesh_field (λ m. ◌>>=◌ broadcast_field (last m)) s at r n e in
    let b = both_of broadcast_field (last a.first) s a.place r n a.is-then in
    let l = last-go s b.place n r a.first b.first (is_either (get_or s b.place 0)) refl b.is-then in
    record {
      place = a.place;
      is-mesh = a.is-first ∙ ap (λ m. got m a.place) l.0;
      is-broadcast = b.is-first ∙ ap (λ x. got x b.place) l.1 ∙ ap (λ k. got r.broadcast k) l.2;
      no_third = l.3;
    }

-- neither header follows those that were read: the round trip's condition is needed
pub followed : (s : List ℕ) (at : ℕ) (r : Relay) (n : ℕ) → relay s at ≡ got r n → is_either (get_or s n 0) ≡ false
followed s at r n e = (parts s at r n e).no_third

-- ---- an address that was read is never absent
abbrev Gives : {A : Type 0} → Reader A → (A → Type 0) → Type 0
Gives {A} m P = (s : List ℕ) (at : ℕ) (a : A) (n : ℕ) → m s at ≡ got a n → P a

gives-give : {A : Type 0} (x : A) (P : A → Type 0) → P x → Gives (give x) P
gives-give x P h s at a n e = subst P (ap (value_of x) e) h

gives_then : {A B : Type 0} (m : Reader A) (f : A → Reader B) (Q : A → Type 0) (P : B → Type 0) → Gives m Q → ((a : A) → Q a → Gives (f a) P) → Gives (◌>>=◌ m f) P
gives_then m f Q P g h s at b n e =
    let c = both_of m f s at b n e in
    h c.first (g s at c.first c.place c.is-first) s c.place b n c.is-then

gives-branch : {A : Type 0} (t : Bool) (m k : Reader A) (P : A → Type 0) → Gives m P → Gives k P → Gives (branch t m k) P
gives-branch true m k P g h s at a n e = g s at a n e
gives-branch false m k P g h s at a n e = h s at a n e

abbrev Any : {A : Type 0} → A → Type 0
Any a = Unit {0}

gives-any : {A : Type 0} (m : Reader A) → Gives m Any
gives-any m s at a n e = tt

gives-address : (short : ℕ) → Gives (address short) (λ a. is_present a ≡ true)
unfolding address
gives-address short =
    gives-branch (eqb short 1) _ _ (λ a. is_present a ≡ true)
    (gives_then be16 (λ x. give (Short x)) Any (λ a. is_present a ≡ true) (gives-any be16) (λ x _. gives-give (Short x) (λ a. is_present a ≡ true) refl))
    (gives_then be64 (λ x. give (Extended x)) Any (λ a. is_present a ≡ true) (gives-any be64) (λ x _. gives-give (Extended x) (λ a. is_present a ≡ true) refl))

abbrev pub mesh_of : ℕ → Address → Address → Mesh
mesh_of h o d = record { hops = h; origin = o; destination = d }

gives-rest : (b : ℕ) → Gives (mesh_rest b) (λ m. has_both m ≡ true)
unfolding mesh_rest
gives-rest b =
    let P : Mesh → Type 0 = λ m. has_both m ≡ true in
    let o = address (b / 32 % 2) in
    let d = address (b / 16 % 2) in
    gives_then (hops_left (b % 16)) (λ h. ◌>>=◌ o (λ y. ◌>>=◌ d (λ z. give (mesh_of h y z)))) Any P (gives-any (hops_left (b % 16)))
    (λ h _. gives_then o (λ y. ◌>>=◌ d (λ z. give (mesh_of h y z))) (λ a. is_present a ≡ true) P (gives-address (b / 32 % 2))
    (λ y i. gives_then d (λ z. give (mesh_of h y z)) (λ a. is_present a ≡ true) P (gives-address (b / 16 % 2))
    (λ z j. gives-give (mesh_of h y z) P (rw (i, j) refl))))

gives-mesh : Gives mesh (λ m. has_both m ≡ true)
unfolding mesh
gives-mesh =
    gives_then byte (λ b. branch (is_mesh b) (mesh_rest b) (refuse 2)) Any (λ m. has_both m ≡ true) (gives-any byte)
    (λ b _. gives-branch (is_mesh b) (mesh_rest b) (refuse 2) (λ m. has_both m ≡ true) (gives-rest b) (λ s at a n e. not-refused _ 2 e))

gives-field : (s : List ℕ) (at : ℕ) (f : Option Mesh) (n : ℕ) → mesh_field s at ≡ got f n → has_addresses f ≡ true
unfolding mesh_field
gives-field s at f n e =
    gives-branch (is_mesh (get_or s at 0)) _ (give None) (λ z. has_addresses z ≡ true)
    (gives_then mesh (λ m. give (Some m)) (λ m. has_both m ≡ true) (λ z. has_addresses z ≡ true) gives-mesh (λ m h. gives-give (Some m) (λ z. has_addresses z ≡ true) h))
    (gives-give None (λ z. has_addresses z ≡ true) refl) s at f n e

pub present : (s : List ℕ) (at : ℕ) (r : Relay) (n : ℕ) → relay s at ≡ got r n → has_addresses r.mesh ≡ true
present s at r n e = let c = parts s at r n e in gives-field s at r.mesh c.place c.is-mesh
