-- What the writer's definition writes, the reader's definition reads back, with the same link-layer addresses and whatever the contexts:
-- both addresses, the next header and the hop limit; and it takes exactly the bytes that were written, whatever follows.
use Rattle.ieee802154.specs.declared.addr.Address.{Address}
use Rattle.std.specs.Prelude.{Option, Some, None}
use Prim.Native.Nat.{ℕ, ◌+◌, ◌*◌, ◌/◌, ◌%◌, ◌^◌, ◌<◌, ◌≤◌}
use native.Mathlib.Omega.{arith}
use mathlib.Core.List.{List, [], ◌++◌, append_assoc}
use mathlib.Core.Bool.{Bool, true, false}
use mathlib.Core.Path.{◌≡◌, refl, sym, ap, ap₂, subst, ◌∙◌}
use lib.ListN.{length}
use lib.Dec.{eqb, ltb}
use borrow.Author.Tests.{eq-eqb, ne_eqb, eqb-true, ltb-true}
use Rattle.octets.specs.Read.{is, Reader, got, choose, branch, ◌>>=◌, give, refuse, byte, be16, be32, be64}
use Rattle.octets.specs.Write.{over, byte_bytes, be16_bytes, be32_bytes, be64_bytes}
use Rattle.octets.specs.Ipv6.{ip, link_local, is_unspecified, is_multicast, is_link_local}
use Rattle.octets.specs.declared.ipv6.Ipv6Addr.{Ipv6Addr}
use Rattle.octets.proofs.Steps.{and-true}
use Rattle.octets.proofs.RoundTrip.{Reads, reads_then, reads-last, reads_both, reads-map, reads_as, reads-if, reads-give, reads_byte, reads-be16, reads-be32, reads-be64, emit-then-read}
use Rattle.ieee802154.specs.Address.{eui64}
use Rattle.ieee802154.specs.declared.addr.Address.TheVariants.{Absent, Short, Extended}
use Rattle.sixlowpan.specs.Next.{next_header, next_bit, next_bytes}
use Rattle.iphc.specs.Iphc.{base_of, base, contexts, traffic_of, traffic, hop_limit, front_rest, front, short_iid, or_refuse, link_iid, having, identifier, full, prefix_of, elided, source, group48, group32, group8, multicast, destination, addresses, repr_of, behind, iphc}
use Rattle.iphc.specs.Emit.{inline_bytes, form, full_form, is_short, is_of, is_extended, iid_form, src_form, is_group8, is_scoped, scope_of, multicast_form, dst_form, hop_bits, hop_bytes, base_word, front_bytes, addresses_bytes, source_form, dest_form, length_of, bytes_of}
use Rattle.sixlowpan.specs.declared.protocol.NextHeader.{NextHeader}
use Rattle.iphc.specs.declared.form.Inline.TheVariants.{Nothing, Bits8, Bits16, Bits32, Bits48, Bits64}
use Rattle.iphc.specs.declared.form.Form.{Form}
use Rattle.iphc.specs.declared.read.Base.{Base}
use Rattle.iphc.specs.declared.read.Contexts.{Contexts}
use Rattle.iphc.specs.declared.read.Traffic.{Traffic}
use Rattle.iphc.specs.declared.read.Front.{Front}
use Rattle.iphc.specs.declared.read.Addresses.{Addresses}
use Rattle.iphc.specs.declared.header.Repr.{Repr}
use Rattle.sixlowpan.proofs.NextLaws.{reads-next, next-bit-lt}
use Rattle.iphc.proofs.Puts.{length-bytes}

-- ---- next header and hop limit
hop-go : (h : ℕ) (b c d : Bool) → eqb h 1 ≡ b → eqb h 64 ≡ c → eqb h 255 ≡ d
    → Reads (hop_limit (choose b 0b01 (choose c 0b10 (choose d 0b11 0b00)))) (choose (eqb (choose b 0b01 (choose c 0b10 (choose d 0b11 0b00))) 0b00) (byte_bytes h) []) h
unfolding hop_limit
hop-go h true c d e f g = reads_as (give 1) [] 1 h (sym (eqb-true h 1 e)) (reads-give 1)
hop-go h false true d e f g = reads_as (give 64) [] 64 h (sym (eqb-true h 64 f)) (reads-give 64)
hop-go h false false true e f g = reads_as (give 255) [] 255 h (sym (eqb-true h 255 g)) (reads-give 255)
hop-go h false false false e f g = reads_byte h

reads-hop : (h : ℕ) → Reads (hop_limit (hop_bits h)) (hop_bytes h) h
reads-hop h = hop-go h (eqb h 1) (eqb h 64) (eqb h 255) refl refl refl

-- ---- addresses
-- an identifier that is elided is the one that the link-layer address stands for
short-link : (ll : Option Address) (x : ℕ) → is_short ll x ≡ true → link_iid ll ≡ is (short_iid x)
short-link None x e = cc
short-link (Some Absent) x e = cc
short-link (Some (Short a)) x e = ap (λ z. is (short_iid z)) (eqb-true a x e)
short-link (Some (Extended a)) x e = cc

of_is : (o : Option ℕ) (i : ℕ) → is_of o i ≡ true → or_refuse 6 o ≡ is i
of_is None i e = cc
of_is (Some x) i e = ap is (eqb-true x i e)

pub extended-link : (ll : Option Address) (i : ℕ) → is_extended ll i ≡ true → link_iid ll ≡ is i
extended-link None i e = cc
extended-link (Some Absent) i e = cc
extended-link (Some (Short a)) i e = cc
extended-link (Some (Extended a)) i e = of_is (eui64 (Extended a)) i e

-- the three ways in which an identifier is written
pub iid-cases : (i : ℕ) (ll : Option Address) (P : Form → Type 0)
    → (link_iid ll ≡ is i → P (form 0b11 Nothing)) → (short_iid (i % 2 ^ 16) ≡ i → P (form 0b10 (Bits16 (i % 2 ^ 16)))) → P (form 0b01 (Bits64 i)) → P (iid_form i ll)
unfolding iid_form
iid-cases i ll P f3 f2 f1 = go (eqb (i / 2 ^ 16) 0xfffe00) (is_short ll (i % 2 ^ 16)) (is_extended ll i) refl refl refl
  where
    whole : eqb (i / 2 ^ 16) 0xfffe00 ≡ true → short_iid (i % 2 ^ 16) ≡ i
    whole e = omega (arith, eqb-true (i / 2 ^ 16) 0xfffe00 e)

    go : (b c d : Bool) → eqb (i / 2 ^ 16) 0xfffe00 ≡ b → is_short ll (i % 2 ^ 16) ≡ c → is_extended ll i ≡ d
        → P (choose b (choose c (form 0b11 Nothing) (form 0b10 (Bits16 (i % 2 ^ 16)))) (choose d (form 0b11 Nothing) (form 0b01 (Bits64 i))))
    go true true d e f g = f3 (short-link ll (i % 2 ^ 16) f ∙ ap is (whole e))
    go true false d e f g = f2 (whole e)
    go false c true e f g = f3 (extended-link ll i g)
    go false c false e f g = f1

reads-full : (a : Ipv6Addr) → Reads full (be64_bytes a.prefix ++ be64_bytes a.iid) a
unfolding full
reads-full a = reads_both be64 be64 ip (be64_bytes a.prefix) (be64_bytes a.iid) a.prefix a.iid (reads-be64 a.prefix) (reads-be64 a.iid)

pub link-back : (ll : Option Address) (i : ℕ) → link_iid ll ≡ is i → Reads (identifier 0b11 ll) [] i
unfolding identifier
link-back ll i h p q n e = rw h (reads-give i p q n e)

short_back : (ll : Option Address) (i : ℕ) → short_iid (i % 2 ^ 16) ≡ i → Reads (identifier 0b10 ll) (be16_bytes (i % 2 ^ 16)) i
unfolding identifier
short_back ll i h = reads_as (identifier 0b10 ll) (be16_bytes (i % 2 ^ 16)) (short_iid (i % 2 ^ 16)) i h (reads-map be16 short_iid (be16_bytes (i % 2 ^ 16)) (i % 2 ^ 16) (reads-be16 (i % 2 ^ 16)))

long-back : (ll : Option Address) (i : ℕ) → Reads (identifier 0b01 ll) (be64_bytes i) i
unfolding identifier
long-back ll i = reads-be64 i

-- the groups
reads-group8 : (x : ℕ) → Reads group8 (byte_bytes x) (ip (0xff02 * 2 ^ 48) x)
unfolding group8
reads-group8 x = reads-map byte (ip (0xff02 * 2 ^ 48)) (byte_bytes x) x (reads_byte x)

reads-group32 : (x : ℕ) → Reads group32 (be32_bytes x) (ip ((0xff00 + x / 2 ^ 24) * 2 ^ 48) (x % 2 ^ 24))
unfolding group32
reads-group32 x = reads-map be32 (λ z. ip ((0xff00 + z / 2 ^ 24) * 2 ^ 48) (z % 2 ^ 24)) (be32_bytes x) x (reads-be32 x)

reads-group48 : (x y : ℕ) → Reads group48 (be16_bytes x ++ be32_bytes y) (ip ((0xff00 + x / 256) * 2 ^ 48) (x % 256 * 2 ^ 32 + y))
unfolding group48
reads-group48 x y = reads_both be16 be32 (λ u v. ip ((0xff00 + u / 256) * 2 ^ 48) (u % 256 * 2 ^ 32 + v)) (be16_bytes x) (be32_bytes y) x y (reads-be16 x) (reads-be32 y)

-- the address that a prefix and an identifier make
same-ip : (a : Ipv6Addr) (p i : ℕ) → p ≡ a.prefix → i ≡ a.iid → ip p i ≡ a
same-ip a p i e f = ap₂ ip e f

-- an address of fe80::/64 whose identifier is read so
pub reads-elided : (ctx : List ℕ) (mode id : ℕ) (ll : Option Address) (bs : List ℕ) (a : Ipv6Addr) → a.prefix ≡ link_local → Reads (identifier mode ll) bs a.iid → Reads (elided ctx 0 mode id ll) bs a
unfolding elided prefix_of
reads-elided ctx mode id ll bs a e r =
    reads-last (identifier mode ll) (λ z. having (prefix_of ctx 0 id) (λ p. give (ip p z))) bs a.iid a r
    (reads_as (give (ip link_local a.iid)) [] (ip link_local a.iid) a (same-ip a link_local a.iid (sym e) refl) (reads-give (ip link_local a.iid)))

-- an address whose form is f is read back from its mode and its inline bytes
abbrev pub LocalBack : List ℕ → ℕ → Option Address → Ipv6Addr → Form → Type 0
LocalBack ctx id ll a f = Reads (elided ctx 0 f.mode id ll) (inline_bytes f.inline) a × ((0 < f.mode) × (f.mode < 4))

abbrev pub SourceBack : List ℕ → ℕ → Option Address → Ipv6Addr → Form → Type 0
SourceBack ctx id ll a f = Reads (source ctx (f.mode / 4) (f.mode % 4) id ll) (inline_bytes f.inline) a × (f.mode < 8)

abbrev pub DestBack : List ℕ → ℕ → Option Address → Ipv6Addr → Form → Type 0
DestBack ctx id ll a f = Reads (destination ctx (f.mode / 8) (f.mode / 4 % 2) (f.mode % 4) id ll) (inline_bytes f.inline) a × (f.mode < 16)

scoped-is : (a : Ipv6Addr) (b : ℕ) → is_scoped a b ≡ true → (a.prefix % 2 ^ 48 ≡ 0) × (a.iid < b)
scoped-is a b e = let w = and-true (eqb (a.prefix % 2 ^ 48) 0) (ltb a.iid b) e in (eqb-true (a.prefix % 2 ^ 48) 0 w.0, ltb-true a.iid b w.1)

-- a group is the address that its short form stands for
module _ (a : Ipv6Addr) where
  group8-is : is_group8 a ≡ true → ip (0xff02 * 2 ^ 48) (a.iid % 2 ^ 8) ≡ a
  group8-is e =
      let w = and-true (eqb a.prefix (0xff02 * 2 ^ 48)) (ltb a.iid (2 ^ 8)) e in
      let i : a.iid < 2 ^ 8 = ltb-true a.iid (2 ^ 8) w.1 in
      same-ip a (0xff02 * 2 ^ 48) (a.iid % 2 ^ 8) (sym (eqb-true a.prefix (0xff02 * 2 ^ 48) w.0)) (omega arith)

  group32-is : a.prefix / 2 ^ 56 ≡ 0xff → is_scoped a (2 ^ 24) ≡ true
      → ip ((0xff00 + (scope_of a * 2 ^ 24 + a.iid % 2 ^ 24) / 2 ^ 24) * 2 ^ 48) ((scope_of a * 2 ^ 24 + a.iid % 2 ^ 24) % 2 ^ 24) ≡ a
  group32-is m e = let w = scoped-is a (2 ^ 24) e in same-ip a _ _ (omega arith) (omega arith)

  group48-is : a.prefix / 2 ^ 56 ≡ 0xff → is_scoped a (2 ^ 40) ≡ true
      → ip ((0xff00 + (scope_of a * 2 ^ 8 + a.iid / 2 ^ 32 % 2 ^ 8) / 256) * 2 ^ 48) ((scope_of a * 2 ^ 8 + a.iid / 2 ^ 32 % 2 ^ 8) % 256 * 2 ^ 32 + a.iid % 2 ^ 32) ≡ a
  group48-is m e = let w = scoped-is a (2 ^ 40) e in same-ip a _ _ (omega arith) (omega arith)

module _ (ctx : List ℕ) (id : ℕ) (ll : Option Address) (a : Ipv6Addr) where
  local_back : a.prefix ≡ link_local → LocalBack ctx id ll a (iid_form a.iid ll)
  local_back e =
      let i : ℕ = a.iid in
      let b2 : List ℕ = be16_bytes (i % 2 ^ 16) in
      iid-cases i ll (LocalBack ctx id ll a)
      (λ w. (reads-elided ctx 0b11 id ll [] a e (link-back ll i w), omega arith))
      (λ w. (reads-elided ctx 0b10 id ll b2 a e (short_back ll i w), omega arith))
      (reads-elided ctx 0b01 id ll (be64_bytes i) a e (long-back ll i), omega arith)

  pub local-source : (f : Form) → LocalBack ctx id ll a f → SourceBack ctx id ll a f
  unfolding source
  local-source f w =
      let x : f.mode / 4 ≡ 0 = omega arith in
      let y : f.mode % 4 ≡ f.mode = omega arith in
      (λ p q n e. rw (x, y, ne_eqb f.mode 0 (λ z. omega arith)) (w.0 p q n e), omega arith)

  pub local-dest : (f : Form) → LocalBack ctx id ll a f → DestBack ctx id ll a f
  unfolding destination
  local-dest f w =
      let x : f.mode / 8 ≡ 0 = omega arith in
      let y : f.mode % 4 ≡ f.mode = omega arith in
      let z : f.mode / 4 % 2 ≡ 0 = omega arith in
      (λ p q n e. rw (x, z, y, ne_eqb f.mode 0 (λ z. omega arith)) (w.0 p q n e), omega arith)

  pub source-back : SourceBack ctx id ll a (src_form a ll)
  unfolding src_form source
  source-back = go (is_unspecified a) (is_link_local a) refl refl
    where
      go : (b c : Bool) → is_unspecified a ≡ b → is_link_local a ≡ c → SourceBack ctx id ll a (choose b (form 0b100 Nothing) (choose c (iid_form a.iid ll) (full_form 0b000 a)))
      go true c e f =
          let w = and-true (eqb a.prefix 0) (eqb a.iid 0) e in
          let h = same-ip a 0 0 (sym (eqb-true a.prefix 0 w.0)) (sym (eqb-true a.iid 0 w.1)) in
          (reads_as (give (ip 0 0)) [] (ip 0 0) a h (reads-give (ip 0 0)), omega arith)
      go false true e f = local-source (iid_form a.iid ll) (local_back (eqb-true a.prefix link_local f))
      go false false e f = (reads-full a, omega arith)

  multicast-back : a.prefix / 2 ^ 56 ≡ 0xff → DestBack ctx id ll a (multicast_form a)
  unfolding multicast_form destination multicast
  multicast-back m = go (is_group8 a) (is_scoped a (2 ^ 24)) (is_scoped a (2 ^ 40)) refl refl refl
    where
      low24 : ℕ
      low24 = scope_of a * 2 ^ 24 + a.iid % 2 ^ 24

      high48 : ℕ
      high48 = scope_of a * 2 ^ 8 + a.iid / 2 ^ 32 % 2 ^ 8

      go : (b c d : Bool) → is_group8 a ≡ b → is_scoped a (2 ^ 24) ≡ c → is_scoped a (2 ^ 40) ≡ d
          → DestBack ctx id ll a (choose b (form 0b1011 (Bits8 (a.iid % 2 ^ 8))) (choose c (form 0b1010 (Bits32 low24)) (choose d (form 0b1001 (Bits48 high48 (a.iid % 2 ^ 32))) (full_form 0b1000 a))))
      go true c d e f g = (reads_as group8 (byte_bytes (a.iid % 2 ^ 8)) (ip (0xff02 * 2 ^ 48) (a.iid % 2 ^ 8)) a (group8-is a e) (reads-group8 (a.iid % 2 ^ 8)), omega arith)
      go false true d e f g = (reads_as group32 (be32_bytes low24) (ip ((0xff00 + low24 / 2 ^ 24) * 2 ^ 48) (low24 % 2 ^ 24)) a (group32-is a m f) (reads-group32 low24), omega arith)
      go false false true e f g = (reads_as group48 (be16_bytes high48 ++ be32_bytes (a.iid % 2 ^ 32)) (ip ((0xff00 + high48 / 256) * 2 ^ 48) (high48 % 256 * 2 ^ 32 + a.iid % 2 ^ 32)) a (group48-is a m g) (reads-group48 high48 (a.iid % 2 ^ 32)), omega arith)
      go false false false e f g = (reads-full a, omega arith)

  pub dest-back : DestBack ctx id ll a (dst_form a ll)
  unfolding dst_form destination
  dest-back = go (is_multicast a) (is_link_local a) refl refl
    where
      go : (b c : Bool) → is_multicast a ≡ b → is_link_local a ≡ c → DestBack ctx id ll a (choose b (multicast_form a) (choose c (iid_form a.iid ll) (full_form 0b0000 a)))
      go true c e f = multicast-back (eqb-true (a.prefix / 2 ^ 56) 0xff e)
      go false true e f = local-dest (iid_form a.iid ll) (local_back (eqb-true a.prefix link_local f))
      go false false e f = (reads-full a, omega arith)

-- ---- the header
-- the fields of the first two bytes
abbrev word : ℕ → ℕ → ℕ → ℕ → ℕ
word nb hb sm dm = 0b011_11 * 2 ^ 11 + nb * 2 ^ 10 + hb * 2 ^ 8 + sm * 2 ^ 4 + dm

record Fields (v nb hb sm dm : ℕ) : Type 0 where
  lead : v / 2 ^ 13 ≡ 0b011
  tf : v / 2 ^ 11 % 4 ≡ 0b11
  nh : v / 2 ^ 10 % 2 ≡ nb
  hlim : v / 2 ^ 8 % 4 ≡ hb
  cid : v / 2 ^ 7 % 2 ≡ 0
  sac : v / 2 ^ 6 % 2 ≡ sm / 4
  sam : v / 2 ^ 4 % 4 ≡ sm % 4
  m : v / 2 ^ 3 % 2 ≡ dm / 8
  dac : v / 2 ^ 2 % 2 ≡ dm / 4 % 2
  dam : v % 4 ≡ dm % 4

fields_back : (nb hb sm dm : ℕ) → nb < 2 → hb < 4 → sm < 8 → dm < 16 → Fields (word nb hb sm dm) nb hb sm dm
fields_back nb hb sm dm h1 h2 h3 h4 =
    record { lead = omega arith; tf = omega arith; nh = omega arith; hlim = omega arith; cid = omega arith; sac = omega arith; sam = omega arith; m = omega arith; dac = omega arith; dam = omega arith }

pub hop-bits-lt : (h : ℕ) → hop_bits h < 4
hop-bits-lt h = go (eqb h 1) (eqb h 64) (eqb h 255)
  where
    go : (b c d : Bool) → choose b 0b01 (choose c 0b10 (choose d 0b11 0b00)) < 4
    go true c d = omega arith
    go false true d = omega arith
    go false false true = omega arith
    go false false false = omega arith

reads-base : (v : ℕ) → v / 2 ^ 13 ≡ 0b011 → Reads base (be16_bytes v) v
unfolding base
reads-base v h = reads-last be16 (λ z. branch (eqb (z / 2 ^ 13) 0b011) (give z) (refuse 2)) (be16_bytes v) v v (reads-be16 v) (reads-if (eqb (v / 2 ^ 13) 0b011) (give v) (refuse 2) [] v (eq-eqb _ _ h) (reads-give v))

-- no context, and nothing of traffic class and flow label
abbrev no_contexts : Contexts
no_contexts = record { src = 0; dst = 0 }

abbrev no_traffic : Traffic
no_traffic = traffic_of None None None

reads-no-contexts : (c : ℕ) → c ≡ 0 → Reads (contexts c) [] no_contexts
unfolding contexts
reads-no-contexts c h p q n e = rw h (reads-give no_contexts p q n e)

reads-no-traffic : (t : ℕ) → t ≡ 0b11 → Reads (traffic t) [] no_traffic
unfolding traffic
reads-no-traffic t h p q n e = rw h (reads-give no_traffic p q n e)

abbrev front_of : NextHeader → ℕ → Front
front_of n h = record { contexts = no_contexts; traffic = no_traffic; next_header = n; hop_limit = h }

reads-front : (b : Base) (n : NextHeader) (h : ℕ) → b.cid ≡ 0 → b.tf ≡ 0b11 → b.nh ≡ next_bit n → b.hlim ≡ hop_bits h → Reads (front b) (next_bytes n ++ hop_bytes h) (front_of n h)
unfolding front front_rest
reads-front b n h ec et en eh =
    let bs : List ℕ = next_bytes n ++ hop_bytes h in
    reads_then (contexts b.cid) (λ i. ◌>>=◌ (traffic b.tf) (λ t. front_rest b i t)) [] bs no_contexts (front_of n h) (reads-no-contexts b.cid ec)
    (reads_then (traffic b.tf) (λ t. front_rest b no_contexts t) [] bs no_traffic (front_of n h) (reads-no-traffic b.tf et)
    (reads_both (next_header b.nh) (hop_limit b.hlim) front_of (next_bytes n) (hop_bytes h) n h (subst (λ z. Reads (next_header z) (next_bytes n) n) (sym en) (reads-next n)) (subst (λ z. Reads (hop_limit z) (hop_bytes h) h) (sym eh) (reads-hop h))))

reads-addresses : (ctx : List ℕ) (b : Base) (ls ld : Option Address) (s d : Ipv6Addr) (f g : Form)
    → b.sac ≡ f.mode / 4 → b.sam ≡ f.mode % 4 → b.m ≡ g.mode / 8 → b.dac ≡ g.mode / 4 % 2 → b.dam ≡ g.mode % 4
    → SourceBack ctx 0 ls s f → DestBack ctx 0 ld d g → Reads (addresses ctx b no_contexts ls ld) (addresses_bytes f g) (record { src = s; dst = d })
unfolding addresses addresses_bytes
reads-addresses ctx b ls ld s d f g e1 e2 e3 e4 e5 sb db =
    let ms : Reader Ipv6Addr = source ctx b.sac b.sam 0 ls in
    let md : Reader Ipv6Addr = destination ctx b.m b.dac b.dam 0 ld in
    let rs : Reads ms (inline_bytes f.inline) s = rw (e1, e2) sb.0 in
    let rd : Reads md (inline_bytes g.inline) d = rw (e3, e4, e5) db.0 in
    reads_both ms md (λ x y. record { src = x; dst = y }) (inline_bytes f.inline) (inline_bytes g.inline) s d rs rd

-- the header that is read back: what is not carried is none
abbrev pub restored : Repr → Repr
restored r =
    record {
      src_addr = r.src_addr;
      ll_src_addr = r.ll_src_addr;
      dst_addr = r.dst_addr;
      ll_dst_addr = r.ll_dst_addr;
      next_header = r.next_header;
      hop_limit = r.hop_limit;
      ecn = None;
      dscp = None;
      flow_label = None;
    }

-- wherever the bytes of a header stand, whatever follows them and whatever the contexts: with any forms of its addresses that read back
pub forms-trip : (r : Repr) (ctx : List ℕ) (s d : Form) → SourceBack ctx 0 r.ll_src_addr r.src_addr s → DestBack ctx 0 r.ll_dst_addr r.dst_addr d
    → Reads (iphc ctx r.ll_src_addr r.ll_dst_addr) (front_bytes r.next_header r.hop_limit s d ++ addresses_bytes s d) (restored r)
unfolding iphc behind front_bytes base_word repr_of
forms-trip r ctx s d sb db =
    let ls = r.ll_src_addr in
    let ld = r.ll_dst_addr in
    let n = r.next_header in
    let h = r.hop_limit in
    let v : ℕ = word (next_bit n) (hop_bits h) s.mode d.mode in
    let f = fields_back (next_bit n) (hop_bits h) s.mode d.mode (next-bit-lt n) (hop-bits-lt h) sb.1 db.1 in
    let b : Base = base_of v in
    let fb : List ℕ = next_bytes n ++ hop_bytes h in
    let ab : List ℕ = addresses_bytes s d in
    let pair : Addresses = record { src = r.src_addr; dst = r.dst_addr } in
    let ra = reads-addresses ctx b ls ld r.src_addr r.dst_addr s d f.sac f.sam f.m f.dac f.dam sb db in
    let rb : Reads (behind ctx ls ld b) (fb ++ ab) (restored r) =
    reads_then (front b) (λ z. ◌>>=◌ (addresses ctx b z.contexts ls ld) (λ a. give (repr_of ls ld z a))) fb ab (front_of n h) (restored r) (reads-front b n h f.cid f.tf f.nh f.hlim)
    (reads-map (addresses ctx b no_contexts ls ld) (repr_of ls ld (front_of n h)) ab pair ra) in
    subst (λ z. Reads (iphc ctx ls ld) z (restored r)) (sym (append_assoc (be16_bytes v) fb ab))
    (reads_then base (λ z. behind ctx ls ld (base_of z)) (be16_bytes v) (fb ++ ab) v (restored r) (reads-base v f.lead) rb)

-- with the forms that are written
pub round_trip : (r : Repr) (ctx : List ℕ) → Reads (iphc ctx r.ll_src_addr r.ll_dst_addr) (bytes_of r) (restored r)
unfolding bytes_of
round_trip r ctx = forms-trip r ctx (source_form r) (dest_form r) (source-back ctx 0 r.ll_src_addr r.src_addr) (dest-back ctx 0 r.ll_dst_addr r.dst_addr)

-- at the front of the room that `emit` leaves
pub emit-then-parse : (r : Repr) (ctx room : List ℕ) → length_of r ≤ length room → iphc ctx r.ll_src_addr r.ll_dst_addr (over (length_of r) (bytes_of r) room) 0 ≡ got (restored r) (length_of r)
emit-then-parse r ctx room h = emit-then-read (iphc ctx r.ll_src_addr r.ll_dst_addr) (bytes_of r) (restored r) (length_of r) room (round_trip r ctx) (length-bytes r) h
