-- The header that is written is the shortest that reads as the same addresses, next header and hop limit, with no contexts, but for the
-- exception of specs/Shortest.antt. The first two bytes announce the width of each field (Lengths.antt); here, field by field: what is read
-- from a field of j bytes is written in at most j.
use Rattle.ieee802154.specs.declared.addr.Address.{Address}
use Rattle.std.specs.Prelude.{Option, Some, None}
use Prim.Native.Nat.{ℕ, ◌+◌, ◌-◌, ◌*◌, ◌/◌, ◌%◌, ◌^◌, ◌<◌, ◌≤◌}
use native.Mathlib.Omega.{arith}
use mathlib.Core.List.{List, [], ◌++◌, append-nil}
use mathlib.Core.Bool.{Bool, true, false, ◌&&◌}
use mathlib.Core.Path.{◌≡◌, refl, sym, subst, ◌∙◌}
use lib.Dec.{eqb}
use lib.ListN.{length, length-append}
use borrow.Author.Tests.{eq-eqb, lt-ltb, le-ltb, eqb-true}
use Rattle.octets.specs.Read.{is, refused, Reader, got, choose, branch, give, refuse, byte, be16, be32, be64, ◌>>=◌}
use Rattle.octets.specs.Ipv6.{ip, link_local, is_multicast, is_link_local}
use Rattle.octets.specs.declared.ipv6.Ipv6Addr.{Ipv6Addr}
use Rattle.octets.proofs.Steps.{and-true}
use Rattle.octets.proofs.RoundTrip.{Reads}
use Rattle.octets.proofs.Spans.{Starts, not-refused, starts-then, starts-be16}
use Rattle.ieee802154.specs.Address.{flip57}
use Rattle.ieee802154.specs.declared.addr.Address.TheVariants.{Absent, Short, Extended}
use Rattle.sixlowpan.specs.Next.{next_header, next_bit, next_width}
use Rattle.sixlowpan.specs.declared.protocol.NextHeader.TheVariants.{Compressed, Uncompressed}
use Rattle.iphc.specs.Context.{context_at}
use Rattle.iphc.specs.Iphc.{base_of, base, contexts, traffic, hop_limit, front_rest, front, short_iid, link_iid, having, identifier, full, prefix_of, elided, source, group48, group32, group8, multicast, destination, addresses, repr_of, behind, iphc}
use Rattle.iphc.specs.Emit.{inline_length, form, is_short, is_extended, iid_form, src_form, is_group8, is_scoped, scope_of, multicast_form, dst_form, hop_length, front_bytes, addresses_bytes, source_form, dest_form, length_of}
use Rattle.iphc.specs.Widths.{contexts_width, traffic_width, hop_width, identifier_width, source_width, multicast_width, destination_width, base_width}
use Rattle.iphc.specs.Shortest.{is_spare, spare, spares, least, Bytes, LinkFits, Fits, NoneShorter, OneLeast}
use Rattle.iphc.specs.declared.form.Inline.TheVariants.{Nothing, Bits8, Bits16, Bits32, Bits48}
use Rattle.iphc.specs.declared.form.Form.{Form}
use Rattle.iphc.specs.declared.read.Base.{Base}
use Rattle.iphc.specs.declared.read.Contexts.{Contexts}
use Rattle.iphc.specs.declared.read.Front.{Front}
use Rattle.iphc.specs.declared.header.Repr.{Repr}
use Rattle.iphc.proofs.Gives.{Gives, gives_all, gives-give, gives-refuse, gives_then, gives-map, gives_both, gives-either, gives-having, gives-byte, gives-be16, gives-be32}
use Rattle.iphc.proofs.Bytes.{FormBytes, bytes-nil, bytes-source, bytes-dest, bytes-header}
use Rattle.iphc.proofs.Puts.{length_front, length-addresses}
use Rattle.iphc.proofs.RoundTrip.{iid-cases, extended-link, link-back, reads-elided, LocalBack, SourceBack, DestBack, local-source, local-dest, source-back, dest-back, restored, forms-trip}
use Rattle.iphc.proofs.Lengths.{iphc-length, short-source, short-dest, short-hop}

-- ---- whatever m gives needs, by K, at most j bytes
abbrev Needs : {A : Type 0} → Reader A → (A → ℕ) → ℕ → Type 0
Needs m K j = Gives m (λ a. K a ≤ j)

needs-branch : {A : Type 0} {K : A → ℕ} (t : Bool) (m f : Reader A) (j k : ℕ) → Needs m K j → Needs f K k → Needs (branch t m f) K (choose t j k)
needs-branch true m f j k v w = v
needs-branch false m f j k v w = w

-- ---- before the addresses
needs-next : (nh : ℕ) → Needs (next_header nh) (λ x. next_width (next_bit x)) (next_width nh)
unfolding next_header
needs-next nh =
    needs-branch (eqb nh 0) _ (give Compressed) 1 0 (gives-map byte (λ p. Uncompressed (record { 0 = p })) gives-byte (λ p h. omega arith)) (gives-give Compressed (omega arith))

needs-hop : (hlim : ℕ) → Needs (hop_limit hlim) hop_length (hop_width hlim)
unfolding hop_limit
needs-hop hlim =
    needs-branch (eqb hlim 0b00) byte _ 1 0 (gives_all byte short-hop)
    (gives-either (eqb hlim 0b01) (give 1) _ (gives-give 1 (omega arith)) (gives-either (eqb hlim 0b10) (give 64) (give 255) (gives-give 64 (omega arith)) (gives-give 255 (omega arith))))

abbrev front_needs : Front → ℕ
front_needs f = next_width (next_bit f.next_header) + hop_length f.hop_limit

-- whatever the context identifiers, the traffic class and the flow label are: they are free, and cost what they cost
needs-front : (b : Base) → Needs (front b) front_needs (contexts_width b.cid + (traffic_width b.tf + (next_width b.nh + hop_width b.hlim)))
unfolding front front_rest
needs-front b =
    gives_then {P = λ i. Unit {0}} (contexts b.cid) (λ i. ◌>>=◌ (traffic b.tf) (λ t. front_rest b i t)) (gives_all (contexts b.cid) (λ i. tt))
    (λ i u. gives_then {P = λ t. Unit {0}} (traffic b.tf) (λ t. front_rest b i t) (gives_all (traffic b.tf) (λ t. tt))
    (λ t v. gives_both (next_header b.nh) (hop_limit b.hlim) (λ n h. record { contexts = i; traffic = t; next_header = n; hop_limit = h }) (needs-next b.nh) (needs-hop b.hlim) (λ n h p q. omega arith)))

-- ---- identifiers
abbrev source_needs : Option Address → Ipv6Addr → ℕ
source_needs ll a = inline_length (src_form a ll).inline - spare a ll

abbrev dest_needs : Option Address → Ipv6Addr → ℕ
dest_needs ll a = inline_length (dst_form a ll).inline - spare a ll

-- of an address of fe80::/64
abbrev iid_needs : Option Address → ℕ → ℕ
iid_needs ll i = inline_length (iid_form i ll).inline - spare (ip link_local i) ll

-- at most 64 bits are carried
iid-8 : (ll : Option Address) (i : ℕ) → iid_needs ll i ≤ 8
iid-8 ll i = iid-cases i ll (λ f. inline_length f.inline - spare (ip link_local i) ll ≤ 8) (λ e. omega arith) (λ e. omega arith) (omega arith)

-- of 0000:00ff:fe00:XXXX at most 16
iid-2 : (ll : Option Address) (x : ℕ) → x < 2 ^ 16 → iid_needs ll (short_iid x) ≤ 2
unfolding iid_form
iid-2 ll x h = rw (eq-eqb (short_iid x / 2 ^ 16) 0xfffe00 (omega arith)) (go (is_short ll (short_iid x % 2 ^ 16)) _)
  where
    go : (c : Bool) (k : ℕ) → inline_length (choose c (form 0b11 Nothing) (form 0b10 (Bits16 (short_iid x % 2 ^ 16)))).inline - k ≤ 2
    go true k = omega arith
    go false k = omega arith

-- of the one that the link-layer address stands for none
iid-0 : (ll : Option Address) (i : ℕ) → LinkFits ll → link_iid ll ≡ is i → iid_needs ll i ≤ 0
unfolding iid_form
iid-0 None i h e = not-refused _ 6 e
iid-0 (Some Absent) i h e = not-refused _ 6 e
iid-0 (Some (Short x)) i h e =
    let z : short_iid x ≡ i = cc in
    rw (eq-eqb (i / 2 ^ 16) 0xfffe00 (omega arith), eq-eqb x (i % 2 ^ 16) (omega arith)) (omega arith)
iid-0 (Some (Extended x)) i h e = go (eqb (i / 2 ^ 16) 0xfffe00) refl
  where
    same : eqb (flip57 x) i ≡ true
    same = let z : flip57 x ≡ i = cc in eq-eqb (flip57 x) i z

    go : (b : Bool) → eqb (i / 2 ^ 16) 0xfffe00 ≡ b → iid_needs (Some (Extended x)) i ≤ 0
    go true t = rw (t, same) (omega arith)
    go false t = rw (t, same) (omega arith)

needs-identifier : (mode : ℕ) (ll : Option Address) → LinkFits ll → Needs (identifier mode ll) (iid_needs ll) (identifier_width mode)
unfolding identifier
needs-identifier mode ll h =
    needs-branch (eqb mode 0b01) be64 _ 8 _ (gives_all be64 (iid-8 ll))
    (needs-branch (eqb mode 0b10) _ (having (link_iid ll) give) 2 0 (gives-map be16 short_iid gives-be16 (iid-2 ll)) (gives-having (link_iid ll) give (λ i e. gives-give i (iid-0 ll i h e))))

-- ---- addresses
-- with no contexts, a prefix that is elided is fe80::/64
no-context : (id : ℕ) → context_at [] id ≡ refused 5
unfolding context_at be64 be32 be16 byte
no-context id = rw (le-ltb (id * 8) 0 (omega arith))

prefix-is : (t : Bool) (id p : ℕ) → choose t (is link_local) (context_at [] id) ≡ is p → link_local ≡ p
prefix-is true id p e = cc
prefix-is false id p e = not-refused p 5 (sym (no-context id) ∙ e)

needs-elided : (ac mode id : ℕ) (ll : Option Address) (K : Ipv6Addr → ℕ) → LinkFits ll → ((i : ℕ) → K (ip link_local i) ≤ iid_needs ll i) → Needs (elided [] ac mode id ll) K (identifier_width mode)
unfolding elided prefix_of
needs-elided ac mode id ll K h f =
    gives_then (identifier mode ll) (λ i. having (prefix_of [] ac id) (λ p. give (ip p i))) (needs-identifier mode ll h)
    (λ i q. gives-having (prefix_of [] ac id) (λ p. give (ip p i))
    (λ p e. gives-give (ip p i) (subst (λ z. K (ip z i) ≤ identifier_width mode) (prefix-is (eqb ac 0) id p e) (omega (arith, f i)))))

source-16 : (ll : Option Address) (a : Ipv6Addr) → source_needs ll a ≤ 16
source-16 ll a = omega (arith, (short-source a ll).short)

dest-16 : (ll : Option Address) (a : Ipv6Addr) → dest_needs ll a ≤ 16
dest-16 ll a = omega (arith, (short-dest a ll).short)

source-local : (ll : Option Address) (i : ℕ) → source_needs ll (ip link_local i) ≤ iid_needs ll i
unfolding src_form
source-local ll i = omega arith

dest-local : (ll : Option Address) (i : ℕ) → dest_needs ll (ip link_local i) ≤ iid_needs ll i
unfolding dst_form
dest-local ll i = omega arith

source-none : (ll : Option Address) → source_needs ll (ip 0 0) ≤ 0
unfolding src_form
source-none ll = omega arith

needs-source : (sac sam id : ℕ) (ll : Option Address) → LinkFits ll → Needs (source [] sac sam id ll) (source_needs ll) (source_width sac sam)
unfolding source
needs-source sac sam id ll h =
    needs-branch (eqb sam 0b00) _ (elided [] sac sam id ll) _ _
    (needs-branch (eqb sac 0) full (give (ip 0 0)) 16 0 (gives_all full (source-16 ll)) (gives-give (ip 0 0) (source-none ll)))
    (needs-elided sac sam id ll (source_needs ll) h (source-local ll))

-- a group
group-needs : (ll : Option Address) (a : Ipv6Addr) → is_multicast a ≡ true → dest_needs ll a ≤ inline_length (multicast_form a).inline
unfolding dst_form
group-needs ll a h = rw h (omega arith)

group-6 : (a : Ipv6Addr) → is_scoped a (2 ^ 40) ≡ true → inline_length (multicast_form a).inline ≤ 6
unfolding multicast_form
group-6 a h = rw h (go (is_group8 a) (is_scoped a (2 ^ 24)))
  where
    go : (b c : Bool) → inline_length (choose b (form 0b1011 (Bits8 (a.iid % 2 ^ 8))) (choose c (form 0b1010 (Bits32 (scope_of a * 2 ^ 24 + a.iid % 2 ^ 24))) (form 0b1001 (Bits48 (scope_of a * 2 ^ 8 + a.iid / 2 ^ 32 % 2 ^ 8) (a.iid % 2 ^ 32))))).inline ≤ 6
    go true c = omega arith
    go false true = omega arith
    go false false = omega arith

group-4 : (a : Ipv6Addr) → is_scoped a (2 ^ 24) ≡ true → inline_length (multicast_form a).inline ≤ 4
unfolding multicast_form
group-4 a h = rw h (go (is_group8 a))
  where
    go : (b : Bool) → inline_length (choose b (form 0b1011 (Bits8 (a.iid % 2 ^ 8))) (form 0b1010 (Bits32 (scope_of a * 2 ^ 24 + a.iid % 2 ^ 24)))).inline ≤ 4
    go true = omega arith
    go false = omega arith

group-1 : (a : Ipv6Addr) → is_group8 a ≡ true → inline_length (multicast_form a).inline ≤ 1
unfolding multicast_form
group-1 a h = rw h (omega arith)

scoped : (a : Ipv6Addr) (b : ℕ) → a.prefix % 2 ^ 48 ≡ 0 → a.iid < b → is_scoped a b ≡ true
scoped a b e h = rw (eq-eqb (a.prefix % 2 ^ 48) 0 e, lt-ltb a.iid b h)

needs-group48 : (ll : Option Address) → Needs group48 (dest_needs ll) 6
unfolding group48
needs-group48 ll =
    gives_both be16 be32 (λ x y. ip ((0xff00 + x / 256) * 2 ^ 48) (x % 256 * 2 ^ 32 + y)) gives-be16 gives-be32
    (λ x y p q.
    let a : Ipv6Addr = ip ((0xff00 + x / 256) * 2 ^ 48) (x % 256 * 2 ^ 32 + y) in
    let m : is_multicast a ≡ true = eq-eqb (a.prefix / 2 ^ 56) 0xff (omega arith) in
    omega (arith, group-needs ll a m, group-6 a (scoped a (2 ^ 40) (omega arith) (omega arith))))

needs-group32 : (ll : Option Address) → Needs group32 (dest_needs ll) 4
unfolding group32
needs-group32 ll =
    gives-map be32 (λ x. ip ((0xff00 + x / 2 ^ 24) * 2 ^ 48) (x % 2 ^ 24)) gives-be32
    (λ x p.
    let a : Ipv6Addr = ip ((0xff00 + x / 2 ^ 24) * 2 ^ 48) (x % 2 ^ 24) in
    let m : is_multicast a ≡ true = eq-eqb (a.prefix / 2 ^ 56) 0xff (omega arith) in
    omega (arith, group-needs ll a m, group-4 a (scoped a (2 ^ 24) (omega arith) (omega arith))))

needs-group8 : (ll : Option Address) → Needs group8 (dest_needs ll) 1
unfolding group8
needs-group8 ll =
    gives-map byte (ip (0xff02 * 2 ^ 48)) gives-byte
    (λ x p.
    let a : Ipv6Addr = ip (0xff02 * 2 ^ 48) x in
    omega (arith, group-needs ll a refl, group-1 a (lt-ltb x 256 p)))

needs-multicast : (dam : ℕ) (ll : Option Address) → Needs (multicast dam) (dest_needs ll) (multicast_width dam)
unfolding multicast
needs-multicast dam ll =
    needs-branch (eqb dam 0b00) full _ 16 _ (gives_all full (dest-16 ll))
    (needs-branch (eqb dam 0b01) group48 _ 6 _ (needs-group48 ll) (needs-branch (eqb dam 0b10) group32 group8 4 1 (needs-group32 ll) (needs-group8 ll)))

needs-destination : (m dac dam id : ℕ) (ll : Option Address) → LinkFits ll → Needs (destination [] m dac dam id ll) (dest_needs ll) (destination_width m dam)
unfolding destination
needs-destination m dac dam id ll h =
    needs-branch (eqb m 0) _ _ _ _
    (needs-branch (eqb dam 0b00) _ (elided [] dac dam id ll) 16 _ (gives-either (eqb dac 0) full (refuse 3) (gives_all full (dest-16 ll)) (gives-refuse 3)) (needs-elided dac dam id ll (dest_needs ll) h (dest-local ll)))
    (gives-either (eqb dac 0) (multicast dam) (refuse 3) (needs-multicast dam ll) (gives-refuse 3))

-- ---- the header
abbrev header_needs : Option Address → Option Address → Repr → ℕ
header_needs ls ld r = next_width (next_bit r.next_header) + hop_length r.hop_limit + (source_needs ls r.src_addr + dest_needs ld r.dst_addr)

module _ (ls ld : Option Address) (hs : LinkFits ls) (hd : LinkFits ld) where
  needs-addresses : (b : Base) (i : Contexts) → Needs (addresses [] b i ls ld) (λ a. source_needs ls a.src + dest_needs ld a.dst) (source_width b.sac b.sam + destination_width b.m b.dam)
  unfolding addresses
  needs-addresses b i =
      gives_both (source [] b.sac b.sam i.src ls) (destination [] b.m b.dac b.dam i.dst ld) (λ s d. record { src = s; dst = d })
      (needs-source b.sac b.sam i.src ls hs) (needs-destination b.m b.dac b.dam i.dst ld hd) (λ s d p q. omega arith)

  needs-behind : (b : Base) → Needs (behind [] ls ld b) (header_needs ls ld) (base_width b)
  unfolding behind repr_of
  needs-behind b =
      gives_then (front b) (λ f. ◌>>=◌ (addresses [] b f.contexts ls ld) (λ a. give (repr_of ls ld f a))) (needs-front b)
      (λ f p. gives-map (addresses [] b f.contexts ls ld) (repr_of ls ld f) (needs-addresses b f.contexts) (λ a q. omega arith))

same-needs : (ls ld : Option Address) (q h : Repr) → q.src_addr ≡ h.src_addr → q.dst_addr ≡ h.dst_addr → q.next_header ≡ h.next_header → q.hop_limit ≡ h.hop_limit → header_needs ls ld q ≡ header_needs ls ld h
same-needs ls ld q h es ed en eh = cc

least-needs : (h : Repr) → least h ≤ 2 + header_needs h.ll_src_addr h.ll_dst_addr h
unfolding least length_of
least-needs h = omega arith

starts-iphc : (ls ld : Option Address) → Starts (iphc [] ls ld)
unfolding iphc base
starts-iphc ls ld = starts-then base (λ v. behind [] ls ld (base_of v)) (starts-then be16 (λ v. branch (eqb (v / 2 ^ 13) 0b011) (give v) (refuse 2)) starts-be16)

-- whatever reads as this header takes at least the least
pub none-shorter : (h : Repr) → Fits h → NoneShorter h
unfolding iphc
none-shorter h f s at n b r =
    let ls = h.ll_src_addr in
    let ld = h.ll_dst_addr in
    let w = iphc-length [] ls ld s at n r.header (starts-iphc ls ld s at r.header n r.is_read) r.is_read in
    let e : behind [] ls ld (base_of w.field) s (at + 2) ≡ got r.header n = rw w.is_read at r.is_read in
    let k : header_needs ls ld r.header ≤ base_width (base_of w.field) = (needs-behind ls ld f.ll-src f.ll-dst (base_of w.field)).so s (at + 2) r.header n b e in
    omega (arith, w.length-is, least-needs h, same-needs ls ld r.header h r.src r.dst r.next r.hop)

-- ---- one takes just the least: ours, with the exceptions elided
-- an exception is of fe80::/64, carries 16 bits in ours, and its identifier is the one that the link-layer address stands for
record Exception (a : Ipv6Addr) (ll : Option Address) : Type 0 where
  local : a.prefix ≡ link_local
  two : inline_length (iid_form a.iid ll).inline ≡ 2
  link : link_iid ll ≡ is a.iid

not_short : (ll : Option Address) (i x : ℕ) → is_extended ll i ≡ true → is_short ll x ≡ false
not_short None i x e = cc
not_short (Some Absent) i x e = cc
not_short (Some (Short a)) i x e = cc
not_short (Some (Extended a)) i x e = refl

exception : (a : Ipv6Addr) (ll : Option Address) → is_spare a ll ≡ true → Exception a ll
unfolding iid_form
exception a ll e =
    let w = and-true (is_link_local a) (eqb (a.iid / 2 ^ 16) 0xfffe00 && is_extended ll a.iid) e in
    let v = and-true (eqb (a.iid / 2 ^ 16) 0xfffe00) (is_extended ll a.iid) w.1 in
    record { local = eqb-true a.prefix link_local w.0; two = rw (v.0, not_short ll a.iid (a.iid % 2 ^ 16) v.1); link = extended-link ll a.iid v.1 }

abbrev elide_if : Bool → Form → Form
elide_if t f = choose t (form 0b11 Nothing) f

elided-back : (a : Ipv6Addr) (ll : Option Address) → Exception a ll → LocalBack [] 0 ll a (form 0b11 Nothing)
elided-back a ll x = (reads-elided [] 0b11 0 ll [] a x.local (link-back ll a.iid x.link), omega arith)

source-two : (a : Ipv6Addr) (ll : Option Address) → Exception a ll → inline_length (src_form a ll).inline ≡ 2
unfolding src_form
source-two a ll x = rw x.local x.two

dest-two : (a : Ipv6Addr) (ll : Option Address) → Exception a ll → inline_length (dst_form a ll).inline ≡ 2
unfolding dst_form
dest-two a ll x = rw x.local x.two

elide-cases : (a : Ipv6Addr) (ll : Option Address) (f : Form) (P : Form → Type 0) → (Exception a ll → P (form 0b11 Nothing)) → P f → P (elide_if (is_spare a ll) f)
elide-cases a ll f P x y = go (is_spare a ll) refl
  where
    go : (t : Bool) → is_spare a ll ≡ t → P (elide_if t f)
    go true e = x (exception a ll e)
    go false e = y

-- a form f that carries two bytes at an exception: elided there, it takes those less
less-spare : (a : Ipv6Addr) (ll : Option Address) (f : Form) → (Exception a ll → inline_length f.inline ≡ 2) → inline_length (elide_if (is_spare a ll) f).inline + spare a ll ≡ inline_length f.inline
less-spare a ll f h = go (is_spare a ll) refl
  where
    go : (t : Bool) → is_spare a ll ≡ t → inline_length (elide_if t f).inline + choose t 2 0 ≡ inline_length f.inline
    go true e = omega (arith, h (exception a ll e))
    go false e = omega arith

source-elided : (a : Ipv6Addr) (ll : Option Address) → SourceBack [] 0 ll a (elide_if (is_spare a ll) (src_form a ll))
source-elided a ll = elide-cases a ll (src_form a ll) (SourceBack [] 0 ll a) (λ x. local-source [] 0 ll a (form 0b11 Nothing) (elided-back a ll x)) (source-back [] 0 ll a)

dest-elided : (a : Ipv6Addr) (ll : Option Address) → DestBack [] 0 ll a (elide_if (is_spare a ll) (dst_form a ll))
dest-elided a ll = elide-cases a ll (dst_form a ll) (DestBack [] 0 ll a) (λ x. local-dest [] 0 ll a (form 0b11 Nothing) (elided-back a ll x)) (dest-back [] 0 ll a)

module _ (h : Repr) where
  least_source : Form
  least_source = elide_if (is_spare h.src_addr h.ll_src_addr) (source_form h)

  least_dest : Form
  least_dest = elide_if (is_spare h.dst_addr h.ll_dst_addr) (dest_form h)

  least_bytes : List ℕ
  least_bytes = front_bytes h.next_header h.hop_limit least_source least_dest ++ addresses_bytes least_source least_dest

  less-source : inline_length least_source.inline + spare h.src_addr h.ll_src_addr ≡ inline_length (source_form h).inline
  unfolding least_source
  less-source = less-spare h.src_addr h.ll_src_addr (source_form h) (source-two h.src_addr h.ll_src_addr)

  less-dest : inline_length least_dest.inline + spare h.dst_addr h.ll_dst_addr ≡ inline_length (dest_form h).inline
  unfolding least_dest
  less-dest = less-spare h.dst_addr h.ll_dst_addr (dest_form h) (dest-two h.dst_addr h.ll_dst_addr)

  -- ours is longer than the least by two for each exception
  pub ours-is : length_of h ≡ least h + spares h
  unfolding least length_of
  ours-is = omega (arith, less-source, less-dest)

  length-least : length least_bytes ≡ least h
  unfolding least length_of least_bytes
  length-least =
      let n = h.next_header in
      let k = h.hop_limit in
      omega (arith, length-append (front_bytes n k least_source least_dest) (addresses_bytes least_source least_dest), length_front n k least_source least_dest, length-addresses least_source least_dest, less-source, less-dest)

  least-reads : Reads (iphc [] h.ll_src_addr h.ll_dst_addr) least_bytes (restored h)
  unfolding least_bytes least_source least_dest
  least-reads = forms-trip h [] least_source least_dest (source-elided h.src_addr h.ll_src_addr) (dest-elided h.dst_addr h.ll_dst_addr)

  least-bytes : Fits h → Bytes least_bytes
  unfolding least_bytes least_source least_dest
  least-bytes f =
      bytes-header h.next_header h.hop_limit least_source least_dest f.next f.hop (source-elided h.src_addr h.ll_src_addr).1 (dest-elided h.dst_addr h.ll_dst_addr).1
      (elide-cases h.src_addr h.ll_src_addr (source_form h) FormBytes (λ x. bytes-nil) (bytes-source h.src_addr f.src h.ll_src_addr))
      (elide-cases h.dst_addr h.ll_dst_addr (dest_form h) FormBytes (λ x. bytes-nil) (bytes-dest h.dst_addr f.dst h.ll_dst_addr))

  -- one takes just the least
  pub one-least : Fits h → OneLeast h
  one-least f =
      let e : least_bytes ++ [] ≡ least_bytes = append-nil least_bytes in
      let r : iphc [] h.ll_src_addr h.ll_dst_addr (least_bytes ++ []) 0 ≡ got (restored h) (0 + length least_bytes) = least-reads [] [] 0 refl in
      let k : 0 + length least_bytes ≡ least h = omega (arith, length-least) in
      record { bytes = least_bytes; are-bytes = least-bytes f; length-is = length-least; are-read = record { header = restored h; is_read = rw (e, k) at r; src = refl; dst = refl; next = refl; hop = refl } }

-- there are exceptions: the scope document's trap, fe80::ff:fe00:1234 and the extended address 020000fffe001234
pub trap : spare (ip link_local 0xff_fe00_1234) (Some (Extended 0x0200_00ff_fe00_1234)) ≡ 2
trap = refl
