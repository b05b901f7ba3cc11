-- How far a compressed header goes: its first two bytes say it, and it ends within the bytes. And the header that is written takes at most
-- 36 bytes.
use Rattle.ieee802154.specs.declared.addr.Address.{Address}
use Rattle.std.specs.Prelude.{Option, Some, None}
use Prim.Native.Nat.{ℕ, ◌+◌, ◌*◌, ◌/◌, ◌%◌, ◌^◌, ◌≤◌}
use native.Mathlib.Omega.{arith}
use mathlib.Core.List.{List}
use mathlib.Core.Bool.{Bool, true, false}
use native.Mathlib.Nat.{add-zero}
use mathlib.Core.Path.{◌≡◌, subst}
use lib.Dec.{eqb}
use lib.ListN.{length}
use Rattle.octets.specs.Read.{Answer, is, refused, Reader, got, choose, branch, give, refuse, byte, be16, be32, be64, ◌>>=◌}
use Rattle.octets.specs.Ipv6.{ip, is_unspecified, is_multicast, is_link_local}
use Rattle.octets.specs.declared.ipv6.Ipv6Addr.{Ipv6Addr}
use Rattle.octets.proofs.Spans.{Spans, First, not-refused, spans-first, spans-then, spans-branch, spans-guard, spans-map, spans-both, spans-give, spans-byte, spans-be16, spans-be32, spans-be64}
use Rattle.sixlowpan.specs.Next.{next_header, next_bit, next_width}
use Rattle.iphc.specs.Iphc.{base_of, base, contexts, traffic_of, ecn_of, dscp_of, label_of, labelled, class_and_label, ecn_and_label, class_only, traffic, hop_limit, front_rest, front, short_iid, link_iid, having, identifier, full, prefix_of, elided, source, group48, group32, group8, multicast, destination, addresses, repr_of, behind, iphc}
use Rattle.iphc.specs.Emit.{inline_length, form, full_form, iid_form, src_form, is_group8, is_scoped, scope_of, multicast_form, dst_form, hop_bits, hop_length, length_of}
use Rattle.iphc.specs.Widths.{contexts_width, traffic_width, hop_width, identifier_width, source_width, multicast_width, destination_width, base_width}
use Rattle.sixlowpan.specs.declared.protocol.NextHeader.{NextHeader}
use Rattle.sixlowpan.specs.declared.protocol.NextHeader.TheVariants.{Compressed, Uncompressed}
use Rattle.iphc.specs.declared.form.Inline.TheVariants.{Nothing, Bits8, Bits32, Bits48}
use Rattle.iphc.specs.declared.form.Form.{Form}
use Rattle.iphc.specs.declared.read.Base.{Base}
use Rattle.iphc.specs.declared.read.Contexts.{Contexts}
use Rattle.iphc.specs.declared.header.Repr.{Repr}
use Rattle.sixlowpan.proofs.NextLaws.{spans-next}
use Rattle.iphc.proofs.RoundTrip.{iid-cases}

-- a value that takes no bytes
spans-having : {A B : Type 0} (a : Answer A) (k : A → Reader B) (n : ℕ) → ((x : A) → Spans (k x) n) → Spans (having a k) n
spans-having (is x) k n f s at b m h e = f x s at b m h e
spans-having (refused r) k n f s at b m h e = not-refused _ r e

-- ---- before the addresses
spans-contexts : (cid : ℕ) → Spans (contexts cid) (contexts_width cid)
unfolding contexts
spans-contexts cid = spans-branch (eqb cid 0) (give _) _ 0 1 (spans-give _) (spans-map byte (λ b. record { src = b / 16; dst = b % 16 }) 1 spans-byte)

spans-labelled : (high : ℕ) (e d : Option ℕ) → Spans (labelled high e d) 2
unfolding labelled
spans-labelled high e d = spans-map be16 (λ low. traffic_of e d (Some (label_of high low))) 2 spans-be16

spans-class-label : Spans class_and_label 4
unfolding class_and_label
spans-class-label = spans-then byte (λ b. ◌>>=◌ byte (λ z. labelled z (ecn_of b) (dscp_of b))) 1 3 spans-byte (λ b. spans-then byte (λ z. labelled z (ecn_of b) (dscp_of b)) 1 2 spans-byte (λ z. spans-labelled z (ecn_of b) (dscp_of b)))

spans-ecn-label : Spans ecn_and_label 3
unfolding ecn_and_label
spans-ecn-label = spans-then byte (λ b. labelled b (ecn_of b) None) 1 2 spans-byte (λ b. spans-labelled b (ecn_of b) None)

spans-class : Spans class_only 1
unfolding class_only
spans-class = spans-map byte (λ b. traffic_of (ecn_of b) (dscp_of b) None) 1 spans-byte

spans-traffic : (tf : ℕ) → Spans (traffic tf) (traffic_width tf)
unfolding traffic
spans-traffic tf =
    spans-branch (eqb tf 0b00) class_and_label _ 4 _ spans-class-label
    (spans-branch (eqb tf 0b01) ecn_and_label _ 3 _ spans-ecn-label (spans-branch (eqb tf 0b10) class_only (give _) 1 0 spans-class (spans-give _)))

spans-hop : (hlim : ℕ) → Spans (hop_limit hlim) (hop_width hlim)
unfolding hop_limit
spans-hop hlim = spans-branch (eqb hlim 0b00) byte _ 1 0 spans-byte (none (eqb hlim 0b01) (eqb hlim 0b10))
  where
    none : (t u : Bool) → Spans {A = ℕ} (branch t (give 1) (branch u (give 64) (give 255))) 0
    none true u = spans-give 1
    none false true = spans-give 64
    none false false = spans-give 255

spans-front : (b : Base) → Spans (front b) (contexts_width b.cid + (traffic_width b.tf + (next_width b.nh + hop_width b.hlim)))
unfolding front front_rest
spans-front b =
    spans-then (contexts b.cid) (λ i. ◌>>=◌ (traffic b.tf) (λ t. front_rest b i t)) _ _ (spans-contexts b.cid)
    (λ i. spans-then (traffic b.tf) (λ t. front_rest b i t) _ _ (spans-traffic b.tf)
    (λ t. spans-both (next_header b.nh) (hop_limit b.hlim) (λ n h. record { contexts = i; traffic = t; next_header = n; hop_limit = h }) _ _ (spans-next b.nh) (spans-hop b.hlim)))

-- ---- the addresses
spans-full : Spans full 16
unfolding full
spans-full = spans-both be64 be64 ip 8 8 spans-be64 spans-be64

spans-identifier : (mode : ℕ) (ll : Option Address) → Spans (identifier mode ll) (identifier_width mode)
unfolding identifier
spans-identifier mode ll =
    spans-branch (eqb mode 0b01) be64 _ 8 _ spans-be64
    (spans-branch (eqb mode 0b10) _ (having (link_iid ll) give) 2 0 (spans-map be16 short_iid 2 spans-be16) (spans-having (link_iid ll) give 0 spans-give))

spans-elided : (ctx : List ℕ) (ac mode id : ℕ) (ll : Option Address) → Spans (elided ctx ac mode id ll) (identifier_width mode)
unfolding elided
spans-elided ctx ac mode id ll =
    subst (Spans (elided ctx ac mode id ll)) (add-zero (identifier_width mode))
    (spans-then (identifier mode ll) (λ i. having (prefix_of ctx ac id) (λ p. give (ip p i))) (identifier_width mode) 0 (spans-identifier mode ll)
    (λ i. spans-having (prefix_of ctx ac id) (λ p. give (ip p i)) 0 (λ p. spans-give (ip p i))))

spans-source : (ctx : List ℕ) (sac sam id : ℕ) (ll : Option Address) → Spans (source ctx sac sam id ll) (source_width sac sam)
unfolding source
spans-source ctx sac sam id ll =
    spans-branch (eqb sam 0b00) _ (elided ctx sac sam id ll) _ _ (spans-branch (eqb sac 0) full (give (ip 0 0)) 16 0 spans-full (spans-give (ip 0 0))) (spans-elided ctx sac sam id ll)

spans-group48 : Spans group48 6
unfolding group48
spans-group48 = spans-both be16 be32 (λ x y. ip ((0xff00 + x / 256) * 2 ^ 48) (x % 256 * 2 ^ 32 + y)) 2 4 spans-be16 spans-be32

spans-group32 : Spans group32 4
unfolding group32
spans-group32 = spans-map be32 (λ x. ip ((0xff00 + x / 2 ^ 24) * 2 ^ 48) (x % 2 ^ 24)) 4 spans-be32

spans-group8 : Spans group8 1
unfolding group8
spans-group8 = spans-map byte (ip (0xff02 * 2 ^ 48)) 1 spans-byte

spans-multicast : (dam : ℕ) → Spans (multicast dam) (multicast_width dam)
unfolding multicast
spans-multicast dam =
    spans-branch (eqb dam 0b00) full _ 16 _ spans-full
    (spans-branch (eqb dam 0b01) group48 _ 6 _ spans-group48 (spans-branch (eqb dam 0b10) group32 group8 4 1 spans-group32 spans-group8))

spans-destination : (ctx : List ℕ) (m dac dam id : ℕ) (ll : Option Address) → Spans (destination ctx m dac dam id ll) (destination_width m dam)
unfolding destination
spans-destination ctx m dac dam id ll =
    spans-branch (eqb m 0) _ _ _ _
    (spans-branch (eqb dam 0b00) _ (elided ctx dac dam id ll) _ _ (spans-guard (eqb dac 0) full 3 16 spans-full) (spans-elided ctx dac dam id ll))
    (spans-guard (eqb dac 0) (multicast dam) 3 (multicast_width dam) (spans-multicast dam))

spans-addresses : (ctx : List ℕ) (b : Base) (i : Contexts) (ls ld : Option Address) → Spans (addresses ctx b i ls ld) (source_width b.sac b.sam + destination_width b.m b.dam)
unfolding addresses
spans-addresses ctx b i ls ld =
    spans-both (source ctx b.sac b.sam i.src ls) (destination ctx b.m b.dac b.dam i.dst ld) (λ s d. record { src = s; dst = d }) _ _
    (spans-source ctx b.sac b.sam i.src ls) (spans-destination ctx b.m b.dac b.dam i.dst ld)

spans-behind : (ctx : List ℕ) (ls ld : Option Address) (b : Base) → Spans (behind ctx ls ld b) (base_width b)
unfolding behind
spans-behind ctx ls ld b =
    spans-then (front b) (λ f. ◌>>=◌ (addresses ctx b f.contexts ls ld) (λ a. give (repr_of ls ld f a))) _ _ (spans-front b)
    (λ f. spans-map (addresses ctx b f.contexts ls ld) (repr_of ls ld f) _ (spans-addresses ctx b f.contexts ls ld))

spans-base : Spans base 2
unfolding base
spans-base = spans-then be16 (λ v. branch (eqb (v / 2 ^ 13) 0b011) (give v) (refuse 2)) 2 0 spans-be16 (λ v. spans-guard (eqb (v / 2 ^ 13) 0b011) (give v) 2 0 (spans-give v))

-- the place after the header is past its first two bytes by the widths of the fields that they announce
pub iphc-length : (ctx : List ℕ) (ls ld : Option Address) (s : List ℕ) (at n : ℕ) (h : Repr) → at ≤ length s → iphc ctx ls ld s at ≡ got h n → First base 2 (λ v. base_width (base_of v)) s at n
unfolding iphc
iphc-length ctx ls ld s at n h e r =
    spans-first base (λ v. behind ctx ls ld (base_of v)) 2 (λ v. base_width (base_of v)) spans-base (λ v. spans-behind ctx ls ld (base_of v)) s at h n e r

-- ---- what is written
pub record Short (f : Form) : Type 0 where
  pub short : inline_length f.inline ≤ 16

pub short-source : (a : Ipv6Addr) (ll : Option Address) → Short (src_form a ll)
unfolding src_form
short-source a ll = go (is_unspecified a) (is_link_local a)
  where
    go : (b c : Bool) → Short (choose b (form 0b100 Nothing) (choose c (iid_form a.iid ll) (full_form 0b000 a)))
    go true c = omega arith
    go false true = iid-cases a.iid ll Short (λ w. omega arith) (λ w. omega arith) (omega arith)
    go false false = omega arith

short-multicast : (a : Ipv6Addr) → Short (multicast_form a)
unfolding multicast_form
short-multicast a = go (is_group8 a) (is_scoped a (2 ^ 24)) (is_scoped a (2 ^ 40))
  where
    go : (b c d : Bool) → Short (choose b (form 0b1011 (Bits8 (a.iid % 2 ^ 8))) (choose c (form 0b1010 (Bits32 (scope_of a * 2 ^ 24 + a.iid % 2 ^ 24))) (choose d (form 0b1001 (Bits48 (scope_of a * 2 ^ 8 + a.iid / 2 ^ 32 % 2 ^ 8) (a.iid % 2 ^ 32))) (full_form 0b1000 a))))
    go true c d = omega arith
    go false true d = omega arith
    go false false true = omega arith
    go false false false = omega arith

pub short-dest : (a : Ipv6Addr) (ll : Option Address) → Short (dst_form a ll)
unfolding dst_form
short-dest a ll = go (is_multicast a) (is_link_local a)
  where
    go : (b c : Bool) → Short (choose b (multicast_form a) (choose c (iid_form a.iid ll) (full_form 0b0000 a)))
    go true c = short-multicast a
    go false true = iid-cases a.iid ll Short (λ w. omega arith) (λ w. omega arith) (omega arith)
    go false false = omega arith

short-next : (n : NextHeader) → next_width (next_bit n) ≤ 1
short-next Compressed = omega arith
short-next (Uncompressed p) = omega arith

pub short-hop : (h : ℕ) → hop_length h ≤ 1
short-hop h = go (eqb (hop_bits h) 0b00)
  where
    go : (b : Bool) → choose b 1 0 ≤ 1
    go true = omega arith
    go false = omega arith

pub at-most-36 : (r : Repr) → length_of r ≤ 36
unfolding length_of
at-most-36 r =
    let s = short-source r.src_addr r.ll_src_addr in
    let d = short-dest r.dst_addr r.ll_dst_addr in
    omega (arith, short-next r.next_header, short-hop r.hop_limit, s.short, d.short)
