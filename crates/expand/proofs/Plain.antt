-- Where there is no extension header, the expansion is what the scope document had before: the definitions of specs/Plain.antt, which know no chain.
use Rattle.ieee802154.specs.declared.addr.Address.{Address}
use Rattle.std.specs.Prelude.{Option, Some, None}
use Prim.Native.Nat.{ℕ, ◌+◌, ◌-◌, ◌≤◌}
use native.Mathlib.Nat.{zero-add}
use mathlib.Core.List.{List, ◌++◌}
use mathlib.Core.Bool.{Bool, true, false}
use mathlib.Core.Path.{◌≡◌, refl, sym, ap, subst, ◌∙◌}
use lib.ListN.{length, drop}
use lib.Dec.{ltb, leb}
use native.Mathlib.Omega.{arith}
use borrow.Author.Tests.{le-ltb}
use Rattle.expand.proofs.Inverting.{invert, value-is}
use Rattle.octets.specs.Read.{Answer, is, refused, Read, got, and_then, choose}
use Rattle.octets.proofs.Spans.{not-refused}
use Rattle.iphc.specs.Iphc.{iphc}
use Rattle.iphc.specs.declared.header.Repr.{Repr}
use Rattle.sixlowpan.specs.Nhc.{nhc}
use Rattle.sixlowpan.specs.NhcUdp as NhcUdp
use Rattle.sixlowpan.specs.declared.protocol.IpProtocol.{IpProtocol}
use Rattle.sixlowpan.specs.declared.protocol.NextHeader.{NextHeader}
use Rattle.sixlowpan.specs.declared.protocol.NextHeader.TheVariants.{Compressed, Uncompressed}
use Rattle.sixlowpan.specs.declared.nhc.NhcPacket.{NhcPacket}
use Rattle.sixlowpan.specs.declared.nhc.NhcPacket.TheVariants.{ExtHeader, UdpHeader}
use Rattle.sixlowpan.specs.declared.nhc.UdpNhcRepr.{UdpNhcRepr}
use Rattle.expand.specs.Full.{ipv6_with}
use Rattle.expand.specs.Chain.{Chain, rest, udp_then, ipv6, udp_link, within, behind_next, header_then, udp_step, link_of, link, udp_end, onward, chain, chained, head_number, size_of, full_bytes, sum_in, total_of}
use Rattle.expand.specs.Expand as Expand
use Rattle.expand.specs.Expand.{Expansion, expansion}
use Rattle.expand.specs.Plain as Plain
use Rattle.expand.specs.Plain.{Headers, transport, by_next, headers, plain, length_of, plainly}

-- the chain that plain headers are, in the frame s
abbrev behind_of : NextHeader → Option UdpNhcRepr → List ℕ → Chain
behind_of (Uncompressed p) None d = rest p.0 d
behind_of Compressed None d = rest 17 d
behind_of n (Some u) d = udp_then u d

abbrev pub chain_of : Headers → List ℕ → Chain
chain_of h s = ipv6 h.ip (behind_of h.ip.next_header h.udp (drop h.rest s))

-- ---- what such a chain becomes
size-go : (n : NextHeader) (u : Option UdpNhcRepr) (d : List ℕ) → size_of (behind_of n u d) ≡ Plain.udp_size u + length d
unfolding size_of
size-go (Uncompressed p) None d = sym (zero-add (length d))
size-go Compressed None d = sym (zero-add (length d))
size-go (Uncompressed p) (Some h) d = refl
size-go Compressed (Some h) d = refl

pub size-plain : (h : Headers) (s : List ℕ) → size_of (chain_of h s) ≡ length_of h s
unfolding size_of
size-plain h s = ap (λ x. 40 + x) (size-go h.ip.next_header h.udp (drop h.rest s))

-- a UDP header comes behind a compressed next header field
abbrev Agree : NextHeader → Option UdpNhcRepr → Type 0
Agree (Uncompressed p) None = Unit {0}
Agree (Uncompressed p) (Some h) = ⊥
Agree Compressed u = Unit {0}

bytes-go : (r : Repr) (n : NextHeader) (u : Option UdpNhcRepr) (d : List ℕ) (t : ℕ) → Agree n u → ipv6_with r (head_number (behind_of n u d)) (t - 40) ++ full_bytes t 40 (behind_of n u d) ≡ ipv6_with r (Plain.next_of n) (t - 40) ++ (Plain.udp_bytes u (t - 40) ++ d)
unfolding full_bytes
bytes-go r (Uncompressed p) None d t a = refl
bytes-go r Compressed None d t a = refl
bytes-go r (Uncompressed p) (Some h) d t a = absurd a
bytes-go r Compressed (Some h) d t a = refl

bytes-plain : (h : Headers) (s : List ℕ) (t : ℕ) → Agree h.ip.next_header h.udp → full_bytes t 0 (chain_of h s) ≡ plain h (t - 40) s
unfolding full_bytes plain
bytes-plain h s t a = bytes-go h.ip h.ip.next_header h.udp (drop h.rest s) t a

sum-go : (n : NextHeader) (u : Option UdpNhcRepr) (d : List ℕ) → sum_in false 0 40 (behind_of n u d) ≡ Plain.sum_of u
unfolding sum_in
sum-go (Uncompressed p) None d = refl
sum-go Compressed None d = refl
sum-go (Uncompressed p) (Some h) d = refl
sum-go Compressed (Some h) d = refl

sum-plain : (h : Headers) (s : List ℕ) → sum_in false 0 0 (chain_of h s) ≡ Plain.sum_of h.udp
unfolding sum_in
sum-plain h s = sum-go h.ip.next_header h.udp (drop h.rest s)

pub sized-plain : (size : Option ℕ) (h : Headers) (s : List ℕ) → Agree h.ip.next_header h.udp → Expand.sized size (chain_of h s) ≡ Plain.sized size h s
unfolding Expand.sized Expand.bytes_of Plain.sized Plain.bytes_of
sized-plain size h s a =
    rw (size-plain h s, sum-plain h s, bytes-plain h s (total_of size (length_of h s)) a) refl

-- ---- reading
abbrev Not13 : {A : Type 0} → Answer A → Type 0
Not13 (is a) = Unit {0}
Not13 (refused n) = n ≡ 13 → ⊥

abbrev as_chain : List ℕ → Answer Headers → Answer Chain
as_chain s (is h) = is (chain_of h s)
as_chain s (refused n) = refused n

abbrev value_of : Read Chain → Answer Chain
value_of (is p) = is p.value
value_of (refused n) = refused n

udp-go : (h : Repr) (ctx s : List ℕ) (m : Read UdpNhcRepr) → h.next_header ≡ Compressed
    → value_of (and_then (and_then (and_then m (λ p. got (udp_link p.value) p.next)) (λ p. onward ctx (chain 6 ctx) (within h) p.value s p.next)) (λ q. got (ipv6 h q.value) q.next))
    ≡ as_chain s (and_then m (λ p. is (record { ip = h; udp = Some p.value; rest = p.next })))
unfolding onward udp_end
udp-go h ctx s (is p) e = rw e refl
udp-go h ctx s (refused n) e = refl

kind-go : (h : Repr) (ctx s : List ℕ) (at : ℕ) (k : NhcPacket) → h.next_header ≡ Compressed → Not13 (transport k h s at)
    → value_of (and_then (and_then (link_of k 7 s at) (λ p. onward ctx (chain 6 ctx) (within h) p.value s p.next)) (λ q. got (ipv6 h q.value) q.next)) ≡ as_chain s (transport k h s at)
unfolding transport link_of udp_step
kind-go h ctx s at ExtHeader e n = absurd (n refl)
kind-go h ctx s at UdpHeader e n = udp-go h ctx s (NhcUdp.udp s at) e

nhc-go : (h : Repr) (ctx s : List ℕ) (at : ℕ) (k : Answer NhcPacket) → h.next_header ≡ Compressed → Not13 (and_then k (λ kind. transport kind h s at))
    → value_of (and_then (and_then (and_then k (λ k. link_of k 7 s at)) (λ p. onward ctx (chain 6 ctx) (within h) p.value s p.next)) (λ q. got (ipv6 h q.value) q.next)) ≡ as_chain s (and_then k (λ kind. transport kind h s at))
nhc-go h ctx s at (is k) e n = kind-go h ctx s at k e n
nhc-go h ctx s at (refused x) e n = refl

next-go : (h : Repr) (ctx s : List ℕ) (at : ℕ) (n : NextHeader) → h.next_header ≡ n → Not13 (by_next n h s at)
    → value_of (and_then (behind_next n (chain 7 ctx (within h)) s at) (λ q. got (ipv6 h q.value) q.next)) ≡ as_chain s (by_next n h s at)
unfolding behind_next by_next chain link
next-go h ctx s at (Uncompressed p) e n = rw e refl
next-go h ctx s at Compressed e n = nhc-go h ctx s at (nhc s at) e n

read-go : (ctx s : List ℕ) (m : Read Repr) → Not13 (and_then m (λ p. by_next p.value.next_header p.value s p.next))
    → value_of (and_then m (λ p. and_then (behind_next p.value.next_header (chain 7 ctx (within p.value)) s p.next) (λ q. got (ipv6 p.value q.value) q.next)))
    ≡ as_chain s (and_then m (λ p. by_next p.value.next_header p.value s p.next))
read-go ctx s (is p) n = next-go p.value ctx s p.next p.value.next_header refl n
read-go ctx s (refused x) n = refl

-- the headers read as they did, wherever that was not 13
pub headers-plain : (ctx : List ℕ) (ls ld : Option Address) (s : List ℕ) (at : ℕ) → Not13 (headers ctx ls ld s at) → value_of (chained ctx ls ld s at) ≡ as_chain s (headers ctx ls ld s at)
unfolding chained header_then headers
headers-plain ctx ls ld s at n = read-go ctx s (iphc ctx ls ld s at) n

-- a UDP header was read behind a compressed next header field
agree-some : (n : NextHeader) (u : UdpNhcRepr) → n ≡ Compressed → Agree n (Some u)
agree-some n u e = rw e tt

agree-none : (n : NextHeader) (p : IpProtocol) → n ≡ Uncompressed p → Agree n None
agree-none n p e = rw e tt

agree-kind : (h : Repr) (k : NhcPacket) (s : List ℕ) (at : ℕ) (x : Headers) → h.next_header ≡ Compressed → transport k h s at ≡ is x → Agree x.ip.next_header x.udp
unfolding transport
agree-kind h ExtHeader s at x e q = not-refused _ 13 q
agree-kind h UdpHeader s at x e q =
    let j = invert (NhcUdp.udp s at) (λ p. is (record { ip = h; udp = Some p.value; rest = p.next })) x q in
    subst (λ z. Agree z.ip.next_header z.udp) (value-is _ x j.second) (agree-some h.next_header j.value.value e)

agree-next : (h : Repr) (n : NextHeader) (s : List ℕ) (at : ℕ) (x : Headers) → h.next_header ≡ n → by_next n h s at ≡ is x → Agree x.ip.next_header x.udp
unfolding by_next
agree-next h (Uncompressed p) s at x e q = subst (λ z. Agree z.ip.next_header z.udp) (value-is _ x q) (agree-none h.next_header p e)
agree-next h Compressed s at x e q =
    let j = invert (nhc s at) (λ kind. transport kind h s at) x q in
    agree-kind h j.value s at x e j.second

agree : (ctx : List ℕ) (ls ld : Option Address) (s : List ℕ) (at : ℕ) (x : Headers) → headers ctx ls ld s at ≡ is x → Agree x.ip.next_header x.udp
unfolding headers
agree ctx ls ld s at x q =
    let j = invert (iphc ctx ls ld s at) (λ p. by_next p.value.next_header p.value s p.next) x q in
    agree-next j.value.value j.value.value.next_header s j.value.next x refl j.second

-- ---- the expansion
value-go : (size : Option ℕ) (m : Read Chain) → and_then m (λ p. Expand.sized size p.value) ≡ and_then (value_of m) (λ c. Expand.sized size c)
value-go size (is p) = refl
value-go size (refused n) = refl

sized-go : (size : Option ℕ) (s : List ℕ) (m : Answer Headers) → ((x : Headers) → m ≡ is x → Agree x.ip.next_header x.udp) → and_then (as_chain s m) (λ c. Expand.sized size c) ≡ and_then m (λ h. Plain.sized size h s)
sized-go size s (is h) f = sized-plain size h s (f h refl)
sized-go size s (refused n) f = refl

not-13 : (size : Option ℕ) (s : List ℕ) (m : Answer Headers) → Not13 (and_then m (λ h. Plain.sized size h s)) → Not13 m
not-13 size s (is h) n = tt
not-13 size s (refused x) n = n

-- wherever the scope document did not refuse with 13 before, the expansion is what it was
pub plain-same : (ctx : List ℕ) (ls ld : Option Address) (size : Option ℕ) (s : List ℕ) (at : ℕ) → Not13 (plainly ctx ls ld size s at) → expansion ctx ls ld size s at ≡ plainly ctx ls ld size s at
unfolding expansion plainly
plain-same ctx ls ld size s at n = go (ltb 127 (length s)) n
  where
    go : (t : Bool) → Not13 (choose t (refused 4) (and_then (headers ctx ls ld s at) (λ h. Plain.sized size h s)))
        → choose t (refused 4) (and_then (chained ctx ls ld s at) (λ p. Expand.sized size p.value)) ≡ choose t (refused 4) (and_then (headers ctx ls ld s at) (λ h. Plain.sized size h s))
    go true k = refl
    go false k =
        value-go size (chained ctx ls ld s at)
        ∙ ap (λ m. and_then m (λ c. Expand.sized size c)) (headers-plain ctx ls ld s at (not-13 size s (headers ctx ls ld s at) k))
        ∙ sized-go size s (headers ctx ls ld s at) (λ x q. agree ctx ls ld s at x q)

-- for callers who know the plain headers
sized-not : (size : Option ℕ) (h : Headers) (s : List ℕ) → Not13 (Plain.sized size h s)
unfolding Plain.sized
sized-not size h s = go (leb (length_of h s) (total_of size (length_of h s)))
  where
    go : (t : Bool) → Not13 {A = Expansion} (choose t (is (record { bytes = Plain.bytes_of size h s; sum = Plain.sum_of h.udp })) (refused 10))
    go true = tt
    go false = λ e. omega (arith, e)

pub expansion-plain : (ctx : List ℕ) (ls ld : Option Address) (size : Option ℕ) (s : List ℕ) (at : ℕ) (h : Headers) → length s ≤ 127 → headers ctx ls ld s at ≡ is h → expansion ctx ls ld size s at ≡ Plain.sized size h s
unfolding plainly
expansion-plain ctx ls ld size s at h k q =
    let e : plainly ctx ls ld size s at ≡ Plain.sized size h s = rw (le-ltb 127 (length s) k, q) refl in
    plain-same ctx ls ld size s at (subst Not13 (sym e) (sized-not size h s)) ∙ e
