-- A chain of headers: how far a step reads, the number that stands for it in front, and how long the chain gets.
use Rattle.ieee802154.specs.declared.addr.Address.{Address}
use Rattle.std.specs.Prelude.{Option}
use Prim.Native.Nat.{ℕ, zero, suc, ◌+◌, ◌-◌, ◌*◌, ◌/◌, ◌%◌, ◌^◌, ◌≤◌, ◌<◌}
use native.Mathlib.Omega.{arith}
use mathlib.Core.Bool.{Bool, true, false, ◌&&◌, ◌||◌}
use mathlib.Core.List.{List}
use mathlib.Core.Path.{◌≡◌, refl, sym, ap, subst, ◌∙◌}
use lib.ListN.{length, get_or, take, drop, length-take, length-drop}
use lib.Dec.{eqb, ltb}
use borrow.Author.Tests.{eq-eqb, ne_eqb, eqb-true, eqb-false}
use Rattle.octets.specs.Read.{Answer, is, refused, Reader, got, and_then, choose, branch, give, refuse, byte, be16, skip}
use Rattle.octets.specs.declared.ipv6.Ipv6Addr.{Ipv6Addr}
use Rattle.octets.proofs.Spans.{Starts, not-refused, starts-then, starts-byte, starts-be16, spans-byte, spans-skip}
use Rattle.ieee802154.specs.Address.{flip57}
use Rattle.sixlowpan.specs.Nhc.{nhc_of, nhc}
use Rattle.sixlowpan.specs.NhcUdp.{udp, udp_rest}
use Rattle.sixlowpan.specs.NhcExt.{ext, ext_rest}
use Rattle.sixlowpan.proofs.NhcSpans.{ext-length, udp-length}
use Rattle.sixlowpan.specs.declared.protocol.NextHeader.{NextHeader}
use Rattle.sixlowpan.specs.declared.protocol.NextHeader.TheVariants.{Compressed, Uncompressed}
use Rattle.sixlowpan.specs.declared.nhc.NhcPacket.{NhcPacket}
use Rattle.sixlowpan.specs.declared.nhc.NhcPacket.TheVariants.{ExtHeader, UdpHeader}
use Rattle.sixlowpan.specs.declared.nhc.ExtHeaderId.{ExtHeaderId}
use Rattle.sixlowpan.specs.declared.nhc.ExtHeaderId.TheVariants.{HopByHopHeader, RoutingHeader, FragmentHeader, DestinationOptionsHeader, MobilityHeader, Header, Reserved}
use Rattle.sixlowpan.specs.declared.nhc.ExtHeaderRepr.{ExtHeaderRepr}
use Rattle.iphc.specs.Iphc.{link_iid, base, base_of, behind, iphc}
use Rattle.iphc.specs.declared.header.Repr.{Repr}
use Rattle.iphc.proofs.Lengths.{iphc-length}
use Rattle.expand.specs.Full.{is_absent}
use Rattle.expand.specs.Chain.{Chain, rest, udp_then, extension, ipv6, Link, udp_link, ext_link, inner_link, Around, full_number, bad_length, octets, ext_data, ext_body, inner_byte, ext_kind, id_at, udp_step, link_of, link, within, past, inside, behind_next, header_then, udp_end, onward, chain, nhc_number, next_number, head_number, size_of}
use Rattle.expand.specs.Walk.{identified}
use Rattle.expand.proofs.Inverting.{invert, got-value, got-next}

-- ---- how far a step reads
abbrev pub Reach : Link → ℕ → ℕ → Type 0
Reach (udp_link h) at n = at < n
Reach (ext_link x d next) at n = at + 2 + length d ≤ n
Reach inner_link at n = at < n

starts-udp : Starts udp
unfolding udp
starts-udp = starts-then byte (λ b. branch (eqb (b / 8) 0b11110) (udp_rest b) (refuse 2)) starts-byte

starts-ext : Starts ext
unfolding ext
starts-ext = starts-then byte (λ b. branch (eqb (b / 16) 0b1110) (ext_rest b) (refuse 2)) starts-byte

pub starts-iphc : (ctx : List ℕ) (ls ld : Option Address) → Starts (iphc ctx ls ld)
unfolding iphc base
starts-iphc ctx ls ld = starts-then base (λ v. behind ctx ls ld (base_of v)) (starts-then be16 (λ v. branch (eqb (v / 2 ^ 13) 0b011) (give v) (refuse 2)) starts-be16)

udp-reach : (s : List ℕ) (at : ℕ) (l : Link) (n : ℕ) → udp_step s at ≡ got l n → Reach l at n × (n ≤ length s)
unfolding udp_step
udp-reach s at l n e =
    let i = invert (udp s at) (λ p. got (udp_link p.value) p.next) _ e in
    let p = i.value in
    let f = udp-length s at p.next p.value (starts-udp s at p.value p.next i.first) i.first in
    let k : p.next ≡ n = got-next (udp_link p.value) l p.next n i.second in
    (subst (λ z. Reach z at n) (got-value (udp_link p.value) l p.next n i.second) (omega (arith, f.length-is, k)), omega (arith, f.within, k))

data-go : (id : ExtHeaderId) (h : ExtHeaderRepr) (s : List ℕ) (at from : ℕ) → at + 2 ≤ from → from ≤ length s → (l : Link) (n : ℕ) (t : Bool) → choose t (refused 3) (and_then (octets h.length s from) (λ p. got (ext_link (full_number id) p.value h.next_header) p.next)) ≡ got l n → Reach l at n × (n ≤ length s)
unfolding octets
data-go id h s at from a b l n true e = not-refused _ 3 e
data-go id h s at from a b l n false e =
    let k = h.length in
    let i = invert (octets k s from) (λ p. got (ext_link (full_number id) p.value h.next_header) p.next) _ e in
    let j = invert (skip k s from) (λ p. got (take k (drop from s)) p.next) _ i.first in
    let w = spans-skip k s from j.value.value j.value.next b j.first in
    let v : i.value.next ≡ n = got-next _ l i.value.next n i.second in
    let u : j.value.next ≡ i.value.next = got-next _ i.value.value j.value.next i.value.next j.second in
    let d : take k (drop from s) ≡ i.value.value = got-value _ i.value.value j.value.next i.value.next j.second in
    let m : length i.value.value ≤ k = rw (← d) (omega (arith, length-take k (drop from s))) in
    (subst (λ z. Reach z at n) (got-value (ext_link (full_number id) i.value.value h.next_header) l i.value.next n i.second) (omega (arith, w.0, u, v, m)), omega (arith, w.1, u, v))

body-reach : (id : ExtHeaderId) (s : List ℕ) (at : ℕ) (l : Link) (n : ℕ) → ext_body id s at ≡ got l n → Reach l at n × (n ≤ length s)
unfolding ext_body ext_data
body-reach id s at l n e =
    let i = invert (ext s at) (λ p. ext_data id p.value s p.next) _ e in
    let p = i.value in
    let f = ext-length s at p.next p.value (starts-ext s at p.value p.next i.first) i.first in
    data-go id p.value s at p.next (omega (arith, f.length-is)) f.within l n (bad_length id p.value.length) i.second

inner-go : (s : List ℕ) (at : ℕ) (b m : ℕ) (l : Link) (n : ℕ) (t : Bool) → (m ≡ at + 1) × (m ≤ length s) → choose t (got inner_link m) (refused 3) ≡ got l n → Reach l at n × (n ≤ length s)
inner-go s at b m l n true w e =
    let k : m ≡ n = got-next inner_link l m n e in
    (subst (λ z. Reach z at n) (got-value inner_link l m n e) (omega (arith, w.0, k)), omega (arith, w.1, k))
inner-go s at b m l n false w e = not-refused _ 3 e

inner-reach : (s : List ℕ) (at : ℕ) (l : Link) (n : ℕ) → inner_byte s at ≡ got l n → Reach l at n × (n ≤ length s)
unfolding inner_byte
inner-reach s at l n e =
    let i = invert (byte s at) (λ p. choose (eqb (p.value % 2) 0) (got inner_link p.next) (refused 3)) _ e in
    let p = i.value in
    inner-go s at p.value p.next l n (eqb (p.value % 2) 0) (spans-byte s at p.value p.next (starts-byte s at p.value p.next i.first) i.first) i.second

kind-reach : (id : ExtHeaderId) (s : List ℕ) (at : ℕ) (l : Link) (n : ℕ) → ext_kind id s at ≡ got l n → Reach l at n × (n ≤ length s)
kind-reach HopByHopHeader s at l n e = body-reach HopByHopHeader s at l n e
kind-reach RoutingHeader s at l n e = body-reach RoutingHeader s at l n e
kind-reach FragmentHeader s at l n e = not-refused _ 13 e
kind-reach DestinationOptionsHeader s at l n e = body-reach DestinationOptionsHeader s at l n e
kind-reach MobilityHeader s at l n e = body-reach MobilityHeader s at l n e
kind-reach Header s at l n e = inner-reach s at l n e
kind-reach Reserved s at l n e = not-refused _ 13 e

-- an extension header, or the byte of EID 7, wants a header left
abbrev pub Wants : Link → ℕ → Type 0
Wants (udp_link h) left = Unit {0}
Wants (ext_link x d next) left = 1 ≤ left
Wants inner_link left = 1 ≤ left

wants-some : (l : Link) (left : ℕ) → 1 ≤ left → Wants l left
wants-some (udp_link h) left k = tt
wants-some (ext_link x d next) left k = k
wants-some inner_link left k = k

udp-wants : (s : List ℕ) (at : ℕ) (l : Link) (n left : ℕ) → udp_step s at ≡ got l n → Wants l left
unfolding udp_step
udp-wants s at l n left e =
    let i = invert (udp s at) (λ p. got (udp_link p.value) p.next) _ e in
    subst (λ z. Wants z left) (got-value (udp_link i.value.value) l i.value.next n i.second) tt

pub record Steps (l : Link) (left : ℕ) (s : List ℕ) (at n : ℕ) : Type 0 where
  pub reach : Reach l at n
  pub ends : n ≤ length s
  pub wants : Wants l left

link-go : (k : NhcPacket) (left : ℕ) (s : List ℕ) (at : ℕ) (l : Link) (n : ℕ) → link_of k left s at ≡ got l n → Steps l left s at n
unfolding link_of
link-go UdpHeader left s at l n e =
    let r = udp-reach s at l n e in
    record { reach = r.0; ends = r.1; wants = udp-wants s at l n left e }
link-go ExtHeader left s at l n e = go (eqb left 0) refl e
  where
    go : (t : Bool) → eqb left 0 ≡ t → choose t (refused 3) (ext_kind (id_at s at) s at) ≡ got l n → Steps l left s at n
    go true q g = not-refused _ 3 g
    go false q g =
        let r = kind-reach (id_at s at) s at l n g in
        record { reach = r.0; ends = r.1; wants = wants-some l left (omega (arith, eqb-false left 0 q)) }

pub link-steps : (left : ℕ) (s : List ℕ) (at : ℕ) (l : Link) (n : ℕ) → link left s at ≡ got l n → Steps l left s at n
unfolding link
link-steps left s at l n e =
    let i = invert (nhc s at) (λ k. link_of k left s at) _ e in
    link-go i.value left s at l n i.second

-- an IPv6 header takes two bytes or more
pub iphc-reach : (ctx : List ℕ) (ls ld : Option Address) (s : List ℕ) (at : ℕ) (h : Repr) (n : ℕ) → iphc ctx ls ld s at ≡ got h n → (at + 2 ≤ n) × (n ≤ length s)
iphc-reach ctx ls ld s at h n e =
    let f = iphc-length ctx ls ld s at n h (starts-iphc ctx ls ld s at h n e) e in
    (omega (arith, f.length-is), f.within)

-- ---- the number in front of a step
abbrev pub link_number : Link → ℕ
link_number (udp_link h) = 17
link_number (ext_link x d next) = x
link_number inner_link = 41

data-number : (id : ExtHeaderId) (h : ExtHeaderRepr) (s : List ℕ) (from : ℕ) (l : Link) (n : ℕ) (t : Bool) → choose t (refused 3) (and_then (octets h.length s from) (λ p. got (ext_link (full_number id) p.value h.next_header) p.next)) ≡ got l n → full_number id ≡ link_number l
data-number id h s from l n true e = not-refused _ 3 e
data-number id h s from l n false e =
    let i = invert (octets h.length s from) (λ p. got (ext_link (full_number id) p.value h.next_header) p.next) _ e in
    ap link_number (got-value (ext_link (full_number id) i.value.value h.next_header) l i.value.next n i.second)

pub body-number : (id : ExtHeaderId) (s : List ℕ) (at : ℕ) (l : Link) (n : ℕ) → ext_body id s at ≡ got l n → full_number id ≡ link_number l
unfolding ext_body ext_data
body-number id s at l n e =
    let i = invert (ext s at) (λ p. ext_data id p.value s p.next) _ e in
    data-number id i.value.value s i.value.next l n (bad_length id i.value.value.length) i.second

inner-number : (s : List ℕ) (at : ℕ) (l : Link) (n : ℕ) → inner_byte s at ≡ got l n → 41 ≡ link_number l
unfolding inner_byte
inner-number s at l n e =
    let i = invert (byte s at) (λ p. choose (eqb (p.value % 2) 0) (got inner_link p.next) (refused 3)) _ e in
    go i.value.next (eqb (i.value.value % 2) 0) i.second
  where
    go : (m : ℕ) (t : Bool) → choose t (got inner_link m) (refused 3) ≡ got l n → 41 ≡ link_number l
    go m true g = ap link_number (got-value inner_link l m n g)
    go m false g = not-refused _ 3 g

kind-number : (id : ExtHeaderId) (s : List ℕ) (at : ℕ) (l : Link) (n : ℕ) → ext_kind id s at ≡ got l n → full_number id ≡ link_number l
kind-number HopByHopHeader s at l n e = body-number HopByHopHeader s at l n e
kind-number RoutingHeader s at l n e = body-number RoutingHeader s at l n e
kind-number FragmentHeader s at l n e = not-refused _ 13 e
kind-number DestinationOptionsHeader s at l n e = body-number DestinationOptionsHeader s at l n e
kind-number MobilityHeader s at l n e = body-number MobilityHeader s at l n e
kind-number Header s at l n e = inner-number s at l n e
kind-number Reserved s at l n e = not-refused _ 13 e

-- the kind that the first byte tells
nhc-go : (s : List ℕ) (at : ℕ) (k : NhcPacket) (t u : Bool) → eqb (get_or s at 0 / 16) 0b1110 ≡ t → choose t (is ExtHeader) (choose u (is UdpHeader) (refused 2)) ≡ is k → (k ≡ ExtHeader → eqb (get_or s at 0 / 16) 0b1110 ≡ true) × (k ≡ UdpHeader → eqb (get_or s at 0 / 16) 0b1110 ≡ false)
nhc-go s at ExtHeader true u q e = ((λ z. q), (λ z. cc))
nhc-go s at UdpHeader true u q e = ((λ z. q), (λ z. cc))
nhc-go s at ExtHeader false true q e = ((λ z. cc), (λ z. q))
nhc-go s at UdpHeader false true q e = ((λ z. cc), (λ z. q))
nhc-go s at k false false q e = not-refused _ 2 e

byte-is : (s : List ℕ) (at b n : ℕ) → byte s at ≡ got b n → get_or s at 0 ≡ b
unfolding byte
byte-is s at b n e = go (ltb at (length s)) e
  where
    go : (t : Bool) → choose t (got (get_or s at 0) (at + 1)) (refused 1) ≡ got b n → get_or s at 0 ≡ b
    go true g = got-value (get_or s at 0) b (at + 1) n g
    go false g = not-refused _ 1 g

nhc-kind : (s : List ℕ) (at : ℕ) (k : NhcPacket) → nhc s at ≡ is k → (k ≡ ExtHeader → eqb (get_or s at 0 / 16) 0b1110 ≡ true) × (k ≡ UdpHeader → eqb (get_or s at 0 / 16) 0b1110 ≡ false)
unfolding nhc nhc_of
nhc-kind s at k e =
    let i = invert (byte s at) (λ p. nhc_of p.value) _ e in
    let b : get_or s at 0 ≡ i.value.value = byte-is s at i.value.value i.value.next i.first in
    let g : nhc_of (get_or s at 0) ≡ is k = ap nhc_of b ∙ i.second in
    nhc-go s at k (eqb (get_or s at 0 / 16) 0b1110) (eqb (get_or s at 0 / 8) 0b11110) refl g

udp-number : (s : List ℕ) (at : ℕ) (l : Link) (n : ℕ) → udp_step s at ≡ got l n → 17 ≡ link_number l
unfolding udp_step
udp-number s at l n e =
    let i = invert (udp s at) (λ p. got (udp_link p.value) p.next) _ e in
    ap link_number (got-value (udp_link i.value.value) l i.value.next n i.second)

number-go : (k : NhcPacket) (left : ℕ) (s : List ℕ) (at : ℕ) (l : Link) (n : ℕ) → (k ≡ ExtHeader → eqb (get_or s at 0 / 16) 0b1110 ≡ true) × (k ≡ UdpHeader → eqb (get_or s at 0 / 16) 0b1110 ≡ false) → link_of k left s at ≡ got l n → nhc_number s at ≡ link_number l
unfolding link_of
number-go UdpHeader left s at l n f e = rw (f.1 refl) (udp-number s at l n e)
number-go ExtHeader left s at l n f e = rw (f.0 refl) (go (eqb left 0) e)
  where
    go : (t : Bool) → choose t (refused 3) (ext_kind (id_at s at) s at) ≡ got l n → full_number (id_at s at) ≡ link_number l
    go true g = not-refused _ 3 g
    go false g = kind-number (id_at s at) s at l n g

link-number : (left : ℕ) (s : List ℕ) (at : ℕ) (l : Link) (n : ℕ) → link left s at ≡ got l n → nhc_number s at ≡ link_number l
unfolding link
link-number left s at l n e =
    let i = invert (nhc s at) (λ k. link_of k left s at) _ e in
    number-go i.value left s at l n (nhc-kind s at i.value i.first) i.second

-- ---- a chain by its first step; m is the chain with one header fewer left
abbrev pub shorter : ℕ → List ℕ → Around → Reader Chain
shorter zero ctx = λ v. refuse 3
shorter (suc left) ctx = chain left ctx

pub chain-is : (left : ℕ) (ctx : List ℕ) (w : Around) (s : List ℕ) (at : ℕ) → chain left ctx w s at ≡ and_then (link left s at) (λ p. onward ctx (shorter left ctx) w p.value s p.next)
unfolding chain
chain-is zero ctx w s at = refl
chain-is (suc left) ctx w s at = refl

pub shorter-is : (left : ℕ) (ctx : List ℕ) → 1 ≤ left → shorter left ctx ≡ chain (left - 1) ctx
shorter-is zero ctx h = absurd (omega arith)
shorter-is (suc left) ctx h = let e : suc left - 1 ≡ left = omega arith in ap (λ z. chain z ctx) (sym e)

-- what behind a step is read has the step's number
onward-number : (ctx : List ℕ) (m : Around → Reader Chain) (w : Around) (l : Link) (s : List ℕ) (at : ℕ) (c : Chain) (n : ℕ) → onward ctx m w l s at ≡ got c n → link_number l ≡ head_number c
unfolding onward udp_end header_then
onward-number ctx m w (udp_link h) s at c n e = go (w.routed && is_absent h.checksum) e
  where
    go : (t : Bool) → choose t (refused 13) (got (udp_then h (drop at s)) at) ≡ got c n → 17 ≡ head_number c
    go true g = not-refused _ 13 g
    go false g = ap head_number (got-value (udp_then h (drop at s)) c at n g)
onward-number ctx m w (ext_link x d next) s at c n e =
    let i = invert (behind_next next (m (past x w)) s at) (λ p. got (extension x d p.value) p.next) _ e in
    ap head_number (got-value (extension x d i.value.value) c i.value.next n i.second)
onward-number ctx m w inner_link s at c n e =
    let i = invert (iphc ctx (inside w.src) (inside w.dst) s at) (λ p. and_then (behind_next p.value.next_header (m (within p.value)) s p.next) (λ q. got (ipv6 p.value q.value) q.next)) _ e in
    let j = invert (behind_next i.value.value.next_header (m (within i.value.value)) s i.value.next) (λ q. got (ipv6 i.value.value q.value) q.next) _ i.second in
    ap head_number (got-value (ipv6 i.value.value j.value.value) c j.value.next n j.second)

-- the number in a next header field is that of the chain behind it
pub number_read : (next : NextHeader) (left : ℕ) (ctx : List ℕ) (w : Around) (s : List ℕ) (at : ℕ) (c : Chain) (n : ℕ) → behind_next next (chain left ctx w) s at ≡ got c n → next_number next s at ≡ head_number c
unfolding behind_next
number_read (Uncompressed p) left ctx w s at c n e = ap head_number (got-value (rest p.0 (drop at s)) c at n e)
number_read Compressed left ctx w s at c n e =
    let i = invert (link left s at) (λ p. onward ctx (shorter left ctx) w p.value s p.next) _ (sym (chain-is left ctx w s at) ∙ e) in
    link-number left s at i.value.value i.value.next i.first ∙ onward-number ctx (shorter left ctx) w i.value.value s i.value.next c n i.second

-- ---- what is inside an IPv6 header depends on the identifiers of its addresses, and not on their prefixes
abbrev Same : Around → Around → Type 0
Same v w = (v.src.iid ≡ w.src.iid) × (v.dst.iid ≡ w.dst.iid) × (v.routed ≡ w.routed)

then_same : {A B : Type 0} (m : Answer A) (f g : A → Answer B) → ((x : A) → f x ≡ g x) → and_then m f ≡ and_then m g
then_same (is x) f g e = e x
then_same (refused n) f g e = refl

abbrev Blind : (Around → Reader Chain) → Type 0
Blind m = (v w : Around) → Same v w → (s : List ℕ) (at : ℕ) → m v s at ≡ m w s at

behind-same : (m : Around → Reader Chain) → Blind m → (next : NextHeader) (v w : Around) → Same v w → (s : List ℕ) (at : ℕ) → behind_next next (m v) s at ≡ behind_next next (m w) s at
unfolding behind_next
behind-same m f (Uncompressed p) v w e s at = refl
behind-same m f Compressed v w e s at = f v w e s at

onward-same : (ctx : List ℕ) (m : Around → Reader Chain) → Blind m → (l : Link) (v w : Around) → Same v w → (s : List ℕ) (at : ℕ) → onward ctx m v l s at ≡ onward ctx m w l s at
unfolding onward udp_end
onward-same ctx m f (udp_link h) v w e s at = ap (λ t. choose (t && is_absent h.checksum) (refused 13) (got (udp_then h (drop at s)) at)) e.2
onward-same ctx m f (ext_link x d next) v w e s at = ap (λ z. and_then z (λ p. got (extension x d p.value) p.next)) (behind-same m f next (past x v) (past x w) (e.0, e.1, ap (λ t. eqb x 43 || t) e.2) s at)
onward-same ctx m f inner_link v w e s at = ap (λ z. header_then ctx (identified z) (inside v.dst) m s at) e.0 ∙ ap (λ z. header_then ctx (inside w.src) (identified z) m s at) e.1

pub chain_same : (left : ℕ) (ctx : List ℕ) → Blind (chain left ctx)
chain_same zero ctx v w e s at =
    chain-is zero ctx v s at
    ∙ then_same (link zero s at) _ _ (λ p. onward-same ctx (λ u. refuse 3) (λ a b h t k. refl) p.value v w e s p.next)
    ∙ sym (chain-is zero ctx w s at)
chain_same (suc left) ctx v w e s at =
    chain-is (suc left) ctx v s at
    ∙ then_same (link (suc left) s at) _ _ (λ p. onward-same ctx (chain left ctx) (chain_same left ctx) p.value v w e s p.next)
    ∙ sym (chain-is (suc left) ctx w s at)

pub next-same : (next : NextHeader) (left : ℕ) (ctx : List ℕ) (v w : Around) (s : List ℕ) (at : ℕ) → v.src.iid ≡ w.src.iid → v.dst.iid ≡ w.dst.iid → v.routed ≡ w.routed → behind_next next (chain left ctx v) s at ≡ behind_next next (chain left ctx w) s at
next-same next left ctx v w s at a b c = behind-same (chain left ctx) (chain_same left ctx) next v w (a, b, c) s at

-- ---- how long a chain gets: a header takes at most 40 bytes more than it was read from, and UDP 8
abbrev Within : ℕ → List ℕ → ℕ → Chain → Type 0
Within left s at c = size_of c ≤ 40 * left + 8 + (length s - at)

abbrev Small : ℕ → List ℕ → (Around → Reader Chain) → Type 0
Small left s m = (v : Around) (from : ℕ) (d : Chain) (k : ℕ) → m v s from ≡ got d k → Within left s from d

behind-size : (left : ℕ) (s : List ℕ) (m : Around → Reader Chain) → Small left s m → (v : Around) (next : NextHeader) (from : ℕ) (d : Chain) (k : ℕ) → behind_next next (m v) s from ≡ got d k → Within left s from d
unfolding behind_next size_of
behind-size left s m f v (Uncompressed p) from d k e = subst (Within left s from) (got-value (rest p.0 (drop from s)) d from k e) (omega (arith, length-drop from s))
behind-size left s m f v Compressed from d k e = f v from d k e

pub header-size : (left : ℕ) (ctx s : List ℕ) (ls ld : Option Address) (m : Around → Reader Chain) → Small left s m → (at : ℕ) (c : Chain) (n : ℕ) → header_then ctx ls ld m s at ≡ got c n → Within (left + 1) s at c
unfolding header_then size_of
header-size left ctx s ls ld m f at c n e =
    let i = invert (iphc ctx ls ld s at) (λ p. and_then (behind_next p.value.next_header (m (within p.value)) s p.next) (λ q. got (ipv6 p.value q.value) q.next)) _ e in
    let h = i.value.value in
    let j = invert (behind_next h.next_header (m (within h)) s i.value.next) (λ q. got (ipv6 h q.value) q.next) _ i.second in
    let r = iphc-reach ctx ls ld s at h i.value.next i.first in
    let z : Within left s i.value.next j.value.value = behind-size left s m f (within h) h.next_header i.value.next j.value.value j.value.next j.first in
    subst (Within (left + 1) s at) (got-value (ipv6 h j.value.value) c j.value.next n j.second) (omega (arith, z, r))

onward-size : (left : ℕ) (ctx s : List ℕ) (m : Around → Reader Chain) → Small left s m → (w : Around) (l : Link) (at to : ℕ) (c : Chain) (n : ℕ) → Reach l at to → to ≤ length s → onward ctx m w l s to ≡ got c n → Within (left + 1) s at c
unfolding onward udp_end size_of
onward-size left ctx s m f w (udp_link h) at to c n r b e = go (w.routed && is_absent h.checksum) e
  where
    go : (t : Bool) → choose t (refused 13) (got (udp_then h (drop to s)) to) ≡ got c n → Within (left + 1) s at c
    go true g = not-refused _ 13 g
    go false g = subst (Within (left + 1) s at) (got-value (udp_then h (drop to s)) c to n g) (omega (arith, length-drop to s, r))
onward-size left ctx s m f w (ext_link x d next) at to c n r b e =
    let i = invert (behind_next next (m (past x w)) s to) (λ p. got (extension x d p.value) p.next) _ e in
    let z : Within left s to i.value.value = behind-size left s m f (past x w) next to i.value.value i.value.next i.first in
    subst (Within (left + 1) s at) (got-value (extension x d i.value.value) c i.value.next n i.second) (omega (arith, z, r))
onward-size left ctx s m f w inner_link at to c n r b e =
    let z : Within (left + 1) s to c = header-size left ctx s (inside w.src) (inside w.dst) m f to c n e in
    omega (arith, z, r)

-- where no header is left, only UDP
last-size : (ctx s : List ℕ) (w : Around) (l : Link) (at to : ℕ) (c : Chain) (n : ℕ) → Reach l at to → Wants l 0 → onward ctx (λ v. refuse 3) w l s to ≡ got c n → Within 0 s at c
unfolding onward udp_end size_of
last-size ctx s w (udp_link h) at to c n r k e = go (w.routed && is_absent h.checksum) e
  where
    go : (t : Bool) → choose t (refused 13) (got (udp_then h (drop to s)) to) ≡ got c n → Within 0 s at c
    go true g = not-refused _ 13 g
    go false g = subst (Within 0 s at) (got-value (udp_then h (drop to s)) c to n g) (omega (arith, length-drop to s, r))
last-size ctx s w (ext_link x d next) at to c n r k e = absurd (omega (arith, k))
last-size ctx s w inner_link at to c n r k e = absurd (omega (arith, k))

pub chain-size : (left : ℕ) (ctx s : List ℕ) → Small left s (chain left ctx)
chain-size zero ctx s w at c n e =
    let i = invert (link zero s at) (λ p. onward ctx (λ v. refuse 3) w p.value s p.next) _ (sym (chain-is zero ctx w s at) ∙ e) in
    let t = link-steps zero s at i.value.value i.value.next i.first in
    last-size ctx s w i.value.value at i.value.next c n t.reach t.wants i.second
chain-size (suc left) ctx s w at c n e =
    let i = invert (link (suc left) s at) (λ p. onward ctx (chain left ctx) w p.value s p.next) _ (sym (chain-is (suc left) ctx w s at) ∙ e) in
    let t = link-steps (suc left) s at i.value.value i.value.next i.first in
    let z : Within (left + 1) s at c = onward-size left ctx s (chain left ctx) (chain-size left ctx s) w i.value.value at i.value.next c n t.reach t.ends i.second in
    omega (arith, z)

-- ---- RFC 6282, 3.2.2: the identifier of the address outside, its last 64 bits, whatever they are
flip-back : (x : ℕ) → flip57 (flip57 x) ≡ x
flip-back x = go (eqb (x / 2 ^ 57 % 2) 0) refl
  where
    go : (t : Bool) → eqb (x / 2 ^ 57 % 2) 0 ≡ t → flip57 (choose t (x + 2 ^ 57) (x - 2 ^ 57)) ≡ x
    go true e =
        let k : (x + 2 ^ 57) / 2 ^ 57 % 2 ≡ 0 → ⊥ = λ z. omega (arith, eqb-true (x / 2 ^ 57 % 2) 0 e, z) in
        rw (ne_eqb ((x + 2 ^ 57) / 2 ^ 57 % 2) 0 k) (omega arith)
    go false e =
        let n : x / 2 ^ 57 % 2 ≡ 0 → ⊥ = eqb-false (x / 2 ^ 57 % 2) 0 e in
        let k : (x - 2 ^ 57) / 2 ^ 57 % 2 ≡ 0 = omega (arith, n) in
        rw (eq-eqb ((x - 2 ^ 57) / 2 ^ 57 % 2) 0 k) (omega (arith, n))

pub inside-iid : (a : Ipv6Addr) → link_iid (inside a) ≡ is a.iid
inside-iid a = ap is (flip-back a.iid)
