-- A reader answers by the bytes from its place on: with other bytes in front, and its place moved by as many, it gives the same value, or the
-- same refusal, and ends as far behind its place.
use Rattle.ieee802154.specs.declared.addr.Address.{Address}
use Rattle.std.specs.Prelude.{Option, Some, None}
use Prim.Native.Nat.{ℕ, zero, suc, ◌+◌, ◌*◌, ◌/◌, ◌%◌, ◌^◌, ◌≤◌}
use native.Mathlib.Nat.{add_assoc}
use native.Mathlib.Omega.{arith}
use mathlib.Core.List.{List, ◌++◌}
use mathlib.Core.Bool.{Bool, true, false, ◌&&◌}
use mathlib.Core.Path.{◌≡◌, refl, ap, ◌∙◌}
use lib.Dec.{eqb, ltb, leb}
use lib.ListN.{length, get_or, take, drop, length-append}
use lib.Seq.{get_or-append-add, drop-append-add}
use borrow.Author.Tests.{lt-ltb, le-ltb, ltb-true, ltb-false, le-leb, lt-leb, leb-true, leb-false}
use Rattle.octets.specs.Read.{Answer, is, refused, Read, Reader, got, and_then, choose, branch, ◌>>=◌, give, refuse, byte, be16, be32, be64, skip}
use Rattle.octets.specs.Ipv6.{ip}
use Rattle.iphc.specs.Iphc as Iphc
use Rattle.iphc.specs.declared.read.Base.{Base}
use Rattle.iphc.specs.declared.read.Contexts.{Contexts}
use Rattle.iphc.specs.declared.read.Traffic.{Traffic}
use Rattle.expand.specs.Full.{is_absent}
use Rattle.expand.specs.Chain.{Chain, rest, udp_then, extension, ipv6, Link, udp_link, ext_link, inner_link, Around, full_number, bad_length, octets, ext_data, ext_body, inner_byte, ext_kind, udp_step, link_of, link, within, past, inside, remaining, behind_next, header_then, udp_end, onward, chain, chained}
use Rattle.expand.specs.Expand.{sized, expansion}
use Rattle.sixlowpan.specs.NhcExt.{id_of, ext_rest, ext}
use Rattle.sixlowpan.specs.declared.nhc.ExtHeaderId.{ExtHeaderId}
use Rattle.sixlowpan.specs.declared.nhc.ExtHeaderId.TheVariants.{HopByHopHeader, RoutingHeader, FragmentHeader, DestinationOptionsHeader, MobilityHeader, Header, Reserved}
use Rattle.sixlowpan.specs.declared.protocol.NextHeader.{NextHeader}
use Rattle.sixlowpan.specs.declared.nhc.NhcPacket.{NhcPacket}
use Rattle.sixlowpan.specs.declared.nhc.NhcPacket.TheVariants.{ExtHeader, UdpHeader}
use Rattle.sixlowpan.specs.Frag.{frag_rest, frag}
use Rattle.sixlowpan.specs.Dispatch.{dispatch_of, dispatch}
use Rattle.sixlowpan.specs.Next.{next_header}
use Rattle.sixlowpan.specs.Nhc.{nhc_of, nhc}
use Rattle.sixlowpan.specs.NhcUdp.{port, both_ports, ports, checksum, udp_rest, udp}
use Rattle.sixlowpan.specs.declared.frag.Repr.TheVariants.{Fragment}
use Rattle.sixlowpan.specs.declared.protocol.NextHeader.TheVariants.{Uncompressed, Compressed}

abbrev pub from : {A : Type 0} → ℕ → Read A → Read A
from n (is x) = got x.value (n + x.next)
from n (refused e) = refused e

abbrev pub Moves : {A : Type 0} → Reader A → Type 0
Moves {A} m = (p q : List ℕ) (k : ℕ) → m (p ++ q) (length p + k) ≡ from (length p) (m q k)

-- ---- as readers are put together
pub moves-give : {A : Type 0} (x : A) → Moves (give x)
moves-give x p q k = refl

pub moves-refuse : {A : Type 0} (n : ℕ) → Moves {A = A} (refuse n)
moves-refuse n p q k = refl

then-go : {A B : Type 0} (f : A → Reader B) → ((a : A) → Moves (f a)) → (p q : List ℕ) (r : Read A) → and_then (from (length p) r) (λ x. f x.value (p ++ q) x.next) ≡ from (length p) (and_then r (λ x. f x.value q x.next))
then-go f w p q (is x) = w x.value p q x.next
then-go f w p q (refused e) = refl

pub moves-then : {A B : Type 0} (m : Reader A) (f : A → Reader B) → Moves m → ((a : A) → Moves (f a)) → Moves (◌>>=◌ m f)
moves-then m f v w p q k = ap (λ r. and_then r (λ x. f x.value (p ++ q) x.next)) (v p q k) ∙ then-go f w p q (m q k)

pub moves-map : {A B : Type 0} (m : Reader A) (f : A → B) → Moves m → Moves (◌>>=◌ m (λ a. give (f a)))
moves-map m f v = moves-then m (λ a. give (f a)) v (λ a. moves-give (f a))

pub moves_both : {A B C : Type 0} (m : Reader A) (k : Reader B) (f : A → B → C) → Moves m → Moves k → Moves (◌>>=◌ m (λ a. ◌>>=◌ k (λ b. give (f a b))))
moves_both m k f v w = moves-then m (λ a. ◌>>=◌ k (λ b. give (f a b))) v (λ a. moves-map k (f a) w)

pub moves-branch : {A : Type 0} (t : Bool) (m f : Reader A) → Moves m → Moves f → Moves (branch t m f)
moves-branch true m f v w p q k = v p q k
moves-branch false m f v w p q k = w p q k

-- ---- numbers
ltb-go : (n k m : ℕ) (t : Bool) → ltb k m ≡ t → ltb (n + k) (n + m) ≡ t
ltb-go n k m true e = lt-ltb (n + k) (n + m) (omega (arith, ltb-true k m e))
ltb-go n k m false e = le-ltb (n + k) (n + m) (omega (arith, ltb-false k m e))

byte-go : (n k b : ℕ) (t : Bool) → choose t (got b (n + k + 1)) (refused 1) ≡ from n (choose t (got b (k + 1)) (refused 1))
byte-go n k b true = ap (λ i. got b i) (add_assoc n k 1)
byte-go n k b false = refl

pub moves-byte : Moves byte
unfolding byte
moves-byte p q k =
    let t = ltb k (length q) in
    let e : ltb (length p + k) (length (p ++ q)) ≡ t = ap (λ n. ltb (length p + k) n) (length-append p q) ∙ ltb-go (length p) k (length q) t refl in
    rw (e, get_or-append-add p q k 0) (byte-go (length p) k (get_or q k 0) t)

pub moves-be16 : Moves be16
unfolding be16
moves-be16 = moves_both byte byte (λ a b. a * 256 + b) moves-byte moves-byte

pub moves-be32 : Moves be32
unfolding be32
moves-be32 = moves_both be16 be16 (λ a b. a * 2 ^ 16 + b) moves-be16 moves-be16

pub moves-be64 : Moves be64
unfolding be64
moves-be64 = moves_both be32 be32 (λ a b. a * 2 ^ 32 + b) moves-be32 moves-be32

-- ---- fragment headers, UDP headers
moves-frag-rest : (word tag : ℕ) → Moves (frag_rest word tag)
unfolding frag_rest
moves-frag-rest word tag =
    moves-branch (eqb (word / 2048) 0b11000) (give _) _ (moves-give _)
    (moves-branch (eqb (word / 2048) 0b11100) _ (refuse 2) (moves-map byte (λ o. Fragment (word % 2048) tag (record { 0 = o })) moves-byte) (moves-refuse 2))

pub moves-frag : Moves frag
unfolding frag
moves-frag = moves-then be16 (λ word. ◌>>=◌ be16 (λ tag. frag_rest word tag)) moves-be16 (λ word. moves-then be16 (λ tag. frag_rest word tag) moves-be16 (λ tag. moves-frag-rest word tag))

pub moves_next : (nh : ℕ) → Moves (next_header nh)
unfolding next_header
moves_next nh = moves-branch (eqb nh 0) _ (give Compressed) (moves-map byte (λ p. Uncompressed (record { 0 = p })) moves-byte) (moves-give Compressed)

moves-port : (t : Bool) → Moves (port t)
unfolding port
moves-port t = moves-branch t _ be16 (moves-map byte (λ low. 0xf000 + low) moves-byte) moves-be16

moves-ports : (p : ℕ) → Moves (ports p)
unfolding ports both_ports
moves-ports p =
    moves-branch (eqb p 0b11) _ _ (moves-map byte (λ low. record { src = 0xf0b0 + low / 16; dst = 0xf0b0 + low % 16 }) moves-byte)
    (moves_both (port (eqb p 0b10)) (port (eqb p 0b01)) (λ a b. record { src = a; dst = b }) (moves-port (eqb p 0b10)) (moves-port (eqb p 0b01)))

moves-checksum : (e : ℕ) → Moves (checksum e)
unfolding checksum
moves-checksum e = moves-branch (eqb e 0) _ (give None) (moves-map be16 Some moves-be16) (moves-give None)

moves-udp-rest : (b : ℕ) → Moves (udp_rest b)
unfolding udp_rest
moves-udp-rest b =
    moves_both (ports (b % 4)) (checksum (b / 4 % 2)) (λ x y. record { src_port = x.src; dst_port = x.dst; checksum = y }) (moves-ports (b % 4)) (moves-checksum (b / 4 % 2))

pub moves-udp : Moves udp
unfolding udp
moves-udp = moves-then byte (λ b. branch (eqb (b / 8) 0b11110) (udp_rest b) (refuse 2)) moves-byte (λ b. moves-branch (eqb (b / 8) 0b11110) (udp_rest b) (refuse 2) (moves-udp-rest b) (moves-refuse 2))

-- ---- what the first byte tells
first-go : {A : Type 0} (n : ℕ) (f : ℕ → Answer A) (r : Read ℕ) → and_then (from n r) (λ x. f x.value) ≡ and_then r (λ x. f x.value)
first-go n f (is x) = refl
first-go n f (refused e) = refl

pub same-dispatch : (p q : List ℕ) (k : ℕ) → dispatch (p ++ q) (length p + k) ≡ dispatch q k
unfolding dispatch
same-dispatch p q k = ap (λ r. and_then r (λ x. dispatch_of x.value)) (moves-byte p q k) ∙ first-go (length p) dispatch_of (byte q k)

pub same-nhc : (p q : List ℕ) (k : ℕ) → nhc (p ++ q) (length p + k) ≡ nhc q k
unfolding nhc
same-nhc p q k = ap (λ r. and_then r (λ x. nhc_of x.value)) (moves-byte p q k) ∙ first-go (length p) nhc_of (byte q k)

-- ---- compressed headers
moves-having : {A B : Type 0} (a : Answer A) (f : A → Reader B) → ((x : A) → Moves (f x)) → Moves (Iphc.having a f)
moves-having (is x) f w p q k = w x p q k
moves-having (refused n) f w p q k = refl

moves-base : Moves Iphc.base
unfolding Iphc.base
moves-base = moves-then be16 (λ v. branch (eqb (v / 2 ^ 13) 0b011) (give v) (refuse 2)) moves-be16 (λ v. moves-branch (eqb (v / 2 ^ 13) 0b011) (give v) (refuse 2) (moves-give v) (moves-refuse 2))

moves-contexts : (cid : ℕ) → Moves (Iphc.contexts cid)
unfolding Iphc.contexts
moves-contexts cid = moves-branch (eqb cid 0) (give _) _ (moves-give _) (moves-map byte (λ b. record { src = b / 16; dst = b % 16 }) moves-byte)

moves-labelled : (high : ℕ) (e d : Option ℕ) → Moves (Iphc.labelled high e d)
unfolding Iphc.labelled
moves-labelled high e d = moves-map be16 (λ low. Iphc.traffic_of e d (Some (Iphc.label_of high low))) moves-be16

moves-traffic : (tf : ℕ) → Moves (Iphc.traffic tf)
unfolding Iphc.traffic Iphc.class_and_label Iphc.ecn_and_label Iphc.class_only
moves-traffic tf =
    moves-branch (eqb tf 0b00) _ _
    (moves-then byte (λ b. ◌>>=◌ byte (λ h. Iphc.labelled h (Iphc.ecn_of b) (Iphc.dscp_of b))) moves-byte
    (λ b. moves-then byte (λ h. Iphc.labelled h (Iphc.ecn_of b) (Iphc.dscp_of b)) moves-byte (λ h. moves-labelled h (Iphc.ecn_of b) (Iphc.dscp_of b))))
    (moves-branch (eqb tf 0b01) _ _ (moves-then byte (λ b. Iphc.labelled b (Iphc.ecn_of b) None) moves-byte (λ b. moves-labelled b (Iphc.ecn_of b) None))
    (moves-branch (eqb tf 0b10) _ (give _) (moves-map byte (λ b. Iphc.traffic_of (Iphc.ecn_of b) (Iphc.dscp_of b) None) moves-byte) (moves-give _)))

moves-hop-limit : (h : ℕ) → Moves (Iphc.hop_limit h)
unfolding Iphc.hop_limit
moves-hop-limit h =
    moves-branch (eqb h 0b00) byte _ moves-byte
    (moves-branch (eqb h 0b01) (give 1) _ (moves-give 1) (moves-branch (eqb h 0b10) (give 64) (give 255) (moves-give 64) (moves-give 255)))

moves-front-rest : (b : Base) (i : Contexts) (t : Traffic) → Moves (Iphc.front_rest b i t)
unfolding Iphc.front_rest
moves-front-rest b i t =
    moves_both (next_header b.nh) (Iphc.hop_limit b.hlim) (λ n h. record { contexts = i; traffic = t; next_header = n; hop_limit = h }) (moves_next b.nh) (moves-hop-limit b.hlim)

moves_front : (b : Base) → Moves (Iphc.front b)
unfolding Iphc.front
moves_front b =
    moves-then (Iphc.contexts b.cid) (λ i. ◌>>=◌ (Iphc.traffic b.tf) (λ t. Iphc.front_rest b i t)) (moves-contexts b.cid)
    (λ i. moves-then (Iphc.traffic b.tf) (λ t. Iphc.front_rest b i t) (moves-traffic b.tf) (λ t. moves-front-rest b i t))

moves-identifier : (mode : ℕ) (ll : Option Address) → Moves (Iphc.identifier mode ll)
unfolding Iphc.identifier
moves-identifier mode ll =
    moves-branch (eqb mode 0b01) be64 _ moves-be64
    (moves-branch (eqb mode 0b10) _ _ (moves-map be16 Iphc.short_iid moves-be16) (moves-having (Iphc.link_iid ll) give moves-give))

moves-full : Moves Iphc.full
unfolding Iphc.full
moves-full = moves_both be64 be64 ip moves-be64 moves-be64

moves-elided : (ctx : List ℕ) (ac mode id : ℕ) (ll : Option Address) → Moves (Iphc.elided ctx ac mode id ll)
unfolding Iphc.elided
moves-elided ctx ac mode id ll =
    moves-then (Iphc.identifier mode ll) (λ i. Iphc.having (Iphc.prefix_of ctx ac id) (λ x. give (ip x i))) (moves-identifier mode ll)
    (λ i. moves-having (Iphc.prefix_of ctx ac id) (λ x. give (ip x i)) (λ x. moves-give (ip x i)))

moves-source : (ctx : List ℕ) (sac sam id : ℕ) (ll : Option Address) → Moves (Iphc.source ctx sac sam id ll)
unfolding Iphc.source
moves-source ctx sac sam id ll =
    moves-branch (eqb sam 0b00) _ _ (moves-branch (eqb sac 0) Iphc.full (give _) moves-full (moves-give _)) (moves-elided ctx sac sam id ll)

moves-multicast : (dam : ℕ) → Moves (Iphc.multicast dam)
unfolding Iphc.multicast Iphc.group48 Iphc.group32 Iphc.group8
moves-multicast dam =
    moves-branch (eqb dam 0b00) Iphc.full _ moves-full
    (moves-branch (eqb dam 0b01) _ _ (moves_both be16 be32 (λ x y. ip ((0xff00 + x / 256) * 2 ^ 48) (x % 256 * 2 ^ 32 + y)) moves-be16 moves-be32)
    (moves-branch (eqb dam 0b10) _ _ (moves-map be32 (λ x. ip ((0xff00 + x / 2 ^ 24) * 2 ^ 48) (x % 2 ^ 24)) moves-be32) (moves-map byte (λ x. ip (0xff02 * 2 ^ 48) x) moves-byte)))

moves-destination : (ctx : List ℕ) (m dac dam id : ℕ) (ll : Option Address) → Moves (Iphc.destination ctx m dac dam id ll)
unfolding Iphc.destination
moves-destination ctx m dac dam id ll =
    moves-branch (eqb m 0) _ _
    (moves-branch (eqb dam 0b00) _ _ (moves-branch (eqb dac 0) Iphc.full (refuse 3) moves-full (moves-refuse 3)) (moves-elided ctx dac dam id ll))
    (moves-branch (eqb dac 0) (Iphc.multicast dam) (refuse 3) (moves-multicast dam) (moves-refuse 3))

moves-addresses : (ctx : List ℕ) (b : Base) (i : Contexts) (ls ld : Option Address) → Moves (Iphc.addresses ctx b i ls ld)
unfolding Iphc.addresses
moves-addresses ctx b i ls ld =
    moves_both (Iphc.source ctx b.sac b.sam i.src ls) (Iphc.destination ctx b.m b.dac b.dam i.dst ld) (λ x y. record { src = x; dst = y })
    (moves-source ctx b.sac b.sam i.src ls) (moves-destination ctx b.m b.dac b.dam i.dst ld)

pub moves-iphc : (ctx : List ℕ) (ls ld : Option Address) → Moves (Iphc.iphc ctx ls ld)
unfolding Iphc.iphc Iphc.behind
moves-iphc ctx ls ld =
    moves-then Iphc.base (λ v. ◌>>=◌ (Iphc.front (Iphc.base_of v)) (λ f. ◌>>=◌ (Iphc.addresses ctx (Iphc.base_of v) f.contexts ls ld) (λ a. give (Iphc.repr_of ls ld f a)))) moves-base
    (λ v. moves-then (Iphc.front (Iphc.base_of v)) (λ f. ◌>>=◌ (Iphc.addresses ctx (Iphc.base_of v) f.contexts ls ld) (λ a. give (Iphc.repr_of ls ld f a))) (moves_front (Iphc.base_of v))
    (λ f. moves-map (Iphc.addresses ctx (Iphc.base_of v) f.contexts ls ld) (Iphc.repr_of ls ld f) (moves-addresses ctx (Iphc.base_of v) f.contexts ls ld)))

-- ---- a chain of headers (02, item 5)
pub moves-skip : (n : ℕ) → Moves (skip n)
unfolding skip
moves-skip n p q k =
    let e : leb (length p + k + n) (length (p ++ q)) ≡ leb (k + n) (length q) = ap (λ z. leb z (length (p ++ q))) (add_assoc (length p) k n) ∙ ap (leb (length p + (k + n))) (length-append p q) ∙ leb-go (length p) (k + n) (length q) (leb (k + n) (length q)) refl in
    rw e (skip-go (length p) k n (leb (k + n) (length q)))
  where
    leb-go : (n k m : ℕ) (t : Bool) → leb k m ≡ t → leb (n + k) (n + m) ≡ t
    leb-go n k m true e = le-leb (n + k) (n + m) (omega (arith, leb-true k m e))
    leb-go n k m false e = lt-leb (n + k) (n + m) (omega (arith, leb-false k m e))

    skip-go : (n k m : ℕ) (t : Bool) → choose t (got {A = Unit {0}} tt (n + k + m)) (refused 1) ≡ from n (choose t (got tt (k + m)) (refused 1))
    skip-go n k m true = ap (λ i. got {A = Unit {0}} tt i) (add_assoc n k m)
    skip-go n k m false = refl

moves-octets : (n : ℕ) → Moves (octets n)
unfolding octets
moves-octets n p q k = rw (moves-skip n p q k, drop-append-add p q k) (go (skip n q k))
  where
    go : (r : Read (Unit {0})) → and_then (from (length p) r) (λ x. got (take n (drop k q)) x.next) ≡ from (length p) (and_then r (λ x. got (take n (drop k q)) x.next))
    go (is x) = refl
    go (refused e) = refl

moves-ext : Moves ext
unfolding ext ext_rest
moves-ext =
    moves-then byte (λ b. branch (eqb (b / 16) 0b1110) _ (refuse 2)) moves-byte
    (λ b. moves-branch (eqb (b / 16) 0b1110) _ (refuse 2) (moves_both (next_header (b % 2)) byte (λ next n. record { ext_header_id = id_of (b / 2 % 8); next_header = next; length = n }) (moves_next (b % 2)) moves-byte) (moves-refuse 2))

moves-body : (id : ExtHeaderId) → Moves (ext_body id)
unfolding ext_body ext_data
moves-body id =
    moves-then ext (λ h. branch (bad_length id h.length) (refuse 3) (◌>>=◌ (octets h.length) (λ d. give (ext_link (full_number id) d h.next_header)))) moves-ext
    (λ h. moves-branch (bad_length id h.length) (refuse 3) _ (moves-refuse 3) (moves-map (octets h.length) (λ d. ext_link (full_number id) d h.next_header) (moves-octets h.length)))

moves-inner : Moves inner_byte
unfolding inner_byte
moves-inner = moves-then byte (λ b. branch (eqb (b % 2) 0) (give inner_link) (refuse 3)) moves-byte (λ b. moves-branch (eqb (b % 2) 0) (give inner_link) (refuse 3) (moves-give inner_link) (moves-refuse 3))

moves-kind : (id : ExtHeaderId) → Moves (ext_kind id)
moves-kind HopByHopHeader = moves-body HopByHopHeader
moves-kind RoutingHeader = moves-body RoutingHeader
moves-kind FragmentHeader = moves-refuse 13
moves-kind DestinationOptionsHeader = moves-body DestinationOptionsHeader
moves-kind MobilityHeader = moves-body MobilityHeader
moves-kind Header = moves-inner
moves-kind Reserved = moves-refuse 13

moves-link-of : (k : NhcPacket) (left : ℕ) → Moves (link_of k left)
unfolding link_of udp_step
moves-link-of UdpHeader left p q k = moves-map udp udp_link moves-udp p q k
moves-link-of ExtHeader left p q k = rw (get_or-append-add p q k 0) (go (eqb left 0))
  where
    go : (t : Bool) → choose t (refused 3) (ext_kind (id_of (get_or q k 0 / 2 % 8)) (p ++ q) (length p + k)) ≡ from (length p) (choose t (refused 3) (ext_kind (id_of (get_or q k 0 / 2 % 8)) q k))
    go true = refl
    go false = moves-kind (id_of (get_or q k 0 / 2 % 8)) p q k

moves-link : (left : ℕ) → Moves (link left)
unfolding link
moves-link left p q k = rw (same-nhc p q k) (go (nhc q k))
  where
    go : (r : Answer NhcPacket) → and_then r (λ c. link_of c left (p ++ q) (length p + k)) ≡ from (length p) (and_then r (λ c. link_of c left q k))
    go (is c) = moves-link-of c left p q k
    go (refused e) = refl

moves-remaining : Moves remaining
moves-remaining p q k = ap (λ z. got z (length p + k)) (drop-append-add p q k)

moves-behind : (n : NextHeader) (m : Reader Chain) → Moves m → Moves (behind_next n m)
unfolding behind_next
moves-behind (Uncompressed x) m v = moves-map remaining (λ d. rest x.0 d) moves-remaining
moves-behind Compressed m v = v

moves-header : (ctx : List ℕ) (ls ld : Option Address) (m : Around → Reader Chain) → ((w : Around) → Moves (m w)) → Moves (header_then ctx ls ld m)
unfolding header_then
moves-header ctx ls ld m v =
    moves-then (Iphc.iphc ctx ls ld) (λ h. ◌>>=◌ (behind_next h.next_header (m (within h))) (λ c. give (ipv6 h c))) (moves-iphc ctx ls ld)
    (λ h. moves-map (behind_next h.next_header (m (within h))) (λ c. ipv6 h c) (moves-behind h.next_header (m (within h)) (v (within h))))

moves-onward : (ctx : List ℕ) (m : Around → Reader Chain) (w : Around) (l : Link) → ((v : Around) → Moves (m v)) → Moves (onward ctx m w l)
unfolding onward udp_end
moves-onward ctx m w (udp_link h) v = moves-branch (w.routed && is_absent h.checksum) (refuse 13) _ (moves-refuse 13) (moves-map remaining (λ d. udp_then h d) moves-remaining)
moves-onward ctx m w (ext_link x d next) v = moves-map (behind_next next (m (past x w))) (λ c. extension x d c) (moves-behind next (m (past x w)) (v (past x w)))
moves-onward ctx m w inner_link v = moves-header ctx (inside w.src) (inside w.dst) m v

moves-chain : (left : ℕ) (ctx : List ℕ) (w : Around) → Moves (chain left ctx w)
unfolding chain
moves-chain zero ctx w = moves-then (link 0) (λ l. onward ctx (λ v. refuse 3) w l) (moves-link 0) (λ l. moves-onward ctx (λ v. refuse 3) w l (λ v. moves-refuse 3))
moves-chain (suc left) ctx w = moves-then (link (suc left)) (λ l. onward ctx (chain left ctx) w l) (moves-link (suc left)) (λ l. moves-onward ctx (chain left ctx) w l (λ v. moves-chain left ctx v))

moves-chained : (ctx : List ℕ) (ls ld : Option Address) → Moves (chained ctx ls ld)
unfolding chained
moves-chained ctx ls ld = moves-header ctx ls ld (chain 7 ctx) (λ w. moves-chain 7 ctx w)

sized-go : (size : Option ℕ) (n : ℕ) (r : Read Chain) → and_then (from n r) (λ x. sized size x.value) ≡ and_then r (λ x. sized size x.value)
sized-go size n (is x) = refl
sized-go size n (refused e) = refl

-- a frame that is not too long
pub same-expansion : (ctx : List ℕ) (ls ld : Option Address) (size : Option ℕ) (p q : List ℕ) (k : ℕ) → length (p ++ q) ≤ 127 → expansion ctx ls ld size (p ++ q) (length p + k) ≡ expansion ctx ls ld size q k
unfolding expansion
same-expansion ctx ls ld size p q k l =
    let m : length q ≤ 127 = omega (arith, length-append p q) in
    rw (le-ltb 127 (length (p ++ q)) l, le-ltb 127 (length q) m, moves-chained ctx ls ld p q k) (sized-go size (length p) (chained ctx ls ld q k))
