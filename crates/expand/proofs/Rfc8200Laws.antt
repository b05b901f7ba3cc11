-- Every expansion passes RFC 8200's own rules (specs/Rfc8200.antt), and has at most eight headers.
use Rattle.ieee802154.specs.declared.addr.Address.{Address}
use Rattle.std.specs.Prelude.{Option, Some, None}
use Prim.Native.Nat.{ℕ, zero, suc, ◌+◌, ◌-◌, ◌/◌, ◌%◌, ◌≤◌, ◌<◌}
use native.Mathlib.Omega.{arith}
use mathlib.Core.List.{List, ◌∷◌, ◌++◌}
use mathlib.Core.Bool.{Bool, true, false, true≢false, ◌&&◌, ◌||◌}
use mathlib.Core.Path.{◌≡◌, refl, sym, ap, subst, ◌∙◌}
use lib.ListN.{length, drop, replicate, length-append, length-replicate}
use lib.Seq.{drop_at}
use lib.Dec.{eqb, leb}
use borrow.Author.Tests.{le-leb, eq-eqb}
use Rattle.octets.specs.Read.{Reader, got, is, refused, and_then, choose, byte, refuse}
use Rattle.octets.specs.Write.{put, byte_bytes, be16_bytes, be32_bytes}
use Rattle.octets.proofs.Spans.{not-refused}
use Rattle.octets.proofs.Steps.{and-true}
use Rattle.iphc.specs.Iphc.{iphc}
use Rattle.iphc.specs.Shortest.{Bytes}
use Rattle.iphc.specs.declared.header.Repr.{Repr}
use Rattle.sixlowpan.specs.Nhc.{nhc}
use Rattle.sixlowpan.specs.NhcUdp.{udp}
use Rattle.sixlowpan.specs.declared.protocol.NextHeader.{NextHeader}
use Rattle.sixlowpan.specs.declared.protocol.NextHeader.TheVariants.{Compressed, Uncompressed}
use Rattle.sixlowpan.specs.declared.nhc.NhcPacket.{NhcPacket}
use Rattle.sixlowpan.specs.declared.nhc.NhcPacket.TheVariants.{ExtHeader, UdpHeader}
use Rattle.sixlowpan.specs.declared.nhc.ExtHeaderId.{ExtHeaderId}
use Rattle.sixlowpan.specs.declared.nhc.ExtHeaderId.TheVariants.{HopByHopHeader, RoutingHeader, FragmentHeader, DestinationOptionsHeader, MobilityHeader, Header, Reserved}
use Rattle.sixlowpan.specs.declared.nhc.UdpNhcRepr.{UdpNhcRepr}
use Rattle.expand.specs.Full.{is_absent, class_of, front_with, ipv6_with, udp_full}
use Rattle.expand.specs.Sum.{checksum_at, summed_at, was_elided, stands, summed_by}
use Rattle.expand.specs.Rfc8200.{byte_at, word_at, is_ipv6, is_extension, ext_size, has_extension, is_zeros, is_padding, is_udp, Last, ends_in, reads, is_datagram}
use Rattle.expand.specs.Chain.{Chain, rest, udp_then, extension, ipv6, Link, udp_link, ext_link, inner_link, Around, inner_byte, ext_kind, id_at, udp_step, link_of, link, within, past, inside, behind_next, header_then, udp_end, onward, chain, chained, head_number, pad, full_size, ext_full, size_of, full_bytes, sum_for, sum_in, numbers_of, last_of, total_of}
use Rattle.expand.specs.Expand.{Expansion, bytes_of, expansion}
use Rattle.expand.proofs.Inverting.{invert, got-value}
use Rattle.expand.proofs.FullLaws.{length-ipv6, length-udp, length-ext}
use Rattle.expand.proofs.ChainLaws.{Wants, link-steps, link_number, body-number, chain-is}
use Rattle.expand.proofs.ChecksumLaws.{put-behind}
use Rattle.expand.proofs.Labels.{class-fits, version-six}
use Rattle.expand.proofs.Datagrams.{Made, Outer, was-absent, outer-first, expansion-made, length-made}

-- ---- tests that hold
both : {x y : Bool} → x ≡ true → y ≡ true → (x && y) ≡ true
both p q = rw (p, q) refl

first : {x : Bool} (y : Bool) → x ≡ true → (x || y) ≡ true
first y p = rw p refl

second : (x : Bool) {y : Bool} → y ≡ true → (x || y) ≡ true
second true q = refl
second false q = q

-- ---- what one header says, in front of the bytes r
ipv6-says : (h : Repr) (next payload : ℕ) (r : List ℕ) → class_of h < 256 → let b = ipv6_with h next payload ++ r in (byte_at b 0 / 16 ≡ 6) × (word_at b 4 ≡ payload) × (byte_at b 6 ≡ next)
unfolding ipv6_with front_with be32_bytes be16_bytes byte_bytes
ipv6-says h next payload r k = (version-six h k, omega arith, refl)

ipv6-passes : (h : Repr) (next t : ℕ) (r : List ℕ) → class_of h < 256 → is_ipv6 t (ipv6_with h next (t - 40) ++ r) ≡ true
unfolding is_ipv6
ipv6-passes h next t r k =
    let x = ipv6_with h next (t - 40) in
    let f = ipv6-says h next (t - 40) r k in
    let l : 40 ≤ length (x ++ r) = omega (arith, length-append x r, length-ipv6 h next (t - 40)) in
    both (le-leb 40 (length (x ++ r)) l) (both (eq-eqb (byte_at (x ++ r) 0 / 16) 6 f.0) (eq-eqb (word_at (x ++ r) 4) (t - 40) f.1))

ipv6-reads : (h : Repr) (next t : ℕ) (r : List ℕ) (ns : List ℕ) (last : Last) → class_of h < 256 → reads ns last next (t - 40) r ≡ true → reads (41 ∷ ns) last 41 t (ipv6_with h next (t - 40) ++ r) ≡ true
unfolding reads
ipv6-reads h next t r ns last k e =
    let x = ipv6_with h next (t - 40) in
    let n : byte_at (x ++ r) 6 ≡ next = (ipv6-says h next (t - 40) r k).2 in
    let d : drop 40 (x ++ r) ≡ r = drop_at x r 40 (length-ipv6 h next (t - 40)) in
    first _ (both (ipv6-passes h next t r k) (rw (n, d) e))

ext-says : (next : ℕ) (d r : List ℕ) → let b = ext_full next d ++ r in (ext_size b ≡ full_size (length d)) × (byte_at b 0 ≡ next)
unfolding ext_full byte_bytes
ext-says next d r = (omega arith, refl)

ext-reads : (n next t : ℕ) (d r : List ℕ) (ns : List ℕ) (last : Last) → is_extension n ≡ true → reads ns last next (t - full_size (length d)) r ≡ true → reads (n ∷ ns) last n t (ext_full next d ++ r) ≡ true
unfolding reads has_extension
ext-reads n next t d r ns last k e =
    let b = ext_full next d ++ r in
    let f = ext-says next d r in
    let s = full_size (length d) in
    let l : s ≤ length b = omega (arith, length-append (ext_full next d) r, length-ext next d) in
    let g : drop s b ≡ r = drop_at (ext_full next d) r s (length-ext next d) in
    let h : (leb (ext_size b) (length b) && reads ns last (byte_at b 0) (t - ext_size b) (drop (ext_size b) b)) ≡ true = rw (f.0, f.1, g) (both (le-leb s (length b) l) e) in
    both (eq-eqb n n refl) (second (eqb n 41 && (is_ipv6 t b && reads ns last (byte_at b 6) (t - 40) (drop 40 b))) (both k h))

-- what stands behind the options that were carried is one option of padding, or none
zeros-pass : (n : ℕ) → is_zeros (replicate n 0) ≡ true
unfolding is_zeros
zeros-pass zero = refl
zeros-pass (suc n) = zeros-pass n

pad-passes : (n : ℕ) → is_padding (pad n) ≡ true
unfolding is_padding
pad-passes zero = refl
pad-passes (suc zero) = refl
pad-passes (suc (suc n)) = both (eq-eqb n (length (replicate n 0)) (sym (length-replicate n 0))) (zeros-pass n)

pub padding-right : (next : ℕ) (d : List ℕ) → is_padding (drop (2 + length d) (ext_full next d)) ≡ true
unfolding ext_full byte_bytes
padding-right next d =
    let x = full_size (length d) / 8 - 1 in
    let p = pad (full_size (length d) - (2 + length d)) in
    let l : length (next ∷ x ∷ d) ≡ 2 + length d = omega arith in
    rw (drop_at (next ∷ x ∷ d) p (2 + length d) l) (pad-passes (full_size (length d) - (2 + length d)))

udp-says : (h : UdpNhcRepr) (n : ℕ) (d : List ℕ) → word_at (udp_full h n ++ d) 4 ≡ n
unfolding udp_full be16_bytes
udp-says h n d = omega arith

udp-passes : (h : UdpNhcRepr) (n : ℕ) (d : List ℕ) → is_udp n (udp_full h n ++ d) ≡ true
unfolding is_udp
udp-passes h n d =
    let x = udp_full h n in
    let l : 8 ≤ length (x ++ d) = omega (arith, length-append x d, length-udp h n) in
    both (le-leb 8 (length (x ++ d)) l) (eq-eqb (word_at (x ++ d) 4) n (udp-says h n d))

-- ---- a chain's bytes pass, where its extension headers are of the four kinds and its traffic classes have eight bits
unfoldable Proper : Chain → Type 0
Proper (rest p d) = Unit {0}
Proper (udp_then h d) = Unit {0}
Proper (extension n d c) = (is_extension n ≡ true) × Proper c
Proper (ipv6 h c) = (class_of h < 256) × Proper c

reads-chain : (c : Chain) (t o : ℕ) → Proper c → reads (numbers_of c) (last_of c) (head_number c) (t - o) (full_bytes t o c) ≡ true
unfolding Proper numbers_of last_of full_bytes reads ends_in
reads-chain (rest p d) t o w = eq-eqb p p refl
reads-chain (udp_then h d) t o w = udp-passes h (t - o) d
reads-chain (extension n d c) t o w =
    let k : t - (o + full_size (length d)) ≡ t - o - full_size (length d) = omega arith in
    ext-reads n (head_number c) (t - o) d (full_bytes t (o + full_size (length d)) c) (numbers_of c) (last_of c) w.0
    (subst (λ z. reads (numbers_of c) (last_of c) (head_number c) z (full_bytes t (o + full_size (length d)) c) ≡ true) k (reads-chain c t (o + full_size (length d)) w.1))
reads-chain (ipv6 h c) t o w =
    let k : t - (o + 40) ≡ t - o - 40 = omega arith in
    let r = full_bytes t (o + 40) c in
    subst (λ z. reads (41 ∷ numbers_of c) (last_of c) 41 (t - o) (ipv6_with h (head_number c) z ++ r) ≡ true) (sym k)
    (ipv6-reads h (head_number c) (t - o) r (numbers_of c) (last_of c) w.0 (subst (λ z. reads (numbers_of c) (last_of c) (head_number c) z r ≡ true) k (reads-chain c t (o + 40) w.1)))

-- ---- with another checksum x in its UDP header: the list is the same, and the bytes are but for those two
abbrev summed_udp : UdpNhcRepr → ℕ → UdpNhcRepr
summed_udp h x = record { src_port = h.src_port; dst_port = h.dst_port; checksum = Some x }

unfoldable with_sum : ℕ → Chain → Chain
with_sum x (rest p d) = rest p d
with_sum x (udp_then h d) = udp_then (summed_udp h x) d
with_sum x (extension n d c) = extension n d (with_sum x c)
with_sum x (ipv6 h c) = ipv6 h (with_sum x c)

head-same : (x : ℕ) (c : Chain) → head_number (with_sum x c) ≡ head_number c
unfolding with_sum
head-same x (rest p d) = refl
head-same x (udp_then h d) = refl
head-same x (extension n d c) = refl
head-same x (ipv6 h c) = refl

numbers-same : (x : ℕ) (c : Chain) → numbers_of (with_sum x c) ≡ numbers_of c
unfolding with_sum numbers_of
numbers-same x (rest p d) = refl
numbers-same x (udp_then h d) = refl
numbers-same x (extension n d c) = ap (λ z. n ∷ z) (numbers-same x c)
numbers-same x (ipv6 h c) = ap (λ z. 41 ∷ z) (numbers-same x c)

last-same : (x : ℕ) (c : Chain) → last_of (with_sum x c) ≡ last_of c
unfolding with_sum last_of
last-same x (rest p d) = refl
last-same x (udp_then h d) = refl
last-same x (extension n d c) = last-same x c
last-same x (ipv6 h c) = last-same x c

proper-same : (x : ℕ) (c : Chain) → Proper c → Proper (with_sum x c)
unfolding with_sum Proper
proper-same x (rest p d) w = tt
proper-same x (udp_then h d) w = tt
proper-same x (extension n d c) w = (w.0, proper-same x c w.1)
proper-same x (ipv6 h c) w = (w.0, proper-same x c w.1)

udp-put-sum : (h : UdpNhcRepr) (n x : ℕ) (d : List ℕ) → put 6 (be16_bytes x) (udp_full h n ++ d) ≡ udp_full (summed_udp h x) n ++ d
unfolding udp_full be16_bytes put
udp-put-sum h n x d = refl

-- both bytes at the place u of a datagram, of which y are those from the place o on
behind-put : (a y z bs : List ℕ) (n o u : ℕ) → length a ≡ n → o + n ≤ u → put (u + 6 - (o + n)) bs y ≡ z → put (u + 6 - o) bs (a ++ y) ≡ a ++ z
behind-put a y z bs n o u e h p =
    let k : u + 6 - o ≡ n + (u + 6 - (o + n)) = omega arith in
    ap (λ v. put v bs (a ++ y)) k ∙ put-behind a y bs n (u + 6 - (o + n)) e ∙ ap (λ v. a ++ v) p

chain-put : (x : ℕ) (c : Chain) (t : Bool) (total i o : ℕ) → was_elided (sum_in t i o c) ≡ true → (o ≤ (sum_in t i o c).udp) × (put ((sum_in t i o c).udp + 6 - o) (be16_bytes x) (full_bytes total o c) ≡ full_bytes total o (with_sum x c))
unfolding sum_in full_bytes with_sum
chain-put x (rest p d) t total i o q = absurd (true≢false (sym q))
chain-put x (udp_then h d) t total i o q =
    let u = (sum_for t i o h.checksum).udp in
    let w : u ≡ o = (was-absent t i o h.checksum q).1 in
    let k : u + 6 - o ≡ 6 = omega (arith, w) in
    (omega (arith, w), ap (λ v. put v (be16_bytes x) (udp_full h (total - o) ++ d)) k ∙ udp-put-sum h (total - o) x d)
chain-put x (extension n d c) t total i o q =
    let s = full_size (length d) in
    let r = chain-put x c (eqb n 43 || t) total i (o + s) q in
    let u = (sum_in (eqb n 43 || t) i (o + s) c).udp in
    let z = full_bytes total (o + s) (with_sum x c) in
    (omega (arith, r.0), behind-put (ext_full (head_number c) d) (full_bytes total (o + s) c) z (be16_bytes x) s o u (length-ext (head_number c) d) r.0 r.1 ∙ ap (λ v. ext_full v d ++ z) (sym (head-same x c)))
chain-put x (ipv6 h c) t total i o q =
    let r = chain-put x c false total o (o + 40) q in
    let u = (sum_in false o (o + 40) c).udp in
    let p = total - (o + 40) in
    let z = full_bytes total (o + 40) (with_sum x c) in
    (omega (arith, r.0), behind-put (ipv6_with h (head_number c) p) (full_bytes total (o + 40) c) z (be16_bytes x) 40 o u (length-ipv6 h (head_number c) p) r.0 r.1 ∙ ap (λ v. ipv6_with h v p ++ z) (sym (head-same x c)))

-- ---- so the bytes of a datagram pass, its checksum computed or not
abbrev Passes : ℕ → Chain → List ℕ → Type 0
Passes t c b = reads (numbers_of c) (last_of c) (head_number c) t b ≡ true

passes-full : (t : ℕ) (c : Chain) → Proper c → Passes t c (full_bytes t 0 c)
passes-full t c w =
    let k : t - 0 ≡ t = omega arith in
    subst (λ z. Passes z c (full_bytes t 0 c)) k (reads-chain c t 0 w)

passes-with : (t x : ℕ) (c : Chain) → Proper c → Passes t c (full_bytes t 0 (with_sum x c))
passes-with t x c w = rw (← numbers-same x c, ← last-same x c, ← head-same x c) (passes-full t (with_sum x c) (proper-same x c w))

summed-with : (t : ℕ) (c : Chain) → let m = sum_in false 0 0 c in let d = full_bytes t 0 c in was_elided m ≡ true → summed_at m.ip m.udp d ≡ full_bytes t 0 (with_sum (checksum_at m.ip m.udp d) c)
unfolding summed_at
summed-with t c q =
    let m = sum_in false 0 0 c in
    let d = full_bytes t 0 c in
    let x = checksum_at m.ip m.udp d in
    let k : m.udp + 6 ≡ m.udp + 6 - 0 = omega arith in
    ap (λ v. put v (be16_bytes x) d) k ∙ (chain-put x c false t 0 0 q).1

summed-go : (t : ℕ) (c : Chain) (v : Bool) → let m = sum_in false 0 0 c in let d = full_bytes t 0 c in Proper c → (was_elided m && stands m (length d)) ≡ v → Passes t c (choose v (summed_at m.ip m.udp d) d)
summed-go t c true w q =
    let m = sum_in false 0 0 c in
    let d = full_bytes t 0 c in
    subst (Passes t c) (sym (summed-with t c (and-true (was_elided m) _ q).0)) (passes-with t (checksum_at m.ip m.udp d) c w)
summed-go t c false w q = passes-full t c w

passes-summed : (t : ℕ) (c : Chain) → Proper c → Passes t c (summed_by (sum_in false 0 0 c) (full_bytes t 0 c))
unfolding summed_by
passes-summed t c w = summed-go t c _ w refl

passes-bytes : (size : Option ℕ) (c : Chain) → Proper c → Passes (total_of size (size_of c)) c (bytes_of size c)
unfolding bytes_of
passes-bytes None c w = passes-summed (size_of c) c w
passes-bytes (Some n) c w = passes-full n c w

-- ---- a chain that was read: of the headers that were left, and proper
abbrev Listed : Link → Type 0
Listed (udp_link h) = Unit {0}
Listed (ext_link x d next) = is_extension x ≡ true
Listed inner_link = Unit {0}

listed-as : (l : Link) (x : ℕ) → is_extension x ≡ true → x ≡ link_number l → Listed l
listed-as (udp_link h) x k e = tt
listed-as (ext_link y d next) x k e = subst (λ z. is_extension z ≡ true) e k
listed-as inner_link x k e = tt

udp-listed : (s : List ℕ) (at : ℕ) (l : Link) (n : ℕ) → udp_step s at ≡ got l n → Listed l
unfolding udp_step
udp-listed s at l n e =
    let i = invert (udp s at) (λ p. got (udp_link p.value) p.next) _ e in
    subst Listed (got-value (udp_link i.value.value) l i.value.next n i.second) tt

inner-listed : (s : List ℕ) (at : ℕ) (l : Link) (n : ℕ) → inner_byte s at ≡ got l n → Listed l
unfolding inner_byte
inner-listed s at l n e =
    let i = invert (byte s at) (λ p. choose (eqb (p.value % 2) 0) (got inner_link p.next) (refused 3)) _ e in
    go i.value.next (eqb (i.value.value % 2) 0) i.second
  where
    go : (m : ℕ) (t : Bool) → choose t (got inner_link m) (refused 3) ≡ got l n → Listed l
    go m true g = subst Listed (got-value inner_link l m n g) tt
    go m false g = not-refused _ 3 g

kind-listed : (id : ExtHeaderId) (s : List ℕ) (at : ℕ) (l : Link) (n : ℕ) → ext_kind id s at ≡ got l n → Listed l
kind-listed HopByHopHeader s at l n e = listed-as l 0 refl (body-number HopByHopHeader s at l n e)
kind-listed RoutingHeader s at l n e = listed-as l 43 refl (body-number RoutingHeader s at l n e)
kind-listed FragmentHeader s at l n e = not-refused _ 13 e
kind-listed DestinationOptionsHeader s at l n e = listed-as l 60 refl (body-number DestinationOptionsHeader s at l n e)
kind-listed MobilityHeader s at l n e = listed-as l 135 refl (body-number MobilityHeader s at l n e)
kind-listed Header s at l n e = inner-listed s at l n e
kind-listed Reserved s at l n e = not-refused _ 13 e

link-go : (k : NhcPacket) (left : ℕ) (s : List ℕ) (at : ℕ) (l : Link) (n : ℕ) → link_of k left s at ≡ got l n → Listed l
unfolding link_of
link-go UdpHeader left s at l n e = udp-listed s at l n e
link-go ExtHeader left s at l n e = go (eqb left 0) e
  where
    go : (t : Bool) → choose t (refused 3) (ext_kind (id_at s at) s at) ≡ got l n → Listed l
    go true g = not-refused _ 3 g
    go false g = kind-listed (id_at s at) s at l n g

link-listed : (left : ℕ) (s : List ℕ) (at : ℕ) (l : Link) (n : ℕ) → link left s at ≡ got l n → Listed l
unfolding link
link-listed left s at l n e =
    let i = invert (nhc s at) (λ k. link_of k left s at) _ e in
    link-go i.value left s at l n i.second

record Sound (left : ℕ) (s : List ℕ) (c : Chain) : Type 0 where
  few : length (numbers_of c) ≤ left
  proper : Bytes s → Proper c

abbrev Sounds : ℕ → List ℕ → (Around → Reader Chain) → Type 0
Sounds left s m = (v : Around) (from : ℕ) (d : Chain) (k : ℕ) → m v s from ≡ got d k → Sound left s d

rest-sound : (left : ℕ) (s : List ℕ) (p : ℕ) (d : List ℕ) → Sound left s (rest p d)
unfolding numbers_of Proper
rest-sound left s p d = record { few = omega arith; proper = λ b. tt }

udp-sound : (left : ℕ) (s : List ℕ) (h : UdpNhcRepr) (d : List ℕ) → Sound left s (udp_then h d)
unfolding numbers_of Proper
udp-sound left s h d = record { few = omega arith; proper = λ b. tt }

ext-sound : (left : ℕ) (s : List ℕ) (x : ℕ) (d : List ℕ) (c : Chain) → is_extension x ≡ true → Sound left s c → Sound (suc left) s (extension x d c)
unfolding numbers_of Proper
ext-sound left s x d c k S = record { few = omega (arith, S.few); proper = λ b. (k, S.proper b) }

ipv6-sound : (left : ℕ) (s : List ℕ) (h : Repr) (c : Chain) → (Bytes s → class_of h < 256) → Sound left s c → Sound (suc left) s (ipv6 h c)
unfolding numbers_of Proper
ipv6-sound left s h c k S = record { few = omega (arith, S.few); proper = λ b. (k b, S.proper b) }

behind-sound : (left : ℕ) (s : List ℕ) (m : Around → Reader Chain) → Sounds left s m → (v : Around) (next : NextHeader) (from : ℕ) (d : Chain) (k : ℕ) → behind_next next (m v) s from ≡ got d k → Sound left s d
unfolding behind_next
behind-sound left s m f v (Uncompressed p) from d k e = subst (Sound left s) (got-value (rest p.0 (drop from s)) d from k e) (rest-sound left s p.0 (drop from s))
behind-sound left s m f v Compressed from d k e = f v from d k e

header-sound : (left : ℕ) (ctx s : List ℕ) (ls ld : Option Address) (m : Around → Reader Chain) → Sounds left s m → (at : ℕ) (c : Chain) (n : ℕ) → header_then ctx ls ld m s at ≡ got c n → Sound (suc left) s c
unfolding header_then
header-sound left ctx s ls ld m f at c n e =
    let i = invert (iphc ctx ls ld s at) (λ p. and_then (behind_next p.value.next_header (m (within p.value)) s p.next) (λ q. got (ipv6 p.value q.value) q.next)) _ e in
    let h = i.value.value in
    let j = invert (behind_next h.next_header (m (within h)) s i.value.next) (λ q. got (ipv6 h q.value) q.next) _ i.second in
    let S = behind-sound left s m f (within h) h.next_header i.value.next j.value.value j.value.next j.first in
    subst (Sound (suc left) s) (got-value (ipv6 h j.value.value) c j.value.next n j.second) (ipv6-sound left s h j.value.value (λ b. (class-fits ctx ls ld).so s at h i.value.next b i.first) S)

end-sound : (left : ℕ) (s : List ℕ) (w : Around) (h : UdpNhcRepr) (at : ℕ) (c : Chain) (n : ℕ) → udp_end w h s at ≡ got c n → Sound left s c
unfolding udp_end
end-sound left s w h at c n e = go (w.routed && is_absent h.checksum) e
  where
    go : (t : Bool) → choose t (refused 13) (got (udp_then h (drop at s)) at) ≡ got c n → Sound left s c
    go true g = not-refused _ 13 g
    go false g = subst (Sound left s) (got-value (udp_then h (drop at s)) c at n g) (udp-sound left s h (drop at s))

onward-sound : (left : ℕ) (ctx s : List ℕ) (m : Around → Reader Chain) → Sounds left s m → (w : Around) (l : Link) (at : ℕ) (c : Chain) (n : ℕ) → Listed l → onward ctx m w l s at ≡ got c n → Sound (suc left) s c
unfolding onward
onward-sound left ctx s m f w (udp_link h) at c n k e = end-sound (suc left) s w h at c n e
onward-sound left ctx s m f w (ext_link x d next) at c n k e =
    let i = invert (behind_next next (m (past x w)) s at) (λ p. got (extension x d p.value) p.next) _ e in
    let S = behind-sound left s m f (past x w) next at i.value.value i.value.next i.first in
    subst (Sound (suc left) s) (got-value (extension x d i.value.value) c i.value.next n i.second) (ext-sound left s x d i.value.value k S)
onward-sound left ctx s m f w inner_link at c n k e = header-sound left ctx s (inside w.src) (inside w.dst) m f at c n e

-- where no header is left, only UDP
none-sound : (ctx s : List ℕ) (w : Around) (l : Link) (at : ℕ) (c : Chain) (n : ℕ) → Wants l 0 → onward ctx (λ v. refuse 3) w l s at ≡ got c n → Sound 0 s c
unfolding onward
none-sound ctx s w (udp_link h) at c n k e = end-sound 0 s w h at c n e
none-sound ctx s w (ext_link x d next) at c n k e = absurd (omega (arith, k))
none-sound ctx s w inner_link at c n k e = absurd (omega (arith, k))

chain-sound : (left : ℕ) (ctx s : List ℕ) → Sounds left s (chain left ctx)
chain-sound zero ctx s w at c n e =
    let i = invert (link zero s at) (λ p. onward ctx (λ v. refuse 3) w p.value s p.next) _ (sym (chain-is zero ctx w s at) ∙ e) in
    none-sound ctx s w i.value.value i.value.next c n (link-steps zero s at i.value.value i.value.next i.first).wants i.second
chain-sound (suc left) ctx s w at c n e =
    let i = invert (link (suc left) s at) (λ p. onward ctx (chain left ctx) w p.value s p.next) _ (sym (chain-is (suc left) ctx w s at) ∙ e) in
    onward-sound left ctx s (chain left ctx) (chain-sound left ctx s) w i.value.value i.value.next c n (link-listed (suc left) s at i.value.value i.value.next i.first) i.second

chained-sound : (ctx : List ℕ) (ls ld : Option Address) (s : List ℕ) (at : ℕ) (c : Chain) (n : ℕ) → chained ctx ls ld s at ≡ got c n → Sound 8 s c
unfolding chained
chained-sound ctx ls ld s at c n e = header-sound 7 ctx s ls ld (chain 7 ctx) (chain-sound 7 ctx s) at c n e

-- ---- at most eight headers, the outer one counted, UDP and the payload not
pub eight-headers : (ctx : List ℕ) (ls ld : Option Address) (s : List ℕ) (at : ℕ) (c : Chain) (n : ℕ) → chained ctx ls ld s at ≡ got c n → length (numbers_of c) ≤ 8
eight-headers ctx ls ld s at c n e = (chained-sound ctx ls ld s at c n e).few

-- ---- every expansion of a frame of bytes is a datagram by RFC 8200's own rules, whose next headers are those of the chain that was read
starts-ipv6 : (c : Chain) (t : ℕ) (b : List ℕ) → Outer c → length b ≤ t → Passes t c b → is_datagram (numbers_of c) (last_of c) t b ≡ true
unfolding numbers_of last_of is_datagram
starts-ipv6 c t b o h =
    subst (λ z. Passes t z b → is_datagram (numbers_of z) (last_of z) t b ≡ true) o.is-both
    (λ p. both (le-leb (length b) t h) p)

pub record ReadsBack (ctx : List ℕ) (ls ld : Option Address) (size : Option ℕ) (s : List ℕ) (at : ℕ) (b : List ℕ) : Type 0 where
  pub found : Chain
  pub place : ℕ
  pub are-read : chained ctx ls ld s at ≡ got found place
  pub is-datagram : is_datagram (numbers_of found) (last_of found) (total_of size (length b)) b ≡ true

module _ (ctx : List ℕ) (ls ld : Option Address) (size : Option ℕ) (s : List ℕ) (at : ℕ) (e : Expansion) where
  made-passes : Made ctx ls ld size s at e → Bytes s → ReadsBack ctx ls ld size s at e.bytes
  made-passes made frame =
      let c = made.found in
      let l : size_of c ≡ length e.bytes = sym (length-made ctx ls ld size s at e made) in
      let f : bytes_of size c ≡ e.bytes = ap (λ x. x.bytes) made.is_made in
      let p : Passes (total_of size (length e.bytes)) c e.bytes = subst (λ n. Passes (total_of size n) c e.bytes) l (subst (Passes (total_of size (size_of c)) c) f (passes-bytes size c ((chained-sound ctx ls ld s at c made.place made.are-read).proper frame))) in
      let h : length e.bytes ≤ total_of size (length e.bytes) = subst (λ n. n ≤ total_of size n) l made.fits in
      record {
        found = c;
        place = made.place;
        are-read = made.are-read;
        is-datagram = starts-ipv6 c (total_of size (length e.bytes)) e.bytes (outer-first ctx ls ld s at c made.place made.are-read) h p;
      }

  pub reads-back : expansion ctx ls ld size s at ≡ is e → Bytes s → ReadsBack ctx ls ld size s at e.bytes
  reads-back p frame = made-passes (expansion-made ctx ls ld size s at e p) frame
