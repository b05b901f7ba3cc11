-- The compressed headers of a frame as a chain (RFC 6282, 3 and 4.2; RFC 8200, 4; the change requests, item 5): header reads chain, chain
-- reads header. Then what each header becomes.
use Rattle.ieee802154.specs.declared.addr.Address.{Address}
use Rattle.std.specs.Prelude.{ℕ, zero, suc, ◌+◌, ◌-◌, ◌*◌, ◌/◌, ◌%◌, List, [], ◌∷◌, ◌++◌, Bool, true, false, ◌&&◌, ◌||◌, not, length, get_or, take, drop, replicate, eqb, leb, Option, Some, None}
use Rattle.octets.specs.Read.{Answer, is, refused, Reader, got, and_then, choose, branch, give, refuse, byte, skip, ◌>>=◌}
use Rattle.octets.specs.Write.{byte_bytes}
use Rattle.octets.specs.declared.ipv6.Ipv6Addr.{Ipv6Addr}
use Rattle.ieee802154.specs.Address.{flip57}
use Rattle.ieee802154.specs.declared.addr.Address.TheVariants.{Extended}
use Rattle.iphc.specs.Iphc.{iphc}
use Rattle.iphc.specs.declared.header.Repr.{Repr}
use Rattle.sixlowpan.specs.Nhc.{nhc}
use Rattle.sixlowpan.specs.NhcUdp.{udp}
use Rattle.sixlowpan.specs.NhcExt.{id_of, ext}
use Rattle.sixlowpan.specs.declared.protocol.NextHeader.{NextHeader}
use Rattle.sixlowpan.specs.declared.protocol.NextHeader.TheVariants.{Compressed, Uncompressed}
use Rattle.sixlowpan.specs.declared.nhc.NhcPacket.{NhcPacket}
use Rattle.sixlowpan.specs.declared.nhc.NhcPacket.TheVariants.{ExtHeader, UdpHeader}
use Rattle.sixlowpan.specs.declared.nhc.ExtHeaderId.{ExtHeaderId}
use Rattle.sixlowpan.specs.declared.nhc.ExtHeaderId.TheVariants.{HopByHopHeader, RoutingHeader, FragmentHeader, DestinationOptionsHeader, MobilityHeader, Header, Reserved}
use Rattle.sixlowpan.specs.declared.nhc.ExtHeaderRepr.{ExtHeaderRepr}
use Rattle.sixlowpan.specs.declared.nhc.UdpNhcRepr.{UdpNhcRepr}
use Rattle.expand.specs.Sum.{no_sum, elided_at, carried_at}
use Rattle.expand.specs.Full.{ipv6_with, udp_full, is_absent}
use Rattle.expand.specs.Rfc8200.{Last}
use Rattle.expand.specs.declared.checksum.UdpSum.{UdpSum}

-- ---- a chain: headers, and then the rest of the frame
-- rest: the payload, whose number stood inline; udp_then: a UDP header and its data; extension: the number of an extension header and what follows
-- its first two bytes; ipv6: an IPv6 header
pub data Chain : Type 0 where
  rest : ℕ → List ℕ → Chain
  udp_then : UdpNhcRepr → List ℕ → Chain
  extension : ℕ → List ℕ → Chain → Chain
  ipv6 : Repr → Chain → Chain

-- ---- RFC 6282, 4.2: what an EID stands for
-- the number of the header (RFC 8200, 4; RFC 6275: mobility is 135; an IPv6 header is 41)
abbrev pub full_number : ExtHeaderId → ℕ
full_number HopByHopHeader = 0
full_number RoutingHeader = 43
full_number FragmentHeader = 44
full_number DestinationOptionsHeader = 60
full_number MobilityHeader = 135
full_number Header = 41
full_number Reserved = 0

-- an options header is padded; a routing or mobility header has no options, so that its length is to be a multiple of eight as it is
abbrev pub is_padded : ExtHeaderId → Bool
is_padded HopByHopHeader = true
is_padded RoutingHeader = false
is_padded FragmentHeader = true
is_padded DestinationOptionsHeader = true
is_padded MobilityHeader = false
is_padded Header = true
is_padded Reserved = true

abbrev pub bad_length : ExtHeaderId → ℕ → Bool
bad_length id n = not (is_padded id) && not (eqb ((2 + n) % 8) 0)

-- ---- one step of a chain
-- what stands at a place: a UDP header; an extension header, with what follows its first two bytes; or the byte in front of an IPv6 header
pub data Link : Type 0 where
  udp_link : UdpNhcRepr → Link
  ext_link : ℕ → List ℕ → NextHeader → Link
  inner_link : Link

-- so many bytes
unfoldable pub octets : ℕ → Reader (List ℕ)
octets n s at = and_then (skip n s at) (λ p. got (take n (drop at s)) p.next)

-- behind next header and length: a bad length, 3, before its bytes are taken
unfoldable pub ext_data : ExtHeaderId → ExtHeaderRepr → Reader Link
ext_data id h =
    branch (bad_length id h.length) (refuse 3)
    (do
      d ← octets h.length
      give (ext_link (full_number id) d h.next_header))

unfoldable pub ext_body : ExtHeaderId → Reader Link
ext_body id = do
  h ← ext
  ext_data id h

-- the byte of EID 7 has no next header and no length, and 3 where NH is set
unfoldable pub inner_byte : Reader Link
inner_byte = do
  b ← byte
  branch (eqb (b % 2) 0) (give inner_link) (refuse 3)

-- the fragment header and the reserved EIDs are not expanded, 13
abbrev pub ext_kind : ExtHeaderId → Reader Link
ext_kind HopByHopHeader = ext_body HopByHopHeader
ext_kind RoutingHeader = ext_body RoutingHeader
ext_kind FragmentHeader = refuse 13
ext_kind DestinationOptionsHeader = ext_body DestinationOptionsHeader
ext_kind MobilityHeader = ext_body MobilityHeader
ext_kind Header = inner_byte
ext_kind Reserved = refuse 13

-- EID stands behind 1110
abbrev pub id_at : List ℕ → ℕ → ExtHeaderId
id_at s at = id_of (get_or s at 0 / 2 % 8)

unfoldable pub udp_step : Reader Link
udp_step = do
  h ← udp
  give (udp_link h)

-- left: how many headers may still come; the ninth is refused, 3, before its EID is judged
unfoldable pub link_of : NhcPacket → ℕ → Reader Link
link_of UdpHeader left s at = udp_step s at
link_of ExtHeader left s at = choose (eqb left 0) (refused 3) (ext_kind (id_at s at) s at)

unfoldable pub link : ℕ → Reader Link
link left s at = and_then (nhc s at) (λ k. link_of k left s at)

-- ---- the chain
-- what stands around: the addresses of the IPv6 header just outside, and whether a routing header came since
pub record Around : Type 0 where
  pub src : Ipv6Addr
  pub dst : Ipv6Addr
  pub routed : Bool

abbrev pub within : Repr → Around
within h = record { src = h.src_addr; dst = h.dst_addr; routed = false }

abbrev pub past : ℕ → Around → Around
past n w = record { src = w.src; dst = w.dst; routed = eqb n 43 || w.routed }

-- RFC 6282, 3.2.2: in an inner header an elided identifier is that of the address outside, its last 64 bits; as the link-layer address that
-- has this identifier (`inside-iid`, proofs/ChainLaws.antt)
abbrev pub inside : Ipv6Addr → Option Address
inside a = Some (Extended (flip57 a.iid))

-- all that is left
abbrev pub remaining : Reader (List ℕ)
remaining s at = got (drop at s) at

-- behind a next header field: inline, and the rest is payload; or compressed, and the chain goes on
unfoldable pub behind_next : NextHeader → Reader Chain → Reader Chain
behind_next (Uncompressed p) m = do
  d ← remaining
  give (rest p.0 d)
behind_next Compressed m = m

-- an IPv6 header and the chain behind it
unfoldable pub header_then : List ℕ → Option Address → Option Address → (Around → Reader Chain) → Reader Chain
header_then ctx ls ld m = do
  h ← iphc ctx ls ld
  c ← behind_next h.next_header (m (within h))
  give (ipv6 h c)

-- behind a routing header an elided checksum is not computed, 13
unfoldable pub udp_end : Around → UdpNhcRepr → Reader Chain
udp_end w h =
    branch (w.routed && is_absent h.checksum) (refuse 13)
    (do
      d ← remaining
      give (udp_then h d))

-- behind a step of the chain; m is the chain with one header fewer left
unfoldable pub onward : List ℕ → (Around → Reader Chain) → Around → Link → Reader Chain
onward ctx m w (udp_link h) = udp_end w h
onward ctx m w (ext_link n d next) = do
  c ← behind_next next (m (past n w))
  give (extension n d c)
onward ctx m w inner_link = header_then ctx (inside w.src) (inside w.dst) m

unfoldable pub chain : ℕ → List ℕ → Around → Reader Chain
chain zero ctx w = do
  l ← link 0
  onward ctx (λ v. refuse 3) w l
chain (suc left) ctx w = do
  l ← link (suc left)
  onward ctx (chain left ctx) w l

-- all headers of a frame: at most eight, the outer IPv6 one counted. ctx: the contexts; ls and ld: the frame's link-layer addresses
unfoldable pub chained : List ℕ → Option Address → Option Address → Reader Chain
chained ctx ls ld = header_then ctx ls ld (chain 7 ctx)

-- ---- what each becomes
-- the number that a next header field stands for, as the next byte tells it where it is compressed
abbrev pub nhc_number : List ℕ → ℕ → ℕ
nhc_number s at = choose (eqb (get_or s at 0 / 16) 0b1110) (full_number (id_at s at)) 17

abbrev pub next_number : NextHeader → List ℕ → ℕ → ℕ
next_number (Uncompressed p) s at = p.0
next_number Compressed s at = nhc_number s at

-- and as the chain tells it (`number_read`, proofs/ChainLaws.antt)
abbrev pub head_number : Chain → ℕ
head_number (rest p d) = p
head_number (udp_then h d) = 17
head_number (extension n d c) = n
head_number (ipv6 h c) = 41

-- RFC 8200, 4.2: padding of so many bytes, an option of its own: Pad1, or PadN with its length and zeros
abbrev pub pad : ℕ → List ℕ
pad zero = []
pad (suc zero) = 0 ∷ []
pad (suc (suc n)) = 1 ∷ n ∷ replicate n 0

-- an extension header of so many bytes behind its first two takes so many in all: a multiple of eight
abbrev pub full_size : ℕ → ℕ
full_size n = (n + 9) / 8 * 8

-- RFC 8200, 4.3: next header; length, in units of eight octets, the first not counted; then what follows, and the padding
unfoldable pub ext_full : ℕ → List ℕ → List ℕ
ext_full next d = byte_bytes next ++ (byte_bytes (full_size (length d) / 8 - 1) ++ (d ++ pad (full_size (length d) - (2 + length d))))

unfoldable pub size_of : Chain → ℕ
size_of (rest p d) = length d
size_of (udp_then h d) = 8 + length d
size_of (extension n d c) = full_size (length d) + size_of c
size_of (ipv6 h c) = 40 + size_of c

-- the bytes, from the place o of a datagram of t bytes on: a payload length, and the length of a UDP header, are those of all that follows
unfoldable pub full_bytes : ℕ → ℕ → Chain → List ℕ
full_bytes t o (rest p d) = d
full_bytes t o (udp_then h d) = udp_full h (t - o) ++ d
full_bytes t o (extension n d c) = ext_full (head_number c) d ++ full_bytes t (o + full_size (length d)) c
full_bytes t o (ipv6 h c) = ipv6_with h (head_number c) (t - (o + 40)) ++ full_bytes t (o + 40) c

-- what is to be remembered of the checksum, o being the place, i that of the IPv6 header just outside: nothing behind a routing header
abbrev pub sum_for : Bool → ℕ → ℕ → Option ℕ → UdpSum
sum_for routed i o c = choose routed no_sum (choose (is_absent c) (elided_at i o) (carried_at i o))

unfoldable pub sum_in : Bool → ℕ → ℕ → Chain → UdpSum
sum_in routed i o (rest p d) = no_sum
sum_in routed i o (udp_then h d) = sum_for routed i o h.checksum
sum_in routed i o (extension n d c) = sum_in (eqb n 43 || routed) i (o + full_size (length d)) c
sum_in routed i o (ipv6 h c) = sum_in false o (o + 40) c

-- ---- the chain as RFC 8200 has it (`is_datagram`, specs/Rfc8200.antt): the numbers of its headers, and what it ends with
unfoldable pub numbers_of : Chain → List ℕ
numbers_of (rest p d) = []
numbers_of (udp_then h d) = []
numbers_of (extension n d c) = n ∷ numbers_of c
numbers_of (ipv6 h c) = 41 ∷ numbers_of c

unfoldable pub last_of : Chain → Last
last_of (rest p d) = Last.payload p
last_of (udp_then h d) = Last.udp
last_of (extension n d c) = last_of c
last_of (ipv6 h c) = last_of c

-- ---- how long it gets
-- how long a datagram gets, or its first part, and what is to be remembered of its checksum
pub record Measure : Type 0 where
  pub len : ℕ
  pub sum : UdpSum

-- the length of the whole datagram: that of n bytes, or in a first part its size
abbrev pub total_of : Option ℕ → ℕ → ℕ
total_of None n = n
total_of (Some size) n = size

-- once all headers are read, so that the datagram, or its first part, is known to have e bytes: 10 where it ends beyond its size, then 7
-- where the room has too few, n
unfoldable pub total_in : Option ℕ → ℕ → ℕ → Answer ℕ
total_in size e n = choose (leb e (total_of size e)) (choose (leb e n) (is (total_of size e)) (refused 7)) (refused 10)
