-- The UDP checksum of an IPv6 datagram (RFC 768; RFC 8200, 8.1), by the Internet checksum of RFC 1071.
use Rattle.std.specs.Prelude.{ℕ, ◌+◌, ◌-◌, ◌*◌, ◌^◌, List, [], ◌∷◌, ◌++◌, Bool, true, ◌&&◌, ltb, leb, eqb, length, get_or, take, drop}
use Rattle.octets.specs.Read.{choose}
use Rattle.octets.specs.Write.{put, be16_bytes, be32_bytes}
use Rattle.expand.specs.declared.checksum.UdpSum.{UdpSum}

-- ---- RFC 1071, 1
-- adjacent octets are paired to form 16-bit integers, the first one high; an odd last octet is padded with zero
unfoldable pub words : List ℕ → List ℕ
words [] = []
words (a ∷ []) = a * 256 ∷ []
words (a ∷ b ∷ r) = (a * 256 + b) ∷ words r

-- ones' complement addition: a carry out of the 16 bits is added back at the low end
abbrev pub plus : ℕ → ℕ → ℕ
plus x y = choose (ltb (x + y) (2 ^ 16)) (x + y) (x + y - 2 ^ 16 + 1)

unfoldable pub ones_sum : List ℕ → ℕ
ones_sum [] = 0
ones_sum (w ∷ ws) = plus w (ones_sum ws)

-- ---- RFC 8200, 8.1: the pseudo-header and the UDP header with its data
-- of a datagram d: source and destination address; the length of the UDP header and data; three zeros; the protocol, 17
unfoldable pub pseudo : List ℕ → List ℕ
pseudo d = take 32 (drop 8 d) ++ (be32_bytes (length d - 40) ++ (0 ∷ 0 ∷ 0 ∷ 17 ∷ []))

-- everything that the checksum covers, with the number sum in the checksum's place
unfoldable pub covered : List ℕ → ℕ → List ℕ
covered d sum = pseudo d ++ (take 6 (drop 40 d) ++ (be16_bytes sum ++ drop 48 d))

-- the ones' complement of the sum, where the checksum's place is zero; one that is computed as zero is sent as all ones (RFC 768)
unfoldable pub udp_checksum : List ℕ → ℕ
udp_checksum d =
    let x = 0xffff - ones_sum (words (covered d 0)) in
    choose (eqb x 0) 0xffff x

-- the datagram with its checksum in its place
unfoldable pub summed : List ℕ → List ℕ
summed d = put 46 (be16_bytes (udp_checksum d)) d

-- ---- a UDP header at the place u of a datagram d, and the IPv6 header just outside it at the place i
-- the datagram that the two make, with nothing between them: the pseudo-header and what the checksum covers are taken from it
unfoldable pub seen : ℕ → ℕ → List ℕ → List ℕ
seen i u d = take 40 (drop i d) ++ drop u d

unfoldable pub checksum_at : ℕ → ℕ → List ℕ → ℕ
checksum_at i u d = udp_checksum (seen i u d)

unfoldable pub summed_at : ℕ → ℕ → List ℕ → List ℕ
summed_at i u d = put (u + 6) (be16_bytes (checksum_at i u d)) d

-- ---- what is remembered of a checksum: 0 nothing, 1 that it was elided, 2 that it was carried, and the two places
abbrev pub no_sum : UdpSum
no_sum = record { kind = 0; ip = 0; udp = 0 }

abbrev pub elided_at : ℕ → ℕ → UdpSum
elided_at i u = record { kind = 1; ip = i; udp = u }

abbrev pub carried_at : ℕ → ℕ → UdpSum
carried_at i u = record { kind = 2; ip = i; udp = u }

abbrev pub was_elided : UdpSum → Bool
was_elided m = eqb m.kind 1

-- the two headers stand in a datagram of n bytes, and a UDP length of 16 bits says what follows
abbrev pub stands : UdpSum → ℕ → Bool
stands m n = leb (m.ip + 40) m.udp && (leb (m.udp + 8) n && leb n (m.udp + 0xffff))

-- the datagram with its checksum in its place, where that was elided
unfoldable pub summed_by : UdpSum → List ℕ → List ℕ
summed_by m d = choose (was_elided m && stands m (length d)) (summed_at m.ip m.udp d) d

-- in lent bytes: the first n so, and the rest as it was; all as it was where n is past the end
unfoldable pub summed_in : UdpSum → ℕ → List ℕ → List ℕ
summed_in m n room = choose (leb n (length room)) (summed_by m (take n room) ++ drop n room) room

-- ---- a carried checksum is tested (the change requests, item 7): it is to be the one that would be computed. So 0, which is never computed,
-- never holds. That this is the sum of RFC 768 over pseudo-header and data: `holds-right` (proofs/Tested.antt)
abbrev pub be16_at : ℕ → List ℕ → ℕ
be16_at k d = get_or d k 0 * 256 + get_or d (k + 1) 0

abbrev pub was_carried : UdpSum → Bool
was_carried m = eqb m.kind 2

unfoldable pub holds : UdpSum → List ℕ → Bool
holds m d = choose (was_carried m && stands m (length d)) (eqb (be16_at (m.udp + 6) d) (checksum_at m.ip m.udp d)) true

-- of the first n of lent bytes; nothing is tested where n is past the end
unfoldable pub holds_in : UdpSum → ℕ → List ℕ → Bool
holds_in m n room = choose (leb n (length room)) (holds m (take n room)) true

-- the plain sum of the words, which the code adds up
unfoldable pub sum_words : List ℕ → ℕ
sum_words [] = 0
sum_words (a ∷ []) = a * 256
sum_words (a ∷ b ∷ r) = a * 256 + b + sum_words r
