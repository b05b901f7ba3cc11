-- The compressed IPv6 header, as it is written (RFC 6282, 3): TF = 11 and no context, and each address in the shortest of its modes that
-- fits, but that an identifier 0000:00ff:fe00:XXXX is elided against a short link-layer address alone.
use Rattle.ieee802154.specs.declared.addr.Address.{Address}
use Rattle.std.specs.Prelude.{ℕ, ◌+◌, ◌*◌, ◌/◌, ◌%◌, ◌^◌, List, [], ◌++◌, Bool, false, ◌&&◌, ltb, eqb, Option, Some, None}
use Rattle.octets.specs.Read.{choose}
use Rattle.octets.specs.Write.{byte_bytes, be16_bytes, be32_bytes, be64_bytes}
use Rattle.octets.specs.Ipv6.{is_unspecified, is_multicast, is_link_local}
use Rattle.octets.specs.declared.ipv6.Ipv6Addr.{Ipv6Addr}
use Rattle.ieee802154.specs.Address.{eui64}
use Rattle.ieee802154.specs.declared.addr.Address.TheVariants.{Absent, Short, Extended}
use Rattle.sixlowpan.specs.Next.{next_bit, next_width, next_bytes}
use Rattle.sixlowpan.specs.declared.protocol.NextHeader.{NextHeader}
use Rattle.iphc.specs.declared.form.Inline.{Inline}
use Rattle.iphc.specs.declared.form.Inline.TheVariants.{Nothing, Bits8, Bits16, Bits32, Bits48, Bits64, Bits128}
use Rattle.iphc.specs.declared.form.Form.{Form}
use Rattle.iphc.specs.declared.header.Repr.{Repr}

-- ---- what is carried inline
abbrev pub inline_length : Inline → ℕ
inline_length Nothing = 0
inline_length (Bits8 x) = 1
inline_length (Bits16 x) = 2
inline_length (Bits32 x) = 4
inline_length (Bits48 x y) = 6
inline_length (Bits64 x) = 8
inline_length (Bits128 x y) = 16

abbrev pub inline_bytes : Inline → List ℕ
inline_bytes Nothing = []
inline_bytes (Bits8 x) = byte_bytes x
inline_bytes (Bits16 x) = be16_bytes x
inline_bytes (Bits32 x) = be32_bytes x
inline_bytes (Bits48 x y) = be16_bytes x ++ be32_bytes y
inline_bytes (Bits64 x) = be64_bytes x
inline_bytes (Bits128 x y) = be64_bytes x ++ be64_bytes y

abbrev pub form : ℕ → Inline → Form
form m i = record { mode = m; inline = i }

-- all 128 bits, with the mode's other bits
abbrev pub full_form : ℕ → Ipv6Addr → Form
full_form m a = form m (Bits128 a.prefix a.iid)

-- ---- 3.2.2, identifiers: whether the link-layer address is the short address x, or an extended one whose identifier is i
abbrev pub is_short : Option Address → ℕ → Bool
is_short None x = false
is_short (Some Absent) x = false
is_short (Some (Short a)) x = eqb a x
is_short (Some (Extended a)) x = false

abbrev pub is_of : Option ℕ → ℕ → Bool
is_of None i = false
is_of (Some x) i = eqb x i

abbrev pub is_extended : Option Address → ℕ → Bool
is_extended None i = false
is_extended (Some a) i = is_of (eui64 a) i

-- of a link-local address. 0000:00ff:fe00:XXXX: elided where XXXX is the short link-layer address, else XXXX in 16 bits.
-- Any other: elided where it is that of the extended link-layer address, else 64 bits
unfoldable pub iid_form : ℕ → Option Address → Form
iid_form i ll =
    choose (eqb (i / 2 ^ 16) 0xfffe00)
    (choose (is_short ll (i % 2 ^ 16)) (form 0b11 Nothing) (form 0b10 (Bits16 (i % 2 ^ 16))))
    (choose (is_extended ll i) (form 0b11 Nothing) (form 0b01 (Bits64 i)))

-- ---- 3.1.1, SAC SAM
unfoldable pub src_form : Ipv6Addr → Option Address → Form
src_form a ll = choose (is_unspecified a) (form 0b100 Nothing) (choose (is_link_local a) (iid_form a.iid ll) (full_form 0b000 a))

-- ---- 3.1.1, M DAC DAM
-- ff02::00XX
abbrev pub is_group8 : Ipv6Addr → Bool
is_group8 a = eqb a.prefix (0xff02 * 2 ^ 48) && ltb a.iid (2 ^ 8)

-- ffXX::, with an identifier below b
abbrev pub is_scoped : Ipv6Addr → ℕ → Bool
is_scoped a b = eqb (a.prefix % 2 ^ 48) 0 && ltb a.iid b

-- flags and scope: the second byte
abbrev pub scope_of : Ipv6Addr → ℕ
scope_of a = a.prefix / 2 ^ 48 % 2 ^ 8

-- ff02::00XX in 8 bits; ffXX::00XX:XXXX in 32; ffXX::00XX:XXXX:XXXX in 48; any other group in 128
unfoldable pub multicast_form : Ipv6Addr → Form
multicast_form a =
    choose (is_group8 a) (form 0b1011 (Bits8 (a.iid % 2 ^ 8)))
    (choose (is_scoped a (2 ^ 24)) (form 0b1010 (Bits32 (scope_of a * 2 ^ 24 + a.iid % 2 ^ 24)))
    (choose (is_scoped a (2 ^ 40)) (form 0b1001 (Bits48 (scope_of a * 2 ^ 8 + a.iid / 2 ^ 32 % 2 ^ 8) (a.iid % 2 ^ 32)))
    (full_form 0b1000 a)))

unfoldable pub dst_form : Ipv6Addr → Option Address → Form
dst_form a ll = choose (is_multicast a) (multicast_form a) (choose (is_link_local a) (iid_form a.iid ll) (full_form 0b0000 a))

-- ---- 3.1.1, HLIM
abbrev pub hop_bits : ℕ → ℕ
hop_bits h = choose (eqb h 1) 0b01 (choose (eqb h 64) 0b10 (choose (eqb h 255) 0b11 0b00))

abbrev pub hop_length : ℕ → ℕ
hop_length h = choose (eqb (hop_bits h) 0b00) 1 0

abbrev pub hop_bytes : ℕ → List ℕ
hop_bytes h = choose (eqb (hop_bits h) 0b00) (byte_bytes h) []

-- ---- the header
-- the first two bytes: 011 TF=11 NH HLIM CID=0 SAC SAM M DAC DAM
unfoldable pub base_word : NextHeader → ℕ → Form → Form → ℕ
base_word n h s d = 0b011_11 * 2 ^ 11 + next_bit n * 2 ^ 10 + hop_bits h * 2 ^ 8 + s.mode * 2 ^ 4 + d.mode

-- what stands before the addresses
abbrev pub front_length : NextHeader → ℕ → ℕ
front_length n h = 2 + (next_width (next_bit n) + hop_length h)

unfoldable pub front_bytes : NextHeader → ℕ → Form → Form → List ℕ
front_bytes n h s d = be16_bytes (base_word n h s d) ++ (next_bytes n ++ hop_bytes h)

-- the inline bits of both addresses
abbrev pub addresses_length : Form → Form → ℕ
addresses_length s d = inline_length s.inline + inline_length d.inline

unfoldable pub addresses_bytes : Form → Form → List ℕ
addresses_bytes s d = inline_bytes s.inline ++ inline_bytes d.inline

abbrev pub source_form : Repr → Form
source_form r = src_form r.src_addr r.ll_src_addr

abbrev pub dest_form : Repr → Form
dest_form r = dst_form r.dst_addr r.ll_dst_addr

unfoldable pub length_of : Repr → ℕ
length_of r = front_length r.next_header r.hop_limit + addresses_length (source_form r) (dest_form r)

unfoldable pub bytes_of : Repr → List ℕ
bytes_of r = front_bytes r.next_header r.hop_limit (source_form r) (dest_form r) ++ addresses_bytes (source_form r) (dest_form r)
