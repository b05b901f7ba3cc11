-- Is our header the shortest? Of all bytes that read, with the same link-layer addresses and no contexts, as the same addresses, next header
-- and hop limit, none are fewer than those that are written (Emit.antt), with one exception.
use Rattle.ieee802154.specs.declared.addr.Address.{Address}
use Rattle.std.specs.Prelude.{ℕ, ◌+◌, ◌-◌, ◌/◌, ◌^◌, ◌<◌, ◌≤◌, List, [], Bool, ◌&&◌, ◌≡◌, eqb, length, get_or, Option, Some, None}
use Rattle.octets.specs.Read.{got, choose}
use Rattle.octets.specs.Ipv6.{is_link_local}
use Rattle.octets.specs.declared.ipv6.Ipv6Addr.{Ipv6Addr}
use Rattle.ieee802154.specs.declared.addr.Address.TheVariants.{Absent, Short, Extended}
use Rattle.sixlowpan.specs.declared.protocol.NextHeader.{NextHeader}
use Rattle.sixlowpan.specs.declared.protocol.NextHeader.TheVariants.{Compressed, Uncompressed}
use Rattle.iphc.specs.Iphc.{iphc}
use Rattle.iphc.specs.Emit.{is_extended, length_of}
use Rattle.iphc.specs.declared.header.Repr.{Repr}

-- ---- the least length
-- the exception: an address of fe80::/64 whose last eight bytes are 000000fffe00 and two more, and equal the identifier of the extended
-- address of its side
abbrev pub is_spare : Ipv6Addr → Option Address → Bool
is_spare a ll = is_link_local a && (eqb (a.iid / 2 ^ 16) 0xfffe00 && is_extended ll a.iid)

abbrev pub spare : Ipv6Addr → Option Address → ℕ
spare a ll = choose (is_spare a ll) 2 0

-- two for each side that is an exception
abbrev pub spares : Repr → ℕ
spares h = spare h.src_addr h.ll_src_addr + spare h.dst_addr h.ll_dst_addr

-- the length that is written, less those
unfoldable pub least : Repr → ℕ
least h = length_of h - spares h

-- ---- numbers have the sizes of their types
abbrev pub Bytes : List ℕ → Type 0
Bytes s = (i : ℕ) → get_or s i 0 < 256

abbrev pub LinkFits : Option Address → Type 0
LinkFits None = Unit {0}
LinkFits (Some Absent) = Unit {0}
LinkFits (Some (Short x)) = x < 2 ^ 16
LinkFits (Some (Extended x)) = x < 2 ^ 64

abbrev pub NextFits : NextHeader → Type 0
NextFits Compressed = Unit {0}
NextFits (Uncompressed p) = p.0 < 256

abbrev pub IpFits : Ipv6Addr → Type 0
IpFits a = (a.prefix < 2 ^ 64) × (a.iid < 2 ^ 64)

pub record Fits (h : Repr) : Type 0 where
  pub src : IpFits h.src_addr
  pub dst : IpFits h.dst_addr
  pub ll-src : LinkFits h.ll_src_addr
  pub ll-dst : LinkFits h.ll_dst_addr
  pub next : NextFits h.next_header
  pub hop : h.hop_limit < 256

-- ---- what it is the least of
-- the bytes s, from the place at up to n, read as a header with the addresses, next header and hop limit of h, and any traffic class and flow
-- label
pub record ReadAs (h : Repr) (s : List ℕ) (at n : ℕ) : Type 0 where
  pub header : Repr
  pub is_read : iphc [] h.ll_src_addr h.ll_dst_addr s at ≡ got header n
  pub src : header.src_addr ≡ h.src_addr
  pub dst : header.dst_addr ≡ h.dst_addr
  pub next : header.next_header ≡ h.next_header
  pub hop : header.hop_limit ≡ h.hop_limit

-- all of them take the least at least
abbrev pub NoneShorter : Repr → Type 0
NoneShorter h = (s : List ℕ) (at n : ℕ) → Bytes s → ReadAs h s at n → at + least h ≤ n

-- and some take just the least
pub record OneLeast (h : Repr) : Type 0 where
  pub bytes : List ℕ
  pub are-bytes : Bytes bytes
  pub length-is : length bytes ≡ least h
  pub are-read : ReadAs h bytes 0 (least h)
