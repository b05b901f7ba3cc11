-- The compressed IPv6 header, as it is read (RFC 6282, 3).
use Rattle.ieee802154.specs.declared.addr.Address.{Address}
use Rattle.std.specs.Prelude.{ℕ, ◌+◌, ◌*◌, ◌/◌, ◌%◌, ◌^◌, ◌<◌, List, eqb, Option, Some, None}
use Rattle.octets.specs.Read.{Answer, is, refused, Reader, and_then, choose, branch, give, refuse, byte, be16, be32, be64, ◌>>=◌}
use Rattle.octets.specs.Ipv6.{ip, link_local}
use Rattle.octets.specs.declared.ipv6.Ipv6Addr.{Ipv6Addr}
use Rattle.ieee802154.specs.Address.{eui64}
use Rattle.ieee802154.specs.declared.addr.Address.TheVariants.{Absent, Short, Extended}
use Rattle.iphc.specs.Context.{context_at}
use Rattle.sixlowpan.specs.Next.{next_header}
use Rattle.iphc.specs.declared.label.FlowLabel.{FlowLabel}
use Rattle.iphc.specs.declared.read.Base.{Base}
use Rattle.iphc.specs.declared.read.Contexts.{Contexts}
use Rattle.iphc.specs.declared.read.Traffic.{Traffic}
use Rattle.iphc.specs.declared.read.Front.{Front}
use Rattle.iphc.specs.declared.read.Addresses.{Addresses}
use Rattle.iphc.specs.declared.header.Repr.{Repr}

--    0                                       1
--    0   1   2   3   4   5   6   7   8   9   0   1   2   3   4   5
--  +---+---+---+---+---+---+---+---+---+---+---+---+---+---+---+---+
--  | 0 | 1 | 1 |  TF   |NH | HLIM  |CID|SAC|  SAM  | M |DAC|  DAM  |
--  +---+---+---+---+---+---+---+---+---+---+---+---+---+---+---+---+

-- ---- 3.1.1, the base: 011 TF(2) NH HLIM(2) CID SAC SAM(2) M DAC DAM(2)
abbrev pub base_of : ℕ → Base
base_of v =
    record {
      tf = v / 2 ^ 11 % 4;
      nh = v / 2 ^ 10 % 2;
      hlim = v / 2 ^ 8 % 4;
      cid = v / 2 ^ 7 % 2;
      sac = v / 2 ^ 6 % 2;
      sam = v / 2 ^ 4 % 4;
      m = v / 2 ^ 3 % 2;
      dac = v / 2 ^ 2 % 2;
      dam = v % 4;
    }

-- both bytes, and then the leading bits: 2 where they are not 011
unfoldable pub base : Reader ℕ
base = do
  v ← be16
  branch (eqb (v / 2 ^ 13) 0b011) (give v) (refuse 2)

-- ---- 3.1.2, the context identifiers: a byte where CID is set, source and then destination; else both are 0
unfoldable pub contexts : ℕ → Reader Contexts
contexts cid =
    branch (eqb cid 0) (give (record { src = 0; dst = 0 }))
    (do
      b ← byte
      give (record { src = b / 16; dst = b % 16 }))

-- ---- 3.2.1, TF
abbrev pub traffic_of : Option ℕ → Option ℕ → Option FlowLabel → Traffic
traffic_of e d f = record { ecn = e; dscp = d; flow_label = f }

-- ECN is the top two bits of its byte, and keeps its place; DSCP is the low six
abbrev pub ecn_of : ℕ → Option ℕ
ecn_of b = Some (b / 64 * 64)

abbrev pub dscp_of : ℕ → Option ℕ
dscp_of b = Some (b % 64)

-- the flow label: 20 bits, the low four of a byte and the two bytes behind it. The byte's other bits are padding, and ECN where TF = 01
abbrev pub label_of : ℕ → ℕ → FlowLabel
label_of high low = record { 0 = high % 16 * 2 ^ 16 + low }

-- what a label is to be
abbrev pub LabelFits : Option FlowLabel → Type 0
LabelFits None = Unit {0}
LabelFits (Some l) = l.0 < 2 ^ 20

unfoldable pub labelled : ℕ → Option ℕ → Option ℕ → Reader Traffic
labelled high e d = do
  low ← be16
  give (traffic_of e d (Some (label_of high low)))

-- 00: ECN (2 bits), DSCP (6), padding (4), flow label (20)
unfoldable pub class_and_label : Reader Traffic
class_and_label = do
  b ← byte
  high ← byte
  labelled high (ecn_of b) (dscp_of b)

-- 01: ECN (2), padding (2), flow label (20)
unfoldable pub ecn_and_label : Reader Traffic
ecn_and_label = do
  b ← byte
  labelled b (ecn_of b) None

-- 10: ECN (2), DSCP (6)
unfoldable pub class_only : Reader Traffic
class_only = do
  b ← byte
  give (traffic_of (ecn_of b) (dscp_of b) None)

-- 11: nothing
unfoldable pub traffic : ℕ → Reader Traffic
traffic tf =
    branch (eqb tf 0b00) class_and_label
    (branch (eqb tf 0b01) ecn_and_label
    (branch (eqb tf 0b10) class_only (give (traffic_of None None None))))

-- ---- 3.1.1, HLIM: inline, 1, 64 or 255
unfoldable pub hop_limit : ℕ → Reader ℕ
hop_limit hlim = branch (eqb hlim 0b00) byte (branch (eqb hlim 0b01) (give 1) (branch (eqb hlim 0b10) (give 64) (give 255)))

-- what stands before the addresses
unfoldable pub front_rest : Base → Contexts → Traffic → Reader Front
front_rest b i t = do
  n ← next_header b.nh
  h ← hop_limit b.hlim
  give (record { contexts = i; traffic = t; next_header = n; hop_limit = h })

unfoldable pub front : Base → Reader Front
front b = do
  i ← contexts b.cid
  t ← traffic b.tf
  front_rest b i t

-- ---- 3.2.2, interface identifiers
-- 0000:00ff:fe00:XXXX, of a short address or of 16 bits that are carried
abbrev pub short_iid : ℕ → ℕ
short_iid x = 0xff_fe00_0000 + x

abbrev pub or_refuse : {A : Type 0} → ℕ → Option A → Answer A
or_refuse n None = refused n
or_refuse n (Some a) = is a

-- the identifier that a link-layer address stands for: a short one's, or the EUI-64 of an extended one; 6 where there is no address
abbrev pub link_iid : Option Address → Answer ℕ
link_iid None = refused 6
link_iid (Some Absent) = refused 6
link_iid (Some (Short x)) = is (short_iid x)
link_iid (Some (Extended x)) = or_refuse 6 (eui64 (Extended x))

-- a value that takes no bytes, or its refusal, and then what is read with it
abbrev pub having : {A B : Type 0} → Answer A → (A → Reader B) → Reader B
having a k s at = and_then a (λ x. k x s at)

-- SAM and DAM 01, 10, 11: the identifier in 64 bits, in 16, or elided
unfoldable pub identifier : ℕ → Option Address → Reader ℕ
identifier mode ll =
    branch (eqb mode 0b01) be64
    (branch (eqb mode 0b10)
    (do
      x ← be16
      give (short_iid x))
    (having (link_iid ll) give))

-- ---- 3.1.1, SAC, SAM, M, DAC, DAM: the addresses
-- all 128 bits
unfoldable pub full : Reader Ipv6Addr
full = do
  p ← be64
  i ← be64
  give (ip p i)

-- the prefix fe80::/64 where no context is used, else the context's, 5 where it is not listed
unfoldable pub prefix_of : List ℕ → ℕ → ℕ → Answer ℕ
prefix_of ctx ac id = choose (eqb ac 0) (is link_local) (context_at ctx id)

-- an address whose prefix is elided: its identifier is settled first, and then its prefix
unfoldable pub elided : List ℕ → ℕ → ℕ → ℕ → Option Address → Reader Ipv6Addr
elided ctx ac mode id ll = do
  i ← identifier mode ll
  having (prefix_of ctx ac id) (λ p. give (ip p i))

-- SAC = 1 with SAM = 00 is the unspecified address
unfoldable pub source : List ℕ → ℕ → ℕ → ℕ → Option Address → Reader Ipv6Addr
source ctx sac sam id ll =
    branch (eqb sam 0b00) (branch (eqb sac 0) full (give (ip 0 0)))
    (elided ctx sac sam id ll)

-- ffXX::00XX:XXXX:XXXX
unfoldable pub group48 : Reader Ipv6Addr
group48 = do
  x ← be16
  y ← be32
  give (ip ((0xff00 + x / 256) * 2 ^ 48) (x % 256 * 2 ^ 32 + y))

-- ffXX::00XX:XXXX
unfoldable pub group32 : Reader Ipv6Addr
group32 = do
  x ← be32
  give (ip ((0xff00 + x / 2 ^ 24) * 2 ^ 48) (x % 2 ^ 24))

-- ff02::00XX
unfoldable pub group8 : Reader Ipv6Addr
group8 = do
  x ← byte
  give (ip (0xff02 * 2 ^ 48) x)

-- M = 1, DAC = 0: the group in 128 bits, 48, 32 or 8
unfoldable pub multicast : ℕ → Reader Ipv6Addr
multicast dam = branch (eqb dam 0b00) full (branch (eqb dam 0b01) group48 (branch (eqb dam 0b10) group32 group8))

-- M = 0, DAC = 1, DAM = 00 is reserved; M = 1 with DAC = 1 is not supported (a listed difference from the RFC): 3
unfoldable pub destination : List ℕ → ℕ → ℕ → ℕ → ℕ → Option Address → Reader Ipv6Addr
destination ctx m dac dam id ll =
    branch (eqb m 0)
    (branch (eqb dam 0b00) (branch (eqb dac 0) full (refuse 3)) (elided ctx dac dam id ll))
    (branch (eqb dac 0) (multicast dam) (refuse 3))

unfoldable pub addresses : List ℕ → Base → Contexts → Option Address → Option Address → Reader Addresses
addresses ctx b i ls ld = do
  s ← source ctx b.sac b.sam i.src ls
  d ← destination ctx b.m b.dac b.dam i.dst ld
  give (record { src = s; dst = d })

-- ---- the header
unfoldable pub repr_of : Option Address → Option Address → Front → Addresses → Repr
repr_of ls ld f a =
    record {
      src_addr = a.src;
      ll_src_addr = ls;
      dst_addr = a.dst;
      ll_dst_addr = ld;
      next_header = f.next_header;
      hop_limit = f.hop_limit;
      ecn = f.traffic.ecn;
      dscp = f.traffic.dscp;
      flow_label = f.traffic.flow_label;
    }

-- ctx: the contexts; ls and ld: the link-layer addresses of the frame that the header came in
unfoldable pub behind : List ℕ → Option Address → Option Address → Base → Reader Repr
behind ctx ls ld b = do
  f ← front b
  a ← addresses ctx b f.contexts ls ld
  give (repr_of ls ld f a)

unfoldable pub iphc : List ℕ → Option Address → Option Address → Reader Repr
iphc ctx ls ld = do
  v ← base
  behind ctx ls ld (base_of v)
