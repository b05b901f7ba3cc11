-- The tables of TF, SAM and DAM as RFC 6282, 3.1.1, prints them, row by row. proofs/Modes.antt shows that the branches of Iphc.antt are these.
use Rattle.ieee802154.specs.declared.addr.Address.{Address}
use Rattle.std.specs.Prelude.{ℕ, List, Bool, true, false, eqb, Option}
use Rattle.octets.specs.Read.{Reader, choose, give, refuse, be16, be64, ◌>>=◌}
use Rattle.octets.specs.Ipv6.{ip, link_local}
use Rattle.octets.specs.declared.ipv6.Ipv6Addr.{Ipv6Addr}
use Rattle.iphc.specs.Context.{context_at}
use Rattle.iphc.specs.Iphc.{class_and_label, ecn_and_label, class_only, short_iid, link_iid, having, full, group48, group32, group8}
use Rattle.iphc.specs.declared.read.Traffic.{Traffic}

-- two bits
pub data Mode : Type 0 where
  m00 : Mode
  m01 : Mode
  m10 : Mode
  m11 : Mode

unfoldable pub mode_of : ℕ → Mode
mode_of n = choose (eqb n 0b00) m00 (choose (eqb n 0b01) m01 (choose (eqb n 0b10) m10 m11))

-- ---- TF: "00: ECN + DSCP + 4-bit Pad + Flow Label (4 bytes). 01: ECN + 2-bit Pad + Flow Label (3 bytes), DSCP is elided. 10: ECN + DSCP (1 byte),
-- Flow Label is elided. 11: Traffic Class and Flow Label are elided", which leaves what none gives
abbrev pub traffic_by : Traffic → Mode → Reader Traffic
traffic_by none m00 = class_and_label
traffic_by none m01 = ecn_and_label
traffic_by none m10 = class_only
traffic_by none m11 = give none

-- ---- SAM where SAC = 0, and DAM where M = 0 and DAC = 0
abbrev pub stateless : Option Address → Mode → Reader Ipv6Addr
-- "00: 128 bits. The full address is carried in-line."
stateless ll m00 = full
-- "01: 64 bits. The first 64-bits of the address are elided. The value of those bits is the link-local prefix padded with zeros. The remaining 64
-- bits are carried in-line."
stateless ll m01 = do
  i ← be64
  give (ip link_local i)
-- "10: 16 bits. The first 112 bits of the address are elided. The value of the first 64 bits is the link-local prefix padded with zeros. The
-- following 64 bits are 0000:00ff:fe00:XXXX, where XXXX are the 16 bits carried in-line."
stateless ll m10 = do
  x ← be16
  give (ip link_local (short_iid x))
-- "11: 0 bits. The address is fully elided. [..] The remaining 64 bits are computed from the encapsulating header"
stateless ll m11 = having (link_iid ll) (λ i. give (ip link_local i))

-- ---- SAM where SAC = 1, and DAM where M = 0 and DAC = 1, but for 00: the same with the prefix of the context id
abbrev pub stateful : List ℕ → ℕ → Option Address → Reader Ipv6Addr → Mode → Reader Ipv6Addr
stateful ctx id ll zero m00 = zero
stateful ctx id ll zero m01 = do
  i ← be64
  having (context_at ctx id) (λ p. give (ip p i))
stateful ctx id ll zero m10 = do
  x ← be16
  having (context_at ctx id) (λ p. give (ip p (short_iid x)))
stateful ctx id ll zero m11 = having (link_iid ll) (λ i. having (context_at ctx id) (λ p. give (ip p i)))

-- SAC, SAM; with SAC = 1, "00: the UNSPECIFIED address, ::"
abbrev pub source_by : List ℕ → ℕ → Option Address → Bool → Mode → Reader Ipv6Addr
source_by ctx id ll false m = stateless ll m
source_by ctx id ll true m = stateful ctx id ll (give (ip 0 0)) m

-- DAM where M = 1 and DAC = 0: "00: 128 bits. 01: 48 bits, ffXX::00XX:XXXX:XXXX. 10: 32 bits, ffXX::00XX:XXXX. 11: 8 bits, ff02::00XX."
abbrev pub group : Mode → Reader Ipv6Addr
group m00 = full
group m01 = group48
group m10 = group32
group m11 = group8

-- M, DAC, DAM; with M = 0 and DAC = 1, "00: reserved"; M = 1 with DAC = 1 is not taken (a listed difference)
abbrev pub destination_by : List ℕ → ℕ → Option Address → Bool → Bool → Mode → Reader Ipv6Addr
destination_by ctx id ll false false m = stateless ll m
destination_by ctx id ll false true m = stateful ctx id ll (refuse 3) m
destination_by ctx id ll true false m = group m
destination_by ctx id ll true true m = refuse 3
