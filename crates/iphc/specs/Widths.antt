-- How many bytes each field of a compressed header takes, as the first two bytes announce it (RFC 6282, 3.1.1).
use Rattle.std.specs.Prelude.{ℕ, ◌+◌, eqb}
use Rattle.octets.specs.Read.{choose}
use Rattle.sixlowpan.specs.Next.{next_width}
use Rattle.iphc.specs.declared.read.Base.{Base}

abbrev pub contexts_width : ℕ → ℕ
contexts_width cid = choose (eqb cid 0) 0 1

abbrev pub traffic_width : ℕ → ℕ
traffic_width tf = choose (eqb tf 0b00) 4 (choose (eqb tf 0b01) 3 (choose (eqb tf 0b10) 1 0))

abbrev pub hop_width : ℕ → ℕ
hop_width hlim = choose (eqb hlim 0b00) 1 0

-- modes 01, 10 and 11
abbrev pub identifier_width : ℕ → ℕ
identifier_width mode = choose (eqb mode 0b01) 8 (choose (eqb mode 0b10) 2 0)

abbrev pub source_width : ℕ → ℕ → ℕ
source_width sac sam = choose (eqb sam 0b00) (choose (eqb sac 0) 16 0) (identifier_width sam)

abbrev pub multicast_width : ℕ → ℕ
multicast_width dam = choose (eqb dam 0b00) 16 (choose (eqb dam 0b01) 6 (choose (eqb dam 0b10) 4 1))

abbrev pub destination_width : ℕ → ℕ → ℕ
destination_width m dam = choose (eqb m 0) (choose (eqb dam 0b00) 16 (identifier_width dam)) (multicast_width dam)

-- all that follows the first two bytes
abbrev pub base_width : Base → ℕ
base_width b =
    (contexts_width b.cid + (traffic_width b.tf + (next_width b.nh + hop_width b.hlim)))
    + (source_width b.sac b.sam + destination_width b.m b.dam)
