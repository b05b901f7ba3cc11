-- The compressed headers: what calls gave of them, and how long they are.
use Rattle.std.specs.Prelude.{Option, Some, None}
use Prim.Native.Nat.{ℕ, ◌+◌, ◌-◌, ◌≤◌}
use native.Mathlib.Nat.{lt_of_not-le}
use native.Mathlib.Decide.{dec_le}
use native.Mathlib.Omega.{arith}
use mathlib.Core.List.{List, [], ◌++◌, append-nil}
use mathlib.Core.Bool.{Bool, true, false}
use mathlib.Core.Path.{◌≡◌, refl, sym, ap, ◌∙◌}
use lib.Dec.{eqb}
use lib.ListN.{length, take, drop, length-append, length-drop, drop_of_length-le}
use lib.Seq.{length-take-le, drop-drop}
use borrow.Author.Tests.{le-leb, lt-leb}
use Rattle.octets.specs.Read.{choose}
use Rattle.octets.specs.Write.{put, over}
use Rattle.octets.specs.Ipv6.{ip}
use Rattle.octets.specs.declared.ipv6.Ipv6Addr.{Ipv6Addr}
use Rattle.octets.proofs.Puts.{more, put-nil, put_front}
use Rattle.expand.proofs.CopyLaws.{put-inside}
use Rattle.ieee802154.specs.Mac as Mac
use Rattle.ieee802154.specs.declared.header.Repr as MacHeader
use Rattle.ieee802154.proofs.WriteSteps as MacSteps
use Rattle.sixlowpan.specs.NhcUdp.{udp_length, udp_nhc_bytes, udp_form, elided_bit}
use Rattle.sixlowpan.specs.declared.nhc.UdpNhcRepr.{UdpNhcRepr}
use Rattle.sixlowpan.proofs.NhcPuts.{length-udp}
use Rattle.iphc.specs.Emit as Iphc
use Rattle.iphc.specs.declared.header.Repr.{Repr}
use Rattle.iphc.proofs.Puts as IphcPuts
use Rattle.iphc.proofs.Lengths.{at-most-36}
use Rattle.cutting.specs.Fields.{is_udp}
use Rattle.cutting.specs.Head.{mac_of, mac_length, mac_bytes, ip_of, udp_of, udp_field, udp_bytes, udp_size, covers_of, udp_part, udp_part_length, head_bytes, head_length, covers}
use Rattle.cutting.specs.Head.{src_of, dst_of, head_of}
use Rattle.cutting.specs.declared.link.Link.{Link}
use Rattle.cutting.specs.declared.head.Head.{Head}

-- ---- the headers, of what calls gave
pub address-told : (p i q j : ℕ) → p ≡ q → i ≡ j → ip p i ≡ ip q j
address-told p i q j e f = rw (e, f) refl

-- ---- lengths
width-most : (t s r : Bool) → choose t 1 (choose s 1 2 + choose r 1 2) ≤ 4
width-most true s r = omega arith
width-most false true true = omega arith
width-most false true false = omega arith
width-most false false true = omega arith
width-most false false false = omega arith

sum-most : (t : Bool) → choose t 2 0 ≤ 2
sum-most true = omega arith
sum-most false = omega arith

pub udp-most : (h : UdpNhcRepr) → udp_length h ≤ 7
udp-most h =
    let p = udp_form h in
    omega (arith, width-most (eqb p 0b11) (eqb p 0b10) (eqb p 0b01), sum-most (eqb (elided_bit h.checksum) 0))

choose-most : (t : Bool) (n : ℕ) → n ≤ 7 → choose t n 0 ≤ 7
choose-most true n h = h
choose-most false n h = omega arith

pub udp-part-most : (d : List ℕ) → udp_part_length d ≤ 7
unfolding udp_part_length
udp-part-most d = choose-most (is_udp d) (udp_length (udp_of d)) (udp-most (udp_of d))

pub head-most : (l : Link) (d : List ℕ) → head_length l d ≤ 43
unfolding head_length
head-most l d = omega (arith, at-most-36 (ip_of l d), udp-part-most d)

length-choose : (t : Bool) (bs : List ℕ) (n : ℕ) → length bs ≡ n → length (choose t bs []) ≡ choose t n 0
length-choose true bs n h = h
length-choose false bs n h = refl

pub length-udp-part : (d : List ℕ) → length (udp_part d) ≡ udp_part_length d
unfolding udp_part udp_part_length
length-udp-part d = length-choose (is_udp d) (udp_nhc_bytes (udp_of d)) (udp_length (udp_of d)) (length-udp (udp_of d))

pub length-head : (l : Link) (d : List ℕ) → length (head_bytes l d) ≡ head_length l d
unfolding head_bytes head_length
length-head l d = omega (arith, length-append (Iphc.bytes_of (ip_of l d)) (udp_part d), IphcPuts.length-bytes (ip_of l d), length-udp-part d)

-- ---- the UDP header, where it is compressed
field-size : (t : Bool) (h : UdpNhcRepr) → udp_size (choose t (Some h) None) ≡ choose t (udp_length h) 0
field-size true h = refl
field-size false h = refl

field-bytes : (t : Bool) (h : UdpNhcRepr) → udp_bytes (choose t (Some h) None) ≡ choose t (udp_nhc_bytes h) []
field-bytes true h = refl
field-bytes false h = refl

field-covers : (t : Bool) (h : UdpNhcRepr) → covers_of (choose t (Some h) None) ≡ choose t 48 40
field-covers true h = refl
field-covers false h = refl

module _ (d : List ℕ) (u : Option UdpNhcRepr) (e : u ≡ udp_field d) where
  pub size-told : udp_size u ≡ udp_part_length d
  unfolding udp_part_length
  size-told = ap udp_size e ∙ field-size (is_udp d) (udp_of d)

  pub bytes-told : udp_bytes u ≡ udp_part d
  unfolding udp_part
  bytes-told = ap udp_bytes e ∙ field-bytes (is_udp d) (udp_of d)

  pub covers-told : covers_of u ≡ covers d
  unfolding covers
  covers-told = ap covers_of e ∙ field-covers (is_udp d) (udp_of d)

-- ---- what calls gave of them
pub head-told : (l : Link) (d : List ℕ) (s t : Ipv6Addr) (u : Option UdpNhcRepr) (h : Repr) (n m : ℕ) → s ≡ src_of d → t ≡ dst_of d → u ≡ udp_field d → h ≡ ip_of l d → n ≡ Iphc.length_of h → m ≡ udp_part_length d → ◌≡◌ {A = Head} (record { src = s; dst = t; udp = u; len = n + m }) (head_of l d)
unfolding head_of head_length
head-told l d s t u h n m e1 e2 e3 e4 e5 e6 = rw (e5, e4, e6, e1, e2, e3) refl

-- what was read and measured
module _ (l : Link) (d : List ℕ) (h : Head) (e : h ≡ head_of l d) where
  pub head-addresses : (h.src ≡ src_of d) × (h.dst ≡ dst_of d)
  unfolding head_of
  head-addresses = (ap (λ z. z.src) e, ap (λ z. z.dst) e)

  pub head-udp : h.udp ≡ udp_field d
  unfolding head_of
  head-udp = ap (λ z. z.udp) e

  pub head-len : h.len ≡ head_length l d
  unfolding head_of
  head-len = ap (λ z. z.len) e

  pub head-sum : (r : Repr) (n : ℕ) → r ≡ ip_of l d → n ≡ udp_size h.udp → h.len ≡ Iphc.length_of r + n
  unfolding head_length
  head-sum r n p q = let k : n ≡ udp_part_length d = q ∙ size-told d h.udp head-udp in head-len ∙ rw (← k, ← p) refl

pub put-head-told : (l : Link) (d : List ℕ) (h : Repr) (n at : ℕ) (a b c : List ℕ) → h ≡ ip_of l d → n ≡ Iphc.length_of h → b ≡ put at (Iphc.bytes_of h) a → c ≡ put (at + n) (udp_part d) b → c ≡ put at (head_bytes l d) a
unfolding head_bytes
put-head-told l d h n at a b c e f p q = more a b c at n (Iphc.bytes_of h) (udp_part d) (IphcPuts.length-bytes h ∙ sym f) p q ∙ ap (λ z. put at (Iphc.bytes_of z ++ udp_part d) a) e

pub put-head-done : (l : Link) (d : List ℕ) (h : Repr) (n at : ℕ) (a b c : List ℕ) (u : Option UdpNhcRepr) → h ≡ ip_of l d → n ≡ Iphc.length_of h → u ≡ udp_field d → b ≡ put at (Iphc.bytes_of h) a → c ≡ put (at + n) (udp_bytes u) b → c ≡ put at (head_bytes l d) a
put-head-done l d h n at a b c u e f i p q = put-head-told l d h n at a b c e f p (q ∙ ap (λ z. put (at + n) z b) (bytes-told d u i))

pub put-mac-told : (l : Link) (h : MacHeader.Repr) (a b : List ℕ) → h ≡ mac_of l → mac_length l ≤ length a → b ≡ over (Mac.length_of h) (Mac.bytes_of h) a → b ≡ put 0 (mac_bytes l) a
put-mac-told l h a b e w p =
    let n : length (mac_bytes l) ≡ mac_length l = MacSteps.length-bytes (mac_of l) in
    let f : put 0 (mac_bytes l) a ≡ mac_bytes l ++ drop (mac_length l) a = put_front (mac_bytes l) a (omega arith) ∙ ap (λ k. mac_bytes l ++ drop k a) n in
    p ∙ ap (λ z. over (Mac.length_of z) (Mac.bytes_of z) a) e ∙ rw (le-leb (mac_length l) (length a) w) (sym f)

-- ---- a datagram is as long as what they stand for
covers-most : (t : Bool) → choose t 48 40 ≤ 48
covers-most true = omega arith
covers-most false = omega arith

pub covers-within : (d : List ℕ) → 40 ≤ length d → covers d ≤ length d
unfolding covers is_udp
covers-within d h = elim (dec_le 48 (length d)) [ yes q ↦ omega (arith, covers-most (is_udp d)) | no q ↦ rw (lt-leb 48 (length d) (lt_of_not-le q)) h ]

-- ---- a header that was written into its part of the room
pub put-emitted : (at e n : ℕ) (bs s l : List ℕ) → length bs ≡ n → e ≡ at + n → e ≤ length l → s ≡ over n bs (take (e - at) (drop at l)) → take at l ++ (s ++ drop (e - at) (drop at l)) ≡ put at bs l
put-emitted at e n bs s l p q h r =
    let k : e - at ≡ n = omega arith in
    let w : length (take n (drop at l)) ≡ n = length-take-le n (drop at l) (omega (arith, length-drop at l)) in
    let t : s ≡ bs =
    r
    ∙ ap (λ z. over n bs (take z (drop at l))) k
    ∙ rw (le-leb n (length (take n (drop at l))) (omega arith)) (ap (λ z. bs ++ z) (drop_of_length-le (take n (drop at l)) {i = n} (omega arith)) ∙ append-nil bs)
    in
    ap (λ z. take at l ++ (z ++ drop (e - at) (drop at l))) t
    ∙ ap (λ z. take at l ++ (bs ++ z)) (ap (λ z. drop z (drop at l)) (k ∙ sym p) ∙ drop-drop (length bs) at l)
    ∙ sym (put-inside at bs l (omega arith))

-- ---- what the check takes from here
pub ruleset mac_told = (put-mac-told)

pub ruleset udp_told = (udp-most)
