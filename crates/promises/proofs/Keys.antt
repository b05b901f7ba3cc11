-- The ported key (sixlowpan's `Key`, as the Rust has it) and the table's, which has the sender's PAN too: two parts are of one datagram to the table
-- exactly where they are to the port and their senders' PANs are one.
use Rattle.std.specs.Prelude.{Some}
use Prim.Native.Nat.{ℕ}
use mathlib.Core.Path.{◌≡◌, refl, ap}
use Rattle.octets.specs.Read.{is}
use Rattle.ieee802154.specs.declared.addr.Address.{Address}
use Rattle.ieee802154.specs.declared.header.Repr as Mac
use Rattle.sixlowpan.specs.Frag.{size_of, tag_of}
use Rattle.sixlowpan.specs.Key as Ported
use Rattle.sixlowpan.specs.declared.frag.Repr as Frag
use Rattle.sixlowpan.specs.declared.frag.Key as PortedKey
use Rattle.incoming.specs.declared.arrival.Arrival.{Arrival}
use Rattle.reassembly.specs.declared.slot.Key.{Key}
use Rattle.reassembly.proofs.Slots.{node-one, source_one}
use Rattle.receiver.specs.Receive.{key_of}

-- the ported key of a part with the fragment header h that arrives as a says
abbrev pub ported_of : Arrival → Frag.Repr → PortedKey.Key
ported_of a h = record { ll_src_addr = a.src; ll_dst_addr = a.dst; datagram_size = size_of h; datagram_tag = tag_of h }

-- it is what `frag::Repr::key` answers for a MAC header of these addresses
pub ported-is : (h : Frag.Repr) (m : Mac.Repr) (a : Arrival) → m.src_addr ≡ Some a.src → m.dst_addr ≡ Some a.dst
    → Ported.key_of h m ≡ is (ported_of a h)
unfolding Ported.key_of
ported-is h m a e f = rw (e, f) refl

pub table→ported : (a b : Arrival) (h j : Frag.Repr) → key_of a (size_of h) (tag_of h) ≡ key_of b (size_of j) (tag_of j) → ported_of a h ≡ ported_of b j
unfolding key_of
table→ported a b h j e =
    let s : a.src ≡ b.src = (source_one a.src b.src a.pan b.pan (ap (λ (k : Key). k.src) e)).0 in
    let d : a.dst ≡ b.dst = node-one a.dst b.dst (ap (λ (k : Key). k.dst) e) in
    let n : size_of h ≡ size_of j = ap (λ (k : Key). k.size) e in
    let t : tag_of h ≡ tag_of j = ap (λ (k : Key). k.tag) e in
    same a.src b.src a.dst b.dst (size_of h) (size_of j) (tag_of h) (tag_of j) s d n t
  where
    same : (a b c d : Address) (n m t u : ℕ) → a ≡ b → c ≡ d → n ≡ m → t ≡ u
        → ◌≡◌ {A = PortedKey.Key} (record { ll_src_addr = a; ll_dst_addr = c; datagram_size = n; datagram_tag = t })
        (record { ll_src_addr = b; ll_dst_addr = d; datagram_size = m; datagram_tag = u })
    same a b c d n m t u p q r s = rw (p, q, r, s) refl

pub ported→table : (a b : Arrival) (h j : Frag.Repr) → a.pan ≡ b.pan → ported_of a h ≡ ported_of b j → key_of a (size_of h) (tag_of h) ≡ key_of b (size_of j) (tag_of j)
unfolding key_of
ported→table a b h j p e =
    let s : a.src ≡ b.src = ap (λ (k : PortedKey.Key). k.ll_src_addr) e in
    let d : a.dst ≡ b.dst = ap (λ (k : PortedKey.Key). k.ll_dst_addr) e in
    let n : size_of h ≡ size_of j = ap (λ (k : PortedKey.Key). k.datagram_size) e in
    let t : tag_of h ≡ tag_of j = ap (λ (k : PortedKey.Key). k.datagram_tag) e in
    rw (s, p, d, n, t) refl

-- one key in the table, one PAN
pub table→pan : (a b : Arrival) (n t u v : ℕ) → key_of a n t ≡ key_of b u v → a.pan ≡ b.pan
unfolding key_of
table→pan a b n t u v e = (source_one a.src b.src a.pan b.pan (ap (λ (k : Key). k.src) e)).1
