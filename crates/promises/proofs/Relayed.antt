-- A frame behind a relay is to the table what the same frame is bare, its mesh addresses in the MAC header's place: so what is proved of frames holds of
-- relayed ones.
use Rattle.std.specs.Prelude.{Option, Some, None}
use Prim.Native.Nat.{ℕ, ◌+◌, ◌≤◌}
use native.Mathlib.Nat.{add-zero}
use mathlib.Core.List.{List, [], ◌∷◌, ◌++◌, append_assoc}
use mathlib.Core.Bool.{true, false}
use mathlib.Core.Path.{◌≡◌, refl, sym, ap, ap₂, subst, ◌∙◌}
use lib.Dec.{eqb}
use lib.ListN.{length, get_or, length-append}
use lib.Seq.{get_or-append-add, drop-append-add}
use Rattle.octets.specs.Read.{Answer, is, refused, Read, got, and_then, choose, byte, be16, le16}
use Rattle.expand.specs.Expand.{expansion}
use Rattle.expand.specs.Sum.{no_sum, carried_at}
use Rattle.relay.specs.Headers.{is_either, relay, has_addresses, relay_bytes}
use Rattle.relay.specs.declared.headers.Relay.{Relay}
use Rattle.relay.specs.declared.mesh.Mesh.{Mesh}
use Rattle.relay.proofs.Trips.{relay-trip}
use Rattle.incoming.specs.Incoming.{framed, through, arrival, Brought, datagram, part, whole, piece, fragment, by_kind, payload}
use Rattle.incoming.specs.declared.arrival.Arrival.{Arrival}
use Rattle.incoming.proofs.Steps.{arrival-short}
use Rattle.incoming.proofs.Relayed.{direct, meshed}
use Rattle.reassembly.specs.Slots.{node_of, source_of, addressed}
use Rattle.reassembly.specs.Parts as Parts
use Rattle.reassembly.specs.Parts.{part_of}
use Rattle.reassembly.specs.Table as Table
use Rattle.receiver.specs.Receive.{sender_of, key_of, content, tested, brings, carries, frame_call}
use Rattle.sixlowpan.specs.Frag.{frag}
use Rattle.sixlowpan.specs.Dispatch.{dispatch}
use Rattle.sixlowpan.specs.declared.frag.Repr as Frag
use Rattle.sixlowpan.specs.declared.frag.Repr.TheVariants.{FirstFragment, Fragment}
use Rattle.sixlowpan.specs.declared.dispatch.SixlowpanPacket.{SixlowpanPacket}
use Rattle.sixlowpan.specs.declared.dispatch.SixlowpanPacket.TheVariants.{FragmentHeader, IphcHeader}
use Rattle.ieee802154.specs.Control.{supported, says_elements, has_sequence, omits_sequence, has_addressing, carried01, carried}
use Rattle.ieee802154.specs.Addressing.{pan_field, address_field, side, sides, addressing}
use Rattle.ieee802154.specs.Security.{auxiliary}
use Rattle.ieee802154.specs.Mac as Mac
use Rattle.ieee802154.specs.declared.addr.Address.TheVariants.{Short}
use Rattle.octets.specs.Write.{byte_bytes, be16_bytes}
use Rattle.relay.specs.Mesh.{hops_bytes}
use Rattle.promises.proofs.TwoParts.{high}
use Rattle.promises.proofs.Worked as Worked
use Rattle.promises.proofs.Worked.{old-key, last-month, later-brings}
use Rattle.promises.proofs.Moved.{from, moves-frag, same-dispatch, same-expansion}

-- ---- what a frame brings goes by its addresses and by the bytes behind its headers
pub record Alike (a b : Arrival) : Type 0 where
  pub sender : a.src ≡ b.src
  pub home : a.pan ≡ b.pan
  pub receiver : a.dst ≡ b.dst

module _ (p p' q : List ℕ) (l : length (p ++ q) ≤ 127) (l' : length (p' ++ q) ≤ 127) (ctx : List ℕ) (a b : Arrival) (A : Alike a b) where
  expands : (size : Option ℕ) (k : ℕ) → expansion ctx (Some a.src) (Some a.dst) size (p ++ q) (length p + k) ≡ expansion ctx (Some b.src) (Some b.dst) size (p' ++ q) (length p' + k)
  expands size k =
      same-expansion ctx _ _ size p q k l
      ∙ ap (λ z. expansion ctx (Some z) (Some a.dst) size q k) A.sender
      ∙ ap (λ z. expansion ctx (Some b.src) (Some z) size q k) A.receiver
      ∙ sym (same-expansion ctx _ _ size p' q k l')

  same-piece : (h : Frag.Repr) (k : ℕ) → piece ctx a h (length p + k) (p ++ q) ≡ piece ctx b h (length p' + k) (p' ++ q)
  unfolding piece
  same-piece (FirstFragment size tag) k = ap (λ r. and_then r (λ e. is (part size tag 0 e.bytes e.sum))) (expands (Some size) k)
  same-piece (Fragment size tag o) k = ap (λ d. choose (eqb o.0 0) (refused 10) (is (part size tag o.0 d no_sum))) (drop-append-add p q k ∙ sym (drop-append-add p' q k))

  fragment-go : (r : Read Frag.Repr) → and_then (from (length p) r) (λ x. piece ctx a x.value x.next (p ++ q)) ≡ and_then (from (length p') r) (λ x. piece ctx b x.value x.next (p' ++ q))
  fragment-go (is x) = same-piece x.value x.next
  fragment-go (refused n) = refl

  module _ (i : a.payload.at ≡ length p + 0) (j : b.payload.at ≡ length p' + 0) where
    same-fragment : fragment ctx a (p ++ q) ≡ fragment ctx b (p' ++ q)
    unfolding fragment
    same-fragment =
        ap (λ r. and_then r (λ x. piece ctx a x.value x.next (p ++ q))) (ap (λ n. frag (p ++ q) n) i ∙ moves-frag p q 0)
        ∙ fragment-go (frag q 0)
        ∙ ap (λ r. and_then r (λ x. piece ctx b x.value x.next (p' ++ q))) (sym (ap (λ n. frag (p' ++ q) n) j ∙ moves-frag p' q 0))

    same_whole : whole ctx a (p ++ q) ≡ whole ctx b (p' ++ q)
    unfolding whole
    same_whole =
        ap (λ r. and_then r (λ e. is (datagram e.bytes e.sum)))
        (ap (λ n. expansion ctx (Some a.src) (Some a.dst) None (p ++ q) n) i
        ∙ expands None 0
        ∙ sym (ap (λ n. expansion ctx (Some b.src) (Some b.dst) None (p' ++ q) n) j))

    kind-same : (r : Answer SixlowpanPacket) → and_then r (λ c. by_kind c ctx a (p ++ q)) ≡ and_then r (λ c. by_kind c ctx b (p' ++ q))
    kind-same (is FragmentHeader) = same-fragment
    kind-same (is IphcHeader) = same_whole
    kind-same (refused n) = refl

    pub same-payload : payload ctx a (p ++ q) ≡ payload ctx b (p' ++ q)
    unfolding payload
    same-payload =
        ap (λ r. and_then r (λ c. by_kind c ctx a (p ++ q))) (ap (λ n. dispatch (p ++ q) n) i ∙ same-dispatch p q 0)
        ∙ kind-same (dispatch q 0)
        ∙ ap (λ r. and_then r (λ c. by_kind c ctx b (p' ++ q))) (sym (ap (λ n. dispatch (p' ++ q) n) j ∙ same-dispatch p' q 0))

-- ---- what it is to the table
sender-alike : (a b : Arrival) → Alike a b → sender_of a ≡ sender_of b
sender-alike a b A = ap (λ z. source_of z a.pan) A.sender ∙ ap (λ z. source_of b.src z) A.home

key-alike : (a b : Arrival) → Alike a b → (size tag : ℕ) → key_of a size tag ≡ key_of b size tag
unfolding key_of
key-alike a b A size tag =
    ap (λ z. record { src = z; dst = node_of a.dst; size = size; tag = tag }) (sender-alike a b A)
    ∙ ap (λ z. record { src = sender_of b; dst = node_of z; size = size; tag = tag }) A.receiver

brings-alike : (t : ℕ) (a b : Arrival) → Alike a b → (r : Answer Brought) → brings t a r ≡ brings t b r
brings-alike t a b A (is (datagram d m)) = ap (λ z. Table.from t z (tested m d)) (sender-alike a b A)
brings-alike t a b A (is (part size tag u bs e)) = ap (λ z. Table.part t (part_of z u e bs)) (key-alike a b A size tag)
brings-alike t a b A (refused n) = ap (λ z. Table.from t z (Parts.refused n)) (sender-alike a b A)

-- frames that arrive alike and bring the same are the same to every table
pub same-call : (ctx : List ℕ) (t : ℕ) (s u : List ℕ) (a b : Arrival) → Alike a b → payload ctx a s ≡ payload ctx b u → arrival s ≡ is a → arrival u ≡ is b
    → frame_call ctx t s ≡ frame_call ctx t u
unfolding frame_call content
same-call ctx t s u a b A e x y =
    ap (λ r. carries t ctx s r) x
    ∙ brings-alike t a b A (content ctx a s)
    ∙ ap₂ (λ n r. brings t b (choose (addressed (node_of n)) r (refused 6))) A.receiver e
    ∙ ap (λ r. carries t ctx u r) (sym y)

-- ---- a frame behind a relay is to the table what the same frame is bare: behind a MAC header, or any front that is read as one, stand a relay's
-- headers r and then q; or q stands behind a MAC header that has the mesh header's addresses, and the same PAN
module _ (front bare q : List ℕ) (r : Relay) (m : Mesh) (a b : Arrival) (is-mesh : r.mesh ≡ Some m) (both : has_addresses r.mesh ≡ true) (last : is_either (get_or q 0 0) ≡ false) where
  abbrev relayed : List ℕ
  relayed = front ++ (relay_bytes r ++ q)

  abbrev apart : relayed ≡ (front ++ relay_bytes r) ++ q
  apart = sym (append_assoc front (relay_bytes r) q)

  pub behind-relay : framed relayed ≡ is a → a.payload.at ≡ length front → framed (bare ++ q) ≡ is b → b.payload.at ≡ length bare → b.src ≡ m.origin → b.pan ≡ a.pan → b.dst ≡ m.destination
      → (ctx : List ℕ) (t : ℕ) → frame_call ctx t relayed ≡ frame_call ctx t (bare ++ q)
  behind-relay e i f j o h d ctx t =
      let n = length front + length (relay_bytes r) in
      let w : relay relayed a.payload.at ≡ got r n = ap (λ k. relay relayed k) i ∙ relay-trip r q both last front (length front) refl in
      let c = through a (Some m) n in
      let x : arrival relayed ≡ is c = meshed relayed a e r n w m is-mesh in
      let g : get_or (bare ++ q) b.payload.at 0 ≡ get_or q 0 0 = ap (λ k. get_or (bare ++ q) k 0) (j ∙ sym (add-zero (length bare))) ∙ get_or-append-add bare q 0 0 in
      let y = direct (bare ++ q) b f (ap is_either g ∙ last) in
      let z : n ≡ length (front ++ relay_bytes r) + 0 = sym (add-zero (length (front ++ relay_bytes r)) ∙ length-append front (relay_bytes r)) in
      let A : Alike c b = record { sender = sym o; home = sym h; receiver = sym d } in
      let l = arrival-short relayed c x in
      let k = arrival-short (bare ++ q) b y in
      let v = same-payload (front ++ relay_bytes r) bare q (subst (λ y. length y ≤ 127) apart l) k ctx c b A z (j ∙ sym (add-zero (length bare))) in
      same-call ctx t relayed (bare ++ q) c b A (ap (λ y. payload ctx c y) apart ∙ v) x y

-- ---- in bytes: the later part of last month's block, that the gateway 0001 sent to all and the relay 0077 hands on, five hops left
abbrev later-bytes : List ℕ
later-bytes = 0xe0 ∷ 0x40 ∷ 0x00 ∷ 0x07 ∷ 0x07 ∷ 0x32 ∷ 0x36 ∷ 0x2d ∷ 0x31 ∷ 0x30 ∷ 0x20 ∷ 0x30 ∷ 0x33 ∷ []

abbrev hop : Mesh
hop = record { hops = 5; origin = Short 1; destination = Short 0xffff }

abbrev by-relay : Relay
by-relay = record { mesh = Some hop; broadcast = None }

abbrev pub relayed-frame : List ℕ
relayed-frame = Worked.from 0x77 0xcd 0xab 0x01 (0xb5 ∷ 0x00 ∷ 0x01 ∷ 0xff ∷ 0xff ∷ later-bytes)

abbrev arrives : ℕ → Arrival
arrives n = record { src = Short n; pan = Some (record { 0 = 0xabcd }); dst = Short 0xffff; payload = record { at = 9 } }

frames-read : (framed relayed-frame ≡ is (arrives 0x77)) × (framed (Worked.from 1 0xcd 0xab 0x01 later-bytes) ≡ is (arrives 1)) × (relay_bytes by-relay ≡ 0xb5 ∷ 0x00 ∷ 0x01 ∷ 0xff ∷ 0xff ∷ [])
unfolding framed byte be16 le16 supported says_elements has_sequence omits_sequence has_addressing carried01 carried pan_field address_field side sides addressing auxiliary Mac.sequence Mac.sequence_of Mac.repr_of Mac.header_rest Mac.after_control Mac.header Mac.mac hops_bytes byte_bytes be16_bytes
frames-read = (refl, refl, refl)

pub relayed-brings : (t : ℕ) → frame_call [] t relayed-frame ≡ Table.part t (high old-key last-month 7 (carried_at 0 40))
relayed-brings t =
    let c : Worked.from 0x77 0xcd 0xab 0x01 (relay_bytes by-relay ++ later-bytes) ≡ relayed-frame = ap (λ z. Worked.from 0x77 0xcd 0xab 0x01 (z ++ later-bytes)) frames-read.2 in
    sym (ap (λ z. frame_call [] t z) c)
    ∙ behind-relay (Worked.from 0x77 0xcd 0xab 0x01 []) (Worked.from 1 0xcd 0xab 0x01 []) later-bytes by-relay hop (arrives 0x77) (arrives 1) refl refl refl (ap framed c ∙ frames-read.0) refl frames-read.1 refl refl refl refl [] t
    ∙ (later-brings t).0
