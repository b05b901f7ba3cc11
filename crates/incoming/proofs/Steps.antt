-- Steps for `search`: what an expansion into a scratch of 455 bytes or more says, which is always enough.
use Rattle.ieee802154.specs.declared.addr.Address.{Address}
use Rattle.octets.specs.Answers.{of_answer, of_read}
use Rattle.std.specs.Prelude.{Result, Ok, Err, Option, Some, None}
use Prim.Native.Nat.{ℕ, ◌≤◌, ◌<◌}
use native.Mathlib.Omega.{arith}
use mathlib.Core.Bool.{false}
use mathlib.Core.List.{List, ◌++◌}
use mathlib.Core.Path.{◌≡◌, refl, sym, ap, ap₂, ◌∙◌}
use lib.ListN.{length, take, drop, replicate, length-append}
use lib.Seq.{take_at}
use lib.Dec.{eqb}
use borrow.Author.Tests.{le-leb, lt-leb, eq-eqb, ne_eqb}
use Rattle.octets.specs.Read.{Answer, is, refused, Placed, Read, and_then}
use Rattle.octets.specs.Refusal.{number_of}
use Rattle.octets.specs.declared.refusal.Refusal.{Refusal}
use Rattle.octets.specs.declared.refusal.Refusal.TheVariants.{BadPart, NoRoom}
use Rattle.octets.proofs.Spans.{not-refused}
use Rattle.octets.specs.declared.cursor.Cursor.{Cursor}
use Rattle.ieee802154.specs.Mac.{mac}
use Rattle.ieee802154.specs.declared.header.Repr as Mac
use Rattle.ieee802154.proofs.Lengths.{mac-short}
use Rattle.iphc.specs.declared.read.LinkAddresses.{LinkAddresses}
use Rattle.sixlowpan.specs.declared.dispatch.SixlowpanPacket.{SixlowpanPacket}
use Rattle.sixlowpan.specs.declared.dispatch.SixlowpanPacket.TheVariants.{FragmentHeader, IphcHeader}
use Rattle.sixlowpan.specs.Dispatch.{dispatch}
use Rattle.sixlowpan.specs.Frag.{frag}
use Rattle.sixlowpan.proofs.FragSpans.{frag-within}
use Rattle.sixlowpan.specs.declared.frag.Units.{Units}
use Rattle.sixlowpan.specs.declared.frag.Repr.{Repr}
use Rattle.sixlowpan.specs.declared.frag.Repr.TheVariants.{FirstFragment, Fragment}
use Rattle.expand.specs.Chain.{Measure}
use Rattle.expand.specs.Expand.{Expansion, expansion, of_expanded, measure_of, answered, filled}
use Rattle.expand.specs.Sum.{no_sum}
use Rattle.expand.specs.declared.checksum.UdpSum.{UdpSum}
use Rattle.expand.specs.declared.datagram.Expanded.{Expanded}
use Rattle.expand.proofs.Datagrams.{expansion-made, at-most-455}
use Rattle.incoming.specs.Incoming.{framed, arrival, of_payload, scratch_after, link_addresses_of, whole, piece, fragment, payload, payload_in, expanded, expanded_to, Begins, Within, Brings}
use Rattle.incoming.specs.declared.arrival.Arrival.{Arrival}
use Rattle.incoming.specs.declared.payload.Payload.{Payload}
use Rattle.incoming.specs.declared.payload.Head.{Head}

-- ---- a frame that is judged has at most 127 bytes
short-go : {B : Type 0} (s : List ℕ) (m : Read Mac.Repr) → mac s ≡ m → (k : Placed Mac.Repr → Answer B) (b : B) → and_then m k ≡ is b → length s ≤ 127
short-go s (is p) q k b e = mac-short s p.value p.next q
short-go s (refused n) q k b e = not-refused _ n e

framed-short : (s : List ℕ) (a : Arrival) → framed s ≡ is a → length s ≤ 127
unfolding framed
framed-short s a e = short-go s (mac s) refl _ a e

pub arrival-short : (s : List ℕ) (a : Arrival) → arrival s ≡ is a → length s ≤ 127
unfolding arrival
arrival-short s a e = go (framed s) refl _ e
  where
    go : (m : Answer Arrival) → framed s ≡ m → (k : Arrival → Answer Arrival) → and_then m k ≡ is a → length s ≤ 127
    go (is b) q k e = framed-short s b q
    go (refused n) q k e = not-refused _ n e

-- ---- a scratch of 455 bytes is enough
pub in-room : (room ctx : List ℕ) (a : Arrival) (s : List ℕ) → 455 ≤ length room → payload_in room ctx a s ≡ payload ctx a s
unfolding payload_in
in-room room ctx a s big = rw (le-leb 455 (length room) big)

-- ---- an expansion m of at most 455 bytes, into a room of 455 at least
Small : Answer Expansion → Type 0
Small m = (e : Expansion) → m ≡ is e → length e.bytes ≤ 455

small : (ctx : List ℕ) (ls ld : Option Address) (size : Option ℕ) (s : List ℕ) (at : ℕ) → Small (expansion ctx ls ld size s at)
unfolding Small
small ctx ls ld size s at e p = at-most-455 ctx ls ld size s at e (expansion-made ctx ls ld size s at e p)

-- what a datagram of n bytes, and what is remembered of its checksum, say
got-expanded : (m : Answer Expansion) → Small m → (room l : List ℕ) (n : ℕ) (el : UdpSum) → 455 ≤ length room → is (record { len = n; sum = el }) ≡ answered m room → l ≡ filled m room
    → (e : Expansion) × (m ≡ is e) × (take n l ≡ e.bytes) × (el ≡ e.sum) × (n ≤ length l)
unfolding Small
got-expanded (refused k) h room l n el r p q = not-refused _ k (sym p)
got-expanded (is e) h room l n el r p q =
    let b : length e.bytes ≤ length room = omega (arith, h e refl) in
    let g : is (record { len = n; sum = el }) ≡ is (measure_of e) = p ∙ rw (le-leb (length e.bytes) (length room) b) refl in
    let i : n ≡ length e.bytes = ap len_of g in
    let w : l ≡ e.bytes ++ drop (length e.bytes) room = q ∙ rw (le-leb (length e.bytes) (length room) b) refl in
    (e, refl, ap (take n) w ∙ take_at e.bytes (drop (length e.bytes) room) n (sym i), ap sum_of g, omega (arith, i, ap length w, length-append e.bytes (drop (length e.bytes) room)))
  where
    len_of : Answer Measure → ℕ
    len_of (is x) = x.len
    len_of (refused k) = 0

    sum_of : Answer Measure → UdpSum
    sum_of (is x) = x.sum
    sum_of (refused k) = no_sum

no-expanded : {B : Type 0} (m : Answer Expansion) (k : Expansion → Answer B) → Small m → (room : List ℕ) (e : Refusal) → 455 ≤ length room → refused (number_of e) ≡ answered m room → refused (number_of e) ≡ and_then m k
unfolding Small
no-expanded (refused j) k h room e r p = ap numbered p
  where
    numbered : {B : Type 0} → Answer Measure → Answer B
    numbered (is x) = refused 0
    numbered (refused n) = refused n
no-expanded (is x) k h room e r p =
    let b : length x.bytes ≤ length room = omega (arith, h x refl) in
    let g : refused (number_of e) ≡ is (measure_of x) = p ∙ rw (le-leb (length x.bytes) (length room) b) refl in
    not-refused (measure_of x) (number_of e) g

-- what the room holds then
scratch-is : (m : Answer Expansion) → Small m → (size : Option ℕ) (tag : ℕ) (room : List ℕ) → 455 ≤ length room → filled m room ≡ scratch_after (and_then m (λ e. is (expanded size tag e))) room
unfolding Small
scratch-is (refused n) h size tag room r = refl
scratch-is (is e) h None tag room r = rw (le-leb (length e.bytes) (length room) (omega (arith, h e refl))) refl
scratch-is (is e) h (Some size) tag room r = rw (le-leb (length e.bytes) (length room) (omega (arith, h e refl))) refl

answer-is : (size : Option ℕ) (tag n : ℕ) (m : UdpSum) (l s : List ℕ) → of_payload (Ok (expanded_to size tag n m)) l s ≡ is (expanded size tag (record { bytes = take n l; sum = m }))
answer-is None tag n m l s = refl
answer-is (Some size) tag n m l s = refl

within-is : (size : Option ℕ) (tag n : ℕ) (m : UdpSum) (l s : List ℕ) → n ≤ length l → Within (Ok (expanded_to size tag n m)) l s
within-is None tag n m l s h = h
within-is (Some size) tag n m l s h = h

-- ---- what a payload begins with: a part, by its fragment header h, which ends at c
module _ (h : Repr) (c : Cursor) where
  pub first_head : (size tag : ℕ) → h ≡ FirstFragment size tag → (ctx : List ℕ) (a : Arrival) (s : List ℕ) → c.at ≤ length s → Begins (Ok (Head.Compressed c (Some size) tag)) ctx a s (piece ctx a h c.at s)
  unfolding piece
  first_head size tag q ctx a s i = rw q (refl, tt)

  module _ (size tag : ℕ) (o : Units) (q : h ≡ Fragment size tag o) where
    pub zero-head : o.0 ≡ 0 → (ctx : List ℕ) (a : Arrival) (s : List ℕ) → c.at ≤ length s → Begins (Err BadPart) ctx a s (piece ctx a h c.at s)
    unfolding piece
    zero-head z ctx a s i = rw (q, eq-eqb o.0 0 z) (refl, tt)

    pub later-head : (o.0 ≡ 0 → ⊥) → (ctx : List ℕ) (a : Arrival) (s : List ℕ) → c.at ≤ length s → Begins (Ok (Head.Later size tag o c.at)) ctx a s (piece ctx a h c.at s)
    unfolding piece
    later-head z ctx a s i = rw (q, ne_eqb o.0 0 z) (refl, (i, omega (arith, z)))

-- by the fragment header, and by the dispatch
header-within : (s : List ℕ) (at : ℕ) (c : Cursor) (h : Repr) (y : Result (Repr × Cursor) Refusal) → of_read y ≡ frag s at → y ≡ Ok (h, c) → c.at ≤ length s
header-within s at c h y p q = frag-within s at c.at h (sym p ∙ ap of_read q)

module _ (s : List ℕ) (c : Cursor) (y : Result (Repr × Cursor) Refusal) (p : of_read y ≡ frag s c.at) where
  pub on-fragment : (r : Result Head Refusal) (h : Repr) (n : Cursor) → y ≡ Ok (h, n) → ((ctx : List ℕ) (a : Arrival) (s : List ℕ) → n.at ≤ length s → Begins r ctx a s (piece ctx a h n.at s)) → (ctx : List ℕ) (a : Arrival) → a.payload ≡ c → Begins r ctx a s (fragment ctx a s)
  unfolding fragment
  on-fragment r h n q b ctx a e = rw (ap (λ d. frag s d.at) e ∙ sym p ∙ ap of_read q) (b ctx a s (header-within s c.at n h y p q))

  pub no-fragment : (e : Refusal) → y ≡ Err e → (ctx : List ℕ) (a : Arrival) → a.payload ≡ c → Begins (Err e) ctx a s (fragment ctx a s)
  unfolding fragment
  no-fragment x q ctx a e = rw (e, sym p ∙ ap of_read q) (refl, tt)

module _ (s : List ℕ) (c : Cursor) (y : Result SixlowpanPacket Refusal) (p : of_answer y ≡ dispatch s c.at) where
  pub kind-fragment : (r : Result Head Refusal) (k : SixlowpanPacket) → y ≡ Ok k → k ≡ FragmentHeader → ((ctx : List ℕ) (a : Arrival) → a.payload ≡ c → Begins r ctx a s (fragment ctx a s)) → (ctx : List ℕ) (a : Arrival) → a.payload ≡ c → Begins r ctx a s (payload ctx a s)
  unfolding payload
  kind-fragment r k q z b ctx a e = let w = b ctx a e in rw (ap (λ d. dispatch s d.at) e ∙ sym p ∙ ap of_answer q, z) w

  pub kind-iphc : (tag : ℕ) (k : SixlowpanPacket) → y ≡ Ok k → k ≡ IphcHeader → (ctx : List ℕ) (a : Arrival) → a.payload ≡ c → Begins (Ok (Head.Compressed c None tag)) ctx a s (payload ctx a s)
  unfolding payload whole
  kind-iphc tag k q z ctx a e = rw (e, sym p ∙ ap of_answer q, z) (refl, tt)

  pub no_kind : (e : Refusal) → y ≡ Err e → (ctx : List ℕ) (a : Arrival) → a.payload ≡ c → Begins (Err e) ctx a s (payload ctx a s)
  unfolding payload
  no_kind x q ctx a e = rw (e, sym p ∙ ap of_answer q) (refl, tt)

pub ruleset heads = (first_head, zero-head, later-head, on-fragment, no-fragment, kind-fragment, kind-iphc, no_kind)

-- ---- what it brings then
module _ (ctx : List ℕ) (a : Arrival) (s room : List ℕ) where
  pub no_room : length room < 455 → (l : List ℕ) → l ≡ replicate (length room) 0 → Brings (Err NoRoom) room l s (payload_in room ctx a s)
  unfolding payload_in
  no_room h l w = rw (lt-leb 455 (length room) h) (record { answer = refl; within = tt; scratch = w })

  module _ (i : 455 ≤ length room) (h : Result Head Refusal) (b : (ctx : List ℕ) (x : Arrival) → x.payload ≡ a.payload → Begins h ctx x s (payload ctx x s)) where
    is-behind : (x : Result Head Refusal) → h ≡ x → Begins x ctx a s (payload_in room ctx a s)
    is-behind x q = rw (in-room room ctx a s i, sym q) (b ctx a refl)

    pub no-head : (e : Refusal) → h ≡ Err e → (l : List ℕ) → l ≡ replicate (length room) 0 → Brings (Err e) room l s (payload_in room ctx a s)
    no-head e q l w = rw (sym (is-behind (Err e) q).0) (record { answer = refl; within = tt; scratch = w })

    pub on-later : (size tag : ℕ) (o : Units) (from : ℕ) → h ≡ Ok (Head.Later size tag o from) → Brings (Ok (Payload.Part size tag o no_sum from)) room room s (payload_in room ctx a s)
    on-later size tag o from q =
        let (e, w) = is-behind (Ok (Head.Later size tag o from)) q in
        let z : eqb o.0 0 ≡ false = ne_eqb o.0 0 (λ z. omega (arith, z, w.1)) in
        rw (sym e) (record { answer = rw z refl; within = rw z w.0; scratch = rw z refl })

    module _ (c : Cursor) (size : Option ℕ) (tag : ℕ) (q : h ≡ Ok (Head.Compressed c size tag)) (ll : LinkAddresses) (k : ll ≡ link_addresses_of a) where
      abbrev fully : Answer Expansion
      fully = expansion ctx ll.src ll.dst size s c.at

      fully-is : and_then fully (λ e. is (expanded size tag e)) ≡ payload_in room ctx a s
      fully-is = rw k (is-behind (Ok (Head.Compressed c size tag)) q).0

      module _ (l : List ℕ) (y : Result Expanded Refusal) (p : of_expanded y ≡ answered fully room) (w : l ≡ filled fully room) where
        pub on-filled : (x : Expanded) → y ≡ Ok x → (r : Payload) → r ≡ expanded_to size tag x.len x.sum → Brings (Ok r) room l s (payload_in room ctx a s)
        on-filled x z r t =
            let n = x.len in
            let el = x.sum in
            let g = got-expanded fully (small ctx _ _ size s c.at) room l n el i (sym (ap of_expanded z) ∙ p) w in
            rw (t, sym fully-is)
            (record {
              answer = answer-is size tag n el l s ∙ ap₂ (λ d m. is (expanded size tag (record { bytes = d; sum = m }))) g.2 g.3 ∙ sym (ap (λ x. and_then x (λ e. is (expanded size tag e))) g.1);
              within = within-is size tag n el l s g.4;
              scratch = w ∙ scratch-is fully (small ctx _ _ size s c.at) size tag room i;
            })

        pub no-filled : (e : Refusal) → y ≡ Err e → Brings (Err e) room l s (payload_in room ctx a s)
        no-filled e z =
            rw (sym fully-is)
            (record {
              answer = no-expanded fully (λ x. is (expanded size tag x)) (small ctx _ _ size s c.at) room e i (sym (ap of_expanded z) ∙ p);
              within = tt;
              scratch = w ∙ scratch-is fully (small ctx _ _ size s c.at) size tag room i;
            })

pub ruleset payloads = (no_room, no-head, on-later, on-filled, no-filled)
