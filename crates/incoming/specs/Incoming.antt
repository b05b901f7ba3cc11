-- What a frame brings, in the scope document's order of checks ("Expansion and the slot table").
use Rattle.ieee802154.specs.declared.addr.Pan.{Pan}
use Rattle.relay.specs.declared.mesh.Mesh.{Mesh}
use Rattle.std.specs.Prelude.{ℕ, ◌≤◌, List, ◌≡◌, length, take, drop, replicate, eqb, leb, Option, Some, None, unwrap_or, Result, Ok, Err}
use Rattle.octets.specs.Read.{Answer, is, refused, and_then, choose}
use Rattle.octets.specs.Refusal.{number_of}
use Rattle.octets.specs.declared.refusal.Refusal.{Refusal}
use Rattle.octets.specs.Write.{over}
use Rattle.ieee802154.specs.Control.{has_elements}
use Rattle.ieee802154.specs.Mac.{mac}
use Rattle.ieee802154.specs.declared.addr.Address.{Address}
use Rattle.ieee802154.specs.declared.addr.Address.TheVariants.{Absent}
use Rattle.ieee802154.specs.declared.header.Repr as Mac
use Rattle.iphc.specs.declared.read.LinkAddresses.{LinkAddresses}
use Rattle.relay.specs.Headers.{relay}
use Rattle.sixlowpan.specs.Dispatch.{dispatch}
use Rattle.sixlowpan.specs.Frag.{frag}
use Rattle.sixlowpan.specs.declared.dispatch.SixlowpanPacket.{SixlowpanPacket}
use Rattle.sixlowpan.specs.declared.dispatch.SixlowpanPacket.TheVariants.{FragmentHeader, IphcHeader}
use Rattle.sixlowpan.specs.declared.frag.Units.{Units}
use Rattle.sixlowpan.specs.declared.frag.Repr.{Repr}
use Rattle.sixlowpan.specs.declared.frag.Repr.TheVariants.{FirstFragment, Fragment}
use Rattle.expand.specs.Sum.{no_sum}
use Rattle.expand.specs.Expand.{Expansion, expansion}
use Rattle.expand.specs.declared.checksum.UdpSum.{UdpSum}
use Rattle.incoming.specs.declared.arrival.Arrival.{Arrival}
use Rattle.incoming.specs.declared.payload.Payload.{Payload}
use Rattle.incoming.specs.declared.payload.Head.{Head}

-- ---- who sends it to whom, and where its payload begins
abbrev pub address_of : Option Address → Address
address_of a = unwrap_or a Absent

-- the PAN that a sender is told apart by: its own if the frame carries one, else the destination's, else none
abbrev pub pan_of : Option Pan → Option Pan → Option Pan
pan_of (Some p) d = Some p
pan_of None d = d

abbrev pub arrival_of : Mac.Repr → ℕ → Arrival
arrival_of h n = record {
  src = address_of h.src_addr;
  pan = pan_of h.src_pan_id h.dst_pan_id;
  dst = address_of h.dst_addr;
  payload = record { at = n };
}

-- the MAC header's refusals; then 13: secured, with information elements, or not a Data frame
unfoldable pub framed : List ℕ → Answer Arrival
framed s =
    and_then (mac s)
    (λ p. choose p.value.security_enabled (refused 13)
    (choose (has_elements s) (refused 13)
    (choose (eqb p.value.frame_type.0 1) (is (arrival_of p.value p.next)) (refused 13))))

-- where a mesh header stands, its originator and final address take the place of the MAC addresses; the PAN is still the MAC header's
abbrev pub through : Arrival → Option Mesh → ℕ → Arrival
through a None n = record { src = a.src; pan = a.pan; dst = a.dst; payload = record { at = n } }
through a (Some m) n = record { src = m.origin; pan = a.pan; dst = m.destination; payload = record { at = n } }

-- then the refusals of mesh and broadcast headers, behind which the payload begins
unfoldable pub arrival : List ℕ → Answer Arrival
arrival s = and_then (framed s) (λ a. and_then (relay s a.payload.at) (λ p. is (through a p.value.mesh p.next)))

-- ---- what it brings: a whole datagram; or a part of one, with the size and tag of its key, the unit of 8 bytes that it begins at, its
-- bytes, a first part's in full; each with what is to be remembered of its UDP checksum
pub data Brought : Type 0 where
  datagram : List ℕ → UdpSum → Brought
  part : ℕ → ℕ → ℕ → List ℕ → UdpSum → Brought

-- the bytes of a part at the offset o: they end at a place of the scratch sc, or begin at one of the frame s
abbrev pub bytes_of : Units → ℕ → List ℕ → List ℕ → List ℕ
bytes_of o at sc s = choose (eqb o.0 0) (take at sc) (drop at s)

-- sc: the scratch after the call; s: the frame
abbrev pub of_payload : Result Payload Refusal → List ℕ → List ℕ → Answer Brought
of_payload (Ok (Payload.Whole n m)) sc s = is (datagram (take n sc) m)
of_payload (Ok (Payload.Part size tag o m at)) sc s = is (part size tag o.0 (bytes_of o at sc s) m)
of_payload (Err e) sc s = refused (number_of e)

-- the scratch after the call: what was expanded stands at its start, and nothing else of it changes; a refusal clears it
abbrev pub scratch_after : Answer Brought → List ℕ → List ℕ
scratch_after (is (datagram d m)) room = over (length d) d room
scratch_after (is (part size tag u bs e)) room = choose (eqb u 0) (over (length bs) bs room) room
scratch_after (refused n) room = replicate (length room) 0

-- the link-layer addresses, from which a compressed header's elided ones are restored
abbrev pub link_addresses_of : Arrival → LinkAddresses
link_addresses_of a = record { src = Some a.src; dst = Some a.dst }

-- an unfragmented datagram is expanded
unfoldable pub whole : List ℕ → Arrival → List ℕ → Answer Brought
whole ctx a s = and_then (expansion ctx (link_addresses_of a).src (link_addresses_of a).dst None s a.payload.at) (λ e. is (datagram e.bytes e.sum))

-- a first part is expanded; offset 0 in a later part is refused, 10
unfoldable pub piece : List ℕ → Arrival → Repr → ℕ → List ℕ → Answer Brought
piece ctx a (FirstFragment size tag) next s =
    and_then (expansion ctx (link_addresses_of a).src (link_addresses_of a).dst (Some size) s next) (λ e. is (part size tag 0 e.bytes e.sum))
piece ctx a (Fragment size tag o) next s = choose (eqb o.0 0) (refused 10) (is (part size tag o.0 (drop next s) no_sum))

unfoldable pub fragment : List ℕ → Arrival → List ℕ → Answer Brought
fragment ctx a s = and_then (frag s a.payload.at) (λ p. piece ctx a p.value p.next s)

abbrev pub by_kind : SixlowpanPacket → List ℕ → Arrival → List ℕ → Answer Brought
by_kind FragmentHeader ctx a s = fragment ctx a s
by_kind IphcHeader ctx a s = whole ctx a s

-- dispatch (1, 2), and then as it says
unfoldable pub payload : List ℕ → Arrival → List ℕ → Answer Brought
payload ctx a s = and_then (dispatch s a.payload.at) (λ k. by_kind k ctx a s)

-- 7 where the scratch is shorter than the longest expansion
unfoldable pub payload_in : List ℕ → List ℕ → Arrival → List ℕ → Answer Brought
payload_in room ctx a s = choose (leb 455 (length room)) (payload ctx a s) (refused 7)

-- ---- what it begins with
-- what is expanded, of the size and tag of its key, or of no size: a first part, or a whole datagram
abbrev pub expanded : Option ℕ → ℕ → Expansion → Brought
expanded None tag e = datagram e.bytes e.sum
expanded (Some size) tag e = part size tag 0 e.bytes e.sum

-- the answer for it, of n bytes
abbrev pub expanded_to : Option ℕ → ℕ → ℕ → UdpSum → Payload
expanded_to None tag n m = Payload.Whole n m
expanded_to (Some size) tag n m = Payload.Part size tag (record { 0 = 0 }) m n

-- what a payload that begins so brings
abbrev pub behind : Result Head Refusal → List ℕ → Arrival → List ℕ → Answer Brought
behind (Ok (Head.Compressed c size tag)) ctx a s =
    and_then (expansion ctx (link_addresses_of a).src (link_addresses_of a).dst size s c.at) (λ e. is (expanded size tag e))
behind (Ok (Head.Later size tag o from)) ctx a s = is (part size tag o.0 (drop from s) no_sum)
behind (Err e) ctx a s = refused (number_of e)

-- a later part lies within the frame s, and not at its datagram's start
abbrev pub LaterWithin : Result Head Refusal → List ℕ → Type 0
LaterWithin (Ok (Head.Compressed c size tag)) s = Unit {0}
LaterWithin (Ok (Head.Later size tag o from)) s = (from ≤ length s) × (1 ≤ o.0)
LaterWithin (Err e) s = Unit {0}

-- what begins so, brings b
abbrev pub Begins : Result Head Refusal → List ℕ → Arrival → List ℕ → Answer Brought → Type 0
Begins h ctx a s b = (behind h ctx a s ≡ b) × LaterWithin h s

-- ---- the call
-- what the answer points at lies within the scratch l and the frame s
abbrev pub Within : Result Payload Refusal → List ℕ → List ℕ → Type 0
Within (Ok (Payload.Whole n m)) l s = n ≤ length l
Within (Ok (Payload.Part size tag o m at)) l s = at ≤ choose (eqb o.0 0) (length l) (length s)
Within (Err e) l s = Unit {0}

-- the answer, and the scratch afterwards, are what b says
pub record Brings (r : Result Payload Refusal) (room l s : List ℕ) (b : Answer Brought) : Type 0 where
  pub answer : of_payload r l s ≡ b
  pub within : Within r l s
  pub scratch : l ≡ scratch_after b room
