-- The walk over the headers of a frame, in code: what its contracts say (src/chain.rt).
use Rattle.ieee802154.specs.declared.addr.Address.{Address}
use Rattle.std.specs.Prelude.{ℕ, Result, Ok, Err, ◌+◌, ◌-◌, ◌*◌, ◌≤◌, ◌<◌, ◌≡◌, List, [], ◌∷◌, Bool, true, false, ◌||◌, length, get_or, take, drop, eqb, Option, Some}
use Rattle.octets.specs.Read.{Answer, is, refused, Read, got, and_then}
use Rattle.octets.specs.Refusal.{number_of}
use Rattle.octets.specs.Write.{put, be16_bytes}
use Rattle.octets.specs.declared.refusal.Refusal.{Refusal}
use Rattle.ieee802154.specs.Address.{flip57}
use Rattle.ieee802154.specs.declared.addr.Address.TheVariants.{Extended}
use Rattle.iphc.specs.Iphc.{iphc}
use Rattle.sixlowpan.specs.declared.protocol.NextHeader.{NextHeader}
use Rattle.sixlowpan.specs.declared.protocol.NextHeader.TheVariants.{Compressed, Uncompressed}
use Rattle.expand.specs.Full.{keep}
use Rattle.expand.specs.Chain.{Chain, rest, Link, udp_link, ext_link, inner_link, Around, header_then, udp_end, chain, next_number, full_size, size_of, full_bytes, sum_in, Measure, total_of, total_in}
use Rattle.expand.specs.declared.ip.Kept.{Kept}
use Rattle.expand.specs.declared.chain.Extension.{Extension}
use Rattle.expand.specs.declared.chain.Step.{Step}
use Rattle.expand.specs.declared.chain.Way.{Way}
use Rattle.expand.specs.declared.chain.Last.{Last}
use Rattle.expand.specs.declared.chain.Reached.{Reached}
use Rattle.expand.specs.declared.chain.Laid.{Laid}
use Rattle.expand.specs.declared.chain.End.{End}

-- ---- what is read
-- what follows the first two bytes of an extension header, in the frame s; the header; and a step of the code
abbrev pub ext_bytes : Extension → List ℕ → List ℕ
ext_bytes x s = take (x.to.at - x.from.at) (drop x.from.at s)

abbrev pub ext_of : Extension → List ℕ → Link
ext_of x s = ext_link x.number (ext_bytes x s) x.next

abbrev pub step_link : Step → List ℕ → Read Link
step_link (Step.Udp c h) s = got (udp_link h) c.at
step_link (Step.Extension x) s = got (ext_of x s) x.to.at
step_link (Step.Inner c) s = got inner_link c.at

abbrev pub of_link : Result Step Refusal → List ℕ → Read Link
of_link (Ok y) s = step_link y s
of_link (Err e) s = refused (number_of e)

abbrev pub is_compressed : NextHeader → Bool
is_compressed (Uncompressed p) = false
is_compressed Compressed = true

-- an IPv6 header as it is kept
abbrev pub kept : List ℕ → Option Address → Option Address → List ℕ → ℕ → Answer Kept
kept ctx ls ld s at = and_then (iphc ctx ls ld s at) (λ p. is (keep p.value (next_number p.value.next_header s p.next) p.next))

-- ---- how far it has come
-- in front of the outer IPv6 header, behind which seven more may come
abbrev pub start : Way
start = record { src = 0; dst = 0; ip = 0; at = 0; left = 7; routed = false }

-- behind an extension header of the number n, with len bytes behind its first two; inside an IPv6 header; and with one header fewer to come
abbrev pub passed : ℕ → ℕ → Way → Way
passed n len w = record { src = w.src; dst = w.dst; ip = w.ip; at = w.at + full_size len; left = w.left - 1; routed = eqb n 43 || w.routed }

abbrev pub entered : ℕ → ℕ → Way → Way
entered src dst w = record { src = src; dst = dst; ip = w.at; at = w.at + 40; left = w.left; routed = false }

abbrev pub fewer : Way → Way
fewer w = record { src = w.src; dst = w.dst; ip = w.ip; at = w.at; left = w.left - 1; routed = w.routed }

-- of the addresses outside the code keeps the identifiers: what is inside does not depend on their prefixes (`Chain-same`, proofs/ChainLaws.antt)
abbrev pub around : Way → Around
around w = record { src = record { prefix = 0; iid = w.src }; dst = record { prefix = 0; iid = w.dst }; routed = w.routed }

-- the link-layer address that has an identifier: `inside` of an address that has it
abbrev pub identified : ℕ → Option Address
identified i = Some (Extended (flip57 i))

-- what is still to be read: the payload, whose number is not looked at any more; UDP; or an IPv6 header
abbrev pub ahead_of : List ℕ → Way → Last → List ℕ → Read Chain
ahead_of ctx w (Last.Rest c) s = got (rest 0 (drop c.at s)) c.at
ahead_of ctx w (Last.Udp c h) s = udp_end (around w) h s c.at
ahead_of ctx w (Last.Inner c) s = header_then ctx (identified w.src) (identified w.dst) (chain (w.left - 1) ctx) s c.at

abbrev pub ahead : List ℕ → Reached → List ℕ → Read Chain
ahead ctx r s = ahead_of ctx r.way r.last s

-- each of eight headers takes at most 40 bytes more than it was read from, and a frame has 127: at most 447 bytes, and 8 more for UDP
abbrev pub Room : Way → Last → List ℕ → Type 0
Room w (Last.Rest c) s = w.at ≤ 447
Room w (Last.Udp c h) s = w.at ≤ 447
Room w (Last.Inner c) s = (w.at + 40 * w.left + (length s - c.at) ≤ 447) × (1 ≤ w.left)

-- an IPv6 header stands further on in the frame s than the place n
abbrev pub Beyond : Last → ℕ → List ℕ → Type 0
Beyond (Last.Rest c) n s = Unit {0}
Beyond (Last.Udp c h) n s = Unit {0}
Beyond (Last.Inner c) n s = (n < c.at) × (c.at ≤ length s)

abbrev pub Further : Result Reached Refusal → ℕ → List ℕ → Type 0
Further (Ok r) n s = Beyond r.last n s
Further (Err e) n s = Unit {0}

abbrev pub NotInner : Last → Type 0
NotInner (Last.Rest c) = Unit {0}
NotInner (Last.Udp c h) = Unit {0}
NotInner (Last.Inner c) = ⊥

-- ---- what it comes to
-- in a room of n bytes: the length, and what is to be remembered of the checksum, where the chain c is ahead
abbrev pub ending : Option ℕ → Way → ℕ → Chain → Answer Measure
ending size w n c = and_then (total_in size (w.at + size_of c) n) (λ t. is (record { len = w.at + size_of c; sum = sum_in w.routed w.ip w.at c }))

abbrev pub end_of : Option ℕ → Way → ℕ → Read Chain → Answer Measure
end_of size w n m = and_then m (λ p. ending size w n p.value)

-- and the room: the bytes of what is ahead are put at their place, t being the length of the whole; [] where that is refused
abbrev pub put_ahead : ℕ → Way → Read Chain → List ℕ → List ℕ
put_ahead t w (is p) l = put w.at (full_bytes t w.at p.value) l
put_ahead t w (refused n) l = []

-- the payload lengths of the IPv6 headers that stand at these places
abbrev pub patch : ℕ → ℕ → List ℕ → List ℕ
patch t o l = put (o + 4) (be16_bytes (t - (o + 40))) l

unfoldable pub patches : ℕ → List ℕ → List ℕ → List ℕ
patches t [] l = l
patches t (o ∷ os) l = patch t o (patches t os l)

-- from the way w, with m ahead and the room l, the walk has come to the way v, with k ahead and the room o: that comes to the same, but that
-- the payload lengths at the places ps are still to be put
pub record Onward (ps : List ℕ) (w : Way) (m : Read Chain) (l : List ℕ) (v : Way) (k : Read Chain) (o : List ℕ) : Type 0 where
  pub answer : (size : Option ℕ) (n : ℕ) → end_of size w n m ≡ end_of size v n k
  pub bytes : (t : ℕ) → put_ahead t w m l ≡ patches t ps (put_ahead t v k o)

-- from the way w, with m ahead, all comes to that refusal
abbrev pub Refuses : Refusal → Way → Read Chain → Type 0
Refuses e w m = (size : Option ℕ) (n : ℕ) → end_of size w n m ≡ refused (number_of e)

-- the walk has reached r, from the way w with m ahead in the frame s; the room was l and is o
pub record Comes (ctx : List ℕ) (r : Reached) (ps : List ℕ) (w : Way) (m : Read Chain) (s l o : List ℕ) : Type 0 where
  pub onward : Onward ps w m l r.way (ahead ctx r s) o
  pub room : Room r.way r.last s
  pub left : r.way.left ≤ w.left

abbrev pub Reaches : List ℕ → Result Reached Refusal → List ℕ → Way → Read Chain → List ℕ → List ℕ → List ℕ → Type 0
Reaches ctx (Ok r) ps w m s l o = Comes ctx r ps w m s l o
Reaches ctx (Err e) ps w m s l o = Refuses e w m

-- all headers but UDP's are put; their IPv6 headers stand at the first of the places
pub record Lies (ctx : List ℕ) (r : Laid) (m : Read Chain) (s places l o : List ℕ) : Type 0 where
  pub reaches : Comes ctx r.reached (take r.count places) start m s l o
  pub outside : NotInner r.reached.last
  pub most : r.count ≤ 8
  pub small : (i : ℕ) → i < r.count → get_or places i 0 ≤ 447

abbrev pub Lays : List ℕ → Result Laid Refusal → Read Chain → List ℕ → List ℕ → List ℕ → List ℕ → Type 0
Lays ctx (Ok r) m s places l o = Lies ctx r m s places l o
Lays ctx (Err e) m s places l o = Refuses e start m

abbrev pub of_walked : Result End Refusal → Answer Measure
of_walked (Ok x) = is (record { len = x.len; sum = x.sum })
of_walked (Err e) = refused (number_of e)

abbrev pub PutsAhead : Result End Refusal → Option ℕ → Way → Read Chain → List ℕ → List ℕ → Type 0
PutsAhead (Ok x) size w m l o = o ≡ put_ahead (total_of size x.len) w m l
PutsAhead (Err e) size w m l o = Unit {0}

-- the walk is at its end; where it is refused nothing is said of the room
pub record Ends (r : Result End Refusal) (w : Way) (size : Option ℕ) (m : Read Chain) (l o : List ℕ) : Type 0 where
  pub answer : of_walked r ≡ end_of size w (length l) m
  pub bytes : PutsAhead r size w m l o
