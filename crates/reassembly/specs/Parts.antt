-- A part and one slot: the slot's record and its 2,048 bytes (the scope document, "Expansion and the slot table").
use Rattle.std.specs.Prelude.{ℕ, ◌+◌, ◌*◌, ◌-◌, ◌/◌, ◌%◌, ◌≤◌, ◌≡◌, Bool, true, false, not, ◌&&◌, ◌||◌, List, length, get_or, take, drop, eqb, leb, Result, Ok, Err}
use Rattle.octets.specs.Read.{choose}
use Rattle.octets.specs.Write.{put}
use Rattle.octets.specs.Refusal.{number_of}
use Rattle.octets.specs.declared.refusal.Refusal.{Refusal}
use Rattle.expand.specs.Sum.{summed_by, holds}
use Rattle.expand.specs.declared.checksum.UdpSum.{UdpSum}
use Rattle.marks.specs.Marks.{has_in, fill, unpack, pack}
use Rattle.reassembly.specs.Lists.{same_list}
use Rattle.reassembly.specs.Slots.{free_slot}
use Rattle.reassembly.specs.declared.slot.Key.{Key}
use Rattle.reassembly.specs.declared.slot.Slot.{Slot}
use Rattle.reassembly.specs.declared.part.Outcome.{Outcome}
use Rattle.reassembly.specs.declared.part.InSlot.{InSlot}
use Rattle.reassembly.specs.declared.part.Part as Beside

-- A fragment: the first part counts as expanded, from byte 0. Its first byte is byte unit * 8. `sum` is read at unit 0 only.
pub record Part : Type 0 where
  pub key : Key
  pub unit : ℕ
  pub bytes : List ℕ
  pub sum : UdpSum

abbrev pub part_of : Key → ℕ → UdpSum → List ℕ → Part
part_of k u m bs = record { key = k; unit = u; bytes = bs; sum = m }

-- the code has a part beside its bytes: the two together
abbrev pub with_bytes : Beside.Part → List ℕ → Part
with_bytes p bs = part_of p.key p.offset.0 p.sum bs

-- what a call says: that the part was kept, a datagram that is handed out, or a refusal's number
pub data Reply (A : Type 0) : Type 0 where
  kept : Reply A
  out : A → Reply A
  refused : ℕ → Reply A

-- of a datagram its length is said; its bytes stand at the output's start
abbrev pub told : Reply (List ℕ) → Reply ℕ
told kept = kept
told (out d) = out (length d)
told (refused n) = refused n

-- a call's answer in the code
abbrev pub Answered : Type 0
Answered = Result Outcome Refusal

abbrev pub of_outcome : Answered → Reply ℕ
of_outcome (Ok Outcome.Kept) = kept
of_outcome (Ok (Outcome.Out n)) = out n
of_outcome (Err e) = refused (number_of e)

-- the output after a call: a datagram stands at its start, and nothing else of it changes
abbrev pub output_after : Reply (List ℕ) → List ℕ → List ℕ
output_after kept o = o
output_after (out d) o = put 0 d o
output_after (refused n) o = o

-- ---- a part
-- the units of 8 bytes that a number of bytes takes
unfoldable pub units : ℕ → ℕ
units n = (n + 7) / 8

-- check 10, passed: a datagram of so many bytes, a part of n bytes from unit u on. (Offset 0 in a later part is refused where the
-- header is read.)
unfoldable pub fits_in : ℕ → ℕ → ℕ → Bool
fits_in size u n =
    leb 40 size && (leb size 2047 && (leb 1 n && (leb (u * 8 + n) size && (eqb (n % 8) 0 || eqb (u * 8 + n) size))))

abbrev pub fits : Part → Bool
fits p = fits_in p.key.size p.unit (length p.bytes)

-- ---- a part and a slot's record s, whose bytes are b
-- a part that was taken lies exactly from unit u to unit e: it began at u, all is covered, no other began inside, and it ends at e
unfoldable pub spans : List Bool → List Bool → ℕ → ℕ → Bool
spans covered starts u e =
    get_or starts u false && (not (has_in false covered u (e - u)) && (not (has_in true starts (u + 1) (e - (u + 1)))
    && (not (get_or covered e false) || get_or starts e false)))

-- the same first byte, length and bytes as a part taken
unfoldable pub repeats_in : Slot → List ℕ → ℕ → List ℕ → Bool
repeats_in s b u bs =
    spans (unpack s.covered) (unpack s.starts) u (u + units (length bs)) && same_list (take (length bs) (drop (u * 8) b)) bs

abbrev pub repeats : Slot → List ℕ → Part → Bool
repeats s b p = repeats_in s b p.unit p.bytes

abbrev pub touches : Slot → Part → Bool
touches s p = has_in true (unpack s.covered) p.unit (units (length p.bytes))

-- the record with a part of n bytes from unit u on taken; what is to be known of the checksum is remembered when the part at byte 0 is
unfoldable pub taken_in : Slot → ℕ → UdpSum → ℕ → Slot
taken_in s u m n = record {
  key = s.key;
  since = s.since;
  covered = pack (fill u (units n) (unpack s.covered));
  starts = pack (fill u 1 (unpack s.starts));
  live = s.live;
  sum = choose (eqb u 0) m s.sum;
}

abbrev pub taken : Slot → Part → Slot
taken s p = taken_in s p.unit p.sum (length p.bytes)

-- the slot's bytes with the part's at their place
abbrev pub written : List ℕ → Part → List ℕ
written b p = put (p.unit * 8) p.bytes b

unfoldable pub full : Slot → Bool
full s = not (has_in false (unpack s.covered) 0 (units s.key.size))

-- the datagram handed out: an elided checksum is computed
abbrev pub finish : UdpSum → List ℕ → List ℕ
finish m d = summed_by m d

-- the change requests, item 7: a carried checksum is tested first, and where it does not hold nothing is handed out, 17
unfoldable pub handed : UdpSum → List ℕ → Reply (List ℕ)
handed m d = choose (holds m d) (out (finish m d)) (refused 17)

-- what a part comes to in a slot: the answer, the record, the slot's bytes, how many slots ended, and whether it was taken
pub record Put : Type 0 where
  pub reply : Reply (List ℕ)
  pub slot : Slot
  pub bytes : List ℕ
  pub ended : ℕ
  pub took : Bool

-- a part that touches nothing taken; full cover hands the datagram out, or refuses it, and frees the slot
unfoldable pub place : Slot → List ℕ → Part → Put
place s b p =
    choose (full (taken s p))
    (record { reply = handed (taken s p).sum (take (taken s p).key.size (written b p)); slot = free_slot; bytes = written b p; ended = 1; took = true })
    (record { reply = kept; slot = taken s p; bytes = written b p; ended = 0; took = true })

-- a part under the slot's key: a repeat is kept, nothing written; any other that touches a taken byte is refused, 11, and the slot freed
unfoldable pub offer : Slot → List ℕ → Part → Put
offer s b p =
    choose (repeats s b p) (record { reply = kept; slot = s; bytes = b; ended = 0; took = false })
    (choose (touches s p) (record { reply = refused 11; slot = free_slot; bytes = b; ended = 1; took = false })
    (place s b p))

-- ---- what the contracts of the functions on one slot say
-- the part has passed check 10, b are the slot's bytes and the output has room
pub record Placeable (size u : ℕ) (part b o : List ℕ) : Type 0 where
  pub some : 1 ≤ length part
  pub ends : u * 8 + length part ≤ size
  pub small : size ≤ 2047
  pub room : length b ≡ 2048
  pub output : 2047 ≤ length o

-- the answer r and the output o, o₀ before, are as a says
pub record Hands (r : Answered) (o₀ o : List ℕ) (a : Reply (List ℕ)) : Type 0 where
  pub answer : of_outcome r ≡ told a
  pub output : o ≡ output_after a o₀

-- the answer r, the slot's bytes b and the output o, o₀ before, are as q says
pub record Does (r : InSlot) (b o₀ o : List ℕ) (q : Put) : Type 0 where
  pub answer : of_outcome r.outcome ≡ told q.reply
  pub slot : r.slot ≡ q.slot
  pub bytes : b ≡ q.bytes
  pub output : o ≡ output_after q.reply o₀
