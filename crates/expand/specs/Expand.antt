-- The datagram that a frame stands for (the scope document, "Expansion and the slot table").
use Rattle.ieee802154.specs.declared.addr.Address.{Address}
use Rattle.std.specs.Prelude.{ℕ, Result, Ok, Err, ◌≡◌, List, ◌++◌, false, ltb, leb, length, drop, replicate, Option, Some, None}
use Rattle.octets.specs.Read.{Answer, is, refused, and_then, choose}
use Rattle.octets.specs.Refusal.{number_of}
use Rattle.octets.specs.Write.{over}
use Rattle.octets.specs.declared.refusal.Refusal.{Refusal}
use Rattle.expand.specs.Sum.{summed_by, summed_in}
use Rattle.expand.specs.Chain.{Chain, chained, size_of, full_bytes, sum_in, total_of, Measure}
use Rattle.expand.specs.declared.checksum.UdpSum.{UdpSum}
use Rattle.expand.specs.declared.datagram.Expanded.{Expanded}

-- the datagram's bytes, or those of its first part; and what is to be remembered of its UDP checksum
pub record Expansion : Type 0 where
  pub bytes : List ℕ
  pub sum : UdpSum

-- ---- the bytes
-- an elided checksum is computed, but not in a first part, where it stays 0
abbrev pub finished : Option ℕ → UdpSum → List ℕ → List ℕ
finished None m d = summed_by m d
finished (Some size) m d = d

-- in lent bytes: the first n so
abbrev pub finished_in : Option ℕ → UdpSum → ℕ → List ℕ → List ℕ
finished_in None m n room = summed_in m n room
finished_in (Some size) m n room = room

unfoldable pub bytes_of : Option ℕ → Chain → List ℕ
bytes_of size c = finished size (sum_in false 0 0 c) (full_bytes (total_of size (size_of c)) 0 c)

-- ---- the refusals: 4 for a frame over 127 bytes, those of the headers, and 10 for a first part whose bytes end beyond its size
unfoldable pub sized : Option ℕ → Chain → Answer Expansion
sized size c =
    choose (leb (size_of c) (total_of size (size_of c)))
    (is (record { bytes = bytes_of size c; sum = sum_in false 0 0 c }))
    (refused 10)

-- ctx: the contexts; ls and ld: the link-layer addresses of the frame s; at: where its compressed header begins
unfoldable pub expansion : List ℕ → Option Address → Option Address → Option ℕ → List ℕ → ℕ → Answer Expansion
expansion ctx ls ld size s at =
    choose (ltb 127 (length s)) (refused 4)
    (and_then (chained ctx ls ld s at) (λ p. sized size p.value))

-- ---- the answers
abbrev pub of_expanded : Result Expanded Refusal → Answer Measure
of_expanded (Ok x) = is (record { len = x.len; sum = x.sum })
of_expanded (Err e) = refused (number_of e)

abbrev pub measure_of : Expansion → Measure
measure_of e = record { len = length e.bytes; sum = e.sum }

abbrev pub measured : Answer Expansion → Answer Measure
measured m = and_then m (λ e. is (measure_of e))

-- last of all 7, where the room is too small
abbrev pub answered : Answer Expansion → List ℕ → Answer Measure
answered m room = and_then m (λ e. choose (leb (length e.bytes) (length room)) (is (measure_of e)) (refused 7))

-- the room afterwards: the bytes at its front and the rest as it was; or, where anything was refused, all as it was
abbrev pub written : Answer Expansion → List ℕ → List ℕ
written (is e) room = over (length e.bytes) e.bytes room
written (refused n) room = room

-- the room of `fill` afterwards: the bytes at its front and the rest as it was; or, where anything was refused, every byte 0
abbrev pub filled : Answer Expansion → List ℕ → List ℕ
filled (is e) room = choose (leb (length e.bytes) (length room)) (e.bytes ++ drop (length e.bytes) room) (replicate (length room) 0)
filled (refused n) room = replicate (length room) 0

-- where it is not refused
abbrev pub Fills : Result Expanded Refusal → Answer Expansion → List ℕ → List ℕ → Type 0
Fills (Ok x) m room l = l ≡ written m room
Fills (Err e) m room l = Unit {0}
