-- What crosses the boundary to C where we send, as numbers: what frames say beside the datagram, and answers.
use Rattle.std.specs.Prelude.{ℕ, ◌+◌, ◌%◌, ◌≤◌, List, get_or}
use Rattle.octets.specs.Read.{Answer, is, refused}
use Rattle.cutting.specs.declared.link.Link.{Link}
use Rattle.lift.specs.Face.{address_of}

-- eight numbers: PAN, kind and number of the source address, kind and number of the destination, sequence number, tag, limit. Of the PAN and
-- the tag the low 16 bits count, of the sequence number the low 8; a number that is missing is 0
unfoldable pub link_of : List ℕ → Link
link_of l =
    record {
      pan = record { 0 = get_or l 0 0 % 65536 };
      src = address_of (get_or l 1 0) (get_or l 2 0);
      dst = address_of (get_or l 3 0) (get_or l 4 0);
      sequence = get_or l 5 0 % 256;
      tag = get_or l 6 0 % 65536;
      limit = get_or l 7 0;
    }

-- an answer as one number, as `packed` has it: 1 in the high half and a length or a count in the low, or 2 and the refusal's number
abbrev pub packed_answer : Answer ℕ → ℕ
packed_answer (is n) = 65536 + n
packed_answer (refused n) = 131072 + n

-- a number that the low half has room for
abbrev pub InLow : Answer ℕ → Type 0
InLow (is n) = n ≤ 65535
InLow (refused n) = Unit {0}
