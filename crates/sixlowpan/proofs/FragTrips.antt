-- Fragment headers come back as they were written, the size masked to 11 bits, wherever their bytes stand and whatever follows; so does
-- the header that `emit` leaves in any room.
use Prim.Native.Nat.{ℕ, ◌+◌, ◌*◌, ◌/◌, ◌%◌, ◌≤◌}
use native.Mathlib.Omega.{arith}
use mathlib.Core.List.{List, [], ◌++◌}
use mathlib.Core.Path.{◌≡◌}
use lib.ListN.{length}
use Rattle.octets.specs.Read.{Reader, got, byte, be16, ◌>>=◌}
use Rattle.octets.specs.Write.{over, byte_bytes, be16_bytes}
use Rattle.octets.proofs.RoundTrip.{Reads, reads_then, reads-last, reads-map, reads-give, reads_byte, reads-be16, emit-then-read}
use Rattle.sixlowpan.specs.Frag.{frag, frag_rest, length_of, bytes_of, masked}
use Rattle.sixlowpan.specs.declared.frag.Units.{Units}
use Rattle.sixlowpan.specs.declared.frag.Repr.{Repr}
use Rattle.sixlowpan.specs.declared.frag.Repr.TheVariants.{FirstFragment, Fragment}
use Rattle.sixlowpan.proofs.FragPuts.{length-bytes}

-- a word of a dispatch d and a size
record Fields (d size : ℕ) : Type 0 where
  lead : (d * 2048 + size % 2048) / 2048 ≡ d
  size_is : (d * 2048 + size % 2048) % 2048 ≡ size % 2048

fields : (d size : ℕ) → Fields d size
fields d size = record { lead = omega arith; size_is = omega arith }

rest-first : (size tag : ℕ) → Reads (frag_rest (0b11000 * 2048 + size % 2048) tag) [] (FirstFragment (size % 2048) tag)
unfolding frag_rest
rest-first size tag p q n e =
    let f = fields 0b11000 size in
    rw (f.lead, f.size_is) (reads-give (FirstFragment (size % 2048) tag) p q n e)

rest-next : (size tag : ℕ) (o : Units) → Reads (frag_rest (0b11100 * 2048 + size % 2048) tag) (byte_bytes o.0) (Fragment (size % 2048) tag o)
unfolding frag_rest
rest-next size tag o p q n e =
    let f = fields 0b11100 size in
    let m = reads-map byte (λ z. Fragment (size % 2048) tag (record { 0 = z })) (byte_bytes o.0) o.0 (reads_byte o.0) in
    rw (f.lead, f.size_is) (m p q n e)

abbrev after : ℕ → Reader Repr
after word = ◌>>=◌ be16 (frag_rest word)

pub round_trip : (h : Repr) → Reads frag (bytes_of h) (masked h)
unfolding frag
round_trip (FirstFragment size tag) =
    let w : ℕ = 0b11000 * 2048 + size % 2048 in
    reads_then be16 after (be16_bytes w) (be16_bytes tag) w _ (reads-be16 w)
    (reads-last be16 (frag_rest w) (be16_bytes tag) tag _ (reads-be16 tag) (rest-first size tag))
round_trip (Fragment size tag o) =
    let w : ℕ = 0b11100 * 2048 + size % 2048 in
    reads_then be16 after (be16_bytes w) (be16_bytes tag ++ byte_bytes o.0) w _ (reads-be16 w)
    (reads_then be16 (frag_rest w) (be16_bytes tag) (byte_bytes o.0) tag _ (reads-be16 tag) (rest-next size tag o))

pub emit-then-parse : (h : Repr) (room : List ℕ) → length_of h ≤ length room → frag (over (length_of h) (bytes_of h) room) 0 ≡ got (masked h) (length_of h)
emit-then-parse h room e = emit-then-read frag (bytes_of h) (masked h) (length_of h) room (round_trip h) (length-bytes h) e
