-- The next header field: its width, and its round trip.
use Prim.Native.Nat.{ℕ, ◌+◌, ◌<◌}
use native.Mathlib.Omega.{arith}
use mathlib.Core.List.{List, ◌++◌}
use mathlib.Core.Path.{◌≡◌, refl, sym, ◌∙◌}
use lib.Dec.{eqb}
use lib.ListN.{length}
use Rattle.octets.specs.Read.{byte, give}
use Rattle.octets.specs.Write.{put, byte_bytes}
use Rattle.octets.proofs.Puts.{more}
use Rattle.octets.proofs.RoundTrip.{Reads, reads-map, reads-give, reads_byte}
use Rattle.octets.proofs.Spans.{Spans, spans-branch, spans-map, spans-give, spans-byte}
use Rattle.sixlowpan.specs.Next.{next_header, next_bit, next_width, next_bytes}
use Rattle.sixlowpan.specs.declared.protocol.NextHeader.{NextHeader}
use Rattle.sixlowpan.specs.declared.protocol.NextHeader.TheVariants.{Compressed, Uncompressed}

pub length-next : (x : NextHeader) → length (next_bytes x) ≡ next_width (next_bit x)
unfolding byte_bytes
length-next (Uncompressed p) = refl
length-next Compressed = refl

pub more-next : (l m n : List ℕ) (at k : ℕ) (x : NextHeader) (bs : List ℕ) → k ≡ next_width (next_bit x) → m ≡ put at (next_bytes x) l → n ≡ put (at + k) bs m → n ≡ put at (next_bytes x ++ bs) l
more-next l m n at k x bs h p q = more l m n at k (next_bytes x) bs (length-next x ∙ sym h) p q

pub next-bit-lt : (x : NextHeader) → next_bit x < 2
next-bit-lt (Uncompressed p) = omega arith
next-bit-lt Compressed = omega arith

pub reads-next : (x : NextHeader) → Reads (next_header (next_bit x)) (next_bytes x) x
unfolding next_header
reads-next (Uncompressed p) = reads-map byte (λ z. Uncompressed (record { 0 = z })) (byte_bytes p.0) p.0 (reads_byte p.0)
reads-next Compressed = reads-give Compressed

pub spans-next : (nh : ℕ) → Spans (next_header nh) (next_width nh)
unfolding next_header
spans-next nh = spans-branch (eqb nh 0) _ (give Compressed) 1 0 (spans-map byte (λ p. Uncompressed (record { 0 = p })) 1 spans-byte) (spans-give Compressed)
