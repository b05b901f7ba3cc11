-- Fragment headers as they are written: the length is that of the bytes.
use mathlib.Core.Path.{◌≡◌, refl}
use lib.ListN.{length}
use Rattle.octets.proofs.Puts.{puts, written_over}
use Rattle.octets.specs.Write.{byte_bytes, be16_bytes}
use Rattle.sixlowpan.specs.Frag.{length_of, bytes_of}
use Rattle.sixlowpan.specs.declared.frag.Repr.{Repr}
use Rattle.sixlowpan.specs.declared.frag.Repr.TheVariants.{FirstFragment, Fragment}

pub length-bytes : (h : Repr) → length (bytes_of h) ≡ length_of h
unfolding be16_bytes byte_bytes
length-bytes (FirstFragment size tag) = refl
length-bytes (Fragment size tag o) = refl

pub ruleset frag_puts = (puts, written_over, length-bytes)
