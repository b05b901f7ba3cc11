-- What comes under a key: what a frame's headers say of it.
use Rattle.std.specs.Prelude.{ℕ, List}
use Rattle.octets.specs.Read.{Answer, is, and_then}
use Rattle.sixlowpan.specs.Frag.{frag, size_of, tag_of}
use Rattle.incoming.specs.Incoming.{arrival}
use Rattle.receiver.specs.Receive.{key_of}
use Rattle.reassembly.specs.declared.slot.Key.{Key}

-- The key that a frame's MAC header and fragment header name: source and destination, size and tag. Every other frame names none.
unfoldable pub named : List ℕ → Answer Key
named s = and_then (arrival s) (λ a. and_then (frag s a.payload.at) (λ p. is (key_of a (size_of p.value) (tag_of p.value))))
