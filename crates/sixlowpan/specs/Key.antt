-- The key of a part's datagram: both link-layer addresses, the size and the tag; 6 where the frame has no addressing.
use Rattle.std.specs.Prelude.{Option, Some, None}
use Rattle.octets.specs.Read.{Answer, is, refused}
use Rattle.sixlowpan.specs.Frag.{size_of, tag_of}
use Rattle.ieee802154.specs.declared.addr.Address.{Address}
use Rattle.ieee802154.specs.declared.header.Repr as Mac
use Rattle.sixlowpan.specs.declared.frag.Repr as Frag
use Rattle.sixlowpan.specs.declared.frag.Key.{Key}

abbrev pub needed : {A : Type 0} → Option Address → (Address → Answer A) → Answer A
needed None k = refused 6
needed (Some a) k = k a

unfoldable pub key_of : Frag.Repr → Mac.Repr → Answer Key
key_of h m =
    needed m.src_addr (λ s. needed m.dst_addr (λ d. is (record { ll_src_addr = s; ll_dst_addr = d; datagram_size = size_of h; datagram_tag = tag_of h })))
