-- The scope document's own table of carried PANs for version 2, and its rule for refusal 3, as it gives them ("MAC"). proofs/Tables.antt shows that the
-- branches of Control.antt are these.
use Rattle.std.specs.Prelude.{Bool, true, false, ◌&&◌, ◌||◌, eqb}
use Rattle.octets.specs.Read.{choose}
use Rattle.ieee802154.specs.Control.{pans}
use Rattle.ieee802154.specs.declared.control.AddressingMode.{AddressingMode}
use Rattle.ieee802154.specs.declared.control.Control.{Control}
use Rattle.ieee802154.specs.declared.control.Carried.{Carried}

-- ---- "Version 2 (dst, src, compression: PANs carried)"
pub data Pair : Type 0 where
  neither : Pair
  dst-only : Pair
  src-only : Pair
  both-extended : Pair
  other-pair : Pair

abbrev pub carried_by : Pair → Bool → Carried
-- "none,none,0: none; none,none,1: dst;
carried_by neither false = pans false false
carried_by neither true = pans true false
-- dst only,0: dst; dst only,1: none;
carried_by dst-only false = pans true false
carried_by dst-only true = pans false false
-- src only,0: src; src only,1: none;
carried_by src-only false = pans false true
carried_by src-only true = pans false false
-- both extended,0: dst; both extended,1: none;
carried_by both-extended false = pans true false
carried_by both-extended true = pans false false
-- any other pair,0: both; any other pair,1: dst"
carried_by other-pair false = pans true true
carried_by other-pair true = pans true false

abbrev absent : AddressingMode → Bool
absent a = eqb a.0 0

abbrev extended : AddressingMode → Bool
extended a = eqb a.0 3

unfoldable pub pair_of : AddressingMode → AddressingMode → Pair
pair_of d s =
    choose (absent d && absent s) neither
    (choose (absent s) dst-only
    (choose (absent d) src-only
    (choose (extended d && extended s) both-extended other-pair)))

-- ---- "version 3, a mode of 01, or versions 0 and 1 with PAN compression and both addresses absent: 3"
unfoldable pub refused3 : Control → Bool
refused3 k =
    eqb k.frame_version.0 3
    || ((eqb k.dst_addr_mode.0 1 || eqb k.src_addr_mode.0 1)
    || ((eqb k.frame_version.0 0 || eqb k.frame_version.0 1)
    && (k.pan_id_compression && (absent k.dst_addr_mode && absent k.src_addr_mode))))
