-- What an expansion puts last, the rest of the frame and the checksum of a whole datagram; and bytes that fit into a room.
use Rattle.std.specs.Prelude.{Option, Some, None}
use Prim.Native.Nat.{ℕ, ◌≤◌}
use native.Mathlib.Omega.{arith}
use mathlib.Core.List.{List, ◌++◌}
use mathlib.Core.Path.{◌≡◌, refl, ap, ◌∙◌}
use lib.ListN.{length, take, drop, length-drop}
use lib.Seq.{take_all}
use borrow.Author.Tests.{le-leb}
use Rattle.octets.specs.Write.{put, over}
use Rattle.expand.specs.Expand.{finished, finished_in}
use Rattle.expand.specs.declared.checksum.UdpSum.{UdpSum}
use Rattle.expand.proofs.SumLaws.{length-summed, summed-front}

-- the rest of the frame, as a call that copies it says it
pub rest-told : (s l n : List ℕ) (at from : ℕ) → n ≡ put at (take (length s) (drop from s)) l → n ≡ put at (drop from s) l
rest-told s l n at from e = e ∙ ap (λ z. put at z l) (take_all (length s) (drop from s) (omega (arith, length-drop from s)))

-- ---- the checksum of a whole datagram
pub finished-length : (size : Option ℕ) (m : UdpSum) (d : List ℕ) → length (finished size m d) ≡ length d
finished-length None m d = length-summed m d
finished-length (Some n) m d = refl

-- in lent bytes, at their front
pub finished-front : (size : Option ℕ) (m : UdpSum) (n : ℕ) (d y : List ℕ) → length d ≡ n → finished_in size m n (d ++ y) ≡ finished size m d ++ y
finished-front None m n d y e = summed-front m n d y e
finished-front (Some k) m n d y e = refl

-- bytes that fit
pub over-is : (bs room : List ℕ) (n : ℕ) → length bs ≡ n → n ≤ length room → over (length bs) bs room ≡ bs ++ drop n room
over-is bs room n e h = rw (e, le-leb n (length room) h) refl
