use borrow.Author.Rules.{Below-set}
use Prim.Native.Nat.{◌+◌, ◌<◌}
use lib.ListN.{length}
use native.Mathlib.Omega.{arith}
use Rattle.octets.proofs.Puts.{puts, stored-put}
use Rattle.octets.specs.Write.{be16_bytes}
use Rattle.octets.proofs.write.put_be16.Goals as goal

pub returns-then-buf-at-lt2 : goal.returns-then-buf-at-lt2
unfolding be16_bytes
returns-then-buf-at-lt2 c = search puts

pub bounds-buf-at-then-at-buf : goal.bounds-buf-at-then-at-buf
bounds-buf-at-then-at-buf c = let a = c.args in let h : a.at + 1 < length a.buf.now = omega arith in search (Below-set, h)

pub returns-else-buf-at-lt2 : goal.returns-else-buf-at-lt2
unfolding be16_bytes
returns-else-buf-at-lt2 c = stored-put c.args.at (be16_bytes c.args.x) c.args.buf.now

pub returns-else-at-buf : goal.returns-else-at-buf
returns-else-at-buf c = search puts
