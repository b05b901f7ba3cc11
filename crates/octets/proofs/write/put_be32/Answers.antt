use borrow.Author.Rules.{Below-set}
use Prim.Native.Nat.{◌+◌, ◌<◌}
use lib.ListN.{length}
use native.Mathlib.Omega.{arith}
use Rattle.octets.proofs.Puts.{puts, direct-put, be32_direct, be32-direct}
use Rattle.octets.specs.Write.{be32_bytes}
use Rattle.octets.proofs.write.put_be32.Goals as goal

pub returns-then-buf-at-lt4 : goal.returns-then-buf-at-lt4
unfolding be32_bytes
returns-then-buf-at-lt4 c = search puts

pub bounds-buf-at-then-at-buf : goal.bounds-buf-at-then-at-buf
bounds-buf-at-then-at-buf c = let a = c.args in let h : a.at + 1 < length a.buf.now = omega arith in search (Below-set, h)

pub bounds-buf-at-then-at-buf-2 : goal.bounds-buf-at-then-at-buf-2
bounds-buf-at-then-at-buf-2 c = let a = c.args in let h : a.at + 2 < length a.buf.now = omega arith in search (Below-set, h)

pub bounds-buf-at-then-at-buf-3 : goal.bounds-buf-at-then-at-buf-3
bounds-buf-at-then-at-buf-3 c = let a = c.args in let h : a.at + 3 < length a.buf.now = omega arith in search (Below-set, h)

pub returns-else-buf-at-lt4 : goal.returns-else-buf-at-lt4
returns-else-buf-at-lt4 c = let a = c.args in direct-put a.at (be32_direct a.x) (be32_bytes a.x) a.buf.now (be32-direct a.x)

pub returns-else-at-buf : goal.returns-else-at-buf
returns-else-at-buf c = search puts
