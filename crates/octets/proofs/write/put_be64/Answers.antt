use borrow.Author.Rules.{Below-set, set_long}
use Prim.Native.Nat.{◌+◌, ◌<◌}
use lib.ListN.{length}
use native.Mathlib.Omega.{arith}
use Rattle.octets.proofs.Puts.{puts, direct-put, be64_direct, be64-direct}
use Rattle.octets.specs.Write.{be64_bytes}
use Rattle.octets.proofs.write.put_be64.Goals as goal

pub returns-then-buf-at-lt8 : goal.returns-then-buf-at-lt8
unfolding be64_bytes
returns-then-buf-at-lt8 c = search puts

pub bounds-buf-at-then-at-buf : goal.bounds-buf-at-then-at-buf
bounds-buf-at-then-at-buf c = let a = c.args in let h : a.at + 1 < length a.buf.now = omega arith in search (Below-set, h)

pub bounds-buf-at-then-at-buf-2 : goal.bounds-buf-at-then-at-buf-2
bounds-buf-at-then-at-buf-2 c = let a = c.args in let h : a.at + 2 < length a.buf.now = omega arith in search (Below-set, h)

pub bounds-buf-at-then-at-buf-3 : goal.bounds-buf-at-then-at-buf-3
bounds-buf-at-then-at-buf-3 c = let a = c.args in let h : a.at + 3 < length a.buf.now = omega arith in search (Below-set, h)

pub bounds-buf-at-then-at-buf-4 : goal.bounds-buf-at-then-at-buf-4
bounds-buf-at-then-at-buf-4 c = let a = c.args in let h : a.at + 4 < length a.buf.now = omega arith in search (Below-set, h)

pub bounds-buf-at-then-at-buf-5 : goal.bounds-buf-at-then-at-buf-5
bounds-buf-at-then-at-buf-5 c = let a = c.args in let h : a.at + 5 < length a.buf.now = omega arith in search (Below-set, h) depth 6

pub bounds-buf-at-then-at-buf-6 : goal.bounds-buf-at-then-at-buf-6
bounds-buf-at-then-at-buf-6 c = let a = c.args in let h : a.at + 6 < length a.buf.now = omega arith in search (Below-set, h) depth 7

pub bounds-buf-at-then-at-buf-7 : goal.bounds-buf-at-then-at-buf-7
bounds-buf-at-then-at-buf-7 c = let a = c.args in let h : a.at + 7 < length a.buf.now = omega arith in search (Below-set, h) depth 8

pub shape_of-buf : goal.shape_of-buf
shape_of-buf c = search set_long depth 9

pub returns-else-buf-at-lt8 : goal.returns-else-buf-at-lt8
returns-else-buf-at-lt8 c = let a = c.args in direct-put a.at (be64_direct a.x) (be64_bytes a.x) a.buf.now (be64-direct a.x)

pub returns-else-at-buf : goal.returns-else-at-buf
returns-else-at-buf c = search puts
