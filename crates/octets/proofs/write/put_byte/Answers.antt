use borrow.Author.Rules.{rules}
use Rattle.octets.proofs.Puts.{put-none}
use Rattle.octets.specs.Write.{put, byte_bytes}
use Rattle.octets.proofs.write.put_byte.Goals as goal

pub returns-then-at-buf : goal.returns-then-at-buf
unfolding put byte_bytes
returns-then-at-buf c = search rules

pub returns-else-at-buf : goal.returns-else-at-buf
returns-else-at-buf c = search put-none
