use Rattle.octets.proofs.Puts.{puts}
use Rattle.octets.specs.Write.{le32_bytes}
use Rattle.octets.proofs.write.put_le32.Goals as goal

pub returns-then-at-buf : goal.returns-then-at-buf
unfolding le32_bytes
returns-then-at-buf c = search puts

pub returns-else-at-buf : goal.returns-else-at-buf
returns-else-at-buf c = search puts
