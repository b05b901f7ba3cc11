use Rattle.std.specs.Prelude.{Some}
use Rattle.octets.proofs.Puts.{put-nil, case-put}
use Rattle.ieee802154.specs.Addressing.{field_bytes}
use Rattle.ieee802154.proofs.addr.put_field.Goals as goal

pub returns-in-None : goal.returns-in-None
returns-in-None c = search (put-nil, case-put field_bytes)

pub returns-in-Absent : goal.returns-in-Absent
returns-in-Absent c = search (put-nil, case-put field_bytes, case-put (λ x. field_bytes (Some x)))
