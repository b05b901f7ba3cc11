use Rattle.pcap.proofs.Passing.{header-short, header_made}
use Rattle.pcap.proofs.going.file_header.Goals as goal

pub returns-then-out-lt-HEAD : goal.returns-then-out-lt-HEAD
returns-then-out-lt-HEAD c = header-short _ c.if-out-lt-HEAD.true

pub returns : goal.returns
returns c = header_made _ _ c.if-out-lt-HEAD.false c.put_head.ensures
