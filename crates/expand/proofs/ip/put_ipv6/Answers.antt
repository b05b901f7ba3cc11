use Rattle.expand.proofs.FullLaws.{ipv6-put}
use Rattle.expand.proofs.ip.put_ipv6.Goals as goal

pub returns : goal.returns
returns c = ipv6-put _ c.args.ip _ _ _ _ c.put_front.ensures c.put_both.ensures
