-- `new`: before the first round none is refused.
use Rattle.sip_stream.proofs.OneRound.{stands_first}
use Rattle.sip_stream.proofs.streaming.Streaming.new.Goals as goal

pub returns-clause-stands : goal.returns-clause-stands
returns-clause-stands g c =
    stands_first g.C.Cut.shard_of c.in-Ok.agent c.args.config c.in-Ok.ensures.stands
