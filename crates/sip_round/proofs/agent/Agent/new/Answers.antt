-- `Agent::new`: the agent stands for no rounds.
use Rattle.sip_round.proofs.Beginning.{begins}
use Rattle.sip_round.proofs.agent.Agent.new.Goals as goal

pub returns-clause-stands : goal.returns-clause-stands
returns-clause-stands g c = begins g.C.Cut.shard_of c.args.cut c.args.config c.in_ok-shards.shards
    c.in_ok-shards.ensures.transactions c.in_ok-shards.ensures.calls
