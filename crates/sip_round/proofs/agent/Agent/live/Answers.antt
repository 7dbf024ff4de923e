-- `Agent::live` counts the transactions and calls that have begun and haven't ended.
use Rattle.std.proofs.Common.{sym, ◌∙◌, ap}
use Rattle.sip_round.proofs.LiveShards.{live_shards}
use Rattle.sip_round.proofs.agent.Agent.live.Goals as goal

pub returns-in-Some-clause-counts : goal.returns-in-Some-clause-counts
returns-in-Some-clause-counts g c = λ config rounds stands.
    live_shards g.C.Cut.shard_of (λ name n cut some. g.met.C.Cut.within cut name n some)
    c.args.self.now c.in-Some.shards config rounds c.live.result
    (sym (ap (λ a. a.shards) c.self.view_is) ∙ c.in-Some.is) c.live.ensures.shards stands
    c.live.ensures.transactions c.live.ensures.calls
