-- `Agent::run_in_form`: if its shards go one by one, the agent stands for one more round too.
use Rattle.sip_round.proofs.Runs.{passed_longer}
use Rattle.sip_round.proofs.agent.Agent.run_in_form.Goals as goal

pub returns-then-is_in_turn-clause-gives : goal.returns-then-is_in_turn-clause-gives
returns-then-is_in_turn-clause-gives g c =
    passed_longer g.C.Cut.shard_of g.F.Form.form c.args.self.now c.pass.new.self c.args.round.now
    c.pass.result.items c.pass.ensures.passed (c.is_idle.ensures c.if-is_idle.true)
    c.pass.ensures.outputs
