-- `Agent::run_phases`: the agent stands for one more round, led over its workers.
use Rattle.std.proofs.Common.{subst}
use Rattle.std.specs.Prelude.{IfOk}
use Rattle.std.proofs.lemmas.Result.{IfOk-weaker}
use Rattle.sip_round.specs.AgentState.{AgentState}
use Rattle.sip_round.specs.Steps.Led.{DealsInForm}
use Rattle.sip_round.proofs.Runs.{ended_longer}
use Rattle.sip_round.proofs.agent.Agent.run_phases.Goals as goal

pub returns-clause-gives : goal.returns-clause-gives
returns-clause-gives g c = IfOk-weaker c.end.result _ _
    (λ outputs ended.
    let begun = c.in_ok-begun.begun in
    let began = c.in_ok-begun.ensures in
    let led = subst (λ led. IfOk led (λ both. DealsInForm g.F.Form.form begun.calls
    (g.C.Cut.shard_of c.self-2.inside.cut) begun.number c.args.round.now begun.shards both.0
    both.1.items)) ended.1 c.lead-led.ensures.deals in
    ended_longer g.C.Cut.shard_of g.F.Form.form c.args.self.now c.begin.new.self c.end.new.self
    c.args.round.now outputs.items begun.shards ended.0 begun.calls begun.number began.taken.0
    began.calls began.number began.taken.1 ended.2
    (subst (λ (agent : AgentState _). DealsInForm g.F.Form.form begun.calls
    (g.C.Cut.shard_of agent.cut) begun.number c.args.round.now begun.shards ended.0
    outputs.items) c.self-2.view_is led))
    c.end.ensures.ok
