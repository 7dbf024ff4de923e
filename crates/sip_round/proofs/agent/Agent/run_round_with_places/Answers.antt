-- `Agent::run_round_with_places` gives the round's outputs with their places.
use Rattle.std.proofs.lemmas.Result.{IfOk-weaker}
use Rattle.sip_round.proofs.Runs.{placed_longer}
use Rattle.sip_round.proofs.agent.Agent.run_round_with_places.Goals as goal

pub returns-clause-answers : goal.returns-clause-answers
returns-clause-answers g c = IfOk-weaker c.run_in_form.result _ _
    (λ outputs gives config rounds stands.
    let longer = placed_longer g.C.Cut.shard_of c.args.self.now c.run_in_form.new.self
    c.args.round.now outputs.items gives config rounds stands in
    (longer.stands, longer.placed))
    c.run_in_form.ensures.gives

pub returns-clause-alone : goal.returns-clause-alone
returns-clause-alone g c = IfOk-weaker c.run_in_form.result _ _
    (λ outputs gives config rounds stands. (placed_longer g.C.Cut.shard_of c.args.self.now
    c.run_in_form.new.self c.args.round.now outputs.items gives config rounds stands).alone)
    c.run_in_form.ensures.gives
