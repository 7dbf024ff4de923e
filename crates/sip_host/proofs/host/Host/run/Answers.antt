-- `Host::run`: a round that the agent doesn't run leaves the events as they were.
use Rattle.std.proofs.Common.{◌≡◌, ap, sym, subst, ◌∙◌, rules}
use Rattle.std.specs.Prelude.{Err}
use Rattle.sip_round.specs.AgentState.{EndsRound}
use Rattle.sip_round.specs.declared.round.Round.{Round}
use Rattle.sip_host.specs.Hosting.{RunsRound, round_at}
use Rattle.sip_host.specs.declared.host_fault.HostFault.TheVariants as host_fault
use Rattle.sip_host.proofs.RefusedRounds.{round_refused}
use Rattle.sip_host.proofs.host.Host.run.Goals as goal

pub returns-in-Err : goal.returns-in-Err
returns-in-Err c =
    let round : c.at-round.result ≡ round_at c.args.moment c.args.self.now =
    c.at-round.ensures
    ∙ ap (λ events. record { moment = c.args.moment; events = events })
    c.replace-events.ensures.value in
    let events : c.into_events.result ≡ c.args.self.now.events =
    c.into_events.ensures ∙ ap (λ (r : Round). r.events) round in
    subst (λ events. RunsRound c.args.moment c.args.self.now
    (record c.args.self.now { agent = c.run_round_in_turn_with_places.new.self; events = events })
    (Err (host_fault.Round c.in-Err.fault))) (sym events)
    (round_refused c.args.moment c.args.self.now c.run_round_in_turn_with_places.new.self
    c.in-Err.fault
    (subst (λ (r : Round). EndsRound c.args.self.now.agent
    c.run_round_in_turn_with_places.new.self r (Err c.in-Err.fault)) (c.get.ensures ∙ round)
    c.in-Err.ensures.ends)
    (search rules))
