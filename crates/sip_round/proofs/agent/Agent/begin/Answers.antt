-- `Agent::begin` cuts what arrived into the parts of the shards.
use Rattle.std.proofs.Common.{◌≡◌, length, map, subst}
use Rattle.std.specs.Prelude.{IfSome}
use Rattle.sip_message.specs.Key.{branch_in}
use Rattle.sip_round.specs.AgentState.{AgentState}
use Rattle.sip_round.specs.Arrivals.{arrivals_from}
use Rattle.sip_shards.specs.Parts.{cut_by, owner_of}
use Rattle.sip_round.specs.Steps.SetOut.{IsSetOut}
use Rattle.sip_round.proofs.ArrivedHere.{arrived_here}
use Rattle.sip_round.proofs.agent.Agent.begin.Goals as goal

pub returns-clause-arrived : goal.returns-clause-arrived
returns-clause-arrived g c =
    let agent = c.args.self.now in
    let events = c.args.round.now.events in
    let out = c.in-Some.field-0 in
    let shards = c.in-Some-take.shards in
    let parts = map (λ part. part.items) c.in-Ok.parts.items in
    let set_out : IsSetOut (arrivals_from agent.calls.local agent.next_round 1 events) out =
    subst (λ read. IfSome read
    (IsSetOut (arrivals_from agent.calls.local agent.next_round 1 events)))
    c.in-Some.is c.requires in
    arrived_here (λ n. owner_of (g.C.Cut.shard_of agent.cut) branch_in n) c.count.result
    (length shards.transactions) agent.calls.local agent.next_round events
    out.items.items parts out.waiting.items c.count.ensures.count set_out.items_are
    set_out.waiting_are
    (subst (λ (held : AgentState _). parts
    ≡ cut_by (owner_of (g.C.Cut.shard_of held.cut) branch_in c.count.result) 0 c.count.result
    out.items.items) c.self.view_is c.in-Ok.ensures)
