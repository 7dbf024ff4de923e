-- `Agent::is_idle`: if it says so, the round changes nothing and gives nothing.
use Rattle.std.proofs.Common.{true, [], length, sym, ◌∙◌, subst}
use Rattle.std.specs.Prelude.{IfSome}
use Rattle.std.proofs.lemmas.Bool.{eqb-true}
use Rattle.std.proofs.lemmas.List.{nil_from_length}
use Rattle.sip_calls.specs.Call.{call_machine}
use Rattle.sip_calls.specs.CallShard.{call_cmp}
use Rattle.sip_message.specs.Key.{branch_in}
use Rattle.keyed_machine.specs.Machine.{tick_at}
use Rattle.sip_round.specs.AgentState.{calls_held, lives_held}
use Rattle.sip_round.specs.Steps.Alike.{AreAlike}
use Rattle.sip_round.specs.Steps.Led.{Deals}
use Rattle.sip_shards.proofs.IdleShards.{idle_held}
use Rattle.sip_round.proofs.HeldInShards.{some_calls, some_lives}
use Rattle.sip_round.proofs.IdleRound.{idle_round}
use Rattle.sip_round.proofs.agent.Agent.is_idle.Goals as goal

pub returns-then-is_empty : goal.returns-then-is_empty
returns-then-is_empty g c = λ idle.
    let inside = c.self.inside in
    let shards = c.in-Some.shards in
    let are = c.are_idle.ensures in
    let moment = c.args.round.now.moment in
    let none = nil_from_length c.args.round.now.events (eqb-true _ 0
    (sym c.is_empty.ensures ∙ c.if-is_empty.true)) in
    let alike = subst (AreAlike inside.calls) c.in-Some.is c.self.invariant in
    let here = idle_round inside.calls (g.C.Cut.shard_of inside.cut) inside.next_round
    c.args.round.now shards none
    c.laws_of_phases.ensures.told_in_order c.laws_of_phases.ensures.shards_tell_all
    c.laws_of_phases-2.ensures.shards_tell_all
    (λ key. g.met.C.Cut.within inside.cut (branch_in key) (length (lives_held shards))
    (some_lives shards are.shards))
    (λ call_id. g.met.C.Cut.within inside.cut call_id (length (calls_held shards))
    (some_calls shards are.shards))
    (are.first idle) (are.third idle)
    (idle_held call_cmp call_machine tick_at moment true (λ shard. shard.calls)
    (λ shard. shard.held) inside.calls shards.calls alike (are.second idle)) in
    subst (λ agent. IfSome agent.shards (λ shards. Deals agent.calls
    (g.C.Cut.shard_of agent.cut) agent.next_round c.args.round.now shards shards []))
    c.self.view_is
    (subst (λ held. IfSome held (λ shards. Deals inside.calls (g.C.Cut.shard_of inside.cut)
    inside.next_round c.args.round.now shards shards [])) (sym c.in-Some.is) here)
