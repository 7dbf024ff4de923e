-- `Agent::next_due`: before that moment a round without events is quiet; at it something is due.
use Rattle.std.proofs.Common.{◌≡◌, false, true, ap, sym, subst, ◌∙◌}
use Rattle.std.specs.Prelude.{Some}
use Rattle.std.proofs.lemmas.Bool.{false≢true}
use Rattle.std.specs.List.{AllByRecursion}
use Rattle.sip_calls.specs.Call.{call_machine}
use Rattle.sip_calls.specs.CallShard.{call_cmp}
use Rattle.keyed_machine.specs.Shards.{ShardsTellAll}
use Rattle.sip_round.specs.Steps.Alike.{AreAlike}
use Rattle.sip_shards.proofs.FirstDue.{in_any}
use Rattle.sip_shards.proofs.IdleShards.{idle_held}
use Rattle.sip_round.proofs.NextDue.{calls_sound, due_of_either, lives_sound, quiet}
use Rattle.sip_round.proofs.agent.Agent.next_due.Goals as goal
use Rattle.keyed_machine.specs.Machine.{tick_at}

pub returns-in-Some-clause-before : goal.returns-in-Some-clause-before
returns-in-Some-clause-before g c = λ config rounds stands moment before.
    let shard_of = g.C.Cut.shard_of in
    let agent = c.args.self.now in
    let shards = c.in-Some.shards in
    let sound : agent.shards ≡ Some shards =
    sym (ap (λ a. a.shards) c.self.view_is) ∙ c.in-Some.is in
    let are = c.next_due.ensures.shards in
    let lives = lives_sound shard_of
    (λ name n cut some. g.met.C.Cut.within cut name n some) agent shards sound are
    config rounds stands in
    let calls = calls_sound shard_of
    (λ name n cut some. g.met.C.Cut.within cut name n some) agent shards sound are
    config rounds stands in
    let same = ap (λ a. a.calls) c.self.view_is in
    let alike = subst (λ shared. AllByRecursion (λ shard. shard.calls ≡ shared) shards.calls) same
    (subst (AreAlike c.self.inside.calls) c.in-Some.is c.self.invariant) in
    quiet shard_of (λ name n cut some. g.met.C.Cut.within cut name n some) agent shards sound
    are config rounds stands
    c.laws_of_phases.ensures.told_in_order c.laws_of_phases.ensures.shards_tell_all
    (subst (λ shared. ShardsTellAll call_cmp (call_machine shared) tick_at) same
    c.laws_of_phases-2.ensures.shards_tell_all) moment
    (c.next_due.ensures.transactions lives moment true (λ with_tick. before))
    (c.next_due.ensures.transactions lives moment false
    (λ without. absurd (false≢true without)))
    (idle_held call_cmp call_machine tick_at moment true (λ shard. shard.calls)
    (λ shard. shard.held) agent.calls shards.calls alike
    (c.next_due.ensures.calls calls moment true (λ with_tick. before)))

pub returns-in-Some-clause-due : goal.returns-in-Some-clause-due
returns-in-Some-clause-due g c =
    in_any _ _ c.next_due.result
    (λ at is config rounds stands.
    due_of_either g.C.Cut.shard_of (λ name n cut some. g.met.C.Cut.within cut name n some)
    c.args.self.now c.in-Some.shards (sym (ap (λ a. a.shards) c.self.view_is) ∙ c.in-Some.is)
    c.next_due.ensures.shards config rounds stands at is)
    c.next_due.ensures.due
