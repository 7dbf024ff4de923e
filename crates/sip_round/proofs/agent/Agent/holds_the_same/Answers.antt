-- `Agent::holds_the_same`: the two agents stand for the same rounds.
use Rattle.std.proofs.Common.{ap, sym, subst, ◌∙◌}
use Rattle.keyed_machine.specs.Laws.{ShardsHoldApart}
use Rattle.keyed_machine.specs.Machine.{tick_at}
use Rattle.sip_calls.specs.Call.{call_machine}
use Rattle.sip_calls.specs.CallShard.{call_cmp}
use Rattle.sip_round.proofs.SameAgents.{AreSame, hold_too, stands_too}
use Rattle.sip_round.proofs.agent.Agent.holds_the_same.Goals as goal

pub returns-then-is_at_the_same-clause-stands : goal.returns-then-is_at_the_same-clause-stands
returns-then-is_at_the_same-clause-stands g c = λ yes cut config rounds stands.
    let shards = c.in-Some.shards in
    let others = c.in-Some-shards.others in
    let at = c.is_at_the_same.ensures.0 c.if-is_at_the_same.true in
    let same : AreSame c.args.self.now c.args.other.now shards others = record {
      shared = at.0;
      number = at.1;
      moment = at.2;
      held = c.hold_the_same.ensures.same.0 yes;
    } in
    stands_too g.C.Cut.shard_of c.args.self.now c.args.other.now shards others
    (sym (ap (λ a. a.shards) c.self.view_is) ∙ c.in-Some.is)
    (sym (ap (λ a. a.shards) c.other.view_is) ∙ c.in-Some-shards.is) cut same config rounds stands

pub returns-then-is_at_the_same-clause-same : goal.returns-then-is_at_the_same-clause-same
returns-then-is_at_the_same-clause-same g c =
    λ cut count config other_config rounds other_rounds stands other_stands leave.
    let shards = c.in-Some.shards in
    let others = c.in-Some-shards.others in
    let apart = subst (λ calls. ShardsHoldApart call_cmp (call_machine calls) tick_at)
    (ap (λ a. a.calls) c.other.view_is) c.laws_of_phases-2.ensures.shards_hold_apart in
    c.hold_the_same.ensures.same.1
    (hold_too g.C.Cut.shard_of c.args.self.now c.args.other.now shards others
    (sym (ap (λ a. a.shards) c.self.view_is) ∙ c.in-Some.is)
    (sym (ap (λ a. a.shards) c.other.view_is) ∙ c.in-Some-shards.is) cut
    c.hold_the_same.ensures.shards c.hold_the_same.ensures.others count
    c.laws_of_phases.ensures.shards_hold_apart apart config other_config rounds other_rounds stands
    other_stands leave).held
