-- `Phase::deal_in_turn` does the phase of all shards, on the calling thread.
use Rattle.std.proofs.Common.{[], map, subst, sym}
use Rattle.std.proofs.lemmas.Result.{IfOk-weaker}
use Rattle.keyed_machine.specs.Groups.{groups}
use Rattle.keyed_machine.specs.Machine.{tick_at}
use Rattle.sip_shards.specs.AllShards.{DealsParts}
use Rattle.sip_shards.proofs.Pieces.{shards_alike, shards_dealt, tables_back}
use Rattle.sip_shards.proofs.phase.Phase.deal_in_turn.Goals as goal

pub end_phase-requires : goal.end_phase-requires
end_phase-requires g c =
    c.in_ok-dones.ensures.differ
    (c.dones_in_order.ensures.differ c.in_ok-pieces.field-0.items c.in_ok-pieces.ensures.numbered)

pub returns-clause-count : goal.returns-clause-count
returns-clause-count g c = IfOk-weaker c.end_phase.result _ _
    (λ dealt ended. tables_back _ (λ piece. piece.job.shard) (λ dealt. dealt.shard)
    (λ dealt. groups dealt.replies.ticks.items) (λ dealt. groups dealt.replies.items.items)
    c.in_ok-pieces.field-0.items c.args.self.shards.items dealt.0.items ended.gathered
    ended.joined_ticks ended.joined_items c.in_ok-pieces.ensures.shards
    (c.dones_in_order.ensures.in_order c.in_ok-pieces.field-0.items c.in_ok-dones.dones.items
    ended.gathered c.in_ok-pieces.ensures.numbered c.in_ok-dones.ensures.each_once
    ended.is_gathered) ended.apart)
    c.end_phase.ensures

pub returns-clause-alike : goal.returns-clause-alike
returns-clause-alike g c = IfOk-weaker c.end_phase.result _ _
    (λ dealt ended. shards_alike g.S.Machine.Key.Ord.cmp g.S.Machine.StateMachine.machine
    g.S.KeyShard.machine g.S.KeyShard.held (λ piece. piece.job.shard) (λ piece. piece.job.now)
    (λ piece. piece.job.ticks) (λ piece. piece.job.items.items) (λ dealt. dealt.shard)
    (λ dealt. groups dealt.replies.ticks.items) (λ dealt. groups dealt.replies.items.items)
    c.args.self.machine c.args.self.moment c.args.self.ticks c.in_ok-pieces.field-0.items
    c.args.self.shards.items c.in_ok-pieces.ensures.shards c.requires
    c.in_ok-dones.dones.items dealt.0.items (groups dealt.1.ticks.items)
    (groups dealt.1.items.items) ended
    (c.dones_in_order.ensures.in_order c.in_ok-pieces.field-0.items c.in_ok-dones.dones.items
    ended.gathered c.in_ok-pieces.ensures.numbered c.in_ok-dones.ensures.each_once
    ended.is_gathered))
    c.end_phase.ensures

pub returns-clause-dealt : goal.returns-clause-dealt
returns-clause-dealt g c = IfOk-weaker c.end_phase.result _ _
    (λ dealt ended. shards_dealt g.S.Machine.Key.Ord.cmp g.S.Machine.StateMachine.machine
    g.S.KeyShard.machine g.S.KeyShard.held (λ piece. piece.job.shard) (λ piece. piece.job.now)
    (λ piece. piece.job.ticks) (λ piece. piece.job.items.items) (λ dealt. dealt.shard)
    (λ dealt. groups dealt.replies.ticks.items) (λ dealt. groups dealt.replies.items.items)
    c.args.self.machine c.args.self.moment c.args.self.ticks c.in_ok-pieces.field-0.items
    c.args.self.shards.items c.in_ok-pieces.ensures.shards c.requires
    c.in_ok-dones.dones.items dealt.0.items (groups dealt.1.ticks.items)
    (groups dealt.1.items.items) ended
    (c.dones_in_order.ensures.in_order c.in_ok-pieces.field-0.items c.in_ok-dones.dones.items
    ended.gathered c.in_ok-pieces.ensures.numbered c.in_ok-dones.ensures.each_once
    ended.is_gathered)
    c.laws_of_phases.ensures.shards_tell_all (map (λ part. part.items) c.args.self.parts.items)
    c.in_ok-pieces.ensures.parts c.in_ok-pieces.ensures.shared)
    c.end_phase.ensures

pub returns-then-is_idle-clause-dealt : goal.returns-then-is_idle-clause-dealt
returns-then-is_idle-clause-dealt g c =
    let all = c.args.self in
    let held = g.S.KeyShard.held in
    let Deals = DealsParts g.S.Machine.Key.Ord.cmp (g.S.Machine.StateMachine.machine all.machine)
    tick_at all.moment all.ticks (map (λ part. part.items) all.parts.items)
    (map held all.shards.items) in
    subst (λ after. Deals (map held after) (groups c.unchanged.result.1.ticks.items)
    (groups c.unchanged.result.1.items.items)) (sym c.unchanged.ensures.shards)
    (subst (λ ticks. Deals (map held all.shards.items) ticks
    (groups c.unchanged.result.1.items.items)) (sym c.unchanged.ensures.ticks)
    (subst (Deals (map held all.shards.items) []) (sym c.unchanged.ensures.items)
    (c.is_idle.ensures c.if-is_idle.true)))
