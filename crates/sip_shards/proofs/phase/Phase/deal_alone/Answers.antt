-- `Phase::deal_alone`: the phase of a single shard is the phase of all shards.
use Rattle.std.proofs.Common.{◌≡◌, [], ◌∷◌, map, length, ◌∙◌, ap, arith, subst}
use Rattle.std.proofs.lemmas.List.{map-append, length-map}
use Rattle.std.specs.List.{AllByRecursion}
use Rattle.keyed_machine.specs.Groups.{groups}
use Rattle.keyed_machine.specs.Machine.{tick_at}
use Rattle.keyed_machine.specs.Phase.{AddsPhase, phase_at}
use Rattle.sip_shards.proofs.Alone.{all_last, deals_last}
use Rattle.sip_shards.proofs.phase.Phase.deal_alone.Goals as goal

pub returns-clause-dealt : goal.returns-clause-dealt
returns-clause-dealt g c =
    let all = c.args.self in
    let held = g.S.KeyShard.held in
    let left = c.pop.new.self in
    let parts_left = c.pop-2.new.self in
    let took = c.in-Some-Some.ensures in
    let took_parts = c.in-Some-Some.ensures' in
    let shard = c.in-Some-Some.shard in
    let no_shard : length (map held left.items) ≡ 0 =
    omega (arith, took.len, c.requires.one, left.ok, all.shards.ok, length-map left.items held) in
    let no_part : length (map (λ part. part.items) parts_left.items) ≡ 0 =
    omega (
      arith,
      took_parts.len,
      all.a_part_each,
      c.requires.one,
      all.parts.ok,
      parts_left.ok,
      length-map parts_left.items (λ part. part.items),
    ) in
    let same = all_last (λ shard. g.S.KeyShard.machine shard ≡ all.machine) left.items shard
    (subst (AllByRecursion (λ shard. g.S.KeyShard.machine shard ≡ all.machine)) took.items
    c.requires.alike) in
    let adds = subst (λ machine. AddsPhase g.S.Machine.Key.Ord.cmp
    (g.S.Machine.StateMachine.machine machine) tick_at (held shard) (held c.deal.new.self)
    (phase_at all.moment all.ticks c.in-Some-Some.items.items)
    (groups c.in-Ok.replies.ticks.items) (groups c.in-Ok.replies.items.items)) same
    c.in-Ok.ensures.phases in
    deals_last g.S.Machine.Key.Ord.cmp (g.S.Machine.StateMachine.machine all.machine)
    tick_at all.moment all.ticks (held shard) (held c.deal.new.self)
    c.in-Some-Some.items.items (groups c.in-Ok.replies.ticks.items)
    (groups c.in-Ok.replies.items.items) adds (map held all.shards.items) (map held left.items)
    (map held c.push.new.self.items) (map (λ part. part.items) all.parts.items)
    (map (λ part. part.items) parts_left.items)
    (ap (map held) took.items ∙ map-append held left.items (shard ∷ [])) no_shard
    (ap (map (λ part. part.items)) took_parts.items
    ∙ map-append (λ part. part.items) parts_left.items (c.in-Some-Some.items ∷ [])) no_part
    (ap (map held) c.in_ok-push.ensures.items ∙ map-append held left.items (c.deal.new.self ∷ []))
