-- `into_parts`: each turn of the loop takes one more done apart.
use Rattle.std.proofs.Common.{◌≡◌, [], ◌∷◌, refl, sym, ◌∙◌, ap}
use Rattle.std.proofs.lemmas.List.{nil_from_length, map-append}
use Rattle.std.specs.Vec.Iter.{into_iter_items}
use Rattle.keyed_machine.specs.Groups.{groups}
use Rattle.sip_shards.proofs.Piled.{no_dones, one_done, all_dones}
use Rattle.sip_shards.proofs.phase.into_parts.Goals as goal

pub loop-done-init : goal.loop-done-init
loop-done-init g c =
    no_dones (λ dealt. dealt.shard) (λ dealt. groups dealt.replies.ticks.items)
    (λ dealt. groups dealt.replies.items.items) c.args.dones.items
    (into_iter_items c.into_iter-done-iterator.result) c.in_ok-shards.shards.items
    (groups c.new-ticks.result.items) (groups c.new-items.result.items)
    c.into_iter-done-iterator.ensures.into_iter_gives.0 c.in_ok-shards.ensures.items
    (ap groups c.new-ticks.ensures.items) (ap groups c.new-items.ensures.items)

pub loop-done-preserved : goal.loop-done-preserved
loop-done-preserved g c =
    one_done (λ dealt. dealt.shard) (λ dealt. groups dealt.replies.ticks.items)
    (λ dealt. groups dealt.replies.items.items) c.args.dones.items
    c.in-Ok.field-0 (into_iter_items c.loop-done.done-iterator)
    (into_iter_items c.next.new.self) c.loop-done.shards.items c.push.new.self.items
    c.in-Ok.field-0.shard
    (groups c.loop-done.ticks.items) (groups c.append.new.self.items)
    (groups c.loop-done.items.items) (groups c.append-in-loop-done.new.self.items)
    (c.in-Some.ensures.steps.0 ∙ ap (λ done. done ∷ into_iter_items c.next.new.self) c.in-Ok.is)
    c.in_ok-push.ensures.items refl
    (ap groups c.in_ok-append.ensures.items
    ∙ map-append (λ group. (group.0, group.1.items)) c.loop-done.ticks.items
    c.in-Ok.field-0.replies.ticks.items)
    (ap groups c.in_ok-append-2.ensures.items
    ∙ map-append (λ group. (group.0, group.1.items)) c.loop-done.items.items
    c.in-Ok.field-0.replies.items.items)
    c.loop-done.invariant

pub returns : goal.returns
returns g c =
    let left = c.loop-done.done-iterator in
    let nothing_left : into_iter_items left ≡ [] =
    nil_from_length (into_iter_items left) (sym left.rest.ok.0 ∙ c.in-None.ensures.steps.0) in
    all_dones (λ dealt. dealt.shard) (λ dealt. groups dealt.replies.ticks.items)
    (λ dealt. groups dealt.replies.items.items) c.args.dones.items
    (into_iter_items left) c.loop-done.shards.items (groups c.loop-done.ticks.items)
    (groups c.loop-done.items.items) nothing_left c.loop-done.invariant
