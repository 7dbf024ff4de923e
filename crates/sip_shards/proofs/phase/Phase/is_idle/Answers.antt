-- `Phase::is_idle`: if it says so, the phase changes nothing and has no outputs.
use Rattle.std.proofs.Common.{◌≡◌, ◌∙◌, [], map, subst, sym, arith}
use Rattle.std.proofs.lemmas.List.{length-map}
use Rattle.std.specs.List.{AllByRecursion}
use Rattle.keyed_machine.specs.Machine.{tick_at}
use Rattle.sip_shards.specs.AllShards.{IsIdle}
use Rattle.sip_shards.proofs.IdleShards.{empty_parts, idle_held, idle_shards}
use Rattle.sip_shards.proofs.phase.Phase.is_idle.Goals as goal

pub returns-then-have_no_items : goal.returns-then-have_no_items
returns-then-have_no_items g c = λ idle owner items within parts rising.
    let all = c.args.self.now in
    let cmp = g.S.Machine.Key.Ord.cmp in
    let spec = g.S.Machine.StateMachine.machine in
    let held = g.S.KeyShard.held in
    let none = subst (λ ps. AllByRecursion (λ part. part.items ≡ []) ps) c.deref.ensures.value
    (c.have_no_items.ensures c.if-have_no_items.true) in
    let still = subst (λ shards. AllByRecursion (λ shard. IsIdle cmp
    (spec (g.S.KeyShard.machine shard)) tick_at all.moment all.ticks (held shard)) shards)
    c.deref-then-have_no_items.ensures.value (c.are_idle.ensures idle) in
    idle_shards cmp (spec all.machine) tick_at owner all.moment all.ticks
    c.laws_of_phases.ensures.shards_tell_all items (map held all.shards.items) within rising
    (idle_held cmp spec tick_at all.moment all.ticks g.S.KeyShard.machine held all.machine
    all.shards.items c.requires still)
    (sym (empty_parts (λ part. part.items) all.parts.items (map held all.shards.items) none
    (omega (arith, all.a_part_each, length-map all.shards.items held))) ∙ parts)
