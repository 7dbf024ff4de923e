-- `live_in`: each turn of the loop adds the number of keys of one more shard.
use Rattle.std.proofs.Common.{◌≤◌, ◌+◌, length, is_some, ap, ◌∙◌, refl, sym, subst, arith}
use Rattle.std.specs.Prelude.{count_by, sum_by}
use Rattle.std.proofs.lemmas.List.{take_all}
use Rattle.keyed_machine.specs.Table.{Covers, state_at}
use Rattle.sip_round.proofs.Living.{summed}
use Rattle.sip_round.proofs.shards.live_in.Goals as goal

pub loop-shard-preserved : goal.loop-shard-preserved
loop-shard-preserved g c =
    let cmp = g.S.Machine.Key.Ord.cmp in
    let held = g.S.KeyShard.held in
    let bound = c.live.type_inv in (
      λ keys covers.
          let here : Covers cmp keys (state_at cmp (held c.shard-item.result)) =
          subst (λ shard. Covers cmp keys (state_at cmp (held shard))) (sym c.shard-item.is)
          (covers c.loop-shard.shard-index c.shard-item.result c.loop-shard-test.true) in
          summed (λ shard. count_by (λ key. is_some (state_at cmp (held shard) key)) keys)
          c.args.shards.now c.loop-shard.shard-index c.shard-item.result c.loop-shard.live
          c.live.result (c.loop-shard.live + c.live.result)
          c.loop-shard-test.true c.shard-item.is (c.loop-shard.invariant.0 keys covers)
          (c.live.ensures keys here) refl,
      omega (arith, c.loop-shard.invariant.1, bound),
    )

pub returns : goal.returns
returns g c = λ keys covers.
    let cmp = g.S.Machine.Key.Ord.cmp in
    let held = g.S.KeyShard.held in
    let over : length c.args.shards.now ≤ c.loop-shard.shard-index = c.loop-shard-test.false in
    c.loop-shard.invariant.0 keys covers
    ∙ ap (sum_by (λ shard. count_by (λ key. is_some (state_at cmp (held shard) key)) keys))
    (take_all c.loop-shard.shard-index c.args.shards.now over)
