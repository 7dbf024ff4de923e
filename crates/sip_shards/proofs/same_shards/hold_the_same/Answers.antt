-- Shards hold the same if each holds the same as the other one at its place.
use Rattle.std.proofs.Common.{arith, refl, rules}
use Rattle.std.specs.Prelude.{IsTrue}
use Rattle.std.proofs.lemmas.Grind.{common_steps}
use Rattle.keyed_machine.specs.SameTables.{HoldTheSame}
use Rattle.sip_shards.proofs.SameShards.{zip_at, zip_more, zip_of_held, zip_of_shards, zip_whole}
use Rattle.sip_shards.proofs.same_shards.hold_the_same.Goals as goal

pub returns-then-not-holds_the_same : goal.returns-then-not-holds_the_same
returns-then-not-holds_the_same g c =
    let cmp = g.S.Machine.Key.Ord.cmp in
    let held = g.S.KeyShard.held in (
      (λ no. absurd cc),
      λ all.
          let yes : IsTrue c.holds_the_same.result = c.holds_the_same.ensures.1
          (zip_at (λ shard other. HoldTheSame cmp (held shard) (held other)) c.args.shards.now
          c.args.others.now c.loop-place.place c.index-shards-place.result
          c.index-others-place.result (omega arith) c.index-shards-place.is
          c.index-others-place.is
          (zip_of_shards (HoldTheSame cmp) held c.args.shards.now c.args.others.now all)) in
          absurd (grind (arith, common_steps, yes, c.if-not-holds_the_same.true)),
    )

pub loop-place-preserved : goal.loop-place-preserved
loop-place-preserved g c =
    let cmp = g.S.Machine.Key.Ord.cmp in
    let held = g.S.KeyShard.held in
    let yes : IsTrue c.holds_the_same.result = search rules in
    zip_more (λ shard other. HoldTheSame cmp (held shard) (held other)) c.args.shards.now
    c.args.others.now c.loop-place.place c.index-shards-place.result c.index-others-place.result
    (omega arith) (omega arith) c.index-shards-place.is c.index-others-place.is
    (c.holds_the_same.ensures.0 yes) c.loop-place.invariant

pub returns : goal.returns
returns g c =
    let cmp = g.S.Machine.Key.Ord.cmp in
    let held = g.S.KeyShard.held in (
      (λ yes. zip_of_held (HoldTheSame cmp) held c.args.shards.now c.args.others.now
          (zip_whole (λ shard other. HoldTheSame cmp (held shard) (held other)) c.args.shards.now
          c.args.others.now c.loop-place.place (omega arith) (omega arith) c.loop-place.invariant)),
      λ all. refl,
    )
