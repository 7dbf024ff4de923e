-- The loop of `live_in`: the number of keys in the shards so far.
use Rattle.std.proofs.Common.{◌≡◌, ◌≤◌, ◌*◌, ◌^◌, List, take, All, is_some}
use Rattle.std.specs.Prelude.{count_by, sum_by}
use Rattle.keyed_machine.specs.Table.{Covers, state_at}
use Rattle.sip_round.proofs.shards.live_in.Given as goal

abbrev pub invariant-loop-shard : goal.invariant-loop-shard
invariant-loop-shard g l =
    let cmp = g.S.Machine.Key.Ord.cmp in
    let held = g.S.KeyShard.held in
    ((keys : List g.row.S-Machine-Key.Denot)
    → All (λ shard. Covers cmp keys (state_at cmp (held shard))) l.shards
    → l.live ≡ sum_by (λ shard. count_by (λ key. is_some (state_at cmp (held shard) key)) keys)
    (take l.shard-index l.shards))
    × (l.live ≤ l.shard-index * 2 ^ 64)
