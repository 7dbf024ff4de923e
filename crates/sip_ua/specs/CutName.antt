-- The shard of a name, by the cut that an option names.
use Rattle.std.specs.Prelude.{ℕ, ◌<◌, List}
use Rattle.sip_message.specs.Cut.{spread_shard, spread_within}
use Rattle.sip_ua.specs.declared.cut_name.CutName.{CutName}
use Rattle.sip_ua.specs.declared.cut_name.CutName.TheVariants.{Spread, First}

abbrev pub shard_by : CutName → List ℕ → ℕ → ℕ
shard_by Spread name shards = spread_shard name shards
shard_by First name shards = 0

pub within_by : (cut : CutName) (name : List ℕ) (shards : ℕ) → 0 < shards
    → shard_by cut name shards < shards
within_by Spread name shards some = spread_within name shards some
within_by First name shards some = some
