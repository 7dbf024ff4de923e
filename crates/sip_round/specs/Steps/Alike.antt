-- The calls of several shards share the same settings.
use Rattle.std.specs.Prelude.{◌≡◌, IfSome, Option}
use Rattle.std.specs.List.{AllByRecursion}
use Rattle.sip_calls.specs.declared.calls.Calls.{Calls}
use Rattle.sip_round.specs.AgentState.{ShardTables}

-- the calls of all shards, if there are any, share these settings
abbrev pub AreAlike : Calls → Option ShardTables → Type 0
AreAlike calls shards =
    IfSome shards (λ shards. AllByRecursion (λ shard. shard.calls ≡ calls) shards.calls)
