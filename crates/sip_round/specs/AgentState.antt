-- What an agent shows between its rounds, and when it refuses a round before anything is done.
use Rattle.std.specs.Prelude.{◌≡◌, ◌⊎◌, ℕ, ◌<◌, ◌≤◌, ◌^◌, nat_lt, true, false, List, Option, None, Some, IfSome, Result, Err, OnErr, OnOk, length, map, is_some, if◌then◌else◌}
use Rattle.std.specs.Option.{option_map_or}
use Rattle.sip_calls.specs.CallShard.{HeldCalls}
use Rattle.sip_calls.specs.declared.call.Call.{Call}
use Rattle.sip_calls.specs.declared.calls.Calls.{Calls}
use Rattle.sip_message.specs.declared.key.Key.{Key}
use Rattle.keyed_machine.specs.Table.{Held}
use Rattle.sip_transactions.specs.Shard.{Lives}
use Rattle.sip_transactions.specs.declared.life.Life.{Life}
use Rattle.sip_round.specs.declared.round_fault.RoundFault.{RoundFault}
use Rattle.sip_round.specs.declared.round_fault.RoundFault.TheVariants.{Broken, MomentBackwards, MomentTooLarge, NoMemory, TooManyEvents, RoundsUsedUp}
use Rattle.sip_round.specs.declared.round.Round.{Round}

-- the shards of the transactions and those of the calls, in order
pub record ShardTables : Type 0 where
  pub transactions : List Lives
  pub calls : List HeldCalls

-- there is at least one shard and at most 256, and as many of one kind as of the other
abbrev pub AreShards : ShardTables → Type 0
AreShards shards = (0 < length shards.transactions) × (length shards.transactions ≤ 256)
    × (length shards.calls ≡ length shards.transactions)

-- what the shards of the transactions hold, and what those of the calls hold
abbrev pub lives_held : ShardTables → List (Held Key Life)
lives_held shards = map (λ shard. shard.held) shards.transactions

abbrev pub calls_held : ShardTables → List (Held (List ℕ) Call)
calls_held shards = map (λ shard. shard.held) shards.calls

-- what the calls share, how names are cut, the number of the next round, the moment of the last
-- one, and the shards; a broken agent has none
pub record AgentState (C : Type 0) : Type 0 where
  pub calls : Calls
  pub cut : C
  pub next_round : ℕ
  pub last_moment : ℕ
  pub shards : Option ShardTables

-- how many shards an agent has; a broken one has none
abbrev pub shard_count : {C : Type 0} → AgentState C → ℕ
shard_count agent = option_map_or (λ shards. length shards.transactions) agent.shards 0

-- why a round with this number, after one at the moment `last`, is refused: the first fault that
-- fits; moments and numbers of rounds are at most 2^62
abbrev pub round_fault : ℕ → ℕ → Round → Option RoundFault
round_fault last number round =
    if nat_lt round.moment last then Some MomentBackwards
    else if nat_lt (2 ^ 62) round.moment then Some MomentTooLarge
    else if nat_lt 65536 (length round.events) then Some TooManyEvents
    else if nat_lt (2 ^ 62) number then Some RoundsUsedUp
    else None

-- the first refusal that fits
abbrev pub refusal_of : {C : Type 0} → AgentState C → Round → Option RoundFault
refusal_of agent round = if is_some agent.shards
    then round_fault agent.last_moment agent.next_round round else Some Broken

-- how a call that runs a round ends: a round that is refused leaves the agent as it was; otherwise
-- the only fault is that memory ran out, which leaves it as it was, or broken
pub record EndsRound {C O : Type 0} (old new : AgentState C) (round : Round)
    (answer : Result O RoundFault) : Type 0 where
  pub refused : IfSome (refusal_of old round) (λ fault. (answer ≡ Err fault) × (new ≡ old))
  pub memory : refusal_of old round ≡ None
      → OnErr answer ((answer ≡ Err (NoMemory false)) ⊎ (answer ≡ Err (NoMemory true)))
  pub unbroken : answer ≡ Err (NoMemory false) → new ≡ old
  pub broken : answer ≡ Err (NoMemory true) → new.shards ≡ None
  pub count : OnOk answer (shard_count new ≡ shard_count old)
