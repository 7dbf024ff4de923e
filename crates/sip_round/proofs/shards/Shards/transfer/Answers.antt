-- `Shards::transfer`: the other shards hold what these held.
use Rattle.std.proofs.Common.{◌≡◌, ℕ, ◌<◌, ◌∙◌, List, length, map, subst, sym}
use Rattle.std.specs.List.{AllByRecursion}
use Rattle.sip_message.specs.Key.{branch_in, key_cmp}
use Rattle.keyed_machine.specs.Machine.{tick_at}
use Rattle.keyed_machine.specs.Shards.{HoldFrom}
use Rattle.sip_calls.specs.Call.{call_machine}
use Rattle.sip_calls.specs.CallShard.{call_cmp}
use Rattle.sip_transactions.specs.Machine.{transaction_machine}
use Rattle.sip_round.specs.AgentState.{ShardTables, calls_held, lives_held}
use Rattle.sip_round.specs.Answers.{HoldCalls, HoldTransactions}
use Rattle.sip_shards.specs.Parts.{owner_of}
use Rattle.sip_shards.proofs.Cutting.{map_long}
use Rattle.sip_round.proofs.HeldInShards.{alike_others, some_calls, some_lives}
use Rattle.sip_round.proofs.shards.Shards.transfer.Goals as goal

pub returns-clause-alike : goal.returns-clause-alike
returns-clause-alike g c =
    let others = c.into_parts-other_transactions.ensures.shards in
    subst (λ (held : ShardTables). AllByRecursion (λ shard. shard.calls ≡ c.args.calls.now)
    held.calls) (sym c.of.ensures)
    (alike_others (λ shard. shard.calls) c.args.calls.now c.in_ok-calls.calls.items
    c.into_parts-other_transactions.result.1.items c.in_ok-calls.ensures.machines
    (subst (λ (held : ShardTables). AllByRecursion (λ shard. shard.calls ≡ c.args.calls.now)
    held.calls) (sym others) c.requires.alike))

pub returns-clause-transactions : goal.returns-clause-transactions
returns-clause-transactions g c = λ past holds.
    let shard_of = g.C.Cut.shard_of c.args.cut.now in
    let shards : ShardTables = record {
      transactions = c.into_parts-transactions.result.0.items;
      calls = c.into_parts-transactions.result.1.items;
    } in
    let are = c.into_parts-transactions.ensures.are in
    let some = some_lives shards are in
    let long = map_long (λ shard. shard.held) shards.transactions in
    let here : HoldTransactions shard_of shards past =
    subst (λ (held : ShardTables). HoldTransactions shard_of held past)
    (sym c.into_parts-transactions.ensures.shards) holds in
    let moved = c.in_ok-transactions.ensures.holds
    (owner_of shard_of branch_in (length (lives_held shards))) past
    (λ key. subst (λ n. owner_of shard_of branch_in (length (lives_held shards)) key < n) long
    (g.met.C.Cut.within c.args.cut.now (branch_in key) (length (lives_held shards)) some)) here in
    subst (λ (held : ShardTables). HoldTransactions shard_of held past) (sym c.of.ensures)
    (subst (λ n. HoldFrom key_cmp transaction_machine tick_at (owner_of shard_of branch_in n) 0
    (map (λ shard. shard.held) c.in_ok-transactions.transactions.items) past)
    (sym (map_long (λ shard. shard.held) c.in_ok-transactions.transactions.items
    ∙ c.in_ok-transactions.ensures.count)) moved)

pub returns-clause-calls : goal.returns-clause-calls
returns-clause-calls g c = λ past holds.
    let shard_of = g.C.Cut.shard_of c.args.cut.now in
    let machine = call_machine c.args.calls.now in
    let shards : ShardTables = record {
      transactions = c.into_parts-transactions.result.0.items;
      calls = c.into_parts-transactions.result.1.items;
    } in
    let are = c.into_parts-transactions.ensures.are in
    let some = some_calls shards are in
    let long = map_long (λ shard. shard.held) shards.calls in
    let here : HoldCalls c.args.calls.now shard_of shards past =
    subst (λ (held : ShardTables). HoldCalls c.args.calls.now shard_of held past)
    (sym c.into_parts-transactions.ensures.shards) holds in
    let moved = c.in_ok-calls.ensures.holds
    (owner_of shard_of (λ (call_id : List ℕ). call_id) (length (calls_held shards))) past
    (λ key. subst (λ n. owner_of shard_of (λ (call_id : List ℕ). call_id)
    (length (calls_held shards)) key < n) long
    (g.met.C.Cut.within c.args.cut.now key (length (calls_held shards)) some)) here in
    subst (λ (held : ShardTables). HoldCalls c.args.calls.now shard_of held past) (sym c.of.ensures)
    (subst (λ n. HoldFrom call_cmp machine tick_at
    (owner_of shard_of (λ (call_id : List ℕ). call_id) n) 0
    (map (λ shard. shard.held) c.in_ok-calls.calls.items) past)
    (sym (map_long (λ shard. shard.held) c.in_ok-calls.calls.items
    ∙ c.in_ok-calls.ensures.count)) moved)
