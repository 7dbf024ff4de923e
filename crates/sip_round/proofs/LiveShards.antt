-- How much the shards of an agent hold if it stands for rounds.
use Rattle.std.proofs.Common.{◌≡◌, ◌<◌, ℕ, List, All, Some, sym, ◌∙◌, ap, subst, length, is_some}
use Rattle.std.specs.Prelude.{count_by, sum_by, unwrap_or}
use Rattle.std.proofs.lemmas.Map.Lookups.{exact_bytes}
use Rattle.std.proofs.lemmas.Cmp.{nat_list_cmp_total}
use Rattle.sip_calls.specs.Call.{call_due, call_machine}
use Rattle.sip_calls.specs.CallShard.{call_cmp}
use Rattle.sip_calls.specs.Idle as calls
use Rattle.sip_message.specs.Key.{branch_in, key_cmp, keys_total}
use Rattle.sip_message.specs.declared.key.Key.{Key}
use Rattle.keyed_machine.specs.Table.{Covers, state_at}
use Rattle.sip_transactions.specs.Idle as transactions
use Rattle.sip_message.specs.Keys.{exact_keys}
use Rattle.sip_transactions.specs.Machine.{life_due, transaction_machine}
use Rattle.sip_round.specs.declared.config.Config.{Config}
use Rattle.sip_round.specs.declared.round.Round.{Round}
use Rattle.sip_round.specs.AgentState.{AgentState, AreShards, ShardTables, calls_held, lives_held}
use Rattle.sip_round.specs.Answers.{HoldCalls, HoldTransactions, StandsFor, calls_of, past_of}
use Rattle.sip_round.specs.Live.{live_of}
use Rattle.sip_shards.specs.Parts.{owner_of}
use Rattle.sip_round.proofs.Living.{counted}
use Rattle.sip_round.proofs.HeldInShards.{some_calls, some_lives}
use Rattle.keyed_machine.specs.Machine.{tick_at}

pub live_shards : {C : Type 0} (shard_of : C → List ℕ → ℕ → ℕ)
    → ((name : List ℕ) (n : ℕ) (cut : C) → 0 < n → shard_of cut name n < n)
    → (agent : AgentState C) (shards : ShardTables) (config : Config) (rounds : List Round)
    (live : ℕ × ℕ) → agent.shards ≡ Some shards → AreShards shards
    → StandsFor shard_of agent config rounds
    → ((keys : List Key) → All (λ table. Covers key_cmp keys (state_at key_cmp table))
    (lives_held shards) → live.0 ≡ sum_by
    (λ table. count_by (λ key. is_some (state_at key_cmp table key)) keys) (lives_held shards))
    → ((keys : List (List ℕ)) → All
    (λ table. Covers call_cmp keys (state_at call_cmp table)) (calls_held shards)
    → live.1 ≡ sum_by (λ table. count_by (λ key. is_some (state_at call_cmp table key)) keys)
    (calls_held shards))
    → live ≡ live_of config (past_of config rounds)
live_shards shard_of within agent shards config rounds live sound are stands lives calls_live =
    let same : stands.shards ≡ shards =
    ap (λ held. unwrap_or held stands.shards) (sym stands.sound ∙ sound) in
    let mine = subst (λ s. HoldTransactions (shard_of agent.cut) s
    (past_of config rounds).transactions) same stands.transactions in
    let theirs = subst (λ c. HoldCalls c (shard_of agent.cut) shards (past_of config rounds).calls)
    stands.shared (subst (λ s. HoldCalls agent.calls (shard_of agent.cut) s
    (past_of config rounds).calls) same stands.calls) in
    let first = counted keys_total exact_keys transaction_machine life_due tick_at
    transactions.ticks_are_idle (owner_of (shard_of agent.cut) branch_in
    (length (lives_held shards))) (past_of config rounds).transactions (lives_held shards)
    live.0
    (λ key. within (branch_in key) (length (lives_held shards)) agent.cut
    (some_lives shards are)) mine lives in
    let second = counted nat_list_cmp_total exact_bytes
    (call_machine (calls_of config)) call_due tick_at
    (calls.call_ticks_are_idle (calls_of config))
    (owner_of (shard_of agent.cut) (λ call_id. call_id) (length (calls_held shards)))
    (past_of config rounds).calls (calls_held shards) live.1
    (λ key. within key (length (calls_held shards)) agent.cut (some_calls shards are)) theirs
    calls_live in
    λ i. (first i, second i)
