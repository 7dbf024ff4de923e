-- `Shards::live` counts the keys that all shards hold.
use Rattle.std.proofs.Common.{ℕ, List, All, is_some, ap, ◌∙◌, map, sym, subst}
use Rattle.std.specs.Prelude.{count_by, sum_by}
use Rattle.sip_calls.specs.CallShard.{HeldCalls, call_cmp}
use Rattle.sip_calls.specs.declared.call.Call.{Call}
use Rattle.sip_message.specs.Key.{key_cmp}
use Rattle.sip_message.specs.declared.key.Key.{Key}
use Rattle.sip_transactions.specs.Shard.{Lives}
use Rattle.sip_transactions.specs.declared.life.Life.{Life}
use Rattle.keyed_machine.specs.Table.{Covers, Held, state_at}
use Rattle.sip_round.proofs.HeldInShards.{all_of_shards, sum_of_held}
use Rattle.sip_round.proofs.shards.Shards.live.Goals as goal

pub returns-clause-transactions : goal.returns-clause-transactions
returns-clause-transactions c = λ keys covers.
    let same = c.as_slice.ensures.value ∙ ap (λ s. s.transactions) c.self.view_is in
    let each = all_of_shards (λ held. Covers key_cmp keys (state_at key_cmp held))
    (λ shard. shard.held) c.as_slice.result.now
    (subst (λ shards. All (λ held. Covers key_cmp keys (state_at key_cmp held))
    (map (λ shard. shard.held) shards)) (sym same) covers) in
    let live : Held Key Life → ℕ =
    λ held. count_by (λ key. is_some (state_at key_cmp held key)) keys in
    c.live_in.ensures keys each
    ∙ sum_of_held {X = Lives} live (λ shard. shard.held) c.as_slice.result.now
    ∙ ap (λ shards. sum_by live (map (λ shard. shard.held) shards)) same

pub returns-clause-calls : goal.returns-clause-calls
returns-clause-calls c = λ keys covers.
    let same = c.as_slice-2.ensures.value ∙ ap (λ s. s.calls) c.self.view_is in
    let each = all_of_shards (λ held. Covers call_cmp keys (state_at call_cmp held))
    (λ shard. shard.held) c.as_slice-2.result.now
    (subst (λ shards. All (λ held. Covers call_cmp keys (state_at call_cmp held))
    (map (λ shard. shard.held) shards)) (sym same) covers) in
    let live : Held (List ℕ) Call → ℕ =
    λ held. count_by (λ key. is_some (state_at call_cmp held key)) keys in
    c.live_in-2.ensures keys each
    ∙ sum_of_held {X = HeldCalls} live (λ shard. shard.held) c.as_slice-2.result.now
    ∙ ap (λ shards. sum_by live (map (λ shard. shard.held) shards)) same
