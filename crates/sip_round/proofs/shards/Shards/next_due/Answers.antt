-- `Shards::next_due` gives the first moment at which a key in any shard is due.
use Rattle.std.proofs.Common.{ap, ◌∙◌, map, sym, subst}
use Rattle.std.specs.Prelude.{IsSome}
use Rattle.std.specs.List.{AllByRecursion}
use Rattle.sip_calls.specs.Call.{call_machine}
use Rattle.sip_calls.specs.CallShard.{call_cmp}
use Rattle.sip_message.specs.Key.{key_cmp}
use Rattle.keyed_machine.specs.Machine.{tick_at}
use Rattle.sip_timers.specs.Queue.{is_due}
use Rattle.sip_transactions.specs.Machine.{transaction_machine}
use Rattle.sip_shards.proofs.FirstDue.{neither_due}
use Rattle.sip_shards.specs.AllShards.{IsIdle}
use Rattle.sip_round.proofs.HeldInShards.{of_held, of_shards}
use Rattle.sip_round.proofs.shards.Shards.next_due.Goals as goal

pub returns-clause-transactions : goal.returns-clause-transactions
returns-clause-transactions c = λ sound now ticks before.
    let same = c.deref.ensures.value ∙ ap (λ s. s.transactions) c.self.view_is in
    let idle = IsIdle key_cmp transaction_machine tick_at now ticks in
    subst (λ shards. AllByRecursion idle (map (λ shard. shard.held) shards)) same
    (of_held idle (λ shard. shard.held) _
    (c.next_due_in.ensures.before
    (of_shards (λ held. IsSome held) (λ shard. shard.held) _
    (subst (λ shards. AllByRecursion (λ held. IsSome held) (map (λ shard. shard.held) shards))
    (sym same) sound)) now ticks
    (λ with_tick. (neither_due now c.next_due_in.result c.next_due_in-2.result
    (ap (is_due now) (sym c.earlier.ensures) ∙ before with_tick)).0)))

pub returns-clause-calls : goal.returns-clause-calls
returns-clause-calls c = λ sound now ticks before.
    let same = c.deref-2.ensures.value ∙ ap (λ s. s.calls) c.self.view_is in
    subst (AllByRecursion (λ shard.
    IsIdle call_cmp (call_machine shard.calls) tick_at now ticks shard.held)) same
    (c.next_due_in-2.ensures.before
    (of_shards (λ held. IsSome held) (λ shard. shard.held) _
    (subst (λ shards. AllByRecursion (λ held. IsSome held) (map (λ shard. shard.held) shards))
    (sym same) sound)) now ticks
    (λ with_tick. (neither_due now c.next_due_in.result c.next_due_in-2.result
    (ap (is_due now) (sym c.earlier.ensures) ∙ before with_tick)).1))
