-- A round without events in which nothing is due changes nothing and gives nothing.
use Rattle.std.proofs.Common.{◌≡◌, ℕ, ◌<◌, true, false, List, [], length, refl, sym, subst}
use Rattle.std.specs.List.{AllByRecursion}
use Rattle.std.specs.List.Sorted.{IsStrictlySortedBy}
use Rattle.sip_message.specs.declared.key.Key.{Key}
use Rattle.sip_message.specs.Key.{key_cmp, branch_in}
use Rattle.keyed_machine.specs.Laws.{ToldInOrder}
use Rattle.keyed_machine.specs.Shards.{ShardsTellAll}
use Rattle.sip_transactions.specs.Machine.{transaction_machine}
use Rattle.sip_calls.specs.declared.calls.Calls.{Calls}
use Rattle.sip_calls.specs.Call.{call_machine}
use Rattle.sip_calls.specs.CallShard.{call_cmp}
use Rattle.sip_round.specs.declared.round.Event.{Event}
use Rattle.sip_round.specs.declared.round.Round.{Round}
use Rattle.sip_round.specs.AgentState.{ShardTables, calls_held, lives_held}
use Rattle.sip_round.specs.Arrivals.{arrivals_from}
use Rattle.sip_shards.specs.Parts.{owner_of}
use Rattle.sip_shards.specs.AllShards.{IsIdle}
use Rattle.sip_round.specs.Steps.Led.{Deals, LedFirst}
use Rattle.sip_shards.proofs.IdleShards.{cut_nothing, idle_shards}
use Rattle.sip_round.proofs.Leading.{deals, led_first, led_second, led_third}
use Rattle.keyed_machine.specs.Machine.{tick_at}

pub idle_round : (shared : Calls) (shard_of : List ℕ → ℕ → ℕ) (number : ℕ) (round : Round)
    (shards : ShardTables) → round.events ≡ []
    → ToldInOrder key_cmp transaction_machine tick_at
    → ShardsTellAll key_cmp transaction_machine tick_at
    → ShardsTellAll call_cmp (call_machine shared) tick_at
    → ((key : Key) → owner_of shard_of branch_in (length (lives_held shards)) key
    < length (lives_held shards))
    → ((call_id : List ℕ)
    → owner_of shard_of (λ call_id. call_id) (length (calls_held shards)) call_id
    < length (calls_held shards))
    → AllByRecursion (IsIdle key_cmp transaction_machine tick_at round.moment true)
    (lives_held shards)
    → AllByRecursion (IsIdle key_cmp transaction_machine tick_at round.moment false)
    (lives_held shards)
    → AllByRecursion (IsIdle call_cmp (call_machine shared) tick_at round.moment true)
    (calls_held shards)
    → Deals shared shard_of number round shards shards []
unfolding IsStrictlySortedBy
idle_round shared shard_of number round shards no_events in_order lives_law calls_law
    lives_within calls_within first_idle third_idle second_idle =
    let lives = lives_held shards in
    let calls = calls_held shards in
    let of_lives = owner_of shard_of branch_in (length lives) in
    let of_calls = owner_of shard_of (λ call_id. call_id) (length calls) in
    let first : LedFirst of_lives lives lives number round.moment [] [] [] =
    led_first of_lives lives lives number round.moment [] tt in_order [] []
    (idle_shards key_cmp transaction_machine tick_at of_lives round.moment true lives_law []
    lives lives_within tt first_idle (cut_nothing of_lives 0 lives)) [] [] refl refl in
    let second = led_second shared of_calls calls calls round.moment [] [] [] [] [] []
    (idle_shards call_cmp (call_machine shared) tick_at of_calls round.moment true
    calls_law [] calls calls_within tt second_idle (cut_nothing of_calls 0 calls)) refl refl
    refl in
    let third = led_third of_lives lives lives round.moment [] [] []
    (idle_shards key_cmp transaction_machine tick_at of_lives round.moment false lives_law []
    lives lives_within tt third_idle (cut_nothing of_lives 0 lives)) in
    deals shard_of number round shards shards lives [] [] [] [] [] third shared
    (subst (λ (events : List Event). LedFirst of_lives lives lives number round.moment
    (arrivals_from shared.local number 1 events) [] []) (sym no_events) first) second
