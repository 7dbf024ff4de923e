-- An agent before its first round stands for no rounds.
use Rattle.std.proofs.Common.{◌≡◌, ℕ, zero, suc, ◌+◌, List, [], ◌∷◌, length, map, refl, sym, subst, arith, All}
use Rattle.std.specs.Prelude.{None, Some, IsSome}
use Rattle.std.specs.declared.cmp.Ordering.{Ordering}
use Rattle.std.proofs.lemmas.List.Elements.{All-head, All-tail}
use Rattle.sip_message.specs.Key.{branch_in, key_cmp}
use Rattle.keyed_machine.specs.Machine.{Machine, tick_at}
use Rattle.keyed_machine.specs.Table.{Held, state_at}
use Rattle.keyed_machine.specs.Shards.{HoldFrom}
use Rattle.sip_calls.specs.Call.{call_machine}
use Rattle.sip_calls.specs.CallShard.{call_cmp}
use Rattle.sip_transactions.specs.Machine.{transaction_machine}
use Rattle.sip_round.specs.declared.config.Config.{Config}
use Rattle.sip_round.specs.AgentState.{ShardTables, calls_held, lives_held}
use Rattle.sip_round.specs.Answers.{StandsFor, calls_of, last_moment, past_of}
use Rattle.sip_shards.specs.Parts.{owner_of}

module _ {K S I O : Type 0} (cmp : K → K → Ordering) (machine : Machine K S I O) (tick : ℕ → I)
    (owner : K → ℕ) where
  hold_nothing : {X : Type 0} (held : X → Held K S) (number : ℕ) (shards : List X)
      → All (λ shard. held shard ≡ Some []) shards
      → HoldFrom cmp machine tick owner number (map held shards) []
  hold_nothing held number [] empty = tt
  hold_nothing held number (s ∷ ss) empty = (
    record {
      sound = subst IsSome (sym (All-head (λ shard. held shard ≡ Some []) s ss empty)) refl;
      states = λ key. subst (λ table. state_at cmp table key ≡ None)
          (sym (All-head (λ shard. held shard ≡ Some []) s ss empty)) refl;
    },
    hold_nothing held (suc number) ss (All-tail (λ shard. held shard ≡ Some []) s ss empty),
  )

at_first : (number : ℕ) → number ≡ number + 0
at_first number = omega arith

pub begins : {C : Type 0} (shard_of : C → List ℕ → ℕ → ℕ) (cut : C) (config : Config)
    (made : ShardTables) → All (λ shard. shard.held ≡ Some []) made.transactions
    → All (λ shard. shard.held ≡ Some []) made.calls
    → StandsFor shard_of (record {
      calls = calls_of config;
      cut = cut;
      next_round = config.first;
      last_moment = 0;
      shards = Some made;
    }) config []
unfolding past_of last_moment
begins shard_of cut config made no_lives no_calls = record {
  shards = made;
  sound = refl;
  shared = refl;
  number = at_first config.first;
  moment = refl;
  transactions = hold_nothing key_cmp transaction_machine tick_at
      (owner_of (shard_of cut) branch_in (length (lives_held made))) (λ shard. shard.held) zero
      made.transactions no_lives;
  calls = hold_nothing call_cmp (call_machine (calls_of config)) tick_at
      (owner_of (shard_of cut) (λ call_id. call_id) (length (calls_held made)))
      (λ shard. shard.held) zero made.calls no_calls;
}
