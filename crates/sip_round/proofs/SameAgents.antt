-- Agents that hold the same stand for the same rounds.
use Rattle.std.proofs.Common.{◌≡◌, ℕ, zero, List, length, sym, ◌∙◌, ap, subst}
use Rattle.std.specs.Prelude.{Some}
use Rattle.std.specs.Option.{option_map_or}
use Rattle.std.proofs.lemmas.List.Elements.{length_all_zip}
use Rattle.std.proofs.lemmas.Option.{same_Some}
use Rattle.keyed_machine.specs.Laws.{ShardsHoldApart}
use Rattle.keyed_machine.specs.Machine.{tick_at}
use Rattle.keyed_machine.specs.Phase.{states_after}
use Rattle.keyed_machine.specs.SameTables as tables
use Rattle.keyed_machine.specs.Shards.{HoldFrom}
use Rattle.sip_calls.specs.Call.{call_machine}
use Rattle.sip_calls.specs.CallShard.{call_cmp}
use Rattle.sip_message.specs.Key.{branch_in, key_cmp}
use Rattle.sip_shards.proofs.Cutting.{map_long}
use Rattle.sip_shards.proofs.SameShards.{held_same, same_held}
use Rattle.sip_shards.specs.Parts.{owner_of}
use Rattle.sip_transactions.specs.Machine.{transaction_machine}
use Rattle.sip_round.specs.declared.config.Config.{Config}
use Rattle.sip_round.specs.declared.round.Round.{Round}
use Rattle.sip_round.specs.AgentState.{AgentState, AreShards, ShardTables, calls_held, lives_held, shard_count}
use Rattle.sip_round.specs.Answers.{HoldCalls, HoldTransactions, StandsFor, calls_of, past_of}
use Rattle.sip_round.specs.SameRounds.{LeaveTheSame, ShardsHoldTheSame}

-- two agents with these shards hold the same
pub record AreSame {C : Type 0} (one other : AgentState C) (shards others : ShardTables)
    : Type 0 where
  pub shared : one.calls ≡ other.calls
  pub number : one.next_round ≡ other.next_round
  pub moment : one.last_moment ≡ other.last_moment
  pub held : ShardsHoldTheSame shards others

-- how many shards an agent with these has
counted : {C : Type 0} (agent : AgentState C) (shards : ShardTables)
    → agent.shards ≡ Some shards → shard_count agent ≡ length shards.transactions
counted agent shards sound =
    ap (λ held. option_map_or (λ tables. length tables.transactions) held 0) sound

module _ {C : Type 0} (shard_of : C → List ℕ → ℕ → ℕ) (one other : AgentState C)
    (shards others : ShardTables) (sound : one.shards ≡ Some shards)
    (other_sound : other.shards ≡ Some others) (cut : one.cut ≡ other.cut) where
  -- an agent that holds the same stands for the same rounds
  pub stands_too : AreSame one other shards others → (config : Config) (rounds : List Round)
      → StandsFor shard_of one config rounds → StandsFor shard_of other config rounds
  stands_too same config rounds stands =
      let past = past_of config rounds in
      let is : stands.shards ≡ shards =
      same_Some stands.shards shards (sym stands.sound ∙ sound) in
      let lives : HoldTransactions (shard_of other.cut) shards past.transactions =
      subst (λ c. HoldTransactions (shard_of c) shards past.transactions) cut
      (subst (λ s. HoldTransactions (shard_of one.cut) s past.transactions) is
      stands.transactions) in
      let calls : HoldCalls other.calls (shard_of other.cut) shards past.calls =
      subst (λ shared. HoldCalls shared (shard_of other.cut) shards past.calls) same.shared
      (subst (λ c. HoldCalls one.calls (shard_of c) shards past.calls) cut
      (subst (λ s. HoldCalls one.calls (shard_of one.cut) s past.calls) is stands.calls)) in
      record {
        shards = others;
        sound = other_sound;
        shared = sym same.shared ∙ stands.shared;
        number = sym same.number ∙ stands.number;
        moment = sym same.moment ∙ stands.moment;
        transactions = held_same key_cmp transaction_machine tick_at
            (owner_of (shard_of other.cut) branch_in (length (lives_held others))) zero
            (lives_held shards) (lives_held others) past.transactions
            same.held.transactions
            (subst (λ n. HoldFrom key_cmp transaction_machine tick_at
            (owner_of (shard_of other.cut) branch_in n) zero (lives_held shards)
            past.transactions) (length_all_zip (tables.HoldTheSame key_cmp)
            (lives_held shards) (lives_held others) same.held.transactions) lives);
        calls = held_same call_cmp (call_machine other.calls) tick_at
            (owner_of (shard_of other.cut) (λ call_id. call_id)
            (length (calls_held others))) zero
            (calls_held shards) (calls_held others) past.calls same.held.calls
            (subst (λ n. HoldFrom call_cmp (call_machine other.calls) tick_at
            (owner_of (shard_of other.cut) (λ call_id. call_id) n) zero (calls_held shards)
            past.calls) (length_all_zip (tables.HoldTheSame call_cmp)
            (calls_held shards) (calls_held others) same.held.calls) calls);
      }

  -- as many shards of either kind
  module _ (are : AreShards shards) (other_are : AreShards others)
      (count : shard_count one ≡ shard_count other) where
    long : length shards.transactions ≡ length others.transactions
    long = sym (counted one shards sound) ∙ count ∙ counted other others other_sound

    lives_long : length (lives_held shards) ≡ length (lives_held others)
    lives_long =
        map_long (λ shard. shard.held) shards.transactions ∙ long
        ∙ sym (map_long (λ shard. shard.held) others.transactions)

    calls_long : length (calls_held shards) ≡ length (calls_held others)
    calls_long =
        map_long (λ shard. shard.held) shards.calls ∙ are.2 ∙ long ∙ sym other_are.2
        ∙ sym (map_long (λ shard. shard.held) others.calls)

    -- agents that stand for rounds which leave the same hold the same
    pub hold_too : ShardsHoldApart key_cmp transaction_machine tick_at
        → ShardsHoldApart call_cmp (call_machine other.calls) tick_at
        → (config other_config : Config) (rounds other_rounds : List Round)
        → StandsFor shard_of one config rounds → StandsFor shard_of other other_config other_rounds
        → LeaveTheSame config other_config rounds other_rounds → AreSame one other shards others
    hold_too lives_apart calls_apart config other_config rounds other_rounds stands other_stands
        leave =
        let past = past_of config rounds in
        let other_past = past_of other_config other_rounds in
        let shared : one.calls ≡ other.calls =
        stands.shared ∙ leave.shared ∙ sym other_stands.shared in
        let is : stands.shards ≡ shards =
        same_Some stands.shards shards (sym stands.sound ∙ sound) in
        let other_is : other_stands.shards ≡ others =
        same_Some other_stands.shards others (sym other_stands.sound ∙ other_sound) in
        let lives : HoldTransactions (shard_of other.cut) shards past.transactions =
        subst (λ c. HoldTransactions (shard_of c) shards past.transactions) cut
        (subst (λ s. HoldTransactions (shard_of one.cut) s past.transactions) is
        stands.transactions) in
        let other_lives : HoldTransactions (shard_of other.cut) others other_past.transactions =
        subst (λ s. HoldTransactions (shard_of other.cut) s other_past.transactions) other_is
        other_stands.transactions in
        let calls : HoldCalls other.calls (shard_of other.cut) shards past.calls =
        subst (λ c. HoldCalls c (shard_of other.cut) shards past.calls) shared
        (subst (λ c. HoldCalls one.calls (shard_of c) shards past.calls) cut
        (subst (λ s. HoldCalls one.calls (shard_of one.cut) s past.calls) is stands.calls)) in
        let other_calls : HoldCalls other.calls (shard_of other.cut) others other_past.calls =
        subst (λ s. HoldCalls other.calls (shard_of other.cut) s other_past.calls) other_is
        other_stands.calls in
        record {
          shared = shared;
          number = stands.number ∙ leave.number ∙ sym other_stands.number;
          moment = stands.moment ∙ leave.moment ∙ sym other_stands.moment;
          held = record {
            transactions = same_held key_cmp transaction_machine tick_at
                (owner_of (shard_of other.cut) branch_in (length (lives_held others))) lives_apart
                zero (lives_held shards) (lives_held others) past.transactions
                other_past.transactions leave.transactions lives_long
                (subst (λ n. HoldFrom key_cmp transaction_machine tick_at
                (owner_of (shard_of other.cut) branch_in n) zero (lives_held shards)
                past.transactions) lives_long lives) other_lives;
            calls = same_held call_cmp (call_machine other.calls) tick_at
                (owner_of (shard_of other.cut) (λ call_id. call_id)
                (length (calls_held others))) calls_apart zero (calls_held shards)
                (calls_held others) past.calls other_past.calls
                (λ call_id. subst (λ c. states_after call_cmp (call_machine c) tick_at
                past.calls call_id ≡ states_after call_cmp (call_machine c) tick_at
                other_past.calls call_id) (sym other_stands.shared)
                (subst (λ c. states_after call_cmp (call_machine c) tick_at past.calls call_id
                ≡ states_after call_cmp (call_machine (calls_of other_config)) tick_at
                other_past.calls call_id) leave.shared (leave.calls call_id))) calls_long
                (subst (λ n. HoldFrom call_cmp (call_machine other.calls) tick_at
                (owner_of (shard_of other.cut) (λ call_id. call_id) n) zero (calls_held shards)
                past.calls) calls_long calls) other_calls;
          };
        }
