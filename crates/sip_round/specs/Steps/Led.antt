-- What each of the three phases does to the shards and gives, whatever phases the shards went
-- through before.
use Rattle.std.specs.Prelude.{◌≡◌, ℕ, zero, List, [], ◌∷◌, ◌++◌, length}
use Rattle.std.specs.List.{flat_map}
use Rattle.keyed_machine.specs.Machine.{Timed, tick_at}
use Rattle.sip_message.specs.declared.id.Id.{Id}
use Rattle.sip_message.specs.declared.key.Key.{Key}
use Rattle.sip_message.specs.Key.{key_cmp}
use Rattle.keyed_machine.specs.Phase.{Phase}
use Rattle.keyed_machine.specs.Shards.{HoldFrom}
use Rattle.keyed_machine.specs.Table.{Held}
use Rattle.sip_transactions.specs.declared.input.Command.{Command}
use Rattle.sip_transactions.specs.declared.input.Input.{Input}
use Rattle.sip_transactions.specs.declared.life.Life.{Life}
use Rattle.sip_transactions.specs.Machine.{transaction_machine}
use Rattle.sip_user.specs.declared.item.Item.{Item}
use Rattle.sip_calls.specs.declared.call.Call.{Call}
use Rattle.sip_calls.specs.declared.calls.Calls.{Calls}
use Rattle.sip_calls.specs.Call.{call_machine, CallItem}
use Rattle.sip_calls.specs.CallShard.{call_cmp}
use Rattle.sip_round.specs.Arrivals.{Arrival}
use Rattle.sip_round.specs.declared.output.Output.{Output}
use Rattle.sip_round.specs.declared.output.PlacedOutput.{PlacedOutput}
use Rattle.sip_round.specs.declared.config.Config.{Config}
use Rattle.sip_round.specs.declared.round.Round.{Round}
use Rattle.sip_round.specs.AgentState.{ShardTables}
use Rattle.sip_round.specs.Answers.{Past, HoldCalls, HoldTransactions, calls_of, items_first, past_after, placed_answer, placed_first, placed_second, placed_third, said_by_calls, said_by_transactions}
use Rattle.sip_round.specs.Outputs.{command_of, all_said}
use Rattle.sip_round.specs.Phases.{first_phase, second_phase, third_phase}
use Rattle.sip_round.specs.Steps.Form.{in_form}

module _ (owner : Key → ℕ) (old new : List (Held Key Life)) where
  abbrev pub HoldLives : List (Held Key Life) → List (Phase Key (Timed Input)) → Type 0
  HoldLives tables past = HoldFrom key_cmp transaction_machine tick_at owner zero tables past

  pub record LedFirst (number now : ℕ) (arrivals : List (Id × Arrival))
      (outputs : List PlacedOutput) (items : List (Id × Item)) : Type 0 where
    pub count : length new ≡ length old
    pub stands : (past : List (Phase Key (Timed Input))) → HoldLives old past
        → HoldLives new (past ++ first_phase now arrivals ∷ [])
    pub sent : (past : List (Phase Key (Timed Input))) → HoldLives old past
        → outputs ≡ placed_first (said_by_transactions past (first_phase now arrivals)) arrivals
    pub raised : (past : List (Phase Key (Timed Input))) → HoldLives old past
        → items ≡ items_first number (said_by_transactions past (first_phase now arrivals)) arrivals

  pub record LedThird (now : ℕ) (commands : List (Id × Command))
      (outputs : List PlacedOutput) : Type 0 where
    pub count : length new ≡ length old
    pub stands : (past : List (Phase Key (Timed Input))) → HoldLives old past
        → HoldLives new (past ++ third_phase now commands ∷ [])
    pub sent : (past : List (Phase Key (Timed Input))) → HoldLives old past
        → outputs ≡ placed_third (said_by_transactions past (third_phase now commands))

module _ (shared : Calls) (owner : List ℕ → ℕ) (old new : List (Held (List ℕ) Call)) where
  abbrev pub HoldAll : List (Held (List ℕ) Call) → List (Phase (List ℕ) (Timed CallItem)) → Type 0
  HoldAll tables past = HoldFrom call_cmp (call_machine shared) tick_at owner zero tables past

  pub record LedSecond (now : ℕ) (items : List (Id × Item)) (outputs : List PlacedOutput)
      (commands : List (Id × Command)) : Type 0 where
    pub count : length new ≡ length old
    pub stands : (past : List (Phase (List ℕ) (Timed CallItem))) → HoldAll old past
        → HoldAll new (past ++ second_phase now items ∷ [])
    pub reported : (past : List (Phase (List ℕ) (Timed CallItem))) → HoldAll old past
        → outputs ≡ placed_second (said_by_calls shared past (second_phase now items)) items
    pub commanded : (past : List (Phase (List ℕ) (Timed CallItem))) → HoldAll old past
        → commands ≡ flat_map command_of
        (all_said (said_by_calls shared past (second_phase now items)))

-- a round with this number leads the shards and answers: whatever past they held, they now hold it
-- with the phases of this round, and the outputs are its answer, each with its place
pub record Deals (shared : Calls) (shard_of : List ℕ → ℕ → ℕ) (number : ℕ) (round : Round)
    (old new : ShardTables) (outputs : List PlacedOutput) : Type 0 where
  pub count : length new.transactions ≡ length old.transactions
  pub transactions : (config : Config) (past : Past) → shared ≡ calls_of config
      → HoldTransactions shard_of old past.transactions → HoldCalls shared shard_of old past.calls
      → HoldTransactions shard_of new (past_after config number past round).transactions
  pub calls : (config : Config) (past : Past) → shared ≡ calls_of config
      → HoldTransactions shard_of old past.transactions → HoldCalls shared shard_of old past.calls
      → HoldCalls shared shard_of new (past_after config number past round).calls
  pub answered : (config : Config) (past : Past) → shared ≡ calls_of config
      → HoldTransactions shard_of old past.transactions → HoldCalls shared shard_of old past.calls
      → outputs ≡ placed_answer config number past round

-- the same, with the outputs in a form
abbrev pub DealsInForm : {F : Type 0} → (ℕ → Output → F) → Calls → (List ℕ → ℕ → ℕ) → ℕ → Round
    → ShardTables → ShardTables → List F → Type 0
DealsInForm form shared shard_of number round old new given =
    (outputs : List PlacedOutput) × (given ≡ in_form form outputs)
    × Deals shared shard_of number round old new outputs
