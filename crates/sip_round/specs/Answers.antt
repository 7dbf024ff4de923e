-- The answers of rounds: the tables folded over the own inputs of each transaction and each call,
-- in stamp order.
use Rattle.std.specs.Prelude.{suc, ◌≡◌, ◌⊎◌, ◌<◌, ℕ, ◌+◌, zero, Bool, true, List, [], ◌∷◌, ◌++◌, length, map, take, Option, Some, None}
use Rattle.std.specs.List.{flat_map}
use Rattle.keyed_machine.specs.Machine.{Timed, tick_at}
use Rattle.sip_message.specs.declared.id.Id.{Id}
use Rattle.sip_message.specs.declared.key.Key.{Key}
use Rattle.sip_message.specs.Key.{key_cmp, branch_in}
use Rattle.keyed_machine.specs.Phase.{Phase, PhaseOutputs}
use Rattle.keyed_machine.specs.Rules.{said_in}
use Rattle.keyed_machine.specs.Shards.{HoldFrom}
use Rattle.sip_transactions.specs.declared.input.Input.{Input}
use Rattle.sip_transactions.specs.declared.output.Out.{Out}
use Rattle.sip_transactions.specs.Machine.{transaction_machine}
use Rattle.sip_user.specs.declared.item.Item.{Item}
use Rattle.sip_user.specs.declared.item.CallOut.{CallOut}
use Rattle.sip_calls.specs.declared.calls.Calls.{Calls}
use Rattle.sip_calls.specs.Call.{call_machine, CallItem}
use Rattle.sip_calls.specs.CallShard.{call_cmp}
use Rattle.sip_round.specs.declared.config.Config.{Config}
use Rattle.sip_round.specs.declared.output.Output.{Output}
use Rattle.sip_round.specs.declared.output.PlacedOutput.{PlacedOutput}
use Rattle.sip_round.specs.declared.round.Round.{Round}
use Rattle.sip_round.specs.declared.round_fault.RoundFault.{RoundFault}
use Rattle.sip_round.specs.AgentState.{AgentState, ShardTables, calls_held, lives_held, round_fault}
use Rattle.sip_round.specs.Arrivals.{Arrival, arrivals_from}
use Rattle.sip_round.specs.Outputs.{sent_at, raised_of, call_outputs_at, command_of, joined, all_said, said_at, outs_of, place_of, user_items}
use Rattle.sip_shards.specs.Parts.{owner_of}
use Rattle.sip_round.specs.Phases.{first_phase, second_phase, third_phase}

-- the settings that all calls of an agent share
abbrev pub calls_of : Config → Calls
calls_of config = record { local = config.local; seed = config.seed }

-- all phases of the transactions and of the calls, oldest first
pub record Past : Type 0 where
  pub transactions : List (Phase Key (Timed Input))
  pub calls : List (Phase (List ℕ) (Timed CallItem))

-- ---- one phase, after others

-- what all transactions say to a phase, after the phases before it
abbrev pub said_by_transactions : List (Phase Key (Timed Input)) → Phase Key (Timed Input)
    → PhaseOutputs Key Out
said_by_transactions = said_in key_cmp transaction_machine tick_at

-- what all calls say to a phase
abbrev pub said_by_calls : Calls → List (Phase (List ℕ) (Timed CallItem))
    → Phase (List ℕ) (Timed CallItem) → PhaseOutputs (List ℕ) CallOut
said_by_calls calls = said_in call_cmp (call_machine calls) tick_at

-- what the first phase sends and drops: first at the ticks, with place 0, then by place
abbrev pub placed_first : PhaseOutputs Key Out → List (Id × Arrival) → List PlacedOutput
placed_first told arrivals = flat_map (sent_at 0) (joined told.ticks)
    ++ flat_map (λ a. flat_map (sent_at (a.0).place) (outs_of (said_at told) a.0 a.1)) arrivals

-- the items of the calls: first what comes up at the ticks, with place 0, then what comes up and
-- the user's commands, by place
abbrev pub items_first : ℕ → PhaseOutputs Key Out → List (Id × Arrival) → List (Id × Item)
items_first number told arrivals =
    flat_map (raised_of (record { round = number; place = 0 })) (joined told.ticks)
    ++ flat_map (λ a. flat_map (raised_of a.0) (outs_of (said_at told) a.0 a.1)
    ++ user_items a.0 a.1) arrivals

-- what the calls show in the second phase: first at the ticks, with place 0, then for each of their
-- items, with the place of its event
abbrev pub placed_second : PhaseOutputs (List ℕ) CallOut → List (Id × Item) → List PlacedOutput
placed_second told items = flat_map (call_outputs_at 0) (joined told.ticks)
    ++ flat_map (λ said. flat_map (call_outputs_at (place_of items (said.0).0)) said.1) told.items

-- what the third phase sends for the commands of the calls, with place 0
abbrev pub placed_third : PhaseOutputs Key Out → List PlacedOutput
placed_third told = flat_map (sent_at 0) (all_said told)

-- ---- one round with this number, after a past

module _ (config : Config) (number : ℕ) (past : Past) (round : Round) where
  -- what each event is, by its id
  abbrev pub arrivals : List (Id × Arrival)
  arrivals = arrivals_from config.local number 1 round.events

  -- the first phase: a tick, and then what arrived
  unfoldable pub first : Phase Key (Timed Input)
  first = first_phase round.moment arrivals

  -- what comes up in it, and the user's commands
  unfoldable pub items_of_round : List (Id × Item)
  items_of_round = items_first number (said_by_transactions past.transactions first) arrivals

  -- the second phase: a tick, and then those items
  unfoldable pub second : Phase (List ℕ) (Timed CallItem)
  second = second_phase round.moment items_of_round

  -- what the calls say
  unfoldable pub given_second : List CallOut
  given_second = all_said (said_by_calls (calls_of config) past.calls second)

  -- the commands for transactions, in the order in which calls give them
  unfoldable pub third : Phase Key (Timed Input)
  third = third_phase round.moment (flat_map command_of given_second)

  -- all phases so far; the transactions had two in this round
  unfoldable pub past_after : Past
  past_after = record {
    transactions = (past.transactions ++ first ∷ []) ++ third ∷ [];
    calls = past.calls ++ second ∷ [];
  }

  -- the sends and drops of the first phase, the notices and direct sends of the second, and the
  -- sends of the third, each with the place of the event that it belongs to
  unfoldable pub placed_answer : List PlacedOutput
  placed_answer =
      (placed_first (said_by_transactions past.transactions first) arrivals
      ++ placed_second (said_by_calls (calls_of config) past.calls second) items_of_round)
      ++ placed_third (said_by_transactions (past.transactions ++ first ∷ []) third)

  -- the outputs by themselves
  unfoldable pub answer : List Output
  answer = map (λ placed. placed.output) placed_answer

-- ---- whole lists of rounds

-- no phases
abbrev pub no_past : Past
no_past = record { transactions = []; calls = [] }

-- the past after these rounds, numbered upwards from this number, and their answers
abbrev pub past_from : Config → ℕ → Past → List Round → Past
past_from config number past [] = past
past_from config number past (round ∷ rounds) =
    past_from config (suc number) (past_after config number past round) rounds

-- what each round gives, numbered upwards from this number, if one round after a past gives that
abbrev pub each_from : {X : Type 0} → (Config → ℕ → Past → Round → X) → Config → ℕ → Past
    → List Round → List X
each_from gives config number past [] = []
each_from gives config number past (round ∷ rounds) =
    gives config number past round
    ∷ each_from gives config (suc number) (past_after config number past round) rounds

-- the outputs of the rounds, numbered upwards from this number
abbrev pub answers_from : Config → ℕ → Past → List Round → List (List Output)
answers_from = each_from answer

abbrev pub last_moment_from : ℕ → List Round → ℕ
last_moment_from moment [] = moment
last_moment_from moment (round ∷ rounds) = last_moment_from round.moment rounds

-- the phases of all rounds
unfoldable pub past_of : Config → List Round → Past
past_of config rounds = past_from config config.first no_past rounds

-- the outputs of each round, from the first
unfoldable pub answers : Config → List Round → List (List Output)
answers config rounds = each_from answer config config.first no_past rounds

-- the same, each output with the place of its event, which is 0 at the ticks and for what the
-- calls' commands send
unfoldable pub placed_answers : Config → List Round → List (List PlacedOutput)
placed_answers config rounds = each_from placed_answer config config.first no_past rounds

unfoldable pub last_moment : List Round → ℕ
last_moment rounds = last_moment_from 0 rounds

-- the first refusal
abbrev pub refused_or : Option RoundFault → ℕ → Option (ℕ × RoundFault) → Option (ℕ × RoundFault)
refused_or (Some fault) index later = Some (index, fault)
refused_or None index later = later

-- the first round that is refused, by its index, with its fault
abbrev pub refused_from : ℕ → ℕ → ℕ → List Round → Option (ℕ × RoundFault)
refused_from number moment index [] = None
refused_from number moment index (round ∷ rounds) =
    refused_or (round_fault moment number round) index
    (refused_from (suc number) round.moment (suc index) rounds)

-- the round that is refused first, and why
unfoldable pub refused : Config → List Round → Option (ℕ × RoundFault)
refused config rounds = refused_from config.first 0 0 rounds

-- a run may end at this index because memory ran out: in the agent itself, before the first round,
-- or in the round with this index, if neither it nor one before it is refused
abbrev pub EndsWithoutMemory : Config → List Round → ℕ → Bool → Type 0
EndsWithoutMemory config rounds index broken =
    ((index ≡ 0) × (broken ≡ true))
    ⊎ ((index < length rounds) × (refused config (take (index + 1) rounds) ≡ None))

-- ---- what an agent is after rounds

-- for the keys that the cut names for it, each shard holds the states that the past leaves, and
-- nothing else: transactions are cut by their branch, calls by their Call-ID
abbrev pub HoldTransactions : (List ℕ → ℕ → ℕ) → ShardTables → List (Phase Key (Timed Input))
    → Type 0
HoldTransactions shard_of shards past =
    HoldFrom key_cmp transaction_machine tick_at
    (owner_of shard_of branch_in (length (lives_held shards))) zero (lives_held shards) past

abbrev pub HoldCalls : Calls → (List ℕ → ℕ → ℕ) → ShardTables
    → List (Phase (List ℕ) (Timed CallItem)) → Type 0
HoldCalls calls shard_of shards past =
    HoldFrom call_cmp (call_machine calls) tick_at
    (owner_of shard_of (λ call_id. call_id) (length (calls_held shards))) zero (calls_held shards)
    past

-- the agent isn't broken, is at the round number and moment after these rounds, and holds exactly
-- what their past leaves
pub record StandsFor {C : Type 0} (shard_of : C → List ℕ → ℕ → ℕ) (agent : AgentState C)
    (config : Config) (rounds : List Round) : Type 0 where
  pub shards : ShardTables
  pub sound : agent.shards ≡ Some shards
  pub shared : agent.calls ≡ calls_of config
  pub number : agent.next_round ≡ config.first + length rounds
  pub moment : agent.last_moment ≡ last_moment rounds
  pub transactions : HoldTransactions (shard_of agent.cut) shards
      (past_of config rounds).transactions
  pub calls : HoldCalls agent.calls (shard_of agent.cut) shards (past_of config rounds).calls
