-- Each command that a call is given is an event of the rounds.
use Rattle.std.proofs.Common.{ℕ, suc, Bool, true, false, cond, List, [], ◌∷◌, ◌++◌, map, sym, subst}
use Rattle.std.specs.Prelude.{IfSome, Option, None, Some, Result, Ok, Err, filter, if◌then◌else◌}
use Rattle.std.specs.BTreeMap.{is_at}
use Rattle.std.specs.List.{AllByRecursion, flat_map}
use Rattle.sip_message.specs.declared.addr.Addr.{Addr}
use Rattle.sip_message.specs.declared.id.Id.{Id}
use Rattle.sip_message.specs.declared.key.Key.{Key}
use Rattle.sip_message.specs.declared.message.Message.{Message}
use Rattle.sip_message.specs.Message.{is_request_message}
use Rattle.keyed_machine.specs.declared.item.Item as model
use Rattle.keyed_machine.specs.Machine.{Timed, tick_at}
use Rattle.keyed_machine.specs.Phase.{history, inputs_of, own_inputs, timed_item, timed_items}
use Rattle.sip_message.specs.declared.fault.ReadFault.{ReadFault}
use Rattle.sip_reader.specs.ReadMessage.{message_at}
use Rattle.sip_transactions.specs.declared.input.Input.{Input}
use Rattle.sip_transactions.specs.declared.output.Out.{Out}
use Rattle.sip_transactions.specs.declared.output.Out.TheVariants as out
use Rattle.sip_user.specs.Command.{call_of_item}
use Rattle.sip_user.specs.declared.command.UserCommand.{UserCommand}
use Rattle.sip_user.specs.declared.item.Item.{Item}
use Rattle.sip_user.specs.declared.item.Item.TheVariants.{Up, User}
use Rattle.sip_held_dialogs.proofs.Each.{both}
use Rattle.sip_calls.specs.Call.{CallItem}
use Rattle.sip_calls.specs.CallShard.{call_cmp}
use Rattle.sip_round.specs.declared.config.Config.{Config}
use Rattle.sip_round.specs.declared.round.Event.{Event}
use Rattle.sip_round.specs.declared.round.Event.TheVariants as event
use Rattle.sip_round.specs.declared.round.Round.{Round}
use Rattle.sip_round.specs.Answers.{Past, arrivals, first, items_of_round, no_past, past_after, past_of, said_by_transactions, second}
use Rattle.sip_round.specs.Arrivals.{Arrival, arrival_for, arrival_of, arrivals_from, datagram_arrival, message_arrival}
use Rattle.sip_round.specs.Laws.{call_inputs_of}
use Rattle.sip_round.specs.Outputs.{joined, outs_of, raised_of, said_at, user_items}
use Rattle.sip_round.specs.Phases.{call_items}
use Rattle.sip_round.proofs.GivenNotices.{calls_are, calls_from}

module _ (P : UserCommand → Type 0) where
  -- this is true of a command
  abbrev pub ItemAsks : Item → Type 0
  ItemAsks (Up up) = Unit {0}
  ItemAsks (User command) = P command

  abbrev pub TimedAsks : Timed CallItem → Type 0
  TimedAsks timed = IfSome timed.input (λ i. ItemAsks i.1)

  abbrev IdAsks : Id × Item → Type 0
  IdAsks i = ItemAsks i.1

  abbrev pub EventAsks : Event → Type 0
  EventAsks (event.Datagram from bytes) = Unit {0}
  EventAsks (event.Failed key) = Unit {0}
  EventAsks (event.Command command) = P command

  -- ---- the items of a round

  raised_ask : (id : Id) (outs : List Out) → AllByRecursion IdAsks (flat_map (raised_of id) outs)
  raised_ask id [] = tt
  raised_ask id (out.Up up ∷ outs) = (tt, raised_ask id outs)
  raised_ask id (out.Send key to bytes ∷ outs) = raised_ask id outs
  raised_ask id (out.Dropped place why ∷ outs) = raised_ask id outs

  no_command : (id : Id) (input : Option (Key × Input))
      → AllByRecursion IdAsks (user_items id (arrival_for input))
  no_command id None = tt
  no_command id (Some input) = tt

  -- a datagram is no command
  by_read : (local : Addr) (id : Id) (from : Addr) (read : Result Message ReadFault)
      → AllByRecursion IdAsks (user_items id (datagram_arrival local id from read))
  unfolding message_arrival
  by_read local id from (Ok message) =
      by_request (is_request_message message) _ _
    where
      by_request : (request : Bool) (one other : Option (Key × Input))
          → AllByRecursion IdAsks (user_items id (if request then arrival_for one
          else arrival_for other))
      by_request true one other = no_command id one
      by_request false one other = no_command id other
  by_read local id from (Err fault) = tt

  user_asks : (local : Addr) (id : Id) (e : Event) → EventAsks e
      → AllByRecursion IdAsks (user_items id (arrival_of local id e))
  unfolding arrival_of
  user_asks local id (event.Datagram from bytes) asks = by_read local id from (message_at bytes)
  user_asks local id (event.Failed key) asks = tt
  user_asks local id (event.Command command) asks = (asks, tt)

  abbrev items_at : (ℕ → List Out) → Id × Arrival → List (Id × Item)
  items_at said a = flat_map (raised_of a.0) (outs_of said a.0 a.1) ++ user_items a.0 a.1

  arrivals_ask : (said : ℕ → List Out) (local : Addr) (round place : ℕ) (events : List Event)
      → AllByRecursion EventAsks events
      → AllByRecursion IdAsks (flat_map (items_at said) (arrivals_from local round place events))
  arrivals_ask said local round place [] asks = tt
  arrivals_ask said local round place (e ∷ events) asks =
      let id : Id = record { round = round; place = place } in
      let a = arrival_of local id e in
      both IdAsks (items_at said (id, a))
      (flat_map (items_at said) (arrivals_from local round (suc place) events))
      (both IdAsks (flat_map (raised_of id) (outs_of said id a)) (user_items id a)
      (raised_ask id (outs_of said id a)) (user_asks local id e asks.0))
      (arrivals_ask said local round (suc place) events asks.1)

  -- ---- the inputs of a call

  own_step : (own : Bool) (item : model.Item (List ℕ) (Timed CallItem))
      (kept : List (model.Item (List ℕ) (Timed CallItem))) → TimedAsks item.input
      → AllByRecursion TimedAsks (map (λ i. i.input) kept)
      → AllByRecursion TimedAsks (map (λ i. i.input) (cond own (item ∷ kept) kept))
  own_step true item kept here later = (here, later)
  own_step false item kept here later = later

  own_ask : (key : List ℕ) (now place : ℕ) (items : List (Id × Item)) → AllByRecursion IdAsks items
      → AllByRecursion TimedAsks (inputs_of call_cmp (timed_items now (call_items place items)) key)
  own_ask key now place [] all = tt
  own_ask key now place (i ∷ items) all =
      own_step (is_at (call_cmp (call_of_item i.1)) key)
      (timed_item now (record { place = place; key = call_of_item i.1; input = i }))
      (filter (λ item. is_at (call_cmp item.key) key)
      (timed_items now (call_items (suc place) items))) all.0
      (own_ask key now (suc place) items all.1)

  module _ (config : Config) where
    round_asks : (number : ℕ) (past : Past) (round : Round) → AllByRecursion EventAsks round.events
        → AllByRecursion IdAsks (items_of_round config number past round)
    unfolding items_of_round
    round_asks number past round asks =
        let told = said_by_transactions past.transactions (first config number past round) in
        let zero : Id = record { round = number; place = 0 } in
        both IdAsks (flat_map (raised_of zero) (joined told.ticks))
        (flat_map (items_at (said_at told)) (arrivals config number past round))
        (raised_ask zero (joined told.ticks))
        (arrivals_ask (said_at told) config.local number 1 round.events asks)

    second_asks : (call_id : List ℕ) (number : ℕ) (past : Past) (round : Round)
        → AllByRecursion EventAsks round.events
        → AllByRecursion TimedAsks
        (own_inputs call_cmp tick_at (second config number past round) call_id)
    unfolding second
    second_asks call_id number past round asks = (
      tt,
      own_ask call_id round.moment 0 (items_of_round config number past round)
          (round_asks number past round asks),
    )

    from_ask : (call_id : List ℕ) (number : ℕ) (past : Past) (rounds : List Round)
        → AllByRecursion (λ round. AllByRecursion EventAsks round.events) rounds
        → AllByRecursion TimedAsks
        (history call_cmp tick_at (calls_from config number past rounds) call_id)
    from_ask call_id number past [] asks = tt
    from_ask call_id number past (round ∷ rounds) asks =
        let next = past_after config number past round in
        both TimedAsks (own_inputs call_cmp tick_at (second config number past round) call_id)
        (history call_cmp tick_at (calls_from config (suc number) next rounds) call_id)
        (second_asks call_id number past round asks.0)
        (from_ask call_id (suc number) next rounds asks.1)

    pub inputs_ask : (rounds : List Round)
        → AllByRecursion (λ round. AllByRecursion EventAsks round.events) rounds
        → (call_id : List ℕ) → AllByRecursion TimedAsks (call_inputs_of config rounds call_id)
    unfolding past_of
    inputs_ask rounds asks call_id =
        subst (λ phases. AllByRecursion TimedAsks (history call_cmp tick_at phases call_id))
        (sym (calls_are config config.first no_past rounds))
        (from_ask call_id config.first no_past rounds asks)
