-- In a carried conversation, in which each command has the types of its parts, each message that a
-- call sends keeps the rules of messages.
use Rattle.std.proofs.Common.{ℕ, List, [], ◌∷◌, ◌++◌, sym, subst, append_assoc, append-nil}
use Rattle.std.specs.Prelude.{Contains, IfSome, Option, None, Some}
use Rattle.std.specs.List.{AllByRecursion}
use Rattle.sip_message.specs.Addr.{IsAddr}
use Rattle.sip_message.specs.Key.{key_cmp}
use Rattle.sip_message.specs.Rules.{IsMessage}
use Rattle.sip_message.specs.declared.addr.Addr.{Addr}
use Rattle.sip_message.specs.declared.id.Id.{Id}
use Rattle.sip_message.specs.declared.key.Key.{Key}
use Rattle.sip_message.specs.declared.message.Message.{Message}
use Rattle.keyed_machine.specs.Laws.{EachKeyAlone}
use Rattle.keyed_machine.specs.Machine.{Timed, given_at, outputs_from, tick_at}
use Rattle.sip_transactions.specs.Machine.{transaction_machine}
use Rattle.sip_transactions.specs.Shard.{asked_by, command_key}
use Rattle.sip_transactions.specs.declared.input.Command.{Command}
use Rattle.sip_transactions.specs.declared.input.Command.TheVariants as command
use Rattle.sip_transactions.specs.declared.input.Input.{Input}
use Rattle.sip_transactions.specs.declared.input.Input.TheVariants as input
use Rattle.sip_transactions.specs.declared.output.UpKind.{UpKind}
use Rattle.sip_transactions.specs.declared.output.UpKind.TheVariants as kind
use Rattle.sip_transactions.specs.declared.output.Out.{Out}
use Rattle.sip_transactions.specs.declared.output.Out.TheVariants as out
use Rattle.sip_user.specs.declared.item.CallOut.{CallOut}
use Rattle.sip_user.specs.declared.item.CallOut.TheVariants as call_out
use Rattle.sip_user.specs.declared.item.Item.TheVariants.{Up, User}
use Rattle.sip_held_dialogs.proofs.Each.{both}
use Rattle.sip_calls.specs.Call.{CallItem, call_machine}
use Rattle.sip_round.specs.declared.config.Config.{Config}
use Rattle.sip_round.specs.declared.round.Event.{Event}
use Rattle.sip_round.specs.declared.round.Event.TheVariants as event
use Rattle.sip_round.specs.declared.round.Round.{Round}
use Rattle.sip_round.specs.Answers.{calls_of, no_past, past_of}
use Rattle.sip_round.specs.Arrivals.{arrival_of}
use Rattle.sip_round.specs.Laws.{call_inputs_of, inputs_of, said_of, said_of_call}
use Rattle.sip_round.proofs.CallEvents.{events_differ}
use Rattle.sip_round.proofs.Said.{call_alone, transaction_alone}
use Rattle.sip_conversation.specs.Commands.{CommandsKeepTypes, EventKeepsTypes, KeepsTypes}
use Rattle.sip_conversation.specs.Conversation.{Carried, CarriedAfter, IsCarried, Side, Turn, peer, rounds_of}
use Rattle.sip_conversation.specs.Messages.{CallsKeepRules, KeepsRules}
use Rattle.sip_conversation.proofs.Among.{all_both, all_go, all_of, each_of}
use Rattle.sip_conversation.proofs.Bridge.{text_fits}
use Rattle.sip_conversation.proofs.Carrying.{TurnHolds, each_turn, in_rounds}
use Rattle.sip_conversation.proofs.OneTransaction.{IsFaithful, KindCame, faithful}
use Rattle.sip_conversation.proofs.RepliesSaid.{IsFair}
use Rattle.sip_conversation.proofs.Rounds.{ArrivalFits, OutFits, TimedFits, all_of_parts, calls_give, inputs_fit}
use Rattle.sip_conversation.proofs.KeepsRules.{Any, KeepsInput, KeepsRulesWith, KindKeeps}
use Rattle.sip_conversation.proofs.SoundCalls.{call_keeps_rules}
use Rattle.sip_conversation.proofs.Unchanged.{AreFine, IsFine, carried_fine, come_keeps}
use Rattle.sip_conversation.proofs.UserInputs.{EventAsks, ItemAsks, TimedAsks, inputs_ask}
use Rattle.sip_conversation.proofs.Ups.{ItemCame, OutCame, TimedCame, UpCame, inputs_came}

-- ---- one agent, to which only messages that keep the rules come

-- such a message is received
abbrev ReceivesSound : Key → Input → Type 0
ReceivesSound key (input.Receive id message reply_to) = IsMessage message
ReceivesSound key (input.Start id call_id message to) = Unit {0}
ReceivesSound key (input.Answer id message) = Unit {0}
ReceivesSound key (input.Failed id) = Unit {0}
ReceivesSound key input.Abandon = Unit {0}

asked_sound : (id : Id) (c : Command) → ReceivesSound (command_key c) (asked_by id c)
asked_sound id (command.Start key call_id message to) = tt
asked_sound id (command.Answer key message) = tt
asked_sound id (command.Abandon key) = tt

out_sound : (config : Config) (out : CallOut) → OutFits config ReceivesSound out
out_sound config (call_out.Notice notice) = tt
out_sound config (call_out.Command id c) = asked_sound id c
out_sound config (call_out.Direct to bytes) = tt

up_sound : (o : Out) → IsFaithful Any IsMessage o → OutCame (UpCame IsMessage) o
up_sound (out.Up up) faithful = faithful
up_sound (out.Send key to bytes) faithful = tt
up_sound (out.Dropped place why) faithful = tt

kind_keeps : (k : UpKind) → KindCame IsMessage k → KindKeeps k
kind_keeps (kind.Request request reply_to) came = came.0
kind_keeps (kind.Ack ack) came = came
kind_keeps (kind.Response response) came = came
kind_keeps kind.Timeout came = tt
kind_keeps kind.Failed came = tt

input_keeps : (i : Option CallItem) → IfSome i (λ i. ItemCame (UpCame IsMessage) i.1)
    → IfSome i (λ i. ItemAsks KeepsTypes i.1) → KeepsInput i
input_keeps None came asks = tt
input_keeps (Some (event, Up up)) came asks = kind_keeps up.kind came
input_keeps (Some (event, User command)) came asks = asks

module _ (alone : EachKeyAlone key_cmp transaction_machine tick_at) (config : Config)
    (rounds : List Round) where
  -- all that arrives keeps the rules
  abbrev ArrivesSound : Event → Type 0
  ArrivesSound e = (id : Id) → ArrivalFits config ReceivesSound (arrival_of config.local id e)

  module _ (sound : AllByRecursion (λ (round : Round). AllByRecursion ArrivesSound round.events)
      rounds) where
    received : (key : Key) (now : ℕ) (id : Id) (message : Message) (reply_to : Addr)
        → Contains (inputs_of config rounds key) (given_at now (input.Receive id message reply_to))
        → IsMessage message
    received key now id message reply_to among =
        each_of (TimedFits config ReceivesSound key) (inputs_of config rounds key)
        (given_at now (input.Receive id message reply_to))
        (inputs_fit config ReceivesSound key rounds sound
        (all_of (OutFits config ReceivesSound) (calls_give config config.first no_past rounds)
        (λ out among. out_sound config out))) among

    ups_sound : (key : Key)
        → AllByRecursion (OutCame (UpCame IsMessage)) (said_of config rounds key)
    ups_sound key =
        subst (AllByRecursion (OutCame (UpCame IsMessage)))
        (sym (transaction_alone alone [] (past_of config rounds).transactions key))
        (all_go {P = IsFaithful Any IsMessage} {Q = OutCame (UpCame IsMessage)} up_sound
        (outputs_from transaction_machine key None (inputs_of config rounds key))
        (faithful (inputs_of config rounds key) Any IsMessage (record {
          started = λ now id call_id message to among. tt;
          answered = λ now id message among. tt;
          tried = λ now id request reply_to among is. tt;
          acknowledged = λ now later id answered call_id invite response to reply_to among
              came failure. tt;
          came = λ now id message reply_to among.
              received key now id message reply_to among;
        }) key))

    inputs_keep : AllByRecursion (λ (round : Round).
        AllByRecursion (EventAsks KeepsTypes) round.events) rounds → (call_id : List ℕ)
        → AllByRecursion (λ (timed : Timed CallItem). KeepsInput timed.input)
        (call_inputs_of config rounds call_id)
    inputs_keep asks call_id =
        all_both {P = TimedCame (UpCame IsMessage)} {Q = TimedAsks KeepsTypes}
        {R = λ timed. KeepsInput timed.input}
        (λ timed came asks. input_keeps timed.input came asks)
        (call_inputs_of config rounds call_id)
        (inputs_came (UpCame IsMessage) config rounds ups_sound call_id)
        (inputs_ask KeepsTypes config rounds asks call_id)

-- ---- what a call sends

out_keeps : (out : CallOut) → KeepsRulesWith Any out → KeepsRules out
out_keeps (call_out.Notice notice) keeps = tt
out_keeps (call_out.Command id c) keeps = keeps
out_keeps (call_out.Direct to bytes) keeps = (keeps.0, keeps.1, keeps.2)

-- ---- both sides

event_asks : (e : Event) → EventKeepsTypes e → EventAsks KeepsTypes e
event_asks (event.Datagram from bytes) keeps = tt
event_asks (event.Failed key) keeps = tt
event_asks (event.Command c) keeps = keeps

module _ (configs : Side → Config) (fair : IsFair configs) where
  abbrev Fine : List Turn → Type 0
  Fine turns = AreFine fair.transactions configs fair.addresses turns

  fine_arrives : (s : Side) (e : Event) → IsFine fair.transactions configs fair.addresses s e
      → ArrivesSound fair.transactions (configs s) [] e
  unfolding arrival_of
  fine_arrives s (event.Datagram from bytes) fine id =
      text_fits (configs s) ReceivesSound id from fine.1 bytes fine.2 fine.3
      (λ short. come_keeps from (subst IsAddr (sym fine.0) (fair.addresses (peer s)))
      fine.1 fine.3)
  fine_arrives s (event.Failed key) fine id = tt
  fine_arrives s (event.Command c) fine id = tt

  pub inputs_keep_so : (turns : List Turn) → Fine turns → CommandsKeepTypes turns → (s : Side)
      (call_id : List ℕ) → AllByRecursion (λ (timed : Timed CallItem). KeepsInput timed.input)
      (call_inputs_of (configs s) (rounds_of s turns) call_id)
  inputs_keep_so turns fine types s call_id =
      let config = configs s in
      let sound = in_rounds (λ s e. ArrivesSound fair.transactions (configs s) [] e) s turns
      (each_turn {P = IsFine fair.transactions configs fair.addresses}
      {Q = λ s e. ArrivesSound fair.transactions (configs s) [] e} fine_arrives turns fine) in
      let asks = in_rounds (λ s e. EventAsks KeepsTypes e) s turns
      (each_turn {P = λ s e. EventKeepsTypes e} {Q = λ s e. EventAsks KeepsTypes e}
      (λ s e. event_asks e) turns types) in
      inputs_keep fair.transactions config (rounds_of s turns) sound asks call_id

  calls_keep : (turns : List Turn) → Fine turns → CommandsKeepTypes turns
      → CallsKeepRules configs turns
  calls_keep turns fine types s out says =
      let config = configs s in
      let rounds = rounds_of s turns in
      let call_id = says.0 in
      each_of KeepsRules (said_of_call config rounds call_id) out
      (subst (AllByRecursion KeepsRules)
      (sym (call_alone (calls_of config) (fair.calls s) [] (past_of config rounds).calls call_id))
      (all_go {P = KeepsRulesWith Any} {Q = KeepsRules} out_keeps
      (outputs_from (call_machine (calls_of config)) call_id None
      (call_inputs_of config rounds call_id))
      (call_keeps_rules (calls_of config) (fair.addresses s) call_id
      (call_inputs_of config rounds call_id) (events_differ config call_id rounds)
      (inputs_keep_so turns fine types s call_id)))) says.1

  all_keep : (before turns : List Turn) → Fine before → CommandsKeepTypes (before ++ turns)
      → CarriedAfter configs before turns → CallsKeepRules configs (before ++ turns)
  all_keep before [] fine types carried =
      subst (CallsKeepRules configs) (sym (append-nil before))
      (calls_keep before fine (subst CommandsKeepTypes (append-nil before) types))
  all_keep before (turn ∷ turns) fine types carried =
      let same = append_assoc before (turn ∷ []) turns in
      let early = all_of_parts (TurnHolds (λ s e. EventKeepsTypes e)) before (turn ∷ turns) types in
      let here = all_go {P = IsCarried configs before turn.side}
      {Q = IsFine fair.transactions configs fair.addresses turn.side}
      (carried_fine fair.transactions configs fair.addresses before fine
      (calls_keep before fine early.0) turn.side) (turn.round).events carried.0 in
      subst (CallsKeepRules configs) same
      (all_keep (before ++ turn ∷ []) turns
      (both (TurnHolds (IsFine fair.transactions configs fair.addresses)) before (turn ∷ []) fine
      (here, tt)) (subst CommandsKeepTypes (sym same) types) carried.1)

  pub calls_keep_rules : (turns : List Turn) → Carried configs turns → CommandsKeepTypes turns
      → CallsKeepRules configs turns
  calls_keep_rules turns carried types = all_keep [] turns tt types carried

  -- a law of turns in which calls keep the rules is one of turns in which commands have their types
  pub by_types : {P : List Turn → Type 0}
      → ((turns : List Turn) → Carried configs turns → CallsKeepRules configs turns → P turns)
      → (turns : List Turn) → Carried configs turns → CommandsKeepTypes turns → P turns
  by_types law turns carried types = law turns carried (calls_keep_rules turns carried types)
