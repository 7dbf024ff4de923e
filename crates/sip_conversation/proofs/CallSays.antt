-- What a call says: requests that it starts, answers of its user or its own to requests that came
-- up, each by the transaction of its request, and texts of ACKs.
use Rattle.std.proofs.Common.{ℕ, Bool, true, false, cond, List, [], ◌∷◌, subst, sym}
use Rattle.std.specs.Prelude.{Option, None, Some, IfSome}
use Rattle.std.specs.List.{AllByRecursion}
use Rattle.sip_message.specs.declared.id.Id.{Id}
use Rattle.sip_message.specs.declared.key.Key.{Key}
use Rattle.sip_message.specs.declared.message.Message.{Message}
use Rattle.keyed_machine.specs.Machine.{Timed, outputs_from}
use Rattle.sip_transactions.specs.declared.input.Command.TheVariants as order
use Rattle.sip_transactions.specs.declared.output.UpKind.{UpKind}
use Rattle.sip_transactions.specs.declared.output.UpKind.TheVariants as kind
use Rattle.sip_transactions.specs.declared.output.Up.{Up as AnUp}
use Rattle.sip_held_dialogs.proofs.Each.{both}
use Rattle.sip_user.specs.declared.command.UserCommand.{UserCommand}
use Rattle.sip_user.specs.declared.command.UserCommand.TheVariants as user
use Rattle.sip_user.specs.declared.item.CallOut.{CallOut}
use Rattle.sip_user.specs.declared.item.CallOut.TheVariants as out
use Rattle.sip_user.specs.declared.item.Item.TheVariants.{Up, User}
use Rattle.sip_served.specs.Tick.{tick_taken}
use Rattle.sip_served.specs.declared.arrival.Arrival.{Arrival}
use Rattle.sip_clients.specs.Clients.{invite_taken, plain_taken}
use Rattle.sip_clients.specs.Tick.{clients_ticked}
use Rattle.sip_calls.specs.Call.{CallItem, Taken, call_machine, call_step, event_of, kept, made_tag, new_call}
use Rattle.sip_calls.specs.Histories.{call_from}
use Rattle.sip_calls.specs.Sides.{by_server, holds_any, side_of}
use Rattle.sip_calls.specs.Steps.Call.{command_taken, first_command_taken, step_taken, ticked, up_taken}
use Rattle.sip_calls.proofs.SameSteps.{same_step}
use Rattle.sip_calls.specs.declared.call.Call.{Call}
use Rattle.sip_calls.specs.declared.calls.Calls.{Calls}
use Rattle.sip_clients.specs.declared.event.Event.{Event}
use Rattle.sip_clients.specs.Name.{name_of}
use Rattle.sip_clients.proofs.ClientAsks.{AskAll, IsAckText, IsAsk, OutSays, abandon_dialog_says, abandon_request_says, ack_command_says, cancel_says, clients_tick_says, command_says, invite_says, lost_says, plain_says, prack_command_says, response_says}
use Rattle.sip_conversation.proofs.Along.{Along}
use Rattle.sip_conversation.proofs.Among.{all_go}
use Rattle.sip_conversation.proofs.ServedReplies.{AllowsServed, KindBrought, OwnReplies, RespondGiven, StateGiven, kind_fits, respond_fits, tick_fits}

-- nothing is required of Call-IDs and of ACKs here
abbrev pub AnyCall : List ℕ → Type 0
AnyCall call_id = Unit {0}

abbrev pub AnyAck : Message → Type 0
AnyAck ack = Unit {0}

-- the client side gives no answer
abbrev NoAnswer : Message → Type 0
NoAnswer message = ⊥

module _ (Says : Id → Key → Message → Type 0) where
  -- a transaction is started with a request; of an answer this is said, with the id of its request
  -- and the key of its transaction
  abbrev pub OutGives : CallOut → Type 0
  OutGives (out.Notice notice) = Unit {0}
  OutGives (out.Command id (order.Start key call_id message to)) = IsAsk message
  OutGives (out.Command id (order.Answer key message)) = Says id key message
  OutGives (out.Command id (order.Abandon key)) = Unit {0}
  OutGives (out.Direct to bytes) = IsAckText bytes

  client_gives : (o : CallOut) → OutSays NoAnswer o → OutGives o
  client_gives (out.Notice notice) says = tt
  client_gives (out.Command id (order.Start key call_id message to)) says = says
  client_gives (out.Command id (order.Answer key message)) says = absurd says
  client_gives (out.Command id (order.Abandon key)) says = tt
  client_gives (out.Direct to bytes) says = says

  clients_give : (outs : List CallOut) → AllByRecursion (OutSays NoAnswer) outs
      → AllByRecursion OutGives outs
  clients_give outs all = all_go {P = OutSays NoAnswer} {Q = OutGives} client_gives outs all

module _ (Brought : Arrival → Type 0) (Given : Arrival → Message → Type 0)
    (Says : Id → Key → Message → Type 0)
    (says : (arrival : Arrival) (response : Message) → Given arrival response
    → Says arrival.id arrival.key response)
    (own : OwnReplies Brought Given) where
  abbrev Gives : CallOut → Type 0
  Gives = OutGives Says

  allows : AllowsServed AnyCall Brought AnyAck Given Gives
  allows = record {
    told = λ one other. tt;
    request = λ call_id arrival its came none other. tt;
    prack = λ call_id arrival invite rack its came is. tt;
    ack = λ call_id ack held its is. tt;
    cancel = λ call_id invite cancel its came is. tt;
    answer = λ invite {message} here. says invite message here;
  }

  -- the answers that it holds, and the requests that it sent, are such messages
  pub record CallIs (call : Call) : Type 0 where
    pub served : StateGiven Brought Given call.served
    pub clients : AskAll call.clients

  abbrev Say : List CallOut → Type 0
  Say outs = AllByRecursion Gives outs

  abbrev CallSays : Call × List CallOut → Type 0
  CallSays taken = CallIs taken.0 × Say taken.1

  -- each answer that goes out at a command is one
  abbrev pub UserGives : List CallOut → UserCommand → Type 0
  UserGives outs (user.Invite invite) = Unit {0}
  UserGives outs (user.Plain plain) = Unit {0}
  UserGives outs (user.Request request) = Unit {0}
  UserGives outs (user.Respond respond) = RespondGiven Brought Given respond outs
  UserGives outs (user.Ack ack) = Unit {0}
  UserGives outs (user.Prack prack) = Unit {0}
  UserGives outs (user.Cancel cancel) = Unit {0}
  UserGives outs (user.AbandonRequest abandon) = Unit {0}
  UserGives outs (user.AbandonDialog abandon) = Unit {0}

  abbrev pub InputGives : Calls → List CallOut → Option CallItem → Type 0
  InputGives calls outs None = Unit {0}
  InputGives calls outs (Some (event, Up up)) =
      KindBrought AnyCall Brought AnyAck (name_of calls.seed event 0) up up.kind
  InputGives calls outs (Some (event, User command)) = UserGives outs command

  -- so for each input, from this state on
  abbrev pub AllGive : Calls → Option Call → List (Timed CallItem) → Type 0
  AllGive calls = Along (InputGives calls) calls

  -- ---- one input

  up_says : (call : Call) (event : Event) (up : AnUp) (k : UpKind)
      → KindBrought AnyCall Brought AnyAck (made_tag event) up k
      → CallIs call → CallSays (up_taken call event up k)
  up_says call event up (kind.Request request reply_to) came is =
      let fits = kind_fits AnyCall Brought AnyAck Given Gives allows own call.served
      (made_tag event) up (kind.Request request reply_to) event.moment came is.served in
      (record { served = fits.0; clients = is.clients }, fits.1)
  up_says call event up (kind.Ack ack) came is =
      let fits = kind_fits AnyCall Brought AnyAck Given Gives allows own call.served
      (made_tag event) up (kind.Ack ack) event.moment came is.served in
      (record { served = fits.0; clients = is.clients }, fits.1)
  up_says call event up (kind.Response response) came is =
      let so = response_says NoAnswer event up.id up.call_id response (side_of call) is.clients in
      (record { served = is.served; clients = so.0 }, clients_give Says _ so.1)
  up_says call event up kind.Timeout came is =
      let so = lost_says NoAnswer up.id true (side_of call) is.clients in
      (record { served = is.served; clients = so.0 }, (tt, clients_give Says _ so.1))
  up_says call event up kind.Failed came is =
      let so = lost_says NoAnswer up.id false (side_of call) is.clients in
      (record { served = is.served; clients = so.0 }, (tt, clients_give Says _ so.1))

  first_says : (call : Call) (event : Event) (command : UserCommand) → CallIs call
      → CallSays (first_command_taken call event command)
  first_says call event (user.Invite invite) is =
      let so = invite_says NoAnswer event invite call.clients is.clients in (
        record { served = is.served; clients = so.0 },
        clients_give Says (invite_taken event invite call.clients).1 so.1,
      )
  first_says call event (user.Plain plain) is =
      let so = plain_says NoAnswer event plain call.clients is.clients in (
        record { served = is.served; clients = so.0 },
        clients_give Says (plain_taken event plain call.clients).1 so.1,
      )
  first_says call event (user.Request request) is = (is, (tt, tt))
  first_says call event (user.Respond respond) is = (is, (tt, tt))
  first_says call event (user.Ack ack) is = (is, (tt, tt))
  first_says call event (user.Prack prack) is = (is, (tt, tt))
  first_says call event (user.Cancel cancel) is = (is, (tt, tt))
  first_says call event (user.AbandonRequest abandon) is = (is, (tt, tt))
  first_says call event (user.AbandonDialog abandon) is = (is, (tt, tt))

  user_says : (call : Call) (event : Event) (command : UserCommand)
      → UserGives (command_taken call event command).1 command → CallIs call
      → CallSays (command_taken call event command)
  user_says call event (user.Invite invite) gives is = (is, (tt, tt))
  user_says call event (user.Plain plain) gives is = (is, (tt, tt))
  user_says call event (user.Request request) gives is =
      let so = command_says NoAnswer event request (side_of call) is.clients in
      (record { served = is.served; clients = so.0 }, clients_give Says _ so.1)
  user_says call event (user.Respond respond) gives is =
      let fits = respond_fits AnyCall Brought AnyAck Given Gives allows call.served
      event.id respond event.moment gives is.served in
      (record { served = fits.0; clients = is.clients }, fits.1)
  user_says call event (user.Ack ack) gives is =
      let so = ack_command_says NoAnswer event ack (side_of call) is.clients in
      (record { served = is.served; clients = so.0 }, clients_give Says _ so.1)
  user_says call event (user.Prack prack) gives is =
      let so = prack_command_says NoAnswer event prack (side_of call) is.clients in
      (record { served = is.served; clients = so.0 }, clients_give Says _ so.1)
  user_says call event (user.Cancel cancel) gives is =
      let so = cancel_says NoAnswer event cancel (side_of call) is.clients in
      (record { served = is.served; clients = so.0 }, clients_give Says _ so.1)
  user_says call event (user.AbandonRequest abandon) gives is =
      let so = abandon_request_says NoAnswer event abandon (side_of call) is.clients in
      (record { served = is.served; clients = so.0 }, clients_give Says _ so.1)
  user_says call event (user.AbandonDialog abandon) gives is =
      let so = abandon_dialog_says NoAnswer event abandon (side_of call) is.clients in
      (record { served = is.served; clients = so.0 }, clients_give Says _ so.1)

  tick_says : (call : Call) (now : ℕ) → CallIs call → CallSays (ticked call now)
  tick_says call now is =
      let first = by_server call (tick_taken call.served now) in
      let fits = tick_fits AnyCall Brought AnyAck Given Gives allows call.served now
      is.served in
      let so = clients_tick_says NoAnswer (side_of first.0) now is.clients in (
        record { served = fits.0; clients = so.0 },
        both Gives first.1 (clients_ticked (side_of first.0) now).1 fits.1
            (clients_give Says (clients_ticked (side_of first.0) now).1 so.1),
      )

  abbrev pub HeldIs : Option Call → Type 0
  HeldIs held = IfSome held CallIs

  abbrev After : Option Call × List CallOut → Type 0
  After taken = HeldIs taken.0 × Say taken.1

  kept_by : (b : Bool) (call : Call) → CallIs call → HeldIs (cond b (Some call) None)
  kept_by true call is = is
  kept_by false call is = tt

  kept_says : (taken : Call × List CallOut) → CallSays taken → After (kept taken)
  kept_says taken done = (kept_by (holds_any taken.0) taken.0 done.0, done.1)

  new_is : (calls : Calls) → CallIs (new_call calls.local)
  new_is calls = record { served = tt; clients = tt }

  taken_says : (calls : Calls) (state : Option Call) (input : Option CallItem) (now : ℕ)
      → InputGives calls (step_taken calls state input now).1 input → HeldIs state
      → After (step_taken calls state input now)
  taken_says calls None None now gives is = (tt, tt)
  taken_says calls (Some call) None now gives is =
      kept_says (ticked call now) (tick_says call now is)
  taken_says calls None (Some (event, Up up)) now gives is =
      let call = new_call calls.local in
      kept_says (up_taken call (event_of calls event now) up up.kind)
      (up_says call (event_of calls event now) up up.kind gives (new_is calls))
  taken_says calls (Some call) (Some (event, Up up)) now gives is =
      kept_says (up_taken call (event_of calls event now) up up.kind)
      (up_says call (event_of calls event now) up up.kind gives is)
  taken_says calls None (Some (event, User command)) now gives is =
      let call = new_call calls.local in
      kept_says (first_command_taken call (event_of calls event now) command)
      (first_says call (event_of calls event now) command (new_is calls))
  taken_says calls (Some call) (Some (event, User command)) now gives is =
      kept_says (command_taken call (event_of calls event now) command)
      (user_says call (event_of calls event now) command gives is)

  step_says : (calls : Calls) (state : Option Call) (input : Option CallItem) (now : ℕ)
      → InputGives calls (call_step calls state input now).1 input → HeldIs state
      → After (call_step calls state input now)
  step_says calls state input now gives is =
      let same = same_step calls state input now in
      subst (λ (taken : Taken). After taken) (sym same)
      (taken_says calls state input now
      (subst (λ (taken : Taken). InputGives calls taken.1 input) same gives) is)

  -- ---- all inputs

  pub all_say : (calls : Calls) (call_id : List ℕ) (state : Option Call)
      (inputs : List (Timed CallItem))
      → AllGive calls state inputs → HeldIs state
      → AllByRecursion Gives (outputs_from (call_machine calls) call_id state inputs)
  all_say calls call_id state [] gives is = tt
  all_say calls call_id state (timed ∷ inputs) gives is =
      let step = call_step calls state timed.input timed.moment in
      let after = step_says calls state timed.input timed.moment gives.0 is in
      both Gives step.1 (outputs_from (call_machine calls) call_id step.0 inputs)
      after.1 (all_say calls call_id step.0 inputs gives.1 after.0)

  pub all_held : (calls : Calls) (state : Option Call) (inputs : List (Timed CallItem))
      → AllGive calls state inputs → HeldIs state → HeldIs (call_from calls state inputs)
  all_held calls state [] gives is = is
  all_held calls state (timed ∷ inputs) gives is =
      let step = call_step calls state timed.input timed.moment in
      all_held calls step.0 inputs gives.1
      (step_says calls state timed.input timed.moment gives.0 is).0
