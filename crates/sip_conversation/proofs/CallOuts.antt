-- A call tells its user of a response only if one comes up, with its Call-ID, id, status, tags and
-- body. It gives up only transactions of clients.
use Rattle.sip_calls.specs.Call.{CallItem, Taken, call_machine, call_step, event_of, made_tag, new_call}
use Rattle.sip_calls.specs.Sides.{by_server, side_of}
use Rattle.sip_calls.specs.declared.call.Call.{Call}
use Rattle.sip_calls.specs.declared.calls.Calls.{Calls}
use Rattle.sip_calls.specs.Steps.Call.{command_taken, first_command_taken, step_taken, ticked, up_taken}
use Rattle.sip_calls.proofs.SameSteps.{same_step}
use Rattle.sip_clients.specs.Clients.{status_of}
use Rattle.sip_clients.specs.Outputs.{start_command}
use Rattle.sip_clients.specs.Tick.{clients_ticked}
use Rattle.sip_clients.specs.declared.client.Client.{Client}
use Rattle.sip_clients.specs.declared.event.Event.{Event}
use Rattle.sip_held_dialogs.proofs.Each.{both}
use Rattle.sip_user.specs.declared.command.UserCommand.{UserCommand}
use Rattle.sip_user.specs.declared.item.CallOut.{CallOut}
use Rattle.sip_user.specs.declared.item.Item.TheVariants.{Up, User}
use Rattle.sip_user.specs.declared.notice.Notice.{Notice}
use Rattle.sip_clients.proofs.ClientOuts.{Allows, abandon_dialog_told, abandon_request_told, ack_command_told, cancel_told, clients_tick, command_told, invite_told, lost_told, plain_told, prack_command_told, response_told}
use Rattle.sip_message.specs.Key.{side_of as key_side}
use Rattle.sip_message.specs.Party.{tag_of}
use Rattle.sip_message.specs.declared.id.Id.{Id}
use Rattle.sip_transactions.specs.declared.input.Command.{Command}
use Rattle.sip_transactions.specs.declared.input.Command.TheVariants as order
use Rattle.sip_message.specs.declared.message.Message.{Message}
use Rattle.keyed_machine.specs.Machine.{Timed, outputs_from}
use Rattle.sip_served.specs.declared.held_request.HeldRequest.{HeldRequest}
use Rattle.sip_served.specs.declared.held_request.Success.{Success}
use Rattle.sip_served.specs.declared.provisionals.ReliableResponse.{ReliableResponse}
use Rattle.sip_served.specs.State.{State}
use Rattle.sip_served.specs.Step.{kind_taken}
use Rattle.sip_served.specs.Tick.{tick_taken}
use Rattle.sip_transactions.specs.declared.output.UpKind.{UpKind}
use Rattle.sip_transactions.specs.declared.output.Up.{Up as AnUp}
use Rattle.std.proofs.Common.{◌≡◌, ℕ, true, false, List, [], ◌∷◌, refl, subst, sym}
use Rattle.std.specs.List.{AllByRecursion}
use Rattle.std.specs.Prelude.{Option, None, Some, IfSome}
use Rattle.sip_served.proofs.ServedAnswers.{AllowsServed, IsOther, KeepsGiven, KindGiven, OwnAnswers, StateGiven, kind_fits, respond_fits, server_tick}
use Rattle.sip_user.specs.declared.command.UserCommand.TheVariants as user
use Rattle.sip_user.specs.declared.item.CallOut.TheVariants as out
use Rattle.sip_user.specs.declared.notice.Notice.TheVariants as notice
use Rattle.sip_transactions.specs.declared.output.UpKind.TheVariants as kind

-- nothing is required of requests and answers here
abbrev pub Any : Message → Type 0
Any message = Unit {0}

any_own : OwnAnswers Any Any
any_own = record {
  merged = λ request tag came. tt;
  extension = λ request tag came. tt;
  no_dialog = λ request tag came. tt;
  out_of_order = λ request tag came. tt;
  accepted = λ request tag came. tt;
  terminated = λ request tag came. tt;
}

any_kind : (k : UpKind) → KindGiven Any k
any_kind (kind.Request request reply_to) = tt
any_kind (kind.Ack ack) = tt
any_kind (kind.Response response) = tt
any_kind kind.Timeout = tt
any_kind kind.Failed = tt

module _ (Tells : List ℕ → Id → ℕ → List ℕ → List ℕ → List ℕ → Type 0) where
  -- this is true of the Call-ID, id, status, tags and body of each response that the user is told
  -- of
  abbrev pub NoticeTells : Notice → Type 0
  NoticeTells (notice.Response call_id id status local_tag remote_tag body) =
      Tells call_id id status local_tag remote_tag body
  NoticeTells _ = Unit {0}

  abbrev pub IsForClient : Command → Type 0
  IsForClient (order.Start key call_id message to) = Unit {0}
  IsForClient (order.Answer key message) = Unit {0}
  IsForClient (order.Abandon key) = key_side key ≡ 0

  abbrev pub OutFits : CallOut → Type 0
  OutFits (out.Notice told) = NoticeTells told
  OutFits (out.Command id command) = IsForClient command
  OutFits (out.Direct to bytes) = Unit {0}

  abbrev Fit : List CallOut → Type 0
  Fit outs = AllByRecursion OutFits outs

  started_fits : (id : Id) (client : Client) → OutFits (start_command id client)
  unfolding start_command
  started_fits id client = tt

  allows : Allows OutFits
  allows = record {
    ended = λ held. tt;
    refusal = λ call_id place why. tt;
    sent = λ ack. tt;
    started = started_fits;
  }

  told_fits : (one : Notice) → IsOther one → OutFits (out.Notice one)
  told_fits (notice.Request call_id id method local_tag remote_tag body) other = tt
  told_fits (notice.Response call_id id status local_tag remote_tag body) other = absurd other
  told_fits (notice.Ack call_id id body) other = tt
  told_fits (notice.Prack call_id id rseq body) other = tt
  told_fits (notice.Timeout call_id id) other = tt
  told_fits (notice.Failed call_id id) other = tt
  told_fits (notice.NoAck call_id id) other = tt
  told_fits (notice.NoPrack call_id id) other = tt
  told_fits (notice.Cancel call_id id) other = tt
  told_fits (notice.Ended call_id local_tag remote_tag) other = tt
  told_fits (notice.Refused call_id place why) other = tt

  allows_served : AllowsServed OutFits Any
  allows_served = record { told = told_fits; answer = λ id key {message} here. tt }

  -- ---- the server side tells of no response, whatever it holds

  any_success : (o : Option Success) → IfSome o (λ success. Any success.response)
  any_success None = tt
  any_success (Some success) = tt

  any_provisionals : (responses : List ReliableResponse)
      → AllByRecursion (λ one. Any one.response) responses
  any_provisionals [] = tt
  any_provisionals (one ∷ responses) = (tt, any_provisionals responses)

  any_requests : (requests : List HeldRequest)
      → AllByRecursion (KeepsGiven OutFits Any Any allows_served) requests
  any_requests [] = tt
  any_requests (held ∷ requests) = (
    record {
      request = tt;
      success = any_success held.success;
      provisionals = any_provisionals held.provisionals;
    },
    any_requests requests,
  )

  any_state : (state : State) → StateGiven OutFits Any Any allows_served state
  any_state state = any_requests state.requests

  served_told : (call : Call) (event : Event) (up : AnUp) (k : UpKind)
      → Fit (by_server call (kind_taken call.served (made_tag event) up k event.moment)).1
  served_told call event up k =
      (kind_fits OutFits Any Any allows_served any_own call.served (made_tag event) up k
      event.moment (any_kind k) (any_state call.served)).1

  -- ---- a call

  -- this is true of a response that comes up under a Call-ID and an id, if it has a status
  abbrev pub ResponseTells : List ℕ → Id → Message → Type 0
  ResponseTells call_id id response = (status : ℕ) → status_of response.start ≡ Some status
      → Tells call_id id status (tag_of response.from) (tag_of response.to) response.body

  -- this is true of a response that comes up
  abbrev pub KindTells : List ℕ → Id → UpKind → Type 0
  KindTells call_id id (kind.Request request reply_to) = Unit {0}
  KindTells call_id id (kind.Ack ack) = Unit {0}
  KindTells call_id id (kind.Response response) = ResponseTells call_id id response
  KindTells call_id id kind.Timeout = Unit {0}
  KindTells call_id id kind.Failed = Unit {0}

  abbrev pub InputFits : Option CallItem → Type 0
  InputFits None = Unit {0}
  InputFits (Some (event, Up up)) = KindTells up.call_id up.id up.kind
  InputFits (Some (event, User command)) = Unit {0}

  up_fits : (call : Call) (event : Event) (up : AnUp) (k : UpKind) → KindTells up.call_id up.id k
      → Fit (up_taken call event up k).1
  up_fits call event up (kind.Request request reply_to) tells =
      served_told call event up (kind.Request request reply_to)
  up_fits call event up (kind.Ack ack) tells = served_told call event up (kind.Ack ack)
  up_fits call event up (kind.Response response) tells =
      response_told OutFits allows event up.id up.call_id response (side_of call)
      (λ name status is. tells status is)
  up_fits call event up kind.Timeout tells =
      (tt, lost_told OutFits allows up.id true (side_of call))
  up_fits call event up kind.Failed tells =
      (tt, lost_told OutFits allows up.id false (side_of call))

  first_fits : (call : Call) (event : Event) (command : UserCommand)
      → Fit (first_command_taken call event command).1
  first_fits call event (user.Invite invite) =
      invite_told OutFits allows event invite call.clients
  first_fits call event (user.Plain plain) = plain_told OutFits allows event plain call.clients
  first_fits call event (user.Request request) = (tt, tt)
  first_fits call event (user.Respond respond) = (tt, tt)
  first_fits call event (user.Ack ack) = (tt, tt)
  first_fits call event (user.Prack prack) = (tt, tt)
  first_fits call event (user.Cancel cancel) = (tt, tt)
  first_fits call event (user.AbandonRequest abandon) = (tt, tt)
  first_fits call event (user.AbandonDialog abandon) = (tt, tt)

  user_fits : (call : Call) (event : Event) (command : UserCommand)
      → Fit (command_taken call event command).1
  user_fits call event (user.Invite invite) = (tt, tt)
  user_fits call event (user.Plain plain) = (tt, tt)
  user_fits call event (user.Request request) =
      command_told OutFits allows event request (side_of call)
  user_fits call event (user.Respond respond) =
      (respond_fits OutFits Any Any allows_served any_own call.served event.id respond
      event.moment (λ local held came. tt) (any_state call.served)).1
  user_fits call event (user.Ack ack) =
      ack_command_told OutFits allows event ack (side_of call)
  user_fits call event (user.Prack prack) =
      prack_command_told OutFits allows event prack (side_of call)
  user_fits call event (user.Cancel cancel) =
      cancel_told OutFits allows event cancel (side_of call)
  user_fits call event (user.AbandonRequest abandon) =
      abandon_request_told OutFits allows event abandon (side_of call) (λ client. refl)
  user_fits call event (user.AbandonDialog abandon) =
      abandon_dialog_told OutFits allows event abandon (side_of call)

  ticked_fits : (call : Call) (now : ℕ) → Fit (ticked call now).1
  ticked_fits call now =
      let first = by_server call (tick_taken call.served now) in
      both OutFits first.1 (clients_ticked (side_of first.0) now).1
      (server_tick OutFits Any Any allows_served any_own call.served now
      (any_state call.served)).1
      (clients_tick OutFits allows (side_of first.0) now)

  taken_fits : (calls : Calls) (state : Option Call) (input : Option CallItem) (now : ℕ)
      → InputFits input → Fit (step_taken calls state input now).1
  taken_fits calls None None now fits = tt
  taken_fits calls (Some call) None now fits = ticked_fits call now
  taken_fits calls None (Some (event, Up up)) now fits =
      up_fits (new_call calls.local) (event_of calls event now) up up.kind fits
  taken_fits calls (Some call) (Some (event, Up up)) now fits =
      up_fits call (event_of calls event now) up up.kind fits
  taken_fits calls None (Some (event, User command)) now fits =
      first_fits (new_call calls.local) (event_of calls event now) command
  taken_fits calls (Some call) (Some (event, User command)) now fits =
      user_fits call (event_of calls event now) command

  pub step_fits : (calls : Calls) (state : Option Call) (input : Option CallItem) (now : ℕ)
      → InputFits input → Fit (call_step calls state input now).1
  step_fits calls state input now fits =
      subst (λ (taken : Taken). Fit taken.1) (sym (same_step calls state input now))
      (taken_fits calls state input now fits)

  -- ---- all inputs

  pub all_fit : (calls : Calls) (call_id : List ℕ) (state : Option Call)
      (inputs : List (Timed CallItem))
      → AllByRecursion (λ timed. InputFits timed.input) inputs
      → AllByRecursion OutFits (outputs_from (call_machine calls) call_id state inputs)
  all_fit calls call_id state [] fit = tt
  all_fit calls call_id state (timed ∷ inputs) fit =
      let step = call_step calls state timed.input timed.moment in
      both OutFits step.1 (outputs_from (call_machine calls) call_id step.0 inputs)
      (step_fits calls state timed.input timed.moment fit.0)
      (all_fit calls call_id step.0 inputs fit.1)

-- ---- whatever comes

abbrev AnyResponse : List ℕ → Id → ℕ → List ℕ → List ℕ → List ℕ → Type 0
AnyResponse call_id id status local_tag remote_tag body = Unit {0}

any_tells : (call_id : List ℕ) (id : Id) (k : UpKind) → KindTells AnyResponse call_id id k
any_tells call_id id (kind.Request request reply_to) = tt
any_tells call_id id (kind.Ack ack) = tt
any_tells call_id id (kind.Response response) = λ status is. tt
any_tells call_id id kind.Timeout = tt
any_tells call_id id kind.Failed = tt

any_input : (input : Option CallItem) → InputFits AnyResponse input
any_input None = tt
any_input (Some (event, Up up)) = any_tells up.call_id up.id up.kind
any_input (Some (event, User command)) = tt

any_inputs : (inputs : List (Timed CallItem))
    → AllByRecursion (λ timed. InputFits AnyResponse timed.input) inputs
any_inputs [] = tt
any_inputs (timed ∷ inputs) = (any_input timed.input, any_inputs inputs)

abbrev pub GivesUpClients : CallOut → Type 0
GivesUpClients = OutFits AnyResponse

pub gives_up_clients : (calls : Calls) (call_id : List ℕ) (state : Option Call)
    (inputs : List (Timed CallItem))
    → AllByRecursion GivesUpClients (outputs_from (call_machine calls) call_id state inputs)
gives_up_clients calls call_id state inputs =
    all_fit AnyResponse calls call_id state inputs (any_inputs inputs)
