-- What a call tells its user of: requests that come up to it, and ACKs, PRACKs and CANCELs only of
-- INVITEs that came up.
use Rattle.std.proofs.Common.{ℕ, Bool, true, false, cond, List, [], ◌∷◌, sym, subst}
use Rattle.std.specs.Prelude.{IfSome, Option, None, Some}
use Rattle.std.specs.List.{AllByRecursion}
use Rattle.sip_message.specs.declared.id.Id.{Id}
use Rattle.sip_message.specs.declared.message.Message.{Message}
use Rattle.keyed_machine.specs.Machine.{Timed, outputs_from}
use Rattle.sip_transactions.specs.declared.output.UpKind.{UpKind}
use Rattle.sip_transactions.specs.declared.output.UpKind.TheVariants as kind
use Rattle.sip_transactions.specs.declared.output.Up.{Up as AnUp}
use Rattle.sip_held_dialogs.proofs.Each.{both}
use Rattle.sip_user.specs.declared.command.UserCommand.{UserCommand}
use Rattle.sip_user.specs.declared.command.UserCommand.TheVariants as user
use Rattle.sip_user.specs.declared.item.CallOut.{CallOut}
use Rattle.sip_user.specs.declared.item.Item.TheVariants.{Up, User}
use Rattle.sip_user.specs.declared.notice.Notice.{Notice}
use Rattle.sip_user.specs.declared.notice.Notice.TheVariants as notice
use Rattle.sip_served.specs.Tick.{tick_taken}
use Rattle.sip_served.specs.declared.arrival.Arrival.{Arrival}
use Rattle.sip_clients.specs.Name.{name_of}
use Rattle.sip_clients.specs.Outputs.{start_command}
use Rattle.sip_clients.specs.Tick.{clients_ticked}
use Rattle.sip_clients.specs.declared.client.Client.{Client}
use Rattle.sip_clients.specs.declared.event.Event.{Event}
use Rattle.sip_clients.proofs.ClientOuts.{Allows, abandon_dialog_told, abandon_request_told, ack_command_told, cancel_told, clients_tick, command_told, invite_told, lost_told, plain_told, prack_command_told, response_told}
use Rattle.sip_calls.specs.Call.{CallItem, Taken, call_machine, call_step, event_of, kept, made_tag, new_call}
use Rattle.sip_calls.specs.Sides.{by_server, holds_any, side_of}
use Rattle.sip_calls.specs.Steps.Call.{command_taken, first_command_taken, step_taken, ticked, up_taken}
use Rattle.sip_calls.specs.declared.call.Call.{Call}
use Rattle.sip_calls.specs.declared.calls.Calls.{Calls}
use Rattle.sip_calls.proofs.SameSteps.{same_step}
use Rattle.sip_conversation.proofs.Along.{Along}
use Rattle.sip_conversation.proofs.GivenTold.{OutTells}
use Rattle.sip_conversation.proofs.ServedReplies.{AllowsServed, IsOther, KindBrought, OwnReplies, RespondGiven, StateGiven, kind_fits, respond_fits, tick_fits}

module _ (Own : List ℕ → Type 0) (Brought : Arrival → Type 0) (AckCame : Message → Type 0)
    (Given : Arrival → Message → Type 0) (own : OwnReplies Brought Given)
    (Tells : Notice → Type 0)
    (served : AllowsServed Own Brought AckCame Given (OutTells Tells))
    (others : (told : Notice) → IsOther told → Tells told)
    (responses : (call_id : List ℕ) (id : Id) (status : ℕ) (local_tag remote_tag body : List ℕ)
    → Tells (notice.Response call_id id status local_tag remote_tag body)) where
  abbrev Tell : CallOut → Type 0
  Tell = OutTells Tells

  abbrev Fit : List CallOut → Type 0
  Fit outs = AllByRecursion Tell outs

  -- the answers that a call holds were given to requests that came up
  abbrev Holds : Call → Type 0
  Holds call = StateGiven Brought Given call.served

  abbrev Done : Call × List CallOut → Type 0
  Done taken = Holds taken.0 × Fit taken.1

  -- ---- the client side

  started_tells : (id : Id) (client : Client) → Tell (start_command id client)
  unfolding start_command
  started_tells id client = tt

  allows : Allows Tell
  allows = record {
    ended = λ held. others _ tt;
    refusal = λ call_id place why. others _ tt;
    sent = λ ack. tt;
    started = started_tells;
  }

  -- ---- one input

  abbrev CommandGives : List CallOut → UserCommand → Type 0
  CommandGives outs (user.Respond respond) = RespondGiven Brought Given respond outs
  CommandGives outs _ = Unit {0}

  abbrev pub InputTells : Calls → List CallOut → Option CallItem → Type 0
  InputTells calls outs None = Unit {0}
  InputTells calls outs (Some (event, Up up)) =
      KindBrought Own Brought AckCame (name_of calls.seed event 0) up up.kind
  InputTells calls outs (Some (event, User command)) = CommandGives outs command

  -- so for each input, from this state on
  abbrev pub AllTell : Calls → Option Call → List (Timed CallItem) → Type 0
  AllTell calls = Along (InputTells calls) calls

  up_tells : (call : Call) (event : Event) (up : AnUp) (k : UpKind)
      → KindBrought Own Brought AckCame (made_tag event) up k → Holds call
      → Done (up_taken call event up k)
  up_tells call event up (kind.Request request reply_to) came holds =
      kind_fits Own Brought AckCame Given Tell served own call.served (made_tag event) up
      (kind.Request request reply_to) event.moment came holds
  up_tells call event up (kind.Ack ack) came holds =
      kind_fits Own Brought AckCame Given Tell served own call.served (made_tag event) up
      (kind.Ack ack) event.moment came holds
  up_tells call event up (kind.Response response) came holds = (
    holds,
    response_told Tell allows event up.id up.call_id response (side_of call)
        (λ name status is. responses _ _ _ _ _ _),
  )
  up_tells call event up kind.Timeout came holds =
      (holds, (others _ tt, lost_told Tell allows up.id true (side_of call)))
  up_tells call event up kind.Failed came holds =
      (holds, (others _ tt, lost_told Tell allows up.id false (side_of call)))

  first_tells : (call : Call) (event : Event) (command : UserCommand) → Holds call
      → Done (first_command_taken call event command)
  first_tells call event (user.Invite invite) holds =
      (holds, invite_told Tell allows event invite call.clients)
  first_tells call event (user.Plain plain) holds =
      (holds, plain_told Tell allows event plain call.clients)
  first_tells call event (user.Request request) holds = (holds, (others _ tt, tt))
  first_tells call event (user.Respond respond) holds = (holds, (others _ tt, tt))
  first_tells call event (user.Ack ack) holds = (holds, (others _ tt, tt))
  first_tells call event (user.Prack prack) holds = (holds, (others _ tt, tt))
  first_tells call event (user.Cancel cancel) holds = (holds, (others _ tt, tt))
  first_tells call event (user.AbandonRequest abandon) holds = (holds, (others _ tt, tt))
  first_tells call event (user.AbandonDialog abandon) holds = (holds, (others _ tt, tt))

  command_tells : (call : Call) (event : Event) (command : UserCommand)
      → CommandGives (command_taken call event command).1 command
      → Holds call → Done (command_taken call event command)
  command_tells call event (user.Invite invite) gives holds = (holds, (others _ tt, tt))
  command_tells call event (user.Plain plain) gives holds = (holds, (others _ tt, tt))
  command_tells call event (user.Request request) gives holds =
      (holds, command_told Tell allows event request (side_of call))
  command_tells call event (user.Respond respond) gives holds =
      respond_fits Own Brought AckCame Given Tell served call.served event.id respond event.moment
      gives holds
  command_tells call event (user.Ack ack) gives holds =
      (holds, ack_command_told Tell allows event ack (side_of call))
  command_tells call event (user.Prack prack) gives holds =
      (holds, prack_command_told Tell allows event prack (side_of call))
  command_tells call event (user.Cancel cancel) gives holds =
      (holds, cancel_told Tell allows event cancel (side_of call))
  command_tells call event (user.AbandonRequest abandon) gives holds =
      (holds, abandon_request_told Tell allows event abandon (side_of call) (λ client. tt))
  command_tells call event (user.AbandonDialog abandon) gives holds =
      (holds, abandon_dialog_told Tell allows event abandon (side_of call))

  ticked_tells : (call : Call) (now : ℕ) → Holds call → Done (ticked call now)
  ticked_tells call now holds =
      let first = by_server call (tick_taken call.served now) in
      let so = tick_fits Own Brought AckCame Given Tell served call.served now holds in (
        so.0,
        both Tell first.1 (clients_ticked (side_of first.0) now).1 so.1
            (clients_tick Tell allows (side_of first.0) now),
      )

  abbrev HoldsHeld : Option Call → Type 0
  HoldsHeld held = IfSome held Holds

  abbrev After : Option Call × List CallOut → Type 0
  After taken = HoldsHeld taken.0 × Fit taken.1

  kept_by : (b : Bool) (call : Call) → Holds call → HoldsHeld (cond b (Some call) None)
  kept_by true call holds = holds
  kept_by false call holds = tt

  kept_tells : (taken : Call × List CallOut) → Done taken → After (kept taken)
  kept_tells taken done = (kept_by (holds_any taken.0) taken.0 done.0, done.1)

  taken_tells : (calls : Calls) (state : Option Call) (input : Option CallItem) (now : ℕ)
      → InputTells calls (step_taken calls state input now).1 input → HoldsHeld state
      → After (step_taken calls state input now)
  taken_tells calls None None now tells holds = (tt, tt)
  taken_tells calls (Some call) None now tells holds =
      kept_tells (ticked call now) (ticked_tells call now holds)
  taken_tells calls None (Some (event, Up up)) now tells holds =
      let call = new_call calls.local in
      kept_tells (up_taken call (event_of calls event now) up up.kind)
      (up_tells call (event_of calls event now) up up.kind tells tt)
  taken_tells calls (Some call) (Some (event, Up up)) now tells holds =
      kept_tells (up_taken call (event_of calls event now) up up.kind)
      (up_tells call (event_of calls event now) up up.kind tells holds)
  taken_tells calls None (Some (event, User command)) now tells holds =
      let call = new_call calls.local in
      kept_tells (first_command_taken call (event_of calls event now) command)
      (first_tells call (event_of calls event now) command tt)
  taken_tells calls (Some call) (Some (event, User command)) now tells holds =
      kept_tells (command_taken call (event_of calls event now) command)
      (command_tells call (event_of calls event now) command tells holds)

  step_tells : (calls : Calls) (state : Option Call) (input : Option CallItem) (now : ℕ)
      → InputTells calls (call_step calls state input now).1 input → HoldsHeld state
      → After (call_step calls state input now)
  step_tells calls state input now tells holds =
      let same = same_step calls state input now in
      subst (λ (taken : Taken). After taken) (sym same)
      (taken_tells calls state input now
      (subst (λ (taken : Taken). InputTells calls taken.1 input) same tells) holds)

  -- ---- all inputs

  pub all_tell : (calls : Calls) (call_id : List ℕ) (state : Option Call)
      (inputs : List (Timed CallItem))
      → AllTell calls state inputs → HoldsHeld state
      → AllByRecursion (OutTells Tells)
      (outputs_from (call_machine calls) call_id state inputs)
  all_tell calls call_id state [] tell holds = tt
  all_tell calls call_id state (timed ∷ inputs) tell holds =
      let step = call_step calls state timed.input timed.moment in
      let after = step_tells calls state timed.input timed.moment tell.0 holds in
      both Tell step.1 (outputs_from (call_machine calls) call_id step.0 inputs) after.1
      (all_tell calls call_id step.0 inputs tell.1 after.0)
