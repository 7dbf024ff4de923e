-- Only the input that brings a request tells the user of it, once.
use Rattle.std.proofs.Common.{◌≡◌, ℕ, ◌≤◌, Bool, true, false, cond, List, [], ◌++◌, refl, sym, ap, subst, ◌∙◌, append-nil, arith}
use Rattle.std.specs.Prelude.{Option, None, Some, count_by}
use Rattle.std.proofs.lemmas.List.Elements.{filter_map-append}
use Rattle.sip_message.specs.declared.id.Id.{Id}
use Rattle.sip_transactions.specs.declared.output.UpKind.{UpKind}
use Rattle.sip_transactions.specs.declared.output.UpKind.TheVariants as kind
use Rattle.sip_transactions.specs.declared.output.Up.{Up as AnUp}
use Rattle.sip_user.specs.declared.command.UserCommand.{UserCommand}
use Rattle.sip_user.specs.declared.command.UserCommand.TheVariants.{Invite, Plain, Request, Respond, Ack, Prack, Cancel, AbandonRequest, AbandonDialog}
use Rattle.sip_user.specs.declared.item.CallOut.{CallOut}
use Rattle.sip_user.specs.declared.item.Item.{Item}
use Rattle.sip_user.specs.declared.item.Item.TheVariants.{Up, User}
use Rattle.sip_served.specs.Run.{Takes, Ticks}
use Rattle.sip_user.specs.Notices.{request_told_by}
use Rattle.sip_served.specs.ForUser.{is_request}
use Rattle.sip_held_dialogs.specs.Ids.{is_id}
use Rattle.sip_served.specs.Tick as served
use Rattle.sip_served.proofs.Shows.{told_often}
use Rattle.sip_clients.specs.Tick as clients
use Rattle.sip_clients.specs.declared.event.Event.{Event}
use Rattle.sip_held_dialogs.proofs.ToldRequests.{reported as asked_in}
use Rattle.sip_clients.proofs.Abandons as abandons
use Rattle.sip_clients.proofs.NoRequests.{ack_command_asks, cancel_asks, invite_asks, lost_asks, plain_asks, prack_command_asks, request_asks, response_asks, tick_asks}
use Rattle.sip_calls.specs.declared.call.Call.{Call}
use Rattle.sip_calls.specs.declared.calls.Calls.{Calls}
use Rattle.sip_calls.specs.Call.{Taken, CallItem, call_step, event_of, made_tag, new_call}
use Rattle.sip_calls.specs.Requests.{EachToldOnce, comes_up_by, tells_of}
use Rattle.sip_calls.specs.Sides.{by_server, side_of}
use Rattle.sip_calls.specs.Steps.Call.{step_taken, command_taken, first_command_taken, ticked, up_taken}
use Rattle.sip_calls.proofs.SameSteps.{same_step}

module _ (id : Id) where
  abbrev Few : List CallOut → Bool → Type 0
  Few outs brought = tells_of id outs ≤ cond brought 1 0

  few_of_none : (outs : List CallOut) (brought : Bool) → asked_in outs ≡ [] → Few outs brought
  few_of_none outs brought none =
      let nothing : count_by (is_id id) [] ≡ 0 = refl in
      let told : tells_of id outs ≡ count_by (is_id id) [] =
      ap (λ ids. count_by (is_id id) ids) none in
      omega (arith, nothing, told)

  few_then_none : (outs more : List CallOut) (brought : Bool) → Few outs brought
      → asked_in more ≡ [] → Few (outs ++ more) brought
  few_then_none outs more brought few none =
      subst (λ ids. count_by (is_id id) ids ≤ cond brought 1 0)
      (sym (filter_map-append request_told_by outs more
      ∙ ap (λ ids. asked_in outs ++ ids) none ∙ append-nil (asked_in outs))) few

  -- ---- what comes up

  -- what is handed up, as an event of the server side
  abbrev with_kind : AnUp → UpKind → Item
  with_kind up k = Up (record up { kind = k })

  up_few : (call : Call) (event : Event) (up : AnUp) (k : UpKind)
      → Few (up_taken call event up k).1 (is_request k (is_id id up.id))
  up_few call event up (kind.Request request reply_to) =
      let item = with_kind up (kind.Request request reply_to) in
      told_often call.served (Takes (made_tag event) event.id item event.moment) id
  up_few call event up (kind.Ack ack) =
      let item = with_kind up (kind.Ack ack) in
      told_often call.served (Takes (made_tag event) event.id item event.moment) id
  up_few call event up (kind.Response response) =
      few_of_none (up_taken call event up (kind.Response response)).1 false
      (response_asks event up.id up.call_id response (side_of call))
  up_few call event up kind.Timeout =
      few_of_none (up_taken call event up kind.Timeout).1 false
      (lost_asks up.id true (side_of call))
  up_few call event up kind.Failed =
      few_of_none (up_taken call event up kind.Failed).1 false
      (lost_asks up.id false (side_of call))

  -- ---- commands of the user, and a tick

  first_command_few : (call : Call) (event : Event) (command : UserCommand)
      → Few (first_command_taken call event command).1 false
  first_command_few call event (Invite invite) =
      few_of_none (first_command_taken call event (Invite invite)).1
      false (invite_asks event invite call.clients)
  first_command_few call event (Plain plain) =
      few_of_none (first_command_taken call event (Plain plain)).1
      false (plain_asks event plain call.clients)
  first_command_few call event (Request request) =
      few_of_none (first_command_taken call event (Request request)).1 false refl
  first_command_few call event (Respond respond) =
      few_of_none (first_command_taken call event (Respond respond)).1 false refl
  first_command_few call event (Ack ack) =
      few_of_none (first_command_taken call event (Ack ack)).1 false refl
  first_command_few call event (Prack prack) =
      few_of_none (first_command_taken call event (Prack prack)).1 false refl
  first_command_few call event (Cancel cancel) =
      few_of_none (first_command_taken call event (Cancel cancel)).1 false refl
  first_command_few call event (AbandonRequest abandon) =
      few_of_none (first_command_taken call event (AbandonRequest abandon)).1 false refl
  first_command_few call event (AbandonDialog abandon) =
      few_of_none (first_command_taken call event (AbandonDialog abandon)).1 false refl

  command_few : (call : Call) (event : Event) (command : UserCommand)
      → Few (command_taken call event command).1 false
  command_few call event (Invite invite) =
      few_of_none (command_taken call event (Invite invite)).1 false refl
  command_few call event (Plain plain) =
      few_of_none (command_taken call event (Plain plain)).1 false refl
  command_few call event (Request request) =
      few_of_none (command_taken call event (Request request)).1
      false (request_asks event request (side_of call))
  command_few call event (Respond respond) =
      told_often call.served (Takes [] event.id (User (Respond respond)) event.moment) id
  command_few call event (Ack ack) =
      few_of_none (command_taken call event (Ack ack)).1
      false (ack_command_asks event ack (side_of call))
  command_few call event (Prack prack) =
      few_of_none (command_taken call event (Prack prack)).1
      false (prack_command_asks event prack (side_of call))
  command_few call event (Cancel cancel) =
      few_of_none (command_taken call event (Cancel cancel)).1
      false (cancel_asks event cancel (side_of call))
  command_few call event (AbandonRequest abandon) =
      few_of_none (command_taken call event (AbandonRequest abandon)).1
      false (abandons.request_asks event abandon (side_of call))
  command_few call event (AbandonDialog abandon) =
      few_of_none (command_taken call event (AbandonDialog abandon)).1
      false (abandons.dialog_asks event abandon (side_of call))

  ticked_few : (call : Call) (now : ℕ) → Few (ticked call now).1 false
  ticked_few call now =
      let first = by_server call (served.tick_taken call.served now) in
      few_then_none first.1 (clients.clients_ticked (side_of first.0) now).1 false
      (told_often call.served (Ticks now) id) (tick_asks (side_of first.0) now)

  -- ---- all of it

  step_few_taken : (calls : Calls) (state : Option Call) (input : Option CallItem) (now : ℕ)
      → Few (step_taken calls state input now).1 (comes_up_by id input)
  step_few_taken calls None None now = few_of_none [] false refl
  step_few_taken calls (Some call) None now = ticked_few call now
  step_few_taken calls None (Some (event, Up up)) now =
      up_few (new_call calls.local) (event_of calls event now) up up.kind
  step_few_taken calls (Some call) (Some (event, Up up)) now =
      up_few call (event_of calls event now) up up.kind
  step_few_taken calls None (Some (event, User command)) now =
      first_command_few (new_call calls.local) (event_of calls event now) command
  step_few_taken calls (Some call) (Some (event, User command)) now =
      command_few call (event_of calls event now) command

  step_few : (calls : Calls) (state : Option Call) (input : Option CallItem) (now : ℕ)
      → Few (call_step calls state input now).1 (comes_up_by id input)
  step_few calls state input now =
      subst (λ (taken : Taken). Few taken.1 (comes_up_by id input))
      (sym (same_step calls state input now)) (step_few_taken calls state input now)

pub each_told_once : EachToldOnce
each_told_once calls state input now id = step_few id calls state input now
