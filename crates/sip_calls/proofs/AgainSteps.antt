-- Each input of a call: the latest RSeq of an INVITE in a life of a dialog after it.
use Rattle.std.proofs.Common.{◌≡◌, ℕ, Bool, true, false, List, [], refl, sym, subst}
use Rattle.std.specs.Prelude.{Option, None, Some}
use Rattle.keyed_machine.specs.Machine.{Timed}
use Rattle.sip_message.specs.declared.id.Id.{Id}
use Rattle.sip_reliable.specs.Inbound.{in_order}
use Rattle.sip_transactions.specs.declared.output.UpKind.{UpKind}
use Rattle.sip_transactions.specs.declared.output.UpKind.TheVariants as kind
use Rattle.sip_transactions.specs.declared.output.Up.{Up as AnUp}
use Rattle.sip_user.specs.declared.command.UserCommand.{UserCommand}
use Rattle.sip_user.specs.declared.command.UserCommand.TheVariants.{Invite, Plain as PlainCommand, Request, Respond, Ack, Prack, Cancel, AbandonRequest, AbandonDialog}
use Rattle.sip_held_dialogs.specs.declared.held_dialog.DialogReference.{DialogReference}
use Rattle.sip_user.specs.declared.item.CallOut.{CallOut}
use Rattle.sip_user.specs.declared.item.Item.TheVariants.{Up, User}
use Rattle.sip_user.specs.declared.notice.Notice.{Notice}
use Rattle.sip_user.specs.declared.notice.Notice.TheVariants as notice
use Rattle.sip_held_dialogs.specs.Ids.{is_id}
use Rattle.sip_held_dialogs.proofs.Entries.{none_apart}
use Rattle.sip_clients.specs.Client.{Clients, Side, client_at}
use Rattle.sip_clients.specs.Provisionals.{InTheDialog, reported_in}
use Rattle.sip_clients.proofs.Abandons as abandons
use Rattle.sip_clients.proofs.AgainInvite.{AgainResult, AreApart, Keeps, ear_of, keeps_ack, keeps_cancel, keeps_invite, keeps_lost, keeps_plain, keeps_prack, keeps_request, keeps_same, keeps_tick, silent_result}
use Rattle.sip_clients.proofs.AgainSides.{response_again}
use Rattle.sip_clients.proofs.Hearing.{heard_in_order}
use Rattle.sip_calls.specs.declared.call.Call.{Call}
use Rattle.sip_calls.specs.declared.calls.Calls.{Calls}
use Rattle.sip_calls.specs.Call.{Taken, CallItem, call_step, event_of, kept, new_call}
use Rattle.sip_calls.specs.Provisionals.{EventsDiffer, came, done, event_in, event_of_kind, number_in, number_in_life, number_up, reported, side_held}
use Rattle.sip_calls.specs.Sides.{CallTaken, side_of}
use Rattle.sip_calls.specs.Steps.Call.{step_taken, command_taken, first_command_taken, lost_taken, ticked, up_taken}
use Rattle.sip_calls.proofs.SameSteps.{same_step}
use Rattle.sip_calls.proofs.KeptSides.{kept_side}

module _ (life : DialogReference) (invite : Id) where
  abbrev Result : Option Id → Option ℕ → Clients → Side → List CallOut → Type 0
  Result event number before after outs =
      AgainResult life invite event before after.dialogs after.clients number outs

  abbrev Step : Option Id → Option ℕ → Clients → CallTaken → Type 0
  Step event number before taken = Result event number before (side_of taken.0) taken.1

  -- if the event is that of the INVITE, no such INVITE is held before
  abbrev Once : Option Id → Clients → Type 0
  Once event clients = event ≡ Some invite → ear_of life invite clients ≡ None

  silent : (event : Option Id) (before : Clients) (after : Side) (outs : List CallOut)
      → Keeps life invite event before after.clients → Result event None before after outs
  silent event before after outs keeps =
      silent_result life invite event before after.clients after.dialogs outs keeps

  lost_step : (call : Call) (id : Id) (notice : Notice) (timed_out : Bool)
      → AreApart call.clients → Step None None call.clients (lost_taken call id notice timed_out)
  lost_step call id notice timed_out apart =
      let taken = lost_taken call id notice timed_out in
      silent None call.clients (side_of taken.0) taken.1
      (keeps_lost life invite None id timed_out (client_at id call.clients) (side_of call) apart)

  unchanged : (event : Option Id) (call after : Call) (outs : List CallOut) → AreApart call.clients
      → after.clients ≡ call.clients → Result event None call.clients (side_of after) outs
  unchanged event call after outs apart same =
      silent event call.clients (side_of after) outs
      (subst (Keeps life invite event call.clients) (sym same)
      (keeps_same life invite event call.clients apart))

  up_step : (call : Call) (calls : Calls) (id : Id) (now : ℕ) (up : AnUp) (k : UpKind)
      → AreApart call.clients → Once (event_of_kind id k) call.clients
      → Step (event_of_kind id k) (number_up (InTheDialog invite) life up.id k (side_of call))
      call.clients (up_taken call (event_of calls id now) up k)
  up_step call calls id now up (kind.Request request reply_to) apart once =
      let taken = up_taken call (event_of calls id now) up (kind.Request request reply_to) in
      unchanged (Some id) call taken.0 taken.1 apart refl
  up_step call calls id now up (kind.Ack ack) apart once =
      let taken = up_taken call (event_of calls id now) up (kind.Ack ack) in
      unchanged (Some id) call taken.0 taken.1 apart refl
  up_step call calls id now up (kind.Response response) apart once =
      response_again life invite (Some id) (event_of calls id now) refl up.id up.call_id response
      (side_of call) apart once
  up_step call calls id now up kind.Timeout apart once =
      lost_step call up.id (notice.Timeout up.call_id up.id) true apart
  up_step call calls id now up kind.Failed apart once =
      lost_step call up.id (notice.Failed up.call_id up.id) false apart

  -- ---- a command of the user, and a tick

  keeps_of : (id : Id) (call : Call) (taken : CallTaken)
      → Keeps life invite (Some id) call.clients (taken.0).clients
      → Step (Some id) None call.clients taken
  keeps_of id call taken keeps = silent (Some id) call.clients (side_of taken.0) taken.1 keeps

  nothing : (id : Id) (call : Call) (outs : List CallOut) → AreApart call.clients
      → Step (Some id) None call.clients (call, outs)
  nothing id call outs apart =
      keeps_of id call (call, outs) (keeps_same life invite (Some id) call.clients apart)

  first_command_step : (call : Call) (calls : Calls) (id : Id) (now : ℕ) (command : UserCommand)
      → AreApart call.clients
      → Step (Some id) None call.clients (first_command_taken call (event_of calls id now) command)
  first_command_step call calls id now (Invite invite_command) apart =
      keeps_of id call (first_command_taken call (event_of calls id now) (Invite invite_command))
      (keeps_invite life invite (Some id)
      (event_of calls id now) invite_command refl call.clients apart)
  first_command_step call calls id now (PlainCommand plain) apart =
      keeps_of id call (first_command_taken call (event_of calls id now) (PlainCommand plain))
      (keeps_plain life invite (Some id) (event_of calls id now) plain refl call.clients apart)
  first_command_step call calls id now (Request request) apart = nothing id call _ apart
  first_command_step call calls id now (Respond respond) apart = nothing id call _ apart
  first_command_step call calls id now (Ack ack) apart = nothing id call _ apart
  first_command_step call calls id now (Prack prack) apart = nothing id call _ apart
  first_command_step call calls id now (Cancel cancel) apart = nothing id call _ apart
  first_command_step call calls id now (AbandonRequest abandon) apart = nothing id call _ apart
  first_command_step call calls id now (AbandonDialog abandon) apart = nothing id call _ apart

  command_step : (call : Call) (calls : Calls) (id : Id) (now : ℕ) (command : UserCommand)
      → AreApart call.clients
      → Step (Some id) None call.clients (command_taken call (event_of calls id now) command)
  command_step call calls id now (Invite invite_command) apart = nothing id call _ apart
  command_step call calls id now (PlainCommand plain) apart = nothing id call _ apart
  command_step call calls id now (Request request) apart =
      keeps_of id call (command_taken call (event_of calls id now) (Request request))
      (keeps_request life invite (Some id) (event_of calls id now) request refl
      (side_of call) apart)
  command_step call calls id now (Respond respond) apart =
      let taken = command_taken call (event_of calls id now) (Respond respond) in
      unchanged (Some id) call taken.0 taken.1 apart refl
  command_step call calls id now (Ack ack) apart =
      keeps_of id call (command_taken call (event_of calls id now) (Ack ack))
      (keeps_ack life invite (Some id) (event_of calls id now) ack (side_of call) apart)
  command_step call calls id now (Prack prack) apart =
      keeps_of id call (command_taken call (event_of calls id now) (Prack prack))
      (keeps_prack life invite (Some id) (event_of calls id now) prack refl
      (side_of call) apart)
  command_step call calls id now (Cancel cancel) apart =
      keeps_of id call (command_taken call (event_of calls id now) (Cancel cancel))
      (keeps_cancel life invite (Some id) (event_of calls id now) cancel (side_of call) apart)
  command_step call calls id now (AbandonRequest abandon) apart =
      keeps_of id call (command_taken call (event_of calls id now) (AbandonRequest abandon))
      (abandons.request_keeps life invite (Some id) (event_of calls id now) abandon
      (side_of call) apart)
  command_step call calls id now (AbandonDialog abandon) apart =
      keeps_of id call (command_taken call (event_of calls id now) (AbandonDialog abandon))
      (abandons.dialog_keeps life invite (Some id) (event_of calls id now) abandon
      (side_of call) apart)

  tick_step : (call : Call) (now : ℕ) → AreApart call.clients
      → Step None None call.clients (ticked call now)
  tick_step call now apart =
      let taken = ticked call now in
      silent None call.clients (side_of taken.0) taken.1
      (keeps_tick life invite None now call.clients apart)

  -- ---- all of it

  abbrev KeptStep : Option Id → Option ℕ → Clients → Option Call × List CallOut → Type 0
  KeptStep event number before taken = Result event number before (side_held taken.0) taken.1

  kept_step : (event : Option Id) (number : Option ℕ) (before : Clients) (taken : CallTaken)
      → Step event number before taken → KeptStep event number before (kept taken)
  kept_step event number before taken step =
      subst (λ (side : Side). Result event number before side taken.1)
      (sym (kept_side taken.0)) step

  by_input_taken : (calls : Calls) (state : Option Call) (input : Option CallItem) (now : ℕ)
      → AreApart (side_held state).clients → Once (event_in input) (side_held state).clients
      → KeptStep (event_in input)
      (number_in (InTheDialog invite) life input (side_held state)) (side_held state).clients
      (step_taken calls state input now)
  by_input_taken calls None None now apart once =
      silent None [] (side_held None) [] (keeps_same life invite None [] apart)
  by_input_taken calls (Some call) None now apart once =
      kept_step None None call.clients (ticked call now) (tick_step call now apart)
  by_input_taken calls None (Some (id, Up up)) now apart once =
      let call = new_call calls.local in
      kept_step (event_of_kind id up.kind)
      (number_up (InTheDialog invite) life up.id up.kind (side_of call)) call.clients
      (up_taken call (event_of calls id now) up up.kind)
      (up_step call calls id now up up.kind apart once)
  by_input_taken calls None (Some (id, User command)) now apart once =
      let call = new_call calls.local in
      kept_step (Some id) None call.clients
      (first_command_taken call (event_of calls id now) command)
      (first_command_step call calls id now command apart)
  by_input_taken calls (Some call) (Some (id, Up up)) now apart once =
      kept_step (event_of_kind id up.kind)
      (number_up (InTheDialog invite) life up.id up.kind (side_of call)) call.clients
      (up_taken call (event_of calls id now) up up.kind)
      (up_step call calls id now up up.kind apart once)
  by_input_taken calls (Some call) (Some (id, User command)) now apart once =
      kept_step (Some id) None call.clients (command_taken call (event_of calls id now) command)
      (command_step call calls id now command apart)

  by_input : (calls : Calls) (state : Option Call) (input : Option CallItem) (now : ℕ)
      → AreApart (side_held state).clients → Once (event_in input) (side_held state).clients
      → KeptStep (event_in input)
      (number_in (InTheDialog invite) life input (side_held state)) (side_held state).clients
      (call_step calls state input now)
  by_input calls state input now apart once =
      subst (λ (taken : Taken). KeptStep (event_in input)
      (number_in (InTheDialog invite) life input (side_held state)) (side_held state).clients taken)
      (sym (same_step calls state input now)) (by_input_taken calls state input now apart once)

  pub again_in_order : (calls : Calls) (inputs : List (Timed CallItem)) → EventsDiffer inputs
      → reported calls (InTheDialog invite) life inputs
      ≡ in_order (came calls (InTheDialog invite) life inputs)
  again_in_order calls inputs differ =
      heard_in_order (λ state input. (done calls (InTheDialog invite) life state input).0)
      (λ timed. event_in timed.input) (number_in_life calls (InTheDialog invite) life)
      (λ state input. reported_in (number_in_life calls (InTheDialog invite) life state input)
      (done calls (InTheDialog invite) life state input).1)
      (λ state. ear_of life invite (side_held state).clients)
      (λ state. AreApart (side_held state).clients) invite
      (λ state timed apart once. by_input calls state timed.input timed.moment apart once)
      inputs None (none_apart is_id) differ refl
