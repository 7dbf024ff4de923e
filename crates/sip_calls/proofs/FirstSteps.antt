-- Each input of a call: the latest RSeq of the first INVITE in a life of a dialog after it.
use Rattle.std.proofs.Common.{◌≡◌, ℕ, Bool, true, false, not, List, [], refl, sym, subst}
use Rattle.std.specs.Prelude.{Option, None, Some}
use Rattle.keyed_machine.specs.Machine.{Timed}
use Rattle.sip_message.specs.declared.id.Id.{Id}
use Rattle.sip_reliable.specs.Inbound.{in_order}
use Rattle.sip_transactions.specs.declared.output.UpKind.{UpKind}
use Rattle.sip_transactions.specs.declared.output.UpKind.TheVariants as kind
use Rattle.sip_transactions.specs.declared.output.Up.{Up as AnUp}
use Rattle.sip_user.specs.declared.command.UserCommand.{UserCommand}
use Rattle.sip_user.specs.declared.command.UserCommand.TheVariants.{Invite, Plain as PlainCommand, Request, Respond, Ack, Prack, Cancel, AbandonRequest, AbandonDialog}
use Rattle.sip_held_dialogs.specs.declared.held_dialog.DialogReference.{DialogReference}
use Rattle.sip_user.specs.declared.item.CallOut.{CallOut}
use Rattle.sip_user.specs.declared.item.Item.TheVariants.{Up, User}
use Rattle.sip_user.specs.declared.notice.Notice.{Notice}
use Rattle.sip_user.specs.declared.notice.Notice.TheVariants as notice
use Rattle.sip_held_dialogs.specs.Dialogs.{Dialogs, is_dialog_id}
use Rattle.sip_served.specs.Happenings.{accepts, answer_confirms, answer_opens}
use Rattle.sip_served.proofs.DialogSteps.{ack_leads as server_ack, request_leads as server_request, respond_moves}
use Rattle.sip_held_dialogs.proofs.Entries.{none_apart}
use Rattle.sip_held_dialogs.proofs.Heard.{AreApart, Leads, Lives, leads_filtered, leads_same, quiet}
use Rattle.sip_clients.specs.Client.{Side, client_at}
use Rattle.sip_clients.specs.Provisionals.{OfTheCall, reported_in}
use Rattle.sip_clients.specs.Tick.{ends_early_at}
use Rattle.sip_clients.proofs.Abandons as abandons
use Rattle.sip_clients.proofs.FirstSides.{ResultOf, ack_leads, ear, lost_leads, prack_leads, request_leads, requested_in, response_step, silent, silent_moves}
use Rattle.sip_clients.proofs.Hearing.{heard_in_order}
use Rattle.sip_calls.specs.declared.call.Call.{Call}
use Rattle.sip_calls.specs.declared.calls.Calls.{Calls}
use Rattle.sip_calls.specs.Call.{Taken, CallItem, call_step, event_of, kept, made_tag, new_call}
use Rattle.sip_calls.specs.Provisionals.{EventsDiffer, came, done, event_in, event_of_kind, number_in, number_in_life, number_up, reported, side_held}
use Rattle.sip_calls.specs.Sides.{CallTaken, side_of}
use Rattle.sip_calls.specs.Steps.Call.{step_taken, command_taken, first_command_taken, lost_taken, ticked, up_taken}
use Rattle.sip_calls.proofs.SameSteps.{same_step}
use Rattle.sip_calls.proofs.KeptSides.{kept_side}

module _ (life : DialogReference) where
  -- ---- all that happens

  abbrev dialogs_of : Call → Dialogs
  dialogs_of call = (call.served).dialogs

  abbrev Step : Option Id → Option ℕ → Dialogs → CallTaken → Type 0
  Step event number before taken = ResultOf life event before (dialogs_of taken.0) number taken.1

  lost_step : (call : Call) (id : Id) (notice : Notice) (timed_out : Bool)
      → AreApart (dialogs_of call) → Step None None (dialogs_of call)
      (lost_taken call id notice timed_out)
  lost_step call id notice timed_out apart =
      let taken = lost_taken call id notice timed_out in
      silent life None quiet (dialogs_of call) (dialogs_of taken.0) taken.1
      (lost_leads id timed_out (client_at id call.clients) (side_of call) apart)

  leads_of : (id : Id) (call : Call) (taken : CallTaken) (lived : Lives)
      → Leads lived (dialogs_of call) (dialogs_of taken.0)
      → Step (Some id) None (dialogs_of call) taken
  leads_of id call taken lived leads =
      silent life (Some id) lived (dialogs_of call) (dialogs_of taken.0) taken.1 leads

  up_step : (call : Call) (calls : Calls) (id : Id) (now : ℕ) (up : AnUp) (k : UpKind)
      → AreApart (dialogs_of call)
      → Step (event_of_kind id k) (number_up OfTheCall life up.id k (side_of call))
      (dialogs_of call) (up_taken call (event_of calls id now) up k)
  up_step call calls id now up (kind.Request request reply_to) apart =
      let of = event_of calls id now in
      let k = kind.Request request reply_to in
      leads_of id call (up_taken call of up k) (accepts request)
      (server_request call.served (made_tag of) up request reply_to now apart)
  up_step call calls id now up (kind.Ack ack) apart =
      leads_of id call (up_taken call (event_of calls id now) up (kind.Ack ack)) quiet
      (server_ack call.served up.call_id ack apart)
  up_step call calls id now up (kind.Response response) apart =
      response_step life (Some id) (event_of calls id now) refl up.id up.call_id response
      (side_of call) apart
  up_step call calls id now up kind.Timeout apart =
      lost_step call up.id (notice.Timeout up.call_id up.id) true apart
  up_step call calls id now up kind.Failed apart =
      lost_step call up.id (notice.Failed up.call_id up.id) false apart

  no_leads : (id : Id) (call : Call) (outs : List CallOut) → AreApart (dialogs_of call)
      → ResultOf life (Some id) (dialogs_of call) (dialogs_of call) None outs
  no_leads id call outs apart = silent life (Some id) quiet (dialogs_of call) (dialogs_of call) outs
      (leads_same (dialogs_of call) apart)

  first_command_step : (call : Call) (calls : Calls) (id : Id) (now : ℕ) (command : UserCommand)
      → AreApart (dialogs_of call)
      → Step (Some id) None (dialogs_of call)
      (first_command_taken call (event_of calls id now) command)
  first_command_step call calls id now (Invite invite) apart = no_leads id call _ apart
  first_command_step call calls id now (PlainCommand plain) apart = no_leads id call _ apart
  first_command_step call calls id now (Request request) apart = no_leads id call _ apart
  first_command_step call calls id now (Respond respond) apart = no_leads id call _ apart
  first_command_step call calls id now (Ack ack) apart = no_leads id call _ apart
  first_command_step call calls id now (Prack prack) apart = no_leads id call _ apart
  first_command_step call calls id now (Cancel cancel) apart = no_leads id call _ apart
  first_command_step call calls id now (AbandonRequest abandon) apart = no_leads id call _ apart
  first_command_step call calls id now (AbandonDialog abandon) apart = no_leads id call _ apart

  command_step : (call : Call) (calls : Calls) (id : Id) (now : ℕ) (command : UserCommand)
      → AreApart (dialogs_of call)
      → Step (Some id) None (dialogs_of call) (command_taken call (event_of calls id now) command)
  command_step call calls id now (Invite invite) apart = no_leads id call _ apart
  command_step call calls id now (PlainCommand plain) apart = no_leads id call _ apart
  command_step call calls id now (Request request) apart =
      leads_of id call (command_taken call (event_of calls id now) (Request request))
      (requested_in request) (request_leads (event_of calls id now) request (side_of call) apart)
  command_step call calls id now (Respond respond) apart =
      let taken = command_taken call (event_of calls id now) (Respond respond) in
      silent_moves life (Some id) (answer_opens call.served respond)
      (answer_confirms call.served respond taken.1) (λ name. []) (dialogs_of call)
      (dialogs_of taken.0) taken.1 (respond_moves id call.served respond now apart)
  command_step call calls id now (Ack ack) apart =
      leads_of id call (command_taken call (event_of calls id now) (Ack ack)) _
      (ack_leads (event_of calls id now) ack (side_of call) apart)
  command_step call calls id now (Prack prack) apart =
      leads_of id call (command_taken call (event_of calls id now) (Prack prack)) _
      (prack_leads (event_of calls id now) prack (side_of call) apart)
  command_step call calls id now (Cancel cancel) apart = no_leads id call _ apart
  command_step call calls id now (AbandonRequest abandon) apart =
      leads_of id call (command_taken call (event_of calls id now) (AbandonRequest abandon)) quiet
      (abandons.request_leads (event_of calls id now) abandon (side_of call) apart)
  command_step call calls id now (AbandonDialog abandon) apart =
      leads_of id call (command_taken call (event_of calls id now) (AbandonDialog abandon)) quiet
      (abandons.dialog_leads (event_of calls id now) abandon (side_of call) apart)

  tick_step : (call : Call) (now : ℕ) → AreApart (dialogs_of call)
      → Step None None (dialogs_of call) (ticked call now)
  tick_step call now apart =
      let taken = ticked call now in
      silent life None quiet (dialogs_of call) (dialogs_of taken.0) taken.1
      (leads_filtered (λ held. not (ends_early_at now call.clients held)) (dialogs_of call) apart)

  -- ---- all of it

  abbrev KeptStep : Option Id → Option ℕ → Dialogs → Option Call × List CallOut → Type 0
  KeptStep event number before taken =
      ResultOf life event before (side_held taken.0).dialogs number taken.1

  kept_step : (event : Option Id) (number : Option ℕ) (before : Dialogs) (taken : CallTaken)
      → Step event number before taken → KeptStep event number before (kept taken)
  kept_step event number before taken step =
      subst (λ (side : Side). ResultOf life event before side.dialogs number taken.1)
      (sym (kept_side taken.0)) step

  by_input_taken : (calls : Calls) (state : Option Call) (input : Option CallItem) (now : ℕ)
      → AreApart (side_held state).dialogs
      → KeptStep (event_in input) (number_in OfTheCall life input (side_held state))
      (side_held state).dialogs (step_taken calls state input now)
  by_input_taken calls None None now apart =
      silent life None quiet [] [] [] (leads_same [] apart)
  by_input_taken calls (Some call) None now apart =
      kept_step None None (dialogs_of call) (ticked call now) (tick_step call now apart)
  by_input_taken calls None (Some (id, Up up)) now apart =
      let call = new_call calls.local in
      kept_step (event_of_kind id up.kind) (number_up OfTheCall life up.id up.kind (side_of call))
      (dialogs_of call) (up_taken call (event_of calls id now) up up.kind)
      (up_step call calls id now up up.kind apart)
  by_input_taken calls None (Some (id, User command)) now apart =
      let call = new_call calls.local in
      kept_step (Some id) None (dialogs_of call)
      (first_command_taken call (event_of calls id now) command)
      (first_command_step call calls id now command apart)
  by_input_taken calls (Some call) (Some (id, Up up)) now apart =
      kept_step (event_of_kind id up.kind) (number_up OfTheCall life up.id up.kind (side_of call))
      (dialogs_of call) (up_taken call (event_of calls id now) up up.kind)
      (up_step call calls id now up up.kind apart)
  by_input_taken calls (Some call) (Some (id, User command)) now apart =
      kept_step (Some id) None (dialogs_of call)
      (command_taken call (event_of calls id now) command)
      (command_step call calls id now command apart)

  by_input : (calls : Calls) (state : Option Call) (input : Option CallItem) (now : ℕ)
      → AreApart (side_held state).dialogs
      → KeptStep (event_in input) (number_in OfTheCall life input (side_held state))
      (side_held state).dialogs (call_step calls state input now)
  by_input calls state input now apart =
      subst (λ (taken : Taken). KeptStep (event_in input)
      (number_in OfTheCall life input (side_held state))
      (side_held state).dialogs taken)
      (sym (same_step calls state input now)) (by_input_taken calls state input now apart)

  pub first_in_order : (calls : Calls) (inputs : List (Timed CallItem)) → EventsDiffer inputs
      → reported calls OfTheCall life inputs ≡ in_order (came calls OfTheCall life inputs)
  first_in_order calls inputs differ =
      heard_in_order (λ state input. (done calls OfTheCall life state input).0)
      (λ timed. event_in timed.input) (number_in_life calls OfTheCall life)
      (λ state input. reported_in (number_in_life calls OfTheCall life state input)
      (done calls OfTheCall life state input).1) (λ state. ear life (side_held state).dialogs)
      (λ state. AreApart (side_held state).dialogs) life.created_by
      (λ state timed apart _. by_input calls state timed.input timed.moment apart) inputs None
      (none_apart is_dialog_id) differ refl
