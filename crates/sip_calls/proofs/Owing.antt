-- For all inputs of a call: what is owed in a held dialog is what the outputs say.
use Rattle.std.proofs.Common.{◌≡◌, inl, inr, ℕ, Bool, true, false, not, List, [], ◌∷◌, refl, sym, ap, subst, ◌∙◌, append-nil}
use Rattle.std.specs.Prelude.{Option, None, Some, IfSome, if◌then◌else◌}
use Rattle.std.specs.List.{IsDistinct, cons_option}
use Rattle.keyed_machine.specs.Machine.{Timed}
use Rattle.sip_message.specs.declared.id.Id.{Id}
use Rattle.sip_transactions.specs.declared.output.UpKind.{UpKind}
use Rattle.sip_transactions.specs.declared.output.UpKind.TheVariants as kind
use Rattle.sip_transactions.specs.declared.output.Up.{Up as AnUp}
use Rattle.sip_user.specs.declared.command.UserCommand.{UserCommand}
use Rattle.sip_user.specs.declared.command.UserCommand.TheVariants.{Invite, Plain as PlainCommand, Request, Respond, Ack, Prack, Cancel, AbandonRequest, AbandonDialog}
use Rattle.sip_held_dialogs.specs.declared.pending_request.PendingRequest.{PendingRequest}
use Rattle.sip_held_dialogs.specs.declared.held_dialog.DialogId.{DialogId}
use Rattle.sip_held_dialogs.specs.declared.held_dialog.HeldDialog.{HeldDialog}
use Rattle.sip_user.specs.declared.item.CallOut.{CallOut}
use Rattle.sip_user.specs.declared.item.Item.TheVariants.{Up, User}
use Rattle.sip_held_dialogs.specs.Dialogs.{Dialogs, dialog_at}
use Rattle.sip_held_dialogs.specs.Ids.{is_id}
use Rattle.sip_held_dialogs.proofs.Heard.{AreApart, id_laws}
use Rattle.sip_held_dialogs.proofs.Owing.{OweSame, Owes, filtered_same, owes_as, same_owed, unchanged}
use Rattle.sip_served.proofs.Owing.{ack_same, request_same, respond_owes}
use Rattle.sip_clients.specs.Client.{Side, client_at}
use Rattle.sip_clients.specs.Tick.{ends_early_at}
use Rattle.sip_clients.proofs.Abandons as abandons
use Rattle.sip_clients.proofs.DialogSends.{AreNamed}
use Rattle.sip_clients.proofs.CommandDebts.{ack_pays, prack_pays_off, request_owes}
use Rattle.sip_clients.proofs.DialogDebts.{lost_owes}
use Rattle.sip_clients.proofs.ReplyDebts.{response_leaves}
use Rattle.sip_calls.specs.declared.call.Call.{Call}
use Rattle.sip_calls.specs.declared.calls.Calls.{Calls}
use Rattle.sip_calls.specs.Call.{Taken, CallItem, call_step, event_of, kept, made_tag, new_call}
use Rattle.sip_calls.specs.Histories.{History, call_from, history_after}
use Rattle.sip_calls.specs.Owing.{OwesAsTold, owed_by_command, owed_by_kind, owed_from, owed_in, owed_next}
use Rattle.sip_calls.specs.Provisionals.{event_in, event_of_kind, side_held}
use Rattle.sip_calls.specs.Sides.{CallTaken, side_of}
use Rattle.sip_calls.specs.Steps.Call.{step_taken, command_taken, first_command_taken, ticked, up_taken}
use Rattle.sip_calls.proofs.SameSteps.{same_step}
use Rattle.sip_calls.proofs.Histories.{Sound, Stands, are_named, born_of, ids_of, next_sound, none_yet, not_born, rest_differ}
use Rattle.sip_calls.proofs.KeptSides.{kept_side}
use Rattle.sip_calls.proofs.LifeSteps.{dialogs_of, first_none}

-- ---- one input

-- for each name what is owed changes in this way
abbrev OwesTo : Option Id → (DialogId → List PendingRequest → List PendingRequest) → Dialogs
    → Dialogs → Type 0
OwesTo event change before after =
    (name : DialogId) → Owes event (change name) (dialog_at name before) (dialog_at name after)

same_to : (event : Option Id) (before after : Dialogs) → OweSame before after
    → OwesTo event (λ name. unchanged) before after
same_to event before after same name = inl (same name)

up_owes : (call : Call) (calls : Calls) (id : Id) (now : ℕ) (up : AnUp) (k : UpKind)
    → AreApart (dialogs_of call) → AreNamed (dialogs_of call)
    → let taken = up_taken call (event_of calls id now) up k in
    OwesTo (event_of_kind id k) (λ name. owed_by_kind call up.id k name taken.1) (dialogs_of call)
    (dialogs_of taken.0)
up_owes call calls id now up (kind.Request request reply_to) apart named =
    let of = event_of calls id now in
    let taken = up_taken call of up (kind.Request request reply_to) in
    same_to (Some id) (dialogs_of call) (dialogs_of taken.0)
    (request_same call.served (made_tag of) up request reply_to now apart)
up_owes call calls id now up (kind.Ack ack) apart named =
    let taken = up_taken call (event_of calls id now) up (kind.Ack ack) in
    same_to (Some id) (dialogs_of call) (dialogs_of taken.0)
    (ack_same call.served up.call_id ack)
up_owes call calls id now up (kind.Response response) apart named =
    response_leaves (event_of calls id now) up.id up.call_id response (side_of call) apart named
up_owes call calls id now up kind.Timeout apart named =
    let taken = up_taken call (event_of calls id now) up kind.Timeout in
    same_to None (dialogs_of call) (dialogs_of taken.0)
    (lost_owes up.id true (client_at up.id call.clients) (side_of call) apart)
up_owes call calls id now up kind.Failed apart named =
    let taken = up_taken call (event_of calls id now) up kind.Failed in
    same_to None (dialogs_of call) (dialogs_of taken.0)
    (lost_owes up.id false (client_at up.id call.clients) (side_of call) apart)

command_owes : (call : Call) (calls : Calls) (id : Id) (now : ℕ) (command : UserCommand)
    → AreApart (dialogs_of call) → AreNamed (dialogs_of call)
    → let taken = command_taken call (event_of calls id now) command in
    OwesTo (Some id) (λ name. owed_by_command command name taken.1) (dialogs_of call)
    (dialogs_of taken.0)
command_owes call calls id now (Invite invite) apart named name =
    same_to (Some id) (dialogs_of call) (dialogs_of call) (same_owed (dialogs_of call)) name
command_owes call calls id now (PlainCommand plain) apart named name =
    same_to (Some id) (dialogs_of call) (dialogs_of call) (same_owed (dialogs_of call)) name
command_owes call calls id now (Request request) apart named name =
    let taken = command_taken call (event_of calls id now) (Request request) in
    same_to (Some id) (dialogs_of call) (dialogs_of taken.0)
    (request_owes (event_of calls id now) request (side_of call) apart) name
command_owes call calls id now (Respond respond) apart named name =
    respond_owes id call.served respond now apart name
command_owes call calls id now (Ack ack) apart named name =
    inl (ack_pays (event_of calls id now) ack (side_of call) name)
command_owes call calls id now (Prack prack) apart named name =
    inl (prack_pays_off (event_of calls id now) prack (side_of call) named name)
command_owes call calls id now (Cancel cancel) apart named name =
    same_to (Some id) (dialogs_of call) (dialogs_of call) (same_owed (dialogs_of call)) name
command_owes call calls id now (AbandonRequest abandon) apart named name =
    let taken = command_taken call (event_of calls id now) (AbandonRequest abandon) in
    same_to (Some id) (dialogs_of call) (dialogs_of taken.0)
    (abandons.request_owes (event_of calls id now) abandon (side_of call) apart) name
command_owes call calls id now (AbandonDialog abandon) apart named name =
    let taken = command_taken call (event_of calls id now) (AbandonDialog abandon) in
    same_to (Some id) (dialogs_of call) (dialogs_of taken.0)
    (abandons.dialog_owes (event_of calls id now) abandon (side_of call) apart) name

-- if nothing was held, nothing is told of a response
none_owed : (local : Calls) (id : Id) (k : UpKind) (name : DialogId) (outs : List CallOut)
    (pending_requests : List PendingRequest) → owed_by_kind (new_call local.local) id k name outs
    pending_requests ≡ pending_requests
none_owed local id (kind.Request request reply_to) name outs pending_requests = refl
none_owed local id (kind.Ack ack) name outs pending_requests = refl
none_owed local id (kind.Response response) name outs pending_requests = append-nil pending_requests
none_owed local id kind.Timeout name outs pending_requests = refl
none_owed local id kind.Failed name outs pending_requests = refl

none_held : (event : Option Id) (change : DialogId → List PendingRequest → List PendingRequest)
    → OwesTo event change [] []
none_held event change name = inl tt

kept_to : (event : Option Id) (change : DialogId → List PendingRequest → List PendingRequest)
    (before : Dialogs)
    (taken : CallTaken) → OwesTo event change before (dialogs_of taken.0)
    → OwesTo event change before (side_held (kept taken).0).dialogs
kept_to event change before taken owes =
    subst (λ (side : Side). OwesTo event change before side.dialogs) (sym (kept_side taken.0)) owes

input_owes_taken : (calls : Calls) (state : Option Call) (input : Option CallItem) (now : ℕ)
    → AreApart (side_held state).dialogs → AreNamed (side_held state).dialogs
    → let taken = step_taken calls state input now in
    OwesTo (event_in input) (λ name. owed_in state input name taken.1) (side_held state).dialogs
    (side_held taken.0).dialogs
input_owes_taken calls None None now apart named = none_held None (λ name. unchanged)
input_owes_taken calls (Some call) None now apart named =
    let taken = ticked call now in
    kept_to None (λ name. unchanged) (dialogs_of call) taken
    (same_to None (dialogs_of call) (dialogs_of taken.0)
    (filtered_same (λ held. not (ends_early_at now call.clients held)) (dialogs_of call) apart))
input_owes_taken calls None (Some (id, Up up)) now apart named =
    let call = new_call calls.local in
    let taken = up_taken call (event_of calls id now) up up.kind in
    let event = event_of_kind id up.kind in
    kept_to event (λ name. unchanged) [] taken
    (λ name. owes_as event (owed_by_kind call up.id up.kind name taken.1) unchanged None
    (dialog_at name (dialogs_of taken.0)) (none_owed calls up.id up.kind name taken.1)
    (up_owes call calls id now up up.kind apart named name))
input_owes_taken calls None (Some (id, User command)) now apart named =
    let taken = first_command_taken (new_call calls.local) (event_of calls id now) command in
    kept_to (Some id) (λ name. unchanged) [] taken
    (subst (OwesTo (Some id) (λ name. unchanged) []) (first_none calls id now command)
    (none_held (Some id) (λ name. unchanged)))
input_owes_taken calls (Some call) (Some (id, Up up)) now apart named =
    let taken = up_taken call (event_of calls id now) up up.kind in
    kept_to (event_of_kind id up.kind)
    (λ name. owed_by_kind call up.id up.kind name taken.1) (dialogs_of call) taken
    (up_owes call calls id now up up.kind apart named)
input_owes_taken calls (Some call) (Some (id, User command)) now apart named =
    let taken = command_taken call (event_of calls id now) command in
    kept_to (Some id) (λ name. owed_by_command command name taken.1) (dialogs_of call) taken
    (command_owes call calls id now command apart named)

input_owes : (calls : Calls) (state : Option Call) (input : Option CallItem) (now : ℕ)
    → AreApart (side_held state).dialogs → AreNamed (side_held state).dialogs
    → let taken = call_step calls state input now in
    OwesTo (event_in input) (λ name. owed_in state input name taken.1) (side_held state).dialogs
    (side_held taken.0).dialogs
input_owes calls state input now apart named =
    subst (λ (taken : Taken). OwesTo (event_in input) (λ name. owed_in state input name taken.1)
    (side_held state).dialogs (side_held taken.0).dialogs)
    (sym (same_step calls state input now)) (input_owes_taken calls state input now apart named)

-- ---- one dialog

-- these are owed in it, if it is held
abbrev Owing : Option HeldDialog → List PendingRequest → Type 0
Owing o pending_requests = IfSome o (λ held. held.pending_requests ≡ pending_requests)

next_owing : (name : DialogId) (event : Option Id) (ids : List Id)
    (change : List PendingRequest → List PendingRequest) (before after : Option HeldDialog)
    (history : Option History) (pending_requests : List PendingRequest)
    → Stands name before history (cons_option event ids) → Owes event change before after
    → Owing before pending_requests → Owing after (change
    (if born_of event after then [] else pending_requests))
next_owing name event ids change before None history pending_requests stands owes owing = tt
next_owing name event ids change None (Some after) history pending_requests stands (inl still)
    owing =
    absurd still
next_owing name event ids change (Some held) (Some after) None pending_requests stands (inl still)
    owing =
    absurd stands
next_owing name event ids change (Some held) (Some after) (Some history) pending_requests stands
    (inl still)
    owing =
    still.1 ∙ ap change owing
    ∙ ap (λ (b : Bool). change (if b then [] else pending_requests))
    (sym (not_born event ids held after still.0 stands.2))
next_owing name event ids change before (Some after) history pending_requests stands (inr begins)
    owing =
    begins.1 ∙ ap (λ (b : Bool). change (if b then [] else pending_requests))
    (sym (ap (λ event. born_of event (Some after)) begins.0 ∙ id_laws.refl after.created_by))

-- ---- all inputs

abbrev AllOwing : Option Call → (DialogId → List PendingRequest) → Type 0
AllOwing state pending_requests =
    (name : DialogId) → Owing (dialog_at name (side_held state).dialogs) (pending_requests name)

owing_from : (calls : Calls) (inputs : List (Timed CallItem)) (state : Option Call)
    (histories : DialogId → Option History) (pending_requests : DialogId → List PendingRequest)
    → IsDistinct is_id (ids_of inputs) → Sound state histories (ids_of inputs)
    → AllOwing state pending_requests
    → AllOwing (call_from calls state inputs)
    (λ name. owed_from calls name state (pending_requests name) inputs)
owing_from calls [] state histories pending_requests differ sound owing = owing
owing_from calls (input ∷ inputs) state histories pending_requests differ sound owing =
    let done = call_step calls state input.input input.moment in
    let event = event_in input.input in
    let named = are_named state histories (ids_of (input ∷ inputs)) sound.stand in
    let owes = input_owes calls state input.input input.moment sound.apart named in
    owing_from calls inputs done.0
    (λ name. history_after calls name state (histories name) input)
    (λ name. owed_next calls name state (pending_requests name) input)
    (rest_differ event (ids_of inputs) differ)
    (next_sound calls input inputs state histories differ sound)
    (λ name. next_owing name event (ids_of inputs) (owed_in state input.input name done.1)
    (dialog_at name (side_held state).dialogs) (dialog_at name (side_held done.0).dialogs)
    (histories name) (pending_requests name) (sound.stand name) (owes name) (owing name))

pub owes_as_told : OwesAsTold
owes_as_told calls inputs differ name held at =
    by_found (dialog_at name (side_held (call_from calls None inputs)).dialogs) at
    (owing_from calls inputs None (λ name. None) (λ name. []) differ none_yet (λ name. tt) name)
  where
    by_found : (o : Option HeldDialog) → o ≡ Some held
        → Owing o (owed_from calls name None [] inputs)
        → held.pending_requests ≡ owed_from calls name None [] inputs
    by_found None at owing = absurd cc
    by_found (Some there) at owing =
        let same : there ≡ held = cc in
        ap (λ (held : HeldDialog). held.pending_requests) (sym same) ∙ owing
