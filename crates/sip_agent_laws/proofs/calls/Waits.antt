-- What waits in a call after an input: ticks, reports of transactions and commands that end
-- something add nothing.
use Rattle.std.proofs.Common.{◌≡◌, ◌≤◌, ℕ, Bool, true, false, not, ◌&&◌, cond, List, [], map, refl, sym, ap, subst, ◌∙◌}
use Rattle.std.specs.Prelude.{Option, None, Some, filter, find, is_none, is_some}
use Rattle.std.specs.List.{list_any}
use Rattle.std.specs.Map.{remove_entry}
use Rattle.std.proofs.lemmas.Bool.{false≢true, true≢false, and_right}
use Rattle.indexmap.specs.IndexMap.{insert_entry}
use Rattle.sip_message.specs.declared.id.Id.{Id}
use Rattle.sip_message.specs.declared.message.Message.{Message}
use Rattle.sip_transactions.specs.declared.output.UpKind.{UpKind}
use Rattle.sip_transactions.specs.declared.output.UpKind.TheVariants as kind
use Rattle.sip_transactions.specs.declared.output.Up.{Up as AnUp}
use Rattle.sip_user.specs.declared.command.AbandonDialog.{AbandonDialog as Dialog}
use Rattle.sip_user.specs.declared.command.AbandonRequest.{AbandonRequest as Request}
use Rattle.sip_user.specs.declared.command.Respond.{Respond as Answer}
use Rattle.sip_user.specs.declared.command.UserCommand.{UserCommand}
use Rattle.sip_user.specs.declared.command.UserCommand.TheVariants.{AbandonDialog, AbandonRequest, Respond}
use Rattle.sip_user.specs.declared.item.CallOut.{CallOut}
use Rattle.sip_user.specs.declared.item.Item.TheVariants.{Up, User}
use Rattle.sip_user.specs.declared.refusal.Refusal.{Refusal}
use Rattle.sip_held_dialogs.specs.declared.held_dialog.DialogId.{DialogId}
use Rattle.sip_held_dialogs.specs.declared.held_dialog.DialogReference.{DialogReference}
use Rattle.sip_held_dialogs.specs.declared.held_dialog.HeldDialog.{HeldDialog}
use Rattle.sip_held_dialogs.specs.Dialogs.{Dialogs, confirmed, dialog_at, dialog_changed, early_ended, ended_at, is_dialog_id, is_early_of, lives}
use Rattle.sip_held_dialogs.specs.Ids.{is_id}
use Rattle.sip_held_dialogs.specs.Requests.{dialog_id_of, has_to_tag, is_success}
use Rattle.sip_served.specs.declared.held_request.HeldRequest.{HeldRequest}
use Rattle.sip_served.specs.Respond.{answer_to, by_refusal, by_request, dialogs_answered, made_dialog, refusal_for, rejects, respond_taken}
use Rattle.sip_served.specs.State.{State, has_id}
use Rattle.sip_served.specs.Tick.{is_kept_at, request_ticked, tick_taken}
use Rattle.sip_served.proofs.Dues.{removal_kept}
use Rattle.sip_served.proofs.Found.{change, passed_id}
use Rattle.sip_clients.specs.declared.client.Client.{Client}
use Rattle.sip_clients.specs.declared.client.RequestKind.{RequestKind}
use Rattle.sip_clients.specs.declared.client.RequestKind.TheVariants.{InitialInvite, ReInvite, InDialog as InADialog, OutOfDialog}
use Rattle.sip_clients.specs.declared.event.Event.{Event}
use Rattle.sip_clients.specs.Abandon.{dialog_abandoned, dialog_abandoned_of, request_abandoned, request_abandoned_of}
use Rattle.sip_clients.specs.Client.{Side, client_at}
use Rattle.sip_clients.specs.Clients.{lost_of}
use Rattle.sip_clients.specs.Commands.{name_in}
use Rattle.sip_clients.specs.Dialogs.{life_ended, own_ended}
use Rattle.sip_clients.specs.Tick.{clients_ticked, ends_early_at, is_over}
use Rattle.sip_calls.specs.declared.call.Call.{Call}
use Rattle.sip_calls.specs.declared.calls.Calls.{Calls}
use Rattle.sip_calls.specs.Call.{Taken, call_step, event_of, kept, kept_call, new_call}
use Rattle.sip_calls.specs.HeldRequests.{requests_held}
use Rattle.sip_calls.specs.Provisionals.{side_held}
use Rattle.sip_calls.specs.Sides.{by_clients, by_server, side_of}
use Rattle.sip_calls.specs.Steps.Call.{command_taken, first_command_taken, ticked, up_taken}
use Rattle.sip_calls.proofs.HeldRequests.{kept_requests, requests_of}
use Rattle.sip_calls.proofs.KeptSides.{kept_side}
use Rattle.sip_calls.proofs.SameSteps.{same_step}
use Rattle.sip_agent_laws.specs.Calls.Ending.{EndingAddsNothing, Ends, OthersAddNothing}
use Rattle.sip_agent_laws.specs.Calls.Rejections.{IsRejection}
use Rattle.sip_agent_laws.specs.Calls.Rest.{is_from_outside}
use Rattle.sip_agent_laws.specs.Calls.Waiting.{Waiting, InDialog, OfPeer, OurInvite, lacks_final, lacks_response, waits}
use Rattle.sip_agent_laws.proofs.calls.Fewer.{PassesOnlyIf, any_changed, any_filtered, any_mapped, any_removed, found_filtered, found_removed}
use Rattle.sip_agent_laws.proofs.calls.Rejected.{final_at, no_dialog}

-- ---- the three kinds

-- a request of the peer of this id has no final response
abbrev pub is_open : Id → HeldRequest → Bool
is_open id held = has_id id held && lacks_final held

-- an INVITE of this id has none
abbrev pub is_open_invite : Id → Id × Client → Bool
is_open_invite id entry = is_id id entry.0 && lacks_response entry.1

abbrev FewerRequests : List HeldRequest → List HeldRequest → Type 0
FewerRequests before after =
    (id : Id) → PassesOnlyIf (list_any (is_open id) before) (list_any (is_open id) after)

-- nothing more waits on the client side
record FewerWait (before after : Side) : Type 0 where
  pub clients : (id : Id) → PassesOnlyIf (list_any (is_open_invite id) before.clients)
      (list_any (is_open_invite id) after.clients)
  pub dialogs : (name : DialogId) → PassesOnlyIf (is_some (dialog_at name before.dialogs))
      (is_some (dialog_at name after.dialogs))

same_requests : (requests : List HeldRequest) → FewerRequests requests requests
same_requests requests id = λ e. e

same_side : (side : Side) → FewerWait side side
same_side side = record { clients = λ id e. e; dialogs = λ name e. e }

abbrev AddsNone : Option Call → Option Call → Type 0
AddsNone before after = (one : Waiting) → waits one after ≡ true → waits one before ≡ true

adds_none : (before after : Option Call) → FewerRequests (requests_held before) (requests_held after)
    → FewerWait (side_held before) (side_held after) → AddsNone before after
adds_none before after requests side (OfPeer id) = requests id
adds_none before after requests side (OurInvite id) = side.clients id
adds_none before after requests side (InDialog name) = side.dialogs name

kept_adds : (before : Option Call) (call : Call)
    → FewerRequests (requests_held before) (requests_of call)
    → FewerWait (side_held before) (side_of call) → AddsNone before (kept_call call)
kept_adds before call requests side =
    adds_none before (kept_call call)
    (subst (FewerRequests (requests_held before)) (sym (kept_requests call)) requests)
    (subst (FewerWait (side_held before)) (sym (kept_side call)) side)

-- ---- a tick

ticked_requests : (now : ℕ) (requests : List HeldRequest)
    → FewerRequests requests
    (filter (is_kept_at now) (map (λ held. (request_ticked now held).0) requests))
ticked_requests now requests id = λ passes.
    sym (any_mapped (is_open id) (λ held. (request_ticked now held).0)
    (λ held i. is_id (passed_id now held i) id && is_none (removal_kept now held i)) requests)
    ∙ any_filtered (is_open id) (is_kept_at now)
    (map (λ held. (request_ticked now held).0) requests) passes

ticked_side : (now : ℕ) (side : Side) → FewerWait side (clients_ticked side now).0
ticked_side now side = record {
  clients = λ id. any_filtered (is_open_invite id) (λ entry. not (is_over now entry.1))
      side.clients;
  dialogs = λ name. found_filtered (is_dialog_id name)
      (λ entry. not (ends_early_at now side.clients entry.1)) side.dialogs;
}

-- ---- a request that is over

abbrev FewerDialogs : Dialogs → Dialogs → Type 0
FewerDialogs before after = (name : DialogId)
    → PassesOnlyIf (is_some (dialog_at name before)) (is_some (dialog_at name after))

early_fewer : (invite : Id) (dialogs : Dialogs)
    → FewerDialogs dialogs (early_ended invite dialogs).0
early_fewer invite dialogs name =
    found_filtered (is_dialog_id name) (λ entry. not (is_early_of invite entry.1)) dialogs

ended_fewer : (name : DialogId) (dialogs : Dialogs)
    → FewerDialogs dialogs (remove_entry (is_dialog_id name) dialogs)
ended_fewer name dialogs other = found_removed (is_dialog_id other) (is_dialog_id name) dialogs

life_fewer : (life : DialogReference) (dialogs : Dialogs)
    → FewerDialogs dialogs (life_ended life dialogs).0
life_fewer life dialogs name =
    elim (lives dialogs life) as (λ b. PassesOnlyIf (is_some (dialog_at name dialogs))
    (is_some (dialog_at name (cond {A = Dialogs × List CallOut} b (ended_at life.name dialogs)
    (dialogs, [])).0))) [
      | true ↦ ended_fewer life.name dialogs name
      | false ↦ (λ e. e)
    ]

own_fewer : (kind : RequestKind) (ends : Bool) (dialogs : Dialogs)
    → FewerDialogs dialogs (own_ended kind ends dialogs).0
own_fewer InitialInvite ends dialogs name = λ e. e
own_fewer (ReInvite life) true dialogs name = life_fewer life dialogs name
own_fewer (ReInvite life) false dialogs name = λ e. e
own_fewer (InADialog life) true dialogs name = life_fewer life dialogs name
own_fewer (InADialog life) false dialogs name = λ e. e
own_fewer OutOfDialog ends dialogs name = λ e. e

lost_fewer : (id : Id) (timed_out : Bool) (o : Option Client) (side : Side)
    → FewerWait side (lost_of id timed_out o side).0
lost_fewer id timed_out None side = record {
  clients = λ other. any_removed (is_open_invite other) (is_id id) side.clients;
  dialogs = λ name e. e;
}
lost_fewer id timed_out (Some client) side =
    let early = (early_ended client.id side.dialogs).0 in
    record {
      clients = λ other. any_removed (is_open_invite other) (is_id id) side.clients;
      dialogs = λ name found. early_fewer client.id side.dialogs name
          (own_fewer client.kind timed_out early name found);
    }

request_fewer : (event : Event) (command : Request) (side : Side)
    → FewerWait side (request_abandoned event command side).0
request_fewer event command side = by_found (client_at command.id side.clients)
  where
    by_found : (o : Option Client) → FewerWait side (request_abandoned_of o event command side).0
    by_found None = same_side side
    by_found (Some client) =
        lost_fewer command.id false (client_at command.id side.clients) side

dialog_fewer : (event : Event) (command : Dialog) (side : Side)
    → FewerWait side (dialog_abandoned event command side).0
dialog_fewer event command side = by_found (dialog_at own side.dialogs)
  where
    own : DialogId
    own = name_in command.local_tag command.remote_tag

    by_found : (o : Option HeldDialog)
        → FewerWait side (dialog_abandoned_of o event command own side).0
    by_found None = same_side side
    by_found (Some held) =
        record { clients = λ id e. e; dialogs = ended_fewer own side.dialogs }

-- ---- a rejection

-- nothing more waits on the server side
record FewerServed (before after : State) : Type 0 where
  pub requests : FewerRequests before.requests after.requests
  pub dialogs : FewerDialogs before.dialogs after.dialogs

same_served : (state : State) → FewerServed state state
same_served state = record { requests = λ id e. e; dialogs = λ name e. e }

closed_open : (id : Id) (state : State) (event : Id) (r : Answer) (now : ℕ)
    (held one : HeldRequest) → 300 ≤ r.status
    → PassesOnlyIf (is_open id one) (is_open id (change state event r now held one))
closed_open id state event r now held one from = λ passes.
    absurd (false≢true (sym (and_right (has_id id (change state event r now held one)) false refl)
    ∙ sym (ap (λ o. has_id id (change state event r now held one) && is_none o)
    (final_at event r (answer_to state.local held r) now one from)) ∙ passes))

rejected_dialogs : (event : Id) (held : HeldRequest) (status : ℕ) (response : Message)
    (dialogs : Dialogs) → 300 ≤ status
    → FewerDialogs dialogs (dialogs_answered event held status response dialogs).0
rejected_dialogs event held status response dialogs from =
    let name = dialog_id_of held.request held.tag in
    let made = insert_entry is_dialog_id dialogs name (made_dialog event held status) in
    let told = dialog_changed name (confirmed response) dialogs in
    let outside = not (has_to_tag held.request) in
    subst (λ (after : Dialogs). FewerDialogs dialogs after)
    (sym (λ i. (cond {A = Dialogs × List CallOut}
    (no_dialog held status from i && outside && is_none held.dialog) (made, [])
    (cond (no_dialog held status from i && is_success status && outside) (told, [])
    (cond (rejects held status) (early_ended held.id dialogs) (dialogs, [])))).0))
    (elim (rejects held status) as (λ b. FewerDialogs dialogs
    (cond {A = Dialogs × List CallOut} b (early_ended held.id dialogs) (dialogs, [])).0) [
      | true ↦ early_fewer held.id dialogs
      | false ↦ (λ name e. e)
    ])

respond_fewer : (state : State) (event : Id) (r : Answer) (now : ℕ) → IsRejection r
    → FewerServed state (respond_taken state event r now).0
respond_fewer state event r now rejection = by_found (find (has_id r.id) state.requests)
  where
    by_refused : (held : HeldRequest) (o : Option Refusal)
        → FewerServed state (by_refusal state event r now held o).0
    by_refused held (Some refusal) = same_served state
    by_refused held None = record {
      requests = λ id. any_changed (is_open id) (has_id r.id) (change state event r now held)
          (λ one. closed_open id state event r now held one rejection.from) state.requests;
      dialogs = rejected_dialogs event held r.status (answer_to state.local held r) state.dialogs
          rejection.from;
    }

    by_found : (o : Option HeldRequest) → FewerServed state (by_request state event r now o).0
    by_found None = same_served state
    by_found (Some held) = by_refused held (refusal_for state.dialogs r held)

-- ---- an input

tick_adds : (calls : Calls) (call : Call) (now : ℕ)
    → AddsNone (Some call) (call_step calls (Some call) None now).0
tick_adds calls call now =
    let first = by_server call (tick_taken call.served now) in
    subst (λ (taken : Taken). AddsNone (Some call) taken.0)
    (sym (same_step calls (Some call) None now))
    (kept_adds (Some call) (ticked call now).0 (ticked_requests now (requests_of call))
    (ticked_side now (side_of first.0)))

up_adds : (before : Option Call) (call : Call) (event : Event) (up : AnUp) (k : UpKind)
    → is_from_outside (Some (event.id, Up (record up { kind = k }))) ≡ false
    → FewerRequests (requests_held before) (requests_of call)
    → FewerWait (side_held before) (side_of call)
    → AddsNone before (kept (up_taken call event up k)).0
up_adds before call event up kind.Timeout inside requests side =
    let lost = lost_fewer up.id true (client_at up.id call.clients) (side_of call) in
    kept_adds before (up_taken call event up kind.Timeout).0 requests (record {
      clients = λ id found. side.clients id (lost.clients id found);
      dialogs = λ name found. side.dialogs name (lost.dialogs name found);
    })
up_adds before call event up kind.Failed inside requests side =
    let lost = lost_fewer up.id false (client_at up.id call.clients) (side_of call) in
    kept_adds before (up_taken call event up kind.Failed).0 requests (record {
      clients = λ id found. side.clients id (lost.clients id found);
      dialogs = λ name found. side.dialogs name (lost.dialogs name found);
    })
up_adds before call event up _ inside requests side = absurd cc

pub others_add_nothing : OthersAddNothing
others_add_nothing calls None None now inside one = λ e. e
others_add_nothing calls (Some call) None now inside one = tick_adds calls call now one
others_add_nothing calls None (Some (id, Up up)) now inside one =
    subst (λ (taken : Taken). AddsNone None taken.0) (sym (same_step calls None (Some (id, Up up)) now))
    (up_adds None (new_call calls.local) (event_of calls id now) up up.kind inside
    (same_requests []) (same_side record { dialogs = []; clients = [] })) one
others_add_nothing calls (Some call) (Some (id, Up up)) now inside one =
    subst (λ (taken : Taken). AddsNone (Some call) taken.0)
    (sym (same_step calls (Some call) (Some (id, Up up)) now))
    (up_adds (Some call) call (event_of calls id now) up up.kind inside
    (same_requests (requests_of call)) (same_side (side_of call))) one
others_add_nothing calls state (Some (id, User command)) now inside one =
    absurd (true≢false inside)

-- a command that ends something
command_adds : (call : Call) (calls : Calls) (event : Id) (now : ℕ) (command : UserCommand)
    (one : Waiting) → Ends one command
    → AddsNone (Some call) (kept (command_taken call (event_of calls event now) command)).0
command_adds call calls event now (Respond respond) (OfPeer id) ends =
    let done = respond_taken call.served event respond now in
    let fewer = respond_fewer call.served event respond now ends.1 in
    kept_adds (Some call) (by_server call done).0 fewer.requests
    (record { clients = λ id e. e; dialogs = fewer.dialogs })
command_adds call calls event now (AbandonRequest abandon) (OurInvite id) ends =
    kept_adds (Some call)
    (by_clients call (request_abandoned (event_of calls event now) abandon (side_of call))).0
    (same_requests (requests_of call))
    (request_fewer (event_of calls event now) abandon (side_of call))
command_adds call calls event now (AbandonDialog abandon) (InDialog name) ends =
    kept_adds (Some call)
    (by_clients call (dialog_abandoned (event_of calls event now) abandon (side_of call))).0
    (same_requests (requests_of call))
    (dialog_fewer (event_of calls event now) abandon (side_of call))
command_adds call calls event now _ (OfPeer id) ends = absurd ends
command_adds call calls event now _ (OurInvite id) ends = absurd ends
command_adds call calls event now _ (InDialog name) ends = absurd ends

first_adds : (calls : Calls) (event : Id) (now : ℕ) (command : UserCommand) (one : Waiting)
    → Ends one command
    → AddsNone None
    (kept (first_command_taken (new_call calls.local) (event_of calls event now) command)).0
first_adds calls event now (Respond respond) (OfPeer id) ends =
    kept_adds None (new_call calls.local) (same_requests [])
    (same_side record { dialogs = []; clients = [] })
first_adds calls event now (AbandonRequest abandon) (OurInvite id) ends =
    kept_adds None (new_call calls.local) (same_requests [])
    (same_side record { dialogs = []; clients = [] })
first_adds calls event now (AbandonDialog abandon) (InDialog name) ends =
    kept_adds None (new_call calls.local) (same_requests [])
    (same_side record { dialogs = []; clients = [] })
first_adds calls event now _ (OfPeer id) ends = absurd ends
first_adds calls event now _ (OurInvite id) ends = absurd ends
first_adds calls event now _ (InDialog name) ends = absurd ends

pub ending_adds_nothing : EndingAddsNothing
ending_adds_nothing calls None event command now one ends =
    subst (λ (taken : Taken). AddsNone None taken.0)
    (sym (same_step calls None (Some (event, User command)) now))
    (first_adds calls event now command one ends)
ending_adds_nothing calls (Some call) event command now one ends =
    subst (λ (taken : Taken). AddsNone (Some call) taken.0)
    (sym (same_step calls (Some call) (Some (event, User command)) now))
    (command_adds call calls event now command one ends)
