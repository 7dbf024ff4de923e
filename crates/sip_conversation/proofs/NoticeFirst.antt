-- Of all that a call gives at one input, only the first can be the notice of a response. So such a
-- notice stands before what goes out with it.
use Rattle.std.proofs.Common.{◌≡◌, ℕ, ◌+◌, Bool, true, false, ◌||◌, ◌&&◌, List, [], ◌∷◌, ◌++◌, refl, sym, subst}
use Rattle.std.specs.Prelude.{Option, None, Some, ◌==◌, fold, is_some, length, not, unwrap_or, if◌then◌else◌}
use Rattle.std.specs.List.{AllByRecursion}
use Rattle.std.specs.Map.{lookup, remove_entry, set_value}
use Rattle.std.specs.Option.{option_map_or}
use Rattle.sip_message.specs.Content.{Content, content_of_body}
use Rattle.sip_message.specs.declared.id.Id.{Id}
use Rattle.sip_message.specs.declared.message.Message.{Message}
use Rattle.sip_transactions.specs.declared.output.UpKind.{UpKind}
use Rattle.sip_transactions.specs.declared.output.UpKind.TheVariants as kind
use Rattle.sip_transactions.specs.declared.output.Up.{Up as AnUp}
use Rattle.sip_held_dialogs.specs.Dialogs.{Dialogs, early_ended, ended_at, is_dialog_id, lives}
use Rattle.sip_held_dialogs.specs.Ids.{is_id}
use Rattle.sip_held_dialogs.specs.Requests.{has_to_tag, is_final, is_success, requires_100rel}
use Rattle.sip_held_dialogs.specs.declared.held_dialog.DialogId.{DialogId}
use Rattle.sip_held_dialogs.specs.declared.held_dialog.HeldDialog.{HeldDialog}
use Rattle.sip_held_dialogs.specs.declared.pending_request.PendingRequest.{PendingRequest}
use Rattle.sip_held_dialogs.specs.declared.pending_request.PendingRequest.TheVariants.{Ack, Prack}
use Rattle.sip_held_dialogs.proofs.Each.{both}
use Rattle.sip_user.specs.Refusal.{first_refusal}
use Rattle.sip_user.specs.declared.item.CallOut.{CallOut}
use Rattle.sip_user.specs.declared.item.CallOut.TheVariants as out
use Rattle.sip_user.specs.declared.item.Item.TheVariants.{Up, User}
use Rattle.sip_user.specs.declared.notice.Notice.TheVariants as notice
use Rattle.sip_clients.specs.Client.{Clients, Side}
use Rattle.sip_clients.specs.Outputs.{start_command}
use Rattle.sip_clients.specs.Provisionals.{is_response}
use Rattle.sip_clients.specs.Rules.Ends.{request_over}
use Rattle.sip_clients.specs.Rules.Requests.{PendingOutcome, cancel_request, dialog_of_kind, is_invite_kind, method_of, pending_outcome, pending_sent, pending_with, refusals_in, start}
use Rattle.sip_clients.specs.Rules.Responses.{Outcome, accepted, asks_for, dialog_made_by, dialog_response, first_success, has_dialog, is_initial, kept, last_response, notice_of, outcome_of, reliable_response, response_received, response_to, status_of, success_again, success_in, waiting_cancel}
use Rattle.sip_clients.specs.declared.answers.SentAck.{SentAck}
use Rattle.sip_clients.specs.declared.client.Cancelling.TheVariants.{NotAsked, Sent}
use Rattle.sip_clients.specs.declared.client.Client.{Client}
use Rattle.sip_clients.specs.declared.event.Event.{Event}
use Rattle.sip_clients.proofs.ClientOuts.{Allows, early, end_told}
use Rattle.sip_calls.specs.Call.{CallItem, Taken, call_step, event_of, new_call, received}
use Rattle.sip_calls.specs.Sides.{side_of}
use Rattle.sip_calls.specs.declared.call.Call.{Call}
use Rattle.sip_calls.specs.declared.calls.Calls.{Calls}
use Rattle.sip_conversation.proofs.Branches.{either, found_or}
use Rattle.sip_conversation.proofs.CallOuts.{KindTells, OutFits, step_fits}
use Rattle.sip_conversation.proofs.SoundReplies.{reply_for}

-- ---- lists

-- none of these is the notice of a response
abbrev IsQuiet : CallOut → Type 0
IsQuiet out = is_response out ≡ false

abbrev pub Quiet : List CallOut → Type 0
Quiet outs = AllByRecursion IsQuiet outs

-- none but the first
abbrev pub TellsFirst : List CallOut → Type 0
TellsFirst [] = Unit {0}
TellsFirst (first ∷ later) = Quiet later

first_of_quiet : (outs : List CallOut) → Quiet outs → TellsFirst outs
first_of_quiet [] quiet = tt
first_of_quiet (first ∷ later) quiet = quiet.1

first_more : (outs more : List CallOut) → TellsFirst outs → Quiet more
    → TellsFirst (outs ++ more)
first_more [] more first quiet = first_of_quiet more quiet
first_more (one ∷ outs) more first quiet = both IsQuiet outs more first quiet

-- ---- what the client side gives beside the notice

started_quiet : (id : Id) (client : Client) → IsQuiet (start_command id client)
unfolding start_command
started_quiet id client = refl

allows : Allows IsQuiet
allows = record {
  ended = λ held. refl;
  refusal = λ call_id place why. refl;
  sent = λ ack. refl;
  started = started_quiet;
}

over_quiet : (client : Client) (ends : Bool) (dialogs : Dialogs)
    → Quiet (request_over client ends dialogs).1
over_quiet client ends dialogs =
    let first = early_ended client.id dialogs in
    let QuietEnd : Dialogs × List CallOut → Type 0 = λ ended. Quiet ended.1 in
    both IsQuiet first.1 _ (early IsQuiet allows client.id dialogs)
    (found_or QuietEnd (λ reference. if ends && lives first.0 reference
    then ended_at reference.name first.0 else (first.0, []))
    (dialog_of_kind client.kind) (first.0, [])
    (λ reference is. either QuietEnd (ends && lives first.0 reference)
    (ended_at reference.name first.0) (first.0, [])
    (λ over. end_told IsQuiet allows reference.name first.0) (λ lives. tt))
    (λ none. tt))

sent_quiet : (event : Event) (name : DialogId) (pending : PendingRequest) (content : Content)
    (held : HeldDialog) → Quiet (pending_sent event name pending content held).outs
sent_quiet event name (Ack invite number) content held = (refl, tt)
sent_quiet event name (Prack rseq number) content held = tt

outcome_quiet : (event : Event) (call_id : List ℕ) (name : DialogId) (pending : PendingRequest)
    (content : Option Content) (without_it with_it : HeldDialog)
    → Quiet (pending_outcome event call_id name pending content without_it with_it).outs
outcome_quiet event call_id name pending content without_it with_it =
    let QuietDone : PendingOutcome → Type 0 = λ done. Quiet done.outs in
    found_or QuietDone (pending_with event call_id name pending without_it with_it) content _
    (λ content is. found_or QuietDone _
    (first_refusal (refusals_in without_it.dialog (method_of pending)) None) _
    (λ refusal refused. (refl, tt))
    (λ none. sent_quiet event name pending content without_it))
    (λ none. tt)

starts_first : (clients : List Client) (done : Clients × List CallOut) → TellsFirst done.1
    → TellsFirst (fold start done clients).1
starts_first [] done first = first
starts_first (client ∷ clients) done first =
    starts_first clients (start done client) (first_more done.1 _ first (refl, tt))

-- ---- a response

-- the type of what a response is with all that comes up with it
abbrev Domain : {A B : Type 0} → (A → B) → Type 0
Domain {A} f = A

abbrev Reply : Type 0
Reply = Domain notice_of

abbrev First : Outcome → Type 0
First done = TellsFirst done.outs

asks_first : (pending : PendingRequest) (reply : Reply) (client : Client)
    (after : Option SentAck → Client) (held : HeldDialog) (dialogs : Dialogs)
    → First (asks_for pending reply client after held dialogs)
asks_first pending reply client after held dialogs =
    outcome_quiet reply.event reply.call_id reply.name pending
    (if not (length client.request.body == 0) || (length reply.response.body == 0)
    then Some (content_of_body []) else None) held
    (record held { pending_requests = held.pending_requests ++ pending ∷ [] })

reliable_first : (reply : Reply) (client : Client) (dialogs : Dialogs) (held : HeldDialog)
    (rseq : ℕ) → First (reliable_response reply client dialogs held rseq)
reliable_first reply client dialogs held rseq =
    let initial = is_initial client in
    let last = if initial then held.last_rseq else client.last_rseq in
    let heard : Client = record client { last_rseq = Some rseq } in
    let hears : HeldDialog = record held { last_rseq = Some rseq } in
    let after : Option SentAck → Client = λ ack. if initial then client else heard in
    let dialog : HeldDialog = if initial then hears else held in
    let prack = Prack rseq client.request.cseq.number in
    either First (not (option_map_or (λ last. rseq == last + 1) last true))
    (kept client dialogs []) (asks_for prack reply client after dialog dialogs)
    (λ passed. tt) (λ taken. asks_first prack reply client after dialog dialogs)

dialog_first : (reply : Reply) (client : Client) (dialogs : Dialogs)
    → First (dialog_response reply client dialogs)
dialog_first reply client dialogs =
    let response = reply.response in
    let held = unwrap_or (lookup (is_dialog_id reply.name) dialogs)
    (dialog_made_by reply client) in
    found_or First (reliable_response reply client dialogs held)
    (if requires_100rel response then response.rseq else None) _
    (λ rseq is. reliable_first reply client dialogs held rseq) (λ none. tt)

again_first : (answer : Option (Option SentAck)) (client : Client) (dialogs : Dialogs)
    → First (success_again answer client dialogs)
again_first None client dialogs = tt
again_first (Some None) client dialogs = tt
again_first (Some (Some ack)) client dialogs = tt

outcome_first : (reply : Reply) (client : Client) (dialogs : Dialogs)
    → First (outcome_of reply client dialogs)
outcome_first reply client dialogs =
    let final = is_final reply.status in
    let answer = lookup (is_dialog_id reply.name) client.answers in
    let told : Outcome = kept client dialogs (notice_of reply ∷ []) in
    let late : Outcome = kept (accepted reply client None) dialogs (notice_of reply ∷ []) in
    let is_told = not (has_dialog client dialogs && not (reply.status == 100)
    && has_to_tag reply.response) in
    let fifth : Outcome = if is_told then told else dialog_response reply client dialogs in
    let fourth : Outcome = if final then late else fifth in
    let third : Outcome = if final && has_dialog client dialogs
    then first_success reply client dialogs else fourth in
    let second : Outcome = if final && is_some answer
    then success_again answer client dialogs else third in
    either First (final && not (is_invite_kind client.kind && is_success reply.status))
    (last_response reply client dialogs) second
    (λ last. over_quiet client ((reply.status == 481) || (reply.status == 408)) dialogs)
    (λ more. either First (final && is_some answer) (success_again answer client dialogs) third
    (λ again. again_first answer client dialogs)
    (λ new. either First (final && has_dialog client dialogs)
    (first_success reply client dialogs) fourth
    (λ success. asks_first (Ack client.id client.request.cseq.number) reply client
    (accepted reply client)
    (option_map_or (success_in (is_initial client) reply.response)
    (lookup (is_dialog_id reply.name) dialogs) (dialog_made_by reply client)) dialogs)
    (λ none. either First final late fifth (λ over. tt)
    (λ provisional. either First is_told told (dialog_response reply client dialogs)
    (λ other. tt) (λ early. dialog_first reply client dialogs)))))

replied_first : (event : Event) (id : Id) (of : List ℕ) (response : Message) (side : Side)
    (status : ℕ) (client : Client)
    → TellsFirst (response_to event id of response side status client).1
replied_first event id of response side status client =
    let final = is_final status in
    let waiting = waiting_cancel client.cancel in
    let cancels : List Client = if final then []
    else option_map_or (λ asked_by. cancel_request asked_by client ∷ []) waiting [] in
    let after : Client = record client {
      provisional = client.provisional || not final;
      cancel = option_map_or (λ asked_by. if final then NotAsked else Sent) waiting client.cancel;
    } in
    let reply = reply_for event id of response status client in
    let done = outcome_of reply after side.dialogs in
    let clients : Clients = option_map_or (set_value (is_id id) side.clients) done.request
    (remove_entry (is_id id) side.clients) in
    starts_first (done.prack ++ cancels) (clients, done.outs)
    (outcome_first reply after side.dialogs)

response_first : (event : Event) (id : Id) (of : List ℕ) (response : Message) (side : Side)
    → TellsFirst (response_received event id of response side).1
unfolding response_received
response_first event id of response side =
    let FirstTaken : Side × List CallOut → Type 0 = λ taken. TellsFirst taken.1 in
    found_or FirstTaken _ (status_of response.start) (side, [])
    (λ status is. found_or FirstTaken (response_to event id of response side status)
    (lookup (is_id id) side.clients) (side, [])
    (λ client found. replied_first event id of response side status client) (λ none. tt))
    (λ none. tt)

-- ---- one input

-- any other input tells of no response
abbrev Never : List ℕ → Id → ℕ → List ℕ → List ℕ → List ℕ → Type 0
Never call_id id status local_tag remote_tag body = ⊥

never_told : (out : CallOut) → OutFits Never out → IsQuiet out
never_told (out.Notice (notice.Response call_id id status local_tag remote_tag body)) fits =
    absurd fits
never_told (out.Notice (notice.Request call_id id method local_tag remote_tag body)) fits = refl
never_told (out.Notice (notice.Ack call_id id body)) fits = refl
never_told (out.Notice (notice.Prack call_id id rseq body)) fits = refl
never_told (out.Notice (notice.Timeout call_id id)) fits = refl
never_told (out.Notice (notice.Failed call_id id)) fits = refl
never_told (out.Notice (notice.NoAck call_id id)) fits = refl
never_told (out.Notice (notice.NoPrack call_id id)) fits = refl
never_told (out.Notice (notice.Cancel call_id id)) fits = refl
never_told (out.Notice (notice.Ended call_id local_tag remote_tag)) fits = refl
never_told (out.Notice (notice.Refused call_id place why)) fits = refl
never_told (out.Command id command) fits = refl
never_told (out.Direct to bytes) fits = refl

all_quiet : (outs : List CallOut) → AllByRecursion (OutFits Never) outs → Quiet outs
all_quiet [] fit = tt
all_quiet (out ∷ outs) fit = (never_told out fit.0, all_quiet outs fit.1)

module _ (calls : Calls) (now : ℕ) where
  by_fits : (outs : List CallOut) → AllByRecursion (OutFits Never) outs → TellsFirst outs
  by_fits outs fit = first_of_quiet outs (all_quiet outs fit)

  abbrev FirstOf : Taken → Type 0
  FirstOf taken = TellsFirst taken.1

  by_response : (call : Call) (event : Id) (up : AnUp) (response : Message)
      → up.kind ≡ kind.Response response
      → TellsFirst (received call (event_of calls event now) up up.kind).1
  by_response call event up response is =
      subst (λ k. TellsFirst (received call (event_of calls event now) up k).1) (sym is)
      (response_first (event_of calls event now) up.id up.call_id response (side_of call))

  by_kind : (state : Option Call) (event : Id) (up : AnUp) (k : UpKind) → up.kind ≡ k
      → FirstOf (call_step calls state (Some (event, Up up)) now)
  by_kind None event up (kind.Response response) is =
      by_response (new_call calls.local) event up response is
  by_kind (Some call) event up (kind.Response response) is =
      by_response call event up response is
  by_kind state event up (kind.Request request reply_to) is =
      by_fits _ (step_fits Never calls state (Some (event, Up up)) now
      (subst (KindTells Never up.call_id up.id) (sym is) tt))
  by_kind state event up (kind.Ack ack) is =
      by_fits _ (step_fits Never calls state (Some (event, Up up)) now
      (subst (KindTells Never up.call_id up.id) (sym is) tt))
  by_kind state event up kind.Timeout is =
      by_fits _ (step_fits Never calls state (Some (event, Up up)) now
      (subst (KindTells Never up.call_id up.id) (sym is) tt))
  by_kind state event up kind.Failed is =
      by_fits _ (step_fits Never calls state (Some (event, Up up)) now
      (subst (KindTells Never up.call_id up.id) (sym is) tt))

  pub step_first : (state : Option Call) (input : Option CallItem)
      → TellsFirst (call_step calls state input now).1
  step_first state None = by_fits _ (step_fits Never calls state None now tt)
  step_first state (Some (event, Up up)) = by_kind state event up up.kind refl
  step_first state (Some (event, User command)) =
      by_fits _ (step_fits Never calls state (Some (event, User command)) now tt)
