-- Each command of the user is refused, or gives what it asks for, once.
use Rattle.std.proofs.Common.{◌≡◌, ◌⊎◌, inl, inr, ℕ, Bool, true, false, not, ◌&&◌, ◌||◌, cond, List, [], ◌∷◌, map, refl, sym, ap, subst, ◌∙◌}
use Rattle.std.specs.Prelude.{Option, None, Some, codes, filter, find, fold, is_none, is_some, if◌then◌else◌}
use Rattle.std.specs.List.{list_any}
use Rattle.std.specs.Map.{lookup, set_value, values_of}
use Rattle.std.specs.Option.{option_map_or}
use Rattle.std.specs.Str.{bytes_eq}
use Rattle.std.proofs.lemmas.Bool.{false≢true, true≢false}
use Rattle.std.proofs.lemmas.Slice.Eq.{bytes_eq-Decides}
use Rattle.keyed_machine.proofs.Ordered.{by_bool}
use Rattle.indexmap.specs.IndexMap.{insert_entry}
use Rattle.sip_message.specs.Content.{with_content_of}
use Rattle.sip_message.specs.Key.{client_key}
use Rattle.sip_message.specs.TopVia.{top_branch}
use Rattle.sip_message.specs.declared.cseq.CSeq.{CSeq}
use Rattle.sip_message.specs.declared.id.Id.{Id}
use Rattle.sip_message.specs.declared.message.Message.{Message}
use Rattle.sip_transactions.specs.declared.input.Command.{Command as Order}
use Rattle.sip_transactions.specs.declared.input.Command.TheVariants as order
use Rattle.sip_user.specs.Command.{call_of_command}
use Rattle.sip_user.specs.Notices.{refused}
use Rattle.sip_user.specs.Refusal.{first_refusal}
use Rattle.sip_user.specs.declared.command.AbandonDialog.{AbandonDialog as Dialog}
use Rattle.sip_user.specs.declared.command.AbandonRequest.{AbandonRequest as Given}
use Rattle.sip_user.specs.declared.command.Cancel.{Cancel as ACancel}
use Rattle.sip_user.specs.declared.command.DialogBody.{DialogBody}
use Rattle.sip_user.specs.declared.command.DialogRequest.{DialogRequest}
use Rattle.sip_user.specs.declared.command.Invite.{Invite as AnInvite}
use Rattle.sip_user.specs.declared.command.Plain.{Plain as APlain}
use Rattle.sip_user.specs.declared.command.ProvisionalSupport.{ProvisionalSupport}
use Rattle.sip_user.specs.declared.command.ProvisionalSupport.TheVariants as support
use Rattle.sip_user.specs.declared.command.Respond.{Respond as Answer}
use Rattle.sip_user.specs.declared.command.UserCommand.{UserCommand}
use Rattle.sip_user.specs.declared.command.UserCommand.TheVariants.{Invite, Plain, Request, Respond, Ack as AckCommand, Prack as PrackCommand, Cancel, AbandonRequest, AbandonDialog}
use Rattle.sip_user.specs.declared.item.CallOut.{CallOut}
use Rattle.sip_user.specs.declared.item.CallOut.TheVariants.{Command}
use Rattle.sip_user.specs.declared.item.Item.TheVariants.{User}
use Rattle.sip_user.specs.declared.refusal.Refusal.{Refusal}
use Rattle.sip_user.specs.declared.refusal.Refusal.TheVariants.{AlreadyFinal, BadMethod, NoSuchDialog, NoSuchRequest, NothingToAck, NothingToPrack}
use Rattle.sip_held_dialogs.specs.declared.pending_request.PendingRequest.{PendingRequest}
use Rattle.sip_held_dialogs.specs.declared.pending_request.PendingRequest.TheVariants.{Ack, Prack}
use Rattle.sip_held_dialogs.specs.declared.held_dialog.DialogId.{DialogId}
use Rattle.sip_held_dialogs.specs.declared.held_dialog.HeldDialog.{HeldDialog}
use Rattle.sip_held_dialogs.specs.Dialogs.{Dialogs, confirmed, dialog_at, dialog_changed, early_ended, ended_at, ended_notice, is_dialog_id, is_early_of, tag_text}
use Rattle.sip_held_dialogs.specs.Ids.{is_id}
use Rattle.sip_held_dialogs.specs.Requests.{dialog_id_of, dialog_id_of_tags}
use Rattle.sip_served.specs.declared.held_request.HeldRequest.{HeldRequest}
use Rattle.sip_served.specs.Respond.{answer_to, by_refusal, by_request, confirms_dialog, dialogs_answered, made_dialog, makes_dialog, refusal_for, rejects, respond_taken}
use Rattle.sip_served.specs.State.{State, ServedTaken, has_id}
use Rattle.sip_served.proofs.ResponseRules.{respond_same}
use Rattle.sip_clients.specs.declared.client.Cancelling.{Cancelling}
use Rattle.sip_clients.specs.declared.client.Cancelling.TheVariants.{Sent, Waits}
use Rattle.sip_clients.specs.declared.client.Client.{Client}
use Rattle.sip_clients.specs.declared.event.Event.{Event}
use Rattle.sip_clients.specs.Abandon.{dialog_abandoned, dialog_abandoned_of, request_abandoned, request_abandoned_of}
use Rattle.sip_clients.specs.Client.{Clients, ClientTaken, Side, client_at}
use Rattle.sip_clients.specs.Clients.{lost_of, request_lost}
use Rattle.sip_clients.specs.Commands.{name_in}
use Rattle.sip_clients.specs.RefusedCommands.{is_refusal}
use Rattle.sip_clients.specs.Rules.Requests.{ack_command, ack_kept, cancel_command, cancel_of_request, cancel_request, has_command, invite_command, is_asked, is_invite_kind, is_same_pending, method_of, oldest_pending, pending_by_user, pending_command, pending_sent, pending_unsent, plain_command, prack_command, refusals_in, refuse, request_command, request_in_dialog, request_with_next_number, start, with_100rel, with_number}
use Rattle.sip_clients.proofs.Abandons as abandons
use Rattle.sip_calls.specs.declared.call.Call.{Call}
use Rattle.sip_calls.specs.declared.calls.Calls.{Calls}
use Rattle.sip_calls.specs.Call.{call_refusal, call_step, event_of, item_of_call, new_call, used_command}
use Rattle.sip_calls.specs.Provisionals.{side_held}
use Rattle.sip_calls.specs.Sides.{side_of}
use Rattle.sip_calls.proofs.RefusedAlone.{refused_alone}
use Rattle.sip_agent_laws.specs.Calls.Commanded.{EachCommandIsAnswered, GivesOne, OneAck, OneCommand, abandons as gives_up, answers, goes_out, starts}
use Rattle.sip_agent_laws.specs.Calls.Waiting.{lacks_response}
use Rattle.sip_agent_laws.proofs.calls.Ended.{ended_same}

-- not refused
abbrev Unrefused : List CallOut → Type 0
Unrefused outs = list_any is_refusal outs ≡ false

-- a refusal is no such output
no_refusal : {X : Type 0} → true ≡ false → X
no_refusal e = absurd (true≢false e)

-- ---- the ends of dialogs are told

pub ends_stay : (dialogs : List HeldDialog) → goes_out (map ended_notice dialogs) ≡ []
ends_stay [] = refl
ends_stay (held ∷ dialogs) = ends_stay dialogs

early_stay : (invite : Id) (dialogs : Dialogs) → goes_out (early_ended invite dialogs).1 ≡ []
early_stay invite dialogs = ends_stay (filter (is_early_of invite) (values_of dialogs))

pub end_stays : (name : DialogId) (dialogs : Dialogs) → goes_out (ended_at name dialogs).1 ≡ []
end_stays name dialogs = by_dialog (dialog_at name dialogs)
  where
    by_dialog : (o : Option HeldDialog)
        → goes_out (option_map_or (λ held. ended_notice held ∷ []) o []) ≡ []
    by_dialog None = refl
    by_dialog (Some held) = refl

-- a command to a transaction, and then only what is told
one_command : (is_it : Order → Bool) (id : Id) (one : Order) (ends : List CallOut)
    → goes_out ends ≡ [] → is_it one ≡ true → OneCommand is_it (Command id one ∷ ends)
one_command is_it id one ends told is = (id, one, ap (λ outs. Command id one ∷ outs) told, is)

-- the transaction of a request starts
abbrev start_of : Client → Order
start_of client =
    order.Start (client_key (top_branch client.request) client.request.cseq.method)
    client.request.call_id client.request client.to

same_method : (method : List ℕ) → bytes_eq method method ≡ true
same_method method = (bytes_eq-Decides method method).1 refl

-- ---- an answer

answer_ends : (event : Id) (held : HeldRequest) (status : ℕ) (response : Message)
    (dialogs : Dialogs) → goes_out (dialogs_answered event held status response dialogs).1 ≡ []
answer_ends event held status response dialogs =
    by_tests (makes_dialog held status) (confirms_dialog held status) (rejects held status)
  where
    made : Dialogs
    made = insert_entry is_dialog_id dialogs (dialog_id_of held.request held.tag)
        (made_dialog event held status)

    told : Dialogs
    told = dialog_changed (dialog_id_of held.request held.tag) (confirmed response) dialogs

    by_tests : (makes confirms rejected : Bool) → goes_out (cond {A = Dialogs × List CallOut} makes
        (made, []) (cond confirms (told, []) (cond rejected (early_ended held.id dialogs)
        (dialogs, [])))).1 ≡ []
    by_tests true confirms rejected = refl
    by_tests false true rejected = refl
    by_tests false false true = early_stay held.id dialogs
    by_tests false false false = refl

respond_gives : (state : State) (event : Id) (r : Answer) (now : ℕ)
    → Unrefused (respond_taken state event r now).1
    → OneCommand answers (respond_taken state event r now).1
respond_gives state event r now = by_held (find (has_id r.id) state.requests)
  where
    by_reason : (held : HeldRequest) (o : Option Refusal)
        → Unrefused (by_refusal state event r now held o).1
        → OneCommand answers (by_refusal state event r now held o).1
    by_reason held (Some refusal) none = no_refusal none
    by_reason held None none =
        let response = answer_to state.local held r in
        one_command answers held.id (order.Answer held.key response)
        (dialogs_answered event held r.status response state.dialogs).1
        (answer_ends event held r.status response state.dialogs) refl

    by_held : (o : Option HeldRequest) → Unrefused (by_request state event r now o).1
        → OneCommand answers (by_request state event r now o).1
    by_held None none = no_refusal none
    by_held (Some held) none = by_reason held (refusal_for state.dialogs r held) none

-- ---- one of an option

or_gives : {X : Type 0} (P : List CallOut → Type 0) (f : X → ClientTaken) (otherwise : ClientTaken)
    → ((x : X) → Unrefused (f x).1 → P (f x).1) → (Unrefused otherwise.1 → P otherwise.1)
    → (o : Option X) → Unrefused (option_map_or f o otherwise).1
    → P (option_map_or f o otherwise).1
or_gives P f otherwise each none None = none
or_gives P f otherwise each none (Some x) = each x

-- ---- a request in a dialog

end_if : (b : Bool) (name : DialogId) (dialogs : Dialogs)
    → goes_out (cond {A = Dialogs × List CallOut} b (ended_at name dialogs) (dialogs, [])).1 ≡ []
end_if true name dialogs = end_stays name dialogs
end_if false name dialogs = refl

in_dialog_gives : (event : Event) (command : DialogRequest) (side : Side) (name : DialogId)
    (held : HeldDialog) → Unrefused (request_in_dialog event command side name held).1
    → OneCommand (starts command.method) (request_in_dialog event command side name held).1
unfolding with_content_of
in_dialog_gives event command side name held =
    let client =
    request_with_next_number event name command.method None command.content held in
    let dialogs = set_value (is_dialog_id name) side.dialogs (with_number held) in
    let ended = if bytes_eq command.method (codes "BYE") then ended_at name dialogs
    else (dialogs, []) in
    or_gives (OneCommand (starts command.method)) (refuse event command.call_id side) (
      record { dialogs = ended.0; clients = insert_entry is_id side.clients client.id client },
      Command client.id (start_of client) ∷ ended.1,
    )
    (λ refusal none. no_refusal none)
    (λ none. one_command (starts command.method) client.id (start_of client) ended.1
    (end_if (bytes_eq command.method (codes "BYE")) name dialogs) (same_method command.method))
    (first_refusal ((has_command command.method, BadMethod)
    ∷ refusals_in held.dialog command.method) None)

request_gives : (event : Event) (command : DialogRequest) (side : Side)
    → Unrefused (request_command event command side).1
    → OneCommand (starts command.method) (request_command event command side).1
unfolding request_command
request_gives event command side =
    let name = dialog_id_of_tags (tag_text command.local_tag) (tag_text command.remote_tag) in
    or_gives (OneCommand (starts command.method)) (request_in_dialog event command side name)
    (refuse event command.call_id side NoSuchDialog) (in_dialog_gives event command side name)
    (λ none. no_refusal none) (lookup (is_dialog_id name) side.dialogs)

-- ---- an ACK, a PRACK

-- what is found passes the test
found_passes : {X : Type 0} (test : X → Bool) (xs : List X) (x : X) → find test xs ≡ Some x
    → test x ≡ true
found_passes test [] x found = absurd cc
found_passes test (y ∷ xs) x found =
    by_first (test y) refl found (λ later. found_passes test xs x later)
  where
    by_first : (b : Bool) → test y ≡ b → cond b (Some y) (find test xs) ≡ Some x
        → (find test xs ≡ Some x → test x ≡ true) → test x ≡ true
    by_first true is found later = let same : y ≡ x = cc in ap test (sym same) ∙ is
    by_first false is found later = later found

module _ (event : Event) (command : DialogBody) (side : Side) (name : DialogId)
    (held : HeldDialog) where
  abbrev without_it : PendingRequest → HeldDialog
  without_it owed = record held {
    pending_requests = filter (λ other. not (is_same_pending owed other)) held.pending_requests;
  }

  -- by why it is refused
  abbrev outs_by : PendingRequest → Option Refusal → List CallOut
  outs_by owed o =
      let done = option_map_or
      (λ refusal. pending_unsent held (refused event.id command.call_id refusal)) o
      (pending_sent event name owed command.content (without_it owed)) in
      (fold start (ack_kept owed name done.ack side.clients, done.outs) done.prack).1

  ack_by : (owed : PendingRequest) → bytes_eq (method_of owed) (codes "ACK") ≡ true
      → (o : Option Refusal) → Unrefused (outs_by owed o) → OneAck (outs_by owed o)
  ack_by owed is (Some refusal) none = no_refusal none
  ack_by (Ack invite number) is None none = (_, _, refl)
  ack_by (Prack rseq number) is None none = absurd (false≢true is)

  prack_by : (owed : PendingRequest) → bytes_eq (method_of owed) (codes "PRACK") ≡ true
      → (o : Option Refusal) → Unrefused (outs_by owed o)
      → OneCommand (starts (codes "PRACK")) (outs_by owed o)
  unfolding with_content_of
  prack_by owed is (Some refusal) none = no_refusal none
  prack_by (Ack invite number) is None none = absurd (false≢true is)
  prack_by (Prack rseq number) is None none = (_, _, refl, refl)

  abbrev reason : PendingRequest → Option Refusal
  reason owed = first_refusal (refusals_in (without_it owed).dialog (method_of owed)) None

  oldest_gives : (P : List CallOut → Type 0) (method : List ℕ) (nothing : Refusal)
      → ((owed : PendingRequest) → bytes_eq (method_of owed) method ≡ true
      → Unrefused (outs_by owed (reason owed)) → P (outs_by owed (reason owed)))
      → Unrefused (oldest_pending method nothing event command side name held).1
      → P (oldest_pending method nothing event command side name held).1
  oldest_gives P method nothing each =
      by_found (find (λ owed. bytes_eq (method_of owed) method) held.pending_requests) refl
    where
      by_found : (o : Option PendingRequest)
          → find (λ owed. bytes_eq (method_of owed) method) held.pending_requests ≡ o
          → Unrefused (option_map_or (pending_by_user event command side name held) o
          (refuse event command.call_id side nothing)).1
          → P (option_map_or (pending_by_user event command side name held) o
          (refuse event command.call_id side nothing)).1
      by_found None found none = no_refusal none
      by_found (Some owed) found none =
          each owed (found_passes (λ owed. bytes_eq (method_of owed) method)
          held.pending_requests owed found) none

pending_gives : (P : List CallOut → Type 0) (method : List ℕ) (nothing : Refusal) (event : Event)
    (command : DialogBody) (side : Side)
    → ((name : DialogId) (held : HeldDialog) (owed : PendingRequest)
    → bytes_eq (method_of owed) method ≡ true
    → Unrefused (outs_by event command side name held owed
    (reason event command side name held owed))
    → P (outs_by event command side name held owed (reason event command side name held owed)))
    → Unrefused (pending_command method nothing event command side).1
    → P (pending_command method nothing event command side).1
pending_gives P method nothing event command side each =
    let name = dialog_id_of_tags (tag_text command.local_tag) (tag_text command.remote_tag) in
    or_gives P (oldest_pending method nothing event command side name)
    (refuse event command.call_id side NoSuchDialog)
    (λ held. oldest_gives event command side name held P method nothing (each name held))
    (λ none. no_refusal none) (lookup (is_dialog_id name) side.dialogs)

ack_gives : (event : Event) (command : DialogBody) (side : Side)
    → Unrefused (ack_command event command side).1 → OneAck (ack_command event command side).1
unfolding ack_command
ack_gives event command side =
    pending_gives OneAck (codes "ACK") NothingToAck event command side
    (λ name held owed is. ack_by event command side name held owed is
    (reason event command side name held owed))

prack_gives : (event : Event) (command : DialogBody) (side : Side)
    → Unrefused (prack_command event command side).1
    → OneCommand (starts (codes "PRACK")) (prack_command event command side).1
unfolding prack_command
prack_gives event command side =
    pending_gives (OneCommand (starts (codes "PRACK"))) (codes "PRACK") NothingToPrack event command side
    (λ name held owed is. prack_by event command side name held owed is
    (reason event command side name held owed))

-- ---- a CANCEL

-- whether an INVITE of its id is held that lacks its final response
abbrev CancelGives : Bool → List CallOut → Type 0
CancelGives lacks outs =
    OneCommand (starts (codes "CANCEL")) outs ⊎ ((outs ≡ []) × (lacks ≡ true))

invite_gives : (event : Event) (command : ACancel) (side : Side) (invite : Client)
    → Unrefused (cancel_of_request event command side invite).1
    → CancelGives (lacks_response invite) (cancel_of_request event command side invite).1
invite_gives event command side invite =
    by_tests (is_invite_kind invite.kind) invite.removal _
    (by_asked (is_asked invite.cancel) invite.provisional)
  where
    by_tests : (b : Bool) (o : Option ℕ) (rest : ClientTaken) → CancelGives true rest.1
        → let outs = (if not b then refuse event command.call_id side NoSuchRequest
        else if is_some o then refuse event command.call_id side AlreadyFinal else rest).1 in
        Unrefused outs → CancelGives (b && is_none o) outs
    by_tests false o rest gives none = no_refusal none
    by_tests true (Some end) rest gives none = no_refusal none
    by_tests true None rest gives none = gives

    with_cancel : Cancelling → Clients
    with_cancel cancel =
        set_value (is_id command.id) side.clients (record invite { cancel = cancel })

    by_asked : (asked provisional : Bool) → CancelGives true (cond {A = ClientTaken} asked
        (side, []) (
        let done = cond {A = Clients × List CallOut} provisional
        (start (with_cancel Sent, []) (cancel_request event.id invite))
        (with_cancel (Waits event.id), []) in
        (record side { clients = done.0 }, done.1))).1
    by_asked true provisional = inr (refl, refl)
    by_asked false true = inl (_, _, refl, refl)
    by_asked false false = inr (refl, refl)

cancel_gives : (event : Event) (command : ACancel) (side : Side)
    → Unrefused (cancel_command event command side).1
    → GivesOne side.clients (Cancel command) (cancel_command event command side).1
unfolding cancel_command
cancel_gives event command side = by_found (client_at command.id side.clients)
  where
    by_found : (o : Option Client)
        → let outs = (option_map_or (cancel_of_request event command side) o
        (refuse event command.call_id side NoSuchRequest)).1 in
        Unrefused outs → CancelGives (option_map_or lacks_response o false) outs
    by_found None none = no_refusal none
    by_found (Some invite) none = invite_gives event command side invite none

-- ---- outside of dialogs

supporting : (support : ProvisionalSupport) (invite : Message)
    → (with_100rel support invite).cseq ≡ invite.cseq
supporting support.None invite = refl
supporting _ invite = refl

invite_goes : (event : Event) (invite : AnInvite) (clients : Clients)
    → OneCommand (starts (codes "INVITE")) (invite_command event invite clients).1
unfolding invite_command with_content_of
invite_goes event invite clients = (
  _,
  _,
  refl,
  ap (λ (cseq : CSeq). bytes_eq cseq.method (codes "INVITE")) (supporting invite.support _),
)

plain_goes : (event : Event) (plain : APlain) (clients : Clients)
    → Unrefused (plain_command event plain clients).1
    → OneCommand (starts plain.method) (plain_command event plain clients).1
unfolding plain_command with_content_of
plain_goes event plain clients =
    by_bool (has_command plain.method || bytes_eq plain.method (codes "INVITE")
    || bytes_eq plain.method (codes "BYE"))
    (λ bad. rw bad (λ none. no_refusal none)) (λ good. rw good (λ none. (_, _, refl, same_method plain.method)))

-- ---- giving up

abandon_gives : (event : Event) (command : Given) (side : Side)
    → Unrefused (request_abandoned event command side).1
    → OneCommand gives_up (request_abandoned event command side).1
abandon_gives event command side = by_found (client_at command.id side.clients) refl
  where
    by_found : (o : Option Client) → client_at command.id side.clients ≡ o
        → Unrefused (request_abandoned_of o event command side).1
        → OneCommand gives_up (request_abandoned_of o event command side).1
    by_found None is none = no_refusal none
    by_found (Some client) is none =
        one_command gives_up command.id
        (order.Abandon (client_key (top_branch client.request) client.request.cseq.method))
        (request_lost command.id false side).1
        (ap (λ (o : Option Client). goes_out (lost_of command.id false o side).1) is
        ∙ ap (λ (ended : Dialogs × List CallOut). goes_out ended.1)
        (ended_same client side.dialogs)
        ∙ early_stay client.id side.dialogs) refl

dialog_gives : (event : Event) (command : Dialog) (side : Side)
    → Unrefused (dialog_abandoned event command side).1
    → goes_out (dialog_abandoned event command side).1 ≡ []
dialog_gives event command side = by_found (dialog_at own side.dialogs)
  where
    own : DialogId
    own = name_in command.local_tag command.remote_tag

    by_found : (o : Option HeldDialog)
        → Unrefused (dialog_abandoned_of o event command own side).1
        → goes_out (dialog_abandoned_of o event command own side).1 ≡ []
    by_found None none = refl
    by_found (Some held) none = end_stays own side.dialogs

-- ---- a whole call

used_gives : (call : Call) (event : Event) (command : UserCommand)
    → Unrefused (used_command call event command).1
    → GivesOne call.clients command (used_command call event command).1
used_gives call event (Invite invite) = λ none. invite_goes event invite call.clients
used_gives call event (Plain plain) = λ none. plain_goes event plain call.clients none
used_gives call event (Request request) = λ none. request_gives event request (side_of call) none
used_gives call event (Respond respond) =
    subst (λ (taken : ServedTaken). Unrefused taken.1 → OneCommand answers taken.1)
    (sym (respond_same call.served event.id respond event.moment))
    (respond_gives call.served event.id respond event.moment)
used_gives call event (AckCommand ack) = λ none. ack_gives event ack (side_of call) none
used_gives call event (PrackCommand prack) = λ none. prack_gives event prack (side_of call) none
used_gives call event (Cancel cancel) = λ none. cancel_gives event cancel (side_of call) none
used_gives call event (AbandonRequest abandon) =
    subst (λ (taken : ClientTaken). Unrefused taken.1 → OneCommand gives_up taken.1)
    (sym (abandons.request_same event abandon (side_of call)))
    (abandon_gives event abandon (side_of call))
used_gives call event (AbandonDialog abandon) =
    subst (λ (taken : ClientTaken). Unrefused taken.1 → goes_out taken.1 ≡ [])
    (sym (abandons.dialog_same event abandon (side_of call)))
    (dialog_gives event abandon (side_of call))

item_gives : (held : Bool) (call : Call) (event : Event) (command : UserCommand)
    → Unrefused (item_of_call held call event (User command)).1
    → GivesOne call.clients command (item_of_call held call event (User command)).1
item_gives held call event command = by_refusal (call_refusal held command)
  where
    by_refusal : (o : Option Refusal) → Unrefused (option_map_or
        (λ refusal. (call, refused event.id (call_of_command command) refusal)) o
        (used_command call event command)).1
        → GivesOne call.clients command (option_map_or
        (λ refusal. (call, refused event.id (call_of_command command) refusal)) o
        (used_command call event command)).1
    by_refusal None = used_gives call event command
    by_refusal (Some refusal) = λ none. no_refusal none

gives : (calls : Calls) (state : Option Call) (event : Id) (command : UserCommand) (now : ℕ)
    → Unrefused (call_step calls state (Some (event, User command)) now).1
    → GivesOne (side_held state).clients command
    (call_step calls state (Some (event, User command)) now).1
gives calls None event command now =
    item_gives false (new_call calls.local) (event_of calls event now) command
gives calls (Some call) event command now =
    item_gives true call (event_of calls event now) command

pub each_command_is_answered : EachCommandIsAnswered
each_command_is_answered calls state event command now =
    by_bool (list_any is_refusal (call_step calls state (Some (event, User command)) now).1)
    (λ refused. inl (refused_alone calls state event command now refused))
    (λ none. inr (gives calls state event command now none))
