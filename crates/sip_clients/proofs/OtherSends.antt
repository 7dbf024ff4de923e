-- A CANCEL goes out only by a provisional response or a command to cancel, and an ACK only by a
-- final response or a command.
use Rattle.std.proofs.Common.{◌≡◌, ℕ, Bool, true, false, not, cond, ◌&&◌, ◌||◌, List, [], ◌∷◌, ◌++◌, map, refl, sym, ap, subst, ◌∙◌, append-nil}
use Rattle.std.specs.Prelude.{Option, None, Some, Result, Ok, Err, codes, filter, if◌then◌else◌}
use Rattle.std.specs.List.{AllByRecursion}
use Rattle.std.specs.Map.{set_value, values_of}
use Rattle.std.specs.Option.{option_map, option_map_or}
use Rattle.std.specs.Str.{bytes_eq}
use Rattle.std.proofs.lemmas.Bool.{false≢true, true≢false}
use Rattle.std.proofs.lemmas.List.Elements.{filter_map-append}
use Rattle.sip_dialog.specs.declared.dialog.Dialog.{Dialog}
use Rattle.sip_dialog.specs.declared.fault.DialogFault.{DialogFault}
use Rattle.sip_dialog.specs.Fault.{ack_fault, request_fault}
use Rattle.sip_message.specs.Content.{Content, with_content_of}
use Rattle.sip_message.specs.declared.id.Id.{Id}
use Rattle.sip_message.specs.declared.message.Message.{Message}
use Rattle.sip_reliable.specs.declared.offer.Offer.{Offer}
use Rattle.sip_reliable.specs.declared.offer.Offer.TheVariants.{Taken, Repeat, Gap}
use Rattle.sip_reliable.specs.Inbound.{offered}
use Rattle.sip_user.specs.declared.command.Cancel.{Cancel}
use Rattle.sip_user.specs.declared.command.DialogBody.{DialogBody}
use Rattle.sip_user.specs.declared.command.DialogRequest.{DialogRequest}
use Rattle.sip_user.specs.declared.command.Invite.{Invite}
use Rattle.sip_user.specs.declared.command.Plain.{Plain as PlainCommand}
use Rattle.sip_user.specs.declared.command.ProvisionalSupport.{ProvisionalSupport}
use Rattle.sip_user.specs.declared.command.ProvisionalSupport.TheVariants as support
use Rattle.sip_held_dialogs.specs.declared.pending_request.PendingRequest.{PendingRequest}
use Rattle.sip_held_dialogs.specs.declared.pending_request.PendingRequest.TheVariants.{Ack, Prack}
use Rattle.sip_held_dialogs.specs.declared.held_dialog.DialogId.{DialogId}
use Rattle.sip_held_dialogs.specs.declared.held_dialog.HeldDialog.{HeldDialog}
use Rattle.sip_user.specs.declared.item.CallOut.{CallOut}
use Rattle.sip_user.specs.declared.item.CallOut.TheVariants as out
use Rattle.sip_user.specs.declared.refusal.Refusal.{Refusal}
use Rattle.sip_user.specs.declared.refusal.Refusal.TheVariants.{BadMethod, NoSuchDialog}
use Rattle.sip_held_dialogs.specs.Dialogs.{Dialogs, dialog_at, early_ended, ended_at, ended_notice, is_early_of, is_dialog_id, lives}
use Rattle.sip_held_dialogs.specs.Ids.{is_id}
use Rattle.sip_user.specs.Notices.{refused}
use Rattle.sip_user.specs.Refusal.{first_refusal}
use Rattle.sip_held_dialogs.specs.Requests.{is_cancel, is_final, is_success}
use Rattle.sip_held_dialogs.proofs.Each.{all_of_each, both}
use Rattle.sip_clients.specs.declared.cancel_command.CancelCase.{CancelCase}
use Rattle.sip_clients.specs.declared.cancel_command.CancelCase.TheVariants as ask
use Rattle.sip_clients.specs.declared.client.Cancelling.{Cancelling}
use Rattle.sip_clients.specs.declared.client.Cancelling.TheVariants as cancel
use Rattle.sip_clients.specs.declared.client.Client.{Client}
use Rattle.sip_clients.specs.declared.client.RequestKind.{RequestKind}
use Rattle.sip_clients.specs.declared.client.RequestKind.TheVariants.{InitialInvite, ReInvite, InDialog, OutOfDialog}
use Rattle.sip_clients.specs.declared.pending.PendingKind.TheVariants as kind
use Rattle.sip_clients.specs.declared.event.Event.{Event}
use Rattle.sip_clients.specs.declared.outputs.ClientChange.{ClientChange}
use Rattle.sip_clients.specs.declared.outputs.ClientChange.TheVariants.{Stays, Over, Starts}
use Rattle.sip_clients.specs.declared.reply.ReceivedResponse.{ReceivedResponse}
use Rattle.sip_clients.specs.declared.reply.ReplyCase.{ReplyCase}
use Rattle.sip_clients.specs.declared.reply.ReplyCase.TheVariants as reply
use Rattle.sip_clients.specs.declared.send_outcome.OutgoingRequest.{OutgoingRequest}
use Rattle.sip_clients.specs.declared.send_outcome.SendOutcome.{SendOutcome}
use Rattle.sip_clients.specs.declared.send_outcome.SendOutcome.TheVariants as outcome
use Rattle.sip_clients.specs.Answers.{has_answer}
use Rattle.sip_clients.specs.Cancel.{after_response, cancel_by_user, cancel_case, cancel_client, cancelled_as, cancelled_of, freed_by}
use Rattle.sip_clients.specs.Client.{Clients, Side, ClientTaken, client_at, client_for}
use Rattle.sip_clients.specs.ClientLife.{ack_in, acks_out, cancels_out, requests_out}
use Rattle.sip_clients.specs.ClientRules.{SendsByStatus, SendsNoAck, SendsNoCancel}
use Rattle.sip_clients.specs.Clients.{ack_by_user, found_taken, invite_taken, lost_of, paid_or_refused, plain_taken, prack_by_user, prack_paid, reply_name, reply_of, reply_settled, request_by_user, request_lost, response_taken, settled, side_after, started, status_of}
use Rattle.sip_clients.specs.Commands.{bye_ended, pending_for, is_bad_outside, is_own_kind, name_in, request_in_held, request_refusals, requested_at, sent_unless}
use Rattle.sip_clients.specs.Pending.{sent_pending}
use Rattle.sip_clients.specs.Dialogs.{dialog_for_provisional, ended_with, own_ended, paid_at, served_at}
use Rattle.sip_clients.specs.OwnCall.{on_side}
use Rattle.sip_clients.specs.Outputs.{request_said, start_command}
use Rattle.sip_clients.specs.Outside.{bare_invite, bare_plain, bare_request, invite_of, plain_of, supporting, through}
use Rattle.sip_clients.specs.Replied.{Replied, after_dialog, by_reply_case, ends_dialog, prack_owed, request_over}
use Rattle.sip_clients.specs.ReceivedResponse.{heard_of, is_dialog_response, is_invite_kind, is_last, has_dialog, offer_case, reliable_case, rseq_of, success_case}
use Rattle.sip_clients.specs.SendOutcome.{Outcome, discharged, sending_in, outcome_by}
use Rattle.sip_clients.specs.Tick.{clients_ticked, early_ends_told, is_over, over_notices}
use Rattle.sip_clients.proofs.ReplyStories.{sent_method}
use Rattle.sip_clients.proofs.StoryBegins.{HasNoCancel, beside, both_sent, none_sent, settled_no_cancel}
use Rattle.sip_clients.proofs.WithoutStarts.{AreQuiet, ack_quiet, case_quiet, ended_quiet}

-- ---- outputs that are only notices

abbrev IsNotice : CallOut → Type 0
IsNotice (out.Notice notice) = Unit {0}
IsNotice (out.Command id order) = ⊥
IsNotice (out.Direct to bytes) = ⊥

abbrev AreNotices : List CallOut → Type 0
AreNotices outs = AllByRecursion IsNotice outs

no_ack : (outs : List CallOut) → AreNotices outs → acks_out outs ≡ []
no_ack [] all = refl
no_ack (out.Notice notice ∷ outs) all = no_ack outs all.1
no_ack (out.Command id order ∷ outs) all = absurd all.0
no_ack (out.Direct to bytes ∷ outs) all = absurd all.0

no_request : (outs : List CallOut) → AreNotices outs → requests_out outs ≡ []
no_request [] all = refl
no_request (out.Notice notice ∷ outs) all = no_request outs all.1
no_request (out.Command id order ∷ outs) all = absurd all.0
no_request (out.Direct to bytes ∷ outs) all = absurd all.0

no_cancel : (outs : List CallOut) → requests_out outs ≡ [] → cancels_out outs ≡ []
no_cancel outs none = ap (filter (λ sent. is_cancel sent.request)) none

both_acks : (outs more : List CallOut) → acks_out outs ≡ [] → acks_out more ≡ []
    → acks_out (outs ++ more) ≡ []
both_acks outs more first second =
    filter_map-append ack_in outs more ∙ (λ i. first i ++ second i)

ended_notices : (dialogs : List HeldDialog) → AreNotices (map ended_notice dialogs)
ended_notices [] = tt
ended_notices (held ∷ dialogs) = (tt, ended_notices dialogs)

at_notices : (name : DialogId) (dialogs : Dialogs) → AreNotices (ended_at name dialogs).1
at_notices name dialogs = by_dialog (dialog_at name dialogs)
  where
    by_dialog : (o : Option HeldDialog)
        → AreNotices (option_map_or (λ held. ended_notice held ∷ []) o [])
    by_dialog None = tt
    by_dialog (Some held) = (tt, tt)

at_or_notices : (b : Bool) (name : DialogId) (dialogs : Dialogs)
    → AreNotices (cond {A = Dialogs × List CallOut} b (ended_at name dialogs) (dialogs, [])).1
at_or_notices true name dialogs = at_notices name dialogs
at_or_notices false name dialogs = tt

own_notices : (kind : RequestKind) (ends : Bool) (dialogs : Dialogs)
    → AreNotices (own_ended kind ends dialogs).1
own_notices InitialInvite ends dialogs = tt
own_notices (ReInvite life) true dialogs = at_or_notices (lives dialogs life) life.name dialogs
own_notices (ReInvite life) false dialogs = tt
own_notices (InDialog life) true dialogs = at_or_notices (lives dialogs life) life.name dialogs
own_notices (InDialog life) false dialogs = tt
own_notices OutOfDialog ends dialogs = tt

with_notices : (client : Client) (ends : Bool) (dialogs : Dialogs)
    → AreNotices (ended_with client ends dialogs).1
with_notices client ends dialogs =
    let early = early_ended client.id dialogs in
    both IsNotice early.1 (own_ended client.kind ends early.0).1
    (ended_notices (filter (is_early_of client.id) (values_of dialogs)))
    (own_notices client.kind ends early.0)

bye_notices : (name : DialogId) (method : List ℕ) (outcome : SendOutcome) (dialogs : Dialogs)
    → AreNotices (bye_ended name method outcome dialogs).1
bye_notices name method (outcome.Sent sending) dialogs =
    at_or_notices (bytes_eq method (codes "BYE")) name dialogs
bye_notices name method outcome.Waits dialogs = tt
bye_notices name method (outcome.Refused refusal) dialogs = tt

said_notices : (event : Event) (call_id : List ℕ) (name : DialogId) (outcome : SendOutcome)
    → AreNotices (request_said event call_id name outcome).0
said_notices event call_id name (outcome.Sent sending) = tt
said_notices event call_id name outcome.Waits = tt
said_notices event call_id name (outcome.Refused refusal) = (tt, tt)

start_no_ack : (id : Id) (client : Client) → acks_out (start_command id client ∷ []) ≡ []
unfolding start_command
start_no_ack id client = refl

settled_no_ack : (event : Event) (id : Id) (change : ClientChange) (clients : Clients)
    → acks_out (settled event id change clients).1 ≡ []
settled_no_ack event id Stays clients = refl
settled_no_ack event id Over clients = refl
settled_no_ack event id (Starts client) clients = start_no_ack event.id client

-- ---- a request that is lost, and a tick

lost_notices : (id : Id) (timed_out : Bool) (o : Option Client) (side : Side)
    → AreNotices (lost_of id timed_out o side).1
lost_notices id timed_out None side = tt
lost_notices id timed_out (Some client) side = with_notices client timed_out side.dialogs

pub lost_no_cancel : (id : Id) (timed_out : Bool) → SendsNoCancel (request_lost id timed_out)
lost_no_cancel id timed_out side =
    no_cancel (request_lost id timed_out side).1 (no_request (request_lost id timed_out side).1
    (lost_notices id timed_out (client_at id side.clients) side))

pub lost_no_ack : (id : Id) (timed_out : Bool) → SendsNoAck (request_lost id timed_out)
lost_no_ack id timed_out side =
    no_ack (request_lost id timed_out side).1
    (lost_notices id timed_out (client_at id side.clients) side)

tick_notices : (now : ℕ) (dialogs : Dialogs) (clients : Clients)
    → AreNotices (over_notices now dialogs clients)
tick_notices now dialogs clients =
    all_of_each IsNotice (early_ends_told now dialogs)
    (λ client. over (is_over now client) client) (values_of clients)
  where
    over : (b : Bool) (client : Client)
        → AreNotices (if b then (early_ended client.id dialogs).1 else [])
    over true client = ended_notices (filter (is_early_of client.id) (values_of dialogs))
    over false client = tt

pub tick_no_cancel : (now : ℕ) → SendsNoCancel (λ side. clients_ticked side now)
tick_no_cancel now side =
    no_cancel (clients_ticked side now).1 (no_request (clients_ticked side now).1
    (tick_notices now side.dialogs side.clients))

pub tick_no_ack : (now : ℕ) → SendsNoAck (λ side. clients_ticked side now)
tick_no_ack now side =
    no_ack (clients_ticked side now).1 (tick_notices now side.dialogs side.clients)

-- ---- commands outside of dialogs

content_cancel : (message : Message) (content : Content)
    → is_cancel (with_content_of message content) ≡ is_cancel message
unfolding with_content_of
content_cancel message content = refl

bare_cancel : (event : Event) (call_id method uri from to : List ℕ)
    → is_cancel (bare_request event call_id method uri from to)
    ≡ bytes_eq method (codes "CANCEL")
unfolding bare_request
bare_cancel event call_id method uri from to = refl

supports_cancel : (asked_for : ProvisionalSupport) (message : Message)
    → is_cancel (supporting asked_for message) ≡ is_cancel message
supports_cancel support.None message = refl
supports_cancel support.Supported message = refl
supports_cancel support.Required message = refl

invite_is_none : (event : Event) (invite : Invite) → is_cancel (invite_of event invite) ≡ false
invite_is_none event invite =
    content_cancel (through invite.routes (bare_invite event invite)) invite.content
    ∙ supports_cancel invite.support _
    ∙ bare_cancel event invite.call_id (codes "INVITE") invite.request_uri invite.from invite.to

pub invite_no_cancel : (event : Event) (invite : Invite)
    → SendsNoCancel (on_side (invite_taken event invite))
invite_no_cancel event invite side =
    settled_no_cancel event event.id
    (Starts (client_for event.id InitialInvite (invite_of event invite) invite.address))
    side.clients
    (invite_is_none event invite)

pub invite_no_ack : (event : Event) (invite : Invite)
    → SendsNoAck (on_side (invite_taken event invite))
invite_no_ack event invite side =
    start_no_ack event.id (client_for event.id InitialInvite (invite_of event invite)
    invite.address)

none_own : (ack cancel prack invite bye : Bool)
    → (((ack || cancel) || prack) || invite || bye) ≡ false → cancel ≡ false
none_own true cancel prack invite bye none = absurd (true≢false none)
none_own false true prack invite bye none = absurd (true≢false none)
none_own false false prack invite bye none = refl

plain_is_none : (event : Event) (plain : PlainCommand) → is_bad_outside plain.method ≡ false
    → is_cancel (plain_of event plain) ≡ false
plain_is_none event plain good =
    content_cancel (through plain.routes (bare_plain event plain)) plain.content
    ∙ bare_cancel event plain.call_id plain.method plain.request_uri plain.from plain.to
    ∙ none_own (bytes_eq plain.method (codes "ACK")) (bytes_eq plain.method (codes "CANCEL"))
    (bytes_eq plain.method (codes "PRACK")) (bytes_eq plain.method (codes "INVITE"))
    (bytes_eq plain.method (codes "BYE")) good

pub plain_no_cancel : (event : Event) (plain : PlainCommand)
    → SendsNoCancel (on_side (plain_taken event plain))
plain_no_cancel event plain side = by_method (is_bad_outside plain.method) refl
  where
    by_method : (bad : Bool) → is_bad_outside plain.method ≡ bad
        → cancels_out (cond {A = Clients × List CallOut} bad
        (side.clients, refused event.id plain.call_id BadMethod)
        (started event (client_for event.id OutOfDialog (plain_of event plain) plain.address)
        side.clients)).1 ≡ []
    by_method true is = refl
    by_method false is =
        settled_no_cancel event event.id
        (Starts (client_for event.id OutOfDialog (plain_of event plain) plain.address)) side.clients
        (plain_is_none event plain is)

pub plain_no_ack : (event : Event) (plain : PlainCommand)
    → SendsNoAck (on_side (plain_taken event plain))
plain_no_ack event plain side = by_method (is_bad_outside plain.method)
  where
    by_method : (bad : Bool)
        → acks_out (cond {A = Clients × List CallOut} bad
        (side.clients, refused event.id plain.call_id BadMethod)
        (started event (client_for event.id OutOfDialog (plain_of event plain) plain.address)
        side.clients)).1 ≡ []
    by_method true = refl
    by_method false =
        start_no_ack event.id (client_for event.id OutOfDialog (plain_of event plain) plain.address)

-- ---- requests in a dialog

abbrev IsNoCancel : SendOutcome → Type 0
IsNoCancel (outcome.Sent sending) = is_cancel sending.message ≡ false
IsNoCancel outcome.Waits = Unit {0}
IsNoCancel (outcome.Refused refusal) = Unit {0}

served_so : (name : DialogId) (serve : HeldDialog → Outcome) (otherwise : SendOutcome)
    (dialogs : Dialogs) → ((held : HeldDialog) → IsNoCancel (serve held).1) → IsNoCancel otherwise
    → IsNoCancel (served_at name serve otherwise dialogs).1
served_so name serve otherwise dialogs serves other = by_found (dialog_at name dialogs)
  where
    by_found : (o : Option HeldDialog) → IsNoCancel (option_map_or {U = Dialogs × SendOutcome}
        (λ held. (set_value (is_dialog_id name) dialogs (serve held).0, (serve held).1)) o
        (dialogs, otherwise)).1
    by_found None = other
    by_found (Some held) = serves held

said_no_cancel : (event : Event) (call_id : List ℕ) (name : DialogId) (outcome : SendOutcome)
    → IsNoCancel outcome → HasNoCancel (request_said event call_id name outcome).1
said_no_cancel event call_id name (outcome.Sent sending) is = is
said_no_cancel event call_id name outcome.Waits is = tt
said_no_cancel event call_id name (outcome.Refused refusal) is = tt

module _ (event : Event) (call_id : List ℕ) (name : DialogId) (outcome : SendOutcome)
    (clients : Clients) where
  abbrev outs_said : List CallOut
  outs_said =
      let said = request_said event call_id name outcome in
      said.0 ++ (settled event event.id said.1 clients).1

  said_cancels : IsNoCancel outcome → cancels_out outs_said ≡ []
  said_cancels is =
      let said = request_said event call_id name outcome in
      let after = settled event event.id said.1 clients in
      ap (filter (λ sent. is_cancel sent.request)) (both_sent said.0 after.1
      ∙ ap (λ sent. sent ++ requests_out after.1)
      (no_request said.0 (said_notices event call_id name outcome)))
      ∙ settled_no_cancel event event.id said.1 clients
      (said_no_cancel event call_id name outcome is)

  said_acks : acks_out outs_said ≡ []
  said_acks =
      let said = request_said event call_id name outcome in
      let after = settled event event.id said.1 clients in
      both_acks said.0 after.1 (no_ack said.0 (said_notices event call_id name outcome))
      (settled_no_ack event event.id said.1 clients)

own_first : (own : Bool) (others : List (Bool × Refusal))
    → first_refusal ((own, BadMethod) ∷ others) None ≡ None → own ≡ false
own_first true others none = absurd cc
own_first false others none = refl

abbrev rest : List (Bool × Refusal) → List (Bool × Refusal)
rest [] = []
rest (first ∷ others) = others

unrefused : (dialog : Dialog) (method : List ℕ)
    → first_refusal (request_refusals dialog method) None ≡ None → is_own_kind method ≡ false
unrefused dialog method none =
    own_first (is_own_kind method) (rest (request_refusals dialog method)) none

none_in : (ack cancel prack : Bool) → ((ack || cancel) || prack) ≡ false → cancel ≡ false
none_in true cancel prack none = absurd (true≢false none)
none_in false true prack none = absurd (true≢false none)
none_in false false prack none = refl

request_none : (event : Event) (method : List ℕ) (content : Content) (held : HeldDialog)
    → IsNoCancel (request_in_held event method content held).1
unfolding request_in_held
request_none event method content held =
    by_refusal (first_refusal (request_refusals held.dialog method) None) refl
  where
    by_refusal : (o : Option Refusal) → first_refusal (request_refusals held.dialog method) None ≡ o
        → IsNoCancel (sent_unless o (sending_in event method None content held) held).1
    by_refusal None is =
        sent_method event method None content held
        ∙ none_in (bytes_eq method (codes "ACK")) (bytes_eq method (codes "CANCEL"))
        (bytes_eq method (codes "PRACK")) (unrefused held.dialog method is)
    by_refusal (Some refusal) is = tt

module _ (event : Event) (command : DialogRequest) (side : Side) where
  abbrev request_name : DialogId
  request_name = name_in command.local_tag command.remote_tag

  abbrev request_done : Dialogs × SendOutcome
  request_done =
      served_at request_name (request_in_held event command.method command.content)
      (outcome.Refused NoSuchDialog) side.dialogs

  abbrev request_bye : List CallOut
  request_bye =
      (bye_ended request_name command.method request_done.1 request_done.0).1

  request_cancels : cancels_out (outs_said event command.call_id request_name request_done.1
      side.clients ++ request_bye) ≡ []
  request_cancels =
      let outs =
      outs_said event command.call_id request_name request_done.1 side.clients in
      ap (filter (λ sent. is_cancel sent.request)) (both_sent outs request_bye
      ∙ ap (λ sent. requests_out outs ++ sent) (no_request request_bye
      (bye_notices request_name command.method request_done.1 request_done.0))
      ∙ append-nil (requests_out outs))
      ∙ said_cancels event command.call_id request_name request_done.1 side.clients
      (served_so request_name (request_in_held event command.method command.content)
      (outcome.Refused NoSuchDialog) side.dialogs
      (request_none event command.method command.content) tt)

  request_acks : acks_out (outs_said event command.call_id request_name request_done.1
      side.clients ++ request_bye) ≡ []
  request_acks =
      both_acks (outs_said event command.call_id request_name request_done.1 side.clients)
      request_bye (said_acks event command.call_id request_name request_done.1 side.clients)
      (no_ack request_bye (bye_notices request_name command.method request_done.1 request_done.0))

pub request_no_cancel : (event : Event) (command : DialogRequest)
    → SendsNoCancel (request_by_user event command)
unfolding requested_at
request_no_cancel event command side = request_cancels event command side

pub request_no_ack : (event : Event) (command : DialogRequest)
    → SendsNoAck (request_by_user event command)
unfolding requested_at
request_no_ack event command side = request_acks event command side

service_none : (o : Option DialogFault) (sending : OutgoingRequest) → is_cancel sending.message
    ≡ false
    → IsNoCancel (outcome_by o sending)
service_none None sending none = none
service_none (Some fault) sending none = tt

paid_none : (event : Event) (pending : PendingRequest) (content : Content) (held : HeldDialog)
    → IsNoCancel (sent_pending event pending content held).1
unfolding sent_pending discharged with_content_of
paid_none event (Ack invite number) content held =
    service_none (ack_fault held.dialog) _ refl
paid_none event (Prack rseq number) content held =
    service_none (request_fault held.dialog (codes "PRACK")) _ refl

pub prack_no_cancel : (event : Event) (command : DialogBody)
    → SendsNoCancel (prack_by_user event command)
prack_no_cancel event command side = by_debt (pending_for kind.Prack name side.dialogs)
  where
    name : DialogId
    name = name_in command.local_tag command.remote_tag

    by_debt : (o : Result PendingRequest Refusal) → cancels_out
        (paid_or_refused event command (prack_paid event command name) o side).1 ≡ []
    by_debt (Err refusal) = refl
    by_debt (Ok pending) =
        said_cancels event command.call_id name
        (paid_at name event pending command.content side.dialogs).1 side.clients
        (served_so name (sent_pending event pending command.content) outcome.Waits side.dialogs
        (paid_none event pending command.content) tt)

pub prack_no_ack : (event : Event) (command : DialogBody)
    → SendsNoAck (prack_by_user event command)
prack_no_ack event command side = by_debt (pending_for kind.Prack name side.dialogs)
  where
    name : DialogId
    name = name_in command.local_tag command.remote_tag

    by_debt : (o : Result PendingRequest Refusal) → acks_out
        (paid_or_refused event command (prack_paid event command name) o side).1 ≡ []
    by_debt (Err refusal) = refl
    by_debt (Ok pending) =
        said_acks event command.call_id name
        (paid_at name event pending command.content side.dialogs).1 side.clients

-- ---- the commands Ack and Cancel

pub ack_no_cancel : (event : Event) (command : DialogBody)
    → SendsNoCancel (ack_by_user event command)
ack_no_cancel event command side =
    no_cancel (ack_by_user event command side).1
    (none_sent (ack_by_user event command side).1 (ack_quiet event command side))

pub cancel_no_ack : (event : Event) (command : Cancel)
    → SendsNoAck (cancel_by_user event command)
cancel_no_ack event command side = by_found (client_at command.id side.clients)
  where
    by_case : (case : CancelCase) (invite : Client)
        → acks_out (cancelled_as case event command invite side.clients).1 ≡ []
    by_case (ask.Refused refusal) invite = refl
    by_case ask.Repeated invite = refl
    by_case ask.Waits invite = refl
    by_case ask.Starts invite = start_no_ack event.id (cancel_client event.id invite)

    by_found : (o : Option Client)
        → acks_out (cancelled_of o event command side.clients).1 ≡ []
    by_found None = refl
    by_found (Some invite) = by_case (cancel_case invite) invite

-- ---- a response

module _ (event : Event) (id : Id) (call_id : List ℕ) (response : Message) (status : ℕ)
    (client : Client) (side : Side) where
  abbrev name : DialogId
  name = reply_name client.kind client response

  abbrev answer : ReceivedResponse
  answer = reply_of event id call_id name status response

  abbrev found : Option HeldDialog
  found = dialog_at name side.dialogs

  abbrev taken_with : Option Id → Replied → ClientTaken
  taken_with freed done =
      side_after event id side (option_map (λ id. cancel_client id client) freed) done

  none_freed : (state : Cancelling) → freed_by true state ≡ None
  none_freed cancel.NotAsked = refl
  none_freed (cancel.Waits id) = refl
  none_freed cancel.Sent = refl

  abbrev settled_after : Replied → List CallOut
  settled_after done = (settled event id done.3 (set_value (is_id id) side.clients done.0)).1

  -- ---- a final one

  quiet_done : (done : Replied) → AreQuiet done.2 → settled_after done ≡ []
      → cancels_out (taken_with None done).1 ≡ []
  quiet_done done quiet none =
      no_cancel (taken_with None done).1 (both_sent done.2 (settled_after done)
      ∙ (λ i. none_sent done.2 quiet i ++ requests_out (none i)))

  success_quiet : (again there : Bool)
      → cancels_out (taken_with None (after_dialog name side.dialogs
      (by_reply_case (if again then reply.Repeated else (if there then reply.Accepted
      else reply.Late)) (after_response true client) found answer))).1 ≡ []
  success_quiet true there =
      quiet_done (after_dialog name side.dialogs
      (by_reply_case reply.Repeated (after_response true client) found answer))
      (case_quiet reply.Repeated (after_response true client) found answer) refl
  success_quiet false true =
      quiet_done (after_dialog name side.dialogs
      (by_reply_case reply.Accepted (after_response true client) found answer))
      (case_quiet reply.Accepted (after_response true client) found answer) refl
  success_quiet false false =
      quiet_done (after_dialog name side.dialogs
      (by_reply_case reply.Late (after_response true client) found answer))
      (case_quiet reply.Late (after_response true client) found answer) refl

  abbrev case_at : Bool → ReplyCase
  case_at final =
      if final then success_case (after_response final client) found name
      else (if is_dialog_response answer && has_dialog client.kind found
      then reliable_case (heard_of client.kind (after_response final client) found)
      (rseq_of response)
      else reply.Told)

  abbrev done_at : Bool → Bool → Replied
  done_at last final =
      cond {A = Replied} last
      (request_over (after_response final client) side.dialogs answer)
      (after_dialog name side.dialogs
      (by_reply_case (case_at final) (after_response final client) found answer))

  final_cancels : (last : Bool) → cancels_out (taken_with None (done_at last true)).1 ≡ []
  final_cancels true =
      quiet_done (request_over (after_response true client) side.dialogs answer)
      (refl, ended_quiet (after_response true client) (ends_dialog status) side.dialogs) refl
  final_cancels false =
      success_quiet (has_answer name client.answers) (has_dialog client.kind found)

  -- ---- a provisional one

  abbrev freed : Option Id
  freed = freed_by false client.cancel

  beside_no_ack : (o : Option Id) (done : Clients × List CallOut) → acks_out done.1 ≡ []
      → acks_out (beside client o done).1 ≡ []
  beside_no_ack None done none = none
  beside_no_ack (Some waiting) done none =
      both_acks done.1 (start_command waiting (cancel_client waiting client) ∷ []) none
      (start_no_ack waiting (cancel_client waiting client))

  abbrev NoAck : ReplyCase → Type 0
  NoAck case =
      AreNotices (by_reply_case case (after_response false client) found answer).2

  reliable_notices : (rseq : ℕ) → NoAck (reply.Reliable rseq)
  reliable_notices rseq = (
    tt,
    said_notices event call_id name (prack_owed rseq (after_response false client)
        (dialog_for_provisional (after_response false client) answer found) answer).1,
  )

  offer_notices : (offer : Offer) (rseq : ℕ) → NoAck (offer_case offer rseq)
  offer_notices Taken rseq = reliable_notices rseq
  offer_notices Repeat rseq = tt
  offer_notices Gap rseq = tt

  rseq_notices : (last_rseq : Option ℕ) (o : Option ℕ) → NoAck (reliable_case last_rseq o)
  rseq_notices last_rseq None = (tt, tt)
  rseq_notices last_rseq (Some rseq) = offer_notices (offered last_rseq rseq) rseq

  case_notices : (there : Bool) → NoAck (if there
      then reliable_case (heard_of client.kind (after_response false client) found)
      (rseq_of response)
      else reply.Told)
  case_notices true =
      rseq_notices (heard_of client.kind (after_response false client) found) (rseq_of response)
  case_notices false = (tt, tt)

  provisional_acks : acks_out (taken_with freed (done_at false false)).1 ≡ []
  provisional_acks =
      let done = done_at false false in
      let after = settled event id done.3 (set_value (is_id id) side.clients done.0) in
      beside_no_ack freed (after.0, done.2 ++ after.1) (both_acks done.2 after.1
      (no_ack done.2 (case_notices (is_dialog_response answer && has_dialog client.kind found)))
      (settled_no_ack event id done.3 (set_value (is_id id) side.clients done.0)))

  -- ---- any

  and_first : (x y : Bool) → (x && y) ≡ true → x ≡ true
  and_first true y e = refl
  and_first false y e = absurd (false≢true e)

  by_cancels : (final : Bool) → final ≡ true
      → cancels_out (taken_with (freed_by final client.cancel)
      (done_at (is_last client.kind status) final)).1 ≡ []
  by_cancels true is =
      subst (λ freed. cancels_out (taken_with freed
      (done_at (is_last client.kind status) true)).1 ≡ [])
      (sym (none_freed client.cancel)) (final_cancels (is_last client.kind status))
  by_cancels false is = absurd (false≢true is)

  by_acks : (final : Bool) → final ≡ false
      → acks_out (taken_with (freed_by final client.cancel)
      (done_at (final && not (is_invite_kind client.kind && is_success status)) final)).1 ≡ []
  by_acks true is = absurd (true≢false is)
  by_acks false is = provisional_acks

  pub reply_cancels : is_final status ≡ true
      → cancels_out (reply_settled answer client side).1 ≡ []
  reply_cancels final = by_cancels (is_final status) final

  pub reply_acks : is_final status ≡ false
      → acks_out (reply_settled answer client side).1 ≡ []
  reply_acks final = by_acks (is_final status) final

pub response_by_status : (event : Event) (id : Id) (call_id : List ℕ) (response : Message)
    → SendsByStatus response (response_taken event id call_id response)
response_by_status event id call_id response side status is =
    by_found (status_of response.start) (client_at id side.clients) is
  where
    by_found : (read : Option ℕ) (o : Option Client) → read ≡ Some status
        → let outs = (found_taken event id call_id response read o side).1 in
        (is_final status ≡ true → cancels_out outs ≡ [])
        × (is_final status ≡ false → acks_out outs ≡ [])
    by_found None o same = absurd cc
    by_found (Some other) None same = (λ final. refl, λ final. refl)
    by_found (Some other) (Some client) same =
        let alike : other ≡ status = cc in
        subst (λ read. (is_final read ≡ true → cancels_out
        (found_taken event id call_id response (Some other) (Some client) side).1 ≡ [])
        × (is_final read ≡ false → acks_out
        (found_taken event id call_id response (Some other) (Some client) side).1 ≡ []))
        alike (
          reply_cancels event id call_id response other client side,
          reply_acks event id call_id response other client side,
        )
