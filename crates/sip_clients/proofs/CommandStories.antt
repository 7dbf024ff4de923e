-- The loss of a request, a command of the user and a tick change the held client requests as they
-- add to their stories.
use Rattle.std.proofs.Common.{◌≡◌, ℕ, Bool, true, false, not, cond, ◌||◌, List, [], ◌∷◌, ◌++◌, map, refl, sym, ap, subst, ◌∙◌, append-nil}
use Rattle.std.specs.Prelude.{Option, None, Some, Result, Ok, Err, codes, filter, fold, is_some, if◌then◌else◌}
use Rattle.std.specs.List.{list_any}
use Rattle.std.specs.Map.{lookup, set_value}
use Rattle.std.specs.Option.{option_map, option_map_or}
use Rattle.std.proofs.lemmas.Map.Made.{lookup-map_values}
use Rattle.std.proofs.lemmas.Map.Steps.{set_value_same}
use Rattle.sip_dialog.specs.declared.fault.DialogFault.{DialogFault}
use Rattle.sip_dialog.specs.Fault.{ack_fault, request_fault}
use Rattle.sip_message.specs.Content.{Content}
use Rattle.sip_message.specs.declared.id.Id.{Id}
use Rattle.sip_message.specs.declared.message.Message.{Message}
use Rattle.sip_user.specs.declared.command.Cancel.{Cancel}
use Rattle.sip_user.specs.declared.command.DialogBody.{DialogBody}
use Rattle.sip_user.specs.declared.command.DialogRequest.{DialogRequest}
use Rattle.sip_user.specs.declared.command.Invite.{Invite}
use Rattle.sip_user.specs.declared.command.Plain.{Plain as PlainCommand}
use Rattle.sip_held_dialogs.specs.declared.pending_request.PendingRequest.{PendingRequest}
use Rattle.sip_held_dialogs.specs.declared.pending_request.PendingRequest.TheVariants.{Ack, Prack}
use Rattle.sip_held_dialogs.specs.declared.held_dialog.DialogId.{DialogId}
use Rattle.sip_held_dialogs.specs.declared.held_dialog.HeldDialog.{HeldDialog}
use Rattle.sip_user.specs.declared.item.CallOut.{CallOut}
use Rattle.sip_user.specs.declared.refusal.Refusal.{Refusal}
use Rattle.sip_user.specs.declared.refusal.Refusal.TheVariants.{AlreadyFinal, BadMethod, NoSuchDialog, NoSuchRequest}
use Rattle.sip_held_dialogs.specs.Dialogs.{Dialogs, dialog_at, is_dialog_id}
use Rattle.sip_held_dialogs.specs.Ids.{is_id}
use Rattle.sip_user.specs.Notices.{refused}
use Rattle.sip_user.specs.Refusal.{first_refusal}
use Rattle.sip_held_dialogs.specs.Requests.{is_cancel}
use Rattle.sip_held_dialogs.proofs.Each.{each_but_one, each_left}
use Rattle.sip_clients.specs.declared.answers.SentAck.{SentAck}
use Rattle.sip_clients.specs.declared.cancel_command.CancelCase.{CancelCase}
use Rattle.sip_clients.specs.declared.cancel_command.CancelCase.TheVariants as ask
use Rattle.sip_clients.specs.declared.client.Cancelling.{Cancelling}
use Rattle.sip_clients.specs.declared.client.Cancelling.TheVariants as cancel
use Rattle.sip_clients.specs.declared.client.Client.{Client}
use Rattle.sip_clients.specs.declared.client.RequestKind.{RequestKind}
use Rattle.sip_clients.specs.declared.client.RequestKind.TheVariants.{InitialInvite, OutOfDialog}
use Rattle.sip_clients.specs.declared.pending.PendingKind.TheVariants as kind
use Rattle.sip_clients.specs.declared.event.Event.{Event}
use Rattle.sip_clients.specs.declared.send_outcome.OutgoingRequest.{OutgoingRequest}
use Rattle.sip_clients.specs.declared.send_outcome.SendOutcome.{SendOutcome}
use Rattle.sip_clients.specs.declared.send_outcome.SendOutcome.TheVariants as outcome
use Rattle.sip_clients.specs.Cancel.{asked, asking_case, cancel_by_user, cancel_client, cancelled_as, cancelled_of}
use Rattle.sip_clients.specs.Client.{Clients, Side, ClientTaken, client_at, client_changed, client_for}
use Rattle.sip_clients.specs.ClientLife.{ClientHappening, Outgoing, AsksCancel, SendsAck, SendsCancel, acks_out, cancels_out, requests_out}
use Rattle.sip_clients.specs.ClientRules.{AllLive, EachFits, HoldsRules}
use Rattle.sip_clients.specs.ClientStory.{ClientStory, client_told, is_provisional_response}
use Rattle.sip_clients.specs.ClientTelling.{ClientStories, AreTold, HoldsStories, ack_told, begin_story, begin_stories, cancel_told, for_dialog, happens_to, in_dialog_told, invite_owed, invite_told, lost_told, plain_told, ticked_told}
use Rattle.sip_clients.specs.Clients.{ack_by_user, ack_kept, ack_paid, acked_with, invite_taken, lost_of, paid_or_refused, plain_taken, prack_by_user, prack_paid, request_by_user, request_lost, settled, started}
use Rattle.sip_clients.specs.Commands.{bye_ended, pending_for, is_bad_outside, name_in, request_in_held, request_refusals, requested_at, sent_unless}
use Rattle.sip_clients.specs.Pending.{sent_pending}
use Rattle.sip_clients.specs.Dialogs.{paid_at, served_at}
use Rattle.sip_clients.specs.OwnCall.{on_side}
use Rattle.sip_clients.specs.Outputs.{ack_said, kind_in, request_said, sent_ack, start_command}
use Rattle.sip_clients.specs.Outside.{invite_of, plain_of}
use Rattle.sip_clients.specs.RefusedCommands.{is_refusal}
use Rattle.sip_clients.specs.ReceivedResponse.{is_invite_kind}
use Rattle.sip_clients.specs.SendOutcome.{Outcome, discharged, sending_in, outcome_by}
use Rattle.sip_clients.specs.Tick.{clients_ticked, is_over}
use Rattle.sip_clients.proofs.ClientRecords.{any_more, asked_again, client_happened, or_false}
use Rattle.sip_clients.proofs.StoryBegins.{ChangesFor, beside, beside_on, beside_sent, both_sent, changed_on, freed_cancel, freed_out, none_sent, over_on, quiet_then, settled_on, some_same}
use Rattle.sip_clients.proofs.StoryFits.{LivesSo, acks_fit, asks_fit, asks_ready, begin_fit, cancel_fits, happens_fit}
use Rattle.sip_clients.proofs.StoryMaps.{filter_read}
use Rattle.sip_clients.proofs.WithoutStarts.{AreQuiet, bye_quiet, request_said_quiet}

abbrev lived : ClientStories → Clients
lived stories = map (λ entry. (entry.0, client_told entry.1)) stories

-- ---- a request that is lost, and a tick

lost_found : (id : Id) (timed_out : Bool) (o : Option Client) (side : Side)
    (stories : ClientStories) → AreTold side.clients stories
    → AreTold ((lost_of id timed_out o side).0).clients (lost_told id stories)
lost_found id timed_out None side stories told = over_on side.clients stories told id
lost_found id timed_out (Some client) side stories told = over_on side.clients stories told id

pub lost_holds : (id : Id) (timed_out : Bool)
    → HoldsStories (request_lost id timed_out) (λ side outs stories. lost_told id stories)
lost_holds id timed_out side stories told =
    lost_found id timed_out (client_at id side.clients) side stories told

pub tick_holds : (now : ℕ)
    → HoldsStories (λ side. clients_ticked side now) (λ side outs stories. ticked_told now stories)
tick_holds now side stories told =
    ap (filter (λ (entry : Id × Client). not (is_over now entry.1))) told
    ∙ sym (filter_read client_told (λ client. not (is_over now client)) stories)

-- ---- commands outside of dialogs

started_on : (event : Event) (kind : RequestKind) (client : Client) (clients : Clients)
    (stories : ClientStories) → client ≡ client_for event.id kind client.request client.to
    → AreTold clients stories
    → AreTold (started event client clients).0
    (begin_stories (λ request. kind) (started event client clients).1 stories)
started_on event kind client clients stories fresh told =
    settled_on event event.id (λ request. kind)
    (Rattle.sip_clients.specs.declared.outputs.ClientChange.TheVariants.Starts client) clients
    stories told record { fresh = fresh }

pub invite_holds : (event : Event) (invite : Invite)
    → HoldsStories (on_side (invite_taken event invite))
    (λ side outs stories. invite_told outs stories)
invite_holds event invite side stories told =
    started_on event InitialInvite (client_for event.id InitialInvite (invite_of event invite)
    invite.address)
    side.clients stories refl told

pub plain_holds : (event : Event) (plain : PlainCommand)
    → HoldsStories (on_side (plain_taken event plain))
    (λ side outs stories. plain_told outs stories)
plain_holds event plain side stories told = by_method (is_bad_outside plain.method)
  where
    by_method : (bad : Bool)
        → let taken = cond {A = Clients × List CallOut} bad
        (side.clients, refused event.id plain.call_id BadMethod)
        (started event (client_for event.id OutOfDialog (plain_of event plain) plain.address)
        side.clients) in
        AreTold taken.0 (plain_told taken.1 stories)
    by_method true = told
    by_method false =
        started_on event OutOfDialog (client_for event.id OutOfDialog (plain_of event plain)
        plain.address)
        side.clients stories refl told

-- ---- requests in a dialog

-- what is sent is sent in this dialog
abbrev IsBorn : Id → SendOutcome → Type 0
IsBorn created_by (outcome.Sent sending) = sending.created_by ≡ created_by
IsBorn created_by outcome.Waits = Unit {0}
IsBorn created_by (outcome.Refused refusal) = Unit {0}

module _ (event : Event) (name : DialogId) (dialogs : Dialogs) where
  abbrev born_in : Option HeldDialog → Id
  born_in o = option_map_or (λ held. held.created_by) o event.id

  abbrev sent_for : Message → RequestKind
  sent_for = for_dialog event name dialogs

  served_born : (serve : HeldDialog → Outcome) (otherwise : SendOutcome)
      → ((held : HeldDialog) → IsBorn held.created_by (serve held).1)
      → ((created_by : Id) → IsBorn created_by otherwise)
      → IsBorn (born_in (dialog_at name dialogs)) (served_at name serve otherwise dialogs).1
  served_born serve otherwise serves other = by_found (dialog_at name dialogs)
    where
      by_found : (o : Option HeldDialog) → IsBorn (born_in o)
          (option_map_or {U = Dialogs × SendOutcome} (λ held. (
            set_value (is_dialog_id name) dialogs (serve held).0,
            (serve held).1,
          )) o (dialogs, otherwise)).1
      by_found None = other event.id
      by_found (Some held) = serves held

  said_for : (call_id : List ℕ) (outcome : SendOutcome)
      → IsBorn (born_in (dialog_at name dialogs)) outcome
      → ChangesFor event sent_for (request_said event call_id name outcome).1
  said_for call_id (outcome.Sent sending) is =
      record {
        fresh = λ i. client_for event.id
            (kind_in record { name = name; created_by = is i } sending.message) sending.message
            sending.to;
      }
  said_for call_id outcome.Waits is = tt
  said_for call_id (outcome.Refused refusal) is = tt

  -- what is told before and after the request that is sent
  said_on : (call_id : List ℕ) (outcome : SendOutcome) (ends : List CallOut) (clients : Clients)
      (stories : ClientStories) → IsBorn (born_in (dialog_at name dialogs)) outcome
      → AreQuiet ends → AreTold clients stories
      → let said = request_said event call_id name outcome in
      let after = settled event event.id said.1 clients in
      AreTold after.0 (begin_stories sent_for ((said.0 ++ after.1) ++ ends) stories)
  said_on call_id outcome ends clients stories is quiet told =
      let said = request_said event call_id name outcome in
      let after = settled event event.id said.1 clients in
      settled_on event event.id sent_for said.1 clients stories told (said_for call_id outcome is)
      ∙ (λ i. lived (fold (begin_story sent_for) stories (sym (
      both_sent (said.0 ++ after.1) ends
      ∙ ap (λ sent. requests_out (said.0 ++ after.1) ++ sent) (none_sent ends quiet)
      ∙ append-nil (requests_out (said.0 ++ after.1))
      ∙ quiet_then said.0 after.1 (request_said_quiet event call_id name outcome)) i)))

request_born : (event : Event) (method : List ℕ) (content : Content) (held : HeldDialog)
    → IsBorn held.created_by (request_in_held event method content held).1
unfolding request_in_held
request_born event method content held =
    by_refusal (first_refusal (request_refusals held.dialog method) None)
  where
    by_refusal : (o : Option Refusal) → IsBorn held.created_by
        (sent_unless o (sending_in event method None content held) held).1
    by_refusal None = refl
    by_refusal (Some refusal) = tt

pub request_holds : (event : Event) (command : DialogRequest)
    → HoldsStories (request_by_user event command) (λ side outs stories.
    in_dialog_told event (name_in command.local_tag command.remote_tag) side outs stories)
unfolding requested_at
request_holds event command side stories told =
    let name = name_in command.local_tag command.remote_tag in
    let serve = request_in_held event command.method command.content in
    let done = served_at name serve (outcome.Refused NoSuchDialog) side.dialogs in
    let bye = bye_ended name command.method done.1 done.0 in
    said_on event name side.dialogs command.call_id done.1 bye.1 side.clients stories
    (served_born event name side.dialogs serve (outcome.Refused NoSuchDialog)
    (request_born event command.method command.content) (λ created_by. tt))
    (bye_quiet name command.method done.1 done.0) told

service_born : (created_by : Id) (o : Option DialogFault) (sending : OutgoingRequest)
    → sending.created_by ≡ created_by
    → IsBorn created_by (outcome_by o sending)
service_born created_by None sending is = is
service_born created_by (Some fault) sending is = tt

paid_born : (event : Event) (pending : PendingRequest) (content : Content) (held : HeldDialog)
    → IsBorn held.created_by (sent_pending event pending content held).1
unfolding sent_pending discharged
paid_born event (Ack invite number) content held =
    service_born held.created_by (ack_fault held.dialog) _ refl
paid_born event (Prack rseq number) content held =
    service_born held.created_by (request_fault held.dialog (codes "PRACK")) _ refl

pub prack_holds : (event : Event) (command : DialogBody)
    → HoldsStories (prack_by_user event command) (λ side outs stories.
    in_dialog_told event (name_in command.local_tag command.remote_tag) side outs stories)
prack_holds event command side stories told =
    by_debt (pending_for kind.Prack name side.dialogs)
  where
    name : DialogId
    name = name_in command.local_tag command.remote_tag

    by_debt : (o : Result PendingRequest Refusal)
        → let taken = paid_or_refused event command (prack_paid event command name) o side in
        AreTold (taken.0).clients (in_dialog_told event name side taken.1 stories)
    by_debt (Err refusal) = told
    by_debt (Ok pending) =
        let done = paid_at name event pending command.content side.dialogs in
        let said = request_said event command.call_id name done.1 in
        let after = settled event event.id said.1 side.clients in
        said_on event name side.dialogs command.call_id done.1 [] side.clients stories
        (served_born event name side.dialogs (sent_pending event pending command.content) outcome.Waits
        (paid_born event pending command.content) (λ created_by. tt)) tt told
        ∙ (λ i. lived (begin_stories (for_dialog event name side.dialogs)
        (append-nil (said.0 ++ after.1) i) stories))

-- ---- the command Ack

-- what happens changes nothing
same_on : (id : Id) (more : List ClientHappening) (clients : Clients) (stories : ClientStories)
    → AreTold clients stories
    → ((client : Client) → client_at id clients ≡ Some client
    → fold client_happened client more ≡ client)
    → AreTold clients (happens_to id more stories)
same_on id more clients stories told same =
    sym (by_found (client_at id clients) refl)
    ∙ changed_on clients stories told id more (λ client. client) same
  where
    by_found : (o : Option Client) → client_at id clients ≡ o
        → option_map_or (λ client. set_value (is_id id) clients client) o clients ≡ clients
    by_found None at = refl
    by_found (Some client) at = set_value_same (is_id id) clients client at

ack_on : (event : Event) (call_id : List ℕ) (name : DialogId) (pending : PendingRequest)
    (outcome : SendOutcome)
    (clients : Clients) (stories : ClientStories) → AreTold clients stories
    → let said = ack_said event call_id outcome in
    AreTold (ack_kept pending name said.1 clients)
    (option_map_or (λ invite. happens_to invite (map (SendsAck name) (acks_out said.0)) stories)
    (invite_owed (Ok pending)) stories)
ack_on event call_id name (Ack invite number) (outcome.Sent sending) clients stories told =
    changed_on clients stories told invite (SendsAck name (sent_ack sending) ∷ [])
    (acked_with name (sent_ack sending))
    (λ client at. (λ i. record (acked_with name (sent_ack sending) client) {
      provisional = or_false client.provisional i;
    }))
ack_on event call_id name (Ack invite number) outcome.Waits clients stories told =
    same_on invite [] clients stories told (λ client at. refl)
ack_on event call_id name (Ack invite number) (outcome.Refused refusal) clients stories told =
    same_on invite [] clients stories told (λ client at. refl)
ack_on event call_id name (Prack rseq number) (outcome.Sent sending) clients stories told = told
ack_on event call_id name (Prack rseq number) outcome.Waits clients stories told = told
ack_on event call_id name (Prack rseq number) (outcome.Refused refusal) clients stories told = told

pub ack_holds : (event : Event) (command : DialogBody)
    → HoldsStories (ack_by_user event command)
    (λ side outs stories. ack_told command side outs stories)
ack_holds event command side stories told = by_debt (pending_for kind.Ack name side.dialogs)
  where
    name : DialogId
    name = name_in command.local_tag command.remote_tag

    by_debt : (o : Result PendingRequest Refusal)
        → let taken = paid_or_refused event command (ack_paid event command name) o side in
        AreTold (taken.0).clients (option_map_or
        (λ invite. happens_to invite (map (SendsAck name) (acks_out taken.1)) stories)
        (invite_owed o) stories)
    by_debt (Err refusal) = told
    by_debt (Ok pending) =
        ack_on event command.call_id name pending
        (paid_at name event pending command.content side.dialogs).1 side.clients stories told

-- ---- the command Cancel

start_unrefused : (id : Id) (invite : Client)
    → list_any is_refusal (start_command id (cancel_client id invite) ∷ []) ≡ false
unfolding start_command
start_unrefused id invite = refl

module _ (event : Event) (command : Cancel) (side : Side) (stories : ClientStories)
    (told : AreTold side.clients stories) where
  abbrev CancelTold : Clients × List CallOut → Type 0
  CancelTold taken = AreTold taken.0 (cancel_told event command taken.1 stories)

  module _ (invite : Client) (at : client_at command.id side.clients ≡ Some invite) where
    -- what is true of the INVITE is true of the one that is found
    of_invite : (P : Client → Type 0) → P invite → (client : Client)
        → client_at command.id side.clients ≡ Some client → P client
    of_invite P is client found = subst P (some_same invite client (sym at ∙ found)) is

    abbrev Asked : CancelCase → Type 0
    Asked case = CancelTold (cancelled_as case event command invite side.clients)

    again : asked_again event.id invite.cancel ≡ invite.cancel → Asked ask.Repeated
    again same =
        same_on command.id (AsksCancel event.id ∷ []) side.clients stories told
        (of_invite (λ client. client_happened client (AsksCancel event.id) ≡ client)
        (λ i. record invite { provisional = or_false invite.provisional i; cancel = same i }))

    waits : invite.cancel ≡ cancel.NotAsked → Asked ask.Waits
    waits is =
        changed_on side.clients stories told command.id (AsksCancel event.id ∷ [])
        (asked (cancel.Waits event.id))
        (of_invite (λ client. client_happened client (AsksCancel event.id)
        ≡ asked (cancel.Waits event.id) client)
        (λ i. record invite {
          provisional = or_false invite.provisional i;
          cancel = asked_again event.id (is i);
        }))

    starts : Asked ask.Starts
    starts =
        let freed = Some event.id in
        let changed = client_changed command.id (asked cancel.Sent) side.clients in
        let outs = (beside invite freed (changed, [])).1 in
        let sent : requests_out outs ≡ freed_out invite freed =
        beside_sent invite freed (changed, []) in
        let cancels : cancels_out outs ≡ freed_out invite freed =
        ap (filter (λ sent. is_cancel sent.request)) sent ∙ freed_cancel invite freed in
        let more : List Outgoing → List ClientHappening =
        λ cancels. AsksCancel event.id ∷ map SendsCancel cancels in
        beside_on (λ request. OutOfDialog) invite refl freed (changed, [])
        (happens_to command.id (more (freed_out invite freed)) stories)
        (changed_on side.clients stories told command.id (more (freed_out invite freed))
        (asked cancel.Sent) (of_invite (λ client.
        fold client_happened client (more (freed_out invite freed)) ≡ asked cancel.Sent client)
        (λ i. record (asked cancel.Sent invite) {
          provisional = (or_false (invite.provisional || false) ∙ or_false invite.provisional) i;
        })))
        ∙ (λ i. lived (if sym (start_unrefused event.id invite) i then stories
        else fold (begin_story (λ request. OutOfDialog))
        (happens_to command.id (more (sym cancels i)) stories) (sym sent i)))

    by_state : (provisional : Bool) (state : Cancelling) → invite.cancel ≡ state
        → Asked (asking_case provisional state)
    by_state true cancel.NotAsked is = starts
    by_state false cancel.NotAsked is = waits is
    by_state provisional (cancel.Waits id) is =
        again (ap (asked_again event.id) is ∙ sym is)
    by_state provisional cancel.Sent is = again (ap (asked_again event.id) is ∙ sym is)

    by_removal : (final : Bool) → Asked (if final then ask.Refused AlreadyFinal
        else asking_case invite.provisional invite.cancel)
    by_removal true = told
    by_removal false = by_state invite.provisional invite.cancel refl

    by_kind : (inviting : Bool) → Asked (if not inviting then ask.Refused NoSuchRequest
        else (if is_some invite.removal then ask.Refused AlreadyFinal
        else asking_case invite.provisional invite.cancel))
    by_kind true = by_removal (is_some invite.removal)
    by_kind false = told

  by_found : (o : Option Client) → client_at command.id side.clients ≡ o
      → CancelTold (cancelled_of o event command side.clients)
  by_found None at = told
  by_found (Some invite) at = by_kind invite at (is_invite_kind invite.kind)

  cancel_holds_so : CancelTold (cancelled_of (client_at command.id side.clients) event command
      side.clients)
  cancel_holds_so = by_found (client_at command.id side.clients) refl

pub cancel_holds : (event : Event) (command : Cancel)
    → HoldsStories (cancel_by_user event command)
    (λ side outs stories. cancel_told event command outs stories)
cancel_holds event command side stories told = cancel_holds_so event command side stories told

-- ---- what happens is allowed by what happened before

begun_rules : (step : Side → ClientTaken) (sent_for : Side → Message → RequestKind)
    → HoldsRules step (λ side outs stories. begin_stories (sent_for side) outs stories)
begun_rules step sent_for side stories told all =
    begin_fit (sent_for side) (requests_out (step side).1) stories all

pub lost_rules : (id : Id) (timed_out : Bool)
    → HoldsRules (request_lost id timed_out) (λ side outs stories. lost_told id stories)
lost_rules id timed_out side stories told all = each_but_one LivesSo (is_id id) stories all

pub tick_rules : (now : ℕ)
    → HoldsRules (λ side. clients_ticked side now) (λ side outs stories. ticked_told now stories)
tick_rules now side stories told all =
    each_left LivesSo (λ entry. not (is_over now (client_told entry.1))) stories all

pub invite_rules : (event : Event) (invite : Invite)
    → HoldsRules (on_side (invite_taken event invite))
    (λ side outs stories. invite_told outs stories)
invite_rules event invite =
    begun_rules (on_side (invite_taken event invite)) (λ side request. InitialInvite)

pub plain_rules : (event : Event) (plain : PlainCommand)
    → HoldsRules (on_side (plain_taken event plain)) (λ side outs stories. plain_told outs stories)
plain_rules event plain =
    begun_rules (on_side (plain_taken event plain)) (λ side request. OutOfDialog)

pub request_rules : (event : Event) (command : DialogRequest)
    → HoldsRules (request_by_user event command) (λ side outs stories.
    in_dialog_told event (name_in command.local_tag command.remote_tag) side outs stories)
request_rules event command =
    begun_rules (request_by_user event command)
    (λ side. for_dialog event (name_in command.local_tag command.remote_tag) side.dialogs)

pub prack_rules : (event : Event) (command : DialogBody)
    → HoldsRules (prack_by_user event command) (λ side outs stories.
    in_dialog_told event (name_in command.local_tag command.remote_tag) side outs stories)
prack_rules event command =
    begun_rules (prack_by_user event command)
    (λ side. for_dialog event (name_in command.local_tag command.remote_tag) side.dialogs)

pub ack_rules : (event : Event) (command : DialogBody)
    → HoldsRules (ack_by_user event command)
    (λ side outs stories. ack_told command side outs stories)
ack_rules event command side stories told all =
    by_invite (invite_owed (pending_for kind.Ack name side.dialogs))
  where
    name : DialogId
    name = name_in command.local_tag command.remote_tag

    acks : List SentAck
    acks = acks_out (ack_by_user event command side).1

    by_invite : (o : Option Id) → AllLive (option_map_or
        (λ invite. happens_to invite (map (SendsAck name) acks) stories) o stories)
    by_invite None = all
    by_invite (Some invite) =
        happens_fit invite (map (SendsAck name) acks) stories all
        (λ story is lived. acks_fit story story.life name acks)

module _ (event : Event) (command : Cancel) (side : Side) (stories : ClientStories)
    (told : AreTold side.clients stories) (all : AllLive stories) where
  abbrev CancelLives : Clients × List CallOut → Type 0
  CancelLives taken = AllLive (cancel_told event command taken.1 stories)

  module _ (invite : Client) (at : client_at command.id side.clients ≡ Some invite) where
    abbrev AskedLives : CancelCase → Type 0
    AskedLives case = CancelLives (cancelled_as case event command invite side.clients)

    is_told : (story : ClientStory) → lookup (is_id command.id) stories ≡ Some story
        → client_told story ≡ invite
    is_told story is =
        some_same (client_told story) invite (sym (ap (option_map client_told) is)
        ∙ sym (lookup-map_values client_told (is_id command.id) stories)
        ∙ sym (ap (lookup (is_id command.id)) told) ∙ at)

    module _ (inviting : is_invite_kind invite.kind ≡ true)
        (none : is_some invite.removal ≡ false) where
      asks_alone : AllLive (happens_to command.id (AsksCancel event.id ∷ []) stories)
      asks_alone =
          happens_fit command.id (AsksCancel event.id ∷ []) stories all
          (λ story is lived. (asks_fit story invite (is_told story is) inviting none, tt))

      starts_fit : (story : ClientStory) → client_told story ≡ invite
          → invite.provisional ≡ true → invite.cancel ≡ cancel.NotAsked
          → EachFits story story.life
          (AsksCancel event.id ∷ map SendsCancel (freed_out invite (Some event.id)))
      starts_fit story is came state =
          let asks = asks_fit story invite is inviting none in (
            asks,
            (
              cancel_fits story (story.life ++ AsksCancel event.id ∷ []) event.id invite
                  (sym (ap (λ (client : Client). client.request) is))
                  (sym (ap (λ (client : Client). client.to) is))
                  (any_more is_provisional_response story.life (AsksCancel event.id)
                  ∙ ap (λ b. b || false) (ap (λ (client : Client). client.provisional) is ∙ came))
                  (asks_ready story event.id asks
                  (ap (λ (client : Client). client.cancel) is ∙ state)),
              tt,
            ),
          )

      starts_lives : invite.provisional ≡ true → invite.cancel ≡ cancel.NotAsked
          → AskedLives ask.Starts
      starts_lives came state =
          let changed = client_changed command.id (asked cancel.Sent) side.clients in
          let outs = (beside invite (Some event.id) (changed, [])).1 in
          let sent : requests_out outs ≡ freed_out invite (Some event.id) =
          beside_sent invite (Some event.id) (changed, []) in
          let cancels : cancels_out outs ≡ freed_out invite (Some event.id) =
          ap (filter (λ sent. is_cancel sent.request)) sent
          ∙ freed_cancel invite (Some event.id) in
          let more : List Outgoing → List ClientHappening =
          λ cancels. AsksCancel event.id ∷ map SendsCancel cancels in
          subst AllLive
          (λ i. if sym (start_unrefused event.id invite) i then stories
          else begin_stories (λ request. OutOfDialog) outs
          (happens_to command.id (more (sym cancels i)) stories))
          (begin_fit (λ request. OutOfDialog) (requests_out outs)
          (happens_to command.id (more (freed_out invite (Some event.id))) stories)
          (happens_fit command.id (more (freed_out invite (Some event.id))) stories all
          (λ story is lived. starts_fit story (is_told story is) came state)))

      lives_by_state : (provisional : Bool) (state : Cancelling)
          → invite.provisional ≡ provisional → invite.cancel ≡ state
          → AskedLives (asking_case provisional state)
      lives_by_state true cancel.NotAsked came is = starts_lives came is
      lives_by_state false cancel.NotAsked came is = asks_alone
      lives_by_state provisional (cancel.Waits id) came is = asks_alone
      lives_by_state provisional cancel.Sent came is = asks_alone

    lives_by_removal : is_invite_kind invite.kind ≡ true → (final : Bool)
        → is_some invite.removal ≡ final → AskedLives (if final then ask.Refused AlreadyFinal
        else asking_case invite.provisional invite.cancel)
    lives_by_removal inviting true is = all
    lives_by_removal inviting false is =
        lives_by_state inviting is invite.provisional invite.cancel refl refl

    lives_by_kind : (inviting : Bool) → is_invite_kind invite.kind ≡ inviting
        → AskedLives (if not inviting then ask.Refused NoSuchRequest
        else (if is_some invite.removal then ask.Refused AlreadyFinal
        else asking_case invite.provisional invite.cancel))
    lives_by_kind true is = lives_by_removal is (is_some invite.removal) refl
    lives_by_kind false is = all

  lives_by_found : (o : Option Client) → client_at command.id side.clients ≡ o
      → CancelLives (cancelled_of o event command side.clients)
  lives_by_found None at = all
  lives_by_found (Some invite) at = lives_by_kind invite at (is_invite_kind invite.kind) refl

pub cancel_rules : (event : Event) (command : Cancel)
    → HoldsRules (cancel_by_user event command)
    (λ side outs stories. cancel_told event command outs stories)
cancel_rules event command side stories told all =
    lives_by_found event command side stories told all (client_at command.id side.clients) refl
