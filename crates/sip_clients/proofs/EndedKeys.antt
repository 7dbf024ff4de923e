-- Each client request is held under its own id, and their ids differ, after whatever comes.
use Rattle.std.proofs.Common.{◌≡◌, ℕ, Bool, true, false, not, cond, List, [], ◌∷◌, refl, sym, ap, ◌∙◌}
use Rattle.std.specs.Prelude.{Option, None, Some}
use Rattle.std.specs.Map.{remove_entry, set_value}
use Rattle.std.specs.Option.{option_map, option_map_or}
use Rattle.indexmap.specs.IndexMap.{insert_entry}
use Rattle.sip_message.specs.declared.id.Id.{Id}
use Rattle.sip_message.specs.declared.message.Message.{Message}
use Rattle.sip_user.specs.declared.command.Cancel.{Cancel}
use Rattle.sip_user.specs.declared.command.DialogBody.{DialogBody}
use Rattle.sip_user.specs.declared.command.DialogRequest.{DialogRequest}
use Rattle.sip_user.specs.declared.command.Invite.{Invite}
use Rattle.sip_user.specs.declared.command.Plain.{Plain as PlainCommand}
use Rattle.sip_held_dialogs.specs.declared.pending_request.PendingRequest.{PendingRequest}
use Rattle.sip_held_dialogs.specs.declared.pending_request.PendingRequest.TheVariants.{Ack, Prack}
use Rattle.sip_held_dialogs.specs.declared.held_dialog.DialogId.{DialogId}
use Rattle.sip_held_dialogs.specs.declared.held_dialog.HeldDialog.{HeldDialog}
use Rattle.sip_user.specs.declared.item.CallOut.{CallOut}
use Rattle.sip_user.specs.declared.refusal.Refusal.TheVariants.{BadMethod}
use Rattle.sip_held_dialogs.specs.Dialogs.{Dialogs, dialog_at}
use Rattle.sip_held_dialogs.specs.Ids.{is_id}
use Rattle.sip_user.specs.Notices.{refused}
use Rattle.sip_held_dialogs.specs.Requests.{is_final}
use Rattle.sip_held_dialogs.proofs.Each.{filtered}
use Rattle.sip_held_dialogs.proofs.Entries as entries
use Rattle.sip_held_dialogs.proofs.Heard.{id_laws}
use Rattle.sip_clients.specs.declared.answers.SentAck.{SentAck}
use Rattle.sip_clients.specs.declared.cancel_command.CancelCase.{CancelCase}
use Rattle.sip_clients.specs.declared.cancel_command.CancelCase.TheVariants as ask
use Rattle.sip_clients.specs.declared.client.Cancelling.TheVariants as state
use Rattle.sip_clients.specs.declared.client.Client.{Client}
use Rattle.sip_clients.specs.declared.client.RequestKind.{RequestKind}
use Rattle.sip_clients.specs.declared.client.RequestKind.TheVariants.{InitialInvite, ReInvite, InDialog, OutOfDialog}
use Rattle.sip_clients.specs.declared.pending.PendingKind.TheVariants as kind
use Rattle.sip_clients.specs.declared.event.Event.{Event}
use Rattle.sip_clients.specs.declared.outputs.ClientChange.{ClientChange}
use Rattle.sip_clients.specs.declared.outputs.ClientChange.TheVariants.{Stays, Over, Starts}
use Rattle.sip_clients.specs.declared.reply.ReceivedResponse.{ReceivedResponse}
use Rattle.sip_clients.specs.declared.reply.ReplyCase.{ReplyCase}
use Rattle.sip_clients.specs.declared.reply.ReplyCase.TheVariants as reply
use Rattle.sip_clients.specs.declared.send_outcome.SendOutcome.{SendOutcome}
use Rattle.sip_clients.specs.declared.send_outcome.SendOutcome.TheVariants.{Sent, Waits, Refused}
use Rattle.sip_clients.specs.Cancel.{after_response, asked, cancel_by_user, cancel_case, cancel_client, cancelled_as, cancelled_of, freed_by, sent_beside}
use Rattle.sip_clients.specs.Client.{Clients, Side, client_at, client_changed, client_for, with_client, without_client}
use Rattle.sip_clients.specs.Clients.{ack_by_user, ack_kept, ack_paid, acked_with, found_taken, invite_taken, lost_of, plain_taken, prack_by_user, prack_paid, reply_name, reply_of, reply_settled, request_by_user, response_taken, settled, started, status_of}
use Rattle.sip_clients.specs.Commands.{ack_asked, pending_for, is_bad_outside, name_in, requested_at}
use Rattle.sip_clients.specs.Dialogs.{dialog_for_provisional, paid_at}
use Rattle.sip_clients.specs.Outputs.{request_said}
use Rattle.sip_clients.specs.Outside.{invite_of, plain_of}
use Rattle.sip_clients.specs.Replied.{Replied, after_dialog, by_reply_case, heard_again, prack_owed, reply_taken, request_over}
use Rattle.sip_clients.specs.ReceivedResponse.{is_last, reply_case}
use Rattle.sip_clients.specs.Tick.{clients_left, is_over}
use Rattle.sip_clients.proofs.AgainInvite.{AreApart}
use Rattle.sip_clients.proofs.EndedTicks.{AreKeyed}
use Rattle.sip_clients.proofs.Served.{paid_either}

abbrev pub AreSound : Clients → Type 0
AreSound clients = AreApart clients × AreKeyed clients

-- ---- one change

keyed_set : (id : Id) (before after : Client) (clients : Clients)
    → client_at id clients ≡ Some before → after.id ≡ before.id → AreKeyed clients
    → AreKeyed (set_value (is_id id) clients after)
keyed_set id before after [] is same keyed = tt
keyed_set id before after (entry ∷ clients) is same keyed =
    by_key (is_id id entry.0) is (λ later. keyed_set id before after clients later same keyed.1)
  where
    by_key : (b : Bool) → cond b (Some entry.1) (client_at id clients) ≡ Some before
        → (client_at id clients ≡ Some before → AreKeyed (set_value (is_id id) clients after))
        → AreKeyed (cond b ((entry.0, after) ∷ clients)
        (entry ∷ set_value (is_id id) clients after))
    by_key true found later =
        let it : entry.1 ≡ before = cc in (
          ap (λ id. is_id entry.0 id) same
              ∙ ap (λ (client : Client). is_id entry.0 client.id) (sym it) ∙ keyed.0,
          keyed.1,
        )
    by_key false found later = (keyed.0, later found)

pub sound_changed : (id : Id) (change : Client → Client)
    → ((client : Client) → (change client).id ≡ client.id) → (clients : Clients)
    → AreSound clients → AreSound (client_changed id change clients)
sound_changed id change same clients sound = (
  entries.apart_changed id_laws id change clients (client_at id clients) sound.0,
  by_found (client_at id clients) refl,
)
  where
    by_found : (o : Option Client) → client_at id clients ≡ o
        → AreKeyed (option_map_or (λ client. set_value (is_id id) clients (change client)) o
        clients)
    by_found None is = sound.1
    by_found (Some client) is =
        keyed_set id client (change client) clients is (same client) sound.1

keyed_put : (id : Id) (client : Client) → is_id id client.id ≡ true → (clients : Clients)
    → AreKeyed clients → AreKeyed (insert_entry is_id clients id client)
keyed_put id client own [] keyed = (own, tt)
keyed_put id client own (entry ∷ clients) keyed =
    by_key (is_id id entry.0) refl (keyed_put id client own clients keyed.1)
  where
    by_key : (b : Bool) → is_id id entry.0 ≡ b → AreKeyed (insert_entry is_id clients id client)
        → AreKeyed (cond b ((entry.0, client) ∷ clients)
        (entry ∷ insert_entry is_id clients id client))
    by_key true same later =
        (sym (id_laws.congr id entry.0 client.id same) ∙ own, keyed.1)
    by_key false other later = (keyed.0, later)

pub sound_put : (id : Id) (client : Client) → is_id id client.id ≡ true → (clients : Clients)
    → AreSound clients → AreSound (with_client id client clients)
sound_put id client own clients sound = (
  entries.apart_inserted id_laws id client clients sound.0,
  keyed_put id client own clients sound.1,
)

keyed_left : (id : Id) (clients : Clients) → AreKeyed clients
    → AreKeyed (remove_entry (is_id id) clients)
keyed_left id [] keyed = tt
keyed_left id (entry ∷ clients) keyed =
    elim (is_id id entry.0) as (λ b. AreKeyed (cond b clients
    (entry ∷ remove_entry (is_id id) clients))) [
      | true ↦ keyed.1
      | false ↦ (keyed.0, keyed_left id clients keyed.1)
    ]

pub sound_without : (id : Id) (clients : Clients) → AreSound clients
    → AreSound (without_client id clients)
sound_without id clients sound = (
  entries.apart_removed id_laws (is_id id) clients sound.0,
  keyed_left id clients sound.1,
)

pub sound_tick : (now : ℕ) (clients : Clients) → AreSound clients
    → AreSound (clients_left now clients)
sound_tick now clients sound = (
  entries.apart_filtered id_laws (λ entry. not (is_over now entry.1)) clients sound.0,
  filtered (λ (entry : Id × Client). is_id entry.0 entry.1.id ≡ true)
      (λ entry. not (is_over now entry.1)) clients sound.1,
)

-- a request that starts has the id of its event
abbrev StartsOwn : Event → ClientChange → Type 0
StartsOwn event Stays = Unit {0}
StartsOwn event Over = Unit {0}
StartsOwn event (Starts client) = is_id event.id client.id ≡ true

said_own : (event : Event) (call_id : List ℕ) (name : DialogId) (outcome : SendOutcome)
    → StartsOwn event (request_said event call_id name outcome).1
said_own event call_id name (Sent sending) = id_laws.refl event.id
said_own event call_id name Waits = tt
said_own event call_id name (Refused refusal) = tt

sound_settled : (event : Event) (id : Id) (change : ClientChange) → StartsOwn event change
    → (clients : Clients) → AreSound clients → AreSound (settled event id change clients).0
sound_settled event id Stays own clients sound = sound
sound_settled event id Over own clients sound = sound_without id clients sound
sound_settled event id (Starts client) own clients sound =
    sound_put event.id client own clients sound

sound_beside : (freed : Option Id) (invite : Client) (done : Clients × List CallOut)
    → AreSound done.0
    → AreSound (sent_beside (option_map (λ id. cancel_client id invite) freed) done).0
sound_beside None invite done sound = sound
sound_beside (Some id) invite done sound =
    sound_put id (cancel_client id invite) (id_laws.refl id) done.0 sound

-- ---- a response

heard_same : (kind : RequestKind) (rseq : ℕ) (client : Client)
    → (heard_again kind rseq client).id ≡ client.id
heard_same InitialInvite rseq client = refl
heard_same (ReInvite life) rseq client = refl
heard_same (InDialog life) rseq client = refl
heard_same OutOfDialog rseq client = refl

-- the request keeps its id, and one that starts has that of the event
abbrev Own : Client → ReceivedResponse → Client × ClientChange → Type 0
Own client answer done = (done.0.id ≡ client.id) × StartsOwn answer.event done.1

case_own : (case : ReplyCase) (client : Client) (found : Option HeldDialog)
    (answer : ReceivedResponse)
    → Own client answer (
      (by_reply_case case client found answer).0,
      (by_reply_case case client found answer).3,
    )
case_own reply.Repeated client found answer = (refl, tt)
case_own reply.Accepted client found answer = (refl, tt)
case_own reply.Late client found answer = (refl, tt)
case_own (reply.Reliable number) client found answer = (
  heard_same client.kind number client,
  said_own answer.event answer.call_id answer.name
      (prack_owed number client (dialog_for_provisional client answer found) answer).1,
)
case_own reply.Passed client found answer = (refl, tt)
case_own reply.Early client found answer = (refl, tt)
case_own reply.Told client found answer = (refl, tt)

reply_own : (client : Client) (dialogs : Dialogs) (answer : ReceivedResponse)
    → Own client answer (
      (reply_taken client dialogs answer).0,
      (reply_taken client dialogs answer).3,
    )
reply_own client dialogs answer = by_last (is_last client.kind answer.status)
  where
    by_last : (b : Bool) → let done = cond {A = Replied} b (request_over client dialogs answer)
        (after_dialog answer.name dialogs (by_reply_case (reply_case client
        (dialog_at answer.name dialogs) answer) client (dialog_at answer.name dialogs) answer)) in
        Own client answer (done.0, done.3)
    by_last true = (refl, tt)
    by_last false =
        case_own (reply_case client (dialog_at answer.name dialogs) answer) client
        (dialog_at answer.name dialogs) answer

reply_sound : (answer : ReceivedResponse) (client : Client) (side : Side)
    → client_at answer.id side.clients ≡ Some client → AreSound side.clients
    → AreSound ((reply_settled answer client side).0).clients
reply_sound answer client side is sound =
    let final = is_final answer.status in
    let noted = after_response final client in
    let done = reply_taken noted side.dialogs answer in
    let own = reply_own noted side.dialogs answer in
    let clients = set_value (is_id answer.id) side.clients done.0 in
    let after = settled answer.event answer.id done.3 clients in
    let put : AreSound clients = (
      entries.apart_changed id_laws answer.id (λ _. done.0) side.clients (Some client) sound.0,
      keyed_set answer.id client done.0 side.clients is own.0 sound.1,
    ) in
    sound_beside (freed_by final client.cancel) client (after.0, _)
    (sound_settled answer.event answer.id done.3 own.1 clients put)

found_sound : (event : Event) (id : Id) (call_id : List ℕ) (response : Message)
    (status : Option ℕ) (o : Option Client) (side : Side) → client_at id side.clients ≡ o
    → AreSound side.clients
    → AreSound ((found_taken event id call_id response status o side).0).clients
found_sound event id call_id response None None side is sound = sound
found_sound event id call_id response (Some status) None side is sound = sound
found_sound event id call_id response None (Some client) side is sound = sound
found_sound event id call_id response (Some status) (Some client) side is sound =
    reply_sound (reply_of event id call_id (reply_name client.kind client response) status response)
    client side is sound

pub response_sound : (event : Event) (id : Id) (call_id : List ℕ) (response : Message)
    (side : Side) → AreSound side.clients
    → AreSound ((response_taken event id call_id response side).0).clients
response_sound event id call_id response side sound =
    found_sound event id call_id response (status_of response.start) (client_at id side.clients)
    side refl sound

-- ---- a request that is lost, and commands of the user

pub lost_sound : (id : Id) (timed_out : Bool) (o : Option Client) (side : Side)
    → AreSound side.clients → AreSound ((lost_of id timed_out o side).0).clients
lost_sound id timed_out None side sound = sound_without id side.clients sound
lost_sound id timed_out (Some client) side sound = sound_without id side.clients sound

pub invite_sound : (event : Event) (command : Invite) (clients : Clients) → AreSound clients
    → AreSound (invite_taken event command clients).0
invite_sound event command clients sound =
    sound_put event.id (client_for event.id InitialInvite (invite_of event command) command.address)
    (id_laws.refl event.id) clients sound

plain_by : (b : Bool) (event : Event) (plain : PlainCommand) (clients : Clients)
    → AreSound clients → AreSound (cond {A = Clients × List CallOut} b
    (clients, refused event.id plain.call_id BadMethod)
    (started event (client_for event.id OutOfDialog (plain_of event plain) plain.address)
    clients)).0
plain_by true event plain clients sound = sound
plain_by false event plain clients sound =
    sound_put event.id (client_for event.id OutOfDialog (plain_of event plain) plain.address)
    (id_laws.refl event.id) clients sound

pub plain_sound : (event : Event) (plain : PlainCommand) (clients : Clients) → AreSound clients
    → AreSound (plain_taken event plain clients).0
plain_sound event plain clients sound =
    plain_by (is_bad_outside plain.method) event plain clients sound

pub request_sound : (event : Event) (command : DialogRequest) (side : Side) → AreSound side.clients
    → AreSound ((request_by_user event command side).0).clients
request_sound event command side sound =
    let name = name_in command.local_tag command.remote_tag in
    let outcome = (requested_at name event command side.dialogs).1 in
    sound_settled event event.id (request_said event command.call_id name outcome).1
    (said_own event command.call_id name outcome) side.clients sound

noted_sound : (pending : PendingRequest) (name : DialogId) (ack : Option SentAck)
    (clients : Clients)
    → AreSound clients → AreSound (ack_kept pending name ack clients)
noted_sound (Ack of number) name None clients sound = sound
noted_sound (Ack of number) name (Some ack) clients sound =
    sound_changed of (acked_with name ack) (λ client. refl) clients sound
noted_sound (Prack rseq number) name ack clients sound = sound

pub ack_sound : (event : Event) (command : DialogBody) (side : Side) → AreSound side.clients
    → AreSound ((ack_by_user event command side).0).clients
ack_sound event command side sound =
    let name = name_in command.local_tag command.remote_tag in
    paid_either (λ taken. AreSound (taken.0).clients) event command
    (ack_paid event command name) side (pending_for kind.Ack name side.dialogs) (λ refusal. sound)
    (λ pending. noted_sound pending name (ack_asked event name pending command side.dialogs).2
    side.clients
    sound)

pub prack_sound : (event : Event) (command : DialogBody) (side : Side) → AreSound side.clients
    → AreSound ((prack_by_user event command side).0).clients
prack_sound event command side sound =
    let name = name_in command.local_tag command.remote_tag in
    paid_either (λ taken. AreSound (taken.0).clients) event command
    (prack_paid event command name) side (pending_for kind.Prack name side.dialogs)
    (λ refusal. sound)
    (λ pending. let outcome = (paid_at name event pending command.content side.dialogs).1 in
    sound_settled event event.id (request_said event command.call_id name outcome).1
    (said_own event command.call_id name outcome) side.clients sound)

cancel_by : (way : CancelCase) (event : Event) (command : Cancel) (invite : Client)
    (clients : Clients) → AreSound clients
    → AreSound (cancelled_as way event command invite clients).0
cancel_by (ask.Refused refusal) event command invite clients sound = sound
cancel_by ask.Repeated event command invite clients sound = sound
cancel_by ask.Waits event command invite clients sound =
    sound_changed command.id (asked (state.Waits event.id)) (λ client. refl) clients sound
cancel_by ask.Starts event command invite clients sound =
    sound_beside (Some event.id) invite (client_changed command.id (asked state.Sent) clients, [])
    (sound_changed command.id (asked state.Sent) (λ client. refl) clients sound)

cancel_found : (o : Option Client) (event : Event) (command : Cancel) (clients : Clients)
    → AreSound clients → AreSound (cancelled_of o event command clients).0
cancel_found None event command clients sound = sound
cancel_found (Some invite) event command clients sound =
    cancel_by (cancel_case invite) event command invite clients sound

pub cancel_sound : (event : Event) (command : Cancel) (side : Side) → AreSound side.clients
    → AreSound ((cancel_by_user event command side).0).clients
cancel_sound event command side sound =
    cancel_found (client_at command.id side.clients) event command side.clients sound
