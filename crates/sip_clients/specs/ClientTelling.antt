-- What each input of the client side adds to the stories of the held client requests: to which of
-- them something happens, and what; which begin, and which are over.
use Rattle.std.specs.Prelude.{◌≡◌, ℕ, Bool, not, ◌&&◌, List, [], ◌∷◌, ◌++◌, map, filter, fold, Option, None, Some, Result, Ok, Err, if◌then◌else◌}
use Rattle.std.specs.List.{list_any}
use Rattle.std.specs.Map.{lookup, remove_entry, set_value}
use Rattle.std.specs.Option.{option_map_or}
use Rattle.indexmap.specs.IndexMap.{insert_entry}
use Rattle.sip_message.specs.declared.id.Id.{Id}
use Rattle.sip_message.specs.declared.message.Message.{Message}
use Rattle.sip_user.specs.declared.command.AbandonRequest.{AbandonRequest}
use Rattle.sip_user.specs.declared.command.Cancel.{Cancel}
use Rattle.sip_user.specs.declared.command.DialogBody.{DialogBody}
use Rattle.sip_held_dialogs.specs.declared.pending_request.PendingRequest.{PendingRequest}
use Rattle.sip_held_dialogs.specs.declared.pending_request.PendingRequest.TheVariants.{Ack, Prack}
use Rattle.sip_held_dialogs.specs.declared.held_dialog.DialogId.{DialogId}
use Rattle.sip_held_dialogs.specs.declared.held_dialog.HeldDialog.{HeldDialog}
use Rattle.sip_user.specs.declared.item.CallOut.{CallOut}
use Rattle.sip_user.specs.declared.refusal.Refusal.{Refusal}
use Rattle.sip_held_dialogs.specs.Dialogs.{Dialogs, dialog_at}
use Rattle.sip_held_dialogs.specs.Ids.{is_id}
use Rattle.sip_held_dialogs.specs.Requests.{is_cancel, is_final}
use Rattle.sip_clients.specs.declared.client.Client.{Client}
use Rattle.sip_clients.specs.declared.client.RequestKind.{RequestKind}
use Rattle.sip_clients.specs.declared.client.RequestKind.TheVariants.{InitialInvite, OutOfDialog}
use Rattle.sip_clients.specs.declared.pending.PendingKind.TheVariants as kind
use Rattle.sip_clients.specs.declared.event.Event.{Event}
use Rattle.sip_clients.specs.Answers.{has_answer}
use Rattle.sip_clients.specs.Client.{Clients, Side, ClientTaken, client_at}
use Rattle.sip_clients.specs.ClientLife.{ClientHappening, Outgoing, AsksCancel, GetsProvisional, GetsSuccess, GetsSuccessAgain, SendsAck, SendsAckAgain, SendsCancel, TakesReliable, acks_out, cancels_out, requests_out}
use Rattle.sip_clients.specs.ClientStory.{ClientStory, client_told, lives_on}
use Rattle.sip_clients.specs.Clients.{reply_name, status_of}
use Rattle.sip_clients.specs.Commands.{pending_for, name_in}
use Rattle.sip_clients.specs.Outputs.{kind_in}
use Rattle.sip_clients.specs.Provisionals.{is_response, provisional_number}
use Rattle.sip_clients.specs.RefusedCommands.{is_refusal}
use Rattle.sip_clients.specs.ReceivedResponse.{is_last, has_dialog}
use Rattle.sip_clients.specs.Tick.{is_over}

-- the stories of the requests by the events that sent them, in the order in which they were sent
abbrev pub ClientStories : Type 0
ClientStories = List (Id × ClientStory)

-- the held requests are what the stories say
abbrev pub AreTold : Clients → ClientStories → Type 0
AreTold clients stories = clients ≡ map (λ entry. (entry.0, client_told entry.1)) stories

-- this happens to the request of an id
abbrev pub happens_to : Id → List ClientHappening → ClientStories → ClientStories
happens_to id more stories =
    option_map_or (λ story. set_value (is_id id) stories (lives_on more story))
    (lookup (is_id id) stories) stories

-- ---- the requests that begin

-- a request that goes out is held
abbrev pub begin_story : (Message → RequestKind) → ClientStories → Outgoing → ClientStories
begin_story sent_for stories sent =
    insert_entry is_id stories sent.id record {
      id = sent.id;
      kind = sent_for sent.request;
      request = sent.request;
      to = sent.to;
      life = [];
    }

-- the same for each request that goes out, by what it is for
abbrev pub begin_stories : (Message → RequestKind) → List CallOut → ClientStories → ClientStories
begin_stories sent_for outs stories = fold (begin_story sent_for) stories (requests_out outs)

-- a request in the dialog of a name, which is held or which the event makes
abbrev pub for_dialog : Event → DialogId → Dialogs → Message → RequestKind
for_dialog event name dialogs request =
    kind_in record {
      name = name;
      created_by = option_map_or (λ held. held.created_by) (dialog_at name dialogs) event.id;
    } request

-- the same, or a CANCEL, which is outside of dialogs
abbrev pub for_dialog_or_cancel : Event → DialogId → Dialogs → Message → RequestKind
for_dialog_or_cancel event name dialogs request =
    if is_cancel request then OutOfDialog else for_dialog event name dialogs request

-- ---- a response

-- a reliable provisional response is taken if the user is told of it and its dialog is held or made
abbrev pub reliable_taken : ℕ → Client → Message → Option HeldDialog → List CallOut
    → List ClientHappening
reliable_taken status client response found outs =
    if has_dialog client.kind found && list_any is_response outs
    then option_map_or (λ rseq. TakesReliable rseq ∷ [])
    (provisional_number (Some status) response) [] else []

-- the first 2xx of a dialog, or a retransmitted one, and the ACKs that go out for it
abbrev pub success_happens : Bool → DialogId → ℕ → List CallOut → List ClientHappening
success_happens again name moment outs =
    if again then GetsSuccessAgain name ∷ map (SendsAckAgain name) (acks_out outs)
    else GetsSuccess name moment ∷ map (SendsAck name) (acks_out outs)

-- what a response of this status makes happen to its request, in the dialog of this name
abbrev pub response_happens : Event → ℕ → Client → Message → DialogId → Option HeldDialog
    → List CallOut → List ClientHappening
response_happens event status client response name found outs =
    if is_final status
    then success_happens (has_answer name client.answers) name event.moment outs
    else GetsProvisional ∷ reliable_taken status client response found outs
    ++ map SendsCancel (cancels_out outs)

-- the last response to a request ends its story
abbrev pub reply_told : Event → Id → ℕ → Client → Message → Dialogs → List CallOut
    → ClientStories → ClientStories
reply_told event id status client response dialogs outs stories =
    let name = reply_name client.kind client response in
    if is_last client.kind status then remove_entry (is_id id) stories
    else begin_stories (for_dialog_or_cancel event name dialogs) outs
    (happens_to id
    (response_happens event status client response name (dialog_at name dialogs) outs) stories)

-- a response to the request of this id
abbrev pub response_told : Event → Id → Message → Side → List CallOut → ClientStories
    → ClientStories
response_told event id response side outs stories =
    option_map_or
    (λ client. option_map_or
    (λ status. reply_told event id status client response side.dialogs outs stories)
    (status_of response.start) stories)
    (client_at id side.clients) stories

-- a request that timed out, or could not be sent, is over
abbrev pub lost_told : Id → ClientStories → ClientStories
lost_told id stories = remove_entry (is_id id) stories

-- ---- commands of the user

-- the command Invite
abbrev pub invite_told : List CallOut → ClientStories → ClientStories
invite_told outs stories = begin_stories (λ request. InitialInvite) outs stories

-- the command Plain
abbrev pub plain_told : List CallOut → ClientStories → ClientStories
plain_told outs stories = begin_stories (λ request. OutOfDialog) outs stories

-- the commands Request and Prack, in the dialog of this name
abbrev pub in_dialog_told : Event → DialogId → Side → List CallOut → ClientStories
    → ClientStories
in_dialog_told event name side outs stories =
    begin_stories (for_dialog event name side.dialogs) outs stories

-- the INVITE of an owed ACK
abbrev pub invite_owed : Result PendingRequest Refusal → Option Id
invite_owed (Ok (Ack invite number)) = Some invite
invite_owed (Ok (Prack rseq number)) = None
invite_owed (Err refusal) = None

-- the command Ack, for the oldest 2xx of its dialog without an ACK
abbrev pub ack_told : DialogBody → Side → List CallOut → ClientStories → ClientStories
ack_told command side outs stories =
    let name = name_in command.local_tag command.remote_tag in
    option_map_or (λ invite. happens_to invite (map (SendsAck name) (acks_out outs)) stories)
    (invite_owed (pending_for kind.Ack name side.dialogs)) stories

-- the command Cancel, if it isn't refused
abbrev pub cancel_told : Event → Cancel → List CallOut → ClientStories → ClientStories
cancel_told event command outs stories =
    if list_any is_refusal outs then stories
    else begin_stories (λ request. OutOfDialog) outs
    (happens_to command.id (AsksCancel event.id ∷ map SendsCancel (cancels_out outs)) stories)

-- the command AbandonRequest, if it isn't refused: the request is over
abbrev pub abandon_told : AbandonRequest → List CallOut → ClientStories → ClientStories
abandon_told command outs stories =
    if list_any is_refusal outs then stories else lost_told command.id stories

-- ---- a tick

-- the requests whose time is over are removed
abbrev pub ticked_told : ℕ → ClientStories → ClientStories
ticked_told now stories = filter (λ entry. not (is_over now (client_told entry.1))) stories

-- ---- a step

-- If what is held is what the stories say, it is so after the step.
abbrev pub HoldsStories : (Side → ClientTaken)
    → (Side → List CallOut → ClientStories → ClientStories) → Type 0
HoldsStories step telling = (side : Side) (stories : ClientStories) → AreTold side.clients stories
    → AreTold ((step side).0).clients (telling side (step side).1 stories)
