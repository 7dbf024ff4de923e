-- The user's command to cancel an INVITE (RFC 3261, section 9.1).
use Rattle.std.specs.Prelude.{Bool, not, ◌||◌, List, [], ◌∷◌, ◌++◌, Option, None, Some, if◌then◌else◌}
use Rattle.std.specs.Option.{is_some, option_map}
use Rattle.sip_message.specs.HopByHop.{cancel_of}
use Rattle.sip_message.specs.declared.id.Id.{Id}
use Rattle.sip_user.specs.declared.command.Cancel.{Cancel}
use Rattle.sip_user.specs.declared.item.CallOut.{CallOut}
use Rattle.sip_user.specs.declared.refusal.Refusal.{Refusal}
use Rattle.sip_user.specs.declared.refusal.Refusal.TheVariants.{AlreadyFinal, NoSuchRequest}
use Rattle.sip_user.specs.Notices.{refused}
use Rattle.sip_clients.specs.declared.cancel_command.CancelCase.{CancelCase}
use Rattle.sip_clients.specs.declared.cancel_command.CancelCase.TheVariants as case
use Rattle.sip_clients.specs.declared.client.RequestKind.TheVariants.{OutOfDialog}
use Rattle.sip_clients.specs.declared.client.Cancelling.{Cancelling}
use Rattle.sip_clients.specs.declared.client.Cancelling.TheVariants.{NotAsked, Waits, Sent}
use Rattle.sip_clients.specs.declared.client.Client.{Client}
use Rattle.sip_clients.specs.declared.event.Event.{Event}
use Rattle.sip_clients.specs.Client.{Clients, Side, ClientTaken, client_at, client_changed, client_for, with_client}
use Rattle.sip_clients.specs.Outputs.{start_command}
use Rattle.sip_clients.specs.ReceivedResponse.{is_invite_kind}

-- ---- the CANCEL

-- the CANCEL of an INVITE, for which the event of this id asked: a request outside of dialogs, with
-- the branch and the address of the INVITE
abbrev pub cancel_client : Id → Client → Client
cancel_client id invite = client_for id OutOfDialog (cancel_of invite.request) invite.to

-- the CANCEL, if any, is held, and its transaction starts after what was told
abbrev pub sent_beside : Option Client → Clients × List CallOut → Clients × List CallOut
sent_beside None done = done
sent_beside (Some cancel) done =
    (with_client cancel.id cancel done.0, done.1 ++ start_command cancel.id cancel ∷ [])

-- ---- the command

-- the CANCEL is sent at once if a provisional response came, and otherwise waits for one
abbrev pub asking_case : Bool → Cancelling → CancelCase
asking_case provisional NotAsked = if provisional then case.Starts else case.Waits
asking_case provisional (Waits id) = case.Repeated
asking_case provisional Sent = case.Repeated

-- only an INVITE without a 2xx can be cancelled
abbrev pub cancel_case : Client → CancelCase
cancel_case client =
    if not (is_invite_kind client.kind) then case.Refused NoSuchRequest
    else if is_some client.removal then case.Refused AlreadyFinal
    else asking_case client.provisional client.cancel

-- the INVITE with this state of its cancelling
abbrev pub asked : Cancelling → Client → Client
asked cancel client = record client { cancel = cancel }

-- the command is refused, and nothing changes
abbrev pub refusing : Event → Cancel → Refusal → Clients → Clients × List CallOut
refusing event command refusal clients =
    (clients, refused event.id command.call_id refusal)

-- the command by its case: refused; asked before; its CANCEL waits; or its CANCEL goes out
abbrev pub cancelled_as : CancelCase → Event → Cancel → Client → Clients → Clients × List CallOut
cancelled_as (case.Refused refusal) event command invite clients =
    refusing event command refusal clients
cancelled_as case.Repeated event command invite clients = (clients, [])
cancelled_as case.Waits event command invite clients =
    (client_changed command.id (asked (Waits event.id)) clients, [])
cancelled_as case.Starts event command invite clients =
    sent_beside (Some (cancel_client event.id invite))
    (client_changed command.id (asked Sent) clients, [])

-- the command for a held request, or for none
abbrev pub cancelled_of : Option Client → Event → Cancel → Clients → Clients × List CallOut
cancelled_of None event command clients = refusing event command NoSuchRequest clients
cancelled_of (Some invite) event command clients =
    cancelled_as (cancel_case invite) event command invite clients

-- the command Cancel
abbrev pub cancelled : Event → Cancel → Clients → Clients × List CallOut
cancelled event command clients =
    cancelled_of (client_at command.id clients) event command clients

-- the same beside the dialogs, which don't change
abbrev pub cancel_by_user : Event → Cancel → Side → ClientTaken
cancel_by_user event command side =
    let after = cancelled event command side.clients in
    (record side { clients = after.0 }, after.1)

-- ---- a response

-- a CANCEL that waits is sent after a provisional response, and discarded after a final one
abbrev pub cancelling_after : Bool → Cancelling → Cancelling
cancelling_after final NotAsked = NotAsked
cancelling_after final (Waits id) = if final then NotAsked else Sent
cancelling_after final Sent = Sent

-- the INVITE after a response came
abbrev pub after_response : Bool → Client → Client
after_response final client = record client {
  provisional = client.provisional || not final;
  cancel = cancelling_after final client.cancel;
}

-- the id of a CANCEL that waited and goes out now, unless the response is final
abbrev pub freed_by : Bool → Cancelling → Option Id
freed_by final NotAsked = None
freed_by final (Waits id) = if final then None else Some id
freed_by final Sent = None

-- the CANCEL that waited for the response
abbrev pub cancel_freed : Bool → Client → Option Client
cancel_freed final invite =
    option_map (λ id. cancel_client id invite) (freed_by final invite.cancel)
