-- What of a call waits for the user: a request of the peer without a final response, an INVITE of
-- the agent without one, and a dialog (RFC 3261, sections 8.2.6, 12 and 13.2.2).
use Rattle.std.specs.Prelude.{◌≡◌, Bool, ◌&&◌, not, false, is_none, is_some, Option}
use Rattle.std.specs.List.{list_any}
use Rattle.std.specs.Map.{values_of}
use Rattle.sip_message.specs.declared.id.Id.{Id}
use Rattle.sip_held_dialogs.specs.declared.held_dialog.DialogId.{DialogId}
use Rattle.sip_held_dialogs.specs.Dialogs.{dialog_at}
use Rattle.sip_held_dialogs.specs.Ids.{is_id}
use Rattle.sip_served.specs.declared.held_request.HeldRequest.{HeldRequest}
use Rattle.sip_served.specs.State.{has_id}
use Rattle.sip_clients.specs.declared.client.Client.{Client}
use Rattle.sip_clients.specs.Rules.Requests.{is_invite_kind}
use Rattle.sip_calls.specs.declared.call.Call.{Call}
use Rattle.sip_calls.specs.HeldRequests.{requests_held}
use Rattle.sip_calls.specs.Provisionals.{side_held}

pub data Waiting : Type 0 where
  -- the request of the peer with this id
  OfPeer : Id → Waiting
  -- the INVITE that the event of this id sent
  OurInvite : Id → Waiting
  -- the dialog of this name
  InDialog : DialogId → Waiting

-- a final response sets `removal`, the moment at which the request is removed
abbrev pub lacks_final : HeldRequest → Bool
lacks_final held = is_none held.removal

-- an INVITE of the agent has no final response: a 2xx sets `removal`, and any other ends it
abbrev pub lacks_response : Client → Bool
lacks_response client = is_invite_kind client.kind && is_none client.removal

-- this waits for the user
abbrev pub waits : Waiting → Option Call → Bool
waits (OfPeer id) call =
    list_any (λ held. has_id id held && lacks_final held) (requests_held call)
waits (OurInvite id) call =
    list_any (λ entry. is_id id entry.0 && lacks_response entry.1) (side_held call).clients
waits (InDialog name) call = is_some (dialog_at name (side_held call).dialogs)

-- nothing waits for the user
abbrev pub NothingWaits : Option Call → Type 0
NothingWaits call = (one : Waiting) → waits one call ≡ false

-- A request other than INVITE is held until its transaction reports the outcome: a final response,
-- that it timed out, or that it couldn't be sent (RFC 3261, section 8.1.3.1).
abbrev pub awaits_report : Option Call → Bool
awaits_report call =
    list_any (λ client. not (is_invite_kind client.kind)) (values_of (side_held call).clients)
