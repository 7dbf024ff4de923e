-- A reliable provisional response to an INVITE in one life of a dialog, and whether the user is
-- told of it (RFC 3262, section 4).
use Rattle.std.specs.Prelude.{ℕ, Bool, true, false, ◌&&◌, not, ◌==◌, List, [], Option, None, Some, filter, map, if◌then◌else◌}
use Rattle.sip_message.specs.declared.id.Id.{Id}
use Rattle.sip_message.specs.declared.message.Message.{Message}
use Rattle.sip_held_dialogs.specs.declared.held_dialog.DialogReference.{DialogReference}
use Rattle.sip_user.specs.declared.item.CallOut.{CallOut}
use Rattle.sip_user.specs.declared.item.CallOut.TheVariants.{Notice}
use Rattle.sip_user.specs.declared.notice.Notice.TheVariants as notice
use Rattle.sip_held_dialogs.specs.Dialogs.{is_dialog_id}
use Rattle.sip_held_dialogs.specs.Requests.{is_final, has_to_tag}
use Rattle.sip_held_dialogs.specs.Ids.{is_id}
use Rattle.sip_clients.specs.declared.client.RequestKind.{RequestKind}
use Rattle.sip_clients.specs.declared.client.RequestKind.TheVariants.{InitialInvite, ReInvite}
use Rattle.sip_clients.specs.declared.client.Client.{Client}
use Rattle.sip_clients.specs.Clients.{reply_name, status_of}
use Rattle.sip_clients.specs.ReceivedResponse.{rseq_of}

-- an INVITE: the first one of the call, or one that the event of this id sent in a dialog
pub data AnInvite : Type 0 where
  OfTheCall : AnInvite
  InTheDialog : Id → AnInvite

-- The request of this id is this INVITE, and the response to it is of this life of a dialog.
abbrev pub is_for : AnInvite → DialogReference → Id → Client → RequestKind → Message → Bool
is_for OfTheCall life id client InitialInvite response =
    is_dialog_id life.name (reply_name InitialInvite client response)
is_for (InTheDialog invite) life id client (ReInvite own) response =
    is_id id invite && (is_dialog_id life.name own.name && is_id own.created_by life.created_by)
is_for _ life id client _ response = false

-- the RSeq of a reliable provisional response of a dialog: not final, no 100, and with a To tag
abbrev pub provisional_number : Option ℕ → Message → Option ℕ
provisional_number None response = None
provisional_number (Some status) response =
    if is_final status then None
    else if not (status == 100) && has_to_tag response then rseq_of response
    else None

-- the RSeq of such a response to this held request
abbrev pub number_for : AnInvite → DialogReference → Id → Message → Client → Option ℕ
number_for invite life id response client =
    if is_for invite life id client client.kind response
    then provisional_number (status_of response.start) response else None

-- the user is told of a response
abbrev pub is_response : CallOut → Bool
is_response (Notice (notice.Response call_id id status local_tag remote_tag body)) = true
is_response _ = false

-- the RSeq counts if it came in the life: the dialog is held after it
abbrev pub in_life : Bool → Option ℕ → Option ℕ
in_life lives number = if lives then number else None

-- the RSeq, as often as the user is told of a response
abbrev pub reported_in : Option ℕ → List CallOut → List ℕ
reported_in None outs = []
reported_in (Some number) outs = map (λ out. number) (filter is_response outs)
