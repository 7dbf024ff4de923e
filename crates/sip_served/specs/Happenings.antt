-- What the server side makes happen in the held dialog of a name, and how it opens a dialog (RFC
-- 3261, sections 12.1.1, 12.2.2 and 13.3.1.4).
use Rattle.std.specs.Prelude.{ℕ, Bool, not, ◌&&◌, List, [], Option, find, if◌then◌else◌}
use Rattle.std.specs.List.{flat_map, list_any}
use Rattle.std.specs.Option.{option_map, option_map_or}
use Rattle.sip_message.specs.declared.message.Message.{Message}
use Rattle.sip_message.specs.Party.{tag_of}
use Rattle.sip_dialog.specs.Life.{Happening}
use Rattle.sip_dialog.specs.Opening.{Opening, ByRequest}
use Rattle.sip_user.specs.declared.command.Respond.{Respond}
use Rattle.sip_held_dialogs.specs.declared.held_dialog.DialogId.{DialogId}
use Rattle.sip_held_dialogs.specs.declared.held_dialog.HeldDialog.{HeldDialog}
use Rattle.sip_user.specs.declared.item.CallOut.{CallOut}
use Rattle.sip_held_dialogs.specs.Dialogs.{confirms, is_dialog_id, takes, happenings_by_request}
use Rattle.sip_held_dialogs.specs.Requests.{dialog_id_of, is_cancel, has_to_tag, is_unknown_option, dialog_id_of_tags}
use Rattle.sip_held_dialogs.specs.Sent.{responses_out}
use Rattle.sip_served.specs.declared.held_request.HeldRequest.{HeldRequest}
use Rattle.sip_served.specs.Respond.{confirms_dialog}
use Rattle.sip_served.specs.State.{State, has_id}

-- a request of the peer has the tags of the dialog
abbrev pub is_of_name : Message → DialogId → Bool
is_of_name request name =
    has_to_tag request && is_dialog_id (dialog_id_of_tags (tag_of request.to) (tag_of request.from))
    name

-- a request is accepted if the agent knows its options and its number is above those before it; a
-- CANCEL never is
abbrev pub accepts : Message → DialogId → HeldDialog → List Happening
accepts request name held =
    if is_of_name request name && not (is_cancel request)
    && not (list_any is_unknown_option request.require)
    && takes held request.cseq.number
    then happenings_by_request request held else []

-- a 2xx that goes out to an INVITE outside of dialogs confirms the dialog of the tags of both
abbrev pub success_confirms : HeldRequest → ℕ → List Message → DialogId → HeldDialog
    → List Happening
success_confirms request status responses name held =
    if is_dialog_id (dialog_id_of request.request request.tag) name
    && confirms_dialog request status
    then flat_map (λ response. confirms response held) responses else []

-- the same for the user's answer to the request of its id, if it isn't refused
abbrev pub answer_confirms : State → Respond → List CallOut → DialogId → HeldDialog
    → List Happening
answer_confirms state respond outs name held =
    option_map_or
    (λ request. success_confirms request respond.status (responses_out outs) name held)
    (find (has_id respond.id) state.requests) []

-- the opening of the dialog that an answer makes: the request, the tag and the status of the answer
abbrev pub answer_opens : State → Respond → Option Opening
answer_opens state respond =
    option_map (λ request. ByRequest request.request request.tag respond.status)
    (find (has_id respond.id) state.requests)
