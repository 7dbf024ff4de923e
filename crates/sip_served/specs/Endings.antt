-- What opens a dialog at the server side, and what ends one (RFC 3261, sections 9.2, 12.1.1, 12.3
-- and 15.1.2).
use Rattle.std.specs.Prelude.{Bool, false, not, ◌&&◌, List, find, is_some, if◌then◌else◌}
use Rattle.std.specs.List.{list_any}
use Rattle.std.specs.Option.{option_map_or}
use Rattle.sip_message.specs.declared.key.Key.{Key}
use Rattle.sip_message.specs.declared.message.Message.{Message}
use Rattle.sip_user.specs.declared.command.Respond.{Respond}
use Rattle.sip_held_dialogs.specs.declared.held_dialog.DialogId.{DialogId}
use Rattle.sip_held_dialogs.specs.declared.held_dialog.HeldDialog.{HeldDialog}
use Rattle.sip_user.specs.declared.item.CallOut.{CallOut}
use Rattle.sip_held_dialogs.specs.Dialogs.{is_early_of, is_dialog_id, takes}
use Rattle.sip_held_dialogs.specs.Requests.{dialog_id_of, is_bye, is_cancel, is_unknown_option}
use Rattle.sip_held_dialogs.specs.Sent.{response_in}
use Rattle.sip_served.specs.Cancel.{cancelled_request, is_unanswered_invite}
use Rattle.sip_served.specs.Happenings.{is_of_name}
use Rattle.sip_served.specs.Respond.{makes_dialog, rejects}
use Rattle.sip_served.specs.State.{State, has_id}

-- ---- an answer of the user

-- a response goes out
abbrev pub gives_response : List CallOut → Bool
gives_response outs = list_any (λ out. is_some (response_in out)) outs

-- The first response of 101 to 299 to an INVITE outside of dialogs opens the dialog of the tags of
-- both (RFC 3261, section 12.1.1).
abbrev pub opened_by_answer : State → Respond → List CallOut → DialogId → Bool
opened_by_answer state respond outs name =
    option_map_or (λ request. gives_response outs && makes_dialog request respond.status
    && is_dialog_id (dialog_id_of request.request request.tag) name)
    (find (has_id respond.id) state.requests) false

-- a final response other than a 2xx ends the early dialogs of its INVITE (RFC 3261, section 12.3)
abbrev pub ended_by_answer : State → Respond → List CallOut → HeldDialog → Bool
ended_by_answer state respond outs held =
    option_map_or (λ request. gives_response outs && rejects request respond.status
    && is_early_of request.id held)
    (find (has_id respond.id) state.requests) false

-- ---- a request that comes up

-- a BYE in the dialog ends it, if it is accepted (RFC 3261, sections 12.2.2 and 15.1.2)
abbrev pub ended_by_bye : Message → DialogId → HeldDialog → Bool
ended_by_bye request name held = is_bye request && is_of_name request name
    && not (list_any is_unknown_option request.require)
    && takes held request.cseq.number

-- a CANCEL gives its INVITE a 487, which ends the early dialogs (RFC 3261, sections 9.2 and 12.3)
abbrev pub ended_by_cancel : State → Key → HeldDialog → Bool
ended_by_cancel state key held =
    option_map_or (λ request. is_unanswered_invite request && is_early_of request.id held)
    (cancelled_request key state.requests) false

-- only a CANCEL or a BYE ends a dialog
abbrev pub ended_by_request : State → Key → Message → DialogId → HeldDialog → Bool
ended_by_request state key request name held =
    if is_cancel request then ended_by_cancel state key held else ended_by_bye request name held
