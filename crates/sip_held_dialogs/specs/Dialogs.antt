-- The held dialogs (RFC 3261, section 12).
use Rattle.std.specs.Prelude.{ℕ, Bool, false, not, ◌&&◌, List, [], ◌∷◌, ◌++◌, Option, None, Some, map, filter, fold, if◌then◌else◌}
use Rattle.std.specs.Option.{is_some, option_map, option_map_or}
use Rattle.std.specs.Map.{lookup, set_value, remove_entry, values_of}
use Rattle.std.specs.Cmp.Lexicographic.{pointwise}
use Rattle.std.specs.Prelude.{nat_eq, unwrap_or}
use Rattle.sip_message.specs.declared.id.Id.{Id}
use Rattle.sip_message.specs.declared.message.Message.{Message}
use Rattle.sip_dialog.specs.Dialog.{is_early}
use Rattle.sip_dialog.specs.Fault.{accept_fault, ended_fault}
use Rattle.sip_dialog.specs.Opening.{contact_uri}
use Rattle.sip_dialog.specs.declared.dialog.Dialog.{Dialog}
use Rattle.sip_dialog.specs.Life.{Happening, Requests, Acknowledges, Accepts, Refreshes, Confirms, Ends}
use Rattle.sip_dialog.specs.Step.{confirmed_by, ended_now, with_accepted, with_next_number, with_target}
use Rattle.sip_held_dialogs.specs.declared.held_dialog.DialogReference.{DialogReference}
use Rattle.sip_held_dialogs.specs.declared.held_dialog.DialogId.{DialogId}
use Rattle.sip_held_dialogs.specs.declared.held_dialog.HeldDialog.{HeldDialog}
use Rattle.sip_user.specs.declared.item.CallOut.{CallOut}
use Rattle.sip_user.specs.declared.item.CallOut.TheVariants.{Notice}
use Rattle.sip_user.specs.declared.notice.Notice.TheVariants.{Ended}
use Rattle.sip_held_dialogs.specs.Requests.{has_to_tag, is_invite}
use Rattle.sip_held_dialogs.specs.Ids.{is_id}

-- the held dialogs by dialog ID, in the order in which they were made
abbrev pub Dialogs : Type 0
Dialogs = List (DialogId × HeldDialog)

-- two dialog IDs are the same; `dialog_id_of_tags` makes them, in lower case
abbrev pub is_dialog_id : DialogId → DialogId → Bool
is_dialog_id name other =
    pointwise nat_eq name.local other.local && pointwise nat_eq name.remote other.remote

-- the held dialog of this ID
abbrev pub dialog_at : DialogId → Dialogs → Option HeldDialog
dialog_at name dialogs = lookup (is_dialog_id name) dialogs

-- the held dialogs after this change of the one with this ID
abbrev pub dialog_changed : DialogId → (HeldDialog → HeldDialog) → Dialogs → Dialogs
dialog_changed name change dialogs =
    option_map_or (λ held. set_value (is_dialog_id name) dialogs (change held))
    (dialog_at name dialogs) dialogs

-- the dialog that the event of this reference made is still held, not a later one of the same ID
abbrev pub lives : Dialogs → DialogReference → Bool
lives dialogs reference =
    option_map_or (λ held. is_id held.created_by reference.created_by)
    (dialog_at reference.name dialogs) false

-- a reference to the held dialog of this ID
abbrev pub reference_at : DialogId → Dialogs → Option DialogReference
reference_at name dialogs =
    option_map (λ held. record { name = name; created_by = held.created_by })
    (dialog_at name dialogs)

-- a reference to the dialog that a request with a To tag is in
abbrev pub dialog_of_request : Message → DialogId → Dialogs → Option DialogReference
dialog_of_request request name dialogs =
    if has_to_tag request then reference_at name dialogs else None

-- ---- how it ends

-- a tag, empty if there is none
abbrev pub tag_text : Option (List ℕ) → List ℕ
tag_text tag = unwrap_or tag []

-- the notice of an end has the tags as they were spelled when the dialog was made
abbrev pub ended_notice : HeldDialog → CallOut
ended_notice held =
    Notice
    (Ended held.dialog.call_id (tag_text held.dialog.local.tag) (tag_text held.dialog.remote.tag))

-- the dialog of this ID ends
abbrev pub ended_at : DialogId → Dialogs → Dialogs × List CallOut
ended_at name dialogs = (
  remove_entry (is_dialog_id name) dialogs,
  option_map_or (λ held. ended_notice held ∷ []) (dialog_at name dialogs) [],
)

-- an early dialog that a response to this INVITE made
abbrev pub is_early_of : Id → HeldDialog → Bool
is_early_of invite held = is_early held.dialog.state && is_id held.invite invite

-- the early dialogs that an INVITE made end, in the order in which they were made
abbrev pub early_ended : Id → Dialogs → Dialogs × List CallOut
early_ended invite dialogs = (
  filter (λ entry. not (is_early_of invite entry.1)) dialogs,
  map ended_notice (filter (is_early_of invite) (values_of dialogs)),
)

-- ---- for the laws over whole histories: what happens in a dialog

-- the dialog after something happened in it
abbrev pub happened : Dialog → Happening → Dialog
happened dialog (Requests method) = with_next_number dialog
happened dialog (Acknowledges number) = dialog
happened dialog (Accepts number) = with_accepted dialog number
happened dialog (Refreshes uri) = with_target dialog uri
happened dialog (Confirms response) = confirmed_by dialog response
happened dialog Ends = ended_now dialog

-- a held dialog after all of this, in order
abbrev pub lived : List Happening → HeldDialog → HeldDialog
lived life held = record held { dialog = fold happened held.dialog life }

-- a number is above those that came before (RFC 3261, section 12.2.2)
abbrev pub takes : HeldDialog → ℕ → Bool
takes held number = not (is_some (accept_fault held.dialog number))

-- if so, it is accepted, and is now the greatest that came
abbrev pub numbers : ℕ → HeldDialog → List Happening
numbers number held = if takes held number then Accepts number ∷ [] else []

-- a dialog that hasn't ended gets another target
abbrev pub retargets : Option (List ℕ) → HeldDialog → List Happening
retargets None held = []
retargets (Some uri) held = if is_some (ended_fault held.dialog) then [] else Refreshes uri ∷ []

-- a re-INVITE with a Contact gives the dialog another target
abbrev pub refreshes : Message → HeldDialog → List Happening
refreshes request held = if is_invite request then retargets (contact_uri request) held else []

-- a request in the dialog: its number is noted, and a re-INVITE refreshes the target
abbrev pub happenings_by_request : Message → HeldDialog → List Happening
happenings_by_request request held = numbers request.cseq.number held ++ refreshes request held

-- a 2xx confirms a dialog that hasn't ended
abbrev pub confirms : Message → HeldDialog → List Happening
confirms response held = if is_some (ended_fault held.dialog) then [] else Confirms response ∷ []

-- a held dialog after a request in it
abbrev pub visited : Message → HeldDialog → HeldDialog
visited request held = lived (happenings_by_request request held) held

-- a held dialog with another target
abbrev pub retargeted : Option (List ℕ) → HeldDialog → HeldDialog
retargeted uri held = lived (retargets uri held) held

-- a held dialog after a 2xx
abbrev pub confirmed : Message → HeldDialog → HeldDialog
confirmed response held = lived (confirms response held) held
