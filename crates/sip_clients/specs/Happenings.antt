-- What a response makes happen in the held dialog of a name, and how it opens a dialog (RFC 3261,
-- sections 12.1.2, 12.2.1.2 and 13.2.2.4). The requests that go out in a dialog are in the outputs.
use Rattle.std.specs.Prelude.{ℕ, Bool, not, ◌&&◌, List, [], Option, Some, if◌then◌else◌}
use Rattle.std.specs.Option.{option_map, option_map_or}
use Rattle.sip_message.specs.declared.id.Id.{Id}
use Rattle.sip_message.specs.declared.message.Message.{Message}
use Rattle.sip_dialog.specs.Life.{Happening}
use Rattle.sip_dialog.specs.Opening.{Opening, ByResponse, contact_uri}
use Rattle.sip_held_dialogs.specs.declared.held_dialog.DialogId.{DialogId}
use Rattle.sip_held_dialogs.specs.declared.held_dialog.HeldDialog.{HeldDialog}
use Rattle.sip_held_dialogs.specs.Dialogs.{confirms, is_dialog_id, retargets}
use Rattle.sip_held_dialogs.specs.Requests.{is_success}
use Rattle.sip_clients.specs.declared.client.Client.{Client}
use Rattle.sip_clients.specs.declared.client.RequestKind.{RequestKind}
use Rattle.sip_clients.specs.declared.client.RequestKind.TheVariants.{InitialInvite, ReInvite, InDialog, OutOfDialog}
use Rattle.sip_clients.specs.Answers.{has_answer}
use Rattle.sip_clients.specs.Client.{Clients, client_at}
use Rattle.sip_clients.specs.Clients.{reply_name, status_of}
use Rattle.sip_clients.specs.ReceivedResponse.{has_dialog}

-- the 2xx to the first INVITE confirms the dialog; the 2xx to a re-INVITE gives it another target
-- if it has a Contact
abbrev pub success_brings : RequestKind → Message → HeldDialog → List Happening
success_brings InitialInvite response held = confirms response held
success_brings (ReInvite life) response held = retargets (contact_uri response) held
success_brings (InDialog life) response held = []
success_brings OutOfDialog response held = []

-- a response to this request is the first 2xx of the dialog
abbrev pub is_first_success : ℕ → Client → DialogId → Bool
is_first_success status client name = is_success status && not (has_answer name client.answers)

-- what a response does in its dialog, if that is the dialog of the request
abbrev pub reply_brings : ℕ → Client → Message → DialogId → HeldDialog → List Happening
reply_brings status client response name held =
    let own = reply_name client.kind client response in
    if is_dialog_id own name && is_first_success status client own
    && has_dialog client.kind (Some held)
    then success_brings client.kind response held else []

-- the response to the request of this id
abbrev pub response_brings : Id → Message → Clients → DialogId → HeldDialog → List Happening
response_brings id response clients name held =
    option_map_or
    (λ client. option_map_or (λ status. reply_brings status client response name held)
    (status_of response.start) [])
    (client_at id clients) []

-- the opening of the dialog that the response makes: the request and the response
abbrev pub response_opens : Id → Message → Clients → Option Opening
response_opens id response clients =
    option_map (λ client. ByResponse client.request response) (client_at id clients)
