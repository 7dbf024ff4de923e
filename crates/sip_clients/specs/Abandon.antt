-- The user gives a client request or a dialog up.
use Rattle.std.specs.Prelude.{false, ◌∷◌, Option, None, Some}
use Rattle.sip_message.specs.Key.{client_key}
use Rattle.sip_message.specs.TopVia.{top_branch}
use Rattle.sip_message.specs.declared.id.Id.{Id}
use Rattle.sip_transactions.specs.declared.input.Command.TheVariants.{Abandon}
use Rattle.sip_user.specs.declared.command.AbandonDialog.{AbandonDialog}
use Rattle.sip_user.specs.declared.command.AbandonRequest.{AbandonRequest}
use Rattle.sip_user.specs.declared.item.CallOut.{CallOut}
use Rattle.sip_user.specs.declared.item.CallOut.TheVariants as out
use Rattle.sip_user.specs.declared.refusal.Refusal.TheVariants.{NoSuchDialog, NoSuchRequest}
use Rattle.sip_user.specs.Notices.{refused}
use Rattle.sip_held_dialogs.specs.declared.held_dialog.DialogId.{DialogId}
use Rattle.sip_held_dialogs.specs.declared.held_dialog.HeldDialog.{HeldDialog}
use Rattle.sip_held_dialogs.specs.Dialogs.{dialog_at, ended_at}
use Rattle.sip_clients.specs.declared.client.Client.{Client}
use Rattle.sip_clients.specs.declared.event.Event.{Event}
use Rattle.sip_clients.specs.Client.{ClientTaken, Side, client_at}
use Rattle.sip_clients.specs.Clients.{request_lost}
use Rattle.sip_clients.specs.Commands.{name_in}

-- the transaction of a request ends
abbrev pub end_command : Id → Client → CallOut
end_command id client =
    out.Command id
    (Abandon (client_key (top_branch client.request) ((client.request).cseq).method))

-- a held request, or none
abbrev pub request_abandoned_of : Option Client → Event → AbandonRequest → Side → ClientTaken
request_abandoned_of None event command side =
    (side, refused event.id command.call_id NoSuchRequest)
request_abandoned_of (Some client) event command side =
    let over = request_lost command.id false side in
    (over.0, end_command command.id client ∷ over.1)

-- the command AbandonRequest
abbrev pub request_abandoned : Event → AbandonRequest → Side → ClientTaken
request_abandoned event command side =
    request_abandoned_of (client_at command.id side.clients) event command side

-- a held dialog, or none
abbrev pub dialog_abandoned_of : Option HeldDialog → Event → AbandonDialog → DialogId → Side
    → ClientTaken
dialog_abandoned_of None event command name side =
    (side, refused event.id command.call_id NoSuchDialog)
dialog_abandoned_of (Some held) event command name side =
    let ended = ended_at name side.dialogs in (record side { dialogs = ended.0 }, ended.1)

-- the command AbandonDialog
abbrev pub dialog_abandoned : Event → AbandonDialog → Side → ClientTaken
dialog_abandoned event command side =
    let name = name_in command.local_tag command.remote_tag in
    dialog_abandoned_of (dialog_at name side.dialogs) event command name side
