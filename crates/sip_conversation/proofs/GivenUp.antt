-- The user gives a request or a dialog up: what is true of a refusal, and of the end of what is
-- held, is true of the command.
use Rattle.std.specs.Prelude.{Option, None, Some}
use Rattle.std.specs.Map.{lookup}
use Rattle.std.specs.Option.{option_map_or}
use Rattle.sip_user.specs.declared.command.AbandonDialog.{AbandonDialog}
use Rattle.sip_user.specs.declared.command.AbandonRequest.{AbandonRequest}
use Rattle.sip_user.specs.declared.refusal.Refusal.TheVariants.{NoSuchDialog, NoSuchRequest}
use Rattle.sip_held_dialogs.specs.declared.held_dialog.DialogId.{DialogId}
use Rattle.sip_held_dialogs.specs.declared.held_dialog.HeldDialog.{HeldDialog}
use Rattle.sip_held_dialogs.specs.Dialogs.{is_dialog_id, tag_text}
use Rattle.sip_held_dialogs.specs.Ids.{is_id}
use Rattle.sip_held_dialogs.specs.Requests.{dialog_id_of_tags}
use Rattle.sip_clients.specs.declared.client.Client.{Client}
use Rattle.sip_clients.specs.declared.event.Event.{Event}
use Rattle.sip_clients.specs.Client.{ClientTaken, Side}
use Rattle.sip_clients.specs.Rules.Abandon.{abandon_dialog_command, abandon_of_dialog, abandon_of_request, abandon_request_command}
use Rattle.sip_clients.specs.Rules.Requests.{refuse}

pub request_given_up : (event : Event) (command : AbandonRequest) (side : Side)
    (P : ClientTaken → Type 0) → P (refuse event command.call_id side NoSuchRequest)
    → ((client : Client) → P (abandon_of_request command side client))
    → P (abandon_request_command event command side)
unfolding abandon_request_command
request_given_up event command side P refused ends =
    by (lookup (is_id command.id) side.clients)
  where
    by : (o : Option Client)
        → P (option_map_or (abandon_of_request command side) o
        (refuse event command.call_id side NoSuchRequest))
    by None = refused
    by (Some client) = ends client

-- the dialog of the command's tags
abbrev pub named : AbandonDialog → DialogId
named command = dialog_id_of_tags (tag_text command.local_tag) (tag_text command.remote_tag)

pub dialog_given_up : (event : Event) (command : AbandonDialog) (side : Side)
    (P : ClientTaken → Type 0) → P (refuse event command.call_id side NoSuchDialog)
    → ((held : HeldDialog) → P (abandon_of_dialog (named command) side held))
    → P (abandon_dialog_command event command side)
unfolding abandon_dialog_command
dialog_given_up event command side P refused ends =
    by (lookup (is_dialog_id (named command)) side.dialogs)
  where
    by : (o : Option HeldDialog)
        → P (option_map_or (abandon_of_dialog (named command) side) o
        (refuse event command.call_id side NoSuchDialog))
    by None = refused
    by (Some held) = ends held
