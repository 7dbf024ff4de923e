-- The rules of a user who gives up (own): RFC 3261 lets an INVITE wait for its final response for
-- ever (section 9.1), and a dialog whose requests are refused can't end by a BYE. Each part ends
-- with the command that it is about.
use Rattle.std.specs.Prelude.{false, ◌∷◌}
use Rattle.std.specs.Map.{lookup}
use Rattle.std.specs.Option.{option_map_or}
use Rattle.sip_message.specs.Key.{client_key}
use Rattle.sip_message.specs.TopVia.{top_branch}
use Rattle.sip_transactions.specs.declared.input.Command.TheVariants.{Abandon}
use Rattle.sip_user.specs.declared.command.AbandonDialog.{AbandonDialog}
use Rattle.sip_user.specs.declared.command.AbandonRequest.{AbandonRequest}
use Rattle.sip_user.specs.declared.item.CallOut.TheVariants.{Command}
use Rattle.sip_user.specs.declared.refusal.Refusal.TheVariants.{NoSuchDialog, NoSuchRequest}
use Rattle.sip_held_dialogs.specs.declared.held_dialog.DialogId.{DialogId}
use Rattle.sip_held_dialogs.specs.declared.held_dialog.HeldDialog.{HeldDialog}
use Rattle.sip_held_dialogs.specs.Dialogs.{ended_at, is_dialog_id, tag_text}
use Rattle.sip_held_dialogs.specs.Ids.{is_id}
use Rattle.sip_held_dialogs.specs.Requests.{dialog_id_of_tags}
use Rattle.sip_clients.specs.declared.client.Client.{Client}
use Rattle.sip_clients.specs.declared.event.Event.{Event}
use Rattle.sip_clients.specs.Client.{ClientTaken, Side}
use Rattle.sip_clients.specs.Rules.Ends.{request_is_lost}
use Rattle.sip_clients.specs.Rules.Requests.{refuse}

-- ---- a client request

-- The request is over, as if it couldn't be sent, but the user isn't told of that: the early
-- dialogs that it made end. Its transaction ends too, so later responses are dropped.
abbrev pub abandon_of_request : AbandonRequest → Side → Client → ClientTaken
abandon_of_request command side client =
    let over = request_is_lost command.id false side in
    let key = client_key (top_branch client.request) client.request.cseq.method in
    (over.0, Command command.id (Abandon key) ∷ over.1)

-- The command AbandonRequest is for the held request of its id.
unfoldable pub abandon_request_command : Event → AbandonRequest → Side → ClientTaken
abandon_request_command event command side =
    option_map_or (abandon_of_request command side) (lookup (is_id command.id) side.clients)
    (refuse event command.call_id side NoSuchRequest)

-- ---- a dialog

-- The dialog ends, early or confirmed, and nothing is sent in it.
abbrev pub abandon_of_dialog : DialogId → Side → HeldDialog → ClientTaken
abandon_of_dialog name side held =
    let ended = ended_at name side.dialogs in (record side { dialogs = ended.0 }, ended.1)

-- The command AbandonDialog is for the held dialog of its tags.
unfoldable pub abandon_dialog_command : Event → AbandonDialog → Side → ClientTaken
abandon_dialog_command event command side =
    let name = dialog_id_of_tags (tag_text command.local_tag) (tag_text command.remote_tag) in
    option_map_or (abandon_of_dialog name side) (lookup (is_dialog_id name) side.dialogs)
    (refuse event command.call_id side NoSuchDialog)
