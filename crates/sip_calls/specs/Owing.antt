-- What is owed in the dialog of a name, for all inputs of a call, by what the call gives (RFC 3261,
-- section 13.2.2.4; RFC 3262, section 4).
use Rattle.std.specs.Prelude.{◌≡◌, List, [], ◌∷◌, ◌++◌, Option, None, Some, if◌then◌else◌}
use Rattle.keyed_machine.specs.Machine.{Timed}
use Rattle.sip_message.specs.declared.id.Id.{Id}
use Rattle.sip_transactions.specs.declared.output.UpKind.{UpKind}
use Rattle.sip_transactions.specs.declared.output.UpKind.TheVariants as kind
use Rattle.sip_user.specs.declared.command.UserCommand.{UserCommand}
use Rattle.sip_user.specs.declared.command.UserCommand.TheVariants.{Ack, Prack}
use Rattle.sip_held_dialogs.specs.declared.pending_request.PendingRequest.{PendingRequest}
use Rattle.sip_held_dialogs.specs.declared.held_dialog.DialogId.{DialogId}
use Rattle.sip_held_dialogs.specs.declared.held_dialog.HeldDialog.{HeldDialog}
use Rattle.sip_user.specs.declared.item.CallOut.{CallOut}
use Rattle.sip_user.specs.declared.item.Item.{Item}
use Rattle.sip_user.specs.declared.item.Item.TheVariants.{Up, User}
use Rattle.sip_held_dialogs.specs.Dialogs.{dialog_at}
use Rattle.sip_clients.specs.Owing.{owed_after_ack, owed_after_prack, response_owes}
use Rattle.sip_calls.specs.declared.call.Call.{Call}
use Rattle.sip_calls.specs.declared.calls.Calls.{Calls}
use Rattle.sip_calls.specs.Call.{CallItem, call_step}
use Rattle.sip_calls.specs.Histories.{call_from, is_born_of}
use Rattle.sip_calls.specs.Provisionals.{EventsDiffer, event_in, side_held}
use Rattle.sip_calls.specs.Sides.{side_of}

-- ---- one input

-- what is owed after a message that comes up, by what was owed before and what is given: a response
-- may ask for more
abbrev pub owed_by_kind : Call → Id → UpKind → DialogId → List CallOut → List PendingRequest
    → List PendingRequest
owed_by_kind call id (kind.Response response) name outs pending_requests =
    pending_requests ++ response_owes id response call.clients name
    (dialog_at name (side_of call).dialogs) outs
owed_by_kind call id _ name outs pending_requests = pending_requests

-- after a command of the user: an ACK or PRACK that goes out is no longer owed
abbrev pub owed_by_command : UserCommand → DialogId → List CallOut → List PendingRequest
    → List PendingRequest
owed_by_command (Ack command) name outs pending_requests =
    owed_after_ack command name outs pending_requests
owed_by_command (Prack command) name outs pending_requests =
    owed_after_prack command name outs pending_requests
owed_by_command _ name outs pending_requests = pending_requests

-- after an item
abbrev pub owed_by : Call → Item → DialogId → List CallOut → List PendingRequest
    → List PendingRequest
owed_by call (Up up) name outs pending_requests =
    owed_by_kind call up.id up.kind name outs pending_requests
owed_by call (User command) name outs pending_requests =
    owed_by_command command name outs pending_requests

-- after an input
abbrev pub owed_in : Option Call → Option CallItem → DialogId → List CallOut → List PendingRequest
    → List PendingRequest
owed_in (Some call) (Some (id, item)) name outs pending_requests =
    owed_by call item name outs pending_requests
owed_in _ _ name outs pending_requests = pending_requests

-- ---- a list of inputs

module _ (calls : Calls) (name : DialogId) where
  -- nothing was owed before in a dialog that the input makes
  abbrev pub owed_next : Option Call → List PendingRequest → Timed CallItem → List PendingRequest
  owed_next call pending_requests timed =
      let done = call_step calls call timed.input timed.moment in
      owed_in call timed.input name done.1
      (if is_born_of name (event_in timed.input) (side_held done.0).dialogs then [] else
      pending_requests)

  -- after a list of inputs, by what was held and owed
  abbrev pub owed_from : Option Call → List PendingRequest → List (Timed CallItem)
      → List PendingRequest
  owed_from call pending_requests [] = pending_requests
  owed_from call pending_requests (input ∷ inputs) =
      owed_from (call_step calls call input.input input.moment).0
      (owed_next call pending_requests input)
      inputs

-- Whatever comes to a call: in a held dialog these are owed, the oldest first: the ACK of each 2xx
-- and the PRACK of each reliable provisional response to an INVITE of which the user was told since
-- the dialog was made, unless it went out at once, or later by a command, which sends the oldest of
-- its kind.
abbrev pub OwesAsTold : Type 0
OwesAsTold = (calls : Calls) (inputs : List (Timed CallItem)) → EventsDiffer inputs
    → (name : DialogId) (held : HeldDialog)
    → dialog_at name (side_held (call_from calls None inputs)).dialogs ≡ Some held
    → held.pending_requests ≡ owed_from calls name None [] inputs
