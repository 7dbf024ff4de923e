-- How the user ends what waits in a call: a final response, or giving up (own: RFC 3261 lets an
-- INVITE wait for ever, section 9.1).
use Rattle.std.specs.Prelude.{◌≡◌, ◌⊎◌, ℕ, true, false, List, [], ◌∷◌, Option, None, Some}
use Rattle.std.specs.List.{AllByRecursion, list_any}
use Rattle.keyed_machine.specs.Machine.{Timed}
use Rattle.sip_message.specs.declared.id.Id.{Id}
use Rattle.sip_message.specs.Key.{client_key}
use Rattle.sip_message.specs.TopVia.{top_branch}
use Rattle.sip_transactions.specs.declared.input.Command.TheVariants.{Abandon}
use Rattle.sip_user.specs.declared.command.AbandonDialog.{AbandonDialog as Dialog}
use Rattle.sip_user.specs.declared.command.AbandonRequest.{AbandonRequest as Request}
use Rattle.sip_user.specs.declared.command.UserCommand.{UserCommand}
use Rattle.sip_user.specs.declared.command.UserCommand.TheVariants.{AbandonDialog, AbandonRequest, Respond}
use Rattle.sip_user.specs.declared.item.CallOut.TheVariants.{Command}
use Rattle.sip_user.specs.declared.item.Item.TheVariants.{User}
use Rattle.sip_held_dialogs.specs.declared.held_dialog.DialogId.{DialogId}
use Rattle.sip_held_dialogs.specs.declared.held_dialog.HeldDialog.{HeldDialog}
use Rattle.sip_held_dialogs.specs.Dialogs.{dialog_at, early_ended, ended_notice, is_early_of, tag_text}
use Rattle.sip_held_dialogs.specs.Requests.{dialog_id_of_tags}
use Rattle.sip_clients.specs.declared.client.Client.{Client}
use Rattle.sip_clients.specs.Client.{Side, client_at}
use Rattle.sip_calls.specs.declared.call.Call.{Call}
use Rattle.sip_calls.specs.declared.calls.Calls.{Calls}
use Rattle.sip_calls.specs.Call.{CallItem, Taken, call_step}
use Rattle.sip_calls.specs.Histories.{call_from}
use Rattle.sip_calls.specs.Provisionals.{side_held}
use Rattle.sip_agent_laws.specs.Calls.Rejections.{IsRejection}
use Rattle.sip_agent_laws.specs.Calls.Rest.{is_from_outside}
use Rattle.sip_round.specs.Answers.{calls_of}
use Rattle.sip_round.specs.CallsHeld.{call_after}
use Rattle.sip_round.specs.declared.config.Config.{Config}
use Rattle.sip_round.specs.declared.round.Round.{Round}
use Rattle.sip_agent_laws.specs.Calls.Waiting.{Waiting, InDialog, OfPeer, OurInvite, NothingWaits, waits}

-- ---- giving up

-- the request is no longer held, its transaction ends, and so do the early dialogs that it made
pub record IsGivenUp (side : Side) (id : Id) (client : Client) (taken : Taken) : Type 0 where
  pub given : taken.1 ≡ Command id
      (Abandon (client_key (top_branch client.request) client.request.cseq.method))
      ∷ (early_ended client.id side.dialogs).1
  pub gone : client_at id (side_held taken.0).clients ≡ None
  pub early : list_any (λ entry. is_early_of client.id entry.1) (side_held taken.0).dialogs ≡ false

-- the dialog is no longer held, and its end is told
pub record HasEnded (name : DialogId) (held : HeldDialog) (taken : Taken) : Type 0 where
  pub given : taken.1 ≡ ended_notice held ∷ []
  pub gone : dialog_at name (side_held taken.0).dialogs ≡ None

-- whatever came to a call: a client request that is held and given up is gone
abbrev pub RequestGivenUp : Type 0
RequestGivenUp = (calls : Calls) (inputs : List (Timed CallItem)) (event : Id) (command : Request)
    (now : ℕ) (client : Client) → let call = call_from calls None inputs in
    client_at command.id (side_held call).clients ≡ Some client
    → IsGivenUp (side_held call) command.id client
    (call_step calls call (Some (event, User (AbandonRequest command))) now)

-- the dialog of a command
abbrev pub dialog_named : Dialog → DialogId
dialog_named command =
    dialog_id_of_tags (tag_text command.local_tag) (tag_text command.remote_tag)

-- so is a dialog
abbrev pub DialogGivenUp : Type 0
DialogGivenUp = (calls : Calls) (inputs : List (Timed CallItem)) (event : Id) (command : Dialog)
    (now : ℕ) (held : HeldDialog) → let call = call_from calls None inputs in
    let name = dialog_named command in dialog_at name (side_held call).dialogs ≡ Some held
    → HasEnded name held
    (call_step calls call (Some (event, User (AbandonDialog command))) now)

-- ---- what waits after an input

-- the command ends what waits
abbrev pub Ends : Waiting → UserCommand → Type 0
Ends (OfPeer id) (Respond respond) = (respond.id ≡ id) × IsRejection respond
Ends (OurInvite id) (AbandonRequest abandon) = abandon.id ≡ id
Ends (InDialog name) (AbandonDialog abandon) = dialog_named abandon ≡ name
Ends _ _ = ⊥

-- what waits after an input waited before
abbrev pub AddsNothing : Calls → Option Call → Option CallItem → ℕ → Type 0
AddsNothing calls call input now = (one : Waiting)
    → waits one (call_step calls call input now).0 ≡ true → waits one call ≡ true

-- Ticks and reports of transactions add nothing that waits for the user.
abbrev pub OthersAddNothing : Type 0
OthersAddNothing = (calls : Calls) (call : Option Call) (input : Option CallItem) (now : ℕ)
    → is_from_outside input ≡ false → AddsNothing calls call input now

-- nor does a command that ends something
abbrev pub EndingAddsNothing : Type 0
EndingAddsNothing = (calls : Calls) (call : Option Call) (event : Id) (command : UserCommand)
    (now : ℕ) (one : Waiting) → Ends one command
    → AddsNothing calls call (Some (event, User command)) now

-- after any rounds of an agent: what it ends waits no longer
abbrev pub EndingEnds : Type 0
EndingEnds = (config : Config) (rounds : List Round) (call_id : List ℕ) (event : Id)
    (command : UserCommand) (now : ℕ) (one : Waiting) → Ends one command
    → waits one (call_step (calls_of config) (call_after config rounds call_id)
    (Some (event, User command)) now).0 ≡ false

-- ---- all of it

-- the input is a command that ends this
abbrev pub IsEndOf : Waiting → Timed CallItem → Type 0
IsEndOf one timed = (event : Id) × (command : UserCommand)
    × (timed.input ≡ Some (event, User command)) × Ends one command

-- one of them is
abbrev pub SomeEnds : Waiting → List (Timed CallItem) → Type 0
SomeEnds one [] = ⊥
SomeEnds one (timed ∷ inputs) = IsEndOf one timed ⊎ SomeEnds one inputs

-- After any rounds of an agent: commands that end something, among them one for each thing that
-- waits, leave nothing in the call that waits for the user.
abbrev pub UserEndsAll : Type 0
UserEndsAll = (config : Config) (rounds : List Round) (call_id : List ℕ)
    (commands : List (Timed CallItem))
    → AllByRecursion (λ timed. (one : Waiting) × IsEndOf one timed) commands
    → ((one : Waiting) → waits one (call_after config rounds call_id) ≡ true
    → SomeEnds one commands)
    → NothingWaits (call_from (calls_of config) (call_after config rounds call_id) commands)
