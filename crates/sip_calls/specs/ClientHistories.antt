-- The stories of the client requests that a call holds, for all its inputs: each as it was sent,
-- and what happened to it since (RFC 3261, sections 9.1, 13.2.2.4 and 17.1.1; RFC 3262, section 4).
use Rattle.std.specs.Prelude.{◌≡◌, ℕ, List, [], ◌∷◌, ◌++◌, Option, None, Some}
use Rattle.std.specs.List.{AllByRecursion}
use Rattle.keyed_machine.specs.Machine.{Timed}
use Rattle.sip_message.specs.declared.id.Id.{Id}
use Rattle.sip_transactions.specs.declared.output.UpKind.{UpKind}
use Rattle.sip_transactions.specs.declared.output.UpKind.TheVariants as kind
use Rattle.sip_transactions.specs.declared.output.Up.{Up as AnUp}
use Rattle.sip_user.specs.declared.command.UserCommand.{UserCommand}
use Rattle.sip_user.specs.declared.command.UserCommand.TheVariants.{Invite, Plain, Request, Respond, Ack, Prack, Cancel, AbandonRequest, AbandonDialog}
use Rattle.sip_held_dialogs.specs.declared.held_dialog.DialogId.{DialogId}
use Rattle.sip_user.specs.declared.item.CallOut.{CallOut}
use Rattle.sip_user.specs.declared.item.Item.{Item}
use Rattle.sip_user.specs.declared.item.Item.TheVariants.{Up, User}
use Rattle.sip_clients.specs.Answers.{ack_of}
use Rattle.sip_clients.specs.Client.{Side}
use Rattle.sip_clients.specs.ClientLife.{ClientHappening, Outgoing, SendsAckAgain, SendsCancel}
use Rattle.sip_clients.specs.ClientRules.{AllWait, IsCancelOf}
use Rattle.sip_clients.specs.ClientStory.{ClientStory, answers_of}
use Rattle.sip_clients.specs.ClientTelling.{ClientStories, AreTold, abandon_told, ack_told, cancel_told, in_dialog_told, invite_told, lost_told, plain_told, response_told, ticked_told}
use Rattle.sip_clients.specs.Commands.{name_in}
use Rattle.sip_clients.specs.declared.answers.SentAck.{SentAck}
use Rattle.sip_clients.specs.declared.event.Event.{Event}
use Rattle.sip_calls.specs.declared.call.Call.{Call}
use Rattle.sip_calls.specs.declared.calls.Calls.{Calls}
use Rattle.sip_calls.specs.Call.{CallItem, call_step, event_of}
use Rattle.sip_calls.specs.Histories.{call_from}
use Rattle.sip_calls.specs.Provisionals.{side_held}

-- ---- one input

-- the stories after what comes up from a transaction, by what the call gives
abbrev pub told_by_kind : Side → Event → AnUp → UpKind → List CallOut → ClientStories
    → ClientStories
told_by_kind side event up (kind.Response response) outs stories =
    response_told event up.id response side outs stories
told_by_kind side event up kind.Timeout outs stories = lost_told up.id stories
told_by_kind side event up kind.Failed outs stories = lost_told up.id stories
told_by_kind side event up _ outs stories = stories

-- the same for a command of the user
abbrev pub told_by_command : Side → Event → UserCommand → List CallOut → ClientStories
    → ClientStories
told_by_command side event (Invite invite) outs stories = invite_told outs stories
told_by_command side event (Plain plain) outs stories = plain_told outs stories
told_by_command side event (Request request) outs stories =
    in_dialog_told event (name_in request.local_tag request.remote_tag) side outs stories
told_by_command side event (Respond respond) outs stories = stories
told_by_command side event (Ack ack) outs stories = ack_told ack side outs stories
told_by_command side event (Prack prack) outs stories =
    in_dialog_told event (name_in prack.local_tag prack.remote_tag) side outs stories
told_by_command side event (Cancel cancel) outs stories = cancel_told event cancel outs stories
told_by_command side event (AbandonRequest abandon) outs stories =
    abandon_told abandon outs stories
told_by_command side event (AbandonDialog abandon) outs stories = stories

-- the same for an item
abbrev pub told_by_item : Side → Event → Item → List CallOut → ClientStories → ClientStories
told_by_item side event (Up up) outs stories = told_by_kind side event up up.kind outs stories
told_by_item side event (User command) outs stories =
    told_by_command side event command outs stories

-- the same for an item or a tick
abbrev pub told_by_input : Calls → Side → Option CallItem → ℕ → List CallOut → ClientStories
    → ClientStories
told_by_input calls side None now outs stories = ticked_told now stories
told_by_input calls side (Some (id, item)) now outs stories =
    told_by_item side (event_of calls id now) item outs stories

-- ---- a list of inputs

-- the stories after the next input, from what was held and its stories
abbrev pub told_next : Calls → Option Call → ClientStories → Timed CallItem → ClientStories
told_next calls call stories timed =
    told_by_input calls (side_held call) timed.input timed.moment
    (call_step calls call timed.input timed.moment).1 stories

-- the stories after a list of inputs
abbrev pub told_from : Calls → Option Call → ClientStories → List (Timed CallItem)
    → ClientStories
told_from calls call stories [] = stories
told_from calls call stories (input ∷ inputs) =
    told_from calls (call_step calls call input.input input.moment).0
    (told_next calls call stories input) inputs

-- the same for all inputs of a call, if nothing was held before
abbrev pub client_stories : Calls → List (Timed CallItem) → ClientStories
client_stories calls inputs = told_from calls None [] inputs

-- ---- the laws

-- Whatever comes to a call: each client request that is held is what its story says.
abbrev pub HoldsClientStories : Type 0
HoldsClientStories = (calls : Calls) (inputs : List (Timed CallItem))
    → AreTold (side_held (call_from calls None inputs)).clients (client_stories calls inputs)

-- The CANCEL of an INVITE goes out once, after a provisional response and before any 2xx, under the
-- id of the first command that asked for it, with the branch and the address of the INVITE.
abbrev pub CancelsOnce : Type 0
CancelsOnce = (calls : Calls) (inputs : List (Timed CallItem))
    → AllByRecursion (λ (entry : Id × ClientStory).
    (before later : List ClientHappening) (cancel : Outgoing)
    → entry.1.life ≡ before ++ SendsCancel cancel ∷ later
    → IsCancelOf entry.1 before cancel) (client_stories calls inputs)

-- an ACK that answers a retransmitted 2xx is the one that went out for it: the same bytes, to the
-- same address
abbrev pub RepeatsItsAck : Type 0
RepeatsItsAck = (calls : Calls) (inputs : List (Timed CallItem))
    → AllByRecursion (λ (entry : Id × ClientStory).
    (before later : List ClientHappening) (name : DialogId) (ack : SentAck)
    → entry.1.life ≡ before ++ SendsAckAgain name ack ∷ later
    → ack_of name (answers_of before) ≡ Some ack) (client_stories calls inputs)

-- a CANCEL that was asked for waits only while no provisional response came
abbrev pub WaitsAsAsked : Type 0
WaitsAsAsked = (calls : Calls) (inputs : List (Timed CallItem))
    → AllWait (side_held (call_from calls None inputs)).clients
