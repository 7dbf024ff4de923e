-- What a call that hears only messages that keep the rules sends.
use Rattle.std.specs.Prelude.{◌≡◌, ℕ, List, Option, None, Some}
use Rattle.std.specs.List.{AllByRecursion}
use Rattle.sip_message.specs.declared.message.Message.{Message}
use Rattle.sip_message.specs.Rules.{IsMessage}
use Rattle.sip_message.specs.Written.{written}
use Rattle.keyed_machine.specs.Machine.{Timed, outputs_from}
use Rattle.sip_transactions.specs.declared.output.UpKind.{UpKind}
use Rattle.sip_transactions.specs.declared.output.UpKind.TheVariants as kind
use Rattle.sip_user.specs.declared.item.CallOut.{CallOut}
use Rattle.sip_user.specs.declared.item.CallOut.TheVariants as call_out
use Rattle.sip_user.specs.declared.item.Item.TheVariants.{Up, User}
use Rattle.sip_calls.specs.Call.{CallItem, call_machine}
use Rattle.sip_calls.specs.Provisionals.{EventsDiffer}
use Rattle.sip_calls.specs.declared.calls.Calls.{Calls}
use Rattle.sip_conversation.specs.Commands.{KeepsTypes}
use Rattle.sip_conversation.specs.Messages.{AsksByRules}

-- a message that comes up keeps the rules of messages
abbrev pub KindKeeps : UpKind → Type 0
KindKeeps (kind.Request request reply_to) = IsMessage request
KindKeeps (kind.Ack ack) = IsMessage ack
KindKeeps (kind.Response response) = IsMessage response
KindKeeps kind.Timeout = Unit {0}
KindKeeps kind.Failed = Unit {0}

-- so does an input, and a command has the types of its parts
abbrev pub KeepsInput : Option CallItem → Type 0
KeepsInput None = Unit {0}
KeepsInput (Some (event, Up up)) = KindKeeps up.kind
KeepsInput (Some (event, User command)) = KeepsTypes command

-- nothing is required of a message
abbrev pub Any : Message → Type 0
Any message = Unit {0}

-- each message that goes out keeps the rules; a text is that of a message that does, and of which
-- this is said too
abbrev pub KeepsRulesWith : (Message → Type 0) → CallOut → Type 0
KeepsRulesWith AckIs (call_out.Notice notice) = Unit {0}
KeepsRulesWith AckIs (call_out.Command id command) = AsksByRules command
KeepsRulesWith AckIs (call_out.Direct to bytes) =
    (message : Message) × (bytes ≡ written message) × IsMessage message × AckIs message

-- what a step gives
abbrev pub Keep : (Message → Type 0) → List CallOut → Type 0
Keep AckIs outs = AllByRecursion (KeepsRulesWith AckIs) outs

-- all that a call gives, from nothing held on
abbrev pub CallKeepsRules : Calls → Type 0
CallKeepsRules calls = (call_id : List ℕ) (inputs : List (Timed CallItem)) → EventsDiffer inputs
    → AllByRecursion (λ timed. KeepsInput timed.input) inputs
    → Keep Any (outputs_from (call_machine calls) call_id None inputs)
