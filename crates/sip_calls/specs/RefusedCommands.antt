-- The commands of the user that are refused, in a whole call.
use Rattle.std.specs.Prelude.{ℕ, Option, Some}
use Rattle.std.specs.Option.{option_and_then}
use Rattle.sip_message.specs.declared.id.Id.{Id}
use Rattle.sip_user.specs.Command.{call_of_command}
use Rattle.sip_user.specs.declared.command.UserCommand.{UserCommand}
use Rattle.sip_user.specs.declared.item.Item.TheVariants.{User}
use Rattle.sip_clients.specs.RefusedCommands.{IsRefusedAlone}
use Rattle.sip_calls.specs.declared.call.Call.{Call}
use Rattle.sip_calls.specs.declared.calls.Calls.{Calls}
use Rattle.sip_calls.specs.Call.{call_step, kept_call}

-- Whatever is held, a command that is refused only gives its refusal, with its own Call-ID and the
-- place of its event, and nothing changes.
abbrev pub RefusedAlone : Type 0
RefusedAlone = (calls : Calls) (call : Option Call) (id : Id) (command : UserCommand) (now : ℕ)
    → IsRefusedAlone (option_and_then kept_call call) (call_of_command command) id
    (call_step calls call (Some (id, User command)) now)
