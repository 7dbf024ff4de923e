-- The Call-ID that a command of the user, or an item, is for.
use Rattle.std.specs.Prelude.{ℕ, List}
use Rattle.sip_user.specs.declared.command.UserCommand.{UserCommand}
use Rattle.sip_user.specs.declared.item.Item.{Item}
use Rattle.sip_user.specs.declared.item.Item.TheVariants.{Up, User}
use Rattle.sip_user.specs.declared.command.UserCommand.TheVariants.{Invite, Plain, Request, Respond, Ack, Prack, Cancel, AbandonRequest, AbandonDialog}

-- the call of a command
abbrev pub call_of_command : UserCommand → List ℕ
call_of_command (Invite invite) = invite.call_id
call_of_command (Plain plain) = plain.call_id
call_of_command (Request request) = request.call_id
call_of_command (Respond respond) = respond.call_id
call_of_command (Ack ack) = ack.call_id
call_of_command (Prack prack) = prack.call_id
call_of_command (Cancel cancel) = cancel.call_id
call_of_command (AbandonRequest abandon) = abandon.call_id
call_of_command (AbandonDialog abandon) = abandon.call_id

-- the call of what comes up, or of a command
abbrev pub call_of_item : Item → List ℕ
call_of_item (Up up) = up.call_id
call_of_item (User command) = call_of_command command
