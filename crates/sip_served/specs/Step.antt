-- How each item changes the server side of its call.
use Rattle.std.specs.Prelude.{ℕ, List, if◌then◌else◌}
use Rattle.sip_message.specs.declared.id.Id.{Id}
use Rattle.sip_transactions.specs.declared.output.UpKind.{UpKind}
use Rattle.sip_transactions.specs.declared.output.UpKind.TheVariants.{Request, Ack, Response, Timeout, Failed}
use Rattle.sip_transactions.specs.declared.output.Up.{Up}
use Rattle.sip_served.specs.declared.arrival.Arrival.{Arrival}
use Rattle.sip_user.specs.declared.command.UserCommand.{UserCommand}
use Rattle.sip_user.specs.declared.command.UserCommand.TheVariants as command
use Rattle.sip_user.specs.declared.item.Item.{Item}
use Rattle.sip_user.specs.declared.item.Item.TheVariants as item
use Rattle.sip_served.specs.Acknowledgment.{ack_taken}
use Rattle.sip_served.specs.Arrival.{arrival_of, request_taken}
use Rattle.sip_served.specs.Cancel.{cancel_taken}
use Rattle.sip_held_dialogs.specs.Requests.{is_cancel}
use Rattle.sip_served.specs.Respond.{respond_taken}
use Rattle.sip_served.specs.State.{State, ServedTaken, quiet}

-- a CANCEL is looked at before all other cases
abbrev pub arrival_taken : State → List ℕ → Arrival → ℕ → ServedTaken
arrival_taken state call_id arrival now =
    if is_cancel arrival.request then cancel_taken state call_id arrival now
    else request_taken state call_id arrival

-- What a transaction hands up; `tag` is the To tag made for a request without one. The server side
-- takes the requests and the ACKs.
abbrev pub kind_taken : State → List ℕ → Up → UpKind → ℕ → ServedTaken
kind_taken state tag up (Request request reply_to) now =
    arrival_taken state up.call_id (arrival_of up request reply_to tag) now
kind_taken state tag up (Ack ack) now = ack_taken state up.call_id ack
kind_taken state tag up (Response response) now = quiet state
kind_taken state tag up Timeout now = quiet state
kind_taken state tag up Failed now = quiet state

-- the server side takes only the answers among the user's commands
abbrev pub server_command_taken : State → Id → UserCommand → ℕ → ServedTaken
server_command_taken state id (command.Respond respond) now = respond_taken state id respond now
server_command_taken state id _ now = quiet state

-- an item of the event of this id, at a moment in ms
abbrev pub server_item_taken : State → List ℕ → Id → Item → ℕ → ServedTaken
server_item_taken state tag id (item.Up up) now = kind_taken state tag up up.kind now
server_item_taken state tag id (item.User command) now = server_command_taken state id command now
