-- The requests of the peer that a call holds, for all its inputs, and what the outputs of the call
-- say of each.
use Rattle.std.specs.Prelude.{◌≡◌, Bool, true, false, List, [], ◌∷◌, Option, None, Some, filter_map, find, fold, is_some, if◌then◌else◌}
use Rattle.std.specs.List.{IsDistinct}
use Rattle.keyed_machine.specs.Machine.{Timed}
use Rattle.sip_message.specs.declared.id.Id.{Id}
use Rattle.sip_transactions.specs.declared.output.UpKind.{UpKind}
use Rattle.sip_transactions.specs.declared.output.UpKind.TheVariants as kind
use Rattle.sip_user.specs.declared.command.UserCommand.{UserCommand}
use Rattle.sip_user.specs.declared.command.UserCommand.TheVariants.{Respond}
use Rattle.sip_user.specs.declared.item.CallOut.{CallOut}
use Rattle.sip_user.specs.declared.item.Item.{Item}
use Rattle.sip_user.specs.declared.item.Item.TheVariants.{Up, User}
use Rattle.sip_held_dialogs.specs.Ids.{is_id}
use Rattle.sip_served.specs.declared.held_request.HeldRequest.{HeldRequest}
use Rattle.sip_served.specs.State.{has_id}
use Rattle.sip_served.specs.Unacknowledged.{at_tick}
use Rattle.sip_calls.specs.declared.call.Call.{Call}
use Rattle.sip_calls.specs.declared.calls.Calls.{Calls}
use Rattle.sip_calls.specs.Call.{CallItem, call_step}
use Rattle.sip_calls.specs.Histories.{call_from}

-- ---- the requests that come up

-- the id of the request that a message is
abbrev pub id_of_kind : Id → UpKind → Option Id
id_of_kind id (kind.Request request reply_to) = Some id
id_of_kind id _ = None

-- the id of the request that an input brings
abbrev pub request_brought : Option CallItem → Option Id
request_brought (Some (event, Up up)) = id_of_kind up.id up.kind
request_brought _ = None

-- no id of a request comes up twice
abbrev pub RequestsDiffer : List (Timed CallItem) → Type 0
RequestsDiffer inputs = IsDistinct is_id (filter_map (λ timed. request_brought timed.input) inputs)

-- the requests that are held
abbrev pub requests_held : Option Call → List HeldRequest
requests_held None = []
requests_held (Some call) = (call.served).requests

-- ---- the inputs that are about them

-- requests and ACKs that come up, and answers of the user, are about such requests
abbrev pub kind_is_about : UpKind → Bool
kind_is_about (kind.Request request reply_to) = true
kind_is_about (kind.Ack ack) = true
kind_is_about _ = false

-- the same for a command
abbrev pub command_is_about : UserCommand → Bool
command_is_about (Respond respond) = true
command_is_about _ = false

-- the same for an item
abbrev pub is_about : Item → Bool
is_about (Up up) = kind_is_about up.kind
is_about (User command) = command_is_about command

-- ---- what the outputs say of a request of the peer

-- By the outputs of one input, in order: of a tick, or of an item that is about such requests.
abbrev pub read_in : {X : Type 0} → (X → CallOut → X) → Option CallItem → X → List CallOut → X
read_in by None x outs = fold (at_tick by) x outs
read_in by (Some (event, item)) x outs = if is_about item then fold by x outs else x

module _ {X : Type 0} (by : X → CallOut → X) (none : X) (calls : Calls) (invite : Id) where
  -- by the outputs of the next input; nothing is said yet of a request that isn't held
  abbrev pub read_next : Option Call → X → Timed CallItem → X
  read_next call x timed =
      read_in by timed.input (if is_some (find (has_id invite) (requests_held call)) then x else
      none)
      (call_step calls call timed.input timed.moment).1

  -- by the outputs of a list of inputs
  abbrev pub read_from : Option Call → X → List (Timed CallItem) → X
  read_from call x [] = x
  read_from call x (input ∷ inputs) =
      read_from (call_step calls call input.input input.moment).0 (read_next call x input) inputs

-- A law of each request that is held after a list of inputs.
abbrev pub OfEachRequest : (Calls → List (Timed CallItem) → Id → HeldRequest → Type 0) → Type 0
OfEachRequest Law = (calls : Calls) (inputs : List (Timed CallItem)) → RequestsDiffer inputs
    → (invite : Id) (held : HeldRequest)
    → find (has_id invite) (requests_held (call_from calls None inputs)) ≡ Some held
    → Law calls inputs invite held
