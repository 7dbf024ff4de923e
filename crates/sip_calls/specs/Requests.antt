-- The requests that come up for a call, and those of which the user is told.
use Rattle.std.specs.Prelude.{ℕ, ◌≤◌, Bool, false, List, Option, Some, cond, count_by, filter_map}
use Rattle.sip_message.specs.declared.id.Id.{Id}
use Rattle.sip_user.specs.declared.item.CallOut.{CallOut}
use Rattle.sip_user.specs.declared.item.Item.TheVariants.{Up}
use Rattle.sip_user.specs.Notices.{request_told_by}
use Rattle.sip_served.specs.ForUser.{is_request}
use Rattle.sip_held_dialogs.specs.Ids.{is_id}
use Rattle.sip_calls.specs.declared.call.Call.{Call}
use Rattle.sip_calls.specs.declared.calls.Calls.{Calls}
use Rattle.sip_calls.specs.Call.{CallItem, call_step}

-- the request of an id comes up by an input
abbrev pub comes_up_by : Id → Option CallItem → Bool
comes_up_by id (Some (event, Up up)) = is_request up.kind (is_id id up.id)
comes_up_by id _ = false

-- how often outputs tell of the request of an id
abbrev pub tells_of : Id → List CallOut → ℕ
tells_of id outs = count_by (is_id id) (filter_map request_told_by outs)

-- whatever is held, only the input that brings a request tells the user of it, once
abbrev pub EachToldOnce : Type 0
EachToldOnce = (calls : Calls) (state : Option Call) (input : Option CallItem) (now : ℕ) (id : Id)
    → tells_of id (call_step calls state input now).1 ≤ cond (comes_up_by id input) 1 0
