-- The requests that come up for the user of a call, and those of which the user is told.
use Rattle.std.specs.Prelude.{ℕ, Bool, false, List, [], ◌∷◌, ◌++◌, if◌then◌else◌}
use Rattle.std.specs.List.{filter_map}
use Rattle.sip_message.specs.declared.id.Id.{Id}
use Rattle.sip_transactions.specs.declared.output.UpKind.{UpKind}
use Rattle.sip_transactions.specs.declared.output.UpKind.TheVariants.{Request}
use Rattle.sip_transactions.specs.declared.output.Up.{Up}
use Rattle.sip_served.specs.declared.arrival.ArrivalCase.{ArrivalCase}
use Rattle.sip_served.specs.declared.arrival.ArrivalCase.TheVariants.{ForUser}
use Rattle.sip_user.specs.declared.item.Item.TheVariants.{Up as FromBelow}
use Rattle.sip_held_dialogs.specs.Ids.{is_id}
use Rattle.sip_user.specs.Notices.{request_told_by}
use Rattle.sip_held_dialogs.specs.Requests.{dialog_id_of, is_cancel}
use Rattle.sip_served.specs.Arrival.{arrival_of, case_of}
use Rattle.sip_served.specs.Run.{Event, Takes, event_taken}
use Rattle.sip_served.specs.State.{State}

-- the requests of which the user is told by an event, and by a list of events
abbrev pub told_by : State → Event → List Id
told_by state event = filter_map request_told_by (event_taken state event).1

abbrev pub told_from : State → List Event → List Id
told_from state [] = []
told_from state (event ∷ events) =
    told_by state event ++ told_from (event_taken state event).0 events

-- the request that comes up by an event, if it is for the user; a CANCEL never is
abbrev pub if_for_user : Id → ArrivalCase → List Id
if_for_user id ForUser = id ∷ []
if_for_user id _ = []

abbrev pub for_user_of : State → List ℕ → Up → UpKind → List Id
for_user_of state tag up (Request request reply_to) =
    let name = dialog_id_of request (arrival_of up request reply_to tag).tag in
    if is_cancel request then []
    else if_for_user up.id (case_of state.requests state.dialogs name request)
for_user_of state tag up _ = []

abbrev pub ids_for_user : State → Event → List Id
ids_for_user state (Takes tag id (FromBelow up) now) = for_user_of state tag up up.kind
ids_for_user state _ = []

-- the request of an id comes up
abbrev pub is_request : UpKind → Bool → Bool
is_request (Request request reply_to) is_it = is_it
is_request _ is_it = false

abbrev pub brings : Id → Event → Bool
brings id (Takes tag event (FromBelow up) now) = is_request up.kind (is_id id up.id)
brings id _ = false
