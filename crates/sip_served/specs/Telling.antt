-- What each event of the server side adds to the stories of the held requests: to which of them
-- something happens, and what.
use Rattle.std.specs.Prelude.{ℕ, List, [], ◌∷◌, ◌++◌, map, filter, find, Option, None, Some, if◌then◌else◌}
use Rattle.std.specs.Option.{is_some, option_map_or}
use Rattle.sip_message.specs.declared.id.Id.{Id}
use Rattle.sip_transactions.specs.declared.output.UpKind.{UpKind}
use Rattle.sip_transactions.specs.declared.output.UpKind.TheVariants.{Request, Ack}
use Rattle.sip_transactions.specs.declared.output.Up.{Up}
use Rattle.sip_user.specs.declared.command.Respond.{Respond}
use Rattle.sip_user.specs.declared.command.UserCommand.TheVariants as command
use Rattle.sip_held_dialogs.specs.declared.held_dialog.DialogId.{DialogId}
use Rattle.sip_user.specs.declared.item.Item.{Item}
use Rattle.sip_user.specs.declared.item.Item.TheVariants as item
use Rattle.sip_held_dialogs.specs.Requests.{dialog_id_of, is_cancel}
use Rattle.sip_served.specs.declared.arrival.Arrival.{Arrival}
use Rattle.sip_served.specs.declared.arrival.ArrivalCase.{ArrivalCase}
use Rattle.sip_served.specs.declared.arrival.ArrivalCase.TheVariants.{Acknowledges, ForUser}
use Rattle.sip_served.specs.declared.held_request.HeldRequest.{HeldRequest}
use Rattle.sip_served.specs.declared.held_request.SuccessEnd.TheVariants.{Acknowledged}
use Rattle.sip_served.specs.Acknowledgment.{acknowledged_invite}
use Rattle.sip_served.specs.Arrival.{arrival_of, case_of, in_its_dialog, noted}
use Rattle.sip_served.specs.Cancel.{cancelled_request, is_unanswered_invite, request_terminated, terminates}
use Rattle.sip_served.specs.RequestLife.{RequestHappening, EndsSuccess, TakesPrack}
use Rattle.sip_served.specs.Respond.{answer_to, answers, makes, refusal_for}
use Rattle.sip_served.specs.Run.{Event, Takes, Ticks}
use Rattle.sip_served.specs.State.{State, changed_first, has_id}
use Rattle.sip_served.specs.Story.{RequestStory, goes_on, request_of}
use Rattle.sip_served.specs.Tick.{is_kept_at, request_passes}

-- the stories of the requests, in the order in which they came up
abbrev pub Stories : Type 0
Stories = List RequestStory

-- this happens to the request of an id
abbrev pub happens_to : Id → List RequestHappening → Stories → Stories
happens_to id more stories = changed_first (λ story. has_id id story.arrival) (goes_on more) stories

-- a request that comes up, other than a CANCEL: one for the user is held
abbrev pub told_by_case : ArrivalCase → State → DialogId → Arrival → Stories → Stories
told_by_case (Acknowledges invite rseq) state name arrival stories =
    happens_to invite (TakesPrack rseq ∷ []) stories
told_by_case ForUser state name arrival stories =
    let arrival = in_its_dialog (noted state name arrival.request).dialogs name arrival in
    stories ++ record { arrival = arrival; life = [] } ∷ []
told_by_case _ state name arrival stories = stories

-- a CANCEL of this request, or of none
abbrev pub told_by_cancel : ℕ → Option HeldRequest → Stories → Stories
told_by_cancel now None stories = stories
told_by_cancel now (Some held) stories =
    if is_unanswered_invite held
    then happens_to held.id (terminates (request_terminated held) now) stories
    else stories

-- a request that comes up
abbrev pub arrival_told : State → Arrival → ℕ → Stories → Stories
arrival_told state arrival now stories =
    let name = dialog_id_of arrival.request arrival.tag in
    if is_cancel arrival.request
    then told_by_cancel now (cancelled_request arrival.key state.requests) stories
    else told_by_case (case_of state.requests state.dialogs name arrival.request) state name arrival
    stories

-- what a transaction hands up
abbrev pub kind_told : State → List ℕ → Up → UpKind → ℕ → Stories → Stories
kind_told state tag up (Request request reply_to) now stories =
    arrival_told state (arrival_of up request reply_to tag) now stories
kind_told state tag up (Ack ack) now stories =
    option_map_or (λ invite. happens_to invite (EndsSuccess Acknowledged ∷ []) stories)
    (acknowledged_invite ack state.requests) stories
kind_told state tag up _ now stories = stories

-- an answer of the user to this request, if it isn't refused
abbrev pub answer_told : State → Id → Respond → ℕ → Stories → HeldRequest → Stories
answer_told state event respond now stories held =
    if is_some (refusal_for state.dialogs respond held) then stories
    else happens_to respond.id (makes event held respond.status
    ++ answers held respond.status respond.reliability
    (answer_to state.local held respond) now) stories

-- an item of the event of this id
abbrev pub item_told : State → List ℕ → Id → Item → ℕ → Stories → Stories
item_told state tag event (item.Up up) now stories = kind_told state tag up up.kind now stories
item_told state tag event (item.User (command.Respond respond)) now stories =
    option_map_or (answer_told state event respond now stories)
    (find (has_id respond.id) state.requests) stories
item_told state tag event (item.User _) now stories = stories

-- an item; or a tick: what is due happens to each request, and those whose time is over are removed
abbrev pub event_told : State → Event → Stories → Stories
event_told state (Takes tag event item now) stories = item_told state tag event item now stories
event_told state (Ticks now) stories =
    filter (λ story. is_kept_at now (request_of story))
    (map (λ story. goes_on (request_passes now (request_of story)) story) stories)
