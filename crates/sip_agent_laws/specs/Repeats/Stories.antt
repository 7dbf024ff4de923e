-- The repeats in the stories of the held requests are what goes out (RFC 3261, section 13.3.1.4;
-- RFC 3262, section 3).
use Rattle.std.specs.Prelude.{◌≡◌, ℕ, Bool, true, false, List, [], map, filter, length, nat_lt, Option, None, Some}
use Rattle.std.specs.List.{flat_map}
use Rattle.std.specs.Option.{option_to_list}
use Rattle.keyed_machine.specs.Machine.{Timed}
use Rattle.sip_message.specs.declared.message.Message.{Message}
use Rattle.sip_user.specs.declared.item.CallOut.{CallOut}
use Rattle.sip_served.specs.declared.held_request.HeldRequest.{HeldRequest}
use Rattle.sip_served.specs.Provisionals.{of_numbers}
use Rattle.sip_served.specs.RequestLife.{RequestHappening, RepeatsProvisionals, RepeatsSuccess}
use Rattle.sip_served.specs.Story.{RequestStory, request_of}
use Rattle.sip_served.specs.Telling.{Stories, event_told}
use Rattle.sip_served.specs.Tick.{request_passes}
use Rattle.sip_calls.specs.declared.call.Call.{Call}
use Rattle.sip_calls.specs.declared.calls.Calls.{Calls}
use Rattle.sip_calls.specs.Call.{CallItem, call_step}
use Rattle.sip_calls.specs.Histories.{call_from}
use Rattle.sip_calls.specs.RequestHistories.{served_event, served_state, stories_of}
use Rattle.sip_agent_laws.specs.Calls.Commanded.{goes_out}
use Rattle.sip_agent_laws.specs.Repeats.Repeats.{responses_to}

-- what something that happens to a request sends again: its 2xx, or the reliable provisional
-- responses of these RSeqs
abbrev pub sent_by : HeldRequest → RequestHappening → List Message
sent_by held (RepeatsSuccess now) =
    map (λ success. success.response) (option_to_list held.success)
sent_by held (RepeatsProvisionals numbers now) =
    map (λ one. one.response) (of_numbers numbers held.provisionals)
sent_by held _ = []

-- what a tick adds to the story of a request (`request_passes`) sends these to it
abbrev pub sent_in : ℕ → RequestStory → List CallOut
sent_in now story =
    let held = request_of story in
    responses_to held (flat_map (sent_by held) (request_passes now held))

-- Whatever came to a call: all that goes out at a tick is what the tick adds to the stories.
abbrev pub SentAsTold : Type 0
SentAsTold = (calls : Calls) (inputs : List (Timed CallItem)) (now : ℕ)
    → goes_out (call_step calls (call_from calls None inputs) None now).1
    ≡ flat_map (sent_in now) (stories_of calls inputs)

-- something is sent again
abbrev pub is_repeat : RequestHappening → Bool
is_repeat (RepeatsSuccess now) = true
is_repeat (RepeatsProvisionals numbers now) = true
is_repeat _ = false

-- all that was sent again
abbrev pub repeats_in : RequestStory → List RequestHappening
repeats_in story = filter is_repeat story.life

-- the same of each story that has a repeat
abbrev pub all_repeats : Stories → List (List RequestHappening)
all_repeats stories = filter (λ repeats. nat_lt 0 (length repeats)) (map repeats_in stories)

-- Whatever is held: messages and commands add no repeat to a story. So each repeat was added by a
-- tick, and went out at that tick.
abbrev pub OnlyTicksRepeat : Type 0
OnlyTicksRepeat = (calls : Calls) (call : Option Call) (stories : Stories) (item : CallItem)
    (now : ℕ)
    → all_repeats (event_told (served_state calls call) (served_event calls (Some item) now) stories)
    ≡ all_repeats stories
