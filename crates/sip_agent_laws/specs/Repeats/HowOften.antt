-- How often the 2xx to an INVITE goes out (RFC 3261, section 13.3.1.4). Moments are in ms.
use Rattle.std.specs.Prelude.{◌≡◌, ℕ, suc, ◌+◌, ◌≤◌, ◌<◌, Bool, true, false, ◌&&◌, List, [], ◌∷◌, ◌++◌, Option, None, IfSome, count_by, fold, is_none}
use Rattle.std.specs.List.{AllByRecursion}
use Rattle.std.specs.Ordering.{eq_by_cmp}
use Rattle.std.specs.Str.{bytes_eq}
use Rattle.keyed_machine.specs.Machine.{Timed, outputs_from, tick_at}
use Rattle.sip_message.specs.declared.id.Id.{Id}
use Rattle.sip_message.specs.declared.key.Key.{Key}
use Rattle.sip_message.specs.Key.{key_cmp}
use Rattle.sip_message.specs.Written.{written}
use Rattle.sip_transactions.specs.declared.input.Command.TheVariants.{Answer}
use Rattle.sip_transactions.specs.declared.step.Pace.TheVariants.{Capped}
use Rattle.sip_user.specs.declared.item.CallOut.{CallOut}
use Rattle.sip_user.specs.declared.item.CallOut.TheVariants.{Command}
use Rattle.sip_held_dialogs.specs.Ids.{is_id}
use Rattle.sip_served.specs.Story.{RequestStory, SuccessStory, success_by}
use Rattle.sip_calls.specs.declared.calls.Calls.{Calls}
use Rattle.sip_calls.specs.Call.{CallItem, call_due, call_machine}
use Rattle.sip_calls.specs.RequestHistories.{stories_of}
use Rattle.sip_agent_laws.specs.Transactions.Copies.{AreInTime, latest_repeat}

-- the 2xx to a request, by the story of the request
abbrev pub success_in : RequestStory → Option SuccessStory
success_in story = fold (success_by story.arrival) None story.life

-- a response with this text is given to this transaction, under this id
abbrev pub is_answer : Id → Key → List ℕ → CallOut → Bool
is_answer id key text (Command at (Answer to response)) =
    is_id id at && eq_by_cmp key_cmp key to && bytes_eq (written response) text
is_answer id key text other = false

-- how often the 2xx is given to the transaction of its request
abbrev pub times_given : RequestStory → SuccessStory → List CallOut → ℕ
times_given story success outs =
    count_by (is_answer story.arrival.id story.arrival.key (written success.response)) outs

-- Whatever came to a call: a 2xx to an INVITE of the peer goes out when the user gives it, and
-- again until its ACK comes or 64*T1 are over. By a tick that comes in time, after the latest
-- moment of so many repeats, all these have gone out.
abbrev pub EachSuccessIsRepeated : Type 0
EachSuccessIsRepeated = (calls : Calls) (call_id : List ℕ) (inputs : List (Timed CallItem))
    (lag repeats end : ℕ)
    → AreInTime (call_machine calls) call_due lag call_id None (inputs ++ tick_at end ∷ [])
    → AllByRecursion (λ story. IfSome (success_in story) (λ success.
    is_none success.over ≡ true → success.sent + latest_repeat Capped lag repeats < end
    → suc repeats
    ≤ times_given story success (outputs_from (call_machine calls) call_id None inputs)))
    (stories_of calls inputs)
