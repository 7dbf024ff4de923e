-- A CANCEL that comes up (RFC 3261, section 9.2).
use Rattle.std.specs.Prelude.{ℕ, Bool, false, ◌&&◌, ◌==◌, List, [], ◌∷◌, Option, None, Some, codes, find, is_none, reverse, if◌then◌else◌}
use Rattle.std.specs.Str.{bytes_eq}
use Rattle.sip_message.specs.declared.id.Id.{Id}
use Rattle.sip_message.specs.declared.key.Key.{Key}
use Rattle.sip_message.specs.declared.key.Key.TheVariants.{Server}
use Rattle.sip_message.specs.declared.message.Message.{Message}
use Rattle.sip_message.specs.Content.{content_of_body}
use Rattle.sip_message.specs.Response.{response_of}
use Rattle.sip_transactions.specs.declared.input.Command.TheVariants.{Answer}
use Rattle.sip_user.specs.declared.command.Reliability.TheVariants.{Plain}
use Rattle.sip_user.specs.declared.command.Respond.{Respond}
use Rattle.sip_served.specs.declared.arrival.Arrival.{Arrival}
use Rattle.sip_served.specs.declared.held_request.HeldRequest.{HeldRequest}
use Rattle.sip_user.specs.declared.item.CallOut.{CallOut}
use Rattle.sip_user.specs.declared.item.CallOut.TheVariants.{Command, Notice}
use Rattle.sip_user.specs.declared.notice.Notice.TheVariants.{Cancel}
use Rattle.sip_served.specs.Arrival.{command_for, no_such_dialog}
use Rattle.sip_held_dialogs.specs.Dialogs.{early_ended}
use Rattle.sip_held_dialogs.specs.Requests.{is_invite}
use Rattle.sip_served.specs.RequestLife.{RequestHappening, Finishes, went_on}
use Rattle.sip_served.specs.State.{State, ServedTaken, changed_at, followed}

-- ---- the request that it names

-- two keys have the same branch and sent-by, whatever their methods
abbrev pub is_same_branch : Key → Key → Bool
is_same_branch (Server branch sent_by method) (Server other other_sent_by other_method) =
    bytes_eq branch other && bytes_eq sent_by.host other_sent_by.host
    && (sent_by.port == other_sent_by.port)
is_same_branch _ _ = false

-- the held request with the branch and the sent-by of the CANCEL; if several have them, the last
-- that came up
abbrev pub cancelled_request : Key → List HeldRequest → Option HeldRequest
cancelled_request cancel requests =
    find (λ held. is_same_branch cancel held.key) (reverse requests)

-- an INVITE without a final response; a CANCEL has an effect on no other request
abbrev pub is_unanswered_invite : HeldRequest → Bool
is_unanswered_invite held = is_invite held.request && is_none held.removal

-- ---- what is answered

-- the 200 to the CANCEL, with the To tag of the answers to that request
abbrev pub cancel_accepted : Arrival → HeldRequest → CallOut
cancel_accepted arrival held =
    command_for arrival (response_of arrival.request 200 (codes "OK") held.tag)

-- the final response to the INVITE
abbrev pub request_terminated : HeldRequest → Message
request_terminated held = response_of held.request 487 (codes "Request Terminated") held.tag

-- the CANCEL is answered, then the INVITE, and the user is told
abbrev pub termination_told : List ℕ → Arrival → HeldRequest → Message → List CallOut
termination_told call_id arrival held response =
    cancel_accepted arrival held ∷ Command held.id (Answer held.key response)
    ∷ Notice (Cancel call_id held.id) ∷ []

-- ---- the INVITE afterwards

-- the 487 goes out as its final response
abbrev pub terminates : Message → ℕ → List RequestHappening
terminates response now = Finishes response 487 now ∷ []

-- the INVITE has its final response, and its early dialogs end
abbrev pub invite_terminated : Message → Id → ℕ → State → ServedTaken
invite_terminated response invite now state = (
  record state {
    requests = changed_at invite (went_on (terminates response now)) state.requests;
    dialogs = (early_ended invite state.dialogs).0;
  },
  (early_ended invite state.dialogs).1,
)

-- the same 487 as a command of the user
abbrev pub user_termination : List ℕ → Id → Respond
user_termination call_id invite = record {
  call_id = call_id;
  id = invite;
  status = 487;
  reliability = Plain;
  content = content_of_body [];
  reason = codes "Request Terminated";
}

-- ---- all of it

-- a CANCEL of a held request gets 200, and an unanswered INVITE gets 487; a CANCEL of none gets 481
abbrev pub by_cancelled : State → List ℕ → Arrival → ℕ → Option HeldRequest → ServedTaken
by_cancelled state call_id arrival now None = (state, no_such_dialog arrival)
by_cancelled state call_id arrival now (Some held) =
    let response = request_terminated held in
    if is_unanswered_invite held
    then followed (state, termination_told call_id arrival held response)
    (invite_terminated response held.id now)
    else (state, cancel_accepted arrival held ∷ [])

-- A CANCEL that comes up. It is never held, and no dialog notes it.
abbrev pub cancel_taken : State → List ℕ → Arrival → ℕ → ServedTaken
cancel_taken state call_id arrival now =
    by_cancelled state call_id arrival now (cancelled_request arrival.key state.requests)
