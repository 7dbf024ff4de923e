-- A held request of the peer as it came up, and what happened to it since. Each field of the record
-- follows from that (RFC 3261, section 13.3.1.4; RFC 3262, section 3). Moments are in ms.
use Rattle.std.specs.Prelude.{ℕ, ◌+◌, ◌*◌, ◌==◌, ◌&&◌, nat_lt, Bool, false, List, [], ◌∷◌, ◌++◌, length, fold, filter_map, Option, None, Some, if◌then◌else◌}
use Rattle.std.specs.List.{list_any}
use Rattle.std.specs.Option.{option_map}
use Rattle.sip_message.specs.declared.message.Message.{Message}
use Rattle.sip_reliable.specs.Happening as reliable
use Rattle.sip_reliable.specs.Ledger.{Ledger, ledger_after}
use Rattle.sip_timers.specs.declared.estimate.TheConstants.{T1}
use Rattle.sip_transactions.specs.declared.step.Pace.TheVariants.{Capped}
use Rattle.sip_transactions.specs.Timers.{interval}
use Rattle.sip_held_dialogs.specs.declared.held_dialog.DialogReference.{DialogReference}
use Rattle.sip_held_dialogs.specs.Requests.{is_invite, is_success, supports_100rel}
use Rattle.sip_served.specs.declared.held_request.HeldRequest.{HeldRequest}
use Rattle.sip_served.specs.declared.held_request.Retransmission.{Retransmission}
use Rattle.sip_served.specs.declared.held_request.Success.{Success}
use Rattle.sip_served.specs.declared.held_request.SuccessEnd.{SuccessEnd}
use Rattle.sip_served.specs.declared.provisionals.ReliableResponse.{ReliableResponse}
use Rattle.sip_served.specs.Arrival.{first_rseq}
use Rattle.sip_served.specs.RequestLife.{RequestHappening, EndsSuccess, Finishes, GivesUpProvisionals, MakesDialog, RepeatsProvisionals, RepeatsSuccess, SendsReliably, TakesPrack}

-- how it came up, with its dialog if it came in one, and what happened to it since
pub record RequestStory : Type 0 where
  pub arrival : HeldRequest
  pub life : List RequestHappening

-- more happens to it
abbrev pub goes_on : List RequestHappening → RequestStory → RequestStory
goes_on more story = record story { life = story.life ++ more }

-- ---- its dialog

-- the dialog that it came in, or that its answer made
abbrev pub dialog_by : Option DialogReference → RequestHappening → Option DialogReference
dialog_by dialog (MakesDialog life) = Some life
dialog_by dialog _ = dialog

-- ---- its reliable provisional responses

-- what happens to the reliable provisional responses
abbrev pub to_provisionals : RequestHappening → Option reliable.Happening
to_provisionals (SendsReliably number response now) =
    Some (reliable.Sends number (nat_lt 0 (length response.body)) now)
to_provisionals (TakesPrack number) = Some (reliable.Acknowledges number)
to_provisionals (RepeatsProvisionals numbers now) = Some (reliable.Repeats numbers now)
to_provisionals (GivesUpProvisionals now) = Some reliable.GivesUp
to_provisionals (Finishes response status now) = Some reliable.Closes
to_provisionals _ = None

-- their ledger after that
abbrev pub ledger_of : RequestStory → Ledger
ledger_of story =
    ledger_after first_rseq (supports_100rel story.arrival.request)
    (filter_map to_provisionals story.life)

-- the PRACK of this RSeq comes
abbrev pub is_prack_of : ℕ → RequestHappening → Bool
is_prack_of wanted (TakesPrack number) = wanted == number
is_prack_of wanted _ = false

-- the responses that went out and whose PRACK didn't come since
abbrev pub unacknowledged : List RequestHappening → List ReliableResponse
unacknowledged [] = []
unacknowledged (SendsReliably number response now ∷ later) =
    if list_any (is_prack_of number) later then unacknowledged later
    else record { number = number; response = response } ∷ unacknowledged later
unacknowledged (_ ∷ later) = unacknowledged later

-- ---- the 2xx to an INVITE

-- a 2xx, when it was sent, when it was sent again, and why that ended
pub record SuccessStory : Type 0 where
  pub response : Message
  pub sent : ℕ
  pub repeats : List ℕ
  pub over : Option SuccessEnd

-- the 2xx goes out again one capped interval after it was last sent
abbrev pub next_sending : SuccessStory → Retransmission
next_sending story =
    let pause = interval Capped (length story.repeats) in
    record { due = fold (λ last moment. moment) story.sent story.repeats + pause; interval = pause }

-- the 2xx as it is held: it is given up 64*T1 after it was sent
abbrev pub success_of : SuccessStory → Success
success_of story = record {
  response = story.response;
  end = story.sent + 64 * T1;
  retransmission = next_sending story;
  over = story.over;
}

-- the 2xx of a request after something happened to the request
abbrev pub success_by : HeldRequest → Option SuccessStory → RequestHappening → Option SuccessStory
success_by arrival success (Finishes response status now) =
    if is_invite arrival.request && is_success status
    then Some record { response = response; sent = now; repeats = []; over = None }
    else success
success_by arrival success (RepeatsSuccess now) =
    option_map (λ (story : SuccessStory). record story { repeats = story.repeats ++ now ∷ [] })
    success
success_by arrival success (EndsSuccess end) =
    option_map (λ (story : SuccessStory). record story { over = Some end }) success
success_by arrival success _ = success

-- ---- all of it

-- the request is removed 64*T1 after its final response
abbrev pub removal_by : Option ℕ → RequestHappening → Option ℕ
removal_by removal (Finishes response status now) = Some (now + 64 * T1)
removal_by removal _ = removal

-- the request after all that happened to it
abbrev pub request_of : RequestStory → HeldRequest
request_of story = record story.arrival {
  dialog = fold dialog_by story.arrival.dialog story.life;
  ledger = ledger_of story;
  provisionals = unacknowledged story.life;
  success = option_map success_of (fold (success_by story.arrival) None story.life);
  removal = fold removal_by None story.life;
}
