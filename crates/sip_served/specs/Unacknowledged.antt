-- Which reliable provisional responses to an INVITE await their PRACK, and which of them are still
-- sent again, by what a call gives (RFC 3262, section 3).
use Rattle.std.specs.Prelude.{ℕ, Bool, false, not, ◌&&◌, ◌==◌, List, [], ◌∷◌, ◌++◌, Option, None, Some, filter, map, if◌then◌else◌}
use Rattle.sip_message.specs.declared.id.Id.{Id}
use Rattle.sip_message.specs.declared.start_line.StartLine.{StartLine}
use Rattle.sip_message.specs.declared.start_line.StartLine.TheVariants as start
use Rattle.sip_reliable.specs.Provisional.{is_given_up}
use Rattle.sip_transactions.specs.declared.input.Command.{Command as Order}
use Rattle.sip_transactions.specs.declared.input.Command.TheVariants as order
use Rattle.sip_user.specs.declared.item.CallOut.{CallOut}
use Rattle.sip_user.specs.declared.item.CallOut.TheVariants as out
use Rattle.sip_user.specs.declared.notice.Notice.{Notice}
use Rattle.sip_user.specs.declared.notice.Notice.TheVariants.{Request, Response, Ack, Prack, Timeout, Failed, NoAck, NoPrack, Cancel, Ended, Refused}
use Rattle.sip_held_dialogs.specs.Ids.{is_id}
use Rattle.sip_held_dialogs.specs.Requests.{is_final}
use Rattle.sip_served.specs.declared.held_request.HeldRequest.{HeldRequest}

-- ---- what is held

-- the RSeqs of the responses that are kept until their PRACK comes
abbrev pub kept_rseqs : HeldRequest → List ℕ
kept_rseqs held = map (λ one. one.number) held.provisionals

-- the RSeqs of those whose PRACK gets a 200
abbrev pub awaited_rseqs : HeldRequest → List ℕ
awaited_rseqs held = map (λ p. p.number) held.ledger.waiting

-- the RSeqs of those that are sent again: none after a final response, and none that was given up
abbrev pub repeated_rseqs : HeldRequest → List ℕ
repeated_rseqs held =
    if held.ledger.closed then []
    else map (λ p. p.number) (filter (λ p. not (is_given_up p)) held.ledger.waiting)

-- ---- what is given

-- the RSeq of a response that goes out to the request of this id
abbrev pub rseq_sent : Id → Id → Order → Option ℕ
rseq_sent invite id (order.Start key call_id request to) = None
rseq_sent invite id (order.Answer key response) =
    if is_id id invite then response.rseq else None
rseq_sent invite id (order.Abandon key) = None

-- a final response
abbrev pub has_final : StartLine → Bool
has_final (start.Request uri) = false
has_final (start.Response status reason) = is_final status

-- a final response to the request of this id goes out
abbrev pub sends_final : Id → Id → Order → Bool
sends_final invite id (order.Start key call_id request to) = false
sends_final invite id (order.Answer key response) =
    is_id id invite && has_final response.start
sends_final invite id (order.Abandon key) = false

-- the RSeq of the response to the request of this id of whose PRACK the user is told
abbrev pub rseq_told : Id → Notice → Option ℕ
rseq_told invite (Request call_id id method local_tag remote_tag body) = None
rseq_told invite (Response call_id id status local_tag remote_tag body) = None
rseq_told invite (Ack call_id id body) = None
rseq_told invite (Prack call_id id rseq body) = if is_id id invite then Some rseq else None
rseq_told invite (Timeout call_id id) = None
rseq_told invite (Failed call_id id) = None
rseq_told invite (NoAck call_id id) = None
rseq_told invite (NoPrack call_id id) = None
rseq_told invite (Cancel call_id id) = None
rseq_told invite (Ended call_id local_tag remote_tag) = None
rseq_told invite (Refused call_id place refusal) = None

-- the user is told that no PRACK of a response to the request of this id came
abbrev pub tells_of_no_prack : Id → Notice → Bool
tells_of_no_prack invite (Request call_id id method local_tag remote_tag body) = false
tells_of_no_prack invite (Response call_id id status local_tag remote_tag body) = false
tells_of_no_prack invite (Ack call_id id body) = false
tells_of_no_prack invite (Prack call_id id rseq body) = false
tells_of_no_prack invite (Timeout call_id id) = false
tells_of_no_prack invite (Failed call_id id) = false
tells_of_no_prack invite (NoAck call_id id) = false
tells_of_no_prack invite (NoPrack call_id id) = is_id id invite
tells_of_no_prack invite (Cancel call_id id) = false
tells_of_no_prack invite (Ended call_id local_tag remote_tag) = false
tells_of_no_prack invite (Refused call_id place refusal) = false

-- ---- one output

-- numbers with one more, if there is one
abbrev pub with_number : Option ℕ → List ℕ → List ℕ
with_number None numbers = numbers
with_number (Some number) numbers = numbers ++ number ∷ []

-- numbers without this one, if there is one
abbrev pub without_number : Option ℕ → List ℕ → List ℕ
without_number None numbers = numbers
without_number (Some number) numbers = filter (λ one. not (one == number)) numbers

-- the responses that await their PRACK after an output: from the response on, until its PRACK is
-- told
abbrev pub awaited_by : Id → List ℕ → CallOut → List ℕ
awaited_by invite numbers (out.Notice notice) = without_number (rseq_told invite notice) numbers
awaited_by invite numbers (out.Command id command) =
    with_number (rseq_sent invite id command) numbers
awaited_by invite numbers (out.Direct to bytes) = numbers

-- the responses that are sent again after an output: from the response on, until the user is told
-- of its PRACK or that none came, or a final response goes out
abbrev pub repeated_by : Id → List ℕ → CallOut → List ℕ
repeated_by invite numbers (out.Notice notice) =
    if tells_of_no_prack invite notice then []
    else without_number (rseq_told invite notice) numbers
repeated_by invite numbers (out.Command id command) =
    if sends_final invite id command then []
    else with_number (rseq_sent invite id command) numbers
repeated_by invite numbers (out.Direct to bytes) = numbers

-- ---- one output of a tick

-- A tick only sends again what was sent before, so only its notices count.
abbrev pub at_tick : {X : Type 0} → (X → CallOut → X) → X → CallOut → X
at_tick by x (out.Notice notice) = by x (out.Notice notice)
at_tick by x (out.Command id command) = x
at_tick by x (out.Direct to bytes) = x
