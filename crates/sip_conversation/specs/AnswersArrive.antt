-- That an answer arrives: a final response to a request other than INVITE, over a network that
-- delivers one of several copies of a datagram, between agents that run in time.
use Rattle.std.specs.Prelude.{◌≡◌, ℕ, suc, ◌+◌, ◌*◌, ◌<◌, ◌≤◌, Bool, true, false, not, ◌&&◌, List, [], ◌∷◌, ◌++◌, Contains, Option, None, Some, codes, length}
use Rattle.std.specs.List.{AllByRecursion, list_any}
use Rattle.sip_message.specs.declared.id.Id.{Id}
use Rattle.sip_message.specs.declared.key.Key.{Key}
use Rattle.sip_message.specs.declared.key.Key.TheVariants as key
use Rattle.sip_message.specs.declared.message.Message.{Message}
use Rattle.sip_message.specs.Message.{is_request_message}
use Rattle.sip_message.specs.MessageKey.{key_of_message}
use Rattle.sip_message.specs.Party.{tag_of}
use Rattle.sip_message.specs.Written.{written}
use Rattle.sip_timers.specs.declared.estimate.TheConstants.{LIFETIME as 64*T1}
use Rattle.keyed_machine.specs.Machine.{Timed, given_at}
use Rattle.sip_transactions.specs.declared.input.Input.{Input}
use Rattle.sip_transactions.specs.declared.input.Input.TheVariants.{Receive, Start, Answer, Failed, Abandon}
use Rattle.sip_transactions.specs.declared.timers.TheConstants.{T2}
use Rattle.sip_transactions.specs.ServerLaws.{is_final_answer}
use Rattle.sip_transactions.specs.Steps.Input.{answer_of, is_same_method}
use Rattle.sip_user.specs.declared.notice.Notice.TheVariants.{Response}
use Rattle.sip_clients.specs.Clients.{status_of}
use Rattle.sip_clients.specs.Rules.Requests.{has_command}
use Rattle.sip_round.specs.declared.config.Config.{Config}
use Rattle.sip_round.specs.declared.output.Output.TheVariants.{Notice}
use Rattle.sip_round.specs.declared.round.Round.{Round}
use Rattle.sip_round.specs.Laws.{inputs_of}
use Rattle.sip_conversation.specs.Answers.{RespondsTo}
use Rattle.sip_conversation.specs.Conversation.{Side, Turn, given_by, peer, rounds_of}
use Rattle.sip_agent_laws.specs.Transactions.Copies.{is_invite}
use Rattle.sip_conversation.specs.Delivery.{Delivers, IsUnderWay, RunInTime, RunsAfter, ShareAClock, longest_datagram}
use Rattle.sip_conversation.specs.Messages.{come_from}
use Rattle.sip_conversation.specs.Replies.{AreCounted}

-- ---- the answer

-- a request comes to a transaction
abbrev pub is_receipt : Option Input → Bool
is_receipt None = false
is_receipt (Some (Receive id message reply_to)) =
    is_request_message message && not (is_same_method message.cseq.method (codes "ACK"))
is_receipt (Some (Start id call_id message to)) = false
is_receipt (Some (Answer id message)) = false
is_receipt (Some (Failed id)) = false
is_receipt (Some Abandon) = false

-- a final response is given to it
abbrev pub is_final_given : Option Input → Bool
is_final_given None = false
is_final_given (Some (Receive id message reply_to)) = false
is_final_given (Some (Start id call_id message to)) = false
is_final_given (Some (Answer id message)) = is_final_answer (answer_of message.start)
is_final_given (Some (Failed id)) = false
is_final_given (Some Abandon) = false

-- In this round, after the earlier ones, the transaction with this key is given this final response
-- by its call, under this id. The request came before that, and this is the first final response.
pub record IsFinallyAnswered (config : Config) (earlier : List Round) (round : Round) (key : Key)
    (id : Id) (response : Message) : Type 0 where
  pub here : List (Timed Input)
  pub later : List (Timed Input)
  pub inputs_are : inputs_of config (earlier ++ round ∷ []) key
      ≡ (inputs_of config earlier key ++ here) ++ given_at round.moment (Answer id response) ∷ later
  pub came : list_any (λ timed. is_receipt timed.input) (inputs_of config earlier key ++ here)
      ≡ true
  pub first : list_any (λ timed. is_final_given timed.input) (inputs_of config earlier key ++ here)
      ≡ false
  pub final : is_final_answer (answer_of response.start) ≡ true

-- ---- what is told

-- in turns up to this moment, a side is told of this response, under this Call-ID and this id, with
-- its status, its tags and its body
pub record IsToldBy (configs : Side → Config) (turns : List Turn) (side : Side)
    (call_id : List ℕ) (id : Id) (response : Message) (moment : ℕ) : Type 0 where
  pub front : List Turn
  pub rest : List Turn
  pub are : turns ≡ front ++ rest
  pub in_time : AllByRecursion (λ turn. (turn.round).moment ≤ moment) front
  pub status : ℕ
  pub status_is : status_of response.start ≡ Some status
  pub told : Contains (given_by configs front side)
      (Notice (Response call_id id status (tag_of response.from) (tag_of response.to) response.body))

-- ---- the laws

-- How long it takes at most, in ms, until the response is told, if one of `more + 1` copies of a
-- datagram comes. The response goes out when it is given, and then as often again as repeats of the
-- request come. For each of these that takes so many repeats, T2 and a lag apart, and their delay.
-- The last response takes a delay too.
abbrev pub answer_time : ℕ → ℕ → ℕ → ℕ
answer_time lag more delay = more * (suc more * (T2 + lag) + delay) + delay

-- What is said of a request that a side has sent to the other one, with what it is for a response
-- to it to arrive, if that was given by a moment. The request is no INVITE, and none that has a
-- command of its own: no CANCEL and no PRACK. It isn't given up, and no send of it is reported to
-- have failed. The response arrives if it is given so early that there is time for the repeats
-- before timer F fires: the application that asked for the request is told of it, in time.
abbrev pub OfEachRequest : (Side → Config) → List Turn
    → (Side → Message → (ℕ → Message → Type 0) → Type 0) → Type 0
OfEachRequest configs turns Is = (lag more delay : ℕ) → ShareAClock turns
    → RunInTime configs lag turns → Delivers configs (suc more) delay turns
    → (side : Side) (branch method : List ℕ) (now : ℕ) (request : Message)
    → is_invite method ≡ false → has_command method ≡ false
    → (way : IsUnderWay (configs side) (configs (peer side)).local side turns
    (key.Client branch method) now request)
    → AreCounted (configs side) (rounds_of side turns)
    → Is side request (λ moment response.
    length (written response) ≤ longest_datagram
    → let last = moment + answer_time lag more delay in
    last < now + 64*T1 → RunsAfter side last turns
    → IsToldBy configs turns side way.call_id way.id response last)

-- The first final response that the transaction of the request is given, in a turn, arrives.
abbrev pub AnswersArrive : (Side → Config) → List Turn → Type 0
AnswersArrive configs turns = OfEachRequest configs turns (λ side request Arrives.
    (earlier later : List Turn) (round : Round)
    → turns ≡ earlier ++ record { side = peer side; round = round } ∷ later
    → (id : Id) (response : Message)
    → IsFinallyAnswered (configs (peer side)) (rounds_of (peer side) earlier) round
    (key_of_message (come_from (configs side).local request)) id response
    → Arrives round.moment response)

-- So does the final response that the application of the other side gives to the request as it came
-- up, in turns up to a moment: its command wasn't refused.
abbrev pub ApplicationsAnswersArrive : (Side → Config) → List Turn → Type 0
ApplicationsAnswersArrive configs turns = OfEachRequest configs turns (λ side request Arrives.
    (front rest : List Turn) → turns ≡ front ++ rest
    → (moment : ℕ) → AllByRecursion (λ turn. (turn.round).moment ≤ moment) front
    → (status : ℕ) (response : Message) → 200 ≤ status
    → RespondsTo (configs (peer side)) (rounds_of (peer side) front)
    (come_from (configs side).local request) status response
    → Arrives moment response)
