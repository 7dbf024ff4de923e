-- That a request arrives: over a network that delivers one of several copies of a datagram, between
-- agents that run in time.
use Rattle.std.specs.Prelude.{◌≡◌, ℕ, suc, ◌+◌, ◌≤◌, ◌<◌, ◌⊎◌, Bool, true, false, ◌&&◌, ◌||◌, ◌==◌, List, [], ◌∷◌, ◌++◌, Contains, Option, None, Some, codes, count_by, drop, length}
use Rattle.std.specs.List.{AllByRecursion, list_any}
use Rattle.std.specs.Str.{bytes_eq}
use Rattle.sip_message.specs.declared.addr.Addr.{Addr}
use Rattle.sip_message.specs.declared.id.Id.{Id}
use Rattle.sip_message.specs.declared.key.Key.{Key}
use Rattle.sip_message.specs.declared.key.Key.TheVariants as key
use Rattle.sip_message.specs.declared.message.Message.{Message}
use Rattle.sip_message.specs.declared.start_line.StartLine.TheVariants.{Response}
use Rattle.sip_message.specs.Party.{tag_of}
use Rattle.sip_message.specs.Written.{written}
use Rattle.sip_timers.specs.declared.estimate.TheConstants.{LIFETIME as 64*T1}
use Rattle.keyed_machine.specs.Machine.{Timed, given_at}
use Rattle.sip_transactions.specs.declared.input.Command.TheVariants as order
use Rattle.sip_transactions.specs.declared.input.Input.{Input}
use Rattle.sip_transactions.specs.declared.input.Input.TheVariants.{Receive, Start, Answer, Failed, Abandon}
use Rattle.sip_transactions.specs.declared.output.Up.{Up}
use Rattle.sip_transactions.specs.Machine.{transaction_machine}
use Rattle.sip_user.specs.declared.item.CallOut.TheVariants.{Command}
use Rattle.sip_user.specs.declared.item.Item.TheVariants as item
use Rattle.sip_user.specs.declared.notice.Notice.TheVariants as notice
use Rattle.sip_held_dialogs.specs.Dialogs.{dialog_at}
use Rattle.sip_held_dialogs.specs.Requests.{dialog_id_of_tags, has_to_tag, is_bye, is_prack}
use Rattle.sip_calls.specs.Call.{CallItem}
use Rattle.sip_calls.specs.Histories.{call_from}
use Rattle.sip_calls.specs.Provisionals.{side_held}
use Rattle.sip_round.specs.declared.config.Config.{Config}
use Rattle.sip_round.specs.declared.output.Output.{Output}
use Rattle.sip_round.specs.declared.output.Output.TheVariants as output
use Rattle.sip_round.specs.declared.round.Event.TheVariants.{Datagram}
use Rattle.sip_round.specs.declared.round.Round.{Round}
use Rattle.sip_round.specs.Answers.{answers, calls_of}
use Rattle.sip_round.specs.Given.{all_given}
use Rattle.sip_round.specs.Laws.{call_inputs_of, inputs_of}
use Rattle.sip_conversation.specs.Answers.{IsHandedUp}
use Rattle.sip_conversation.specs.Conversation.{Side, Turn, peer, rounds_of}
use Rattle.sip_agent_laws.specs.Transactions.Copies.{TicksInTime, is_address, latest_repeat, pace_of}
use Rattle.sip_conversation.specs.Messages.{CallSays, come_from}
use Rattle.sip_conversation.specs.Replies.{AreCounted}

-- ---- the premises

-- the longest datagram that UDP carries over IPv4, in bytes
abbrev pub longest_datagram : ℕ
longest_datagram = 65507

-- the moments of these turns are of one clock, and it doesn't go back
abbrev pub ShareAClock : List Turn → Type 0
ShareAClock [] = Unit {0}
ShareAClock (turn ∷ turns) =
    AllByRecursion (λ later. (turn.round).moment ≤ (later.round).moment) turns
    × ShareAClock turns

-- a datagram with these bytes goes out to this address
abbrev pub is_sent : Addr → List ℕ → Output → Bool
is_sent to bytes (output.Send key at sent) = is_address at to && bytes_eq sent bytes
is_sent to bytes (output.Dropped place why) = false
is_sent to bytes (output.Notice notice) = false

-- a turn comes more than `delay` ms after all of these
abbrev pub GoesOn : ℕ → List Turn → List Turn → Type 0
GoesOn delay turns later = (turn : Turn) × Contains later turn
    × AllByRecursion (λ earlier. (earlier.round).moment + delay < (turn.round).moment) turns

module _ (configs : Side → Config) where
  -- Each side runs its next round at most `lag` ms after a timer of a transaction is due: each
  -- round gives each transaction a tick.
  abbrev pub RunInTime : ℕ → List Turn → Type 0
  RunInTime lag turns = (side : Side) (key : Key)
      → TicksInTime transaction_machine lag key None
      (inputs_of (configs side) (rounds_of side turns) key)

  -- how many datagrams with these bytes a side sends to the other one in turns, which come after
  -- those before
  abbrev pub copies_sent : List Turn → List Turn → Side → List ℕ → ℕ
  copies_sent before turns side bytes = count_by (is_sent (configs (peer side)).local bytes)
      (all_given (drop (length (rounds_of side before))
      (answers (configs side) (rounds_of side (before ++ turns)))))

  -- a side sends such a datagram in one of these turns, which come after those before, and one
  -- comes to the other side later, at most `delay` ms after that turn
  pub record OneIsDelivered (delay : ℕ) (before turns later : List Turn) (side : Side)
      (bytes : List ℕ) : Type 0 where
    pub front : List Turn
    pub turn : Turn
    pub rest : List Turn
    pub are : turns ≡ front ++ turn ∷ rest
    pub sent : 1 ≤ copies_sent (before ++ front) (turn ∷ []) side bytes
    pub at : Turn
    pub among : Contains (rest ++ later) at
    pub to : at.side ≡ peer side
    pub soon : (at.round).moment ≤ (turn.round).moment + delay
    pub comes : Contains (at.round).events (Datagram (configs side).local bytes)

  -- Of any `tries` copies of a datagram that a side sends to the other one, one after another, one
  -- at least is delivered within `delay` ms, if the turns go on for so long. All else may be lost,
  -- duplicated, late, or out of order.
  abbrev pub Delivers : ℕ → ℕ → List Turn → Type 0
  Delivers tries delay turns = (before during after : List Turn)
      → turns ≡ before ++ (during ++ after) → (side : Side) (bytes : List ℕ)
      → length bytes ≤ longest_datagram → tries ≤ copies_sent before during side bytes
      → GoesOn delay during after
      → OneIsDelivered delay before during after side bytes

-- ---- the law

-- the user gives a request up, or it couldn't be sent
abbrev pub is_lost : Option Input → Bool
is_lost None = false
is_lost (Some (Receive id message reply_to)) = false
is_lost (Some (Start id call_id message to)) = false
is_lost (Some (Answer id message)) = false
is_lost (Some (Failed id)) = true
is_lost (Some Abandon) = true

-- At this moment a transaction of a side was started with this request to this address, with a text
-- that UDP carries. In these turns the user doesn't give it up, and no send of it is
-- reported to have failed.
pub record IsUnderWay (config : Config) (to : Addr) (side : Side) (turns : List Turn) (key : Key)
    (now : ℕ) (request : Message) : Type 0 where
  pub id : Id
  pub call_id : List ℕ
  pub started : Contains (inputs_of config (rounds_of side turns) key)
      (given_at now (Start id call_id request to))
  pub kept : list_any (λ timed. is_lost timed.input) (inputs_of config (rounds_of side turns) key)
      ≡ false
  pub short : length (written request) ≤ longest_datagram

-- the final responses that an agent gives by itself: 420 to an unknown option (RFC 3261, section
-- 8.2.2.3), 481 without the dialog, or 500 in it (12.2.2), 482 (8.2.2.2), and a PRACK's (RFC 3262,
-- section 3)
abbrev pub is_own_status : Message → ℕ → Bool
is_own_status request status =
    (status == 420) || (status == 481) || (status == 482) || (status == 500)
    || ((status == 200) && is_prack request)

module _ (config : Config) (rounds : List Round) (request : Message) (id : Id) where
  -- in these rounds the user is told of the request, under this id; and of the end of a dialog of
  -- its call, if it is a BYE (RFC 3261, section 15.1.2)
  pub record IsTold : Type 0 where
    pub tag : List ℕ
    pub told : Contains (all_given (answers config rounds))
        (output.Notice (notice.Request request.call_id id request.cseq.method tag
        (tag_of request.from) request.body))
    pub ends : is_bye request ≡ true → (local_tag : List ℕ) × (remote_tag : List ℕ)
        × Contains (all_given (answers config rounds))
        (output.Notice (notice.Ended request.call_id local_tag remote_tag))

  -- when the request comes up under this id, its call doesn't hold the dialog of its tags
  pub record HoldsNoDialog : Type 0 where
    pub before : List (Timed CallItem)
    pub now : ℕ
    pub event : Id
    pub up : Up
    pub after : List (Timed CallItem)
    pub inputs_are : call_inputs_of config rounds request.call_id
        ≡ before ++ given_at now (event, item.Up up) ∷ after
    pub names : up.id ≡ id
    pub none : dialog_at (dialog_id_of_tags (tag_of request.to) (tag_of request.from))
        (side_held (call_from (calls_of config) None before)).dialogs ≡ None

  -- Or the agent gives the final response itself, without a body, in the transaction with this key.
  -- It gives 481 to a request in a dialog, such as a BYE, but no PRACK, only if it doesn't hold
  -- that dialog (sections 12.2.2 and 15.1.2).
  pub record IsAnsweredThere (key : Key) : Type 0 where
    pub status : ℕ
    pub reason : List ℕ
    pub response : Message
    pub sent : CallSays config rounds (Command id (order.Answer key response))
    pub starts : response.start ≡ Response status reason
    pub empty : response.body ≡ []
    pub own : is_own_status request status ≡ true
    pub gone : status ≡ 481 → has_to_tag request ≡ true → is_prack request ≡ false → HoldsNoDialog

-- In turns up to this moment the request came up to the call of its Call-ID at the other side, as
-- it was sent, except for the stamp; and the user there was told, or the agent answered it by
-- itself.
pub record ArrivesBy (configs : Side → Config) (turns : List Turn) (side : Side)
    (request : Message) (moment : ℕ) : Type 0 where
  pub front : List Turn
  pub rest : List Turn
  pub are : turns ≡ front ++ rest
  pub in_time : AllByRecursion (λ turn. (turn.round).moment ≤ moment) front
  pub up : Up
  pub comes : IsHandedUp (configs (peer side)) (rounds_of (peer side) front)
      (come_from (configs side).local request) up
  pub told : IsTold (configs (peer side)) (rounds_of (peer side) front)
      (come_from (configs side).local request) up.id
      ⊎ IsAnsweredThere (configs (peer side)) (rounds_of (peer side) front)
      (come_from (configs side).local request) up.id up.key

-- a side runs a round after this moment
abbrev pub RunsAfter : Side → ℕ → List Turn → Type 0
RunsAfter side moment turns =
    (round : Round) × Contains (rounds_of side turns) round × (moment < round.moment)

-- A request other than CANCEL arrives by the latest moment of its last try and the delay of the
-- network, if these are before timer B or F fires, and if its side runs a round after that. The
-- tries are the request and its repeats.
abbrev pub RequestsArrive : (Side → Config) → List Turn → Type 0
RequestsArrive configs turns = (lag repeats delay : ℕ) → ShareAClock turns
    → RunInTime configs lag turns → Delivers configs (suc repeats) delay turns
    → (side : Side) (branch method : List ℕ) (now : ℕ) (request : Message)
    → (method ≡ codes "CANCEL" → ⊥)
    → IsUnderWay (configs side) (configs (peer side)).local side turns (key.Client branch method)
    now
    request
    → AreCounted (configs side) (rounds_of side turns)
    → let last = latest_repeat (pace_of method) lag repeats + delay in
    last < 64*T1 → RunsAfter side (now + last) turns
    → ArrivesBy configs turns side request (now + last)
