-- A request that a user asks for is refused, or goes out at once; if it is a BYE, he is told of the
-- end of a dialog of its call (RFC 3261, section 15.1.1).
use Rattle.std.specs.Prelude.{◌≡◌, ◌⊎◌, ◌+◌, ◌<◌, ◌≤◌, ℕ, suc, false, List, Contains, Some, codes, length, zip}
use Rattle.std.specs.List.{list_any}
use Rattle.sip_message.specs.declared.addr.Addr.{Addr}
use Rattle.sip_message.specs.declared.id.Id.{Id}
use Rattle.sip_message.specs.declared.key.Key.{Key}
use Rattle.sip_message.specs.declared.message.Message.{Message}
use Rattle.sip_message.specs.Written.{written}
use Rattle.sip_timers.specs.declared.estimate.TheConstants.{LIFETIME as 64*T1}
use Rattle.keyed_machine.specs.Machine.{given_at}
use Rattle.sip_transactions.specs.declared.input.Input.TheVariants.{Start}
use Rattle.sip_user.specs.Command.{call_of_command}
use Rattle.sip_user.specs.declared.command.UserCommand.{UserCommand}
use Rattle.sip_user.specs.declared.item.Item.TheVariants.{User}
use Rattle.sip_user.specs.declared.notice.Notice.TheVariants as notice
use Rattle.sip_user.specs.declared.refusal.Refusal.{Refusal}
use Rattle.sip_round.specs.declared.config.Config.{Config}
use Rattle.sip_round.specs.declared.output.Output.{Output}
use Rattle.sip_round.specs.declared.output.Output.TheVariants.{Notice}
use Rattle.sip_round.specs.declared.round.Event.TheVariants.{Command}
use Rattle.sip_round.specs.declared.round.Round.{Round}
use Rattle.sip_round.specs.Answers.{answers}
use Rattle.sip_round.specs.Laws.{call_inputs_of, inputs_of}
use Rattle.sip_conversation.specs.Conversation.{Side, Turn, peer, rounds_of}
use Rattle.sip_agent_laws.specs.Transactions.Copies.{latest_repeat, pace_of}
use Rattle.sip_conversation.specs.Delivery.{ArrivesBy, Delivers, RunInTime, RunsAfter, ShareAClock, is_lost, longest_datagram}
use Rattle.sip_conversation.specs.Replies.{AreCounted}
use Rattle.sip_conversation.specs.Requests.{request_asked_by}

-- among what is given in its round, the user is told that his command, this event, was refused
pub record IsRefused (call_id : List ℕ) (event : Id) (given : List Output) : Type 0 where
  pub why : Refusal
  pub told : Contains given (Notice (notice.Refused call_id event.place why))

module _ (config : Config) (rounds : List Round) (call_id : List ℕ) (event : Id)
    (given : List Output) where
  -- at this moment a transaction is started with a request of this method and body, under the id of
  -- the event; if it is a BYE, the user is told of the end of a dialog of the call, in its round
  pub record GoesOut (moment : ℕ) (method body : List ℕ) : Type 0 where
    pub request : Message
    pub method_is : request.cseq.method ≡ method
    pub body_is : request.body ≡ body
    pub key : Key
    pub to : Addr
    pub started : Contains (inputs_of config rounds key)
        (given_at moment (Start event call_id request to))
    pub ends : method ≡ codes "BYE" → (local_tag : List ℕ) × (remote_tag : List ℕ)
        × Contains given (Notice (notice.Ended call_id local_tag remote_tag))

-- a command of this round for a request is an input of its call, and is refused, or goes out
pub record IsTaken (config : Config) (rounds : List Round) (round : Round) (command : UserCommand)
    (method body : List ℕ) : Type 0 where
  pub event : Id
  pub gave : Contains (call_inputs_of config rounds (call_of_command command))
      (given_at round.moment (event, User command))
  pub given : List Output
  pub answer : Contains (zip rounds (answers config rounds)) (round, given)
  pub done : IsRefused (call_of_command command) event given
      ⊎ GoesOut config rounds (call_of_command command) event given round.moment method body

-- so is each such command, in any rounds
abbrev pub RequestsGoOut : Config → Type 0
RequestsGoOut config = (rounds : List Round) (round : Round) → Contains rounds round
    → (command : UserCommand) → Contains round.events (Command command)
    → (method body : List ℕ) → request_asked_by command ≡ Some (method, body)
    → IsTaken config rounds round command method body

-- ---- over a network that delivers

-- A user's command for a request, other than CANCEL, is refused, or the request goes out. If it
-- goes to the other side, isn't given up or reported unsent, and UDP carries it, it arrives as
-- `RequestsArrive` says.
abbrev pub AskedArrive : (Side → Config) → List Turn → Type 0
AskedArrive configs turns = (lag repeats delay : ℕ) → ShareAClock turns
    → RunInTime configs lag turns → Delivers configs (suc repeats) delay turns
    → (side : Side) → AreCounted (configs side) (rounds_of side turns)
    → (round : Round) → Contains (rounds_of side turns) round
    → (command : UserCommand) → Contains round.events (Command command)
    → (method body : List ℕ) → request_asked_by command ≡ Some (method, body)
    → (method ≡ codes "CANCEL" → ⊥)
    → let last = latest_repeat (pace_of method) lag repeats + delay in
    last < 64*T1 → RunsAfter side (round.moment + last) turns
    → let of = call_of_command command in
    let rounds = rounds_of side turns in
    (taken : IsTaken (configs side) rounds round command method body)
    × ((goes : GoesOut (configs side) rounds of taken.event taken.given round.moment method body)
    → goes.to ≡ (configs (peer side)).local → length (written goes.request) ≤ longest_datagram
    → list_any (λ timed. is_lost timed.input) (inputs_of (configs side) rounds goes.key) ≡ false
    → ArrivesBy configs turns side goes.request (round.moment + last))
