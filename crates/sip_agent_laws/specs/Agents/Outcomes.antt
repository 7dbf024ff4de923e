-- How a request that an agent sends ends: its application is told of one outcome (RFC 3261,
-- sections 8.1.3.1 and 17.1.2.2). T1 is that of section 17.1.1.1.
use Rattle.std.specs.Prelude.{◌≡◌, ◌≤◌, ℕ, ◌+◌, ◌*◌, Bool, true, false, ◌&&◌, List, [], ◌∷◌, ◌++◌, Contains, None, Some, count_by}
use Rattle.std.specs.List.{list_any}
use Rattle.sip_message.specs.Key.{method_in}
use Rattle.sip_message.specs.Party.{tag_of}
use Rattle.sip_message.specs.declared.addr.Addr.{Addr}
use Rattle.sip_message.specs.declared.id.Id.{Id}
use Rattle.sip_message.specs.declared.key.Key.{Key}
use Rattle.sip_timers.specs.declared.estimate.TheConstants.{T1}
use Rattle.keyed_machine.specs.Machine.{Timed}
use Rattle.sip_transactions.specs.declared.input.Input.{Input}
use Rattle.sip_transactions.specs.declared.input.Input.TheVariants as input
use Rattle.sip_transactions.specs.declared.life.Life.{Life}
use Rattle.sip_transactions.specs.declared.output.UpKind.{UpKind}
use Rattle.sip_transactions.specs.declared.output.UpKind.TheVariants as kind
use Rattle.sip_transactions.specs.declared.state.Role.TheVariants as role
use Rattle.sip_transactions.specs.Steps.Input.{is_abandon, role_of}
use Rattle.sip_user.specs.declared.notice.Notice.{Notice}
use Rattle.sip_user.specs.declared.notice.Notice.TheVariants.{Response, Timeout, Failed}
use Rattle.sip_held_dialogs.specs.Ids.{is_id}
use Rattle.sip_held_dialogs.specs.Requests.{is_final}
use Rattle.sip_clients.specs.Rules.Requests.{has_command}
use Rattle.sip_clients.specs.Rules.Responses.{status_of}
use Rattle.sip_round.specs.declared.config.Config.{Config}
use Rattle.sip_round.specs.declared.output.Output.{Output}
use Rattle.sip_round.specs.declared.output.Output.TheVariants as output
use Rattle.sip_round.specs.declared.round.Round.{Round}
use Rattle.sip_round.specs.Answers.{answers}
use Rattle.sip_round.specs.Given.{all_given}
use Rattle.sip_round.specs.Laws.{inputs_of}
use Rattle.sip_agent_laws.specs.Agents.AtRest.{reaches}
use Rattle.sip_agent_laws.specs.Agents.Open.{is_open, life_after}
use Rattle.sip_agent_laws.specs.Transactions.Outcomes.{is_outcome}

-- ---- outcomes

-- A notice tells how the request of this id ended: by a final response, or none came in time, or it
-- could not be sent.
abbrev pub is_outcome_of : Id → Notice → Bool
is_outcome_of id (Response call_id request status local_tag remote_tag body) =
    is_id id request && is_final status
is_outcome_of id (Timeout call_id request) = is_id id request
is_outcome_of id (Failed call_id request) = is_id id request
is_outcome_of id _ = false

abbrev pub tells_outcome : Id → Output → Bool
tells_outcome id (output.Notice notice) = is_outcome_of id notice
tells_outcome id _ = false

-- how often these rounds tell of an outcome of this request
abbrev pub outcomes_told : Config → List Round → Id → ℕ
outcomes_told config rounds id = count_by (tells_outcome id) (all_given (answers config rounds))

-- ---- a request

-- In a round, after others, a request is sent for a command of the application: by a transaction
-- that begins then, under the id of the command. It is no INVITE, and none of the requests that
-- have commands of their own: no CANCEL and no PRACK.
pub record Sends (config : Config) (earlier : List Round) (round : Round) (key : Key) (id : Id)
    : Type 0 where
  pub life : Life
  pub none_before : life_after config earlier key ≡ None
  pub begins : life_after config (earlier ++ round ∷ []) key ≡ Some life
  pub id_is : life.context.id ≡ id
  pub other : role_of key ≡ role.Client
  pub commanded : has_command (method_in key) ≡ false

-- its transaction is told to give up, as it is for the command `abandon` of the request
abbrev pub is_given_up : Config → List Round → Key → Bool
is_given_up config rounds key =
    list_any (λ timed. is_abandon timed.input) (inputs_of config rounds key)

-- ---- the laws

-- the application is told of at most one outcome of a request
abbrev pub AtMostOneIsTold : Type 0
AtMostOneIsTold = (config : Config) (earlier later : List Round) (round : Round) (key : Key)
    (id : Id) → Sends config earlier round key id
    → outcomes_told config (earlier ++ round ∷ later) id ≤ 1

-- It is told of one once a round has run 64*T1 after the request was sent, or later, unless the
-- request is given up.
abbrev pub EachRequestHasOneOutcome : Type 0
EachRequestHasOneOutcome = (config : Config) (earlier later : List Round) (round : Round)
    (key : Key) (id : Id) → Sends config earlier round key id
    → is_given_up config (earlier ++ round ∷ later) key ≡ false
    → reaches (round.moment + 64 * T1) later
    → outcomes_told config (earlier ++ round ∷ later) id ≡ 1

-- ---- which outcome is told

-- What brings the outcome about, of a request whose timer F fires at this moment: a final response
-- that came, a tick then or later, or the report of a failed send.
abbrev pub Causes : ℕ → Timed Input → UpKind → Type 0
Causes end cause (kind.Request request reply_to) = ⊥
Causes end cause (kind.Ack ack) = ⊥
Causes end cause (kind.Response response) =
    (event : Id) × (reply_to : Addr) × (cause.input ≡ Some (input.Receive event response reply_to))
Causes end cause kind.Timeout = (cause.input ≡ None) × (end ≤ cause.moment)
Causes end cause kind.Failed = (event : Id) × (cause.input ≡ Some (input.Failed event))

-- a notice tells of it, under this Call-ID and this id: of a response with its status, tags and body
abbrev pub Tells : List ℕ → Id → UpKind → Notice → Type 0
Tells call_id id (kind.Request request reply_to) notice = ⊥
Tells call_id id (kind.Ack ack) notice = ⊥
Tells call_id id (kind.Response response) notice = (status : ℕ)
    × (status_of response.start ≡ Some status)
    × (notice ≡ Response call_id id status (tag_of response.from) (tag_of response.to)
    response.body)
Tells call_id id kind.Timeout notice = notice ≡ Timeout call_id id
Tells call_id id kind.Failed notice = notice ≡ Failed call_id id

-- after these rounds a request of the agent waits for its final response, until timer F fires at
-- this moment; it has no command of its own
pub record Waits (config : Config) (rounds : List Round) (key : Key) (end : ℕ) : Type 0 where
  pub life : Life
  pub held : life_after config rounds key ≡ Some life
  pub still : is_open (role_of key) life.state ≡ true
  pub ends : life.context.timers.ending ≡ Some end
  pub other : role_of key ≡ role.Client
  pub commanded : has_command (method_in key) ≡ false

-- the application was told, in these rounds, of an outcome that an input of the transaction brought
-- about
pub record IsToldOfOutcome (config : Config) (rounds : List Round) (key : Key) (end : ℕ)
    (call_id : List ℕ) (id : Id) : Type 0 where
  pub outcome : UpKind
  pub final : is_outcome outcome ≡ true
  pub cause : Timed Input
  pub came : Contains (inputs_of config rounds key) cause
  pub causes : Causes end cause outcome
  pub notice : Notice
  pub tells : Tells call_id id outcome notice
  pub told : Contains (all_given (answers config rounds)) (output.Notice notice)

-- Once such a request doesn't wait any longer, the application was told of its outcome, unless the
-- request is given up.
abbrev pub OutcomeIsTold : Type 0
OutcomeIsTold = (config : Config) (earlier later : List Round) (key : Key) (end : ℕ)
    → (waits : Waits config earlier key end)
    → is_given_up config (earlier ++ later) key ≡ false
    → ((life : Life) → life_after config (earlier ++ later) key ≡ Some life
    → is_open (role_of key) life.state ≡ true → ⊥)
    → IsToldOfOutcome config (earlier ++ later) key end waits.life.context.call_id
    waits.life.context.id
