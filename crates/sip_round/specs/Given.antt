-- What a run gives for each transaction and each call.
use Rattle.std.specs.Prelude.{◌≡◌, ◌≢◌, ℕ, ◌≤◌, ◌&&◌, Bool, false, List, [], ◌∷◌, ◌++◌, AllPairs, Option, Some, None, drop, filter, filter_map, length}
use Rattle.std.specs.BTreeMap.{is_at}
use Rattle.std.specs.List.{AllByRecursion, flat_map}
use Rattle.sip_message.specs.declared.addr.Addr.{Addr}
use Rattle.sip_message.specs.declared.id.Id.{Id}
use Rattle.sip_message.specs.declared.key.Key.{Key}
use Rattle.sip_message.specs.declared.key.Key.TheVariants as key
use Rattle.sip_message.specs.declared.message.Message.{Message}
use Rattle.sip_message.specs.Key.{key_cmp}
use Rattle.sip_message.specs.Written.{written}
use Rattle.keyed_machine.specs.Machine.{LifeIn, Timed, given_at, outputs_from, said_after, said_in_rest, state_from, state_left}
use Rattle.sip_transactions.specs.declared.input.Input.TheVariants.{Start}
use Rattle.sip_transactions.specs.declared.output.Out.{Out}
use Rattle.sip_transactions.specs.declared.output.Out.TheVariants as out
use Rattle.sip_transactions.specs.Ids.{IdsRise}
use Rattle.sip_transactions.specs.Laws.{id_of}
use Rattle.sip_transactions.specs.Machine.{transaction_machine}
use Rattle.sip_held_dialogs.specs.declared.held_dialog.DialogReference.{DialogReference}
use Rattle.sip_user.specs.declared.item.CallOut.{CallOut}
use Rattle.sip_user.specs.declared.item.CallOut.TheVariants as call_out
use Rattle.sip_user.specs.declared.item.Item.TheVariants.{Up}
use Rattle.sip_user.specs.declared.notice.Notice.TheVariants as notice
use Rattle.sip_held_dialogs.specs.Ids.{is_id}
use Rattle.sip_calls.specs.Call.{call_machine, CallItem}
use Rattle.sip_calls.specs.CallShard.{call_cmp}
use Rattle.sip_calls.specs.OwnCall.{call_of_notice}
use Rattle.sip_calls.specs.Provisionals.{AnInvite, IsConsecutive, came, in_order, reported}
use Rattle.sip_round.specs.declared.config.Config.{Config}
use Rattle.sip_round.specs.declared.output.Output.{Output}
use Rattle.sip_round.specs.declared.output.Output.TheVariants as output
use Rattle.sip_round.specs.declared.round.Round.{Round}
use Rattle.sip_round.specs.Answers.{answers, calls_of}
use Rattle.sip_round.specs.Laws.{NothingAfterEnds, OneRequestInLives, call_inputs_of, inputs_of, said_of, said_of_call}

-- whether it is a Send with this key
abbrev pub is_send_with : Key → Output → Bool
is_send_with key (output.Send (Some sender) to bytes) = is_at (key_cmp key) sender
is_send_with key _ = false

-- all of them, in order
abbrev pub sends_with : Key → List Output → List Output
sends_with key outputs = filter (is_send_with key) outputs

-- what a transaction says to send, in the form in which it is given
abbrev pub send_in : Out → List Output
send_in (out.Send key to bytes) = output.Send (Some key) to bytes ∷ []
send_in _ = []

-- the outputs of all rounds, in order
abbrev pub all_given : List (List Output) → List Output
all_given rounds = flat_map (λ outputs. outputs) rounds

-- the Sends with a transaction's key, among all that the rounds give, are exactly what its own
-- history says to send, in order
abbrev pub GivesOwnSends : Config → List Round → List (List Output) → Type 0
GivesOwnSends config rounds given =
    (key : Key) → sends_with key (all_given given) ≡ flat_map send_in (said_of config rounds key)

-- in any rounds
abbrev pub AnswersGiveOwnSends : Type 0
AnswersGiveOwnSends =
    (config : Config) (rounds : List Round) → GivesOwnSends config rounds (answers config rounds)

-- ---- calls

-- whether it is a notice with this Call-ID
abbrev pub is_notice_of : List ℕ → Output → Bool
is_notice_of call_id (output.Notice notice) = is_at (call_cmp call_id) (call_of_notice notice)
is_notice_of call_id _ = false

-- all of them, in order
abbrev pub notices_of : List ℕ → List Output → List Output
notices_of call_id outputs = filter (is_notice_of call_id) outputs

-- what a call says to tell the user, in the form in which it is given
abbrev pub notice_in : CallOut → List Output
notice_in (call_out.Notice notice) = output.Notice notice ∷ []
notice_in _ = []

-- the notices with a Call-ID, among all that the rounds give, are exactly those that the call's own
-- history says, in order
abbrev pub GivesOwnNotices : Config → List Round → List (List Output) → Type 0
GivesOwnNotices config rounds given = (call_id : List ℕ)
    → notices_of call_id (all_given given) ≡ flat_map notice_in (said_of_call config rounds call_id)

-- in any rounds
abbrev pub AnswersGiveOwnNotices : Type 0
AnswersGiveOwnNotices =
    (config : Config) (rounds : List Round) → GivesOwnNotices config rounds (answers config rounds)

-- ---- requests

-- whether it is a notice `request` with this id
abbrev pub is_request_of : Id → Output → Bool
is_request_of id (output.Notice (notice.Request call_id own method local_tag remote_tag body)) =
    is_id id own
is_request_of id _ = false

-- all of them, in order
abbrev pub requests_of : Id → List Output → List Output
requests_of id outputs = filter (is_request_of id) outputs

-- each life of a server transaction hands its request up once, and at most one notice `request`
-- that the rounds give has a given id
pub record GivesRequestsOnce (config : Config) (rounds : List Round) (given : List (List Output))
    : Type 0 where
  pub handed_up : OneRequestInLives config rounds
  pub told : (id : Id) → length (requests_of id (all_given given)) ≤ 1

-- the id of a notice `request`
abbrev pub told_request : Output → Option Id
told_request (output.Notice (notice.Request call_id id method local_tag remote_tag body)) = Some id
told_request _ = None

-- the notices `request` that the rounds give come by rising ids: in the order of the events with
-- which the requests came, and at most one with each id
abbrev pub GivesRequestsById : List (List Output) → Type 0
GivesRequestsById given = IdsRise (filter_map told_request (all_given given))

-- ---- reliable provisional responses

-- What the rounds give for a call is what its inputs add, in order. Of the reliable provisional
-- responses to an INVITE that came with these in one life of a dialog, the user is told of those in
-- order, and so of each once.
pub record TellsProvisionals (config : Config) (rounds : List Round) (given : List (List Output))
    (call_id : List ℕ) (invite : AnInvite) (life : DialogReference) : Type 0 where
  pub told : notices_of call_id (all_given given) ≡ flat_map notice_in
      (outputs_from (call_machine (calls_of config)) call_id None
      (call_inputs_of config rounds call_id))
  pub in_its_order : reported (calls_of config) invite life (call_inputs_of config rounds call_id)
      ≡ in_order (came (calls_of config) invite life (call_inputs_of config rounds call_id))
  pub consecutive : IsConsecutive
      (reported (calls_of config) invite life (call_inputs_of config rounds call_id))
  pub once : AllPairs (λ x y. x ≢ y)
      (reported (calls_of config) invite life (call_inputs_of config rounds call_id))

-- for each INVITE, in each life of a dialog
abbrev pub GivesProvisionalsInOrder : Config → List Round → List (List Output) → Type 0
GivesProvisionalsInOrder config rounds given =
    (call_id : List ℕ) (invite : AnInvite) (life : DialogReference)
    → TellsProvisionals config rounds given call_id invite life

-- ---- requests that go out

-- A life of a client transaction begins with a request that is started. The Sends with its key are
-- those of the time before the life, then one with that request as it is written, to the address
-- with which it is started, and then the rest.
pub record SendsItsRequest (config : Config) (rounds : List Round) (given : List (List Output))
    (key : Key) (life : LifeIn transaction_machine key (inputs_of config rounds key))
    : Type 0 where
  pub now : ℕ
  pub id : Id
  pub call_id : List ℕ
  pub request : Message
  pub to : Addr
  pub begins : life.first ≡ given_at now (Start id call_id request to)
  pub sends : sends_with key (all_given given)
      ≡ flat_map send_in (outputs_from transaction_machine key None life.before)
      ++ (output.Send (Some key) to (written request)
      ∷ flat_map send_in (said_in_rest life ++ said_after life))

-- for each life of each client transaction
abbrev pub GivesStartedRequests : Config → List Round → List (List Output) → Type 0
GivesStartedRequests config rounds given = (branch method : List ℕ)
    → (life : LifeIn transaction_machine (key.Client branch method)
    (inputs_of config rounds (key.Client branch method)))
    → SendsItsRequest config rounds given (key.Client branch method) life

-- ---- after the end of a transaction

-- a life of this transaction, with this id, has ended in these rounds
pub record HasEnded (key : Key) (id : Id) (config : Config) (rounds : List Round) : Type 0 where
  pub life : LifeIn transaction_machine key (inputs_of config rounds key)
  pub over : state_left life ≡ None
  pub named : id_of life.first.input ≡ Some id

-- an item of a call comes from that transaction, under that id
abbrev pub comes_from : Key → Id → Option CallItem → Bool
comes_from key id (Some (event, Up up)) = is_at (key_cmp key) up.key && is_id id up.id
comes_from key id _ = false

-- what later rounds give for a call is what some of its inputs add, and none of these comes from
-- that transaction under that id
pub record NoneComesFrom (key : Key) (id : Id) (config : Config) (earlier later : List Round)
    (given : List (List Output)) (call_id : List ℕ) : Type 0 where
  pub inputs : List (Timed CallItem)
  pub are : call_inputs_of config (earlier ++ later) call_id
      ≡ call_inputs_of config earlier call_id ++ inputs
  pub none : AllByRecursion (λ timed. comes_from key id timed.input ≡ false) inputs
  pub told : notices_of call_id (all_given (drop (length earlier) given)) ≡ flat_map notice_in
      (outputs_from (call_machine (calls_of config)) call_id
      (state_from (call_machine (calls_of config)) call_id None
      (call_inputs_of config earlier call_id)) inputs)

-- a transaction hands nothing up under the id of one of its lives that has ended; in later rounds
-- nothing comes from it under that id to any call
pub record GivesNothingAfterEnds (config : Config) (rounds : List Round)
    (given : List (List Output)) : Type 0 where
  pub handed_up : NothingAfterEnds config rounds
  pub told : (earlier later : List Round) → rounds ≡ earlier ++ later
      → (key : Key) (id : Id) → HasEnded key id config earlier → (call_id : List ℕ)
      → NoneComesFrom key id config earlier later given call_id
