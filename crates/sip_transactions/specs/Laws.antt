-- What is true of every transaction, for any list of its inputs.
use Rattle.std.specs.Prelude.{◌≡◌, ℕ, ◌+◌, ◌≤◌, Bool, true, false, codes, if◌then◌else◌, List, ◌++◌, Option, None, Some, count_by, filter_map}
use Rattle.std.specs.List.{AllByRecursion, list_any, IsDistinct}
use Rattle.std.specs.Str.{bytes_eq}
use Rattle.sip_message.specs.declared.id.Id.{Id}
use Rattle.sip_message.specs.declared.key.Key.{Key}
use Rattle.sip_message.specs.declared.key.Key.TheVariants as key
use Rattle.sip_message.specs.declared.start_line.StartLine.{StartLine}
use Rattle.sip_message.specs.declared.start_line.StartLine.TheVariants as start
use Rattle.sip_message.specs.declared.addr.Addr.{Addr}
use Rattle.sip_message.specs.declared.message.Message.{Message}
use Rattle.sip_message.specs.Message.{is_request_message}
use Rattle.sip_message.specs.Written.{written}
use Rattle.keyed_machine.specs.Machine.{LifeIn, Machine, Timed, adds, given_at, outputs_from, said_after, said_at_first, said_in_rest, state_left}
use Rattle.sip_transactions.specs.declared.input.Command.{Command}
use Rattle.sip_transactions.specs.declared.input.Input.{Input}
use Rattle.sip_transactions.specs.declared.input.Input.TheVariants.{Receive, Start, Answer, Failed, Abandon}
use Rattle.sip_transactions.specs.declared.life.Life.{Life}
use Rattle.sip_transactions.specs.declared.output.UpKind.{UpKind}
use Rattle.sip_transactions.specs.declared.output.UpKind.TheVariants as kind
use Rattle.sip_transactions.specs.declared.output.Out.{Out}
use Rattle.sip_transactions.specs.declared.output.Out.TheVariants as out
use Rattle.sip_transactions.specs.declared.state.Role.{Role}
use Rattle.sip_transactions.specs.declared.state.Role.TheVariants.{InviteClient, Client, InviteServer, Server}
use Rattle.sip_transactions.specs.declared.state.State.{State}
use Rattle.sip_transactions.specs.declared.trigger.Trigger.{Trigger}
use Rattle.sip_transactions.specs.Ids.{IdsRise, is_id}
use Rattle.sip_transactions.specs.Steps.Input.{role_of}
use Rattle.sip_transactions.specs.Rows.{fits, rows_of}
use Rattle.sip_transactions.specs.Shard.{order}

-- in each table at most one row fits a state and a trigger
abbrev pub AtMostOneRow : Type 0
AtMostOneRow = (role : Role) (state : Option State) (trigger : Trigger)
    → count_by (λ row. fits row state trigger) (rows_of role) ≤ 1

-- neither handed up nor dropped
abbrev pub IsSend : Out → Type 0
IsSend (out.Send key to bytes) = Unit {0}
IsSend (out.Up up) = ⊥
IsSend (out.Dropped place reason) = ⊥

-- a command hands nothing up and drops nothing
abbrev pub CommandsOnlySend : Machine Key Life (Timed Input) Out → Type 0
CommandsOnlySend machine = (key : Key) (held : Option Life) (id : Id) (command : Command) (now : ℕ)
    → AllByRecursion IsSend (adds machine key held (order id command now))

-- a server transaction
abbrev pub IsServer : Key → Type 0
IsServer (key.Client branch method) = ⊥
IsServer (key.Server branch sent_by method) = Unit {0}

-- a request that is handed up, other than an ACK
abbrev pub is_request_kind : UpKind → Bool
is_request_kind (kind.Request message reply_to) = true
is_request_kind other = false

-- a request is handed up
abbrev pub is_request_up : Out → Bool
is_request_up (out.Up up) = is_request_kind up.kind
is_request_up other = false

-- how many requests are handed up
abbrev pub requests_in : List Out → ℕ
requests_in outs = count_by is_request_up outs

-- a life of a server key hands its request up once, by its first input
abbrev pub OneRequestUp : Machine Key Life (Timed Input) Out → Type 0
OneRequestUp machine = (key : Key) → IsServer key
    → (inputs : List (Timed Input)) (life : LifeIn machine key inputs)
    → (requests_in (said_at_first life) ≡ 1) × (requests_in (said_in_rest life) ≡ 0)

-- the id of an input, if it has one
abbrev pub id_of : Option Input → Option Id
id_of None = None
id_of (Some (Receive id message reply_to)) = Some id
id_of (Some (Start id call_id message to)) = Some id
id_of (Some (Answer id message)) = Some id
id_of (Some (Failed id)) = Some id
id_of (Some Abandon) = None

-- the id of a request that came, also of an ACK
abbrev pub arrival_id : StartLine → Id → Option Id
arrival_id (start.Request uri) id = Some id
arrival_id (start.Response status reason) id = None

-- the id of a request that came, or of a start; an answer names nothing
abbrev pub naming_id : Option Input → Option Id
naming_id None = None
naming_id (Some (Receive id message reply_to)) = arrival_id message.start id
naming_id (Some (Start id call_id message to)) = Some id
naming_id (Some (Answer id message)) = None
naming_id (Some (Failed id)) = None
naming_id (Some Abandon) = None

-- the ids of the requests that came and of the starts, in order
abbrev pub names_in : List (Timed Input) → List Id
names_in inputs = filter_map (λ timed. naming_id timed.input) inputs

-- the id of a request that is handed up
abbrev pub request_id : Out → Option Id
request_id (out.Up up) = if is_request_kind up.kind then Some up.id else None
request_id (out.Send key to bytes) = None
request_id (out.Dropped place reason) = None

-- the ids of all requests that are handed up, in order
abbrev pub request_ids : List Out → List Id
request_ids outs = filter_map request_id outs

-- if ids rise, requests come up in the order of their ids, at most one for each id
abbrev pub RequestsComeUpById : Machine Key Life (Timed Input) Out → Type 0
RequestsComeUpById machine = (key : Key) (inputs : List (Timed Input)) → IdsRise (names_in inputs)
    → IdsRise (request_ids (outputs_from machine key None inputs))

-- something handed up under this id
abbrev pub carries : Id → Out → Bool
carries id (out.Up up) = is_id id up.id
carries id other = false

-- if ids differ, nothing is handed up under a life's id after the life has ended
abbrev pub NothingAfterTheEnd : Machine Key Life (Timed Input) Out → Type 0
NothingAfterTheEnd machine = (key : Key) (inputs : List (Timed Input))
    (life : LifeIn machine key inputs) (id : Id)
    → state_left life ≡ None → id_of life.first.input ≡ Some id
    → IsDistinct is_id (names_in inputs)
    → list_any (carries id) (said_after life) ≡ false

-- ---- how often a client sends its request

-- A life of a client of an INVITE sends it at most 7 times: timer A fires at most 6 times before
-- timer B does. A life of another client sends its request at most 11 times: timer E fires at most
-- 10 times before timer F does (RFC 3261, sections 17.1.1.2 and 17.1.2.2).
abbrev pub most_repeats : Role → ℕ
most_repeats InviteClient = 6
most_repeats Client = 10
most_repeats InviteServer = 0
most_repeats Server = 0

-- these bytes are sent
abbrev pub is_send_of : List ℕ → Out → Bool
is_send_of bytes (out.Up up) = false
is_send_of bytes (out.Send key to sent) = bytes_eq sent bytes
is_send_of bytes (out.Dropped place reason) = false

-- how often these bytes are sent
abbrev pub sends_of : List ℕ → List Out → ℕ
sends_of bytes outs = count_by (is_send_of bytes) outs

-- A life that begins with a start sends its request at most so often. For a client of an INVITE
-- this is said only if it was given an INVITE: the ACKs that it makes might have the bytes of
-- another message.
abbrev pub FewSends : Machine Key Life (Timed Input) Out → Type 0
FewSends machine = (branch method : List ℕ) (inputs : List (Timed Input))
    (life : LifeIn machine (key.Client branch method) inputs)
    (now : ℕ) (id : Id) (call_id : List ℕ) (request : Message) (to : Addr)
    → life.first ≡ given_at now (Start id call_id request to)
    → (method ≡ codes "INVITE"
    → (is_request_message request ≡ true) × (request.cseq.method ≡ method))
    → sends_of (written request) (said_at_first life ++ said_in_rest life)
    ≤ 1 + most_repeats (role_of (key.Client branch method))
