-- Transactions without a final response, and the requests that calls hold without one.
use Rattle.std.specs.Prelude.{◌≡◌, Bool, true, false, List, Option, None, Some, find}
use Rattle.sip_message.specs.Key.{client_key, key_cmp}
use Rattle.sip_message.specs.TopVia.{top_branch}
use Rattle.sip_message.specs.declared.id.Id.{Id}
use Rattle.sip_message.specs.declared.key.Key.{Key}
use Rattle.keyed_machine.specs.Machine.{tick_at}
use Rattle.keyed_machine.specs.Phase.{states_after}
use Rattle.sip_transactions.specs.declared.life.Life.{Life}
use Rattle.sip_transactions.specs.declared.state.Role.{Role}
use Rattle.sip_transactions.specs.declared.state.Role.TheVariants.{InviteClient, Client, InviteServer, Server}
use Rattle.sip_transactions.specs.declared.state.State.{State}
use Rattle.sip_transactions.specs.declared.state.State.TheVariants.{Calling, Trying, Proceeding}
use Rattle.sip_transactions.specs.Machine.{transaction_machine}
use Rattle.sip_transactions.specs.Steps.Input.{role_of}
use Rattle.sip_served.specs.declared.held_request.HeldRequest.{HeldRequest}
use Rattle.sip_served.specs.State.{has_id}
use Rattle.sip_clients.specs.declared.client.Client.{Client as ClientRequest}
use Rattle.sip_clients.specs.Client.{client_at}
use Rattle.sip_clients.specs.Rules.Requests.{is_invite_kind}
use Rattle.sip_calls.specs.declared.call.Call.{Call}
use Rattle.sip_calls.specs.HeldRequests.{requests_held}
use Rattle.sip_calls.specs.Provisionals.{side_held}
use Rattle.sip_round.specs.declared.config.Config.{Config}
use Rattle.sip_round.specs.declared.round.Round.{Round}
use Rattle.sip_round.specs.Answers.{past_of}
use Rattle.sip_round.specs.CallsHeld.{call_after}

-- a transaction of this role and state has no final response yet (RFC 3261, sections 17.1 and 17.2)
abbrev pub is_open : Role → State → Bool
is_open InviteClient Calling = true
is_open InviteClient Proceeding = true
is_open Client Trying = true
is_open Client Proceeding = true
is_open InviteServer Proceeding = true
is_open Server Trying = true
is_open Server Proceeding = true
is_open role state = false

-- what an agent holds of a transaction after these rounds
abbrev pub life_after : Config → List Round → Key → Option Life
life_after config rounds key =
    states_after key_cmp transaction_machine tick_at (past_of config rounds).transactions key

-- a call holds the request of the peer that has this id and this transaction, without a final
-- response
pub record HoldsOfPeer (call : Option Call) (key : Key) (id : Id) : Type 0 where
  pub held : HeldRequest
  pub found : find (has_id id) (requests_held call) ≡ Some held
  pub key_is : held.key ≡ key
  pub unanswered : held.removal ≡ None

-- a call holds the INVITE that was sent under this id, by this transaction, without a final
-- response
pub record HoldsInvite (call : Option Call) (key : Key) (id : Id) : Type 0 where
  pub client : ClientRequest
  pub found : client_at id (side_held call).clients ≡ Some client
  pub key_is : client_key (top_branch client.request) client.request.cseq.method ≡ key
  pub invites : is_invite_kind client.kind ≡ true
  pub unanswered : client.removal ≡ None

-- the same, by the role of the transaction; nothing is said of a client that isn't of an INVITE,
-- which a timer ends
abbrev pub HoldsOpen : Role → Option Call → Key → Id → Type 0
HoldsOpen InviteClient call key id = HoldsInvite call key id
HoldsOpen Client call key id = Unit {0}
HoldsOpen InviteServer call key id = HoldsOfPeer call key id
HoldsOpen Server call key id = HoldsOfPeer call key id

-- After any rounds: the request of a server transaction, or of the client of an INVITE, without a
-- final response is held by the call of its Call-ID, under its id, without a final response.
abbrev pub EachOpenIsHeld : Type 0
EachOpenIsHeld = (config : Config) (rounds : List Round) (key : Key) (life : Life)
    → life_after config rounds key ≡ Some life → is_open (role_of key) life.state ≡ true
    → HoldsOpen (role_of key) (call_after config rounds life.context.call_id) key life.context.id
