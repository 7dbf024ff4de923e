-- When the user is told of a response, and what the server side of a call gives.
use Rattle.std.specs.Prelude.{◌≡◌, ◌⊎◌, ℕ, Bool, true, false, ◌&&◌, List, [], ◌∷◌, Option, None, Some, filter, is_some, if◌then◌else◌}
use Rattle.std.specs.List.{AllByRecursion, list_any}
use Rattle.sip_message.specs.declared.id.Id.{Id}
use Rattle.sip_message.specs.declared.message.Message.{Message}
use Rattle.sip_message.specs.Party.{tag_of}
use Rattle.sip_transactions.specs.declared.output.Up.{Up as AnUp}
use Rattle.sip_transactions.specs.declared.output.UpKind.{UpKind}
use Rattle.sip_transactions.specs.declared.output.UpKind.TheVariants as kind
use Rattle.sip_user.specs.declared.item.CallOut.{CallOut}
use Rattle.sip_user.specs.declared.item.CallOut.TheVariants.{Command, Direct, Notice}
use Rattle.sip_user.specs.declared.item.Item.{Item}
use Rattle.sip_user.specs.declared.item.Item.TheVariants.{Up, User}
use Rattle.sip_user.specs.declared.notice.Notice.TheVariants.{Response}
use Rattle.sip_held_dialogs.specs.Ids.{is_id}
use Rattle.sip_held_dialogs.specs.Requests.{is_final, requires_100rel}
use Rattle.sip_served.specs.Rules.Arrivals.{server_item}
use Rattle.sip_served.specs.Rules.Ticks.{server_tick}
use Rattle.sip_served.specs.State.{State}
use Rattle.sip_clients.specs.Client.{client_at}
use Rattle.sip_clients.specs.Provisionals.{is_response as is_told}
use Rattle.sip_clients.specs.Rules.Responses.{status_of}
use Rattle.sip_clients.specs.declared.client.Client.{Client}
use Rattle.sip_calls.specs.declared.call.Call.{Call}
use Rattle.sip_calls.specs.declared.calls.Calls.{Calls}
use Rattle.sip_calls.specs.Call.{CallItem, call_step}
use Rattle.sip_agent_laws.specs.Calls.Commanded.{answers}

-- ---- responses

-- the user is told of a response to the request of this id
abbrev pub tells_response : Id → CallOut → Bool
tells_response id (Notice (Response call_id request status local_tag remote_tag body)) =
    is_id id request
tells_response id _ = false

abbrev pub is_response : UpKind → Bool
is_response (kind.Response response) = true
is_response _ = false

-- a response to this request comes up
abbrev pub brings_response : Id → Option CallItem → Bool
brings_response id None = false
brings_response id (Some (event, Up up)) = if is_response up.kind then is_id id up.id else false
brings_response id (Some (event, User command)) = false

-- Whatever is held: the user is told of a response only by the input that brings one to the same
-- request, and by no tick, command or other message.
abbrev pub ToldAsTheyCome : Type 0
ToldAsTheyCome = (calls : Calls) (state : Option Call) (input : Option CallItem) (now : ℕ) (id : Id)
    → list_any (tells_response id) (call_step calls state input now).1 ≡ true
    → brings_response id input ≡ true

-- The input brings a response, and the user is told of it, once: of its request, and of its status,
-- tags and body.
pub record IsAsItCame (input : Option CallItem) (told : List CallOut) : Type 0 where
  pub event : Id
  pub up : AnUp
  pub response : Message
  pub status : ℕ
  pub came : input ≡ Some (event, Up up)
  pub brought : up.kind ≡ kind.Response response
  pub has_status : status_of response.start ≡ Some status
  pub is : told ≡ Notice (Response up.call_id up.id status (tag_of response.from)
      (tag_of response.to) response.body) ∷ []

-- Whatever is held: the user is told of no response, or once of the one that the input brings.
abbrev pub ToldOnce : Type 0
ToldOnce = (calls : Calls) (state : Option Call) (input : Option CallItem) (now : ℕ)
    → let told = filter is_told (call_step calls state input now).1 in
    (told ≡ []) ⊎ IsAsItCame input told

-- a reliable provisional response: of these those are told that come in order (RFC 3262, section 4)
abbrev pub is_reliable : Message → Bool
is_reliable response = requires_100rel response && is_some response.rseq

-- Whatever is held: the input that brings another provisional response to a request that is held
-- tells the user of it, before all else.
abbrev pub ProvisionalsAreTold : Type 0
ProvisionalsAreTold = (calls : Calls) (call : Call) (event : Id) (up : AnUp) (response : Message)
    (status now : ℕ) (client : Client) → up.kind ≡ kind.Response response
    → status_of response.start ≡ Some status → is_final status ≡ false
    → is_reliable response ≡ false → client_at up.id call.clients ≡ Some client
    → (others : List CallOut) × ((call_step calls (Some call) (Some (event, Up up)) now).1
    ≡ Notice (Response up.call_id up.id status (tag_of response.from) (tag_of response.to)
    response.body) ∷ others)

-- ---- the server side

-- a notice, or a response to a request of the peer: no transaction starts, and no ACK goes out
abbrev pub only_answers : CallOut → Bool
only_answers (Notice notice) = true
only_answers (Command id order) = answers order
only_answers (Direct to bytes) = false

-- whatever is held, so is all that the server side gives after an item
abbrev pub ItemsOnlyAnswer : Type 0
ItemsOnlyAnswer = (state : State) (tag : List ℕ) (id : Id) (item : Item) (now : ℕ)
    → AllByRecursion (λ out. only_answers out ≡ true) (server_item state tag id item now).1

-- and after a tick
abbrev pub TicksOnlyAnswer : Type 0
TicksOnlyAnswer = (state : State) (now : ℕ)
    → AllByRecursion (λ out. only_answers out ≡ true) (server_tick state now).1
