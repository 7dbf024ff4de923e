-- What a call does with the outcome of a request of the agent, and when a CANCEL goes out (RFC
-- 3261, sections 8.1.3.1, 9.1 and 17.1).
use Rattle.std.specs.Prelude.{◌≡◌, ℕ, Bool, true, false, not, ◌&&◌, ◌==◌, List, [], ◌∷◌, ◌++◌, None, Some, if◌then◌else◌}
use Rattle.std.specs.List.{list_any}
use Rattle.std.specs.Option.{option_map, option_map_or}
use Rattle.keyed_machine.specs.Machine.{Timed}
use Rattle.sip_message.specs.declared.id.Id.{Id}
use Rattle.sip_message.specs.declared.message.Message.{Message}
use Rattle.sip_message.specs.HopByHop.{cancel_of}
use Rattle.sip_message.specs.Key.{client_key}
use Rattle.sip_message.specs.TopVia.{top_branch}
use Rattle.sip_transactions.specs.declared.input.Command.TheVariants.{Start}
use Rattle.sip_transactions.specs.declared.output.Up.{Up as AnUp}
use Rattle.sip_transactions.specs.declared.output.UpKind.{UpKind}
use Rattle.sip_transactions.specs.declared.output.UpKind.TheVariants as kind
use Rattle.sip_user.specs.declared.command.Cancel.{Cancel as ACancel}
use Rattle.sip_user.specs.declared.command.UserCommand.TheVariants.{Cancel}
use Rattle.sip_user.specs.declared.item.CallOut.{CallOut}
use Rattle.sip_user.specs.declared.item.CallOut.TheVariants.{Command, Notice}
use Rattle.sip_user.specs.declared.item.Item.TheVariants.{Up, User}
use Rattle.sip_user.specs.declared.notice.Notice.TheVariants.{Failed, Response, Timeout}
use Rattle.sip_held_dialogs.specs.Ids.{is_id}
use Rattle.sip_held_dialogs.specs.Requests.{is_final, is_success}
use Rattle.sip_clients.specs.declared.client.Cancelling.TheVariants.{Waits}
use Rattle.sip_clients.specs.declared.client.Client.{Client}
use Rattle.sip_clients.specs.Client.{client_at}
use Rattle.sip_clients.specs.Rules.Requests.{is_asked, is_invite_kind}
use Rattle.sip_clients.specs.Rules.Responses.{status_of}
use Rattle.sip_calls.specs.declared.call.Call.{Call}
use Rattle.sip_calls.specs.declared.calls.Calls.{Calls}
use Rattle.sip_calls.specs.Call.{CallItem, Taken, call_step}
use Rattle.sip_calls.specs.Histories.{call_from}
use Rattle.sip_calls.specs.Provisionals.{side_held}
use Rattle.sip_agent_laws.specs.Calls.Waiting.{lacks_response}

-- ---- the outcome

-- A transaction reports the outcome of a request: it timed out, it couldn't send, or a final
-- response came that is no 2xx to an INVITE.
abbrev pub is_outcome : Client → UpKind → Bool
is_outcome client (kind.Request request reply_to) = false
is_outcome client (kind.Ack ack) = false
is_outcome client (kind.Response response) =
    option_map_or (λ status. is_final status && not (is_invite_kind client.kind
    && is_success status)) (status_of response.start) false
is_outcome client kind.Timeout = true
is_outcome client kind.Failed = true

-- the user is told of it by the notice of its kind, of a response with its status
abbrev pub tells_outcome : Id → UpKind → CallOut → Bool
tells_outcome id (kind.Response response) (Notice (Response call_id request status local_tag
    remote_tag body)) =
    is_id id request && option_map_or (λ came. came == status) (status_of response.start) false
tells_outcome id kind.Timeout (Notice (Timeout call_id request)) = is_id id request
tells_outcome id kind.Failed (Notice (Failed call_id request)) = is_id id request
tells_outcome id _ _ = false

-- the user is told of what came up, and the request is no longer held
pub record IsClosed (id : Id) (came : UpKind) (taken : Taken) : Type 0 where
  pub told : list_any (tells_outcome id came) taken.1 ≡ true
  pub gone : client_at id (side_held taken.0).clients ≡ None

-- whatever came to a call: the outcome of a request that is held closes it at once
abbrev pub OutcomeCloses : Type 0
OutcomeCloses = (calls : Calls) (inputs : List (Timed CallItem)) (event : Id) (up : AnUp) (now : ℕ)
    (client : Client) → let call = call_from calls None inputs in
    client_at up.id (side_held call).clients ≡ Some client → is_outcome client up.kind ≡ true
    → IsClosed up.id up.kind (call_step calls call (Some (event, Up up)) now)

-- ---- a CANCEL

-- the transaction of the CANCEL of an INVITE starts, under the id of the event that asked for it
abbrev pub cancel_out : Id → Client → CallOut
cancel_out asked_by invite =
    let cancel = cancel_of invite.request in
    Command asked_by (Start (client_key (top_branch cancel) cancel.cseq.method) cancel.call_id
    cancel invite.to)

-- Whatever is held: if the user cancels an INVITE without a final response for the first time, and
-- a provisional response came, the CANCEL goes out at once. Otherwise nothing is given.
abbrev pub CancelGoesOut : Type 0
CancelGoesOut = (calls : Calls) (call : Call) (event : Id) (command : ACancel) (now : ℕ)
    (invite : Client) → client_at command.id call.clients ≡ Some invite
    → lacks_response invite ≡ true
    → (call_step calls (Some call) (Some (event, User (Cancel command))) now).1
    ≡ (if invite.provisional && not (is_asked invite.cancel) then cancel_out event invite ∷ []
    else [])

-- if no provisional response came, the CANCEL waits then, under the id of the event
abbrev pub CancelWaits : Type 0
CancelWaits = (calls : Calls) (call : Call) (event : Id) (command : ACancel) (now : ℕ)
    (invite : Client) → client_at command.id call.clients ≡ Some invite
    → lacks_response invite ≡ true → invite.provisional ≡ false
    → is_asked invite.cancel ≡ false
    → option_map (λ client. client.cancel) (client_at command.id (side_held
    (call_step calls (Some call) (Some (event, User (Cancel command))) now).0).clients)
    ≡ Some (Waits event)

-- a CANCEL that waits goes out last by the first provisional response
abbrev pub WaitingGoesOut : Type 0
WaitingGoesOut = (calls : Calls) (call : Call) (event : Id) (up : AnUp) (response : Message)
    (status now : ℕ) (invite : Client) (asked_by : Id)
    → up.kind ≡ kind.Response response → status_of response.start ≡ Some status
    → is_final status ≡ false → client_at up.id call.clients ≡ Some invite
    → invite.cancel ≡ Waits asked_by
    → (others : List CallOut) × ((call_step calls (Some call) (Some (event, Up up)) now).1
    ≡ others ++ cancel_out asked_by invite ∷ [])
