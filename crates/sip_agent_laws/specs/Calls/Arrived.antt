-- What a call does with a request of the peer that comes up: the user is told, or the agent gives
-- the final response itself (RFC 3261, sections 8.2, 9.2 and 12.2.2; RFC 3262, section 3).
use Rattle.std.specs.Prelude.{◌≡◌, ◌⊎◌, ℕ, Bool, true, false, ◌&&◌, ◌||◌, ◌==◌, List, [], ◌∷◌, Option, Some, codes, find}
use Rattle.std.specs.List.{list_any}
use Rattle.sip_message.specs.declared.addr.Addr.{Addr}
use Rattle.sip_message.specs.declared.id.Id.{Id}
use Rattle.sip_message.specs.declared.message.Message.{Message}
use Rattle.sip_message.specs.declared.start_line.StartLine.TheVariants.{Response}
use Rattle.sip_message.specs.Party.{tag_of}
use Rattle.sip_message.specs.Response.{response_of}
use Rattle.sip_transactions.specs.declared.input.Command.TheVariants.{Answer}
use Rattle.sip_transactions.specs.declared.output.Up.{Up as AnUp}
use Rattle.sip_transactions.specs.declared.output.UpKind.TheVariants as kind
use Rattle.sip_user.specs.declared.command.UserCommand.TheVariants.{Respond}
use Rattle.sip_user.specs.declared.item.CallOut.{CallOut}
use Rattle.sip_user.specs.declared.item.CallOut.TheVariants.{Command, Notice}
use Rattle.sip_user.specs.declared.item.Item.TheVariants.{Up, User}
use Rattle.sip_user.specs.declared.notice.Notice.TheVariants.{Ack, Cancel, Request}
use Rattle.sip_held_dialogs.specs.Requests.{is_cancel, is_prack}
use Rattle.sip_served.specs.declared.held_request.HeldRequest.{HeldRequest}
use Rattle.sip_served.specs.Rules.Arrivals.{awaits}
use Rattle.sip_served.specs.Cancel.{cancelled_request, is_unanswered_invite, user_termination}
use Rattle.sip_served.specs.State.{has_id}
use Rattle.sip_calls.specs.declared.call.Call.{Call}
use Rattle.sip_calls.specs.declared.calls.Calls.{Calls}
use Rattle.sip_calls.specs.Call.{Taken, call_step}
use Rattle.sip_calls.specs.HeldRequests.{requests_held}
use Rattle.sip_agent_laws.specs.Calls.Commanded.{goes_out}
use Rattle.sip_agent_laws.specs.Calls.Waiting.{lacks_final}

-- the user is told of a request
abbrev pub tells_request : CallOut → Bool
tells_request (Notice (Request call_id id method local_tag remote_tag body)) = true
tells_request _ = false

-- First the user is told of the request, which is held without a final response. Nothing goes out.
pub record IsTold (up : AnUp) (request : Message) (taken : Taken) : Type 0 where
  pub local_tag : List ℕ
  pub others : List CallOut
  pub told : taken.1 ≡ Notice (Request up.call_id up.id request.cseq.method local_tag
      (tag_of request.from) request.body) ∷ others
  pub once : list_any tells_request others ≡ false
  pub silent : goes_out others ≡ []
  pub held : list_any (λ held. has_id up.id held && lacks_final held) (requests_held taken.0) ≡ true

-- The agent responds by itself to a request that it can't accept. A CANCEL or a PRACK that fits
-- what is held gets a 200.
abbrev pub is_own_status : Message → ℕ → Bool
is_own_status request status =
    (status == 420) || (status == 481) || (status == 482) || (status == 500)
    || ((status == 200) && (is_cancel request || is_prack request))

-- First a response of this kind goes to the transaction of the request. Only a CANCEL makes another
-- one go out, the 487 to its INVITE. The user isn't told of the request itself.
pub record IsAnswered (up : AnUp) (request : Message) (taken : Taken) : Type 0 where
  pub status : ℕ
  pub reason : List ℕ
  pub response : Message
  pub others : List CallOut
  pub sent : taken.1 ≡ Command up.id (Answer up.key response) ∷ others
  pub starts : response.start ≡ Response status reason
  pub own : is_own_status request status ≡ true
  pub untold : list_any tells_request others ≡ false
  pub alone : is_cancel request ≡ false → goes_out others ≡ []

-- Whatever is held: the user is told of each request that comes up, or it gets its final response.
abbrev pub ToldOrAnswered : Type 0
ToldOrAnswered = (calls : Calls) (state : Option Call) (event : Id) (up : AnUp)
    (request : Message) (reply_to : Addr) (now : ℕ) → up.kind ≡ kind.Request request reply_to
    → let taken = call_step calls state (Some (event, Up up)) now in
    IsTold up request taken ⊎ IsAnswered up request taken

-- a CANCEL and a PRACK always get it
abbrev pub OwnAnswered : Type 0
OwnAnswered = (calls : Calls) (state : Option Call) (event : Id) (up : AnUp)
    (request : Message) (reply_to : Addr) (now : ℕ) → up.kind ≡ kind.Request request reply_to
    → (is_cancel request || is_prack request) ≡ true
    → IsAnswered up request (call_step calls state (Some (event, Up up)) now)

-- whatever is held: the user is told of an ACK of an INVITE whose 2xx waits for it, and of no more
abbrev pub AckIsTold : Type 0
AckIsTold = (calls : Calls) (call : Call) (event : Id) (up : AnUp) (ack : Message) (now : ℕ)
    (invite : HeldRequest) → up.kind ≡ kind.Ack ack
    → find (awaits ack) (call.served).requests ≡ Some invite
    → (call_step calls (Some call) (Some (event, Up up)) now).1
    ≡ Notice (Ack up.call_id invite.id ack.body) ∷ []

-- ---- a CANCEL of an INVITE without a final response

-- the 487 goes out
abbrev pub terminated : HeldRequest → CallOut
terminated invite =
    let response = response_of invite.request 487 (codes "Request Terminated") invite.tag in
    Command invite.id (Answer invite.key response)

-- The CANCEL gets a 200. Then the INVITE gets its 487, the user is told of the CANCEL, and of the
-- ends of early dialogs. After the user's 487 to the INVITE the same is held; the 487 goes out, and
-- the same ends are told.
pub record IsAnsweredBy487 (up : AnUp) (request : Message) (invite : HeldRequest)
    (by_cancel by_user : Taken) : Type 0 where
  pub ends : List CallOut
  pub cancel : by_cancel.1 ≡ Command up.id (Answer up.key
      (response_of request 200 (codes "OK") invite.tag))
      ∷ terminated invite ∷ Notice (Cancel up.call_id invite.id) ∷ ends
  pub user : by_user.1 ≡ terminated invite ∷ ends
  pub held : by_cancel.0 ≡ by_user.0

-- Whatever is held: a CANCEL does to its INVITE what the user's 487 does (RFC 3261, section 9.2).
abbrev pub CancelAnsweredBy487 : Type 0
CancelAnsweredBy487 = (calls : Calls) (call : Call) (event command : Id) (up : AnUp)
    (request : Message) (reply_to : Addr) (now : ℕ) (invite : HeldRequest)
    → up.kind ≡ kind.Request request reply_to → is_cancel request ≡ true
    → cancelled_request up.key (call.served).requests ≡ Some invite
    → find (has_id invite.id) (call.served).requests ≡ Some invite
    → is_unanswered_invite invite ≡ true
    → IsAnsweredBy487 up request invite
    (call_step calls (Some call) (Some (event, Up up)) now)
    (call_step calls (Some call)
    (Some (command, User (Respond (user_termination up.call_id invite.id)))) now)
