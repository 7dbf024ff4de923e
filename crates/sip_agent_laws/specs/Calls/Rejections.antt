-- The user may always reject a request of the peer that has no final response (RFC 3261, sections
-- 8.2.6 and 13.3.1.3).
use Rattle.std.specs.Prelude.{◌≡◌, ◌≤◌, ℕ, ◌+◌, ◌*◌, [], ◌∷◌, None, Some, find, if◌then◌else◌}
use Rattle.std.specs.Option.{option_map}
use Rattle.sip_message.specs.declared.id.Id.{Id}
use Rattle.sip_message.specs.declared.message.Message.{Message}
use Rattle.sip_message.specs.Content.{with_content_of}
use Rattle.sip_message.specs.Response.{response_of}
use Rattle.sip_timers.specs.declared.estimate.TheConstants.{T1}
use Rattle.sip_transactions.specs.declared.input.Command.TheVariants.{Answer}
use Rattle.sip_user.specs.declared.command.Reliability.TheVariants.{Plain}
use Rattle.sip_user.specs.declared.command.Respond.{Respond}
use Rattle.sip_user.specs.declared.command.UserCommand.TheVariants as command
use Rattle.sip_user.specs.declared.item.CallOut.TheVariants.{Command}
use Rattle.sip_user.specs.declared.item.Item.TheVariants.{User}
use Rattle.sip_held_dialogs.specs.Dialogs.{early_ended}
use Rattle.sip_held_dialogs.specs.Requests.{is_invite}
use Rattle.sip_served.specs.declared.held_request.HeldRequest.{HeldRequest}
use Rattle.sip_served.specs.State.{has_id}
use Rattle.sip_calls.specs.declared.call.Call.{Call}
use Rattle.sip_calls.specs.declared.calls.Calls.{Calls}
use Rattle.sip_calls.specs.Call.{Taken, call_step}
use Rattle.sip_calls.specs.HeldRequests.{requests_held}

-- a plain response of 300 to 699
pub record IsRejection (respond : Respond) : Type 0 where
  pub from : 300 ≤ respond.status
  pub to : respond.status ≤ 699
  pub plain : respond.reliability ≡ Plain

-- the response to the request, with the user's status, reason, headers and body
abbrev pub rejection : HeldRequest → Respond → Message
rejection held respond =
    with_content_of (response_of held.request respond.status respond.reason held.tag)
    respond.content

-- It goes out, the early dialogs of an INVITE end, and 64*T1 later the request is removed.
pub record IsRejected (call : Call) (held : HeldRequest) (respond : Respond) (now : ℕ)
    (taken : Taken) : Type 0 where
  pub sent : taken.1 ≡ Command held.id (Answer held.key (rejection held respond))
      ∷ (if is_invite held.request then (early_ended held.id (call.served).dialogs).1 else [])
  pub final : option_map (λ after. after.removal)
      (find (has_id respond.id) (requests_held taken.0)) ≡ Some (Some (now + 64 * T1))

-- Whatever is held: a rejection of a held request without a final response isn't refused.
abbrev pub RejectionsAreAccepted : Type 0
RejectionsAreAccepted = (calls : Calls) (call : Call) (event : Id) (respond : Respond) (now : ℕ)
    (held : HeldRequest) → find (has_id respond.id) (call.served).requests ≡ Some held
    → held.removal ≡ None → IsRejection respond
    → IsRejected call held respond now
    (call_step calls (Some call) (Some (event, User (command.Respond respond))) now)
