-- A CANCEL does to its INVITE what a 487 of the user does.
use Rattle.std.proofs.Common.{◌≡◌, ℕ, Bool, true, [], ◌∷◌, ◌++◌, sym, ap, ◌∙◌}
use Rattle.std.specs.Prelude.{Option, Some, find, if◌then◌else◌}
use Rattle.sip_message.specs.declared.addr.Addr.{Addr}
use Rattle.sip_message.specs.declared.id.Id.{Id}
use Rattle.sip_message.specs.declared.message.Message.{Message}
use Rattle.sip_transactions.specs.declared.output.Up.{Up as AnUp}
use Rattle.sip_transactions.specs.declared.output.UpKind.{UpKind}
use Rattle.sip_transactions.specs.declared.output.UpKind.TheVariants as kind
use Rattle.sip_user.specs.declared.command.UserCommand.TheVariants.{Respond}
use Rattle.sip_user.specs.declared.item.Item.TheVariants.{Up, User}
use Rattle.sip_held_dialogs.specs.Requests.{is_cancel}
use Rattle.sip_served.specs.declared.held_request.HeldRequest.{HeldRequest}
use Rattle.sip_served.specs.Arrival.{arrival_of, request_taken}
use Rattle.sip_served.specs.Cancel.{by_cancelled, cancel_accepted, cancel_taken, cancelled_request, invite_terminated, is_unanswered_invite, request_terminated, termination_told, user_termination}
use Rattle.sip_served.specs.State.{ServedTaken, followed, has_id}
use Rattle.sip_served.proofs.Terminations.{user_terminates}
use Rattle.sip_calls.specs.declared.call.Call.{Call}
use Rattle.sip_calls.specs.declared.calls.Calls.{Calls}
use Rattle.sip_calls.specs.Call.{Taken, call_step, event_of, kept, made_tag}
use Rattle.sip_calls.specs.Sides.{by_server}
use Rattle.sip_calls.specs.Steps.Call.{up_taken}
use Rattle.sip_calls.proofs.SameSteps.{same_step}
use Rattle.sip_agent_laws.specs.Calls.Arrived.{CancelAnsweredBy487, terminated}

module _ (calls : Calls) (call : Call) (up : AnUp) (now : ℕ) (invite : HeldRequest) where
  abbrev served_by : ServedTaken → Taken
  served_by taken = kept (by_server call taken)

  abbrev ended : ServedTaken
  ended = invite_terminated (request_terminated invite) invite.id now call.served

  as_cancel : (event : Id) (request : Message) (reply_to : Addr)
      → up.kind ≡ kind.Request request reply_to → is_cancel request ≡ true
      → cancelled_request up.key (call.served).requests ≡ Some invite
      → is_unanswered_invite invite ≡ true
      → call_step calls (Some call) (Some (event, Up up)) now
      ≡ served_by (
        ended.0,
        termination_told up.call_id
            (arrival_of up request reply_to (made_tag (event_of calls event now))) invite
            (request_terminated invite) ++ ended.1,
      )
  as_cancel event request reply_to is cancel found opens =
      let ev = event_of calls event now in
      let arrival = arrival_of up request reply_to (made_tag ev) in
      let state = call.served in
      same_step calls (Some call) (Some (event, Up up)) now
      ∙ ap (λ (k : UpKind). kept (up_taken call ev up k)) is
      ∙ ap (λ (b : Bool). served_by (if b then cancel_taken state up.call_id arrival now
      else request_taken state up.call_id arrival)) cancel
      ∙ ap (λ (o : Option HeldRequest). served_by (by_cancelled state up.call_id arrival now o))
      found
      ∙ ap (λ (b : Bool). served_by (if b
      then followed (state, termination_told up.call_id arrival invite (request_terminated invite))
      (invite_terminated (request_terminated invite) invite.id now)
      else (state, cancel_accepted arrival invite ∷ []))) opens

  as_user : (command : Id) → find (has_id invite.id) (call.served).requests ≡ Some invite
      → is_unanswered_invite invite ≡ true
      → call_step calls (Some call)
      (Some (command, User (Respond (user_termination up.call_id invite.id)))) now
      ≡ served_by (ended.0, terminated invite ∷ ended.1)
  as_user command first opens =
      same_step calls (Some call)
      (Some (command, User (Respond (user_termination up.call_id invite.id)))) now
      ∙ ap served_by (user_terminates call.served command up.call_id now invite first opens)

pub cancel_answered : CancelAnsweredBy487
cancel_answered calls call event command up request reply_to now invite is cancel found first
    opens =
    let by_cancel =
    as_cancel calls call up now invite event request reply_to is cancel found opens in
    let by_user = as_user calls call up now invite command first opens in
    record {
      ends = (ended calls call up now invite).1;
      cancel = ap (λ (taken : Taken). taken.1) by_cancel;
      user = ap (λ (taken : Taken). taken.1) by_user;
      held = ap (λ (taken : Taken). taken.0) by_cancel
          ∙ sym (ap (λ (taken : Taken). taken.0) by_user);
    }
