-- An input of a call changes the requests of the peer as it changes the server side, and the client
-- side as its step does.
use Rattle.std.proofs.Common.{◌≡◌, ℕ, [], refl, sym, ap, ◌∙◌}
use Rattle.std.specs.Prelude.{Option, None, Some}
use Rattle.sip_message.specs.declared.id.Id.{Id}
use Rattle.sip_message.specs.declared.addr.Addr.{Addr}
use Rattle.sip_transactions.specs.declared.output.UpKind.{UpKind}
use Rattle.sip_transactions.specs.declared.output.UpKind.TheVariants as kind
use Rattle.sip_transactions.specs.declared.output.Up.{Up as AnUp}
use Rattle.sip_user.specs.declared.command.UserCommand.{UserCommand}
use Rattle.sip_user.specs.declared.command.UserCommand.TheVariants.{Invite}
use Rattle.sip_user.specs.declared.item.Item.TheVariants.{Up, User}
use Rattle.sip_served.specs.Run.{event_taken}
use Rattle.sip_served.specs.State.{empty_at}
use Rattle.sip_served.specs.Step.{kind_taken, server_command_taken}
use Rattle.sip_clients.specs.declared.event.Event.{Event}
use Rattle.sip_calls.specs.declared.call.Call.{Call}
use Rattle.sip_calls.specs.declared.calls.Calls.{Calls}
use Rattle.sip_calls.specs.Call.{Taken, CallItem, call_step, event_of, made_tag, new_call}
use Rattle.sip_calls.specs.HeldRequests.{requests_held}
use Rattle.sip_calls.specs.RequestHistories.{served_event, served_state}
use Rattle.sip_calls.specs.Steps.Call.{command_taken, first_command_taken, step_taken, ticked, up_taken}
use Rattle.sip_calls.proofs.HeldRequests.{first_command, kept_requests, requests_of}
use Rattle.sip_calls.proofs.SameSteps.{same_step}

up_served : (call : Call) (event : Event) (up : AnUp) (k : UpKind)
    → requests_of (up_taken call event up k).0
    ≡ ((kind_taken call.served (made_tag event) up k event.moment).0).requests
up_served call event up (kind.Request request reply_to) = refl
up_served call event up _ = refl

command_served : (call : Call) (calls : Calls) (id : Id) (now : ℕ) (command : UserCommand)
    → requests_of (command_taken call (event_of calls id now) command).0
    ≡ ((server_command_taken call.served id command now).0).requests
command_served call calls id now (Invite invite) = refl
command_served call calls id now _ = refl

none_answered : (local : Addr) (id : Id) (command : UserCommand) (now : ℕ)
    → [] ≡ ((server_command_taken (empty_at local) id command now).0).requests
none_answered local id (Invite invite) now = refl
none_answered local id _ now = refl

served_taken_so : (calls : Calls) (state : Option Call) (input : Option CallItem) (now : ℕ)
    → requests_held (step_taken calls state input now).0
    ≡ ((event_taken (served_state calls state) (served_event calls input now)).0).requests
served_taken_so calls None None now = refl
served_taken_so calls (Some call) None now = kept_requests (ticked call now).0
served_taken_so calls None (Some (id, Up up)) now =
    let call = new_call calls.local in
    let event = event_of calls id now in
    kept_requests (up_taken call event up up.kind).0 ∙ up_served call event up up.kind
served_taken_so calls None (Some (id, User command)) now =
    kept_requests (first_command_taken (new_call calls.local) (event_of calls id now) command).0
    ∙ sym (first_command calls id now command) ∙ none_answered calls.local id command now
served_taken_so calls (Some call) (Some (id, Up up)) now =
    let event = event_of calls id now in
    kept_requests (up_taken call event up up.kind).0 ∙ up_served call event up up.kind
served_taken_so calls (Some call) (Some (id, User command)) now =
    kept_requests (command_taken call (event_of calls id now) command).0
    ∙ command_served call calls id now command

-- what is held of the peer's requests after an input
pub served_so : (calls : Calls) (state : Option Call) (input : Option CallItem) (now : ℕ)
    → requests_held (call_step calls state input now).0
    ≡ ((event_taken (served_state calls state) (served_event calls input now)).0).requests
served_so calls state input now =
    ap (λ (taken : Taken). requests_held taken.0) (same_step calls state input now)
    ∙ served_taken_so calls state input now

pub held_served : (calls : Calls) (state : Option Call)
    → (served_state calls state).requests ≡ requests_held state
held_served calls None = refl
held_served calls (Some call) = refl
